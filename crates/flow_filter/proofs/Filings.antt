-- Filters that are filed under their ports.
use Rattle.std.proofs.Common.{◌≡◌, ⊎_elim, ℕ, ◌+◌, ◌-◌, ◌<◌, ◌≤◌, false, List, [], ◌∷◌, ◌++◌, length, get_or, Option, Some, None, refl, arith, subst, ap, IsPermutation}
use Rattle.std.specs.Prelude.{Contains, option_and_then, slice_get}
use Rattle.std.specs.List.Sorted.{IsNonDecreasingBy, IsSortedByKey, IsStableByKey}
use Rattle.std.specs.Ordering.{is_lt, nat_cmp}
use Rattle.std.proofs.lemmas.Bool.Decides.{nat_tests}
use Rattle.std.proofs.lemmas.Bool.{cases_lt}
use Rattle.std.proofs.lemmas.List.Elements.{All-nil, All-push, All-weaker, All-get_or, Contains-append_left, Contains-push}
use Rattle.std.proofs.lemmas.List.Kept.{IsSortedBy-push}
use Rattle.std.proofs.lemmas.List.Sorted.{Contains-permutation, IsNonDecreasingBy-from_sort, ties_still_rise}
use Rattle.std.proofs.lemmas.Option.{slice_get_past}
use Rattle.conf_tree.specs.declared.filter.Filter.{Filter}
use Rattle.flow_filter.specs.declared.ports.Filed.{Filed}
use Rattle.flow_filter.specs.declared.ports.Group.{Group}
use Rattle.flow_filter.specs.Filed.{HoldsAll, IsFiledByRank, EntriesAreInOrder, port_in}
use Rattle.flow_filter.specs.Ranked.{filter_at}
use Rattle.flow_filter.proofs.Ranks.{ties_far}

abbrev port_at : List Filter → List ℕ → Group → ℕ → Option ℕ
port_at filters places group rank = option_and_then (port_in group) (filter_at filters places rank)

pub filed_none : (filters : List Filter) (places : List ℕ) (group : Group) → IsFiledByRank filters places group 0 []
filed_none filters places group = record {
  below = All-nil (λ e. e.rank < 0);
  ranks_rise = λ k d low h. absurd (omega arith);
  holds = λ rank port h e. absurd (omega arith);
}

not_above : (x y : ℕ) → x ≤ y → is_lt (nat_cmp y x) ≡ false
not_above x y h = grind (arith, nat_tests)

pub filed_more : (filters : List Filter) (places : List ℕ) (group : Group) (count port : ℕ) (entries : List Filed)
    → IsFiledByRank filters places group count entries → port_at filters places group count ≡ Some port
    → IsFiledByRank filters places group (count + 1) (entries ++ record { port = port; rank = count } ∷ [])
filed_more filters places group count port entries f is =
    let new : Filed = record { port = port; rank = count } in
    record {
      below = All-push (λ e. e.rank < count + 1) entries new (All-weaker (λ e. e.rank < count) (λ e. e.rank < count + 1) (λ e h. omega arith) entries f.below) (omega arith);
      ranks_rise = IsSortedBy-push (λ x y. is_lt (nat_cmp x.rank y.rank)) entries new f.ranks_rise
          (λ d some. let below : (get_or entries (length entries - 1) d).rank < count = All-get_or (λ e. e.rank < count) entries (length entries - 1) d (omega arith) f.below in
          not_above (get_or entries (length entries - 1) d).rank count (omega arith));
      holds = λ rank other h e. ⊎_elim (λ less. Contains-append_left entries (new ∷ []) (record { port = other; rank = rank }) (f.holds rank other less e))
          (λ least. let here : rank ≡ count = omega arith in
          let same : port ≡ other = let at = ap (port_at filters places group) here in cc in
          let P : Filed → Type 0 = λ x. Contains (entries ++ new ∷ []) x in
          let it : new ≡ record { port = other; rank = rank } = rw (same, here) refl in
          subst P it (Contains-push entries new)) (cases_lt rank count);
    }

pub filed_skip : (filters : List Filter) (places : List ℕ) (group : Group) (count : ℕ) (entries : List Filed)
    → IsFiledByRank filters places group count entries → port_at filters places group count ≡ None
    → IsFiledByRank filters places group (count + 1) entries
filed_skip filters places group count entries f is = record {
  below = All-weaker (λ e. e.rank < count) (λ e. e.rank < count + 1) (λ e h. omega arith) entries f.below;
  ranks_rise = f.ranks_rise;
  holds = λ rank other h e. ⊎_elim (λ less. f.holds rank other less e)
      (λ least. let here : rank ≡ count = omega arith in let at = ap (port_at filters places group) here in cc) (cases_lt rank count);
}

-- sorted by their ports, those of one port keep the order in which they are asked
pub in_order : (filters : List Filter) (places : List ℕ) (group : Group) (count : ℕ) (entries sorted : List Filed)
    → IsFiledByRank filters places group count entries → IsSortedByKey (λ e. e.port) nat_cmp sorted
    → IsStableByKey (λ e. e.port) nat_cmp entries sorted → EntriesAreInOrder sorted
in_order filters places group count entries sorted f by_port stable =
    let rise : IsNonDecreasingBy (λ e. e.port) sorted = IsNonDecreasingBy-from_sort (λ e. e.port) sorted by_port in
    record {
      ports_rise = rise;
      ranks_rise = λ i j d le h tie. ties_far (λ e. e.port) (λ e. e.rank) sorted d
          (λ i k j low high within same.
          let up = rise i k d low (omega arith) in
          let down = rise k j d high within in
          omega arith)
          (λ k h same. ties_still_rise (λ e. e.rank) (λ e. e.port) entries sorted f.ranks_rise stable k d h same)
          (j - i) i j (omega arith) h tie;
    }

past : (filters : List Filter) (places : List ℕ) (group : Group) (rank port : ℕ) → length places ≤ rank → port_at filters places group rank ≡ Some port → ⊥
past filters places group rank port h e =
    let none = ap (λ o. option_and_then (port_in group) (option_and_then (λ place. slice_get filters place) o)) (slice_get_past places rank h) in
    cc

pub holds_all : (filters : List Filter) (places : List ℕ) (group : Group) (entries sorted : List Filed)
    → IsFiledByRank filters places group (length places) entries → IsPermutation entries sorted → HoldsAll filters places group sorted
holds_all filters places group entries sorted f moved = λ rank port e.
    Contains-permutation entries sorted (record { port = port; rank = rank }) moved
    (⊎_elim (λ less. f.holds rank port less e) (λ least. absurd (past filters places group rank port least e)) (cases_lt rank (length places)))
