-- Entries that are made and searched one after the other.
use Rattle.std.proofs.Common.{◌≡◌, ⊎_elim, ℕ, ◌+◌, ◌<◌, ◌≤◌, min, Bool, true, false, List, [], ◌∷◌, ◌++◌, length, get_or, Option, Some, None, arith, sym, ◌∙◌, ap}
use Rattle.std.specs.Option.{option_map_or}
use Rattle.std.proofs.lemmas.Bool.{cases_lt}
use Rattle.std.proofs.lemmas.List.{get_or_append_left, get_or_default, get_or_push, length-append}
use Rattle.std.proofs.lemmas.Option.{slice_get-get_or, slice_get_past}
use Rattle.conf_tree.specs.declared.filter.Filter.{Filter}
use Rattle.packet_heads.specs.Flow.{Heads}
use Rattle.flow_filter.specs.declared.numbers.Numbers.{Numbers}
use Rattle.flow_filter.specs.declared.ports.Filed.{Filed}
use Rattle.flow_filter.specs.declared.ports.Version.{Version}
use Rattle.flow_filter.specs.Entries.{StandFor, of_version, takes_at}
use Rattle.flow_filter.specs.Numbers.{AreNumbersOf}
use Rattle.flow_filter.specs.Ranked.{matches_at}
use Rattle.flow_filter.specs.Search.{IsFirstFit}

-- none of those passed passes the test
abbrev pub NoneFits : (test : ℕ → Bool) → (start k : ℕ) → Type 0
NoneFits test start k = (j : ℕ) → start ≤ j → j < k → test j ≡ false

pub fits_not : (test : ℕ → Bool) (start k : ℕ) → NoneFits test start k → test k ≡ false → NoneFits test start (k + 1)
fits_not test start k before here = λ j low high. ⊎_elim (λ less. before j low less)
    (λ least. let same : j ≡ k = omega arith in ap test same ∙ here) (cases_lt j k)

pub fits_here : (test : ℕ → Bool) (start end k : ℕ) → NoneFits test start k → start ≤ k → k < end → test k ≡ true → IsFirstFit test start end (Some k)
fits_here test start end k before low high here = record {
  there = (low, high, here);
  first = λ j from to fits. ⊎_elim (λ less. let fails = before j from less in absurd cc) (λ least. least) (cases_lt j k);
}

takes_past : {X : Type 0} (takes : X → Option Numbers → Bool) (xs : List X) (o : Option Numbers) (k : ℕ) → length xs ≤ k → takes_at takes xs o k ≡ false
takes_past {X = X} takes xs o k past = ap (λ (f : Option X). option_map_or (λ x. takes x o) f false) (slice_get_past xs k past)

pub takes_is : {X : Type 0} (takes : X → Option Numbers → Bool) (xs : List X) (o : Option Numbers) (k : ℕ) (d : X) → k < length xs
    → takes_at takes xs o k ≡ takes (get_or xs k d) o
takes_is {X = X} takes xs o k d h = ap (λ (f : Option X). option_map_or (λ x. takes x o) f false) (slice_get-get_or xs k d h)

pub fits_nowhere : {X : Type 0} (takes : X → Option Numbers → Bool) (xs : List X) (o : Option Numbers) (start end k : ℕ)
    → NoneFits (takes_at takes xs o) start k → min end (length xs) ≤ k → IsFirstFit (takes_at takes xs o) start end None
fits_nowhere takes xs o start end k before last = record {
  there = tt;
  first = λ j from to fits. ⊎_elim (λ less. let fails = before j from less in absurd cc)
      (λ least. let fails = takes_past takes xs o j (omega arith) in absurd cc) (cases_lt j k);
}

-- entries that are made
module _ (v : Version) (filters : List Filter) (places : List ℕ) (filed : List Filed) where
  -- one more, for the filter that is filed next
  pub record IsNext {X : Type 0} (takes : X → Option Numbers → Bool) (xs : List X) (x : X) (count : ℕ) (d : Filed) : Type 0 where
    pub long : length xs ≡ count
    pub within : count < length filed
    pub before : StandFor v filters places filed (takes_at takes xs) count
    pub here : (heads : Heads) (o : Option Numbers) → AreNumbersOf (of_version v heads) o
        → takes x o ≡ matches_at filters places (of_version v heads) (get_or filed count d).rank

  stands_next : {X : Type 0} (takes : X → Option Numbers → Bool) (xs : List X) (x : X) (count : ℕ) (d : Filed) → IsNext takes xs x count d
      → StandFor v filters places filed (takes_at takes (xs ++ x ∷ [])) (count + 1)
  stands_next {X = X} takes xs x count d n = λ k other h heads o is.
      let long : length xs ≡ count = n.long in
      let new = takes_is takes (xs ++ x ∷ []) o k x (omega (arith, length-append xs (x ∷ []))) in
      ⊎_elim (λ less.
      let old = takes_is takes xs o k x (omega arith) in
      let same : get_or (xs ++ x ∷ []) k x ≡ get_or xs k x = get_or_append_left xs (x ∷ []) x k (omega arith) in
      new ∙ ap (λ (y : X). takes y o) same ∙ sym old ∙ n.before k other less heads o is)
      (λ least.
      let last : k ≡ length xs = omega arith in
      let is_x : get_or (xs ++ x ∷ []) k x ≡ x = get_or_push xs x x k (sym last) in
      let its : get_or filed k other ≡ get_or filed count d = ap (λ (n : ℕ). get_or filed n other) (last ∙ long) ∙ get_or_default filed count other d n.within in
      new ∙ ap (λ (y : X). takes y o) is_x ∙ n.here heads o is ∙ ap (λ (y : Filed). matches_at filters places (of_version v heads) y.rank) (sym its))
      (cases_lt k count)

  pub stand_more : {X : Type 0} (takes : X → Option Numbers → Bool) (xs : List X) (x : X) (count : ℕ) (d : Filed) → IsNext takes xs x count d
      → (length (xs ++ x ∷ []) ≡ count + 1) × StandFor v filters places filed (takes_at takes (xs ++ x ∷ [])) (count + 1)
  stand_more takes xs x count d n = (length-append xs (x ∷ []) ∙ ap (λ (n : ℕ). n + 1) n.long, stands_next takes xs x count d n)
