-- A watch to which nothing happened yet.
use Rattle.std.proofs.Common.{◌≡◌, ◌≤◌, ◌<◌, ◌+◌, ◌*◌, ℕ, zero, suc, Bool, true, false, cond, List, [], ◌∷◌, ◌++◌, None, Some, length, map, get_or, refl, ap, sym, arith, ◌∙◌}
use Rattle.std.specs.Prelude.{Option, ◌&&◌, is_some, option_map, replicate, slice_get, if◌then◌else◌}
use Rattle.std.specs.List.{filter}
use Rattle.std.proofs.lemmas.List.FromFn.{length-map-range_with_len, length-range_with_len}
use Rattle.std.proofs.lemmas.Option.{get_or_from_slice_get, slice_get-get_or, slice_get-map, slice_get_within}
use Rattle.play_base.specs.Units.{units}
use Rattle.service_curve.proofs.Amounts.{mul_mono}
use Rattle.hfsc_model.specs.declared.HfscClass.{HfscClass}
use Rattle.hfsc_model.specs.Event.{HfscHistory}
use Rattle.hfsc_model.specs.Tree.{class_of, no_class, numbers}
use Rattle.hfsc_laws.proofs.Tree.{child_within}
use Rattle.hfsc_policy.specs.Classes.{IsClassTree}
use Rattle.share_gaps.specs.declared.lead.Lead.{Lead}
use Rattle.share_gaps.specs.declared.siblings.Siblings.{Siblings}
use Rattle.share_gaps.specs.Rows.{are_siblings, pair, rows, rows_from, rows_of}
use Rattle.share_gaps.specs.Bounds.{bound_of, gap_of, shares_alone}
use Rattle.share_gaps.specs.declared.watch.Watch.{Watch}
use Rattle.share_gaps.specs.Watching.{Stand, Represents, bound_in, gap_after, gap_in, lead_of}
use Rattle.share_gaps.specs.Within.{rate_of}
use Rattle.share_gaps.specs.declared.gap.Gap.{Gap}
use Rattle.share_gaps.proofs.Pairs.{IsPair, row_pair}
use Rattle.share_gaps.proofs.Updates.{get_same}

filter_few : (p : Siblings → Bool) (ss : List Siblings) → length (filter p ss) ≤ length ss
filter_few p [] = omega arith
filter_few p (s ∷ ss) = go (p s) (filter_few p ss)
  where
    go : (b : Bool) → length (filter p ss) ≤ length ss → length (cond b (s ∷ filter p ss) (filter p ss)) ≤ suc (length ss)
    go true rest = omega (arith, rest)
    go false rest = omega (arith, rest)

append_length : (xs ys : List Siblings) → length (xs ++ ys) ≡ length xs + length ys
append_length [] ys = omega arith
append_length (x ∷ xs) ys = let rest = append_length xs ys in omega (arith, rest)

rows_few : (cs : List HfscClass) (xs : List ℕ) → length (rows_from cs xs) ≤ length xs * length cs
rows_few cs [] = omega arith
rows_few cs (x ∷ xs) =
    let rest = rows_few cs xs in
    let sum = append_length (rows_of cs x) (rows_from cs xs) in
    let most = filter_few (are_siblings cs) (map (pair x) (numbers cs)) in
    let all = length-map-range_with_len (pair x) 0 (length cs) in
    omega (arith, rest, sum, most, all)

pub rows_most : (cs : List HfscClass) → length cs ≤ 256 → length (rows cs) ≤ 65536
rows_most cs low =
    let few = rows_few cs (numbers cs) in
    let all = length-range_with_len 0 (length cs) in
    let one = mul_mono (length cs) (length cs) 256 low in
    let same = ap (λ (n : ℕ). n * length cs) all in
    omega (arith, few, same, one, low)

pub new_stands : (cs : List HfscClass) (ss : List Siblings) (ws : List ℕ) (ls : List Lead) → IsClassTree cs → ws ≡ replicate (length cs) 0
    → ls ≡ replicate (length ss) (record { first = 0; second = 0; most = 0 }) → Stand cs ss ws ls 0 []
new_stands cs ss ws ls tree waits leads = record {
  tree = tree;
  heads = tt;
  few = omega arith;
  longest_is = refl;
  waits = λ c low. ap (λ (xs : List ℕ). slice_get xs c) waits ∙ get_same (length cs) c 0 low;
  lead_at = λ i s e. ap (λ (xs : List Lead). slice_get xs i) leads ∙ get_same (length ss) i (record { first = 0; second = 0; most = 0 }) (slice_get_within ss i s e);
}

pub length_same : {X : Type 0} (n : ℕ) (x : X) → length (replicate n x) ≡ n
length_same {X} zero x = refl
length_same {X} (suc n) x = let rest = length_same n x in omega (arith, rest)

pub length_rates : (cs : List HfscClass) → length (map rate_of cs) ≡ length cs
length_rates [] = refl
length_rates (k ∷ ks) = let rest = length_rates ks in omega (arith, rest)

-- the gap of a row
pub gap_is : (w : Watch) (row : ℕ) (x : Lead) (h : HfscHistory) (s : Siblings) (one two : Option ℕ) (gap bound : Option ℕ)
    → Represents w h → slice_get w.siblings.items row ≡ Some s → x ≡ get_or w.leads.items row x
    → one ≡ get_or w.rates.items s.first one → two ≡ get_or w.rates.items s.second two → gap ≡ gap_of x.most one two
    → bound ≡ (if shares_alone w.classes.items && is_some gap then bound_of w.classes.items (class_of w.classes.items s.first).parent (units w.longest) else None)
    → Some (record { first = s.first; second = s.second; gap = gap; bound = bound }) ≡ option_map (gap_after w.classes.items h) (slice_get (rows w.classes.items) row)
gap_is w row x h s one two gap bound stand at lead_is one_is two_is gap_eq bound_eq =
    made_same ∙ sym (ap (option_map (gap_after cs h)) (sym (ap (λ (xs : List Siblings). slice_get xs row) w.pairs_are) ∙ at))
  where
    cs : List HfscClass
    cs = w.classes.items

    rates : List (Option ℕ)
    rates = w.rates.items

    n : ℕ
    n = w.longest

    pair_is : IsPair cs s
    pair_is = row_pair cs w.siblings.items row s w.pairs_are at

    made : Option ℕ → Option ℕ → Gap
    made g b = record { first = s.first; second = s.second; gap = g; bound = b }

    lead : x.most ≡ (lead_of cs s h).most
    lead = ap (λ (y : Lead). y.most) (lead_is ∙ get_or_from_slice_get w.leads.items row (lead_of cs s h) x (stand.lead_at row s at))

    rate_at_is : (c : ℕ) (o : Option ℕ) → c < length cs → get_or rates c o ≡ rate_of (class_of cs c)
    rate_at_is c o low =
        get_or_from_slice_get rates c (rate_of (class_of cs c)) o
        (ap (λ (xs : List (Option ℕ)). slice_get xs c) w.rates_are ∙ slice_get-map rate_of cs c ∙ ap (option_map rate_of) (slice_get-get_or cs c no_class low))

    gap_same : gap ≡ gap_in cs h s
    gap_same =
        gap_eq ∙ ap (λ (m : ℕ). gap_of m one two) lead
        ∙ ap (λ (r : Option ℕ). gap_of (lead_of cs s h).most r two) (one_is ∙ rate_at_is s.first one (child_within cs pair_is.parent s.first pair_is.first))
        ∙ ap (λ (r : Option ℕ). gap_of (lead_of cs s h).most (rate_of (class_of cs s.first)) r) (two_is ∙ rate_at_is s.second two (child_within cs pair_is.parent s.second pair_is.second))

    bound_same : bound ≡ bound_in cs h s
    bound_same =
        bound_eq ∙ ap (λ (g : Option ℕ). if shares_alone cs && is_some g then bound_of cs (class_of cs s.first).parent (units n) else None) gap_same
        ∙ ap (λ (m : ℕ). if shares_alone cs && is_some (gap_in cs h s) then bound_of cs (class_of cs s.first).parent (units m) else None) stand.longest_is

    made_same : Some (made gap bound) ≡ Some (gap_after cs h s)
    made_same = ap (λ (g : Option ℕ). Some (made g bound)) gap_same ∙ ap (λ (b : Option ℕ). Some (made (gap_in cs h s) b)) bound_same
