-- A search among the entries of one port.
use Rattle.std.proofs.Common.{◌≡◌, ⊎_elim, inl, inr, ℕ, ◌<◌, ◌≤◌, ◌+◌, eqb, Bool, true, false, List, length, get_or, Option, Some, None, ltb, leb, option_map, refl, arith, sym, subst, ◌∙◌, ap}
use Rattle.std.specs.Prelude.{Contains, replicate, slice_get, slice_set}
use Rattle.std.specs.List.Sorted.{IsPartitionPoint}
use Rattle.std.specs.Option.{option_map_or}
use Rattle.std.proofs.lemmas.Bool.{cases_lt, eq-eqb, eqb-true}
use Rattle.std.proofs.lemmas.Bool.Decides.{nat_tests}
use Rattle.std.proofs.lemmas.List.{get_or_default}
use Rattle.std.proofs.lemmas.List.Elements.{All-replicate, All-set}
use Rattle.std.proofs.lemmas.Option.{slice_get-get_or, slice_get_past, get_or_from_slice_get}
use Rattle.flow_filter.specs.declared.ports.Filed.{Filed}
use Rattle.flow_filter.specs.declared.ports.Stretch.{Stretch}
use Rattle.flow_filter.specs.Filed.{EntriesAreInOrder}
use Rattle.flow_filter.specs.Search.{AreStretches, BeginsAt, IsFirstFit, IsFirstUnder, IsStretch, is_at}

less : (m n : ℕ) → ltb m n ≡ true → m < n
less m n h = grind (arith, nat_tests)

not_less : (m n : ℕ) → ltb m n ≡ false → n ≤ m
not_less m n h = grind (arith, nat_tests)

most : (m n : ℕ) → leb m n ≡ true → m ≤ n
most m n h = grind (arith, nat_tests)

not_most : (m n : ℕ) → leb m n ≡ false → n < m
not_most m n h = grind (arith, nat_tests)

-- from the point of the lesser ports on
pub begins_at : (filed : List Filed) (port start : ℕ) → start ≤ length filed
    → IsPartitionPoint (λ e. ltb e.port port ≡ true) (λ e. ltb e.port port ≡ false) filed start
    → BeginsAt filed port start
begins_at filed port start within lower = record {
  within = within;
  lesser = λ k d low. less (get_or filed k d).port port (lower.0 k d (omega arith) low);
  others = λ k d from high. not_less (get_or filed k d).port port (lower.1 k d from high);
}

-- up to the point of those that are no greater
pub stretch_of : (filed : List Filed) (port start end : ℕ) → end ≤ length filed → BeginsAt filed port start
    → IsPartitionPoint (λ e. leb e.port port ≡ true) (λ e. leb e.port port ≡ false) filed end
    → IsStretch filed port start end
stretch_of filed port start end within begins upper = record {
  within = within;
  its = λ k d low high.
      let least = begins.others k d low (omega arith) in
      let greatest = most (get_or filed k d).port port (upper.0 k d (omega arith) high) in
      omega arith;
  all = λ k d there same. (
    ⊎_elim (λ h. let lesser = begins.lesser k d h in absurd (omega arith)) (λ h. h) (cases_lt k start),
    ⊎_elim (λ h. h) (λ h. let greater = not_most (get_or filed k d).port port (upper.1 k d h there) in absurd (omega arith)) (cases_lt k end),
  );
}

is_there : (filed : List Filed) (port k : ℕ) (d : Filed) → k < length filed → is_at filed port k ≡ eqb (get_or filed k d).port port
is_there filed port k d l = ap (λ (o : Option Filed). option_map_or (λ (one : Filed). eqb one.port port) o false) (slice_get-get_or filed k d l)

record IsThere (filed : List Filed) (port k : ℕ) : Type 0 where
  pub within : k < length filed
  pub its : (d : Filed) → (get_or filed k d).port ≡ port

at_there : (filed : List Filed) (port k : ℕ) → is_at filed port k ≡ true → IsThere filed port k
at_there filed port k e = elim (cases_lt k (length filed)) [
  | inl l ↦ record { within = l; its = λ d. eqb-true (get_or filed k d).port port (sym (is_there filed port k d l) ∙ e) }
  | inr l ↦
      let none : is_at filed port k ≡ false = ap (λ (o : Option Filed). option_map_or (λ (one : Filed). eqb one.port port) o false) (slice_get_past filed k l) in
      absurd (cc)
]

-- up to a place at which no more of them stands
ends_at : (filed : List Filed) (port start end : ℕ) → EntriesAreInOrder filed → BeginsAt filed port start → start ≤ end → end ≤ length filed
    → ((k : ℕ) (d : Filed) → start ≤ k → k < end → (get_or filed k d).port ≡ port) → is_at filed port end ≡ false → IsStretch filed port start end
ends_at filed port start end order begins low within its gone = record {
  within = within;
  its = its;
  all = λ k d there same. (
    ⊎_elim (λ h. let lesser = begins.lesser k d h in absurd (omega arith)) (λ h. h) (cases_lt k start),
    ⊎_elim (λ h. h) (λ h.
        let least = begins.others end d low (omega arith) in
        let rise = order.ports_rise end k d h there in
        let here : (get_or filed end d).port ≡ port = omega arith in
        let one = is_there filed port end d (omega arith) ∙ eq-eqb (get_or filed end d).port port here in
        absurd (cc)) (cases_lt k end),
  );
}

-- no filter of the port, or one
pub no_stretch : (filed : List Filed) (port start : ℕ) → EntriesAreInOrder filed → BeginsAt filed port start → is_at filed port start ≡ false → IsStretch filed port start start
no_stretch filed port start order begins gone =
    ends_at filed port start start order begins (omega arith) begins.within (λ k d low high. absurd (omega arith)) gone

pub one_alone : (filed : List Filed) (port start : ℕ) → EntriesAreInOrder filed → BeginsAt filed port start → is_at filed port start ≡ true
    → is_at filed port (start + 1) ≡ false → IsStretch filed port start (start + 1)
one_alone filed port start order begins found gone =
    let there = at_there filed port start found in
    ends_at filed port start (start + 1) order begins (omega arith) (omega (arith, there.within))
    (λ k d low high.
    let same : k ≡ start = omega (arith, low, high) in
    ap (λ (n : ℕ). (get_or filed n d).port) same ∙ there.its d) gone

-- a stretch that is found, and one that is kept
pub its_stretch : (filed : List Filed) (port : ℕ) (one : Stretch) → one.port ≡ port → IsStretch filed port one.start one.end
    → IsStretch filed one.port one.start one.end
its_stretch filed port one e found = subst (λ (n : ℕ). IsStretch filed n one.start one.end) (sym e) found

pub keep_stretch : (filed : List Filed) (kept : List Stretch) (at : ℕ) (one : Stretch) → IsStretch filed one.port one.start one.end
    → AreStretches filed kept → AreStretches filed (slice_set kept at one)
keep_stretch filed kept at one its all = All-set (λ (s : Stretch). IsStretch filed s.port s.start s.end) kept at one its all

pub same_stretches : (filed : List Filed) (count : ℕ) (one : Stretch) → IsStretch filed one.port one.start one.end
    → AreStretches filed (replicate count one)
same_stretches filed count one its = All-replicate (λ (s : Stretch). IsStretch filed s.port s.start s.end) count one its

-- what is found among the entries of a port, each of which fits where the test holds of its number
module _ (filed : List Filed) (port start end : ℕ) (fits test : ℕ → Bool) (order : EntriesAreInOrder filed) (stretch : IsStretch filed port start end)
    (same : (k : ℕ) (d : Filed) → k < length filed → fits k ≡ test (get_or filed k d).rank) where
  fits_there : (rank : ℕ) (holds : Contains filed (record { port = port; rank = rank })) → test rank ≡ true
      → (start ≤ holds.0) × (holds.0 < end) × (fits holds.0 ≡ true)
  fits_there rank holds passes =
      let it : Filed = record { port = port; rank = rank } in
      let (low, high) = stretch.all holds.0 it holds.1 (ap (λ (e : Filed). e.port) holds.2) in
      (low, high, same holds.0 it holds.1 ∙ ap (λ (e : Filed). test e.rank) holds.2 ∙ passes)

  pub found_none : IsFirstFit fits start end None → IsFirstUnder filed port test None
  found_none f = record {
    agrees = tt;
    first = λ rank holds passes. let (low, high, fit) = fits_there rank holds passes in f.first holds.0 low high fit;
  }

  pub found_past : (k : ℕ) → IsFirstFit fits start end (Some k) → slice_get filed k ≡ None → IsFirstUnder filed port test None
  found_past k f past =
      let there = f.there in
      let within : k < length filed = omega (arith, there.1, stretch.within) in
      let some = slice_get-get_or filed k (record { port = 0; rank = 0 }) within in
      absurd cc

  pub found_some : (k : ℕ) (one : Filed) → IsFirstFit fits start end (Some k) → slice_get filed k ≡ Some one → IsFirstUnder filed port test (Some one.rank)
  found_some k one f at =
      let there = f.there in
      let within : k < length filed = omega (arith, there.1, stretch.within) in
      let here : get_or filed k one ≡ one = get_or_from_slice_get filed k one one at in
      record {
        agrees = ap (λ (e : Filed). test e.rank) (sym here) ∙ sym (same k one within) ∙ there.2;
        first = λ rank holds passes.
            let it : Filed = record { port = port; rank = rank } in
            let (low, high, fit) = fits_there rank holds passes in
            let before : k ≤ holds.0 = f.first holds.0 low high fit in
            let mine : (get_or filed k one).port ≡ port = stretch.its k one there.0 there.1 in
            let its : (get_or filed holds.0 one).port ≡ port = stretch.its holds.0 one low high in
            let rise : (get_or filed k one).rank ≤ (get_or filed holds.0 one).rank = order.ranks_rise k holds.0 one before holds.1 (mine ∙ sym its) in
            let first_rank = ap (λ (e : Filed). e.rank) here in
            let other_rank : (get_or filed holds.0 one).rank ≡ rank =
            ap (λ (e : Filed). e.rank) (get_or_default filed holds.0 one it holds.1 ∙ holds.2) in
            omega arith;
      }

  by_place : (k : ℕ) (o : Option Filed) → IsFirstFit fits start end (Some k) → slice_get filed k ≡ o → IsFirstUnder filed port test (option_map (λ e. e.rank) o)
  by_place k None f at = found_past k f at
  by_place k (Some one) f at = found_some k one f at

  pub found_at : (k : ℕ) → IsFirstFit fits start end (Some k) → IsFirstUnder filed port test (option_map (λ e. e.rank) (slice_get filed k))
  found_at k f = by_place k (slice_get filed k) f refl
