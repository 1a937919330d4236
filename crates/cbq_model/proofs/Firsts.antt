-- What no other class goes before is first by priority, rounds and ring.
use Rattle.std.proofs.Common.{◌≡◌, ◌≤◌, ◌<◌, ◌+◌, ◌-◌, ℕ, Bool, true, false, List, length, get_or, refl, ap, sym, subst, arith}
use Rattle.std.specs.Prelude.{nat_lt, ◌&&◌, ◌||◌, if◌then◌else◌}
use Rattle.std.proofs.lemmas.Bool.Decides.{nat_tests}
use Rattle.altq_model.specs.Play.{IsOneOf}
use Rattle.cbq_model.specs.declared.CbqClass.{CbqClass}
use Rattle.cbq_model.specs.declared.Rank.{Rank}
use Rattle.cbq_model.specs.Choice.{Situation, able, before_in_ring, choice_of, class_in, goes_before, may, rank_in, rounds}
use Rattle.cbq_model.specs.Tree.{class_of, numbers}
use Rattle.cbq_model.proofs.Best.{best_of}
use Rattle.cbq_model.proofs.Members.{kept, was_kept}
use Rattle.cbq_model.proofs.Places.{is_below}
use Rattle.cbq_model.specs.First.{IsCandidate, IsFirst, place, place_in}

by_priority : (a b : Rank) → goes_before b a ≡ false → b.priority ≤ a.priority
by_priority a b e = grind (arith, nat_tests)

by_rounds : (a b : Rank) → goes_before b a ≡ false → b.priority ≡ a.priority → a.rounds ≤ b.rounds
by_rounds a b e f = grind (arith, nat_tests)

by_ring : (a b : Rank) → goes_before b a ≡ false → b.priority ≡ a.priority → b.rounds ≡ a.rounds → before_in_ring b a ≡ false
by_ring a b e f g = grind (arith, nat_tests)

-- the ring's order is that of the places
place_by : (n start a b : ℕ) → a < n → b < n
    → (if nat_lt b start then nat_lt a start && nat_lt b a else (nat_lt a start || nat_lt b a)) ≡ false → place_in n start a ≤ place_in n start b
place_by n start a b la lb e = go (nat_lt a start) refl (nat_lt b start) refl e
  where
    go : (x : Bool) → nat_lt a start ≡ x → (y : Bool) → nat_lt b start ≡ y → (if y then x && nat_lt b a else (x || nat_lt b a)) ≡ false
        → (if x then (n - start) + a else a - start) ≤ (if y then (n - start) + b else b - start)
    go true f true g h = let le : a ≤ b = grind (arith, nat_tests, h) in omega (arith, le)
    go true f false g h = absurd (cc)
    go false f true g h = let from : start ≤ a = grind (arith, nat_tests, f) in omega (arith, from, la)
    go false f false g h = let le : a ≤ b = grind (arith, nat_tests, h) in omega (arith, le)

module _ (cs : List CbqClass) (rate : ℕ) (s : Situation) (t : ℕ) where
  is_able : (c : ℕ) → IsCandidate cs rate s t c → IsOneOf c (able cs rate s t)
  is_able c k = kept (λ d. may cs rate s d t) c (numbers cs) k.there k.may

  able_is : (c : ℕ) → IsOneOf c (able cs rate s t) → IsCandidate cs rate s t c
  able_is c m = let k = was_kept (λ d. may cs rate s d t) c (numbers cs) m in record { there = k.there; may = k.passes }

  in_ring : (c d : ℕ) → IsOneOf c (numbers cs) → IsOneOf d (numbers cs) → (class_of cs d).priority ≡ (class_of cs c).priority
      → before_in_ring (rank_in cs rate s d) (rank_in cs rate s c) ≡ false → place cs s c ≤ place cs s d
  in_ring c d mc md same e =
      let start = get_or s.cursors (class_of cs c).priority 0 in
      let starts : get_or s.cursors (class_of cs d).priority 0 ≡ start = ap (λ p. get_or s.cursors p 0) same in
      let P : ℕ → Type 0 = λ k. (if nat_lt d k then nat_lt c start && nat_lt d c else (nat_lt c start || nat_lt d c)) ≡ false in
      let Q : ℕ → Type 0 = λ k. place_in (length cs) start c ≤ place_in (length cs) k d in
      subst Q (sym starts) (place_by (length cs) start c d (is_below c cs mc) (is_below d cs md) (subst P starts e))

  first_of : (c : ℕ) → IsOneOf c (able cs rate s t)
      → ((d : ℕ) → IsOneOf d (able cs rate s t) → goes_before (rank_in cs rate s d) (rank_in cs rate s c) ≡ false) → IsFirst cs rate s t c
  first_of c m f = record {
    candidate = able_is c m;
    greatest = λ d k. by_priority (rank_in cs rate s c) (rank_in cs rate s d) (f d (is_able d k));
    fewest = λ d k same. by_rounds (rank_in cs rate s c) (rank_in cs rate s d) (f d (is_able d k)) same;
    earliest = λ d k same equal. in_ring c d (able_is c m).there k.there same
        (by_ring (rank_in cs rate s c) (rank_in cs rate s d) (f d (is_able d k)) same equal);
  }

  pub is_first : (c : ℕ) → IsCandidate cs rate s t c → IsFirst cs rate s t (choice_of cs rate s t).class
  is_first c k =
      let x = best_of cs rate s c (able cs rate s t) (is_able c k) in
      let same : (choice_of cs rate s t).class ≡ x.one = ap class_in x.is in
      subst (λ d. IsFirst cs rate s t d) (sym same) (first_of x.one x.there x.first)

-- two classes have two places in a ring
two_places : (n start a b : ℕ) → a < n → b < n → place_in n start a ≡ place_in n start b → a ≡ b
two_places n start a b la lb e = go (nat_lt a start) refl (nat_lt b start) refl e
  where
    go : (x : Bool) → nat_lt a start ≡ x → (y : Bool) → nat_lt b start ≡ y
        → (if x then (n - start) + a else a - start) ≡ (if y then (n - start) + b else b - start) → a ≡ b
    go true f true g h = omega (arith, h)
    go true f false g h = let from : start ≤ b = grind (arith, nat_tests, g) in absurd (omega (arith, h, from, lb))
    go false f true g h = let from : start ≤ a = grind (arith, nat_tests, f) in absurd (omega (arith, h, from, la))
    go false f false g h =
        let one : start ≤ a = grind (arith, nat_tests, f) in
        let two : start ≤ b = grind (arith, nat_tests, g) in
        omega (arith, h, one, two)

pub one_first : (cs : List CbqClass) (rate : ℕ) (s : Situation) (t c d : ℕ) → IsFirst cs rate s t c → IsFirst cs rate s t d → c ≡ d
one_first cs rate s t c d x y =
    let less = x.greatest d y.candidate in
    let more = y.greatest c x.candidate in
    let same : (class_of cs d).priority ≡ (class_of cs c).priority = omega (arith, less, more) in
    let fewer = x.fewest d y.candidate same in
    let as_many = y.fewest c x.candidate (sym same) in
    let equal : rounds cs rate s d ≡ rounds cs rate s c = omega (arith, fewer, as_many) in
    let before = x.earliest d y.candidate same equal in
    let behind = y.earliest c x.candidate (sym same) (sym equal) in
    let start = get_or s.cursors (class_of cs c).priority 0 in
    let starts : place cs s d ≡ place_in (length cs) start d = ap (λ p. place_in (length cs) (get_or s.cursors p 0) d) same in
    two_places (length cs) start c d (is_below c cs x.candidate.there) (is_below d cs y.candidate.there) (omega (arith, before, behind, starts))
