-- The first of the eligible heads by deadline, from the list by moment.
use Rattle.std.proofs.Common.{◌≡◌, ◌≤◌, ◌<◌, ◌+◌, inl, inr, ℕ, zero, suc, Bool, true, false, List, [], ◌∷◌, None, Some, length, get_or, refl, sym, ap, subst, take, arith, ◌∙◌}
use Rattle.std.specs.Prelude.{Option, ◌==◌, slice_get, if◌then◌else◌}
use Rattle.std.specs.List.{find}
use Rattle.std.proofs.lemmas.Bool.{cases_eq, cases_lt}
use Rattle.std.proofs.lemmas.Bool.Decides.{nat_tests}
use Rattle.std.proofs.lemmas.Option.{slice_get-get_or, slice_get_past}
use Rattle.hfsc_model.specs.RealTime.{goes_first, has_come}
use Rattle.ranking.specs.Order.{AreInOrder, is_before, is_in, key_of}
use Rattle.ranking.specs.Ranking.{keys_of, order_of}
use Rattle.ranking.specs.Search.{IsRanked}
use Rattle.ranking.proofs.Ordered.{before_trans, goes_not, goes_other, goes_trans, in_order}
use Rattle.ranking.proofs.Orders.{find_hit, find_more, found_first, found_none, in_below, is_order}
use Rattle.ranking.proofs.Ranks.{in_more, ranked_true, same_test}
use Rattle.hfsc_eligible.specs.declared.Eligible.{Eligible}
use Rattle.hfsc_eligible.specs.Eligible.{IsLeader, come_at, come_with, first_key, pick_now, soonest_now}
use Rattle.hfsc_eligible.proofs.Lists.{no_slot}

-- what stands in a list stands at a place
record IsAt (xs : List ℕ) (c : ℕ) : Type 0 where
  pub place : ℕ
  pub low : place < length xs
  pub is : get_or xs place 0 ≡ c

at_by : (x c : ℕ) (xs : List ℕ) (b : Bool) → (x == c) ≡ b → (if b then true else is_in c xs) ≡ true → (is_in c xs ≡ true → IsAt xs c) → IsAt (x ∷ xs) c
at_by x c xs true e i rest = record { place = 0; low = omega arith; is = grind (arith, nat_tests, e) }
at_by x c xs false e i rest = let r = rest i in record { place = suc r.place; low = omega (arith, r.low); is = r.is }

at_place : (xs : List ℕ) (c : ℕ) → is_in c xs ≡ true → IsAt xs c
at_place [] c i = absurd (cc)
at_place (x ∷ xs) c i = at_by x c xs (x == c) refl i (λ j. at_place xs c j)

-- and what stands at a place is there
there_at : (xs : List ℕ) (k : ℕ) → k < length xs → is_in (get_or xs k 0) xs ≡ true
there_at [] k l = absurd (omega arith)
there_at (x ∷ xs) zero l = rw (same_test x) refl
there_at (x ∷ xs) (suc k) l = in_more x (get_or xs k 0) xs (there_at xs k (omega arith))

-- behind a moment that has not come none has
not_come : (a b : Option ℕ) (x y now : ℕ) → has_come a now ≡ false → goes_first a x b y ≡ true → has_come b now ≡ false
not_come a None x y now e f = refl
not_come None (Some v) x y now e f = absurd (cc)
not_come (Some u) (Some v) x y now e f = grind (arith, nat_tests, e, f)

late_at : (keys : List (Option ℕ)) (xs : List ℕ) (i j now : ℕ) → IsRanked keys xs → i ≤ j → j < length xs → has_come (key_of keys (get_or xs i 0)) now ≡ false
    → has_come (key_of keys (get_or xs j 0)) now ≡ false
late_at keys xs i j now r l h e = elim (cases_lt i j) [
  | inl m ↦ not_come (key_of keys (get_or xs i 0)) (key_of keys (get_or xs j 0)) (get_or xs i 0) (get_or xs j 0) now e (in_order keys xs i j r m h)
  | inr m ↦
      let same : i ≡ j = omega (arith, l, m) in
      ap (λ n. has_come (key_of keys (get_or xs n 0)) now) (sym same) ∙ e
]

-- one class more
next_by : (keys : List (Option ℕ)) (test : ℕ → Bool) (xs : List ℕ) (place best : ℕ) (b : Bool) → IsLeader keys test xs place best → place + 1 < length xs
    → test (get_or xs (place + 1) 0) ≡ true → b ≡ is_before keys (get_or xs (place + 1) 0) best
    → IsLeader keys test xs (place + 1) (if b then get_or xs (place + 1) 0 else best)
next_by keys test xs place best true x l t e = record {
  there = there_at xs (place + 1) l;
  passes = t;
  first = λ j m h n. elim (cases_lt place j) [
    | inl k ↦ let same : j ≡ place + 1 = omega (arith, m, k) in absurd (n (ap (λ i. get_or xs i 0) same))
    | inr k ↦ elim (cases_eq (get_or xs j 0) best) [
      | inl same ↦ ap (is_before keys (get_or xs (place + 1) 0)) same ∙ sym e
      | inr other ↦ before_trans keys (get_or xs (place + 1) 0) best (get_or xs j 0) (sym e) (x.first j k h other)
    ]
  ];
}
next_by keys test xs place best false x l t e = record {
  there = x.there;
  passes = x.passes;
  first = λ j m h n. elim (cases_lt place j) [
    | inl k ↦
        let same : j ≡ place + 1 = omega (arith, m, k) in
        let P : ℕ → Type 0 = λ i. is_before keys best (get_or xs i 0) ≡ true in
        let other : get_or xs (place + 1) 0 ≡ best → ⊥ = λ q. n (ap (λ i. get_or xs i 0) same ∙ q) in
        subst P (sym same)
        (goes_other (key_of keys (get_or xs (place + 1) 0)) (key_of keys best) (get_or xs (place + 1) 0) best (sym e) other)
    | inr k ↦ x.first j k h n
  ];
}

-- of a list in order, one that passes and goes before all others that do is the first that passes
found_is : (key : ℕ → Option ℕ) (test : ℕ → Bool) (xs : List ℕ) (best : ℕ) (o : Option ℕ) → find test xs ≡ o → AreInOrder key xs → is_in best xs ≡ true
    → test best ≡ true → ((d : ℕ) → is_in d xs ≡ true → test d ≡ true → (d ≡ best → ⊥) → goes_first (key best) best (key d) d ≡ true) → Some best ≡ o
found_is key test xs best None e r i t f = absurd (found_none test xs best e i t)
found_is key test xs best (Some c) e r i t f =
    let x = found_first key test xs c r e in
    elim (cases_eq c best) [
      | inl same ↦ ap (λ n. Some n) (sym same)
      | inr other ↦
          let one = f c x.there x.passes other in
          let two = x.first best i t (λ q. other (sym q)) in
          let both : goes_first (key best) best (key best) best ≡ true = goes_trans (key best) (key c) (key best) best c best one two in
          let no : goes_first (key best) best (key best) best ≡ false = goes_not (key best) best in
          absurd (cc)
    ]

come_by : (test : ℕ → Bool) (c d : ℕ) (b : Bool) → test c ≡ b → (if b then Some c else None) ≡ Some d → (c ≡ d) × (test d ≡ true)
come_by test c d true e f = let same : c ≡ d = cc in (same, ap test (sym same) ∙ e)
come_by test c d false e f = absurd (cc)

come_some : (test : ℕ → Bool) (o : Option ℕ) (d : ℕ) → come_with test o ≡ Some d → (o ≡ Some d) × (test d ≡ true)
come_some test None d e = absurd (cc)
come_some test (Some c) d e = let x = come_by test c d (test c) refl e in (ap (λ n. Some n) x.0, x.1)

fails_by : (test : ℕ → Bool) (c : ℕ) (b : Bool) → test c ≡ b → (if b then Some c else None) ≡ None → test c ≡ false
fails_by test c true e f = absurd (cc)
fails_by test c false e f = e

come_none : (test : ℕ → Bool) (o : Option ℕ) (c : ℕ) → come_with test o ≡ None → o ≡ Some c → test c ≡ false
come_none test None c e f = absurd (cc)
come_none test (Some d) c e f = let same : d ≡ c = cc in ap test (sym same) ∙ fails_by test d (test d) refl e

module _ (e : Eligible) (now : ℕ) where
  abbrev xs : List ℕ
  xs = order_of e.moments

  abbrev test : ℕ → Bool
  test c = has_come (key_of (keys_of e.moments) c) now

  abbrev Leads : (place best : ℕ) → Type 0
  Leads place best = IsLeader (keys_of e.deadlines) test xs place best

  -- a look at a place
  pub read_at : (ys : List ℕ) (place : ℕ) → ys ≡ xs → place < length ys → slice_get xs place ≡ Some (get_or ys place 0)
  read_at ys place same low =
      let P : List ℕ → Type 0 = λ zs. slice_get zs place ≡ Some (get_or ys place 0) in
      subst P same (slice_get-get_or ys place 0 low)

  pub come_is : (place c : ℕ) (b : Bool) (k : Option ℕ) → slice_get xs place ≡ Some c → k ≡ key_of (keys_of e.moments) c → b ≡ has_come k now
      → (if b then Some c else None) ≡ come_at e place now
  come_is place c b k is key come =
      ap (λ (t : Bool). if t then Some c else None) (come ∙ ap (λ (o : Option ℕ). has_come o now) key) ∙ sym (ap (come_with test) is)

  pub come_past : (ys : List ℕ) (place : ℕ) → ys ≡ xs → length ys ≤ place → None ≡ come_at e place now
  come_past ys place same high =
      let long : length xs ≤ place = omega (arith, high, ap (λ (zs : List ℕ). length zs) same) in
      sym (ap (come_with test) (slice_get_past xs place long))

  -- a look at a place in the order of the deadlines
  come_now : (c : ℕ) (k : Option ℕ) (b t : Bool) → k ≡ key_of (keys_of e.moments) c → b ≡ has_come k now → b ≡ t → test c ≡ t
  come_now c k b t key come is = sym (come ∙ ap (λ (o : Option ℕ). has_come o now) key) ∙ is

  pub hit : (ys : List ℕ) (place : ℕ) (k : Option ℕ) (b : Bool) → ys ≡ order_of e.deadlines → place < length ys
      → find test (take place (order_of e.deadlines)) ≡ None → k ≡ key_of (keys_of e.moments) (get_or ys place 0) → b ≡ has_come k now → b ≡ true
      → Some (get_or ys place 0) ≡ pick_now e now
  hit ys place k b same low none key come is =
      let P : List ℕ → Type 0 = λ zs. place < length zs → test (get_or zs place 0) ≡ true → Some (get_or zs place 0) ≡ pick_now e now in
      subst P (sym same) (λ l t. find_hit test (order_of e.deadlines) place none l t) low (come_now (get_or ys place 0) k b true key come is)

  pub miss : (ys : List ℕ) (place : ℕ) (k : Option ℕ) (b : Bool) → ys ≡ order_of e.deadlines → place < length ys
      → find test (take place (order_of e.deadlines)) ≡ None → k ≡ key_of (keys_of e.moments) (get_or ys place 0) → b ≡ has_come k now → b ≡ false
      → find test (take (place + 1) (order_of e.deadlines)) ≡ None
  miss ys place k b same low none key come is =
      let P : List ℕ → Type 0 = λ zs. place < length zs → test (get_or zs place 0) ≡ false → find test (take (place + 1) (order_of e.deadlines)) ≡ None in
      subst P (sym same) (λ l t. find_more test (order_of e.deadlines) place none l t) low (come_now (get_or ys place 0) k b false key come is)

  front_come : (ys : List ℕ) (c : ℕ) → has_come (first_key (keys_of e.moments) ys) now ≡ true → c ≡ get_or ys 0 0 → (0 < length ys) × (test c ≡ true)
  front_come [] c t is = absurd (cc)
  front_come (y ∷ ys) c t is = (omega arith, ap test is ∙ t)

  pub some_moment : has_come (soonest_now e) now ≡ true → 0 < length xs
  some_moment t = (front_come xs (get_or xs 0 0) t refl).0

  -- the first class by moment, alone
  pub leads_first : (c : ℕ) → has_come (soonest_now e) now ≡ true → c ≡ get_or xs 0 0 → Leads 0 c
  leads_first c t is =
      let x = front_come xs c t is in
      let P : ℕ → Type 0 = λ n. is_in n xs ≡ true in
      record {
        there = subst P (sym is) (there_at xs 0 x.0);
        passes = x.1;
        first = λ j l h n. let same : j ≡ 0 = omega (arith, l) in absurd (n (ap (λ i. get_or xs i 0) same ∙ sym is));
      }

  -- one class more, whose head is eligible
  pub leads_next : (place best other : ℕ) (b : Bool) (o : Option ℕ) → Leads place best → o ≡ come_at e (place + 1) now → o ≡ Some other
      → b ≡ is_before (keys_of e.deadlines) other best → Leads (place + 1) (if b then other else best)
  leads_next place best other b o x come is f =
      let y = come_some test (slice_get xs (place + 1)) other (sym come ∙ is) in
      elim (cases_lt (place + 1) (length xs)) [
        | inl l ↦
            let z = slice_get-get_or xs (place + 1) 0 l in
            let w = y.0 in
            let same : get_or xs (place + 1) 0 ≡ other = cc in
            let P : ℕ → Type 0 = λ n. b ≡ is_before (keys_of e.deadlines) n best → test n ≡ true → Leads (place + 1) (if b then n else best) in
            subst P same (λ g t. next_by (keys_of e.deadlines) test xs place best b x l t g) f y.1
        | inr l ↦ let z = slice_get_past xs (place + 1) l in let w = y.0 in absurd (cc)
      ]

  ranked : IsRanked (keys_of e.moments) xs
  ranked = ranked_true (keys_of e.moments) xs e.moments.ranked

  in_both : (c : ℕ) → c < length e.slots.items → is_in c (order_of e.deadlines) ≡ is_in c xs
  in_both c k = let d = no_slot e.slots.items c k in e.by_deadline.heads c d k ∙ sym (e.by_moment.heads c d k)

  below_deadline : (c : ℕ) → is_in c (order_of e.deadlines) ≡ true → c < length e.slots.items
  below_deadline c i =
      let low : c < length (keys_of e.deadlines) = in_below (length (keys_of e.deadlines)) c (order_of e.deadlines) e.deadlines.below i in
      let same = e.by_deadline.classes in
      omega (arith, low, same)

  below_moment : (c : ℕ) → is_in c xs ≡ true → c < length e.slots.items
  below_moment c i =
      let low : c < length (keys_of e.moments) = in_below (length (keys_of e.moments)) c xs e.moments.below i in
      let same = e.by_moment.classes in
      omega (arith, low, same)

  order : AreInOrder (key_of (keys_of e.deadlines)) (order_of e.deadlines)
  order =
      (is_order (keys_of e.deadlines) (key_of (keys_of e.deadlines)) (λ c. is_in c (order_of e.deadlines)) (order_of e.deadlines) e.deadlines.ranked (λ c. refl)
      (λ d i. refl)).in_order

  -- the head of an eligible class stands no later than the leaders
  before_place : (place c : ℕ) → come_at e (place + 1) now ≡ None → test c ≡ true → (k : ℕ) → k < length xs → get_or xs k 0 ≡ c → k ≤ place
  before_place place c none t k l is = elim (cases_lt place k) [
    | inl m ↦
        let here : slice_get xs (place + 1) ≡ Some (get_or xs (place + 1) 0) = slice_get-get_or xs (place + 1) 0 (omega (arith, l, m)) in
        let late : test (get_or xs (place + 1) 0) ≡ false = come_none test (slice_get xs (place + 1)) (get_or xs (place + 1) 0) none here in
        let no : test (get_or xs k 0) ≡ false = late_at (keys_of e.moments) xs (place + 1) k now ranked (omega (arith, m)) l late in
        let yes : test (get_or xs k 0) ≡ true = ap test is ∙ t in
        absurd (cc)
    | inr m ↦ m
  ]

  -- where no further head is eligible the leader is the pick
  pub leader_is_pick : (place best : ℕ) (o : Option ℕ) → Leads place best → o ≡ come_at e (place + 1) now → o ≡ None → Some best ≡ pick_now e now
  leader_is_pick place best o x come is =
      found_is (key_of (keys_of e.deadlines)) test (order_of e.deadlines) best (pick_now e now) refl order
      (in_both best (below_moment best x.there) ∙ x.there) x.passes
      (λ d i t n.
      let at = at_place xs d (sym (in_both d (below_deadline d i)) ∙ i) in
      let low = before_place place d (sym come ∙ is) t at.place at.low at.is in
      let P : ℕ → Type 0 = λ c. is_before (keys_of e.deadlines) best c ≡ true in
      subst P at.is (x.first at.place low at.low (λ q. n (sym at.is ∙ q))))

  -- one class more, as code finds it
  pub leads_on : (place best other after : ℕ) (o : Option ℕ) → Leads place best → o ≡ come_at e (place + 1) now → o ≡ Some other
      → after ≡ (if is_before (keys_of e.deadlines) other best then other else best) → Leads (place + 1) after
  leads_on place best other after o x come is f =
      let P : ℕ → Type 0 = λ n. Leads (place + 1) n in
      subst P (sym f) (leads_next place best other (is_before (keys_of e.deadlines) other best) o x come is refl)
