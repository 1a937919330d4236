-- The first moment of the classes that wait, one class after the other.
use Rattle.std.proofs.Common.{◌≡◌, ◌≤◌, ◌<◌, ◌+◌, ◌∙◌, ◌⊎◌, inl, inr, ℕ, List, [], None, Some, length, min, refl, ap, sym, subst, arith}
use Rattle.std.specs.declared.option.Option.{Option}
use Rattle.std.specs.Prelude.{option_map}
use Rattle.std.proofs.lemmas.Bool.{cases_eq, cases_lt}
use Rattle.altq_model.specs.Play.{lesser}
use Rattle.leaf_queue.specs.declared.node.Entry.{Entry}
use Rattle.link_clock.specs.Clock.{Clock}
use Rattle.cbq_rounds.specs.Due.{first_in, start_in}
use Rattle.cbq_rounds.specs.Looked.{HasFirst, IsNoLater, IsOfOne}
use Rattle.cbq_sharing.specs.Shared.{Shared, head_len, start_now_in}
use Rattle.cbq_rounds.proofs.Firsts.{no_later, of_one}

-- the first moment of those so far and of one class more
of_one_more : (f : ℕ → Option ℕ) (n i start u : ℕ) (at : Option ℕ) → ((t : ℕ) → at ≡ Some t → IsOfOne f 0 n t) → i < n → f i ≡ Some start
    → lesser at (Some start) ≡ Some u → IsOfOne f 0 n u
of_one_more f n i start u None x l e m =
    let same : start ≡ u = cc in
    record { class = i; low = omega arith; high = omega (arith, l); is = e ∙ ap (λ (k : ℕ). Some k) same }
of_one_more f n i start u (Some t) x l e m =
    let same : min t start ≡ u = cc in
    elim (cases_lt t start) [
      | inl k ↦ let first : t ≡ u = omega (arith, same, k) in x u (ap (λ (v : ℕ). Some v) first)
      | inr k ↦
          let first : start ≡ u = omega (arith, same, k) in
          record { class = i; low = omega arith; high = omega (arith, l); is = e ∙ ap (λ (v : ℕ). Some v) first }
    ]

later_left : (at : Option ℕ) (start v : ℕ) → IsNoLater at v → IsNoLater (lesser at (Some start)) v
later_left None start v x = let e = x.is in absurd (cc)
later_left (Some t) start v x =
    let e = x.is in
    let same : t ≡ x.first = cc in
    record { first = min t start; is = refl; most = omega (arith, same, x.most) }

later_right : (at : Option ℕ) (start v : ℕ) → start ≤ v → IsNoLater (lesser at (Some start)) v
later_right None start v l = record { first = start; is = refl; most = l }
later_right (Some t) start v l = record { first = min t start; is = refl; most = omega (arith, l) }

abbrev start_some : Shared → Clock → (now i : ℕ) → Option ℕ → Option ℕ
start_some d clock now i o = option_map (λ len. start_now_in d clock.rate clock.link i now len) o

module _ (d : Shared) (lists : ℕ → List Entry) (clock : Clock) (now : ℕ) where
  -- where nothing waits there is no moment
  no_start : (c : ℕ) → lists c ≡ [] → start_in d lists clock now c ≡ None
  no_start c e = ap (λ (xs : List Entry). start_some d clock now c (head_len xs)) e

  later_by : (from c v : ℕ) (at : Option ℕ) → HasFirst d lists clock now from at → c < length d.tree → start_in d lists clock now c ≡ Some v
      → (c < from) ⊎ (lists c ≡ []) → IsNoLater at v
  later_by from c v at x l e (inl k) = x.no_later c v l k e
  later_by from c v at x l e (inr none) = let n = no_start c none in absurd (cc)

  -- a class in which a packet waits, after those before it
  pub record IsAfter (from i len start : ℕ) (at : Option ℕ) : Type 0 where
    pub first : HasFirst d lists clock now from at
    pub place : i < length d.tree
    pub none : (c : ℕ) → from ≤ c → c < i → lists c ≡ []
    pub head : head_len (lists i) ≡ Some len
    pub start_is : start ≡ start_now_in d clock.rate clock.link i now len

  before_i : (from i len start c : ℕ) (at : Option ℕ) → IsAfter from i len start at → c < i → (c < from) ⊎ (lists c ≡ [])
  before_i from i len start c at x l = elim (cases_lt c from) [ inl m ↦ inl m | inr m ↦ inr (x.none c m l) ]

  first_next_by : (from i len start : ℕ) (at : Option ℕ) → IsAfter from i len start at → HasFirst d lists clock now (i + 1) (lesser at (Some start))
  first_next_by from i len start at x =
      let starts : start_in d lists clock now i ≡ Some start = ap (start_some d clock now i) x.head ∙ ap (λ (n : ℕ). Some n) (sym x.start_is) in
      record {
        of_one = λ u e. of_one_more (start_in d lists clock now) (length d.tree) i start u at x.first.of_one x.place starts e;
        no_later = λ c v l s e. elim (cases_eq c i) [
          | inl same ↦
              let mine : Some start ≡ Some v = sym starts ∙ ap (start_in d lists clock now) (sym same) ∙ e in
              let is : start ≡ v = cc in
              later_right at start v (omega (arith, is))
          | inr other ↦
              later_left at start v (later_by from c v at x.first l e (before_i from i len start c at x (omega (arith, s, other))))
        ];
      }

  pub first_next : (from i len start : ℕ) (at after : Option ℕ) → IsAfter from i len start at → lesser at (Some start) ≡ after
      → HasFirst d lists clock now (i + 1) after
  first_next from i len start at after x e = let P : Option ℕ → Type 0 = λ o. HasFirst d lists clock now (i + 1) o in subst P e (first_next_by from i len start at x)

  -- two moments of which none is later are the same
  same_first : (at o : Option ℕ) → ((u : ℕ) → at ≡ Some u → IsNoLater o u) → ((w : ℕ) → o ≡ Some w → IsNoLater at w) → at ≡ o
  same_first None None x y = refl
  same_first None (Some w) x y = let z = y w refl in let e = z.is in absurd (cc)
  same_first (Some t) None x y = let z = x t refl in let e = z.is in absurd (cc)
  same_first (Some t) (Some w) x y =
      let a = x t refl in
      let b = y w refl in
      let e = a.is in
      let f = b.is in
      let one : w ≡ a.first = cc in
      let two : t ≡ b.first = cc in
      let same : t ≡ w = omega (arith, one, two, a.most, b.most) in
      ap (λ (n : ℕ). Some n) same

  no_later_first : (u : ℕ) → IsOfOne (start_in d lists clock now) 0 (length d.tree) u → IsNoLater (first_in d lists clock now) u
  no_later_first u k = no_later (start_in d lists clock now) 0 k.class d.tree u k.low k.high k.is

  rest_empty : (from c : ℕ) → ((k : ℕ) → from ≤ k → lists k ≡ []) → (c < from) ⊎ (lists c ≡ [])
  rest_empty from c none = elim (cases_lt c from) [ inl m ↦ inl m | inr m ↦ inr (none c m) ]

  first_no_later : (from w : ℕ) (at : Option ℕ) → HasFirst d lists clock now from at → ((k : ℕ) → from ≤ k → lists k ≡ [])
      → first_in d lists clock now ≡ Some w → IsNoLater at w
  first_no_later from w at x none e =
      let k = of_one (start_in d lists clock now) 0 d.tree w e in
      later_by from k.class w at x (omega (arith, k.high)) k.is (rest_empty from k.class none)

  -- nothing waits in the rest
  pub first_done : (from : ℕ) (at : Option ℕ) → HasFirst d lists clock now from at → ((k : ℕ) → from ≤ k → lists k ≡ [])
      → at ≡ first_in d lists clock now
  first_done from at x none =
      same_first at (first_in d lists clock now) (λ u e. no_later_first u (x.of_one u e)) (λ w e. first_no_later from w at x none e)
