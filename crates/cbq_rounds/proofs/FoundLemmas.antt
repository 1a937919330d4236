-- The first of the classes that may send now, where every class that waits was asked, or cannot win.
use Rattle.std.proofs.Common.{◌≡◌, ◌≤◌, ◌<◌, ◌∙◌, inl, inr, ℕ, Bool, true, false, List, [], ◌∷◌, None, Some, length, refl, ap, sym, subst, arith}
use Rattle.std.specs.declared.option.Option.{Option}
use Rattle.std.specs.Prelude.{option_map}
use Rattle.std.proofs.lemmas.Bool.{cases_lt, eqb-true}
use Rattle.std.proofs.lemmas.Bool.Decides.{nat_tests}
use Rattle.altq_model.specs.Play.{IsOneOf}
use Rattle.cbq_model.specs.declared.Rank.{Rank}
use Rattle.cbq_model.specs.Choice.{able, best, goes_before, may, rank_in}
use Rattle.cbq_model.specs.Tree.{class_of, numbers}
use Rattle.cbq_model.proofs.Best.{best_of}
use Rattle.cbq_model.proofs.Members.{kept, was_kept}
use Rattle.cbq_model.proofs.Places.{is_below}
use Rattle.leaf_queue.specs.declared.node.Entry.{Entry}
use Rattle.link_clock.specs.Clock.{Clock}
use Rattle.cbq_rounds.specs.Due.{first_in, start_in}
use Rattle.cbq_rounds.specs.Looked.{HasAsked, IsLed}
use Rattle.cbq_sharing.specs.Shared.{Shared, head_len, situation_in, start_now_in}
use Rattle.cbq_rounds.proofs.DueLemmas.{from_now, member_from}
use Rattle.cbq_rounds.proofs.Firsts.{no_later}
use Rattle.cbq_sharing.proofs.Moments.{may_not, may_where}

-- of two classes of which none goes before the other each is the other
pub same_class : (a b : Rank) → goes_before a b ≡ false → goes_before b a ≡ false → a.class ≡ b.class
same_class a b e f = grind (arith, nat_tests)

-- a class of lesser priority does not go before one
pub lesser_behind : (a b : Rank) → a.priority < b.priority → goes_before a b ≡ false
lesser_behind a b l = grind (arith, nat_tests)

no_member : (xs : List ℕ) → ((c : ℕ) → IsOneOf c xs → ⊥) → xs ≡ []
no_member [] f = refl
no_member (x ∷ xs) f = absurd (f x (inl refl))

module _ (d : Shared) (lists : ℕ → List Entry) (clock : Clock) (now : ℕ) where
  abbrev is_able : ℕ → Bool
  is_able c = may d.tree d.rate (situation_in d lists clock.link) c now

  abbrev rank : ℕ → Rank
  rank c = rank_in d.tree d.rate (situation_in d lists clock.link) c

  abbrev all_able : List ℕ
  all_able = able d.tree d.rate (situation_in d lists clock.link) now

  abbrev first_best : Option Rank
  first_best = best d.tree d.rate (situation_in d lists clock.link) None all_able

  -- every class that waits was asked, or is of a lesser priority than one that may send now
  pub record IsAsked (p : ℕ) (found : Option Rank) : Type 0 where
    pub few : length d.tree ≤ 256
    pub asked : HasAsked d lists clock now p 256 found
    pub all : found ≡ None → p ≡ 0

  led_rest : (p c : ℕ) (found : Option Rank) → IsAsked p found → (class_of d.tree c).priority < p → IsLed found (rank c)
  led_rest p c None x l = let none = x.all refl in absurd (omega (arith, none, l))
  led_rest p c (Some k) x l =
      let a = x.asked.of_able k refl in
      let same : k.priority ≡ (class_of d.tree a.class).priority = ap (λ (r : Rank). r.priority) a.is in
      record { one = k; is = refl; behind = lesser_behind (rank c) k (omega (arith, same, a.low, l)) }

  led_all : (p c : ℕ) (found : Option Rank) → IsAsked p found → c < length d.tree → is_able c ≡ true → IsLed found (rank c)
  led_all p c found x l e = elim (cases_lt (class_of d.tree c).priority p) [
    | inl m ↦ led_rest p c found x m
    | inr m ↦ x.asked.led c l (record { low = m; before = λ k. omega (arith, l, x.few) }) e
  ]

  -- the best class
  was_able : (c : ℕ) → IsOneOf c all_able → is_able c ≡ true
  was_able c m = (was_kept is_able c (numbers d.tree) m).passes

  was_inside : (c : ℕ) → IsOneOf c all_able → c < length d.tree
  was_inside c m = is_below c d.tree (was_kept is_able c (numbers d.tree) m).there

  none_able : (c p : ℕ) → IsAsked p None → IsOneOf c all_able → ⊥
  none_able c p x m = let y = led_all p c None x (was_inside c m) (was_able c m) in let e = y.is in absurd (cc)

  pub asked_best : (p : ℕ) (found : Option Rank) → IsAsked p found → found ≡ first_best
  asked_best p None x =
      sym (ap (best d.tree d.rate (situation_in d lists clock.link) None) (no_member all_able (λ c m. none_able c p x m)))
  asked_best p (Some k) x =
      let a = x.asked.of_able k refl in
      let m : IsOneOf a.class all_able = kept is_able a.class (numbers d.tree) (member_from 0 a.class d.tree (omega arith) (omega (arith, a.place))) a.able in
      let b = best_of d.tree d.rate (situation_in d lists clock.link) a.class all_able m in
      let y = led_all p b.one (Some k) x (was_inside b.one b.there) (was_able b.one b.there) in
      let e = y.is in
      let one : y.one ≡ k = cc in
      let behind : goes_before (rank b.one) (rank a.class) ≡ false = ap (goes_before (rank b.one)) (sym a.is ∙ sym one) ∙ y.behind in
      let same : a.class ≡ b.one = same_class (rank a.class) (rank b.one) (b.first a.class m) behind in
      ap (λ (r : Rank). Some r) a.is ∙ ap (λ (c : ℕ). Some (rank c)) same ∙ sym b.is

-- where one may send now, the first moment is now
first_by : (d : Shared) (lists : ℕ → List Entry) (clock : Clock) (now c : ℕ) (o : Option ℕ) → head_len (lists c) ≡ o → clock.link.free ≤ now
    → clock.rate ≡ d.rate → c < length d.tree → is_able d lists clock now c ≡ true → start_in d lists clock now c ≡ Some now
first_by d lists clock now c None e free rate l able_now = let no = may_not d lists clock.link c now l e in absurd (cc)
first_by d lists clock now c (Some len) e free rate l able_now =
    let same : start_now_in d d.rate clock.link c now len ≡ now =
    eqb-true (start_now_in d d.rate clock.link c now len) now (sym (may_where d lists clock.link c now len l free e) ∙ able_now) in
    ap (λ (o : Option ℕ). option_map (λ n. start_now_in d clock.rate clock.link c now n) o) e
    ∙ ap (λ (r : ℕ). Some (start_now_in d r clock.link c now len)) rate ∙ ap (λ (n : ℕ). Some n) same

first_of_able : (d : Shared) (lists : ℕ → List Entry) (clock : Clock) (now : ℕ) (r : Rank) (xs : List ℕ) → all_able d lists clock now ≡ xs
    → best d.tree d.rate (situation_in d lists clock.link) None xs ≡ Some r → clock.link.free ≤ now → clock.rate ≡ d.rate
    → first_in d lists clock now ≡ Some now
first_of_able d lists clock now r [] same e free rate = absurd (cc)
first_of_able d lists clock now r (c ∷ xs) same e free rate =
    let P : List ℕ → Type 0 = λ ns. IsOneOf c ns in
    let m : IsOneOf c (all_able d lists clock now) = subst P (sym same) (inl refl) in
    let there = was_kept (is_able d lists clock now) c (numbers d.tree) m in
    let place = is_below c d.tree there.there in
    let start = first_by d lists clock now c (head_len (lists c)) refl free rate place there.passes in
    let first = no_later (start_in d lists clock now) 0 c d.tree now (omega arith) (omega (arith, place)) start in
    let low = from_now d lists clock now first.first free first.is in
    let is : first.first ≡ now = omega (arith, low, first.most) in
    first.is ∙ ap (λ (n : ℕ). Some n) is

pub first_where_able : (d : Shared) (lists : ℕ → List Entry) (clock : Clock) (now : ℕ) (r : Rank) → first_best d lists clock now ≡ Some r
    → clock.link.free ≤ now → clock.rate ≡ d.rate → first_in d lists clock now ≡ Some now
first_where_able d lists clock now r e free rate = first_of_able d lists clock now r (all_able d lists clock now) refl e free rate
