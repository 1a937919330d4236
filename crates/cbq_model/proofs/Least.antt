-- The least moment at which a class may send.
use Rattle.std.proofs.Common.{◌≡◌, ◌≤◌, ◌<◌, inl, inr, ℕ, Bool, true, false, List, [], ◌∷◌, length, refl, sym, subst, arith}
use Rattle.std.specs.Prelude.{◌||◌, if◌then◌else◌}
use Rattle.std.proofs.lemmas.Bool.{cases_lt}
use Rattle.altq_model.specs.History.{Event}
use Rattle.altq_model.specs.Link.{Link, end_of}
use Rattle.cbq_estimator.specs.Average.{Pace, Ended}
use Rattle.cbq_estimator.specs.Estimate.{Estimate}
use Rattle.cbq_estimator.specs.Now.{allows_now, estimate_of}
use Rattle.cbq_estimator.specs.Starts.{EndsItsRun}
use Rattle.cbq_estimator.proofs.Least.{told}
use Rattle.cbq_estimator.proofs.LinkEnds.{link_ends}
use Rattle.cbq_model.specs.declared.CbqClass.{CbqClass}
use Rattle.cbq_model.specs.Tree.{class_of, is_root, lenders, no_class, pace_of}
use Rattle.cbq_model.specs.Choice.{Situation, allows_in, estimate_in, least_allowed, least_of, may_send, own_start}
use Rattle.cbq_model.specs.Rounds.{ends, situation}
use Rattle.cbq_model.proofs.Members.{least_is, least_most, passes_some, some_passes}
use Rattle.cbq_model.proofs.Places.{at_place, past_place}

-- each average that is looked at is that of some packets' ends
pub record IsOfEnds (e : Estimate) : Type 0 where
  pub pace : Pace
  pub history : List Ended
  pub is : e ≡ estimate_of pace history

pub estimate_is : (cs : List CbqClass) (rate : ℕ) (h : List Event) (c : ℕ) → c < length cs
    → estimate_in (situation cs rate h) c ≡ estimate_of (pace_of (class_of cs c)) (ends cs c h)
estimate_is cs rate h c l = at_place (λ d k. estimate_of (pace_of k) (ends cs d h)) cs c (estimate_of (pace_of no_class) []) l

of_ends : (cs : List CbqClass) (rate : ℕ) (h : List Event) (c : ℕ) → IsOfEnds (estimate_in (situation cs rate h) c)
of_ends cs rate h c = elim (cases_lt c (length cs)) [
  | inl l ↦ record { pace = pace_of (class_of cs c); history = ends cs c h; is = estimate_is cs rate h c l }
  | inr l ↦ record {
    pace = pace_of no_class;
    history = [];
    is = past_place (λ d k. estimate_of (pace_of k) (ends cs d h)) cs c (estimate_of (pace_of no_class) []) l;
  }
]

-- a moment is the least from t on at which an average allows a packet
pub record IsLeastAllowed (e : Estimate) (rate : ℕ) (l : Link) (t len start : ℕ) : Type 0 where
  pub from : t ≤ start
  pub allowed : allows_now e (end_of rate l start len) len ≡ true
  pub least : (u : ℕ) → t ≤ u → allows_now e (end_of rate l u len) len ≡ true → start ≤ u

pub least_or : (u start : ℕ) (b : Bool) → b ≡ true → (u < start → b ≡ false) → start ≤ u
least_or u start b e f = elim (cases_lt u start) [ inl l ↦ let no = f l in absurd (cc) | inr l ↦ l ]

least_of_ends : (p : Pace) (h : List Ended) (rate : ℕ) (l : Link) (t len : ℕ) → 0 < rate → EndsItsRun rate l
    → IsLeastAllowed (estimate_of p h) rate l t len (least_allowed (estimate_of p h) rate l t len)
least_of_ends p h rate l t len some run =
    let x = told p h rate l t len some run in
    record { from = x.from; allowed = x.allowed; least = λ u from a. least_or u _ (allows_now (estimate_of p h) (end_of rate l u len) len) a (x.least u from) }

least_allowed_is : (e : Estimate) (rate : ℕ) (l : Link) (t len : ℕ) → 0 < rate → EndsItsRun rate l → IsOfEnds e
    → IsLeastAllowed e rate l t len (least_allowed e rate l t len)
least_allowed_is e rate l t len some run o =
    let P : Estimate → Type 0 = λ x. IsLeastAllowed x rate l t len (least_allowed x rate l t len) in
    subst P (sym o.is) (least_of_ends o.pace o.history rate l t len some run)

-- the same of a class
pub record IsLeastOwn (cs : List CbqClass) (rate : ℕ) (s : Situation) (t len c start : ℕ) : Type 0 where
  pub from : t ≤ start
  pub allowed : allows_in cs rate s c start len ≡ true
  pub least : (u : ℕ) → t ≤ u → allows_in cs rate s c u len ≡ true → start ≤ u

own_by : (rate : ℕ) (l : Link) (e : Estimate) (t len start : ℕ) (root : Bool) → IsLeastAllowed e rate l t len start
    → (t ≤ (if root then t else start))
    × ((root || allows_now e (end_of rate l (if root then t else start) len) len) ≡ true)
    × ((u : ℕ) → t ≤ u → (root || allows_now e (end_of rate l u len) len) ≡ true → (if root then t else start) ≤ u)
own_by rate l e t len start true x = (omega arith, refl, λ u from a. from)
own_by rate l e t len start false x = (x.from, x.allowed, x.least)

pub own_from : (cs : List CbqClass) (rate : ℕ) (s : Situation) (t len c start : ℕ) → IsLeastAllowed (estimate_in s c) rate s.link t len start
    → IsLeastOwn cs rate s t len c (if is_root cs c then t else start)
own_from cs rate s t len c start a =
    let x = own_by rate s.link (estimate_in s c) t len start (is_root cs c) a in
    record { from = x.0; allowed = x.1; least = x.2 }

pub own_is : (cs : List CbqClass) (rate : ℕ) (h : List Event) (t len c : ℕ) → 0 < rate
    → IsLeastOwn cs rate (situation cs rate h) t len c (own_start cs rate (situation cs rate h) t len c)
own_is cs rate h t len c some =
    let s : Situation = situation cs rate h in
    own_from cs rate s t len c (least_allowed (estimate_in s c) rate s.link t len)
    (least_allowed_is (estimate_in s c) rate s.link t len some (link_ends rate h some) (of_ends cs rate h c))

-- of a class and those that may lend to it
pub record IsLeastSend (cs : List CbqClass) (rate : ℕ) (s : Situation) (t len c start : ℕ) : Type 0 where
  pub from : t ≤ start
  pub allowed : may_send cs rate s c start len ≡ true
  pub least : (u : ℕ) → t ≤ u → may_send cs rate s c u len ≡ true → start ≤ u

pub send_from : (cs : List CbqClass) (rate : ℕ) (s : Situation) (t len c : ℕ) (f : ℕ → ℕ) → ((d : ℕ) → IsLeastOwn cs rate s t len d (f d))
    → IsLeastSend cs rate s t len c (least_of f c (lenders cs c))
send_from cs rate s t len c f own =
    let y = least_is f c (lenders cs c) in
    let o = own y.one in
    let P : ℕ → Type 0 = λ n. may_send cs rate s c n len ≡ true in
    record {
      from = omega (arith, o.from, y.is);
      allowed = subst P (sym y.is) (passes_some (λ d. allows_in cs rate s d (f y.one) len) y.one (c ∷ lenders cs c) y.there o.allowed);
      least = λ u from a.
          let one = some_passes (λ d. allows_in cs rate s d u len) (c ∷ lenders cs c) a in
          let low = (own one.one).least u from one.passes in
          omega (arith, low, least_most f c one.one (lenders cs c) one.there);
    }

pub send_is : (cs : List CbqClass) (rate : ℕ) (h : List Event) (t len c : ℕ) → 0 < rate
    → IsLeastSend cs rate (situation cs rate h) t len c (least_of (own_start cs rate (situation cs rate h) t len) c (lenders cs c))
send_is cs rate h t len c some =
    let s : Situation = situation cs rate h in
    send_from cs rate s t len c (own_start cs rate s t len) (λ d. own_is cs rate h t len d some)

-- there is one alone
pub one_least : (cs : List CbqClass) (rate : ℕ) (s : Situation) (t len c x y : ℕ) → IsLeastSend cs rate s t len c x
    → IsLeastSend cs rate s t len c y → x ≡ y
one_least cs rate s t len c x y a b = omega (arith, a.least y b.from b.allowed, b.least x a.from a.allowed)
