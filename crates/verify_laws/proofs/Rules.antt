-- By which rule a class can be sent: in HFSC by share, or by real time where it has a real-time curve that is not 0 everywhere; in CBQ by
-- its own rate, or by borrowing where it is marked to borrow.
use Rattle.std.proofs.Common.{◌≡◌, ◌<◌, ℕ, Bool, true, false, not, List, None, Some, refl, ap, subst, arith}
use Rattle.std.specs.Prelude.{◌||◌, MatchOption, if◌then◌else◌, max, option_map, slice_get, unwrap_or}
use Rattle.std.specs.List.{list_any}
use Rattle.std.specs.declared.option.Option.{Option}
use Rattle.std.proofs.lemmas.Option.{get_or_from_slice_get}
use Rattle.altq_model.specs.declared.Rule.TheVariants.{Own, Borrow}
use Rattle.altq_model.specs.History.{Arrival, Event, head}
use Rattle.altq_model.specs.Lawful.{MaySend}
use Rattle.altq_model.specs.Play.{IsOneOf, Policy}
use Rattle.cbq_model.specs.declared.CbqClass.{CbqClass}
use Rattle.cbq_model.specs.Choice.{Situation, allows_in, head_in, may, may_with}
use Rattle.cbq_model.specs.Rounds.{cbq, situation}
use Rattle.cbq_model.specs.Tree.{class_of, lender_of, lenders, lenders_up, no_class}
use Rattle.cbq_model.proofs.Lawful.{sends_when}
use Rattle.conf_laws.proofs.ListPlaces.{map_on}
use Rattle.conf_laws.specs.Fit.{IsInterface}
use Rattle.conf_tree.specs.declared.class.Class.{Class}
use Rattle.conf_tree.specs.declared.interface.Interface.{Interface}
use Rattle.conf_tree.specs.declared.interface.Kind.{Kind}
use Rattle.conf_tree.specs.declared.interface.Kind.TheVariants.{Hfsc, Cbq}
use Rattle.fate_judge.specs.Reading.{can_send}
use Rattle.given_play.specs.Rights.{allowed_in, has_curve}
use Rattle.hfsc_laws.proofs.Picking.{computed}
use Rattle.hfsc_model.specs.declared.HfscClass.{HfscClass}
use Rattle.hfsc_model.specs.Choice.{first_choice}
use Rattle.hfsc_model.specs.Event.{HfscHistory}
use Rattle.hfsc_model.specs.Leaf.{Leaf, leaf}
use Rattle.hfsc_model.specs.Limit.{share_pick}
use Rattle.hfsc_model.specs.RealTime.{IsRealPick, NoneIsEligible, curve_in, curve_of, is_eligible, is_zero, real_pick, unless_zero}
use Rattle.hfsc_model.specs.Tree.{reals}
use Rattle.hfsc_policy.specs.Events.{hfsc_history}
use Rattle.hfsc_policy.specs.Policy.{choice_of}
use Rattle.interface_policy.specs.Classes.{cbq_class, cbq_classes, hfsc_class, hfsc_classes}
use Rattle.interface_policy.specs.Policy.{answering_of, policy_by}
use Rattle.service_curve.specs.declared.Curve.{Curve}

-- HFSC: a head is eligible only by a curve that is not 0 everywhere
curve_if : (b : Bool) (s : Curve) (l : Leaf) (now : ℕ) → is_eligible (if b then None else Some s) l now ≡ true → not b ≡ true
curve_if true s l now e = absurd cc
curve_if false s l now e = refl

has_one : (o : Option Curve) (l : Leaf) (now : ℕ) → is_eligible (unless_zero o) l now ≡ true → has_curve o ≡ true
has_one None l now e = absurd cc
has_one (Some s) l now e = curve_if (is_zero s) s l now e

real_at : (classes : List Class) (c : ℕ) (k : Class) → slice_get classes c ≡ Some k → curve_of (reals (hfsc_classes classes)) c ≡ unless_zero k.real
real_at classes c k at =
    ap curve_in (map_on (λ (x : HfscClass). x.real) (hfsc_classes classes) c (hfsc_class k) (map_on hfsc_class classes c k at))

hfsc_sends : (classes : List Class) (h : HfscHistory) (now : ℕ) (o other : Option ℕ) (k : Class)
    → MatchOption o (NoneIsEligible (reals (hfsc_classes classes)) h now) (IsRealPick (reals (hfsc_classes classes)) h now)
    → slice_get classes (choice_of (first_choice o other)).class ≡ Some k → can_send (allowed_in Hfsc k) (choice_of (first_choice o other)).rule ≡ true
hfsc_sends classes h now None None k m at = refl
hfsc_sends classes h now None (Some d) k m at = refl
hfsc_sends classes h now (Some c) other k m at =
    let P : Option Curve → Type 0 = λ o. is_eligible o (leaf h c) now ≡ true in
    has_one k.real (leaf h c) now (subst P (real_at classes c k at) m.eligible)

-- CBQ: a class borrows only of a lender
lent_if : (cs : List CbqClass) (test : ℕ → Bool) (b : Bool) (o : Option ℕ) → list_any test (lenders_up 8 cs (if b then o else None)) ≡ true → b ≡ true
lent_if cs test true o e = refl
lent_if cs test false o e = absurd cc

lent : (cs : List CbqClass) (test : ℕ → Bool) (c : ℕ) (k : CbqClass) → class_of cs c ≡ k → list_any test (lenders cs c) ≡ true → k.borrow ≡ true
lent cs test c k is e =
    let P : CbqClass → Type 0 = λ x. list_any test (lenders_up 8 cs (lender_of x)) ≡ true in
    lent_if cs test k.borrow k.parent (subst P is e)

own_or_borrow : (c : Class) (b lends : Bool) → (lends ≡ true → c.borrow ≡ true) → (b || lends) ≡ true
    → can_send (allowed_in Cbq c) (if b then Own else Borrow) ≡ true
own_or_borrow c true lends borrows e = refl
own_or_borrow c false lends borrows e = borrows e

cbq_sends : (classes : List Class) (rate : ℕ) (s : Situation) (c t : ℕ) (k : Class) (o : Option ℕ) → slice_get classes c ≡ Some k
    → may_with (cbq_classes classes) rate s c t o ≡ true
    → can_send (allowed_in Cbq k) (if allows_in (cbq_classes classes) rate s c t (unwrap_or o 0) then Own else Borrow) ≡ true
cbq_sends classes rate s c t k None at e = absurd cc
cbq_sends classes rate s c t k (Some len) at e =
    let cs : List CbqClass = cbq_classes classes in
    let test : ℕ → Bool = λ p. allows_in cs rate s p t len in
    let is : class_of cs c ≡ cbq_class k = get_or_from_slice_get cs c (cbq_class k) no_class (map_on cbq_class classes c k at) in
    own_or_borrow k (allows_in cs rate s c t len) (list_any test (lenders cs c)) (lent cs test c (cbq_class k) is) e

-- a class whose head may start at a moment may send at it
cbq_may : (i : Interface) (h : List Event) (c free s : ℕ) (o : Option Arrival) → 0 < i.rate → head c h ≡ o → IsOneOf c (policy_by Cbq i).classes
    → option_map (λ (a : Arrival). (policy_by Cbq i).start_from h c (max free a.at)) o ≡ Some s
    → may (cbq_classes i.classes) i.rate (situation (cbq_classes i.classes) i.rate h) c s ≡ true
cbq_may i h c free s None some e held start = absurd cc
cbq_may i h c free s (Some a) some e held start =
    let cs : List CbqClass = cbq_classes i.classes in
    let p : Policy = cbq cs i.rate (answering_of i) in
    let first : p.start_from h c (max free a.at) ≡ s = cc in
    let P : ℕ → Type 0 = λ t. may cs i.rate (situation cs i.rate h) c t ≡ true in
    subst P first ((sends_when cs i.rate (answering_of i) some).may h c (max free a.at) a (record { held = held; front = e }))

-- what is picked at a moment at which it may send, is sent by a rule of its class
pub pick_can : (kind : Kind) (i : Interface) (h : List Event) (free s : ℕ) (k : Class) → IsInterface i
    → MaySend (policy_by kind i) free h ((policy_by kind i).pick h s).class s → slice_get i.classes ((policy_by kind i).pick h s).class ≡ Some k
    → can_send (allowed_in kind k) ((policy_by kind i).pick h s).rule ≡ true
pick_can Hfsc i h free s k fit m at =
    let cs : List HfscClass = hfsc_classes i.classes in
    let hh : HfscHistory = hfsc_history h in
    hfsc_sends i.classes hh s (real_pick (reals cs) hh s) (share_pick cs hh s) k (computed (reals cs) hh s) at
pick_can Cbq i h free s k fit m at =
    let cs : List CbqClass = cbq_classes i.classes in
    let c : ℕ = ((policy_by Cbq i).pick h s).class in
    let least = fit.rate.0 in
    cbq_sends i.classes i.rate (situation cs i.rate h) c s k (head_in (situation cs i.rate h) c) at
    (cbq_may i h c free s (head c h) (omega (arith, least)) refl m.held m.start)
