-- The least number above all of a list.
use Rattle.std.proofs.Common.{◌≡◌, ◌∙◌, ◌+◌, ◌<◌, ◌≤◌, ℕ, List, [], ◌∷◌, length, get_or, ap, sym, subst, arith}
use Rattle.altq_model.specs.declared.Fate.{Fate}
use Rattle.altq_model.specs.declared.Fate.TheVariants.{Dropped, Sent}
use Rattle.altq_model.specs.declared.Reason.{Reason}
use Rattle.altq_model.specs.declared.Rule.{Rule}
use Rattle.altq_model.specs.History.{Arrival}
use Rattle.altq_model.specs.Idle.{dropped}
use Rattle.altq_model.specs.Laws.{AllBelow, at_of}
use Rattle.journal_laws.specs.Journal.{IfDropped, IfSent, NoneAbove, class_of, moments, numbers_sent_in, starts}
use Rattle.fate_check.specs.declared.reading.Row.{Row}
use Rattle.fate_judge.specs.declared.given.Allowed.{Allowed}
use Rattle.fate_judge.specs.declared.order.Order.{Order}
use Rattle.fate_judge.specs.Given.{decisions}
use Rattle.fate_judge.specs.Order.{RowIsInOrder, IsOrder, above}
use Rattle.fate_judge.specs.Reading.{IsOfArrival}

below : (t : ℕ) (ns : List ℕ) → above ns ≤ t → AllBelow t ns
below t [] h = tt
below t (n ∷ ns) h = (omega (arith, h), below t ns (omega (arith, h)))

below_back : (t : ℕ) (ns : List ℕ) → AllBelow t ns → above ns ≤ t
below_back t [] x = omega arith
below_back t (n ∷ ns) x = omega (arith, x.0, below_back t ns x.1)

none_above : (t : ℕ) (ns : List ℕ) → above ns ≤ t + 1 → NoneAbove t ns
none_above t [] h = tt
none_above t (n ∷ ns) h = (omega (arith, h), none_above t ns (omega (arith, h)))

none_above_back : (t : ℕ) (ns : List ℕ) → NoneAbove t ns → above ns ≤ t + 1
none_above_back t [] x = omega arith
none_above_back t (n ∷ ns) x = omega (arith, x.0, none_above_back t ns x.1)

-- what is held after the rows before one
abbrev pub Holds : List Arrival → (before : List Row) → Order → Type 0
Holds arrived before held = IsOrder arrived before held.sent.items held.start held.drop held.moment

-- what a class sent, by the class of the row
above_class : (classes : List Allowed) (arrived : List Arrival) (before : List Row) (r : Row) (held : Order)
    → IsOfArrival classes arrived r → Holds arrived before held → r.class < length held.sent.items
    → get_or held.sent.items r.class 0 ≡ above (numbers_sent_in arrived (class_of arrived r.number) (decisions before))
above_class classes arrived before r held is o lt =
    o.numbers_sent r.class lt ∙ ap (λ (c : ℕ). above (numbers_sent_in arrived c (decisions before))) is.class

-- what a sending has to meet
pub record MaySend (r : Row) (begin : ℕ) (held : Order) : Type 0 where
  pub number : get_or held.sent.items r.class 0 ≤ r.number
  pub start : held.start ≤ begin + 1
  pub moment : held.moment ≤ begin + 1

pub passes_sent : (classes : List Allowed) (arrived : List Arrival) (before : List Row) (r : Row) (s e : ℕ) (rule : Rule) (held : Order)
    → r.fate ≡ Sent s e rule → IsOfArrival classes arrived r → Holds arrived before held → r.class < length held.sent.items
    → MaySend r s held → RowIsInOrder arrived before r
passes_sent classes arrived before r s e rule held f is o lt may =
    let here : List ℕ = numbers_sent_in arrived (class_of arrived r.number) (decisions before) in
    let all : AllBelow r.number here
    = below r.number here (omega (arith, may.number, above_class classes arrived before r held is o lt)) in
    let later : NoneAbove s (starts (decisions before)) = none_above s (starts (decisions before)) (omega (arith, may.start, o.starts)) in
    let behind : NoneAbove s (moments arrived (dropped (decisions before)))
    = none_above s (moments arrived (dropped (decisions before))) (omega (arith, may.moment, o.moments)) in
    let A : Fate → Type 0 = λ t. IfSent t (λ x y. AllBelow r.number here) in
    let B : Fate → Type 0 = λ t. IfDropped t (AllBelow r.number (dropped (decisions before))) in
    let C : Fate → Type 0 = λ t. IfSent t (λ x y. NoneAbove x (starts (decisions before))) in
    let D : Fate → Type 0 = λ t. IfDropped t (AllBelow (at_of arrived r.number) (starts (decisions before))) in
    let E : Fate → Type 0 = λ t. IfSent t (λ x y. NoneAbove x (moments arrived (dropped (decisions before)))) in
    record {
      sends = subst A (sym f) all;
      drops = subst B (sym f) tt;
      starts = subst C (sym f) later;
      drop_at_arrival = subst D (sym f) tt;
      send_after_drops = subst E (sym f) behind;
    }

pub needs_sent : (classes : List Allowed) (arrived : List Arrival) (before : List Row) (r : Row) (s e : ℕ) (rule : Rule) (held : Order)
    → r.fate ≡ Sent s e rule → IsOfArrival classes arrived r → Holds arrived before held → r.class < length held.sent.items
    → RowIsInOrder arrived before r → MaySend r s held
needs_sent classes arrived before r s e rule held f is o lt so =
    let here : List ℕ = numbers_sent_in arrived (class_of arrived r.number) (decisions before) in
    let A : Fate → Type 0 = λ t. IfSent t (λ x y. AllBelow r.number here) in
    let C : Fate → Type 0 = λ t. IfSent t (λ x y. NoneAbove x (starts (decisions before))) in
    let E : Fate → Type 0 = λ t. IfSent t (λ x y. NoneAbove x (moments arrived (dropped (decisions before)))) in
    let all : AllBelow r.number here = subst A f so.sends in
    let later : NoneAbove s (starts (decisions before)) = subst C f so.starts in
    let behind : NoneAbove s (moments arrived (dropped (decisions before))) = subst E f so.send_after_drops in
    record {
      number = omega (arith, below_back r.number here all, above_class classes arrived before r held is o lt);
      start = omega (arith, none_above_back s (starts (decisions before)) later, o.starts);
      moment = omega (arith, none_above_back s (moments arrived (dropped (decisions before))) behind, o.moments);
    }

-- what a drop has to meet
pub record MayDrop (r : Row) (held : Order) : Type 0 where
  pub number : held.drop ≤ r.number
  pub at : held.start ≤ r.at

pub passes_drop : (classes : List Allowed) (arrived : List Arrival) (before : List Row) (r : Row) (reason : Reason) (held : Order)
    → r.fate ≡ Dropped reason → IsOfArrival classes arrived r → Holds arrived before held
    → MayDrop r held → RowIsInOrder arrived before r
passes_drop classes arrived before r reason held f is o may =
    let all : AllBelow r.number (dropped (decisions before)) = below r.number (dropped (decisions before)) (omega (arith, may.number, o.numbers_dropped)) in
    let sooner : AllBelow (at_of arrived r.number) (starts (decisions before))
    = below (at_of arrived r.number) (starts (decisions before)) (omega (arith, may.at, o.starts, is.at)) in
    let A : Fate → Type 0 = λ t. IfSent t (λ x y. AllBelow r.number (numbers_sent_in arrived (class_of arrived r.number) (decisions before))) in
    let B : Fate → Type 0 = λ t. IfDropped t (AllBelow r.number (dropped (decisions before))) in
    let C : Fate → Type 0 = λ t. IfSent t (λ x y. NoneAbove x (starts (decisions before))) in
    let D : Fate → Type 0 = λ t. IfDropped t (AllBelow (at_of arrived r.number) (starts (decisions before))) in
    let E : Fate → Type 0 = λ t. IfSent t (λ x y. NoneAbove x (moments arrived (dropped (decisions before)))) in
    record {
      sends = subst A (sym f) tt;
      drops = subst B (sym f) all;
      starts = subst C (sym f) tt;
      drop_at_arrival = subst D (sym f) sooner;
      send_after_drops = subst E (sym f) tt;
    }

pub needs_drop : (classes : List Allowed) (arrived : List Arrival) (before : List Row) (r : Row) (reason : Reason) (held : Order)
    → r.fate ≡ Dropped reason → IsOfArrival classes arrived r → Holds arrived before held
    → RowIsInOrder arrived before r → MayDrop r held
needs_drop classes arrived before r reason held f is o so =
    let B : Fate → Type 0 = λ t. IfDropped t (AllBelow r.number (dropped (decisions before))) in
    let D : Fate → Type 0 = λ t. IfDropped t (AllBelow (at_of arrived r.number) (starts (decisions before))) in
    let all : AllBelow r.number (dropped (decisions before)) = subst B f so.drops in
    let sooner : AllBelow (at_of arrived r.number) (starts (decisions before)) = subst D f so.drop_at_arrival in
    record {
      number = omega (arith, below_back r.number (dropped (decisions before)) all, o.numbers_dropped);
      at = omega (arith, below_back (at_of arrived r.number) (starts (decisions before)) sooner, o.starts, is.at);
    }
