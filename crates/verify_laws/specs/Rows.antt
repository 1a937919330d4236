-- Classes, a packet and a history of the worked examples.
use Rattle.std.specs.Prelude.{ℕ, Bool, false, List, [], ◌∷◌, Some, codes}
use Rattle.altq_model.specs.declared.Fate.{Fate}
use Rattle.altq_model.specs.declared.Fate.TheVariants as fate
use Rattle.altq_model.specs.declared.Rule.{Rule}
use Rattle.altq_model.specs.declared.Rule.TheVariants.{Share}
use Rattle.altq_model.specs.declared.Verdict.TheVariants.{Mark}
use Rattle.altq_model.specs.Arrivals.{Captured, bare_arrival, bare_arrivals}
use Rattle.altq_model.specs.History.{LabelledEvent, Offered, Sent}
use Rattle.conf_tree.specs.declared.class.Class.{Class}
use Rattle.conf_tree.specs.declared.class.DropRule.{DropRule}
use Rattle.conf_tree.specs.declared.interface.Kind.{Kind}
use Rattle.conf_tree.specs.Whole.{implied_cbq, implied_hfsc}
use Rattle.fate_laws.specs.Plays.{CanOccur, MarksAreAllowed}
use Rattle.given_play.specs.Rights.{allowed_in, marks_by}
use Rattle.service_curve.specs.declared.Curve.{Curve}
use Rattle.service_curve.specs.Curve.{straight}

-- the class that is implied on 8 Mbit/s, with another drop rule, with a real-time curve, and in CBQ
abbrev pub plain : Class
plain = implied_hfsc (codes "default") (Some 0) (Some (straight 8000000))

abbrev pub with_rule : DropRule → Class
with_rule rule = record plain { drop = rule }

abbrev pub with_curve : Curve → Class
with_curve s = record plain { real = Some s }

abbrev pub of_cbq : (borrow : Bool) → Class
of_cbq borrow = record (implied_cbq (codes "default") (Some 0) 8000000) { borrow = borrow }

-- a packet of 1,000 bytes that comes to it
abbrev pub comes : (prec : ℕ) → Captured
comes prec = record { at = 0; len = 1000; class = 0; prec = prec; bytes = []; raised = false }

-- this may become of it
abbrev pub IsPossible : Kind → Class → Fate → Type 0
IsPossible kind c f = CanOccur (allowed_in kind c ∷ []) (bare_arrival (comes 0) ∷ []) ((1, f) ∷ [])

abbrev pub sent_by : Rule → Fate
sent_by rule = fate.Sent 0 1000000 rule

-- it may be marked as it is offered, and then sent
abbrev pub marked_and_sent : (prec : ℕ) → List LabelledEvent
marked_and_sent prec =
    record { label = 1; what = Sent (record { class = 0; len = 1000; rule = Share; start = 0; end = 1000000 }) }
    ∷ record { label = 1; what = Offered (bare_arrival (comes prec)) (record { seed = 42; drawn = 0 }) (record { verdict = Mark; took = 1 }) } ∷ []

abbrev pub IsMarkable : DropRule → (prec : ℕ) → Type 0
IsMarkable rule prec =
    MarksAreAllowed (record {
      arrived = bare_arrivals (comes prec ∷ []);
      frames = [] ∷ [];
      marks = marks_by (with_rule rule) ∷ [];
    }) (comes prec ∷ []) (marked_and_sent prec)
