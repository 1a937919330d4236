-- What passing rows say.
use Rattle.std.proofs.Common.{◌≡◌, ◌<◌, ℕ, zero, suc, true, List, [], ◌∷◌, length, refl, arith}
use Rattle.altq_model.specs.declared.Fate.{Fate}
use Rattle.fate_check.specs.declared.reading.Row.{Row}
use Rattle.fate_judge.specs.declared.given.Allowed.{Allowed}
use Rattle.fate_judge.specs.declared.given.Arrived.{Arrived}
use Rattle.fate_judge.specs.Given.{bare_arrivals}
use Rattle.fate_judge.specs.Reading.{HasClass, IsRead, can_occur_in}
use Rattle.fate_judge.specs.Tests.{IsNumbered}
use Rattle.fate_judge.specs.Walk.{EachRow}

pub each_weaker : (P Q : List Row → Row → Type 0) (before rows : List Row) → ((b : List Row) (r : Row) → P b r → Q b r) → EachRow P before rows → EachRow Q before rows
each_weaker P Q before [] h each = tt
each_weaker P Q before (r ∷ rows) h each = (h before r each.0, each_weaker P Q (r ∷ before) rows h each.1)

class_there : (classes : List Allowed) (class : ℕ) (fate : Fate) → can_occur_in classes class fate ≡ true → class < length classes
class_there [] class fate e = absurd cc
class_there (c ∷ classes) zero fate e = omega arith
class_there (c ∷ classes) (suc k) fate e = omega (arith, class_there classes k fate e)

pub count_of : (arrived : List Arrived) → length (bare_arrivals arrived) ≡ length arrived
count_of [] = refl
count_of (a ∷ arrived) = omega (arith, count_of arrived)

pub numbered : (classes : List Allowed) (arrived : List Arrived) (rows : List Row) → EachRow (IsRead classes (bare_arrivals arrived)) [] rows
    → EachRow (IsNumbered (length arrived)) [] rows
numbered classes arrived rows each =
    each_weaker (IsRead classes (bare_arrivals arrived)) (IsNumbered (length arrived)) [] rows
    (λ b r is. record { from_one = is.from_one; there = omega (arith, is.there, count_of arrived) }) each

pub have_classes : (classes : List Allowed) (arrived : List Arrived) (rows : List Row) → EachRow (IsRead classes (bare_arrivals arrived)) [] rows
    → EachRow (HasClass (length classes)) [] rows
have_classes classes arrived rows each =
    each_weaker (IsRead classes (bare_arrivals arrived)) (HasClass (length classes)) [] rows (λ b r is. class_there classes r.class r.fate is.fate) each
