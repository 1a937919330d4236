-- Worked examples on a link of 8,000,000 bits per second, on which a packet of 1,000 bytes takes a millisecond.
use Rattle.std.specs.Prelude.{◌+◌, ◌==◌, ℕ, zero, suc, List, [], ◌∷◌, ◌++◌, Option, None, Some, if◌then◌else◌}
use Rattle.service_curve.specs.declared.Curve.{Curve}
use Rattle.service_curve.specs.Curve.{curve, straight}
use Rattle.hfsc_model.specs.declared.HfscClass.{HfscClass}
use Rattle.hfsc_model.specs.Event.{HfscHistory, Enqueued, Sent}
use Rattle.hfsc_model.specs.Choice.{Choice, with_chosen}
use Rattle.hfsc_model.specs.Share.{virtual_time}
use Rattle.hfsc_model.specs.Timely.{opens, rows, units_of}
use Rattle.runtime_curve.specs.Deadline.{deadline}
use Rattle.runtime_curve.specs.declared.Opening.{Opening}

abbrev pub root : HfscClass
root = record { parent = None; real = None; share = None; limit = None }

abbrev pub child : Option Curve → Curve → Option Curve → HfscClass
child real share limit = record { parent = Some 0; real = real; share = Some share; limit = limit }

-- a history with n packets more, kept in class c at the moment `at`
abbrev pub kept : ℕ → ℕ → ℕ → ℕ → HfscHistory → HfscHistory
kept zero c at len h = h
kept (suc n) c at len h = Enqueued c at len ∷ kept n c at len h

-- n starts, `step` apart
abbrev pub starts : ℕ → ℕ → ℕ → List ℕ
starts zero from step = []
starts (suc n) from step = from ∷ starts n (from + step) step

-- the choices of a history, the oldest first, and its starts
abbrev pub choices : HfscHistory → List Choice
choices [] = []
choices (Enqueued c at len ∷ h) = choices h
choices (Sent c len real start ∷ h) = choices h ++ record { class = c; real = real } ∷ []

abbrev pub sent_classes : HfscHistory → List ℕ
sent_classes [] = []
sent_classes (Enqueued c at len ∷ h) = sent_classes h
sent_classes (Sent c len real start ∷ h) = sent_classes h ++ c ∷ []

-- the virtual time of a class after each of its sendings, the oldest first
abbrev pub times_of : List HfscClass → ℕ → HfscHistory → List ℕ
times_of cs c [] = []
times_of cs c (Enqueued d at len ∷ h) = times_of cs c h
times_of cs c (Sent d len real start ∷ h) =
    if d == c then times_of cs c h ++ virtual_time cs (Sent d len real start ∷ h) c ∷ [] else times_of cs c h

-- voice beside data
abbrev pub voice_and_data : List HfscClass
voice_and_data =
    root
    ∷ child (Some (curve 4000000 5000000 1000000)) (curve 4000000 5000000 1000000) None
    ∷ child (Some (curve 0 5000000 4000000)) (curve 0 5000000 4000000) None
    ∷ []

-- two leaves with one curve
abbrev pub twins : List HfscClass
twins = root ∷ child (Some (straight 2000000)) (straight 2000000) None ∷ child (Some (straight 2000000)) (straight 2000000) None ∷ []

-- shares of a quarter and of three quarters
abbrev pub quarters : List HfscClass
quarters = root ∷ child None (straight 2000000) None ∷ child None (straight 6000000) None ∷ []

-- two leaves whose curves fill the link
abbrev pub filling : List HfscClass
filling =
    root
    ∷ child (Some (curve 0 10000000 8000000)) (straight 4000000) None
    ∷ child (Some (curve 8000000 10000000 0)) (straight 4000000) None
    ∷ []

-- one leaf with a limit of a quarter of the link, without and with a real-time curve of half of it
abbrev pub limited : List HfscClass
limited = root ∷ child None (straight 8000000) (Some (straight 2000000)) ∷ []

abbrev pub limited_in_real_time : List HfscClass
limited_in_real_time = root ∷ child (Some (straight 4000000)) (straight 4000000) (Some (straight 2000000)) ∷ []

-- three leaves with shares of 2, 3 and 4 megabits a second
abbrev pub three : List HfscClass
three = root ∷ child None (straight 2000000) None ∷ child None (straight 3000000) None ∷ child None (straight 4000000) None ∷ []

-- a class with one leaf below it, and a leaf beside it; the class has a limit, or none
abbrev pub grandchild : HfscClass
grandchild = record { parent = Some 1; real = None; share = Some (straight 4000000); limit = None }

abbrev pub nested : Option Curve → List HfscClass
nested limit = root ∷ child None (straight 4000000) limit ∷ grandchild ∷ child None (straight 4000000) None ∷ []

-- one leaf with this real-time curve
abbrev pub one_leaf : Curve → List HfscClass
one_leaf real = root ∷ child (Some real) (straight 1000000) None ∷ []

-- a packet of the leaf with a limit that is sent at 0, and two that come at the moment `at`, the first of which is sent at once
abbrev pub limited_twice : ℕ → HfscHistory
limited_twice at = with_chosen limited (kept 2 1 at 1000 (with_chosen limited (kept 1 1 0 1000 []) (0 ∷ []))) (at ∷ [])

-- the openings of two packets, the second of which arrives at a moment and the first of which starts at 10 milliseconds
abbrev pub openings_of_two : ℕ → List Opening
openings_of_two at = opens (record { at = at; len = 1000; start = at; end = at } ∷ record { at = 0; len = 1000; start = 10000000; end = 11000000 } ∷ [])

-- 150 packets of 100 bytes for the first leaf at 0, sent one after another; at 16 milliseconds 100 for each, of which n are
-- sent
abbrev pub first_burst : HfscHistory
first_burst = with_chosen filling (kept 150 1 0 100 []) (starts 150 0 100000)

abbrev pub second_burst : ℕ → HfscHistory
second_burst n = with_chosen filling (kept 100 2 16000000 100 (kept 100 1 16000000 100 first_burst)) (starts n 16000000 100000)

-- the least moment that is due for the last packet sent of a class
abbrev pub due_of : ℕ → Curve → HfscHistory → ℕ → Option ℕ
due_of rate s h c = deadline s (opens (rows rate h c)) (units_of (rows rate h c))
