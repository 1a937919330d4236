-- Due moments of the packets that rows send, and how late each leaf came.
use Rattle.std.specs.Prelude.{◌≤◌, ◌<◌, ◌+◌, ◌==◌, ◌-ℤ◌, ℕ, ℤ, pos, max, List, [], ◌∷◌, Option, None, Some, if◌then◌else◌, get_or, Bool, true, nat_le}
use Rattle.std.specs.Int.{int_max}
use Rattle.altq_model.specs.declared.Fate.{Fate}
use Rattle.altq_model.specs.declared.Fate.TheVariants.{Dropped, Sent}
use Rattle.journal_laws.specs.Journal.{IfSent, NoneAbove, starts}
use Rattle.service_curve.specs.declared.Curve.{Curve}
use Rattle.runtime_curve.specs.Deadline.{deadline}
use Rattle.hfsc_model.specs.Timely.{IsDue, opens, units_of, Row as SentRow}
use Rattle.fate_check.specs.declared.reading.Row.{Row}
use Rattle.fate_judge.specs.Given.{decisions}
use Rattle.fate_judge.specs.Walk.{newest_first}
use Rattle.fate_timely.specs.declared.given.Late.{Late}

-- the packets that a class sent, the newest first
abbrev pub with_sent : Row → Fate → List SentRow → List SentRow
with_sent r (Dropped reason) rs = rs
with_sent r (Sent start end rule) rs = record { at = r.at; len = r.len; start = start; end = end } ∷ rs

abbrev pub sent_rows : (class : ℕ) → (before : List Row) → List SentRow
sent_rows class [] = []
sent_rows class (r ∷ before) = if r.class == class then with_sent r r.fate (sent_rows class before) else sent_rows class before

-- the longest packet that rows send
abbrev pub longest_then : (len : ℕ) → Fate → ℕ → ℕ
longest_then len (Dropped reason) most = most
longest_then len (Sent start end rule) most = max len most

abbrev pub longest_sent : List Row → ℕ
longest_sent [] = 0
longest_sent (r ∷ rows) = longest_then r.len r.fate (longest_sent rows)

-- the real-time curve of a class
abbrev pub curve_at : List (Option Curve) → (class : ℕ) → Option Curve
curve_at curves class = get_or curves class None

-- a fact of the curve, where there is one
abbrev pub ForCurve : Option Curve → (Curve → Type 0) → Type 0
ForCurve None P = Unit {0}
ForCurve (Some s) P = P s

-- a packet of a class with a curve ends at most `most` after each moment that is due for it
abbrev pub EndsInTime : List (Option Curve) → (most : ℕ) → (before : List Row) → Row → Type 0
EndsInTime curves most before r =
    IfSent r.fate (λ start end. ForCurve (curve_at curves r.class) (λ s. (u : ℕ) → IsDue s (sent_rows r.class (r ∷ before)) u → end ≤ u + most))

-- no packet is empty; none starts before it arrives, nor before one that was sent before it
abbrev pub StartsInTurn : (before : List Row) → Row → Type 0
StartsInTurn before r = (0 < r.len) × IfSent r.fate (λ start end. (r.at ≤ start) × NoneAbove start (starts (decisions before)))

-- the end less the due moment, which is the first moment that is due
abbrev pub late : (end : ℕ) → Option ℕ → Option ℤ
late end None = None
late end (Some due) = Some (pos end -ℤ pos due)

-- of the newest packet
abbrev pub lateness : Curve → List SentRow → Option ℤ
lateness s [] = None
lateness s (r ∷ rs) = late r.end (deadline s (opens (r ∷ rs)) (units_of (r ∷ rs)))

-- whether that is at most `most`
abbrev pub is_in_time : (end : ℕ) → (due most : Option ℕ) → Bool
is_in_time end None most = true
is_in_time end (Some due) None = true
is_in_time end (Some due) (Some most) = nat_le end (due + most)

abbrev pub later : Option ℤ → Option ℤ → Option ℤ
later None b = b
later (Some x) None = Some x
later (Some x) (Some y) = Some (int_max x y)

-- the greatest of all packets that have a due moment
abbrev pub worst : Curve → List SentRow → Option ℤ
worst s [] = None
worst s (r ∷ rs) = later (lateness s (r ∷ rs)) (worst s rs)

-- of each class with a curve, in the order of the classes
abbrev pub late_of : (class : ℕ) → Option Curve → (before : List Row) → List Late → List Late
late_of class None before rest = rest
late_of class (Some s) before rest = record { class = class; worst = worst s (sent_rows class before) } ∷ rest

abbrev pub lates_from : (class : ℕ) → List (Option Curve) → (before : List Row) → List Late
lates_from class [] before = []
lates_from class (o ∷ curves) before = late_of class o before (lates_from (class + 1) curves before)

abbrev pub lates : List (Option Curve) → List Row → List Late
lates curves rows = lates_from 0 curves (newest_first rows [])
