-- From the tests of lists to those of files.
use Rattle.std.proofs.Common.{◌≡◌, ◌≤◌, ◌<◌, ◌∙◌, ℕ, suc, List, [], ◌∷◌, length, map, true, refl, ap, sym, subst, arith}
use Rattle.std.specs.Prelude.{All}
use Rattle.altq_model.specs.History.{Arrival}
use Rattle.capture_model.specs.Capture.{Record}
use Rattle.fate_busy.specs.Busy.{StartsAtOnce}
use Rattle.fate_check.specs.declared.reading.Row.{Row}
use Rattle.fate_departures.specs.Departures.{AreDepartures, DepartOtherwise}
use Rattle.fate_departures.specs.Frames.{Packets, bytes_of}
use Rattle.fate_judge.specs.declared.given.Allowed.{Allowed}
use Rattle.fate_judge.specs.declared.given.Kind.{Kind}
use Rattle.fate_judge.specs.declared.given.Kind.TheVariants as kind
use Rattle.fate_judge.specs.Judged.{PassesAll}
use Rattle.fate_judge.specs.Judged.{IsRefuted as IsRefutedBy}
use Rattle.fate_judge.specs.Reading.{IsRead}
use Rattle.fate_judge.specs.Tests.{IsNumbered}
use Rattle.fate_judge.specs.Walk.{EachRow, FirstFails}
use Rattle.fate_laws.specs.Plays.{AreSome}
use Rattle.file_tests.specs.declared.Test.{Test}
use Rattle.file_tests.specs.declared.Test.TheVariants as test
use Rattle.given_play.specs.Rights.{allowed_of, marks_of}
use Rattle.input_files.specs.Records.{Shown, shown_of}
use Rattle.file_judge.specs.Given.{Given, arrived_in, captured_of, case_of, dress_of, is_unlimited, packets_in}
use Rattle.file_judge.specs.Verdict.{AreBusy, AreRows, AreTheirDepartures, EndsByDue, FitTheLink, IfRows, IfTest, IsRefuted, IsUnverified, test_of}
use Rattle.file_judge.specs.declared.verdict.Unverified.{Unverified}
use Rattle.file_judge.specs.declared.verdict.Unverified.TheVariants.{At, NoMemory}

-- rows that are read have numbers of packets
pub numbered : (classes : List Allowed) (arrived : List Arrival) (n : ℕ) (before rows : List Row) → length arrived ≡ n
    → EachRow (IsRead classes arrived) before rows → EachRow (IsNumbered n) before rows
numbered classes arrived n before [] is h = tt
numbered classes arrived n before (r ∷ rows) is h =
    let P : ℕ → Type 0 = λ m. r.number ≤ m in
    (record { from_one = h.0.from_one; there = subst P is h.0.there }, numbered classes arrived n (r ∷ before) rows is h.1)

-- packets of an interface with these frames
abbrev pub with_frames : Given → List Arrival → List (List ℕ) → Packets
with_frames g arrived frames = record { arrived = arrived; frames = frames; marks = marks_of g.interface }

-- the bytes of shown records are those captured
captured_bytes : (capture : List Record) → map bytes_of (map shown_of capture) ≡ map captured_of capture
captured_bytes [] = refl
captured_bytes (r ∷ capture) = ap (λ (xs : List (List ℕ)). r.captured ∷ xs) (captured_bytes capture)

pub bytes_same : (shown : List Shown) (capture : List Record) → shown ≡ map shown_of capture → map bytes_of shown ≡ map captured_of capture
bytes_same shown capture e = ap (map bytes_of) e ∙ captured_bytes capture

-- a test of rows
rows_fail : (g : Given) (rows : List Row) (row : ℕ) (k : Kind) → AreRows g rows → IsRefutedBy (case_of g rows) row k → IsRefuted g row (test_of k)
rows_fail g rows row kind.Reading read x = record { rows = rows; read = read; fails = x }
rows_fail g rows row kind.EachOnce read x = record { rows = rows; read = read; fails = x }
rows_fail g rows row kind.Order read x = record { rows = rows; read = read; fails = x }
rows_fail g rows row kind.Moments read x = record { rows = rows; read = read; fails = x }
rows_fail g rows row kind.Ends read x = record { rows = rows; read = read; fails = x }

pub rows_unverified : (g : Given) (rows : List Row) (arrived : List Arrival) (u : Unverified) → arrived ≡ arrived_in g → AreRows g rows
    → IfRows (IsRefutedBy (record { rate = g.interface.rate; classes = allowed_of g.interface; arrived = arrived; rows = rows })) u → IsUnverified g u
rows_unverified g rows arrived NoMemory is read x = tt
rows_unverified g rows arrived (At row t) is read x =
    let P : List Arrival → Type 0 = λ a. IsRefutedBy (record { rate = g.interface.rate; classes = allowed_of g.interface; arrived = a; rows = rows }) row x.0 in
    let Q : Test → Type 0 = λ u. IsRefuted g row u in
    subst Q (sym x.1) (rows_fail g rows row x.0 read (subst P is x.2))

pub rows_passed : (g : Given) (rows : List Row) (arrived : List Arrival) → arrived ≡ arrived_in g
    → PassesAll (record { rate = g.interface.rate; classes = allowed_of g.interface; arrived = arrived; rows = rows }) → PassesAll (case_of g rows)
rows_passed g rows arrived is x =
    let P : List Arrival → Type 0 = λ a. PassesAll (record { rate = g.interface.rate; classes = allowed_of g.interface; arrived = a; rows = rows }) in
    subst P is x

-- the link's
pub busy_passed : (g : Given) (rows : List Row) (arrived : List Arrival) → arrived ≡ arrived_in g
    → (is_unlimited g.interface ≡ true → EachRow (StartsAtOnce arrived rows) [] rows) → is_unlimited g.interface ≡ true
    → EachRow (StartsAtOnce (arrived_in g) rows) [] rows
busy_passed g rows arrived is x free =
    let P : List Arrival → Type 0 = λ a. EachRow (StartsAtOnce a rows) [] rows in
    subst P is (x free)

pub busy_unverified : (g : Given) (rows : List Row) (arrived : List Arrival) (u : Unverified) → arrived ≡ arrived_in g → AreRows g rows
    → PassesAll (case_of g rows)
    → IfTest test.Busy (λ row. (is_unlimited g.interface ≡ true) × FirstFails (StartsAtOnce arrived rows) rows row) u → IsUnverified g u
busy_unverified g rows arrived NoMemory is read order x = tt
busy_unverified g rows arrived (At row t) is read order x =
    let P : List Arrival → Type 0 = λ a. FirstFails (StartsAtOnce a rows) rows row in
    let Q : Test → Type 0 = λ u. IsRefuted g row u in
    subst Q (sym x.0) (record { rows = rows; read = read; order = order; unlimited = x.1.0; fails = subst P is x.1.1 })

-- the departures'
pub packets_same : (g : Given) (arrived : List Arrival) (frames : List (List ℕ)) → arrived ≡ arrived_in g → frames ≡ map captured_of g.records
    → with_frames g arrived frames ≡ packets_in g
packets_same g arrived frames is same =
    ap (λ (a : List Arrival). with_frames g a frames) is ∙ ap (λ (f : List (List ℕ)). with_frames g (arrived_in g) f) same

pub departures_unverified : (g : Given) (rows : List Row) (p : Packets) (u : Unverified) → p ≡ packets_in g → AreRows g rows
    → PassesAll (case_of g rows) → AreBusy g rows → IfTest test.Departures (DepartOtherwise (dress_of g) p rows g.departures) u → IsUnverified g u
departures_unverified g rows p NoMemory is read order busy x = tt
departures_unverified g rows p (At row t) is read order busy x =
    let P : Packets → Type 0 = λ q. DepartOtherwise (dress_of g) q rows g.departures row in
    let Q : Test → Type 0 = λ u. IsRefuted g row u in
    subst Q (sym x.0) (record { rows = rows; read = read; order = order; busy = busy; fails = subst P is x.1 })

pub departures_passed : (g : Given) (rows : List Row) (p : Packets) → p ≡ packets_in g → AreDepartures (dress_of g) p rows g.departures
    → AreTheirDepartures g rows
departures_passed g rows p is x = let P : Packets → Type 0 = λ q. AreDepartures (dress_of g) q rows g.departures in subst P is x

-- the due moments'
pub due_unverified : (g : Given) (rows : List Row) (u : Unverified) → AreRows g rows → PassesAll (case_of g rows) → AreBusy g rows → AreTheirDepartures g rows
    → IfTest test.Due (λ row. FitTheLink g.interface × FirstFails (EndsByDue g.interface rows) rows row) u → IsUnverified g u
due_unverified g rows NoMemory read order busy departures x = tt
due_unverified g rows (At row t) read order busy departures x =
    let Q : Test → Type 0 = λ u. IsRefuted g row u in
    subst Q (sym x.0) (record { rows = rows; read = read; order = order; busy = busy; departures = departures; fit = x.1.0; fails = x.1.1 })

-- no packet is empty
pub are_some : (arrived : List Arrival) → All (λ (a : Arrival). 0 < a.len) arrived → AreSome arrived
are_some [] h = tt
are_some (a ∷ rest) h = (h 0 a (omega arith), are_some rest (λ k d lt. h (suc k) d (omega arith)))
