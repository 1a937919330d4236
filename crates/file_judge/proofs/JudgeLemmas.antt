-- A judgement, test by test.
use Rattle.std.proofs.Common.{◌≡◌, ◌∙◌, ℕ, List, [], map, true, ap, subst}
use Rattle.altq_model.specs.History.{Arrival}
use Rattle.fate_busy.specs.Busy.{StartsAtOnce}
use Rattle.fate_check.specs.declared.reading.Row.{Row}
use Rattle.fate_departures.specs.Departures.{AreDepartures, DepartOtherwise}
use Rattle.fate_judge.specs.Judged.{PassesAll}
use Rattle.fate_judge.specs.Judged.{IsRefuted as IsRefutedBy}
use Rattle.fate_judge.specs.Walk.{EachRow, FirstFails}
use Rattle.fate_timely.specs.declared.given.Late.{Late}
use Rattle.fate_timely.specs.Timely.{lates}
use Rattle.file_tests.specs.declared.Test.TheVariants as test
use Rattle.given_play.specs.Rights.{allowed_of}
use Rattle.file_judge.specs.Given.{Given, arrived_in, captured_of, case_of, curves_in, dress_of, is_unlimited}
use Rattle.file_judge.specs.Verdict.{AreBusy, AreRows, AreTheirDepartures, AreTimely, AreVerified, EndsByDue, FitTheLink, IfRows, IfTest, IsUnverified}
use Rattle.file_judge.specs.declared.verdict.Unverified.{Unverified}
use Rattle.file_judge.proofs.VerdictLemmas.{busy_passed, busy_unverified, departures_passed, departures_unverified, due_unverified, packets_same, rows_passed, rows_unverified, with_frames}

-- the rows that were read, the packets that arrived, and their frames
pub record IsHeldTo (g : Given) (rows : List Row) (ps : List Arrival) (fs : List (List ℕ)) : Type 0 where
  pub reads : AreRows g rows
  pub comes : ps ≡ arrived_in g
  pub frames : fs ≡ map captured_of g.records

-- the tests of rows, over the same lists
pub unverified_rows : (g : Given) (rows rs : List Row) (ps qs : List Arrival) (fs : List (List ℕ)) (u : Unverified) → IsHeldTo g rows ps fs
    → rs ≡ rows → qs ≡ ps → IfRows (IsRefutedBy (record { rate = g.interface.rate; classes = allowed_of g.interface; arrived = qs; rows = rs })) u
    → IsUnverified g u
unverified_rows g rows rs ps qs fs u h same also x =
    let P : List Row → Type 0 = λ r. IfRows (IsRefutedBy (record { rate = g.interface.rate; classes = allowed_of g.interface; arrived = qs; rows = r })) u in
    rows_unverified g rows qs u (also ∙ h.comes) h.reads (subst P same x)

pub passed_rows : (g : Given) (rows rs : List Row) (ps qs : List Arrival) (fs : List (List ℕ)) → IsHeldTo g rows ps fs
    → rs ≡ rows → qs ≡ ps → PassesAll (record { rate = g.interface.rate; classes = allowed_of g.interface; arrived = qs; rows = rs }) → PassesAll (case_of g rows)
passed_rows g rows rs ps qs fs h same also x =
    let P : List Row → Type 0 = λ r. PassesAll (record { rate = g.interface.rate; classes = allowed_of g.interface; arrived = qs; rows = r }) in
    rows_passed g rows qs (also ∙ h.comes) (subst P same x)

pub unverified_busy : (g : Given) (rows rs : List Row) (ps qs : List Arrival) (fs : List (List ℕ)) (u : Unverified) → IsHeldTo g rows ps fs
    → rs ≡ rows → qs ≡ ps → PassesAll (case_of g rows)
    → IfTest test.Busy (λ row. (is_unlimited g.interface ≡ true) × FirstFails (StartsAtOnce qs rs) rs row) u → IsUnverified g u
unverified_busy g rows rs ps qs fs u h same also order x =
    let P : List Row → Type 0 = λ r. IfTest test.Busy (λ row. (is_unlimited g.interface ≡ true) × FirstFails (StartsAtOnce qs r) r row) u in
    busy_unverified g rows qs u (also ∙ h.comes) h.reads order (subst P same x)

pub passed_busy : (g : Given) (rows rs : List Row) (ps qs : List Arrival) (fs : List (List ℕ)) → IsHeldTo g rows ps fs
    → rs ≡ rows → qs ≡ ps → (is_unlimited g.interface ≡ true → EachRow (StartsAtOnce qs rs) [] rs) → AreBusy g rows
passed_busy g rows rs ps qs fs h same also x =
    let P : List Row → Type 0 = λ r. is_unlimited g.interface ≡ true → EachRow (StartsAtOnce qs r) [] r in
    λ free. busy_passed g rows qs (also ∙ h.comes) (subst P same x) free

pub unverified_departures : (g : Given) (rows rs : List Row) (ps qs : List Arrival) (fs : List (List ℕ)) (u : Unverified) → IsHeldTo g rows ps fs
    → rs ≡ rows → qs ≡ ps → PassesAll (case_of g rows) → AreBusy g rows
    → IfTest test.Departures (DepartOtherwise (dress_of g) (with_frames g qs fs) rs g.departures) u → IsUnverified g u
unverified_departures g rows rs ps qs fs u h same also order busy x =
    let P : List Row → Type 0 = λ r. IfTest test.Departures (DepartOtherwise (dress_of g) (with_frames g qs fs) r g.departures) u in
    departures_unverified g rows (with_frames g qs fs) u (packets_same g qs fs (also ∙ h.comes) h.frames) h.reads order busy (subst P same x)

pub passed_departures : (g : Given) (rows rs : List Row) (ps qs : List Arrival) (fs : List (List ℕ)) → IsHeldTo g rows ps fs
    → rs ≡ rows → qs ≡ ps → AreDepartures (dress_of g) (with_frames g qs fs) rs g.departures → AreTheirDepartures g rows
passed_departures g rows rs ps qs fs h same also x =
    let P : List Row → Type 0 = λ r. AreDepartures (dress_of g) (with_frames g qs fs) r g.departures in
    departures_passed g rows (with_frames g qs fs) (packets_same g qs fs (also ∙ h.comes) h.frames) (subst P same x)

pub unverified_due : (g : Given) (rows rs : List Row) (ps : List Arrival) (fs : List (List ℕ)) (u : Unverified) → IsHeldTo g rows ps fs
    → rs ≡ rows → PassesAll (case_of g rows) → AreBusy g rows → AreTheirDepartures g rows
    → IfTest test.Due (λ row. FitTheLink g.interface × FirstFails (EndsByDue g.interface rs) rs row) u → IsUnverified g u
unverified_due g rows rs ps fs u h same order busy departures x =
    let P : List Row → Type 0 = λ r. IfTest test.Due (λ row. FitTheLink g.interface × FirstFails (EndsByDue g.interface r) r row) u in
    due_unverified g rows u h.reads order busy departures (subst P same x)

pub verified : (g : Given) (rows rs : List Row) (ps : List Arrival) (fs : List (List ℕ)) (late : List Late) → IsHeldTo g rows ps fs
    → rs ≡ rows → PassesAll (case_of g rows) → AreBusy g rows → AreTheirDepartures g rows → AreTimely g.interface rs → late ≡ lates (curves_in g.interface) rs
    → AreVerified g late
verified g rows rs ps fs late h same order busy departures timely is =
    let P : List Row → Type 0 = λ r. AreTimely g.interface r in
    record {
      rows = rows;
      passed = record { read = h.reads; order = order; busy = busy; departures = departures; timely = subst P same timely };
      late = is ∙ ap (lates (curves_in g.interface)) same;
    }
