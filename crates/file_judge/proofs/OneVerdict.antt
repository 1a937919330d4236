-- Given files fail in one way, or pass.
use Rattle.std.proofs.Common.{◌≡◌, ◌∙◌, ℕ, List, refl, ap, sym, subst}
use Rattle.altq_model.specs.Departures.{KeepsLength}
use Rattle.conf_laws.specs.Fit.{IsInterface}
use Rattle.fate_busy.specs.Busy.{StartsAtOnce}
use Rattle.fate_check.specs.declared.reading.Row.{Row}
use Rattle.fate_check.specs.Text.{FailsAt}
use Rattle.fate_check.proofs.OneLemmas.{never_both as read_or_not, one_fault, one_reading}
use Rattle.fate_departures.specs.Departures.{DepartOtherwise}
use Rattle.fate_judge.specs.declared.given.Kind.{Kind}
use Rattle.fate_judge.specs.declared.given.Kind.TheVariants as kind
use Rattle.fate_judge.specs.Judged.{PassesAll}
use Rattle.fate_judge.specs.Judged.{IsRefuted as IsRefutedBy}
use Rattle.fate_judge.specs.Walk.{FirstFails}
use Rattle.fate_judge.proofs.OneWay.{none_first, not_refuted, one_answer as one_of_rows, one_first}
use Rattle.fate_laws.proofs.OneDeparture.{never_both as departs_or_not, one_departure}
use Rattle.fate_timely.specs.declared.given.Late.{Late}
use Rattle.fate_timely.specs.Timely.{lates}
use Rattle.file_tests.specs.declared.Test.{Test}
use Rattle.file_tests.specs.declared.Test.TheVariants as test
use Rattle.frame_classes.specs.Handlings.{handling_at}
use Rattle.interface_policy.specs.Policy.{queue_names}
use Rattle.packet_heads.proofs.Lengths.{length-departing}
use Rattle.frame_classes.specs.Frames.{classes_of}
use Rattle.file_judge.specs.Given.{Given, arrived_in, case_of, curves_in, dress_of, packets_in}
use Rattle.file_judge.specs.Verdict.{AreBusy, ArePassed, AreRows, AreTheirDepartures, AreTimely, AreVerified, DepartsOtherwise, EndsByDue, EndsLate, FailsRow, Idles, IsRefuted, test_of}
use Rattle.file_judge.proofs.NamesAre.{names_are}

-- the rows are one list
one_list : (g : Given) (rows others : List Row) → IsInterface g.interface → AreRows g rows → AreRows g others → rows ≡ others
one_list g rows others h a b = one_reading (queue_names g.interface) g.fates rows others (names_are g.interface h) a b

keeps_length : (g : Given) → KeepsLength (dress_of g)
keeps_length g = λ class marked frame. length-departing (handling_at (classes_of g.interface).handlings class).clears marked frame

-- why files are refuted
data Why (g : Given) (row : ℕ) (t : Test) : Type 0 where
  Text : FailsAt (queue_names g.interface) g.fates row → t ≡ test.Text → Why g row t
  Rows : (k : Kind) → FailsRow g row k → t ≡ test_of k → Why g row t
  Busy : Idles g row → t ≡ test.Busy → Why g row t
  Departures : DepartsOtherwise g row → t ≡ test.Departures → Why g row t
  Due : EndsLate g row → t ≡ test.Due → Why g row t

why : (g : Given) (row : ℕ) (t : Test) → IsRefuted g row t → Why g row t
why g row test.Text x = Text x refl
why g row test.Reading x = Rows kind.Reading x refl
why g row test.EachOnce x = Rows kind.EachOnce x refl
why g row test.Order x = Rows kind.Order x refl
why g row test.Moments x = Rows kind.Moments x refl
why g row test.Ends x = Rows kind.Ends x refl
why g row test.Busy x = Busy x refl
why g row test.Departures x = Departures x refl
why g row test.Due x = Due x refl

-- a test that fails does not pass
text_not : (g : Given) (row : ℕ) (rows : List Row) → IsInterface g.interface → FailsAt (queue_names g.interface) g.fates row → AreRows g rows → ⊥
text_not g row rows h x read = read_or_not (queue_names g.interface) g.fates rows row (names_are g.interface h) read x

rows_not : (g : Given) (row : ℕ) (k : Kind) (rows : List Row) → IsInterface g.interface → FailsRow g row k → AreRows g rows → PassesAll (case_of g rows) → ⊥
rows_not g row k rows h x read order =
    let P : List Row → Type 0 = λ r. IsRefutedBy (case_of g r) row k in
    not_refuted (case_of g rows) row k order (subst P (one_list g x.rows rows h x.read read) x.fails)

busy_not : (g : Given) (row : ℕ) (rows : List Row) → IsInterface g.interface → Idles g row → AreRows g rows → AreBusy g rows → ⊥
busy_not g row rows h x read busy =
    let P : List Row → Type 0 = λ r. FirstFails (StartsAtOnce (arrived_in g) r) r row in
    none_first (StartsAtOnce (arrived_in g) rows) rows row (busy x.unlimited) (subst P (one_list g x.rows rows h x.read read) x.fails)

departures_not : (g : Given) (row : ℕ) (rows : List Row) → IsInterface g.interface → DepartsOtherwise g row → AreRows g rows → AreTheirDepartures g rows → ⊥
departures_not g row rows h x read departures =
    let P : List Row → Type 0 = λ r. DepartOtherwise (dress_of g) (packets_in g) r g.departures row in
    departs_or_not (dress_of g) (packets_in g) rows g.departures row (keeps_length g) departures (subst P (one_list g x.rows rows h x.read read) x.fails)

due_not : (g : Given) (row : ℕ) (rows : List Row) → IsInterface g.interface → EndsLate g row → AreRows g rows → AreTimely g.interface rows → ⊥
due_not g row rows h x read timely =
    let P : List Row → Type 0 = λ r. FirstFails (EndsByDue g.interface r) r row in
    none_first (EndsByDue g.interface rows) rows row (timely x.fit) (subst P (one_list g x.rows rows h x.read read) x.fails)

-- files that pass are not refuted
passed_by : (g : Given) (row : ℕ) (t : Test) (rows : List Row) → IsInterface g.interface → ArePassed g rows → Why g row t → ⊥
passed_by g row t rows h p (Text x e) = text_not g row rows h x p.read
passed_by g row t rows h p (Rows k x e) = rows_not g row k rows h x p.read p.order
passed_by g row t rows h p (Busy x e) = busy_not g row rows h x p.read p.busy
passed_by g row t rows h p (Departures x e) = departures_not g row rows h x p.read p.departures
passed_by g row t rows h p (Due x e) = due_not g row rows h x p.read p.timely

pub never_both : (g : Given) (row : ℕ) (t : Test) (came : List Late) → IsInterface g.interface → AreVerified g came → IsRefuted g row t → ⊥
never_both g row t came h v x = passed_by g row t v.rows h v.passed (why g row t x)

-- a test has one first row
rows_one : (g : Given) (row other : ℕ) (k j : Kind) → IsInterface g.interface → FailsRow g row k → FailsRow g other j → (row ≡ other) × (k ≡ j)
rows_one g row other k j h x y =
    let P : List Row → Type 0 = λ r. IsRefutedBy (case_of g r) other j in
    one_of_rows (case_of g x.rows) row other k j x.fails (subst P (one_list g y.rows x.rows h y.read x.read) y.fails)

busy_one : (g : Given) (row other : ℕ) → IsInterface g.interface → Idles g row → Idles g other → row ≡ other
busy_one g row other h x y =
    let P : List Row → Type 0 = λ r. FirstFails (StartsAtOnce (arrived_in g) r) r other in
    one_first (StartsAtOnce (arrived_in g) x.rows) x.rows row other x.fails (subst P (one_list g y.rows x.rows h y.read x.read) y.fails)

departures_one : (g : Given) (row other : ℕ) → IsInterface g.interface → DepartsOtherwise g row → DepartsOtherwise g other → row ≡ other
departures_one g row other h x y =
    let P : List Row → Type 0 = λ r. DepartOtherwise (dress_of g) (packets_in g) r g.departures other in
    one_departure (dress_of g) (packets_in g) x.rows g.departures row other (keeps_length g) x.fails (subst P (one_list g y.rows x.rows h y.read x.read) y.fails)

due_one : (g : Given) (row other : ℕ) → IsInterface g.interface → EndsLate g row → EndsLate g other → row ≡ other
due_one g row other h x y =
    let P : List Row → Type 0 = λ r. FirstFails (EndsByDue g.interface r) r other in
    one_first (EndsByDue g.interface x.rows) x.rows row other x.fails (subst P (one_list g y.rows x.rows h y.read x.read) y.fails)

-- and the least test is one
by_why : (g : Given) (row other : ℕ) (t u : Test) → IsInterface g.interface → Why g row t → Why g other u → (row ≡ other) × (t ≡ u)
by_why g row other t u h (Text x e) (Text y f) = (one_fault (queue_names g.interface) g.fates row other (names_are g.interface h) x y, e ∙ sym f)
by_why g row other t u h (Text x e) (Rows j y f) = absurd (text_not g row y.rows h x y.read)
by_why g row other t u h (Text x e) (Busy y f) = absurd (text_not g row y.rows h x y.read)
by_why g row other t u h (Text x e) (Departures y f) = absurd (text_not g row y.rows h x y.read)
by_why g row other t u h (Text x e) (Due y f) = absurd (text_not g row y.rows h x y.read)
by_why g row other t u h (Rows k x e) (Text y f) = absurd (text_not g other x.rows h y x.read)
by_why g row other t u h (Rows k x e) (Rows j y f) = let s = rows_one g row other k j h x y in (s.0, e ∙ ap test_of s.1 ∙ sym f)
by_why g row other t u h (Rows k x e) (Busy y f) = absurd (rows_not g row k y.rows h x y.read y.order)
by_why g row other t u h (Rows k x e) (Departures y f) = absurd (rows_not g row k y.rows h x y.read y.order)
by_why g row other t u h (Rows k x e) (Due y f) = absurd (rows_not g row k y.rows h x y.read y.order)
by_why g row other t u h (Busy x e) (Text y f) = absurd (text_not g other x.rows h y x.read)
by_why g row other t u h (Busy x e) (Rows j y f) = absurd (rows_not g other j x.rows h y x.read x.order)
by_why g row other t u h (Busy x e) (Busy y f) = (busy_one g row other h x y, e ∙ sym f)
by_why g row other t u h (Busy x e) (Departures y f) = absurd (busy_not g row y.rows h x y.read y.busy)
by_why g row other t u h (Busy x e) (Due y f) = absurd (busy_not g row y.rows h x y.read y.busy)
by_why g row other t u h (Departures x e) (Text y f) = absurd (text_not g other x.rows h y x.read)
by_why g row other t u h (Departures x e) (Rows j y f) = absurd (rows_not g other j x.rows h y x.read x.order)
by_why g row other t u h (Departures x e) (Busy y f) = absurd (busy_not g other x.rows h y x.read x.busy)
by_why g row other t u h (Departures x e) (Departures y f) = (departures_one g row other h x y, e ∙ sym f)
by_why g row other t u h (Departures x e) (Due y f) = absurd (departures_not g row y.rows h x y.read y.departures)
by_why g row other t u h (Due x e) (Text y f) = absurd (text_not g other x.rows h y x.read)
by_why g row other t u h (Due x e) (Rows j y f) = absurd (rows_not g other j x.rows h y x.read x.order)
by_why g row other t u h (Due x e) (Busy y f) = absurd (busy_not g other x.rows h y x.read x.busy)
by_why g row other t u h (Due x e) (Departures y f) = absurd (departures_not g other x.rows h y x.read x.departures)
by_why g row other t u h (Due x e) (Due y f) = (due_one g row other h x y, e ∙ sym f)

pub one_answer : (g : Given) (row other : ℕ) (t u : Test) → IsInterface g.interface → IsRefuted g row t → IsRefuted g other u → (row ≡ other) × (t ≡ u)
one_answer g row other t u h x y = by_why g row other t u h (why g row t x) (why g other u y)

pub one_lateness : (g : Given) (came other : List Late) → IsInterface g.interface → AreVerified g came → AreVerified g other → came ≡ other
one_lateness g came other h x y =
    x.late ∙ ap (lates (curves_in g.interface)) (one_list g x.rows y.rows h x.passed.read y.passed.read) ∙ sym y.late
