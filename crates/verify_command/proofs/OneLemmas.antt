-- What the files say must come is one outcome.
use Rattle.std.proofs.Common.{◌≡◌, ◌∙◌, ◌⊎◌, inl, inr, ℕ, List, length, None, Some, Ok, Err, ap, refl, sym, subst, arith}
use Rattle.capture_model.specs.Capture.{End, Fault, IsLast, Limit, Reads, Record, Step}
use Rattle.conf_laws.specs.Fit.{IsInterface}
use Rattle.conf_laws.specs.Laws.{ConfigurationsFit}
use Rattle.conf_tree.specs.declared.interface.Interface.{Interface}
use Rattle.file_judge.specs.Given.{Given as JudgedFiles}
use Rattle.file_judge.specs.Verdict.{AreVerified, IsRefuted}
use Rattle.file_judge.proofs.OneVerdict.{never_both, one_answer}
use Rattle.file_plans.specs.declared.part.Part.TheVariants as part
use Rattle.file_tests.specs.declared.Test.{Test}
use Rattle.interface_marks.specs.Conditioners.{marked_in}
use Rattle.pcap_files.proofs.ReadingLaws.{one_reading}
use Rattle.play_base.specs.View.{View}
use Rattle.run_inputs.specs.Says.{AreReady, Asked, Given, Inputs}
use Rattle.run_inputs.proofs.OneThing.{one_ready}
use Rattle.run_outcomes.specs.Outcome.{Outcome}
use Rattle.run_outcomes.specs.declared.outcome.CaptureStop.TheVariants as capture
use Rattle.run_outcomes.specs.declared.outcome.Done.TheVariants as done
use Rattle.run_outcomes.specs.declared.outcome.Failure.{Failure}
use Rattle.run_outcomes.specs.declared.outcome.Failure.TheVariants as failure
use Rattle.run_outcomes.specs.declared.outcome.Link.TheVariants as link
use Rattle.command_form.specs.Given.{IsGiven}
use Rattle.command_form.specs.Names.{GivenNames}
use Rattle.command_form.proofs.FitLemmas.{ready_fits}
use Rattle.verify_command.specs.Verifying.{AreGivenFiles, AreRefuted, ArrivalsEndWith, HasDepartures, HasReading, Holds, IsLong, IsVerified, VerifyExpected, verify_command}

same_given : (g h : Given) → Some g ≡ Some h → g ≡ h
same_given g h e = cc

same_bytes : (xs ys : List ℕ) → Some xs ≡ Some ys → xs ≡ ys
same_bytes xs ys e = cc

no_bytes : (xs : List ℕ) → None ≡ Some xs → ⊥
no_bytes xs e = cc

-- what is so of what is given is so of it whoever says it
again : (v : View) (a : Asked) (P Q : Interface → Given → Type 0) → IsGiven v a P → (y : IsGiven v a Q) → P y.inputs.configured.found y.given
again v a P Q x y =
    let same : x.inputs ≡ y.inputs = one_ready v a x.inputs y.inputs x.ready y.ready in
    let given : x.given ≡ y.given = same_given x.given y.given (sym x.is_given ∙ ap (λ (z : Inputs). z.given) same ∙ y.is_given) in
    let R : Interface → Type 0 = λ i. P i y.given in
    let S : Given → Type 0 = λ g. P x.inputs.configured.found g in
    subst R (ap (λ (z : Inputs). z.configured.found) same) (subst S given x.holds)

-- and what follows of it
pub given_as : (v : View) (a : Asked) (P Q : Interface → Given → Type 0) → ((i : Interface) (g : Given) → P i g → Q i g) → IsGiven v a P → IsGiven v a Q
given_as v a P Q so x =
    record { inputs = x.inputs; ready = x.ready; given = x.given; is_given = x.is_given; holds = so x.inputs.configured.found x.given x.holds }

one_last : (v : View) (n : GivenNames) (p q : Step) → IsLast p → IsLast q → ArrivalsEndWith v n p → ArrivalsEndWith v n q → p ≡ q
one_last v n p q hp hq x y =
    let z = again v (verify_command n).asked (λ i g. HasReading (marked_in i g.capture) p) (λ i g. HasReading (marked_in i g.capture) q) x y in
    (one_reading (marked_in y.inputs.configured.found y.given.capture) z.0 y.holds.0 p q z.1 hp y.holds.1 hq).1

-- THE ARRIVALS
abbrev IsStop : Step → Type 0
IsStop (Fault found) = Unit {0}
IsStop Limit = Unit {0}
IsStop other = ⊥

is_last : (s : Step) → IsStop s → IsLast s
is_last (Fault found) h = tt
is_last Limit h = tt
is_last other h = absurd h

abbrev end_outcome : Step → Outcome
end_outcome (Fault found) = Err (failure.Capture link.Sole (capture.Damage found))
end_outcome Limit = Err (failure.Capture link.Sole capture.TooLong)
end_outcome other = Err failure.NoMemory

abbrev ArrivalsStop : View → GivenNames → Outcome → Type 0
ArrivalsStop v n o = (s : Step) × IsStop s × ArrivalsEndWith v n s × (o ≡ end_outcome s)

arrivals_one : (v : View) (n : GivenNames) (o p : Outcome) → ArrivalsStop v n o → ArrivalsStop v n p → o ≡ p
arrivals_one v n o p x y = x.3 ∙ ap end_outcome (one_last v n x.0 y.0 (is_last x.0 x.1) (is_last y.0 y.1) x.2 y.2) ∙ sym y.3

arrivals_not : (v : View) (n : GivenNames) (o : Outcome) → ArrivalsStop v n o → ArrivalsEndWith v n End → ⊥
arrivals_not v n o x y = subst (λ (s : Step). IsStop s) (one_last v n x.0 End (is_last x.0 x.1) tt x.2 y) x.1

-- THE DEPARTURES AND THE FATES
abbrev FileStop : View → (name : List ℕ) → (long gone o : Outcome) → Type 0
FileStop v name long gone o = (IsLong v name × (o ≡ long)) ⊎ ((v.bytes name ≡ None) × (o ≡ gone))

file_one : (v : View) (name : List ℕ) (long gone o p : Outcome) → FileStop v name long gone o → FileStop v name long gone p → o ≡ p
file_one v name long gone o p (inl a) (inl b) = a.1 ∙ sym b.1
file_one v name long gone o p (inl a) (inr b) = absurd (no_bytes a.0.bytes (sym b.0 ∙ a.0.at))
file_one v name long gone o p (inr a) (inl b) = absurd (no_bytes b.0.bytes (sym a.0 ∙ b.0.at))
file_one v name long gone o p (inr a) (inr b) = a.1 ∙ sym b.1

abbrev HasFile : View → (name : List ℕ) → Type 0
HasFile v name = (bytes : List ℕ) × Holds v name bytes

file_not : (v : View) (name : List ℕ) (long gone o : Outcome) → FileStop v name long gone o → HasFile v name → ⊥
file_not v name long gone o (inl a) b =
    let same : a.0.bytes ≡ b.0 = same_bytes a.0.bytes b.0 (sym a.0.at ∙ b.1.at) in
    absurd (omega (arith, a.0.long, b.1.short, ap length same))
file_not v name long gone o (inr a) b = no_bytes b.0 (sym a.0 ∙ b.1.at)

-- ALL OF THEM
abbrev Judged : View → GivenNames → Outcome → Type 0
Judged v n o = ((row : ℕ) × (test : Test) × AreRefuted v n row test × (o ≡ Err (failure.Refuted row test))) ⊎ (IsVerified v n × (o ≡ Ok done.Done))

made_same : (i j : Interface) (rs ss : List Record) (ds es fs gs : List ℕ) → i ≡ j → rs ≡ ss → ds ≡ es → fs ≡ gs
    → ◌≡◌ {A = JudgedFiles} (record { interface = i; records = rs; departures = ds; fates = fs }) (record { interface = j; records = ss; departures = es; fates = gs })
made_same i j rs ss ds es fs gs a b c d = cc

one_given : (v : View) (n : GivenNames) (j k : JudgedFiles) → AreGivenFiles v n j → AreGivenFiles v n k → j ≡ k
one_given v n j k a b =
    let x = again v (verify_command n).asked (λ i g. (i ≡ j.interface) × Reads (marked_in i g.capture) j.records End)
    (λ i g. (i ≡ k.interface) × Reads (marked_in i g.capture) k.records End) a.arrivals b.arrivals in
    let y = b.arrivals in
    let reading = one_reading (marked_in y.inputs.configured.found y.given.capture) j.records k.records End End x.1 tt y.holds.1 tt in
    made_same j.interface k.interface j.records k.records j.departures k.departures j.fates k.fates (sym x.0 ∙ y.holds.0) reading.0
    (same_bytes j.departures k.departures (sym a.departures.at ∙ b.departures.at)) (same_bytes j.fates k.fates (sym a.fates.at ∙ b.fates.at))

is_interface : (fit : ConfigurationsFit) (v : View) (n : GivenNames) (j : JudgedFiles) → AreGivenFiles v n j → IsInterface j.interface
is_interface fit v n j a =
    subst (λ (i : Interface). IsInterface i) a.arrivals.holds.0 (ready_fits fit v (verify_command n).asked a.arrivals.inputs a.arrivals.ready)

never : (fit : ConfigurationsFit) (v : View) (n : GivenNames) (row : ℕ) (t : Test) → AreRefuted v n row t → IsVerified v n → ⊥
never fit v n row t a b =
    let same : b.given ≡ a.given = one_given v n b.given a.given b.are a.are in
    never_both a.given row t b.late (is_interface fit v n a.given a.are) (subst (λ (g : JudgedFiles). AreVerified g b.late) same b.verified) a.refuted

refuted_same : (row other : ℕ) (t u : Test) → row ≡ other → t ≡ u → failure.Refuted row t ≡ failure.Refuted other u
refuted_same row other t u a b = cc

judged_one : (fit : ConfigurationsFit) (v : View) (n : GivenNames) (o p : Outcome) → Judged v n o → Judged v n p → o ≡ p
judged_one fit v n o p (inl a) (inl b) =
    let same : b.2.given ≡ a.2.given = one_given v n b.2.given a.2.given b.2.are a.2.are in
    let one = one_answer a.2.given a.0 b.0 a.1 b.1 (is_interface fit v n a.2.given a.2.are) a.2.refuted
    (subst (λ (g : JudgedFiles). IsRefuted g b.0 b.1) same b.2.refuted) in
    a.3 ∙ ap {B = Outcome} (λ (f : Failure). Err f) (refuted_same a.0 b.0 a.1 b.1 one.0 one.1) ∙ sym b.3
judged_one fit v n o p (inl a) (inr b) = absurd (never fit v n a.0 a.1 a.2 b.0)
judged_one fit v n o p (inr a) (inl b) = absurd (never fit v n b.0 b.1 b.2 a.0)
judged_one fit v n o p (inr a) (inr b) = a.1 ∙ sym b.1

-- it stops at one file, or goes on
abbrev Stage : (Stop : Outcome → Type 0) (Had : Type 0) (Later : Outcome → Type 0) → Outcome → Type 0
Stage Stop Had Later o = Stop o ⊎ (Had × Later o)

stage_one : (Stop Later : Outcome → Type 0) (Had : Type 0) → ((o p : Outcome) → Stop o → Stop p → o ≡ p) → ((o : Outcome) → Stop o → Had → ⊥)
    → ((o p : Outcome) → Later o → Later p → o ≡ p) → (o p : Outcome) → Stage Stop Had Later o → Stage Stop Had Later p → o ≡ p
stage_one Stop Later Had one not later o p (inl a) (inl b) = one o p a b
stage_one Stop Later Had one not later o p (inl a) (inr b) = absurd (not o a b.0)
stage_one Stop Later Had one not later o p (inr a) (inl b) = absurd (not p b a.0)
stage_one Stop Later Had one not later o p (inr a) (inr b) = later o p a.1 b.1

abbrev FatesStop : View → GivenNames → Outcome → Type 0
FatesStop v n o = FileStop v n.fates (Err (failure.TooLong part.Fates)) (Err (failure.Read part.Fates)) o

abbrev FromFates : View → GivenNames → Outcome → Type 0
FromFates v n o = Stage (FatesStop v n) (HasFile v n.fates) (Judged v n) o

abbrev DeparturesStop : View → GivenNames → Outcome → Type 0
DeparturesStop v n o = FileStop v n.departures (Err (failure.TooLong part.Departures)) (Err (failure.Read part.Departures)) o

abbrev FromDepartures : View → GivenNames → Outcome → Type 0
FromDepartures v n o = Stage (DeparturesStop v n) (HasFile v n.departures) (FromFates v n) o

abbrev Case : View → GivenNames → Outcome → Type 0
Case v n o = Stage (ArrivalsStop v n) (ArrivalsEndWith v n End) (FromDepartures v n) o

one_case : (fit : ConfigurationsFit) (v : View) (n : GivenNames) (o p : Outcome) → Case v n o → Case v n p → o ≡ p
one_case fit v n o p a b =
    stage_one (ArrivalsStop v n) (FromDepartures v n) (ArrivalsEndWith v n End) (arrivals_one v n) (arrivals_not v n)
    (stage_one (DeparturesStop v n) (FromFates v n) (HasFile v n.departures) (file_one v n.departures _ _) (file_not v n.departures _ _)
    (stage_one (FatesStop v n) (Judged v n) (HasFile v n.fates) (file_one v n.fates _ _) (file_not v n.fates _ _) (judged_one fit v n)))
    o p a b

-- EACH CASE
at_fates : (v : View) (n : GivenNames) (o : Outcome) → HasDepartures v n → FromFates v n o → Case v n o
at_fates v n o a x = inr (a.arrivals, inr ((a.bytes, a.departures), x))

-- where the files are given, the departures are had
pub given_departures : (v : View) (n : GivenNames) (j : JudgedFiles) → AreGivenFiles v n j → HasDepartures v n
given_departures v n j a = record {
  arrivals = given_as v (verify_command n).asked _ _ (λ i g h. (j.records, h.1)) a.arrivals;
  bytes = j.departures;
  departures = a.departures;
}

at_files : (v : View) (n : GivenNames) (o : Outcome) (j : JudgedFiles) → AreGivenFiles v n j → Judged v n o → Case v n o
at_files v n o j a x = at_fates v n o (given_departures v n j a) (inr ((j.fates, a.fates), x))

expected_case : (v : View) (n : GivenNames) (o : Outcome) → VerifyExpected v n o → Case v n o
expected_case v n (Ok done.Done) x = at_files v n _ x.given x.are (inr (x, refl))
expected_case v n (Err (failure.Capture link.Sole (capture.Damage d))) x = inl (Fault d, tt, x, refl)
expected_case v n (Err (failure.Capture link.Sole capture.TooLong)) x = inl (Limit, tt, x, refl)
expected_case v n (Err (failure.Read part.Departures)) x = inr (x.0, inl (inr (x.1, refl)))
expected_case v n (Err (failure.Read part.Fates)) x = at_fates v n _ x.0 (inl (inr (x.1, refl)))
expected_case v n (Err (failure.TooLong part.Departures)) x = inr (x.arrivals, inl (inl (x.long, refl)))
expected_case v n (Err (failure.TooLong part.Fates)) x = at_fates v n _ x.departures (inl (inl (x.long, refl)))
expected_case v n (Err (failure.Refuted row test)) x = at_files v n _ x.given x.are (inl (row, test, x, refl))
expected_case v n other x = absurd x

-- WHAT MUST COME IS ONE OUTCOME, of inputs that are ready
pub one_expected : (fit : ConfigurationsFit) (v : View) (n : GivenNames) (o p : Outcome) → VerifyExpected v n o → VerifyExpected v n p → o ≡ p
one_expected fit v n o p x y = one_case fit v n o p (expected_case v n o x) (expected_case v n p y)

case_ready : (v : View) (n : GivenNames) (o : Outcome) → Case v n o → (i : Inputs) × AreReady v (verify_command n).asked i
case_ready v n o (inl x) = (x.2.inputs, x.2.ready)
case_ready v n o (inr x) = (x.0.inputs, x.0.ready)

pub expected_ready : (v : View) (n : GivenNames) (o : Outcome) → VerifyExpected v n o → (i : Inputs) × AreReady v (verify_command n).asked i
expected_ready v n o x = case_ready v n o (expected_case v n o x)
