-- What a play leaves is verified.
use Rattle.std.proofs.Common.{◌≡◌, ◌<◌, ◌∙◌, ◌⊎◌, inl, inr, ℕ, List, None, Some, Ok, Err, refl, ap, sym, subst, arith}
use Rattle.std.specs.Prelude.{IsTrue}
use Rattle.conf_tree.specs.declared.interface.Interface.{Interface}
use Rattle.file_judge.specs.Given.{Given as JudgedFiles}
use Rattle.file_plans.specs.Parts.{printed}
use Rattle.file_tests.specs.declared.Test.{Test}
use Rattle.play_base.specs.View.{View, Later}
use Rattle.play_base.proofs.ViewLaws.{rose_before}
use Rattle.play_laws.proofs.SizeLemmas.{reads_sized}
use Rattle.capture_model.specs.Capture.{End}
use Rattle.play_words.specs.Words.{AreDistinct}
use Rattle.run_inputs.specs.Says.{text_of}
use Rattle.run_inputs.specs.declared.stop.Stop.{Stop}
use Rattle.run_inputs.specs.declared.stop.Stop.TheVariants as stop
use Rattle.run_outcomes.specs.Faults.{IsQuiet, WriteFailed}
use Rattle.run_outcomes.specs.Outcome.{IsOr, IsOrMemory, Outcome, done_status, failure_status, status_of}
use Rattle.run_outcomes.specs.Reported.{IsReported}
use Rattle.run_outcomes.specs.declared.outcome.CaptureStop.TheVariants as capture
use Rattle.run_outcomes.specs.declared.outcome.Done.{Done}
use Rattle.run_outcomes.specs.declared.outcome.Done.TheVariants as done
use Rattle.run_outcomes.specs.declared.outcome.Failure.{Failure}
use Rattle.run_outcomes.specs.declared.outcome.Failure.TheVariants as failure
use Rattle.run_outcomes.specs.declared.outcome.Link.TheVariants as link
use Rattle.run_outcomes.specs.declared.status.Status.{Status}
use Rattle.command_form.specs.Ends.{Ends}
use Rattle.command_form.specs.Form.{AreReadyWhereTold, StopsAt, stop_failure}
use Rattle.command_form.specs.Names.{GivenNames, Names}
use Rattle.command_form.proofs.FitLemmas.{text_found}
use Rattle.interface_play.specs.Laws.{HaveLaws}
use Rattle.interface_play.specs.Setup.{IsConfigured}
use Rattle.interface_play.specs.Source.{played_of}
use Rattle.interface_play.proofs.Cited.{is_held, is_interface, is_named}
use Rattle.play_command.proofs.PlayedLaws.{configured_of}
use Rattle.play_command.specs.Ending.{PlayEnds}
use Rattle.play_command.specs.Headline.{HasPlayed, play_command, source_by}
use Rattle.verify_command.specs.Verifying.{AreRefuted, IsVerified, VerifyEnds, VerifyOwn, verify_command}
use Rattle.verify_command.proofs.OneLemmas.{one_expected}
use Rattle.verify_laws.specs.Left.{AreLeft, HasItsStatus, HoldsBytes, IsVerification, inputs_played}
use Rattle.verify_laws.proofs.Passing.{IsWholePlay, departures_short, fates_short, play_passes, texts_given}
use Rattle.interface_marks.specs.Conditioners.{conditioning_of}
use Rattle.verify_laws.proofs.Marks.{early_marked}
use Rattle.verify_laws.proofs.Stamps.{played_early}

-- the interface of a play is one of its configuration
configured : (old new : View) (n : Names) (seed : ℕ) (x : HasPlayed old new n seed) → IsConfigured x.interface
configured old new n seed x =
    let y = text_found (play_command n).asked (record { interfaces = x.interfaces; found = x.interface; next = None }) x.configuration.bytes _ x.configuration.says in
    configured_of n.interface x.configuration.bytes y.0 x.interface y.1 y.2

-- what a play that is done played
whole_play : (laws : HaveLaws) (old new : View) (n : Names) (seed : ℕ) (x : HasPlayed old new n seed) → HoldsBytes old n.arrivals
    → IsWholePlay x.interface seed x.played.records x.played.history
whole_play laws old new n seed x bytes =
    let i : Interface = x.interface in
    let one = configured old new n seed x in
    record {
      fit = is_interface laws i one;
      held = is_held laws i one;
      named = is_named laws i one;
      early = early_marked (conditioning_of i) x.given.capture x.played.records
          (λ rs reads. played_early x.given.bytes x.given.capture rs (bytes x.given.bytes x.arrivals) x.read reads) x.played.capture;
      sized = reads_sized (played_of (source_by i x.given)) x.played.records End x.played.capture;
      play = x.played.play.play;
      in_time = x.played.play.in_time;
      promises = x.played.promises;
    }

pub is_verified : (laws : HaveLaws) (old new v : View) (n : Names) (m : GivenNames) (seed : ℕ) → HasPlayed old new n seed → HoldsBytes old n.arrivals
    → AreLeft old new v n m → IsVerified v m
is_verified laws old new v n m seed x bytes left =
    let i : Interface = x.interface in
    let whole = whole_play laws old new n seed x bytes in
    let given : JudgedFiles = texts_given i x.played.records x.played.history in
    record {
      given = given;
      are = record {
        arrivals = record {
          inputs = record { configured = record { interfaces = x.interfaces; found = i; next = None }; given = Some x.given };
          ready = record {
            configured = record {
              bytes = x.configuration.bytes;
              at = left.config ∙ x.configuration.at;
              says = ap (λ (k : List ℕ). text_of (record { config = m.config; interface = k; next = None; arrivals = Some m.arrivals }) x.configuration.bytes) left.interface
                  ∙ x.configuration.says;
            };
            given = (left.arrivals ∙ x.arrivals, x.read);
          };
          given = x.given;
          is_given = refl;
          holds = (refl, x.played.capture);
        };
        departures = record { at = left.departures ∙ x.played.texts.departures; short = departures_short i seed x.played.records x.played.history whole };
        fates = record { at = left.fates ∙ x.played.texts.fates; short = fates_short i seed x.played.records x.played.history whole };
      };
      late = _;
      verified = play_passes i seed x.played.records x.played.history whole;
    }

not_both : (row : ℕ) (test : Test) (o p : Outcome) → o ≡ Ok done.Done → p ≡ Err (failure.Refuted row test) → o ≡ p → ⊥
not_both row t o p verified refuted same = cc

not_refuted : (laws : HaveLaws) (v : View) (m : GivenNames) (row : ℕ) (test : Test) → IsVerified v m → AreRefuted v m row test → ⊥
not_refuted laws v m row test x y = not_both row test (Ok done.Done) (Err (failure.Refuted row test)) refl refl (one_expected laws.fit v m (Ok done.Done) (Err (failure.Refuted row test)) x y)

-- inputs that stop a command fail no test
no_test : (s : Stop) (row : ℕ) (t : Test) (f : Failure) → f ≡ failure.Refuted row t → f ≡ stop_failure link.Sole s → ⊥
no_test stop.NoConfiguration row t f e d = cc
no_test stop.LongConfiguration row t f e d = cc
no_test (stop.Refused place) row t f e d = cc
no_test stop.NoArrivals row t f e d = cc
no_test (stop.NoPcapng block) row t f e d = cc
no_test stop.LongPcapng row t f e d = cc

no_answer : (s : Stop) (f : Failure) → f ≡ failure.Unsaid → f ≡ stop_failure link.Sole s → ⊥
no_answer stop.NoConfiguration f e d = cc
no_answer stop.LongConfiguration f e d = cc
no_answer (stop.Refused place) f e d = cc
no_answer stop.NoArrivals f e d = cc
no_answer (stop.NoPcapng block) f e d = cc
no_answer stop.LongPcapng f e d = cc

by_test : (laws : HaveLaws) (old new : View) (m : GivenNames) (row : ℕ) (t : Test) → IsTrue old.tells → IsVerified old m
    → StopsAt (verify_command m) old new (failure.Refuted row t)
    ⊎ (AreReadyWhereTold old (verify_command m).asked × VerifyOwn old new m (failure.Refuted row t))
    → ⊥
by_test laws old new m row t tells x (inl stops) = no_test stops.stop row t _ refl stops.same
by_test laws old new m row t tells x (inr own) = not_refuted laws old m row t x (own.1 tells)

by_answer : (old new : View) (m : GivenNames) → (WriteFailed old new printed → ⊥)
    → StopsAt (verify_command m) old new failure.Unsaid ⊎ (AreReadyWhereTold old (verify_command m).asked × VerifyOwn old new m failure.Unsaid) → ⊥
by_answer old new m none (inl stops) = no_answer stops.stop _ refl stops.same
by_answer old new m none (inr own) = none own.1.0

-- what came is verified, but where the answer could not be printed
without_answer : (old new : View) (m : GivenNames) (o : Outcome) → VerifyEnds old new m o → (WriteFailed old new printed → ⊥) → IsOr o (Ok done.Done)
    → IsOrMemory o (Ok done.Done)
without_answer old new m o x none (inl e) = e
without_answer old new m o x none (inr e) =
    let P : Outcome → Type 0 = λ p. VerifyEnds old new m p in
    absurd (by_answer old new m none (subst P e x).comes)

verification : (laws : HaveLaws) (old new : View) (m : GivenNames) (o : Outcome) → IsTrue old.tells → IsVerified old m → VerifyEnds old new m o
    → IsVerification old new o
verification laws old new m o tells x ends = record {
  never_refuted = λ row test e. (let P : Outcome → Type 0 = λ p. VerifyEnds old new m p in by_test laws old new m row test tells x (subst P e ends).comes);
  quiet = λ q. ends.must tells q (Ok done.Done) x;
  verified = λ q none. without_answer old new m o ends none (ends.must tells q (Ok done.Done) x);
}

pub played_verified : (laws : HaveLaws) (old new v w : View) (n : Names) (m : GivenNames) (seed : ℕ) (o : Outcome) → IsTrue old.tells → IsTrue v.tells
    → HoldsBytes old n.arrivals → PlayEnds old new n seed (Ok done.Done) → AreLeft old new v n m → VerifyEnds v w m o → IsVerification v w o
played_verified laws old new v w n m seed o tells also bytes play left ends =
    verification laws v w m o also (is_verified laws old new v n m seed (play.comes.0.0 tells) bytes left) ends

-- STATUSES
-- a failure has another code, and code 10 is that of a test that fails
abbrev IsTest : Failure → Type 0
IsTest f = (row : ℕ) × (test : Test) × (f ≡ failure.Refuted row test)

record HasCode (f : Failure) (code : ℕ) : Type 0 where
  some : 0 < code
  ten : code ≡ 10 → IsTest f

-- a failure with a code below 10
below_ten : (f : Failure) (code : ℕ) → 0 < code → code < 10 → HasCode f code
below_ten f code some few = record { some = some; ten = λ e. absurd (omega (arith, e, few)) }

has_code : (f : Failure) → HasCode f (failure_status f).code
has_code (failure.Words fault) = below_ten _ 2 (omega arith) (omega arith)
has_code (failure.Configuration place) = below_ten _ 3 (omega arith) (omega arith)
has_code (failure.Capture link (capture.Damage damage)) = below_ten _ 4 (omega arith) (omega arith)
has_code (failure.Capture link (capture.Block block)) = below_ten _ 4 (omega arith) (omega arith)
has_code (failure.Capture link capture.TooLong) = below_ten _ 7 (omega arith) (omega arith)
has_code (failure.Capture link capture.Late) = below_ten _ 7 (omega arith) (omega arith)
has_code (failure.Read part) = below_ten _ 5 (omega arith) (omega arith)
has_code (failure.Write part) = below_ten _ 6 (omega arith) (omega arith)
has_code failure.Unsaid = below_ten _ 6 (omega arith) (omega arith)
has_code (failure.TooLong part) = below_ten _ 7 (omega arith) (omega arith)
has_code (failure.Refuted row t) = record { some = omega arith; ten = λ e. (row, t, refl) }
has_code failure.NoMemory = below_ten _ 8 (omega arith) (omega arith)

-- code 0 is that of a play that is done, and then nothing is printed behind it
left_so : (laws : HaveLaws) (old before new : View) (n : Names) (seed : ℕ) (o : Outcome) → PlayEnds old before n seed o → IsReported before new o
    → (status_of o).code ≡ 0 → PlayEnds old new n seed (Ok done.Done)
left_so laws old before new n seed (Ok done.Done) x same e = let P : View → Type 0 = λ u. PlayEnds old u n seed (Ok done.Done) in subst P (sym same) x
left_so laws old before new n seed (Ok done.Exceeds) x same e = absurd x.comes.0
left_so laws old before new n seed (Err f) x same e = let some = (has_code f).some in absurd (omega (arith, some, e))

done_code : (d : Done) → (done_status d).code ≡ 0
done_code done.Done = refl
done_code done.Exceeds = refl

not_ten : (o : Outcome) → ((row : ℕ) (test : Test) → o ≡ Err (failure.Refuted row test) → ⊥) → (status_of o).code ≡ 10 → ⊥
not_ten (Ok d) never e = let none = done_code d in omega (arith, e, none)
not_ten (Err f) never e =
    let its = (has_code f).ten e in
    never its.0 its.1 (ap {B = Outcome} (λ (g : Failure). Err g) its.2)

zero_or_eight : (o : Outcome) → IsOrMemory o (Ok done.Done) → ((status_of o).code ≡ 0) ⊎ ((status_of o).code ≡ 8)
zero_or_eight o (inl e) = inl (ap (λ (p : Outcome). (status_of p).code) e)
zero_or_eight o (inr e) = inr (ap (λ (p : Outcome). (status_of p).code) e)

-- no count falls as a message is printed
later_refl : (v : View) → Later v v
later_refl v = record { read = λ p. omega arith; write = λ p. omega arith; fixed = refl }

reported_later : (before new : View) (o : Outcome) → IsReported before new o → Later before new
reported_later before new (Ok d) same = let P : View → Type 0 = λ u. Later before u in subst P (sym same) (later_refl before)
reported_later before new (Err f) x = x.0.keeps.later

quiet_before : (old before new : View) → Later before new → IsQuiet old new → IsQuiet old before
quiet_before old before new l q = λ part few. (
    let y = q part few in (
      (λ r. y.0 (rose_before _ _ _ r (l.read part))),
      (λ some r. y.1 some (rose_before _ _ _ r (l.write part))),
    )
    )

its_status : (old before new : View) (o : Outcome) (s : Status) → s ≡ status_of o → IsReported before new o → IsVerification old before o
    → HasItsStatus old new s
its_status old before new o s is report x =
    let P : Status → Type 0 = λ t. HasItsStatus old new t in
    let l = reported_later before new o report in
    let its : HasItsStatus old new (status_of o) = record {
      never_ten = not_ten o x.never_refuted;
      quiet = λ q none. zero_or_eight o (x.verified (quiet_before old before new l q) (λ r. none (rose_before _ _ _ r (l.write printed))));
    } in
    subst P (sym is) its

pub played_status : (laws : HaveLaws) (old new v w : View) (n : Names) (m : GivenNames) (seed : ℕ) (s t : Status) → IsTrue old.tells → IsTrue v.tells
    → HoldsBytes old n.arrivals → Ends (λ u o. PlayEnds old u n seed o) new s → s.code ≡ 0 → AreLeft old new v n m → Ends (λ u o. VerifyEnds v u m o) w t
    → HasItsStatus v w t
played_status laws old new v w n m seed s t tells also bytes play zero left ends =
    let code : (status_of play.outcome).code ≡ 0 = ap (λ (x : Status). x.code) (sym play.status) ∙ zero in
    let ended = left_so laws old play.before new n seed play.outcome play.ends play.message code in
    its_status v ends.before w ends.outcome t ends.status ends.message
    (played_verified laws old new v ends.before n m seed ends.outcome tells also bytes ended left ends.ends)

-- what a play leaves where it stood
pub left_there : (old new : View) (n : Names) (seed : ℕ) → IsTrue old.tells → AreDistinct n.config n.arrivals n.departures n.fates n.stats
    → PlayEnds old new n seed (Ok done.Done) → AreLeft old new new n (inputs_played n)
left_there old new n seed tells apart play = record {
  config = play.files.others.bytes n.config (tt, (tt, ((tells, apart.config_departures), ((tells, apart.config_fates), ((tells, apart.config_stats), tt)))));
  interface = refl;
  arrivals = play.files.others.bytes n.arrivals (tt, (tt, ((tells, apart.arrivals_departures), ((tells, apart.arrivals_fates), ((tells, apart.arrivals_stats), tt)))));
  departures = refl;
  fates = refl;
}
