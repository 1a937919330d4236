-- How a verification ends, by how far it went.
use Rattle.std.proofs.Common.{◌≡◌, ◌≤◌, ◌∙◌, ◌⊎◌, ◌++◌, inl, inr, ℕ, List, [], ◌∷◌, map, None, Some, Ok, Err, ap, refl, sym, subst, arith}
use Rattle.std.specs.Prelude.{IsTrue}
use Rattle.capture_model.specs.Capture.{End, Fault, Limit, Reads, Record, Step}
use Rattle.conf_laws.specs.Fit.{IsInterface}
use Rattle.conf_laws.specs.Laws.{ConfigurationsFit}
use Rattle.conf_tree.specs.declared.interface.Interface.{Interface}
use Rattle.fate_timely.specs.declared.given.Late.{Late}
use Rattle.file_judge.specs.Given.{Given as JudgedFiles}
use Rattle.file_judge.specs.Verdict.{AreVerified, IsUnverified}
use Rattle.file_judge.specs.declared.verdict.Unverified.{Unverified}
use Rattle.file_judge.specs.declared.verdict.Unverified.TheVariants as unverified
use Rattle.file_plans.specs.declared.part.Part.{Part}
use Rattle.file_plans.specs.declared.part.Part.TheVariants as part
use Rattle.file_plans.specs.End.{Untouched}
use Rattle.file_plans.specs.Parts.{part_number, printed}
use Rattle.file_plans.specs.Plan.{HasPart, Place, read_place}
use Rattle.file_plans.proofs.CameLaws.{none_some}
use Rattle.file_plans.proofs.EndLaws.{came_all, files_end}
use Rattle.given_fates.specs.Fates.{HasFates}
use Rattle.given_fates.specs.declared.fates.Fates.{Fates}
use Rattle.input_files.specs.Records.{AreRecords, Shown, shown_of}
use Rattle.interface_marks.specs.Conditioners.{marked_in}
use Rattle.interface_policy.specs.Policy.{queue_names}
use Rattle.play_base.specs.View.{View, Everything, Keeps, Said, SameCounts, Unchanged}
use Rattle.play_base.proofs.ViewLaws.{rose_later, same_trans}
use Rattle.run_inputs.specs.declared.inputs.Arrivals.{Arrivals}
use Rattle.run_inputs.specs.declared.inputs.ReadConf.{ReadConf}
use Rattle.run_inputs.specs.declared.inputs.Unready.{Unready}
use Rattle.run_inputs.specs.Had.{AreHad, HaveCome, IsUnready}
use Rattle.run_inputs.specs.Meets.{CannotRead}
use Rattle.run_inputs.specs.Says.{interface_of}
use Rattle.run_outcomes.specs.Faults.{IsQuiet, WriteFailed}
use Rattle.run_outcomes.specs.Outcome.{IsOr, Outcome}
use Rattle.run_outcomes.specs.declared.outcome.CaptureStop.TheVariants as capture
use Rattle.run_outcomes.specs.declared.outcome.Done.TheVariants as done
use Rattle.run_outcomes.specs.declared.outcome.Failure.{Failure}
use Rattle.run_outcomes.specs.declared.outcome.Failure.TheVariants as failure
use Rattle.run_outcomes.specs.declared.outcome.Link.TheVariants as link
use Rattle.command_form.specs.Form.{ReadsInputs, Within, unready_failure}
use Rattle.command_form.specs.Given.{IsGiven}
use Rattle.command_form.specs.Names.{GivenNames}
use Rattle.command_form.proofs.EndsLaws.{done_ends, memory_ends, own_ends, unread_ends, unready_ends}
use Rattle.command_form.proofs.HadLaws.{is_given}
use Rattle.command_form.proofs.FitLemmas.{accepted_fits}
use Rattle.verify_command.specs.Lines.{verdict_text}
use Rattle.verify_command.specs.Reading.{ArrivalCauses, FileCauses, HoldsFates, MayHaveRead, OfPlayed, ReadOn, WasRead, refutation}
use Rattle.verify_command.specs.Verifying.{AreGivenFiles, ArrivalsEndWith, HasDepartures, HasReading, HasVerified, Holds, IsLong, IsVerified, VerifyDone, VerifyEnds, VerifyExpected, VerifyLeaves, VerifyOwn, verify_command}
use Rattle.verify_command.proofs.OneLemmas.{expected_ready, given_as, one_expected}
use Rattle.verify_command.proofs.PassLemmas.{AreBehind, Ended, Passed, departures_behind, ended, fates_behind, inputs, not_opened, passed_inputs, passed_read, passed_said, passed_some, passed_unchanged, read_said, since}

-- WHAT MUST COME where a failure of its own did
as_or : (o p : Outcome) → o ≡ p → IsOr o p
as_or o (Ok d) e = inl (inl e)
as_or o (Err f) e = inl e

told_gone : (u w : View) (d : Part) (name : List ℕ) → part_number d ≤ 15 → IsQuiet u w → CannotRead u w d name → u.bytes name ≡ None
told_gone u w d name l quiet (inl r) = absurd ((quiet (part_number d) (omega (arith, l))).0 r)
told_gone u w d name l quiet (inr gone) = gone.1

own_must : (fit : ConfigurationsFit) (u w : View) (n : GivenNames) (f : Failure) → VerifyOwn u w n f → IsTrue u.tells → IsQuiet u w → (p : Outcome)
    → VerifyExpected u n p → IsOr (Err f) p
own_must fit u w n (failure.Capture link.Sole (capture.Damage d)) x t q p e = as_or _ p (one_expected fit u n _ p (x.1 t) e)
own_must fit u w n (failure.Capture link.Sole capture.TooLong) x t q p e = as_or _ p (one_expected fit u n _ p (x.1 t) e)
own_must fit u w n (failure.Read part.Arrivals) x t q p e = absurd ((q 2 (omega arith)).0 x.1)
own_must fit u w n (failure.Read part.Departures) x t q p e =
    as_or _ p (one_expected fit u n (Err (failure.Read part.Departures)) p (x.1 t, told_gone u w part.Departures n.departures (omega arith) q x.0) e)
own_must fit u w n (failure.Read part.Fates) x t q p e =
    as_or _ p (one_expected fit u n (Err (failure.Read part.Fates)) p (x.1 t, told_gone u w part.Fates n.fates (omega arith) q x.0) e)
own_must fit u w n (failure.TooLong part.Departures) x t q p e = as_or _ p (one_expected fit u n (Err (failure.TooLong part.Departures)) p (x t) e)
own_must fit u w n (failure.TooLong part.Fates) x t q p e = as_or _ p (one_expected fit u n (Err (failure.TooLong part.Fates)) p (x t) e)
own_must fit u w n (failure.Refuted row test) x t q p e = as_or _ p (one_expected fit u n (Err (failure.Refuted row test)) p (x t) e)
own_must fit u w n failure.Unsaid x t q p e =
    let P : Outcome → Type 0 = λ o. IsOr (Err failure.Unsaid) o in
    subst P (one_expected fit u n (Ok done.Done) p (x.1 t) e) (inr refl)
own_must fit u w n other x t q p e = absurd x

-- A FAILURE ENDS IT, of memory or of its own
abbrev pub MayFail : View → View → GivenNames → Failure → Type 0
MayFail u w n f = (f ≡ failure.NoMemory) ⊎ VerifyOwn u w n f

fails : (fit : ConfigurationsFit) (n : GivenNames) (u w : View) (f : Failure) → Ended n u w → w.said ≡ u.said → MayFail u w n f → VerifyLeaves u w n
    → VerifyEnds u w n (Err f)
fails fit n u w f x said (inl e) leaves =
    let P : Failure → Type 0 = λ z. VerifyEnds u w n (Err z) in
    subst P (sym e)
    (memory_ends (verify_command n) (VerifyDone u w n) (VerifyOwn u w n) (VerifyExpected u n) (VerifyLeaves u w n) u w x.files x.first leaves said)
fails fit n u w f x said (inr own) leaves =
    own_ends (verify_command n) (VerifyDone u w n) (VerifyOwn u w n) (VerifyExpected u n) (VerifyLeaves u w n) u w f x.ready own
    (own_must fit u w n f own) x.files x.first leaves said

-- THE INPUTS are not had
pub verify_reads : (n : GivenNames) → ReadsInputs (verify_command n)
verify_reads n = record {
  rest = read_place part.Departures n.departures ∷ read_place part.Fates n.fates ∷ [];
  plan = refl;
  few = λ old new few. (few, (tt, (tt, (tt, tt))));
}

not_input : (n : GivenNames) (q : ℕ) → 3 ≤ q → HasPart (inputs n) q → ⊥
not_input n q h (inl e) = omega (arith, h, e)
not_input n q h (inr (inl e)) = omega (arith, h, e)
not_input n q h (inr (inr e)) = absurd e

pub unready : (n : GivenNames) (u v : View) (y : Unready) → HaveCome (verify_command n).asked u v → IsUnready (verify_command n).asked u v y
    → VerifyEnds u v n (Err (unready_failure link.Sole y))
unready n u v y come x =
    unready_ends (verify_command n) (VerifyDone u v n) (VerifyOwn u v n) (VerifyExpected u n) (VerifyLeaves u v n) (verify_reads n) u v y
    (expected_ready u n) come x
    (record { departures = λ t. inl (untouched 3 (omega arith)); fates = λ t. inl (untouched 4 (omega arith)) })
  where
    untouched : (q : ℕ) → 3 ≤ q → Untouched u v q
    untouched q h f fresh e = not_input n q h ((files_end (inputs n) u v come.along (come.few, (tt, tt))).parts f q fresh e)

-- THE INPUTS are had
pub record HasInputs (n : GivenNames) (u v : View) (i : Interface) (r : ReadConf) (x : Arrivals) : Type 0 where
  pub come : HaveCome (verify_command n).asked u v
  pub had : AreHad (verify_command n).asked n.arrivals u v r x
  pub found : interface_of n.interface r.conf ≡ Some i

same_some : (i j : Interface) → Some i ≡ Some j → i ≡ j
same_some i j e = cc

-- these records are those of the marked arrivals
pub record HasRecords (u : View) (n : GivenNames) (i : Interface) (answers : List Shown) : Type 0 where
  pub records : List Record
  pub given : IsGiven u (verify_command n).asked (λ j g. (j ≡ i) × Reads (marked_in j g.capture) records End)
  pub shown : answers ≡ map shown_of records

records_end : (u : View) (n : GivenNames) (i : Interface) (answers : List Shown) → HasRecords u n i answers → ArrivalsEndWith u n End
records_end u n i answers x = given_as u (verify_command n).asked _ _ (λ j g h. (x.records, h.1)) x.given

-- HOW FAR IT WENT: the files of these places came to be, and this is had where the files tell
pub record WentFar (n : GivenNames) (u v : View) (places : List Place) (Had : Type 0) : Type 0 where
  pub files : List ℕ
  pub passed : Passed n u v places files
  pub said : v.said ≡ u.said
  pub counts : SameCounts u v
  pub had : IsTrue u.tells → Had

-- behind arrivals that are had
abbrev pub AtArrivals : GivenNames → View → View → Interface → List Shown → Type 0
AtArrivals n u v i answers = WentFar n u v (inputs n) (HasRecords u n i answers)

module _ (fit : ConfigurationsFit) (n : GivenNames) {u v : View} {i : Interface} {r : ReadConf} {x : Arrivals} (h : HasInputs n u v i r x) where
  same : h.had.configured.found ≡ i
  same = same_some h.had.configured.found i (sym h.had.accepted.found ∙ h.found)

  -- the interface that is found has its numbers in their ranges
  pub found_fits : IsInterface i
  found_fits = subst (λ (j : Interface). IsInterface j) same (accepted_fits fit u (verify_command n).asked r.conf h.had.configured h.had.accepted)

  played : (P : Interface → List ℕ → Type 0) → OfPlayed v x (P i) → IsTrue u.tells → IsGiven u (verify_command n).asked (λ j g. (j ≡ i) × P j g.capture)
  played P of t =
      let g = h.had.given t in
      let Q : Interface → Type 0 = λ j. (j ≡ i) × P j g.follows.bytes in
      is_given u v (verify_command n).asked n.arrivals r x (λ j c. (j ≡ i) × P j c.capture) refl h.had t
      (subst Q (sym same) (refl, of (h.had.came.keeps.tells ∙ t) g.follows.bytes g.follows.left))

  stops : (last : Step) → OfPlayed v x (λ bytes. HasReading (marked_in i bytes) last) → IsTrue u.tells → ArrivalsEndWith u n last
  stops last of t = given_as u (verify_command n).asked _ _ (λ j g y. y.1) (played (λ j bytes. HasReading (marked_in j bytes) last) of t)

  arrivals_own : (w : View) (f : Failure) → Within 2 (verify_command n) u w → ArrivalCauses v w i x f → MayFail u w n f
  arrivals_own w (failure.Capture link.Sole (capture.Damage d)) within c = inr (within, stops (Fault d) c)
  arrivals_own w (failure.Capture link.Sole capture.TooLong) within c = inr (within, stops Limit c)
  arrivals_own w (failure.Read part.Arrivals) within c = inr (within, rose_later _ _ _ (h.had.came.keeps.later.read 2) (c 2 h.had.came.are.1.0.part))
  arrivals_own w failure.NoMemory within c = inl refl
  arrivals_own w other within c = absurd c

  -- THE ARRIVALS are not had, or are
  passed_arrivals : (w : View) → ReadOn v w x.file → Passed n u w (inputs n) (r.file ∷ x.file ∷ [])
  passed_arrivals w on = passed_some n u v w r.file x.file (passed_inputs n u v r x h.come h.had) on.some on.fewer

  pub arrivals_fail : (w : View) (f : Failure) → ReadOn v w x.file → ArrivalCauses v w i x f → VerifyEnds u w n (Err f)
  arrivals_fail w f on c =
      let p = passed_arrivals w on in
      let files = r.file ∷ x.file ∷ [] in
      fails fit n u w f (ended n u w (inputs n) _ files p refl) (on.some.said ∙ h.come.said)
      (arrivals_own w f (files_end (inputs n) u w (came_all (inputs n) files u w p.came) (p.few, (tt, tt))) c)
      (record {
        departures = λ t. inl (not_opened n u w (inputs n) files 3 p (p.few, (tt, tt)) (not_input n 3 (omega arith)));
        fates = λ t. inl (not_opened n u w (inputs n) files 4 p (p.few, (tt, tt)) (not_input n 4 (omega arith)));
      })

  has_records : (answers : List Shown) → OfPlayed v x (λ bytes. AreRecords (marked_in i bytes) answers) → IsTrue u.tells → HasRecords u n i answers
  has_records answers of t =
      let y = played (λ j bytes. AreRecords (marked_in j bytes) answers) of t in
      record {
        records = y.holds.1.records;
        given = record { inputs = y.inputs; ready = y.ready; given = y.given; is_given = y.is_given; holds = (y.holds.0, y.holds.1.capture) };
        shown = y.holds.1.are;
      }

  pub at_arrivals : (w : View) (answers : List Shown) → OfPlayed v x (λ bytes. AreRecords (marked_in i bytes) answers) → ReadOn v w x.file
      → SameCounts u v → SameCounts v w → AtArrivals n u w i answers
  at_arrivals w answers of on before counts = record {
    files = r.file ∷ x.file ∷ [];
    passed = passed_arrivals w on;
    said = on.some.said ∙ h.come.said;
    counts = same_trans u v w before counts;
    had = has_records answers of;
  }

-- ONE OF THE OTHER FILES is not had
cannot_since : (u v w : View) (part : Part) (name : List ℕ) → Keeps Everything Everything u v → CannotRead v w part name → CannotRead u w part name
cannot_since u v w part name k (inl r) = inl (rose_later _ _ _ (k.later.read (part_number part)) r)
cannot_since u v w part name k (inr a) = inr (sym k.tells ∙ a.0, sym (k.bytes name tt) ∙ a.1)

long_since : (u v : View) (name : List ℕ) → Keeps Everything Everything u v → (IsTrue v.tells → IsLong v name) → IsTrue u.tells → IsLong u name
long_since u v name k x t = let y = x (k.tells ∙ t) in record { bytes = y.bytes; at = sym (k.bytes name tt) ∙ y.at; long = y.long }

pub holds_since : (u v : View) (name bytes : List ℕ) → Keeps Everything Everything u v → (IsTrue v.tells → Holds v name bytes) → IsTrue u.tells → Holds u name bytes
holds_since u v name bytes k x t = let y = x (k.tells ∙ t) in record { at = sym (k.bytes name tt) ∙ y.at; short = y.short }

pub fates_since : (u v : View) (i : Interface) (name : List ℕ) (fates : Fates) → Keeps Everything Everything u v → (IsTrue v.tells → HoldsFates v i name fates)
    → IsTrue u.tells → HoldsFates u i name fates
fates_since u v i name fates k x t =
    let y = x (k.tells ∙ t) in record { text = y.text; at = sym (k.bytes name tt) ∙ y.at; short = y.short; has = y.has }

-- a failure of a file of this part, by what reading it and a file that is too long end as
file_own : (n : GivenNames) (u v w : View) (d : Part) (name : List ℕ) (f : Failure) → Keeps Everything Everything u v
    → (CannotRead u w d name → VerifyOwn u w n (failure.Read d)) → ((IsTrue u.tells → IsLong u name) → VerifyOwn u w n (failure.TooLong d))
    → FileCauses v w d name f → MayFail u w n f
file_own n u v w d name (failure.Read p) k read long c =
    let P : Part → Type 0 = λ q. MayFail u w n (failure.Read q) in
    subst P (sym c.0) (inr (read (cannot_since u v w d name k c.1)))
file_own n u v w d name (failure.TooLong p) k read long c =
    let P : Part → Type 0 = λ q. MayFail u w n (failure.TooLong q) in
    subst P (sym c.0) (inr (long (long_since u v name k c.1)))
file_own n u v w d name failure.NoMemory k read long c = inl refl
file_own n u v w d name other k read long c = absurd c

-- the departures
abbrev pub with_departures : GivenNames → List Place
with_departures n = read_place part.Configuration n.config ∷ read_place part.Arrivals n.arrivals ∷ read_place part.Departures n.departures ∷ []

not_fates : (n : GivenNames) → HasPart (with_departures n) 4 → ⊥
not_fates n (inl e) = omega (arith, e)
not_fates n (inr (inl e)) = omega (arith, e)
not_fates n (inr (inr (inl e))) = omega (arith, e)
not_fates n (inr (inr (inr e))) = absurd e

-- behind departures that are had too
abbrev pub AtDepartures : GivenNames → View → View → Interface → List Shown → (bytes : List ℕ) → Type 0
AtDepartures n u v i answers bytes = WentFar n u v (with_departures n) (HasRecords u n i answers × Holds u n.departures bytes)

-- one more file is had
went_on : {n : GivenNames} {u v w : View} {places : List Place} {Had More : Type 0} (d : Part) (name : List ℕ) → AreBehind (read_place d name ∷ [])
    → WentFar n u v places Had → WasRead v w (read_place d name) → SameCounts v w → (IsTrue u.tells → Had → More)
    → WentFar n u w (places ++ read_place d name ∷ []) More
went_on {n = n} {u = u} {v = v} {w = w} {places = places} d name b at read counts more = record {
  files = at.files ++ read.file ∷ [];
  passed = passed_read n u v w places at.files d name b at.passed read;
  said = read_said v w (read_place d name) read ∙ at.said;
  counts = same_trans u v w at.counts counts;
  had = λ t. more t (at.had t);
}

module _ (fit : ConfigurationsFit) {n : GivenNames} {u v : View} {i : Interface} {answers : List Shown} (w : View) (at : AtArrivals n u v i answers) where
  all_kept : Keeps Everything Everything u v
  all_kept = since n u v (inputs n) at.files at.passed (λ m. (tt, (tt, tt)))

  pub departures_fail : (f : Failure) → MayHaveRead v w (read_place part.Departures n.departures) → FileCauses v w part.Departures n.departures f
      → VerifyEnds u w n (Err f)
  departures_fail f tried c = by tried
    where
      end : IsTrue u.tells → ArrivalsEndWith u n End
      end t = records_end u n i answers (at.had t)

      own : MayFail u w n f
      own = file_own n u v w part.Departures n.departures f all_kept (λ y. (y, end)) (λ y t. record { arrivals = end t; long = y t }) c

      by : MayHaveRead v w (read_place part.Departures n.departures) → VerifyEnds u w n (Err f)
      by (inl y) =
          let files = at.files ++ y.file ∷ [] in
          let q = passed_read n u v w (inputs n) at.files part.Departures n.departures (departures_behind n.departures) at.passed y in
          fails fit n u w f (ended n u w (with_departures n) _ files q refl) (read_said v w _ y ∙ at.said) own
          (record { departures = λ t. inr (end t); fates = λ t. inl (not_opened n u w (with_departures n) files 4 q (q.few, (tt, (tt, tt))) (not_fates n)) })
      by (inr y) =
          let files = at.files ++ [] in
          let q = passed_unchanged n u v w (inputs n) at.files at.passed y in
          fails fit n u w f (ended n u w (inputs n) _ files q refl) (y.said ∙ at.said) own
          (record { departures = λ t. inr (end t); fates = λ t. inl (not_opened n u w (inputs n) files 4 q (q.few, (tt, tt)) (not_input n 4 (omega arith))) })

  pub at_departures : (bytes : List ℕ) → WasRead v w (read_place part.Departures n.departures) → (IsTrue v.tells → Holds v n.departures bytes)
      → SameCounts v w → AtDepartures n u w i answers bytes
  at_departures bytes read holds counts =
      went_on part.Departures n.departures (departures_behind n.departures) at read counts (λ t h. (h, holds_since u v n.departures bytes all_kept holds t))

pub has_departures : (u : View) (n : GivenNames) (i : Interface) (answers : List Shown) (bytes : List ℕ) → HasRecords u n i answers
    → Holds u n.departures bytes → HasDepartures u n
has_departures u n i answers bytes x h = record { arrivals = records_end u n i answers x; bytes = bytes; departures = h }

-- behind them, all may be opened
leaves_on : (u w : View) (n : GivenNames) → (IsTrue u.tells → HasDepartures u n) → VerifyLeaves u w n
leaves_on u w n h = record { departures = λ t. inr (h t).arrivals; fates = λ t. inr (h t) }

-- the fates
abbrev pub all_places : GivenNames → List Place
all_places n = (verify_command n).plan

-- ALL ARE HAD
pub record AllHad (u : View) (n : GivenNames) (i : Interface) (answers : List Shown) (departures : List ℕ) (fates : Fates) : Type 0 where
  pub arrivals : HasRecords u n i answers
  pub departures_had : Holds u n.departures departures
  pub fates_had : HoldsFates u i n.fates fates

abbrev pub AtFates : GivenNames → View → View → Interface → List Shown → (departures : List ℕ) → Fates → Type 0
AtFates n u v i answers departures fates = WentFar n u v (all_places n) (AllHad u n i answers departures fates)

module _ (fit : ConfigurationsFit) {n : GivenNames} {u v : View} {i : Interface} {answers : List Shown} {bytes : List ℕ} (w : View)
    (at : AtDepartures n u v i answers bytes) where
  kept_all : Keeps Everything Everything u v
  kept_all = since n u v (with_departures n) at.files at.passed (λ m. (tt, (tt, (tt, tt))))

  pub fates_fail : (f : Failure) → MayHaveRead v w (read_place part.Fates n.fates) → FileCauses v w part.Fates n.fates f → VerifyEnds u w n (Err f)
  fates_fail f tried c = by tried
    where
      has : IsTrue u.tells → HasDepartures u n
      has t = has_departures u n i answers bytes (at.had t).0 (at.had t).1

      own : MayFail u w n f
      own = file_own n u v w part.Fates n.fates f kept_all (λ z. (z, has)) (λ z t. record { departures = has t; long = z t }) c

      by : MayHaveRead v w (read_place part.Fates n.fates) → VerifyEnds u w n (Err f)
      by (inl z) =
          let q = passed_read n u v w (with_departures n) at.files part.Fates n.fates (fates_behind n.fates) at.passed z in
          fails fit n u w f (ended n u w (all_places n) [] (at.files ++ z.file ∷ []) q refl) (read_said v w _ z ∙ at.said) own (leaves_on u w n has)
      by (inr z) =
          let q = passed_unchanged n u v w (with_departures n) at.files at.passed z in
          fails fit n u w f (ended n u w (with_departures n) _ (at.files ++ []) q refl) (z.said ∙ at.said) own (leaves_on u w n has)

  pub went_far : (fates : Fates) → WasRead v w (read_place part.Fates n.fates) → (IsTrue v.tells → HoldsFates v i n.fates fates) → SameCounts v w
      → AtFates n u w i answers bytes fates
  went_far fates read holds counts =
      went_on part.Fates n.fates (fates_behind n.fates) at read counts
      (λ t h. record { arrivals = h.0; departures_had = h.1; fates_had = fates_since u v i n.fates fates kept_all holds t })

abbrev given_by : (i : Interface) (records : List Record) (departures fates : List ℕ) → JudgedFiles
given_by i records departures fates = record { interface = i; records = records; departures = departures; fates = fates }

-- what a judgement says, whichever records these show, and whichever text holds the fates
abbrev pub AreJudged : (i : Interface) (answers : List Shown) (departures : List ℕ) (fates : Fates) → (JudgedFiles → Type 0) → Type 0
AreJudged i answers departures fates P =
    (capture : List Record) (text : List ℕ) → answers ≡ map shown_of capture → HasFates (queue_names i) text fates
    → P (record { interface = i; records = capture; departures = departures; fates = text })

-- so it says of given files
pub record IsJudged (u : View) (n : GivenNames) (i : Interface) (P : JudgedFiles → Type 0) : Type 0 where
  pub given : JudgedFiles
  pub are : AreGivenFiles u n given
  pub interface : given.interface ≡ i
  pub holds : P given

is_judged : (u : View) (n : GivenNames) (i : Interface) (answers : List Shown) (departures : List ℕ) (fates : Fates) (P : JudgedFiles → Type 0)
    → AllHad u n i answers departures fates → AreJudged i answers departures fates P → IsJudged u n i P
is_judged u n i answers departures fates P h x = record {
  given = given_by i h.arrivals.records departures h.fates_had.text;
  are = record {
    arrivals = h.arrivals.given;
    departures = h.departures_had;
    fates = record { at = h.fates_had.at; short = h.fates_had.short };
  };
  interface = refl;
  holds = x h.arrivals.records h.fates_had.text h.arrivals.shown h.fates_had.has;
}

all_departures : (u : View) (n : GivenNames) (i : Interface) (answers : List Shown) (departures : List ℕ) (fates : Fates) → AllHad u n i answers departures fates
    → HasDepartures u n
all_departures u n i answers departures fates h = has_departures u n i answers departures h.arrivals h.departures_had

module _ (fit : ConfigurationsFit) {n : GivenNames} {u v : View} {i : Interface} {answers : List Shown} {departures : List ℕ} {fates : Fates}
    (x : AtFates n u v i answers departures fates) where
  leaves : (w : View) → VerifyLeaves u w n
  leaves w = leaves_on u w n (λ t. all_departures u n i answers departures fates (x.had t))

  end_here : Ended n u v
  end_here = ended n u v (all_places n) [] x.files x.passed refl

  -- the files are refuted, or memory runs out
  refuted_own : (why : Unverified) → AreJudged i answers departures fates (λ g. IsUnverified g why) → MayFail u v n (refutation why)
  refuted_own (unverified.At row test) judged =
      inr (λ t.
      let y = is_judged u n i answers departures fates (λ g. IsUnverified g (unverified.At row test)) (x.had t) judged in
      record { given = y.given; are = y.are; refuted = y.holds })
  refuted_own unverified.NoMemory judged = inl refl

  pub refuted : (why : Unverified) → AreJudged i answers departures fates (λ g. IsUnverified g why) → VerifyEnds u v n (Err (refutation why))
  refuted why judged = fails fit n u v (refutation why) end_here x.said (refuted_own why judged) (leaves v)

  pub starved : VerifyEnds u v n (Err failure.NoMemory)
  starved = fails fit n u v failure.NoMemory end_here x.said (inl refl) (leaves v)

  -- they are verified
  module _ (w : View) (late : List Late) (judged : AreJudged i answers departures fates (λ g. AreVerified g late)) where
    found : IsTrue u.tells → IsJudged u n i (λ g. AreVerified g late)
    found t = is_judged u n i answers departures fates (λ g. AreVerified g late) (x.had t) judged

    verified : IsTrue u.tells → IsVerified u n
    verified t = let y = found t in record { given = y.given; are = y.are; late = late; verified = y.holds }

    pub unsaid : (f : Failure) → Unchanged v w → (f ≡ failure.NoMemory) ⊎ ((f ≡ failure.Unsaid) × WriteFailed v w printed) → VerifyEnds u w n (Err f)
    unsaid f same why =
        fails fit n u w f (ended n u w (all_places n ++ []) [] (x.files ++ []) (passed_unchanged n u v w (all_places n) x.files x.passed same) refl)
        (same.said ∙ x.said) (by why) (leaves w)
      where
        by : (f ≡ failure.NoMemory) ⊎ ((f ≡ failure.Unsaid) × WriteFailed v w printed) → MayFail u w n f
        by (inl e) = inl e
        by (inr e) =
            let P : Failure → Type 0 = λ z. MayFail u w n z in
            subst P (sym e.0) (inr (rose_later _ _ _ (x.passed.came.keeps.later.write 0) e.1, verified))

    pub said : Said v w (verdict_text i late) → SameCounts v w → VerifyEnds u w n (Ok done.Done)
    said s counts =
        let q = passed_said n u v w (all_places n) x.files (verdict_text i late) x.passed s in
        let e = ended n u w (all_places n ++ []) [] (x.files ++ []) q refl in
        done_ends (verify_command n) (VerifyDone u w n) (VerifyOwn u w n) (VerifyExpected u n) (VerifyLeaves u w n) u w done.Done e.ready
        (refl, has) (same_trans u v w x.counts counts) (λ t quiet p must. as_or _ p (one_expected fit u n (Ok done.Done) p (verified t) must))
        e.files e.first (leaves w)
      where
        has : IsTrue u.tells → HasVerified u w n
        has t =
            let y = found t in
            record {
              given = y.given;
              are = y.are;
              late = late;
              verified = y.holds;
              said =
                  s.grown (x.passed.came.keeps.tells ∙ t) ∙ ap (λ (before : List ℕ). before ++ verdict_text i late) x.said
                  ∙ ap (λ (j : Interface). u.said ++ verdict_text j late) (sym y.interface);
            }

-- WHAT THE PROGRAM ASKS of every command
pub verify_unread : (u : View) (n : GivenNames) → VerifyEnds u u n (Err failure.NoMemory)
verify_unread u n =
    unread_ends (verify_command n) (VerifyDone u u n) (VerifyOwn u u n) (VerifyExpected u n) (VerifyLeaves u u n) (verify_reads n) u
    (record { departures = λ t. inl (none 3); fates = λ t. inl (none 4) })
  where
    none : (q : ℕ) → Untouched u u q
    none q f fresh e = none_some q (sym fresh ∙ e)
