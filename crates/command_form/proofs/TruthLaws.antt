-- What the status of a command says of faults is so.
use Rattle.std.proofs.Common.{◌≡◌, ◌≢◌, ◌⊎◌, ◌++◌, ℕ, List, [], ◌∷◌, Option, Some, Ok, Err, sym, refl, subst, inl, inr}
use Rattle.file_plans.specs.declared.part.Part.{Part}
use Rattle.file_plans.specs.declared.part.Part.TheVariants as part
use Rattle.file_plans.specs.Parts.{part_number, printed}
use Rattle.file_plans.specs.Plan.{Place, read_place}
use Rattle.play_base.specs.View.{View, SameCounts}
use Rattle.play_base.proofs.ViewLaws.{rose_before}
use Rattle.play_words.specs.declared.words.WordsFault.{WordsFault}
use Rattle.run_inputs.specs.declared.stop.Stop.{Stop}
use Rattle.run_inputs.specs.declared.stop.Stop.TheVariants as stop
use Rattle.run_inputs.specs.Had.{arrivals_plan, inputs_plan}
use Rattle.run_inputs.specs.Meets.{CannotRead, Meets}
use Rattle.run_inputs.specs.Says.{Asked}
use Rattle.run_outcomes.specs.declared.outcome.CaptureStop.TheVariants as capture
use Rattle.run_outcomes.specs.declared.outcome.Done.{Done}
use Rattle.run_outcomes.specs.declared.outcome.Done.TheVariants as done
use Rattle.run_outcomes.specs.declared.outcome.Failure.{Failure}
use Rattle.run_outcomes.specs.declared.outcome.Failure.TheVariants as failure
use Rattle.run_outcomes.specs.declared.outcome.Link.{Link}
use Rattle.run_outcomes.specs.Faults.{ReadFailed, WriteFailed}
use Rattle.run_outcomes.specs.Outcome.{Outcome, status_of}
use Rattle.run_outcomes.specs.Reported.{IsReported, OnlySays}
use Rattle.run_outcomes.specs.Truth.{HasReadPlace, IsAbsentOf, TellsTruly}
use Rattle.command_form.specs.Ends.{Comes}
use Rattle.command_form.specs.Form.{AreReadyWhereTold, Command, ReadsInputs, StopsAt, stop_failure}

-- THE FAULTS THAT A COMMAND'S OWN FAILURES TELL were met, and none of them is of its words
pub record OwnAreTrue (plan : List Place) (F : Failure → Type 0) (u v : View) : Type 0 where
  pub read : (p : Part) → F (failure.Read p) → ReadFailed u v (part_number p) ⊎ IsAbsentOf plan u p
  pub write : (p : Part) → F (failure.Write p) → WriteFailed u v (part_number p)
  pub unsaid : F failure.Unsaid → WriteFailed u v printed
  pub words : (fault : WordsFault) → F (failure.Words fault) → ⊥

has_more : (es ds : List Place) (p : Part) (m : List ℕ) → HasReadPlace es p m → HasReadPlace (es ++ ds) p m
has_more [] ds p m h = absurd h
has_more (e ∷ es) ds p m (inl h) = inl h
has_more (e ∷ es) ds p m (inr h) = inr (has_more es ds p m h)

has_arrivals : (a : Asked) (name : List ℕ) → a.arrivals ≡ Some name → HasReadPlace (inputs_plan a) part.Arrivals name
has_arrivals a name e =
    let P : Option (List ℕ) → Type 0 = λ o. HasReadPlace (read_place part.Configuration a.config ∷ arrivals_plan o) part.Arrivals name in
    subst P (sym e) (inr (inl (refl, refl, refl)))

in_plan : (x : Command) → ReadsInputs x → (p : Part) (m : List ℕ) → HasReadPlace (inputs_plan x.asked) p m → HasReadPlace x.plan p m
in_plan x r p m h =
    let P : List Place → Type 0 = λ es. HasReadPlace es p m in
    subst P (sym r.plan) (has_more (inputs_plan x.asked) r.rest p m h)

cannot : (x : Command) → ReadsInputs x → (u v : View) (p : Part) (m : List ℕ) → HasReadPlace (inputs_plan x.asked) p m → CannotRead u v p m
    → ReadFailed u v (part_number p) ⊎ IsAbsentOf x.plan u p
cannot x r u v p m h (inl f) = inl f
cannot x r u v p m h (inr n) = inr (m, in_plan x r p m h, n)

-- inputs that cannot be read
stop_read : (x : Command) → ReadsInputs x → (u v : View) (s : Stop) (p : Part) → failure.Read p ≡ stop_failure x.link s → Meets u v x.asked s
    → ReadFailed u v (part_number p) ⊎ IsAbsentOf x.plan u p
stop_read x r u v stop.NoConfiguration p e m = by p (cc)
  where
    by : (q : Part) → q ≡ part.Configuration → ReadFailed u v (part_number q) ⊎ IsAbsentOf x.plan u q
    by q h =
        let P : Part → Type 0 = λ z. ReadFailed u v (part_number z) ⊎ IsAbsentOf x.plan u z in
        subst P (sym h) (cannot x r u v part.Configuration x.asked.config (inl (refl, refl, refl)) m)
stop_read x r u v stop.NoArrivals p e m = by p (cc)
  where
    by : (q : Part) → q ≡ part.Arrivals → ReadFailed u v (part_number q) ⊎ IsAbsentOf x.plan u q
    by q h =
        let P : Part → Type 0 = λ z. ReadFailed u v (part_number z) ⊎ IsAbsentOf x.plan u z in
        subst P (sym h) (cannot x r u v part.Arrivals m.0 (has_arrivals x.asked m.0 m.1) m.2)
stop_read x r u v stop.LongConfiguration p e m = absurd (cc)
stop_read x r u v (stop.Refused place) p e m = absurd (cc)
stop_read x r u v (stop.NoPcapng block) p e m = absurd (cc)
stop_read x r u v stop.LongPcapng p e m = absurd (cc)

stop_write : (link : Link) (s : Stop) (p : Part) → failure.Write p ≡ stop_failure link s → ⊥
stop_write link stop.NoConfiguration p e = cc
stop_write link stop.NoArrivals p e = cc
stop_write link stop.LongConfiguration p e = cc
stop_write link (stop.Refused place) p e = cc
stop_write link (stop.NoPcapng block) p e = cc
stop_write link stop.LongPcapng p e = cc

stop_unsaid : (link : Link) (s : Stop) → failure.Unsaid ≡ stop_failure link s → ⊥
stop_unsaid link stop.NoConfiguration e = cc
stop_unsaid link stop.NoArrivals e = cc
stop_unsaid link stop.LongConfiguration e = cc
stop_unsaid link (stop.Refused place) e = cc
stop_unsaid link (stop.NoPcapng block) e = cc
stop_unsaid link stop.LongPcapng e = cc

read_later : (u v w : View) (p : ℕ) → OnlySays v w → ReadFailed u v p → ReadFailed u w p
read_later u v w p o r = rose_before _ _ _ r (o.keeps.later.read p)

write_later : (u v w : View) (p : ℕ) → OnlySays v w → WriteFailed u v p → WriteFailed u w p
write_later u v w p o r = rose_before _ _ _ r (o.keeps.later.write p)

-- a status that tells no fault
pub none_told : (plan : List Place) (u w : View) (f : Failure) → ◌≢◌ {A = ℕ} (status_of (Err f)).code 0 → ◌≢◌ {A = ℕ} (status_of (Err f)).code 5
    → ◌≢◌ {A = ℕ} (status_of (Err f)).code 6 → TellsTruly plan u w (status_of (Err f))
none_told plan u w f z r k = record { no_fault = λ e. absurd (z e); read = λ e. absurd (r e); write = λ e. absurd (k e) }

done_truly : (plan : List Place) (u v w : View) (d : Done) → SameCounts u v → w ≡ v → TellsTruly plan u w (status_of (Ok d))
done_truly plan u v w d counts e =
    record { no_fault = λ z. subst (λ (y : View). SameCounts u y) (sym e) counts; read = λ z. absurd (five d z); write = λ z. absurd (six d z) }
  where
    five : (d : Done) → (status_of (Ok d)).code ≡ 5 → ⊥
    five done.Done z = cc
    five done.Exceeds z = cc

    six : (d : Done) → (status_of (Ok d)).code ≡ 6 → ⊥
    six done.Done z = cc
    six done.Exceeds z = cc

-- THE STATUS OF A COMMAND TELLS THE TRUTH
pub comes_truly : (x : Command) (D : Done → Type 0) (F : Failure → Type 0) → ReadsInputs x → (u v w : View) (o : Outcome) → Comes x D F u v o
    → OwnAreTrue x.plan F u v → IsReported v w o → TellsTruly x.plan u w (status_of o)
comes_truly x D F r u v w (Ok d) c own m = done_truly x.plan u v w d c.1 m
comes_truly x D F r u v w (Err (failure.Read p)) c own m = record { no_fault = λ z. absurd (cc); read = λ z. (p, refl, by c); write = λ z. absurd (cc) }
  where
    later : ReadFailed u v (part_number p) ⊎ IsAbsentOf x.plan u p → ReadFailed u w (part_number p) ⊎ IsAbsentOf x.plan u p
    later (inl y) = inl (read_later u v w (part_number p) m.0 y)
    later (inr y) = inr y

    by : StopsAt x u v (failure.Read p) ⊎ (AreReadyWhereTold u x.asked × F (failure.Read p)) → ReadFailed u w (part_number p) ⊎ IsAbsentOf x.plan u p
    by (inl y) = later (stop_read x r u v y.stop p y.same y.meets)
    by (inr y) = later (own.read p y.1)
comes_truly x D F r u v w (Err (failure.Write p)) c own m = record { no_fault = λ z. absurd (cc); read = λ z. absurd (cc); write = λ z. inl (p, refl, by c) }
  where
    by : StopsAt x u v (failure.Write p) ⊎ (AreReadyWhereTold u x.asked × F (failure.Write p)) → WriteFailed u w (part_number p)
    by (inl y) = absurd (stop_write x.link y.stop p y.same)
    by (inr y) = write_later u v w (part_number p) m.0 (own.write p y.1)
comes_truly x D F r u v w (Err failure.Unsaid) c own m = record { no_fault = λ z. absurd (cc); read = λ z. absurd (cc); write = λ z. inr (refl, by c) }
  where
    by : StopsAt x u v failure.Unsaid ⊎ (AreReadyWhereTold u x.asked × F failure.Unsaid) → WriteFailed u w printed
    by (inl y) = absurd (stop_unsaid x.link y.stop y.same)
    by (inr y) = write_later u v w printed m.0 (own.unsaid y.1)
comes_truly x D F r u v w (Err (failure.Words fault)) c own m = none_told x.plan u w (failure.Words fault) (λ z. cc) (λ z. cc) (λ z. cc)
comes_truly x D F r u v w (Err (failure.Configuration p)) c own m = none_told x.plan u w (failure.Configuration p) (λ z. cc) (λ z. cc) (λ z. cc)
comes_truly x D F r u v w (Err (failure.Capture l (capture.Damage d))) c own m =
    none_told x.plan u w (failure.Capture l (capture.Damage d)) (λ z. cc) (λ z. cc) (λ z. cc)
comes_truly x D F r u v w (Err (failure.Capture l (capture.Block b))) c own m =
    none_told x.plan u w (failure.Capture l (capture.Block b)) (λ z. cc) (λ z. cc) (λ z. cc)
comes_truly x D F r u v w (Err (failure.Capture l capture.TooLong)) c own m =
    none_told x.plan u w (failure.Capture l capture.TooLong) (λ z. cc) (λ z. cc) (λ z. cc)
comes_truly x D F r u v w (Err (failure.Capture l capture.Late)) c own m =
    none_told x.plan u w (failure.Capture l capture.Late) (λ z. cc) (λ z. cc) (λ z. cc)
comes_truly x D F r u v w (Err (failure.TooLong p)) c own m = none_told x.plan u w (failure.TooLong p) (λ z. cc) (λ z. cc) (λ z. cc)
comes_truly x D F r u v w (Err (failure.Refuted row t)) c own m = none_told x.plan u w (failure.Refuted row t) (λ z. cc) (λ z. cc) (λ z. cc)
comes_truly x D F r u v w (Err failure.NoMemory) c own m = none_told x.plan u w failure.NoMemory (λ z. cc) (λ z. cc) (λ z. cc)

stop_words : (link : Link) (s : Stop) (fault : WordsFault) → failure.Words fault ≡ stop_failure link s → ⊥
stop_words link stop.NoConfiguration fault e = cc
stop_words link stop.NoArrivals fault e = cc
stop_words link stop.LongConfiguration fault e = cc
stop_words link (stop.Refused place) fault e = cc
stop_words link (stop.NoPcapng block) fault e = cc
stop_words link stop.LongPcapng fault e = cc

-- no command ends as a refusal of its words
pub no_words : (x : Command) (D : Done → Type 0) (F : Failure → Type 0) (u v : View) (fault : WordsFault) → OwnAreTrue x.plan F u v
    → Comes x D F u v (Err (failure.Words fault)) → ⊥
no_words x D F u v fault own (inl s) = stop_words x.link s.stop fault s.same
no_words x D F u v fault own (inr s) = own.words fault s.1
