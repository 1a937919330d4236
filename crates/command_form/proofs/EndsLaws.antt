-- How a command ends, of any: stopped by its inputs, by want of memory, done, or as a failure of its own.
use Rattle.std.proofs.Common.{◌≡◌, ◌∙◌, ◌⊎◌, Ok, Err, ap, sym, refl, subst, inl, inr, arith}
use Rattle.std.specs.Prelude.{IsTrue}
use Rattle.file_plans.specs.End.{FilesEnd}
use Rattle.file_plans.specs.Parts.{printed}
use Rattle.file_plans.specs.declared.part.Part.TheVariants as part
use Rattle.play_base.specs.View.{View, Later, SameCounts, Unchanged}
use Rattle.play_base.proofs.ViewLaws.{rose_later}
use Rattle.run_inputs.specs.declared.inputs.Unready.{Unready}
use Rattle.run_inputs.specs.declared.inputs.Unready.TheVariants as unready
use Rattle.run_inputs.specs.declared.stop.Stop.{Stop}
use Rattle.run_inputs.specs.declared.stop.Stop.TheVariants as stop
use Rattle.run_inputs.specs.Had.{HaveCome, IsUnready}
use Rattle.run_inputs.specs.Meets.{CannotRead, Meets}
use Rattle.run_inputs.specs.Says.{AreReady, AreStopped, Asked, Inputs}
use Rattle.run_inputs.proofs.OneThing.{one_stop, ready_not_stopped}
use Rattle.run_outcomes.specs.declared.outcome.Done.{Done}
use Rattle.run_outcomes.specs.declared.outcome.Failure.{Failure}
use Rattle.run_outcomes.specs.declared.outcome.Failure.TheVariants as failure
use Rattle.run_outcomes.specs.Faults.{IsQuiet, WriteFailed}
use Rattle.run_outcomes.specs.Outcome.{IsOr, IsOrMemory, Outcome}
use Rattle.command_form.specs.Ends.{Comes, CommandEnds, Expects}
use Rattle.command_form.specs.Form.{AreReadyWhereTold, Command, InputsFirst, ReadsInputs, StopsAt, stop_failure, unready_failure}
use Rattle.command_form.proofs.FirstLaws.{come_files, come_first, none_come, within_along}

-- where no read failed, the files say what was met
meets_stopped : (u v : View) (a : Asked) (s : Stop) → IsTrue u.tells → IsQuiet u v → Meets u v a s → AreStopped u a s
meets_stopped u v a stop.NoConfiguration t q (inl r) = absurd ((q 1 (omega arith)).0 r)
meets_stopped u v a stop.NoConfiguration t q (inr h) = h.1
meets_stopped u v a stop.LongConfiguration t q x = x t
meets_stopped u v a (stop.Refused p) t q x = x t
meets_stopped u v a stop.NoArrivals t q x = by x.2
  where
    by : CannotRead u v part.Arrivals x.0 → AreStopped u a stop.NoArrivals
    by (inl r) = absurd ((q 2 (omega arith)).0 r)
    by (inr h) = let c = x.3 t in record { configured = c.0; says = c.1; name = x.0; asked = x.1; holds = h.1 }
meets_stopped u v a (stop.NoPcapng block) t q x = x t
meets_stopped u v a stop.LongPcapng t q x = x t

pub or_memory : (p : Outcome) → IsOr (Err failure.NoMemory) p
or_memory (Ok d) = inl (inr refl)
or_memory (Err f) = inr refl

-- WANT OF MEMORY ENDS A COMMAND, at any time
pub memory_ends : (x : Command) (D : Done → Type 0) (F : Failure → Type 0) (E : Outcome → Type 0) (L : Type 0) (u v : View) → FilesEnd x.plan u v
    → InputsFirst x u v → L → v.said ≡ u.said → CommandEnds x D F E L u v (Err failure.NoMemory)
memory_ends x D F E L u v files first leaves said = record {
  comes = tt;
  must = λ t q p e. or_memory p;
  files = files;
  first = first;
  leaves = leaves;
  silent = said;
}

-- a failure comes as a stop of the inputs, or as one of the command's own
pub stop_comes : (x : Command) (D : Done → Type 0) (F : Failure → Type 0) (u v : View) (f : Failure) → StopsAt x u v f → Comes x D F u v (Err f)
stop_comes x D F u v (failure.Words w) s = inl s
stop_comes x D F u v (failure.Configuration p) s = inl s
stop_comes x D F u v (failure.Capture l c) s = inl s
stop_comes x D F u v (failure.Read p) s = inl s
stop_comes x D F u v (failure.Write p) s = inl s
stop_comes x D F u v failure.Unsaid s = inl s
stop_comes x D F u v (failure.TooLong p) s = inl s
stop_comes x D F u v (failure.Refuted row t) s = inl s
stop_comes x D F u v failure.NoMemory s = tt

pub own_comes : (x : Command) (D : Done → Type 0) (F : Failure → Type 0) (u v : View) (f : Failure) → AreReadyWhereTold u x.asked → F f → Comes x D F u v (Err f)
own_comes x D F u v (failure.Words w) i s = inr (i, s)
own_comes x D F u v (failure.Configuration p) i s = inr (i, s)
own_comes x D F u v (failure.Capture l c) i s = inr (i, s)
own_comes x D F u v (failure.Read p) i s = inr (i, s)
own_comes x D F u v (failure.Write p) i s = inr (i, s)
own_comes x D F u v failure.Unsaid i s = inr (i, s)
own_comes x D F u v (failure.TooLong p) i s = inr (i, s)
own_comes x D F u v (failure.Refuted row t) i s = inr (i, s)
own_comes x D F u v failure.NoMemory i s = tt

-- what must come of inputs that stop a command is that, where what else must come is of inputs that are ready
stop_must : (x : Command) (E : Outcome → Type 0) (u : View) (s : Stop) → ((p : Outcome) → E p → (i : Inputs) × AreReady u x.asked i)
    → AreStopped u x.asked s → (p : Outcome) → Expects x E u p → IsOr (Err (stop_failure x.link s)) p
stop_must x E u s ready h (Ok d) e = let i = ready (Ok d) e in absurd (ready_not_stopped u x.asked i.0 s i.1 h)
stop_must x E u s ready h (Err f) (inl y) =
    inl (ap {B = Outcome} (λ (z : Stop). Err (stop_failure x.link z)) (one_stop u x.asked s y.0 h y.1)
    ∙ ap {B = Outcome} (λ (z : Failure). Err z) (sym y.2))
stop_must x E u s ready h (Err f) (inr e) = let i = ready (Err f) e in absurd (ready_not_stopped u x.asked i.0 s i.1 h)

stop_ends : (x : Command) (D : Done → Type 0) (F : Failure → Type 0) (E : Outcome → Type 0) (L : Type 0) → ReadsInputs x
    → (u v : View) (s : Stop) → ((p : Outcome) → E p → (i : Inputs) × AreReady u x.asked i) → HaveCome x.asked u v
    → IsUnready x.asked u v (unready.Stop s) → FilesEnd x.plan u v → L → CommandEnds x D F E L u v (Err (stop_failure x.link s))
stop_ends x D F E L r u v s ready h m files leaves = record {
  comes = stop_comes x D F u v (stop_failure x.link s)
      (record { stop = s; same = refl; meets = m.0; within = within_along x r _ u v m.1 h.few });
  must = λ t q p e. stop_must x E u s ready (meets_stopped u v x.asked s t q m.0) p e;
  files = files;
  first = come_first x r u v h;
  leaves = leaves;
  silent = h.said;
}

-- INPUTS THAT ARE NOT HAD END A COMMAND
pub unready_ends : (x : Command) (D : Done → Type 0) (F : Failure → Type 0) (E : Outcome → Type 0) (L : Type 0) → ReadsInputs x
    → (u v : View) (y : Unready) → ((p : Outcome) → E p → (i : Inputs) × AreReady u x.asked i) → HaveCome x.asked u v → IsUnready x.asked u v y → L
    → CommandEnds x D F E L u v (Err (unready_failure x.link y))
unready_ends x D F E L r u v y ready h m leaves = by y m
  where
    files : FilesEnd x.plan u v
    files = come_files x r u v h

    by : (y : Unready) → IsUnready x.asked u v y → CommandEnds x D F E L u v (Err (unready_failure x.link y))
    by (unready.Stop s) m = stop_ends x D F E L r u v s ready h m files leaves
    by unready.NoMemory m = memory_ends x D F E L u v files (come_first x r u v h) leaves h.said

-- WHAT MUST COME OF INPUTS THAT ARE READY is what else must come
pub must_ready : (x : Command) (E : Outcome → Type 0) (u v : View) (o : Outcome) → AreReadyWhereTold u x.asked
    → (IsTrue u.tells → IsQuiet u v → (p : Outcome) → E p → IsOr o p) → IsTrue u.tells → IsQuiet u v → (p : Outcome) → Expects x E u p → IsOr o p
must_ready x E u v o i m t q (Ok d) e = m t q (Ok d) e
must_ready x E u v o i m t q (Err f) (inl y) = let z = i t in absurd (ready_not_stopped u x.asked z.0 y.0 z.1 y.1)
must_ready x E u v o i m t q (Err f) (inr e) = m t q (Err f) e

-- A COMMAND IS DONE
pub done_ends : (x : Command) (D : Done → Type 0) (F : Failure → Type 0) (E : Outcome → Type 0) (L : Type 0) (u v : View) (d : Done)
    → AreReadyWhereTold u x.asked → D d → SameCounts u v → (IsTrue u.tells → IsQuiet u v → (p : Outcome) → E p → IsOr (Ok d) p)
    → FilesEnd x.plan u v → InputsFirst x u v → L → CommandEnds x D F E L u v (Ok d)
done_ends x D F E L u v d i done counts must files first leaves = record {
  comes = (done, counts);
  must = must_ready x E u v (Ok d) i must;
  files = files;
  first = first;
  leaves = leaves;
  silent = tt;
}

-- IT ENDS AS A FAILURE OF ITS OWN
pub own_ends : (x : Command) (D : Done → Type 0) (F : Failure → Type 0) (E : Outcome → Type 0) (L : Type 0) (u v : View) (f : Failure)
    → AreReadyWhereTold u x.asked → F f → (IsTrue u.tells → IsQuiet u v → (p : Outcome) → E p → IsOr (Err f) p)
    → FilesEnd x.plan u v → InputsFirst x u v → L → v.said ≡ u.said → CommandEnds x D F E L u v (Err f)
own_ends x D F E L u v f i own must files first leaves said = record {
  comes = own_comes x D F u v f i own;
  must = must_ready x E u v (Err f) i must;
  files = files;
  first = first;
  leaves = leaves;
  silent = said;
}

-- it may end so where it ends as any failure
pub may_end_as_memory : (x : Command) (D : Done → Type 0) (F : Failure → Type 0) (E : Outcome → Type 0) (L : Type 0) (u v : View) (f : Failure)
    → CommandEnds x D F E L u v (Err f) → CommandEnds x D F E L u v (Err failure.NoMemory)
may_end_as_memory x D F E L u v f e = memory_ends x D F E L u v e.files e.first e.leaves e.silent

-- where memory ran out before its words were read no more was done
pub unread_ends : (x : Command) (D : Done → Type 0) (F : Failure → Type 0) (E : Outcome → Type 0) (L : Type 0) → ReadsInputs x → (u : View) → L
    → CommandEnds x D F E L u u (Err failure.NoMemory)
unread_ends x D F E L r u leaves =
    memory_ends x D F E L u u (come_files x r u u (none_come u x.asked)) (come_first x r u u (none_come u x.asked)) leaves refl

or_of : (o p : Outcome) → IsOrMemory o p → IsOr o p
or_of o (Ok d) h = inl h
or_of o (Err f) h = h

unsaid_or : (d : Done) (p : Outcome) → IsOrMemory (Ok d) p → IsOr (Err failure.Unsaid) p
unsaid_or d (Ok c) h = inr refl
unsaid_or d (Err f) (inl e) = absurd (cc)
unsaid_or d (Err f) (inr e) = absurd (cc)

-- HOW A COMMAND STANDS behind inputs that are ready, however it ends then
pub record Stands (x : Command) (L : Type 0) (u w : View) : Type 0 where
  pub ready : AreReadyWhereTold u x.asked
  pub files : FilesEnd x.plan u w
  pub first : InputsFirst x u w
  pub leaves : L

module _ {x : Command} {D : Done → Type 0} {F : Failure → Type 0} {E : Outcome → Type 0} {L : Type 0} {u w : View} (s : Stands x L u w) where
  pub stands_done : (d : Done) → D d → SameCounts u w → (IsTrue u.tells → IsQuiet u w → (p : Outcome) → E p → IsOrMemory (Ok d) p)
      → CommandEnds x D F E L u w (Ok d)
  stands_done d done counts must = done_ends x D F E L u w d s.ready done counts (λ t q p e. or_of (Ok d) p (must t q p e)) s.files s.first s.leaves

  -- it fails so, which is a failure of its own
  pub stands_fails : {f : Failure} (g : Failure) → f ≡ g → F g → (IsTrue u.tells → IsQuiet u w → (p : Outcome) → E p → IsOrMemory (Err g) p)
      → w.said ≡ u.said → CommandEnds x D F E L u w (Err f)
  stands_fails g same own must said =
      subst (λ (h : Failure). CommandEnds x D F E L u w (Err h)) (sym same)
      (own_ends x D F E L u w g s.ready own (λ t q p e. or_of (Err g) p (must t q p e)) s.files s.first s.leaves said)

  -- or for want of memory, or for this cause as this one
  pub stands_or : {f : Failure} {Q : Type 0} (g : Failure) → (Q → F g) → (Q → IsTrue u.tells → IsQuiet u w → (p : Outcome) → E p → IsOr (Err g) p)
      → w.said ≡ u.said → (f ≡ failure.NoMemory) ⊎ ((f ≡ g) × Q) → CommandEnds x D F E L u w (Err f)
  stands_or g own must said (inl e) =
      subst (λ (h : Failure). CommandEnds x D F E L u w (Err h)) (sym e) (memory_ends x D F E L u w s.files s.first s.leaves said)
  stands_or g own must said (inr e) =
      subst (λ (h : Failure). CommandEnds x D F E L u w (Err h)) (sym e.0)
      (own_ends x D F E L u w g s.ready (own e.1) (must e.1) s.files s.first s.leaves said)

  -- what it did could not be said
  pub stands_unsaid : {v : View} {f : Failure} (d : Done) → (WriteFailed u w printed → F failure.Unsaid)
      → (IsTrue u.tells → IsQuiet u w → (p : Outcome) → E p → IsOrMemory (Ok d) p) → Later u v → v.said ≡ u.said → Unchanged v w
      → (f ≡ failure.NoMemory) ⊎ ((f ≡ failure.Unsaid) × WriteFailed v w printed) → CommandEnds x D F E L u w (Err f)
  stands_unsaid d own must later silent same why =
      stands_or failure.Unsaid (λ k. own (rose_later _ _ _ (later.write printed) k)) (λ k t q p e. unsaid_or d p (must t q p e)) (same.said ∙ silent) why
