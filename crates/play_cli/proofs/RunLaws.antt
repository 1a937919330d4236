-- How a run ends, by how its command ended or why its words were not read.
use Rattle.std.proofs.Common.{◌≡◌, ◌∙◌, ◌⊎◌, ℕ, List, Option, None, Some, Ok, Err, ap, sym, subst, refl, inl, inr, arith}
use Rattle.std.specs.Prelude.{IfErr, IfOk, IsErr, IsSomeAnd, OnOk, Result}
use Rattle.file_plans.specs.declared.part.Part.{Part}
use Rattle.file_plans.specs.Parts.{part_number, printed}
use Rattle.file_plans.specs.Plan.{Place}
use Rattle.memory_files.specs.declared.steady.SteadyFiles.{SteadyFiles}
use Rattle.memory_files.specs.Steady.{steady_view}
use Rattle.play_base.specs.View.{View}
use Rattle.play_words.specs.Causes.{Explains}
use Rattle.play_words.specs.declared.words.Command.{Command}
use Rattle.play_words.specs.declared.words.Command.TheVariants as asks
use Rattle.play_words.specs.declared.words.Unread.{Unread}
use Rattle.play_words.specs.declared.words.Unread.TheVariants as why
use Rattle.play_words.specs.declared.words.WordsFault.{WordsFault}
use Rattle.play_words.specs.Kinds.{words_kind}
use Rattle.play_words.specs.Read.{Reads}
use Rattle.play_words.specs.Words.{Arguments, Bound, Chain, Check, Condition, Make, Named, NoCommand, Play, Shares, Verify, burst_of, count_of, longest_of, named, refusal, seed_of}
use Rattle.run_outcomes.specs.Faults.{ReadFailed, WriteFailed}
use Rattle.run_outcomes.specs.Outcome.{Outcome, status_of, unsaid_kind, write_kind}
use Rattle.run_outcomes.specs.Reported.{IsReported}
use Rattle.run_outcomes.specs.Truth.{IsAbsentOf, TellsTruly}
use Rattle.run_outcomes.specs.declared.outcome.CaptureStop.TheVariants as capture
use Rattle.run_outcomes.specs.declared.outcome.Done.{Done}
use Rattle.run_outcomes.specs.declared.outcome.Done.TheVariants as done
use Rattle.run_outcomes.specs.declared.outcome.Failure.{Failure}
use Rattle.run_outcomes.specs.declared.outcome.Failure.TheVariants as failure
use Rattle.run_outcomes.specs.declared.status.Status.{Status}
use Rattle.command_form.specs.Ends.{CommandEnds, Ends, IsRefused}
use Rattle.command_form.specs.Form.{Command as Form, ReadsInputs}
use Rattle.command_form.specs.Names.{given_names_read, links_read, mark_names_read, names_read}
use Rattle.command_form.proofs.EndsLaws.{may_end_as_memory}
use Rattle.command_form.proofs.TruthLaws.{OwnAreTrue, comes_truly, no_words, none_told}
use Rattle.play_cli.specs.Run.{EndsAs, EndsBy, EndsRead, Follows, MayEndAsMemory, RunEnds, SteadyRunsMeetNoFault, plan_of}
use Rattle.chain_command.proofs.NameLemmas.{chain_reads}
use Rattle.check_command.proofs.AnswerLaws.{check_own_true, check_reads}
use Rattle.condition_command.proofs.InputLemmas.{condition_reads}
use Rattle.condition_command.proofs.RunLaws.{condition_own_true}
use Rattle.make_command.proofs.MakeLemmas.{make_reads}
use Rattle.play_command.proofs.PlayedLaws.{play_reads}
use Rattle.verify_command.proofs.EndLemmas.{verify_reads}
use Rattle.play_cli.proofs.OwnLaws.{chain_own_true, make_own_true, play_own_true, shares_own_true, verify_own_true}
use Rattle.play_cli.proofs.NameLaws.{by_words, plan_known, plan_read, unread_by}

-- what comes of a command that was read
pub read_ends : (u v : View) (c d : Command) (o : Outcome) → c ≡ d → EndsRead u v d o → EndsRead u v c o
read_ends u v c d o h x = let P : Command → Type 0 = λ z. EndsRead u v z o in subst P (sym h) x

-- a command may end as want of memory where it ends as any failure
read_memory : (u v : View) (command : Command) (f : Failure) → EndsRead u v command (Err f) → EndsRead u v command (Err failure.NoMemory)
read_memory u v (asks.Play w) f x = may_end_as_memory _ _ _ _ _ u v f x
read_memory u v (asks.Shares w) f x = may_end_as_memory _ _ _ _ _ u v f x
read_memory u v (asks.Check w) f x = may_end_as_memory _ _ _ _ _ u v f x
read_memory u v (asks.Bound w) f x = may_end_as_memory _ _ _ _ _ u v f x
read_memory u v (asks.Make w) f x = may_end_as_memory _ _ _ _ _ u v f x
read_memory u v (asks.Verify w) f x = may_end_as_memory _ _ _ _ _ u v f x
read_memory u v (asks.Chain w) f x = may_end_as_memory _ _ _ _ _ u v f x
read_memory u v (asks.Condition w) f x = may_end_as_memory _ _ _ _ _ u v f x

done_no_error : (d : Done) → IsErr {T = Done} {E = Failure} (Ok d) → ⊥
done_no_error d h = cc

-- what is so of every failure that may be want of memory is so of what is reported
reported : (E : Outcome → Type 0) (o p : Outcome) → ((f : Failure) → E (Err f) → E (Err failure.NoMemory)) → (p ≡ o) ⊎ ((p ≡ Err failure.NoMemory) × IsErr o)
    → E o → E p
reported E o p memory (inl e) x = subst E (sym e) x
reported E (Ok d) p memory (inr e) x = absurd (done_no_error d e.1)
reported E (Err f) p memory (inr e) x = subst E (sym e.0) (memory f x)

-- THE STATUS OF A COMMAND TELLS THE TRUTH, and is not that of words that are refused
ends_truly : (x : Form) (D : Done → Type 0) (F : Failure → Type 0) (E : Outcome → Type 0) (L : Type 0) (u v w : View) (o : Outcome)
    → CommandEnds x D F E L u v o → ReadsInputs x → OwnAreTrue x.plan F u v → IsReported v w o → TellsTruly x.plan u w (status_of o)
ends_truly x D F E L u v w o e r t m = comes_truly x D F r u v w o e.comes t m

ends_words : (x : Form) (D : Done → Type 0) (F : Failure → Type 0) (E : Outcome → Type 0) (L : Type 0) (u v : View) (fault : WordsFault)
    → CommandEnds x D F E L u v (Err (failure.Words fault)) → OwnAreTrue x.plan F u v → ⊥
ends_words x D F E L u v fault e t = no_words x D F u v fault t e.comes

truly_read : (u v w : View) (command : Command) (o : Outcome) → EndsRead u v command o → IsReported v w o → TellsTruly (plan_read command) u w (status_of o)
truly_read u v w (asks.Play y) o x m = ends_truly _ _ _ _ _ u v w o x (play_reads (names_read y)) (play_own_true u v (names_read y) y.seed) m
truly_read u v w (asks.Shares y) o x m = ends_truly _ _ _ _ _ u v w o x (play_reads (names_read y)) (shares_own_true u v (names_read y) y.seed) m
truly_read u v w (asks.Check y) o x m = ends_truly _ _ _ _ _ u v w o x (check_reads y.config.now y.interface.now) (check_own_true y.config.now y.interface.now u v) m
truly_read u v w (asks.Bound y) o x m = ends_truly _ _ _ _ _ u v w o x (check_reads y.config.now y.interface.now) (check_own_true y.config.now y.interface.now u v) m
truly_read u v w (asks.Make y) o x m = ends_truly _ _ _ _ _ u v w o x (make_reads (names_read y.play)) (make_own_true u v (names_read y.play) y.play.seed y.count) m
truly_read u v w (asks.Verify y) o x m = ends_truly _ _ _ _ _ u v w o x (verify_reads (given_names_read y)) (verify_own_true u v (given_names_read y)) m
truly_read u v w (asks.Chain y) o x m = ends_truly _ _ _ _ _ u v w o x (chain_reads (links_read y)) (chain_own_true u v (links_read y) y.play.seed) m
truly_read u v w (asks.Condition y) o x m = ends_truly _ _ _ _ _ u v w o x (condition_reads (mark_names_read y)) (condition_own_true u v (mark_names_read y)) m

words_not : (u v : View) (command : Command) (fault : WordsFault) → EndsRead u v command (Err (failure.Words fault)) → ⊥
words_not u v (asks.Play y) fault x = ends_words _ _ _ _ _ u v fault x (play_own_true u v (names_read y) y.seed)
words_not u v (asks.Shares y) fault x = ends_words _ _ _ _ _ u v fault x (shares_own_true u v (names_read y) y.seed)
words_not u v (asks.Check y) fault x = ends_words _ _ _ _ _ u v fault x (check_own_true y.config.now y.interface.now u v)
words_not u v (asks.Bound y) fault x = ends_words _ _ _ _ _ u v fault x (check_own_true y.config.now y.interface.now u v)
words_not u v (asks.Make y) fault x = ends_words _ _ _ _ _ u v fault x (make_own_true u v (names_read y.play) y.play.seed y.count)
words_not u v (asks.Verify y) fault x = ends_words _ _ _ _ _ u v fault x (verify_own_true u v (given_names_read y))
words_not u v (asks.Chain y) fault x = ends_words _ _ _ _ _ u v fault x (chain_own_true u v (links_read y) y.play.seed)
words_not u v (asks.Condition y) fault x = ends_words _ _ _ _ _ u v fault x (condition_own_true u v (mark_names_read y))

-- only words that are refused have status 2
two_words : (o : Outcome) → (status_of o).code ≡ 2 → (fault : WordsFault) × (o ≡ Err (failure.Words fault))
two_words (Ok done.Done) e = absurd (cc)
two_words (Ok done.Exceeds) e = absurd (cc)
two_words (Err (failure.Words fault)) e = (fault, refl)
two_words (Err (failure.Configuration p)) e = absurd (cc)
two_words (Err (failure.Capture l (capture.Damage d))) e = absurd (cc)
two_words (Err (failure.Capture l (capture.Block b))) e = absurd (cc)
two_words (Err (failure.Capture l capture.TooLong)) e = absurd (cc)
two_words (Err (failure.Capture l capture.Late)) e = absurd (cc)
two_words (Err (failure.Read p)) e = absurd (cc)
two_words (Err (failure.Write p)) e = absurd (cc)
two_words (Err failure.Unsaid) e = absurd (cc)
two_words (Err (failure.TooLong p)) e = absurd (cc)
two_words (Err (failure.Refuted row t)) e = absurd (cc)
two_words (Err failure.NoMemory) e = absurd (cc)

-- words that were not read
memory_as : (u : View) (words : Arguments) (o : Option ℕ) → refusal words ≡ o → EndsAs o u u words (Err failure.NoMemory)
memory_as u words (Some kind) e = refl
memory_as u words None e = unread_by (named words) u words e

unread_ends : (u v : View) (words : Arguments) (y : Unread) (o p : Outcome) → Explains (refusal words) y → Follows u v (Err y) o
    → (p ≡ o) ⊎ ((p ≡ Err failure.NoMemory) × IsErr o) → RunEnds u words v p
unread_ends u v words (why.Refused fault) o p r x same =
    let E : Outcome → Type 0 = λ z. IsRefused (words_kind fault) u u z in
    let V : View → Type 0 = λ z. RunEnds u words z p in
    let R : Option ℕ → Type 0 = λ k. EndsAs k u u words p in
    subst V (sym x.1) (subst R (sym r) (by (subst (λ (z : Outcome). (p ≡ z) ⊎ ((p ≡ Err failure.NoMemory) × IsErr z)) x.0 same)))
  where
    by : (p ≡ Err (failure.Words fault)) ⊎ ((p ≡ Err failure.NoMemory) × IsErr {T = Done} {E = Failure} (Err (failure.Words fault))) → IsRefused (words_kind fault) u u p
    by (inl e) = let E : Outcome → Type 0 = λ z. IsRefused (words_kind fault) u u z in subst E (sym e) (refl, refl)
    by (inr e) = let E : Outcome → Type 0 = λ z. IsRefused (words_kind fault) u u z in subst E (sym e.0) refl
unread_ends u v words why.NoMemory o p r x same =
    let V : View → Type 0 = λ z. RunEnds u words z p in
    let E : Outcome → Type 0 = λ z. RunEnds u words u z in
    subst V (sym x.1) (subst E (sym (by same)) (memory_as u words (refusal words) refl))
  where
    by : (p ≡ o) ⊎ ((p ≡ Err failure.NoMemory) × IsErr o) → p ≡ Err failure.NoMemory
    by (inl e) = e ∙ x.0
    by (inr e) = e.0

ends_by : (u v : View) (words : Arguments) (read : Result Command Unread) (o p : Outcome) → OnOk read (refusal words ≡ None)
    → IfErr read (Explains (refusal words)) → IfOk read (λ command. Reads words command) → Follows u v read o
    → (p ≡ o) ⊎ ((p ≡ Err failure.NoMemory) × IsErr o) → RunEnds u words v p
ends_by u v words (Ok command) o p a n r x same =
    let E : Outcome → Type 0 = λ z. EndsRead u v command z in
    let R : Option ℕ → Type 0 = λ k. EndsAs k u v words p in
    subst R (sym a) (by_words u v words command p r (reported E o p (read_memory u v command) same x))
ends_by u v words (Err y) o p a n r x same = unread_ends u v words y o p n x same

-- HOW A RUN ENDS
pub run_ends : (u v w : View) (words : Arguments) (read : Result Command Unread) (o p : Outcome) → OnOk read (refusal words ≡ None)
    → IfErr read (Explains (refusal words)) → IfOk read (λ command. Reads words command) → Follows u v read o
    → (p ≡ o) ⊎ ((p ≡ Err failure.NoMemory) × IsErr o) → IsReported v w p → Ends (RunEnds u words) w (status_of p)
run_ends u v w words read o p a n r x same m =
    record { outcome = p; before = v; ends = ends_by u v words read o p a n r x same; message = m; status = refl }

unread_truly : (plan : List Place) (u w : View) (y : Unread) (v : View) (o p : Outcome) → Follows u v (Err y) o
    → (p ≡ o) ⊎ ((p ≡ Err failure.NoMemory) × IsErr o) → TellsTruly plan u w (status_of p)
unread_truly plan u w y v o p x same = by y o x same
  where
    memory : TellsTruly plan u w (status_of (Err failure.NoMemory))
    memory = none_told plan u w failure.NoMemory (λ z. cc) (λ z. cc) (λ z. cc)

    by : (y : Unread) (o : Outcome) → Follows u v (Err y) o → (p ≡ o) ⊎ ((p ≡ Err failure.NoMemory) × IsErr o) → TellsTruly plan u w (status_of p)
    by y o x (inr e) = let P : Outcome → Type 0 = λ z. TellsTruly plan u w (status_of z) in subst P (sym e.0) memory
    by (why.Refused fault) o x (inl e) =
        let P : Outcome → Type 0 = λ z. TellsTruly plan u w (status_of z) in
        subst P (sym (e ∙ x.0)) (none_told plan u w (failure.Words fault) (λ z. cc) (λ z. cc) (λ z. cc))
    by why.NoMemory o x (inl e) = let P : Outcome → Type 0 = λ z. TellsTruly plan u w (status_of z) in subst P (sym (e ∙ x.0)) memory

pub run_truly : (u v w : View) (words : Arguments) (read : Result Command Unread) (o p : Outcome) → OnOk read (refusal words ≡ None)
    → IfOk read (λ command. Reads words command) → Follows u v read o → (p ≡ o) ⊎ ((p ≡ Err failure.NoMemory) × IsErr o) → IsReported v w p
    → TellsTruly (plan_of words) u w (status_of p)
run_truly u v w words (Ok command) o p a r x same m =
    let E : Outcome → Type 0 = λ z. EndsRead u v command z in
    let P : List Place → Type 0 = λ plan. TellsTruly plan u w (status_of p) in
    subst P (plan_known words command a r) (truly_read u v w command p (reported E o p (read_memory u v command) same x) m)
run_truly u v w words (Err y) o p a r x same m = unread_truly (plan_of words) u w y v o p x same

words_by : (u v : View) (words : Arguments) (y : Unread) (o : Outcome) (fault : WordsFault) → Explains (refusal words) y → Follows u v (Err y) o
    → o ≡ Err (failure.Words fault) → refusal words ≡ Some (words_kind fault)
words_by u v words (why.Refused real) o fault n x e =
    n ∙ ap (λ (z : WordsFault). Some (words_kind z)) (same (sym x.0 ∙ e))
  where
    same : ◌≡◌ {A = Outcome} (Err (failure.Words real)) (Err (failure.Words fault)) → real ≡ fault
    same h = cc
words_by u v words why.NoMemory o fault n x e = absurd (differ (sym x.0 ∙ e))
  where
    differ : ◌≡◌ {A = Outcome} (Err failure.NoMemory) (Err (failure.Words fault)) → ⊥
    differ h = cc

memory_differs : (p : Outcome) (fault : WordsFault) → p ≡ Err failure.NoMemory → p ≡ Err (failure.Words fault) → ⊥
memory_differs p fault e h = differ (sym e ∙ h)
  where
    differ : ◌≡◌ {A = Outcome} (Err failure.NoMemory) (Err (failure.Words fault)) → ⊥
    differ k = cc

refused_words : (u v : View) (words : Arguments) (read : Result Command Unread) (o p : Outcome) (fault : WordsFault)
    → IfErr read (Explains (refusal words)) → Follows u v read o → (p ≡ o) ⊎ ((p ≡ Err failure.NoMemory) × IsErr o)
    → p ≡ Err (failure.Words fault) → refusal words ≡ Some (words_kind fault)
refused_words u v words read o p fault n x (inr e) h = absurd (memory_differs p fault e.0 h)
refused_words u v words (Ok command) o p fault n x (inl e) h =
    let E : Outcome → Type 0 = λ z. EndsRead u v command z in
    absurd (words_not u v command fault (subst E (sym e ∙ h) x))
refused_words u v words (Err y) o p fault n x (inl e) h = words_by u v words y o fault n x (sym e ∙ h)

pub run_words : (u v : View) (words : Arguments) (read : Result Command Unread) (o p : Outcome) → IfErr read (Explains (refusal words))
    → Follows u v read o → (p ≡ o) ⊎ ((p ≡ Err failure.NoMemory) × IsErr o) → (status_of p).code ≡ 2 → refusal words ≡ Some (status_of p).kind
run_words u v words read o p n x same c =
    let y = two_words p c in
    refused_words u v words read o p y.0 n x same y.1 ∙ ap (λ (z : Outcome). Some (status_of z).kind) (sym y.1)

-- FILES THAT NEVER FAIL count no fault, and each name is there
some_bytes_none : (xs : List ℕ) → Some xs ≡ None → ⊥
some_bytes_none xs e = cc

steady_read : (plan : List Place) (u w : SteadyFiles) (p : Part) → ReadFailed (steady_view u) (steady_view w) (part_number p) ⊎ IsAbsentOf plan (steady_view u) p → ⊥
steady_read plan u w p (inl r) = omega (arith, r)
steady_read plan u w p (inr a) = some_bytes_none _ a.2.1

steady_write : (u w : SteadyFiles) (s : Status)
    → ((p : Part) × (s.kind ≡ write_kind p) × WriteFailed (steady_view u) (steady_view w) (part_number p))
    ⊎ ((s.kind ≡ unsaid_kind) × WriteFailed (steady_view u) (steady_view w) printed) → ⊥
steady_write u w s (inl r) = let y = r.2 in omega (arith, y)
steady_write u w s (inr r) = let y = r.1 in omega (arith, y)

pub steady_meet_none : SteadyRunsMeetNoFault
steady_meet_none plan u w s x = (λ c. let y = x.read c in steady_read plan u w y.0 y.2, λ c. steady_write u w s (x.write c))

-- a run may end as want of memory where it ends as any failure
and_map : (o : Option ℕ) (P Q : ℕ → Type 0) → ((n : ℕ) → P n → Q n) → IsSomeAnd o P → IsSomeAnd o Q
and_map None P Q f x = absurd x
and_map (Some n) P Q f x = f n x

memory_by : (n : Named) (u v : View) (words : Arguments) (f : Failure) → EndsBy n u v words (Err f) → EndsBy n u v words (Err failure.NoMemory)
memory_by Play u v words f x = and_map (seed_of words) _ _ (λ seed y. may_end_as_memory _ _ _ _ _ u v f y) x
memory_by Shares u v words f x = and_map (seed_of words) _ _ (λ seed y. may_end_as_memory _ _ _ _ _ u v f y) x
memory_by Check u v words f x = may_end_as_memory _ _ _ _ _ u v f x
memory_by Bound u v words f x =
    and_map (longest_of words) _ _ (λ longest y. and_map (burst_of words) _ _ (λ burst z. may_end_as_memory _ _ _ _ _ u v f z) y) x
memory_by Make u v words f x =
    and_map (seed_of words) _ _ (λ seed y. and_map (count_of words) _ _ (λ count z. may_end_as_memory _ _ _ _ _ u v f z) y) x
memory_by Verify u v words f x = may_end_as_memory _ _ _ _ _ u v f x
memory_by Chain u v words f x = and_map (seed_of words) _ _ (λ seed y. may_end_as_memory _ _ _ _ _ u v f y) x
memory_by Condition u v words f x = may_end_as_memory _ _ _ _ _ u v f x
memory_by NoCommand u v words f x = absurd x

memory_refused : (kind : ℕ) (u v : View) (f : Failure) → IsRefused kind u v (Err f) → IsRefused kind u v (Err failure.NoMemory)
memory_refused kind u v (failure.Words fault) x = x.1
memory_refused kind u v failure.NoMemory x = x
memory_refused kind u v other x = absurd x

pub may_run_as_memory : MayEndAsMemory
may_run_as_memory u v words f x = by (refusal words) x
  where
    by : (o : Option ℕ) → EndsAs o u v words (Err f) → EndsAs o u v words (Err failure.NoMemory)
    by (Some kind) x = memory_refused kind u v f x
    by None x = memory_by (named words) u v words f x
