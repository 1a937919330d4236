-- How a marking ends, once the marked file was created.
use Rattle.std.proofs.Common.{◌≡◌, ◌≢◌, ◌≤◌, ◌+◌, ◌∙◌, ◌⊎◌, ap, inl, inr, ℕ, Bool, true, false, List, [], ◌∷◌, ◌++◌, length, length-append, None, Some, Ok, Err, sym, subst, refl, arith}
use Rattle.std.specs.Prelude.{Option, IsTrue, if◌then◌else◌, ⊤}
use Rattle.std.specs.declared.result.Result.{Result}
use Rattle.arrivals_front.specs.Given.{is_pcapng}
use Rattle.arrivals_source.specs.Counted.{IsNoLonger}
use Rattle.capture_model.specs.Capture.{End, Fault, IsLast, Limit, Next, Step}
use Rattle.conf_tree.specs.declared.interface.Interface.{Interface}
use Rattle.file_plans.specs.declared.part.Part.TheVariants as part
use Rattle.file_plans.specs.Came.{Came, IsAmong, IsOf, Works}
use Rattle.file_plans.specs.End.{FilesEnd, TookFew, Untouched}
use Rattle.file_plans.specs.Plan.{HasPart, IsOther, Place, written_place}
use Rattle.file_plans.proofs.CameLaws.{came_more, came_works, same_part, there_or_not}
use Rattle.file_plans.proofs.EndLaws.{came_all, files_end}
use Rattle.file_plans.proofs.FewLaws.{few_kept}
use Rattle.frame_classes.specs.Frames.{Classes}
use Rattle.interface_marks.specs.Conditioners.{Begins, conditioning_of, marked_in}
use Rattle.marked_files.specs.Markings.{Marking}
use Rattle.marked_files.specs.Standing.{AreWhole}
use Rattle.pcap_files.proofs.ReadingLaws.{one_reading}
use Rattle.pcapng_files.specs.Fronts.{with_front}
use Rattle.play_base.specs.View.{View, NotNamed, OtherThan, ReadFault, Rose, SameCounts, Unchanged, WriteFault}
use Rattle.play_base.proofs.ViewLaws.{keeps_fewer, rose_later}
use Rattle.play_words.specs.Words.{AreDistinctMarks}
use Rattle.run_inputs.specs.declared.inputs.Arrivals.{Arrivals}
use Rattle.run_inputs.specs.declared.inputs.ReadConf.{ReadConf}
use Rattle.run_inputs.specs.declared.inputs.Unready.{Unready}
use Rattle.run_inputs.specs.Had.{HaveCome, IsUnready}
use Rattle.run_inputs.specs.Says.{AreReady, Given, Inputs}
use Rattle.run_outcomes.specs.declared.outcome.CaptureStop.TheVariants as capture
use Rattle.run_outcomes.specs.declared.outcome.Done.TheVariants as done
use Rattle.run_outcomes.specs.declared.outcome.Failure.{Failure}
use Rattle.run_outcomes.specs.declared.outcome.Failure.TheVariants as failure
use Rattle.run_outcomes.specs.declared.outcome.Link.TheVariants as link
use Rattle.run_outcomes.specs.Faults.{IsQuiet}
use Rattle.run_outcomes.specs.Outcome.{IsOr, Outcome}
use Rattle.command_form.specs.Form.{InputsFirst, unready_failure}
use Rattle.command_form.specs.Given.{IsGiven}
use Rattle.command_form.specs.Names.{MarkNames}
use Rattle.command_form.proofs.EndsLaws.{done_ends, memory_ends, own_ends, unready_ends}
use Rattle.command_form.proofs.FirstLaws.{KeepsInputs}
use Rattle.command_form.proofs.HadLaws.{given_of, is_given, of_given}
use Rattle.condition_command.specs.Conditioning.{ConditionDone, ConditionEnds, ConditionExpected, ConditionLeaves, ConditionOwn, HasConditioned, HasFront, HasReading, IsCutShort, IsStopped, OfMarked, ReadsTo, Streams, TookWithin, condition_command}
use Rattle.condition_command.specs.Marking.{AreMarked, CameOf, Marks, Stays, unmarked_failure}
use Rattle.condition_command.specs.Starting.{HasInputs}
use Rattle.condition_command.specs.declared.marking.Unmarked.{Unmarked}
use Rattle.condition_command.specs.declared.marking.Unmarked.TheVariants as unmarked
use Rattle.condition_command.proofs.InputLemmas.{arrivals_of, condition_reads, conf_of, inputs_first, inputs_two, is_arrivals, is_conf, ready, uncreated_files, uncreated_first, uncreated_leaves}

-- WHAT MUST COME: what the reading of the capture ends with
abbrev pub end_outcome : Step → Outcome
end_outcome End = Ok done.Done
end_outcome (Next r after) = Err failure.NoMemory
end_outcome (Fault d) = Err (failure.Capture link.Sole (capture.Damage d))
end_outcome Limit = Err (failure.Capture link.Sole capture.TooLong)

record IsEnd (u : View) (n : MarkNames) (p : Outcome) : Type 0 where
  pub step : Step
  pub last : IsLast step
  pub reads : ReadsTo u n step
  pub same : p ≡ end_outcome step

is_end : (u : View) (n : MarkNames) (p : Outcome) → ConditionExpected u n p → IsEnd u n p
is_end u n (Ok done.Done) x = record { step = End; last = tt; reads = x; same = refl }
is_end u n (Err (failure.Capture link.Sole (capture.Damage d))) x = record { step = Fault d; last = tt; reads = x; same = refl }
is_end u n (Err (failure.Capture link.Sole capture.TooLong)) x = record { step = Limit; last = tt; reads = x; same = refl }
is_end u n other x = absurd x

-- it is of inputs that are ready
pub expected_ready : (u : View) (n : MarkNames) (p : Outcome) → ConditionExpected u n p → (i : Inputs) × AreReady u (condition_command n).asked i
expected_ready u n p x = let e = is_end u n p x in (e.reads.inputs, e.reads.ready)

or_same : (o p : Outcome) → o ≡ p → IsOr o p
or_same o (Ok d) e = inl (inl e)
or_same o (Err f) e = inl e

-- WHAT WAS DONE: the inputs were read, the marked file was created, and this came of the marking
pub record HasRun (u v d e : View) (n : MarkNames) (r : ReadConf) (x : Arrivals) (to : ℕ) (m : Marking Classes) (y : Result ⊤ Unmarked) : Type 0 where
  pub has : HasInputs u v n r x
  pub created : Came (written_place part.Marked n.marked ∷ []) (to ∷ []) v d
  pub empty : IsTrue v.tells → d.bytes n.marked ≡ Some []
  pub said : d.said ≡ v.said
  pub stays : Stays d e x.file to
  pub shrinks : IsNoLonger d e x.file
  pub begins : Begins has.had.configured.found (if x.given.rest then x.given.front.items else []) m
  pub marks : Marks d e x.file to x.given.rest x.given.front.items m y
  pub distinct : AreDistinctMarks n.config n.arrivals n.marked

-- faults that were met
pub record Faults (d e : View) (from to : ℕ) (rest : Bool) (why : Unmarked) : Type 0 where
  pub read : why ≡ unmarked.Read → (rest ≡ true) × ReadFault d e from
  pub write : why ≡ unmarked.Write → WriteFault d e to

rest_of : (b : Bool) (bytes : List ℕ) → (b ≡ false → is_pcapng bytes ≡ true) → is_pcapng bytes ≡ false → b ≡ true
rest_of true bytes h classic = refl
rest_of false bytes h classic = absurd (both (is_pcapng bytes) (h refl) classic)
  where
    both : (c : Bool) → c ≡ true → c ≡ false → ⊥
    both c p q = cc

module _ (u v d e : View) (n : MarkNames) (r : ReadConf) (x : Arrivals) (to : ℕ) (m : Marking Classes) (y : Result ⊤ Unmarked)
    (h : HasRun u v d e n r x to m y) where
  told_v : IsTrue u.tells → IsTrue v.tells
  told_v t = h.has.come.keeps.tells ∙ t

  told_d : IsTrue u.tells → IsTrue d.tells
  told_d t = h.created.keeps.tells ∙ told_v t

  told_u : IsTrue d.tells → IsTrue u.tells
  told_u t = sym h.has.come.keeps.tells ∙ sym h.created.keeps.tells ∙ t

  to_of : IsOf v d (written_place part.Marked n.marked) to
  to_of = h.created.are.0

  named_to : IsTrue u.tells → d.name to ≡ n.marked
  named_to t = to_of.name (told_v t)

  -- a file of another part was there when the marked one was created
  made_as : (f p : ℕ) → v.part f ≡ None → d.part f ≡ Some p → (p ≡ 6) × (f ≡ to)
  made_as f p fresh at = by (h.created.only f p fresh at)
    where
      by : IsAmong f (to ∷ []) → (p ≡ 6) × (f ≡ to)
      by (inl s) = (same_part p 6 (sym at ∙ ap d.part s ∙ to_of.part), s)
      by (inr s) = absurd s

  before : (f p : ℕ) → p ≢ 6 → d.part f ≡ Some p → v.part f ≡ Some p
  before f p other at = by (there_or_not (v.part f))
    where
      by : (v.part f ≡ None) ⊎ ((q : ℕ) × (v.part f ≡ Some q)) → v.part f ≡ Some p
      by (inl none) = absurd (other (made_as f p none at).0)
      by (inr z) = z.1 ∙ ap (λ (q : ℕ). Some q) (same_part z.0 p (sym (h.created.keeps.part f z.0 z.1) ∙ at))

  none_made : (p : ℕ) → p ≢ 6 → Untouched v e p
  none_made p other f fresh at = by (there_or_not (d.part f))
    where
      by : (d.part f ≡ None) ⊎ ((q : ℕ) × (d.part f ≡ Some q)) → ⊥
      by (inl none) = no (sym (h.stays.none f none) ∙ at)
        where
          no : None ≡ Some p → ⊥
          no k = cc
      by (inr z) = other (sym (same_part z.0 p (sym (h.stays.keeps.part f z.0 z.1) ∙ at)) ∙ (made_as f z.0 fresh z.1).0)

  one_six : ◌≢◌ {A = ℕ} 1 6
  one_six k = omega (arith, k)

  two_six : ◌≢◌ {A = ℕ} 2 6
  two_six k = omega (arith, k)

  -- the configuration keeps what it has left
  conf_named : (f : ℕ) → IsTrue u.tells → u.part f ≡ None → v.part f ≡ Some 1 → v.name f ≡ n.config
  conf_named f t fresh at = ap v.name (is_conf u v n r x h.has f fresh at) ∙ (conf_of u v n r x h.has).name t

  conf_other : (f : ℕ) → IsTrue u.tells → u.part f ≡ None → v.part f ≡ Some 1 → IsOther v (written_place part.Marked n.marked ∷ []) (v.name f)
  conf_other f t fresh at = ((told_v t, λ s. h.distinct.config_marked (sym (conf_named f t fresh at) ∙ s)), tt)

  conf_stays : (f : ℕ) → IsTrue u.tells → u.part f ≡ None → v.part f ≡ Some 1 → (f ≢ x.file) × NotNamed d (d.name to) f
  conf_stays f t fresh at = (
    λ s. one_two (sym at ∙ ap v.part s ∙ (arrivals_of u v n r x h.has).part),
    (told_d t, λ s. h.distinct.config_marked (sym (h.created.keeps.name f 1 at ∙ conf_named f t fresh at) ∙ s ∙ named_to t)),
  )
    where
      one_two : ◌≡◌ {A = Option ℕ} (Some 1) (Some 2) → ⊥
      one_two k = cc

  -- the arrivals have what they had when the marked file was created
  left_there : IsTrue u.tells → d.left x.file ≡ v.left x.file
  left_there t =
      let a = arrivals_of u v n r x h.has in
      h.created.keeps.left x.file 2 a.part ((told_v t, λ s. h.distinct.arrivals_marked (sym (a.name t) ∙ s)), tt)

  keeps_inputs : KeepsInputs u v e
  keeps_inputs = record {
    config = λ f t fresh at.
        h.stays.keeps.left f 1 (h.created.keeps.part f 1 at) (conf_stays f t fresh at) ∙ h.created.keeps.left f 1 at (conf_other f t fresh at);
    arrivals = λ f t fresh at rest left.
        let is = is_arrivals u v n r x h.has f fresh at in
        let P : ℕ → Type 0 = λ k. (tail : List ℕ) × (e.left k ≡ Some tail) × (length tail ≤ length rest) in
        subst P (sym is) (h.shrinks (told_d t) rest (left_there t ∙ ap v.left (sym is) ∙ left));
    part = λ f p at. h.stays.keeps.part f p (h.created.keeps.part f p at);
    no_config = none_made 1 one_six;
    no_arrivals = none_made 2 two_six;
  }

  first : InputsFirst (condition_command n) u e
  first = inputs_first u v n r x h.has e keeps_inputs

  abbrev all : List ℕ
  all = r.file ∷ x.file ∷ to ∷ []

  works : Works (condition_command n).plan all d e
  works = record {
    keeps = keeps_fewer (OtherThan d (d.name to)) (IsOther d (condition_command n).plan) (λ f. (f ≢ x.file) × NotNamed d (d.name to) f)
        (λ f. IsOther d (condition_command n).plan (d.name f) × (IsAmong f all → ⊥)) d e
        (λ k o. let z = o.1.1.0 in (z.0, λ s. z.1 (s ∙ named_to (told_u z.0))))
        (λ f o. let z = o.0.1.1.0 in (λ s. o.1 (inr (inl s)), (z.0, λ s. z.1 (s ∙ named_to (told_u z.0))))) h.stays.keeps;
    none = h.stays.none;
  }

  files : FilesEnd (condition_command n).plan u e
  files =
      let came = came_more (inputs_two n) (written_place part.Marked n.marked ∷ []) (r.file ∷ x.file ∷ []) (to ∷ []) u v d h.has.had.came h.created in
      let few_d : TookFew u d 1 n.config = few_kept _ _ u v d 1 n.config h.has.come.few h.created.keeps
      (λ f fresh at. one_six (made_as f 1 fresh at).0) (λ f t fresh at. conf_other f t fresh at) in
      let none_e : Untouched d e 1 = λ f fresh at. no_some (sym (h.stays.none f fresh) ∙ at) in
      let few : TookFew u e 1 n.config = few_kept _ _ u d e 1 n.config few_d h.stays.keeps none_e
      (λ f t fresh at. conf_stays f t fresh (before f 1 one_six at)) in
      files_end (condition_command n).plan u e (came_all (condition_command n).plan all u e (came_works (condition_command n).plan all u d e came works))
      (few, (tt, (tt, tt)))
    where
      no_some : ◌≡◌ {A = Option ℕ} None (Some 1) → ⊥
      no_some k = cc

  unsaid : e.said ≡ u.said
  unsaid = h.stays.said ∙ h.said ∙ h.has.come.said

  abbrev found : Interface
  found = h.has.had.configured.found

  abbrev given : IsTrue u.tells → Given
  given t = given_of u v n.arrivals x (h.has.had.given t)

  -- what the marked file holds of the capture
  wrote : (t : IsTrue u.tells) → AreMarked d e x.file to x.given.rest (conditioning_of found) (given t).capture y
  wrote t =
      let f = (h.has.had.given t).follows in
      let shown : with_front true x.given.rest x.given.front.items (d.left x.file) ≡ Some f.bytes =
      ap (λ (o : Option (List ℕ)). with_front true x.given.rest x.given.front.items o) (left_there t) ∙ f.left in
      h.marks (told_d t) (conditioning_of found) h.begins.stands f.bytes shown

  held : (t : IsTrue u.tells) → e.bytes n.marked ≡ Some (wrote t).0.written
  held t = ap e.bytes (sym (named_to t)) ∙ (wrote t).0.grown [] (ap d.bytes (named_to t) ∙ h.empty (told_v t))

  -- what holds of what is had holds of what is given, and of nothing else
  of_had : (P : Interface → Given → Type 0) (t : IsTrue u.tells) → P found (given t) → IsGiven u (condition_command n).asked P
  of_had P t p = is_given u v (condition_command n).asked n.arrivals r x P refl h.has.had t p

  any_given : (P : Interface → Given → Type 0) (t : IsTrue u.tells) (i : Inputs) (g : Given) → AreReady u (condition_command n).asked i → i.given ≡ Some g
      → P found (given t) → P i.configured.found g
  any_given P t i g a is p =
      let Q : Interface → Given → Type 0 = λ j k. P j k → P i.configured.found g in
      of_given u v (condition_command n).asked n.arrivals r x Q refl h.has.had t
      (record { inputs = i; ready = a; given = g; is_given = is; holds = λ z. z }) p

  leaves : ConditionLeaves u e n
  leaves = record {
    front = λ t i g a is.
        let w = (wrote t).0 in
        any_given (λ j k. HasFront u e n (marked_in j k.capture)) t i g a is (inr (w.written, w.front.0, held t, w.front.1));
    streams = λ t i g a is.
        any_given (λ j k. is_pcapng k.bytes ≡ false → Streams u e n k.capture) t i g a is (λ classic. streams t classic);
  }
    where
      within : (t : IsTrue u.tells) → is_pcapng (given t).bytes ≡ false → TookWithin e n x.file (given t).capture
      within t classic =
          let w = (wrote t).0 in
          record {
            left = w.left;
            leaves = (wrote t).1 (rest_of x.given.rest (given t).bytes (h.has.had.given t).follows.pcapng classic);
            marked = w.written;
            at = held t;
            within = omega (arith, w.few, ap length w.split, length-append w.taken w.left);
          }

      streams : (t : IsTrue u.tells) → is_pcapng (given t).bytes ≡ false → Streams u e n (given t).capture
      streams t classic f k ff fp kf kp =
          let at_d : d.part f ≡ Some 2 = there_at f fp in
          let is = is_arrivals u v n r x h.has f ff (before f 2 two_six at_d) in
          subst (λ (j : ℕ). TookWithin e n j (given t).capture) (sym is) (within t classic)
        where
          there_at : (f : ℕ) → e.part f ≡ Some 2 → d.part f ≡ Some 2
          there_at f at = by (there_or_not (d.part f))
            where
              by : (d.part f ≡ None) ⊎ ((q : ℕ) × (d.part f ≡ Some q)) → d.part f ≡ Some 2
              by (inl none) = absurd (no (sym (h.stays.none f none) ∙ at))
                where
                  no : ◌≡◌ {A = Option ℕ} None (Some 2) → ⊥
                  no k = cc
              by (inr z) = z.1 ∙ ap (λ (q : ℕ). Some q) (same_part z.0 2 (sym (h.stays.keeps.part f z.0 z.1) ∙ at))

  -- what is read to one end must come so
  must : (s : Step) → IsLast s → ((t : IsTrue u.tells) → HasReading (given t).capture s)
      → IsTrue u.tells → IsQuiet u e → (p : Outcome) → ConditionExpected u n p → IsOr (end_outcome s) p
  must s last reads t q p x =
      let k = is_end u n p x in
      let one = reads t in
      let other = of_given u v (condition_command n).asked n.arrivals r _ (λ i g. HasReading g.capture k.step) refl h.has.had t k.reads in
      let same : s ≡ k.step = (one_reading (given t).capture one.0 other.0 s k.step one.1 last other.1 k.last).1 in
      or_same (end_outcome s) p (ap end_outcome same ∙ sym k.same)

  read_before : (p : ℕ) → u.read_faults p ≤ d.read_faults p
  read_before p = omega (arith, h.has.come.keeps.later.read p, h.created.keeps.later.read p)

  write_before : (p : ℕ) → u.write_faults p ≤ d.write_faults p
  write_before p = omega (arith, h.has.come.keeps.later.write p, h.created.keeps.later.write p)

  ends_own : (f : Failure) → ConditionOwn u e n f → (IsTrue u.tells → IsQuiet u e → (p : Outcome) → ConditionExpected u n p → IsOr (Err f) p)
      → ConditionEnds u e n (Err f)
  ends_own f own must =
      own_ends (condition_command n) (ConditionDone u e n) (ConditionOwn u e n) (ConditionExpected u n) (ConditionLeaves u e n) u e f
      (ready u v n r x h.has) own must files first leaves unsaid

  ends_memory : ConditionEnds u e n (Err failure.NoMemory)
  ends_memory =
      memory_ends (condition_command n) (ConditionDone u e n) (ConditionOwn u e n) (ConditionExpected u n) (ConditionLeaves u e n) u e
      files first leaves unsaid

  -- what came of the marking
  came : (o : Result ⊤ Unmarked) → y ≡ o → (t : IsTrue u.tells) → let w = (wrote t).0 in CameOf (conditioning_of found) (given t).capture w.taken w.written o
  came o is t = let w = (wrote t).0 in subst (λ (o : Result ⊤ Unmarked). CameOf (conditioning_of found) (given t).capture w.taken w.written o) is w.came

  -- IT IS DONE
  pub conditioned : (k : ⊤) → y ≡ Ok k → SameCounts u e → ConditionEnds u e n (Ok done.Done)
  conditioned k is counts =
      let c = came (Ok k) is in
      done_ends (condition_command n) (ConditionDone u e n) (ConditionOwn u e n) (ConditionExpected u n) (ConditionLeaves u e n) u e done.Done
      (ready u v n r x h.has)
      (λ t. of_had (HasConditioned e n) t (record { records = (c t).0.records; whole = (c t).0.reads; marked = held t ∙ ap Some (c t).1 }), unsaid) counts
      (must End tt (λ t. ((c t).0.records, (c t).0.reads))) files first leaves

  -- IT IS NOT: the capture reads to this end, a read failed, or a write
  stopped : (s : Step) (f : Failure) → IsLast s → end_outcome s ≡ Err f → (OfMarked u n (IsStopped e n s) → ConditionOwn u e n f)
      → ((t : IsTrue u.tells) → AreWhole (conditioning_of found) (given t).capture s (wrote t).0.written) → ConditionEnds u e n (Err f)
  stopped s f last is own whole =
      ends_own f (own (λ t. of_had (IsStopped e n s) t (record { marked = (wrote t).0.written; at = held t; whole = whole t })))
      (subst (λ (o : Outcome). IsTrue u.tells → IsQuiet u e → (p : Outcome) → ConditionExpected u n p → IsOr o p) is
      (must s last (λ t. ((whole t).records, (whole t).reads))))

  cut_short : y ≡ Err unmarked.Read → x.given.rest ≡ true → OfMarked u n (IsCutShort u e n)
  cut_short is rest t =
      let w = (wrote t).0 in
      let c = came (Err unmarked.Read) is t in
      let a = arrivals_of u v n r x h.has in
      of_had (IsCutShort u e n) t (record {
        read_on = ((h.has.had.given t).follows.classic rest).0;
        taken = w.taken;
        left = w.left;
        split = w.split;
        file = x.file;
        fresh = a.fresh;
        part = h.stays.keeps.part x.file 2 (h.created.keeps.part x.file 2 a.part);
        leaves = (wrote t).1 rest;
        last = c.0;
        is_last = c.1;
        holds = record { marked = w.written; at = held t; whole = c.2 };
      })

  pub unmarked_ends : (why : Unmarked) → y ≡ Err why → Faults d e x.file to x.given.rest why → ConditionEnds u e n (Err (unmarked_failure why))
  unmarked_ends (unmarked.Damaged damage) is f = stopped (Fault damage) _ tt refl (λ o. o) (came (Err (unmarked.Damaged damage)) is)
  unmarked_ends unmarked.Limit is f = stopped Limit _ tt refl (λ o. o) (came (Err unmarked.Limit) is)
  unmarked_ends unmarked.Read is f =
      let z = f.read refl in
      let at : d.part x.file ≡ Some 2 = h.created.keeps.part x.file 2 (arrivals_of u v n r x h.has).part in
      let rose = rose_later (u.read_faults 2) (d.read_faults 2) (e.read_faults 2) (read_before 2) (z.1 2 at) in
      ends_own (failure.Read part.Arrivals) (rose, cut_short is z.0) (λ t q p k. absurd ((q 2 (omega arith)).0 rose))
  unmarked_ends unmarked.Write is f =
      let rose = rose_later (u.write_faults 6) (d.write_faults 6) (e.write_faults 6) (write_before 6) (f.write refl 6 h.created.are.0.part) in
      ends_own (failure.Write part.Marked) rose (λ t q p k. absurd ((q 6 (omega arith)).1 (omega arith) rose))
  unmarked_ends unmarked.NoMemory is f = ends_memory

-- NOTHING WAS CREATED: memory ran out, or the marked file could not be
module _ (u v e : View) (n : MarkNames) (r : ReadConf) (x : Arrivals) (h : HasInputs u v n r x) (c : Unchanged v e) where
  pub uncreated_starved : ConditionEnds u e n (Err failure.NoMemory)
  uncreated_starved =
      memory_ends (condition_command n) (ConditionDone u e n) (ConditionOwn u e n) (ConditionExpected u n) (ConditionLeaves u e n) u e
      (uncreated_files u v e n r x h c) (uncreated_first u v e n r x h c) (uncreated_leaves u v e n r x h c) (c.said ∙ h.come.said)

  pub uncreated_fails : Rose (v.write_faults 6) (e.write_faults 6) → ConditionEnds u e n (Err (failure.Write part.Marked))
  uncreated_fails rose =
      let since = rose_later (u.write_faults 6) (v.write_faults 6) (e.write_faults 6) (h.come.keeps.later.write 6) rose in
      own_ends (condition_command n) (ConditionDone u e n) (ConditionOwn u e n) (ConditionExpected u n) (ConditionLeaves u e n) u e (failure.Write part.Marked)
      (ready u v n r x h) since (λ t q p k. absurd ((q 6 (omega arith)).1 (omega arith) since)) (uncreated_files u v e n r x h c)
      (uncreated_first u v e n r x h c) (uncreated_leaves u v e n r x h c) (c.said ∙ h.come.said)

-- the inputs are not had
come_leaves : (u v : View) (n : MarkNames) → HaveCome (condition_command n).asked u v → ConditionLeaves u v n
come_leaves u v n h = record {
  front = λ t i g a e. inl (none, h.keeps.bytes n.marked tt);
  streams = λ t i g a e classic f k ff fp kf kp. absurd (none k kf kp);
}
  where
    two : (es ds : List Place) (fs : List ℕ) (f : ℕ) → inputs_two n ≡ es ++ ds → Came es fs u v → u.part f ≡ None → v.part f ≡ Some 6 → ⊥
    two es ds fs f split c fresh at =
        by ((files_end (inputs_two n) u v (record { front = es; rest = ds; split = split; files = fs; came = c }) (h.few, (tt, tt))).parts f 6 fresh at)
      where
        by : HasPart (inputs_two n) 6 → ⊥
        by (inl k) = omega (arith, k)
        by (inr (inl k)) = omega (arith, k)
        by (inr (inr k)) = k

    none : Untouched u v 6
    none f fresh at = two h.along.front h.along.rest h.along.files f h.along.split h.along.came fresh at

pub unready_condition : (u v : View) (n : MarkNames) (y : Unready) → HaveCome (condition_command n).asked u v → IsUnready (condition_command n).asked u v y
    → ConditionEnds u v n (Err (unready_failure link.Sole y))
unready_condition u v n y h m =
    unready_ends (condition_command n) (ConditionDone u v n) (ConditionOwn u v n) (ConditionExpected u n) (ConditionLeaves u v n) (condition_reads n) u v y
    (expected_ready u n) h m (come_leaves u v n h)
