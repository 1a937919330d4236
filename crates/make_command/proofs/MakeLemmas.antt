-- How `make` ends before its play.
use Rattle.std.proofs.Common.{◌≡◌, ◌≢◌, ◌∙◌, ◌⊎◌, ℕ, ◌≤◌, List, [], ◌∷◌, Option, None, Some, Err, IsTrue, ap, arith, sym, refl, subst, inl, inr}
use Rattle.std.proofs.lemmas.List.{append-nil}
use Rattle.command_form.specs.Form.{ReadsInputs, unready_failure}
use Rattle.command_form.specs.Names.{Names}
use Rattle.command_form.specs.Plans.{make_plan}
use Rattle.command_form.proofs.EndsLaws.{Stands, stands_or, unread_ends, unready_ends}
use Rattle.command_form.proofs.FirstLaws.{along_more, none_come, read_kept, ready_first, was_there}
use Rattle.command_form.proofs.HadLaws.{conf_read, conf_ready}
use Rattle.file_plans.specs.declared.part.Part.TheVariants as part
use Rattle.file_plans.specs.Came.{Came, CameAlong}
use Rattle.file_plans.specs.End.{FilesEnd, TookFew, Untouched}
use Rattle.file_plans.specs.Parts.{part_number}
use Rattle.file_plans.specs.Plan.{IsOther, Place, number_of, read_place, written_place}
use Rattle.file_plans.proofs.EndLaws.{came_then, files_end}
use Rattle.file_plans.proofs.FewLaws.{few_kept}
use Rattle.generated.specs.Packets.{generated_capture}
use Rattle.interface_play.specs.Fronts.{IsFrontAt}
use Rattle.interface_play.specs.Source.{outputs_at}
use Rattle.play_base.specs.View.{View, IsAbsent, Keeps, SameCounts}
use Rattle.play_base.proofs.ViewLaws.{later_trans, rose_later}
use Rattle.play_words.specs.Words.{AreDistinct}
use Rattle.run_inputs.specs.declared.inputs.ReadConf.{ReadConf}
use Rattle.run_inputs.specs.declared.inputs.Unready.{Unready}
use Rattle.run_inputs.specs.Had.{HaveCome, IsHad, IsUnready}
use Rattle.run_outcomes.specs.Faults.{ReadFailed, WriteFailed}
use Rattle.run_outcomes.specs.declared.outcome.Failure.{Failure}
use Rattle.run_outcomes.specs.declared.outcome.Failure.TheVariants as failure
use Rattle.run_outcomes.specs.declared.outcome.Link.TheVariants as link
use Rattle.play_command.specs.Headline.{sole_of}
use Rattle.play_command.proofs.StayLaws.{all_stay, unbegun_fronts}
use Rattle.make_command.specs.Ending.{MakeDone, MakeEnds, MakeExpected, MakeLeaves, MakeOwn}
use Rattle.make_command.specs.Made.{make_command, source_made}

pub make_reads : (n : Names) → ReadsInputs (make_command n)
make_reads n = record {
  rest = written_place part.Arrivals n.arrivals ∷ read_place part.Arrivals n.arrivals ∷ outputs_at (sole_of n);
  plan = refl;
  few = λ u v f. (f, (tt, (tt, (tt, (tt, (tt, tt))))));
}

-- the places of the configuration, of the arrivals as they are written and read, and those behind the configuration
abbrev pub config_at : Names → Place
config_at n = read_place part.Configuration n.config

abbrev pub made_at : Names → Place
made_at n = written_place part.Arrivals n.arrivals

abbrev pub opened_at : Names → Place
opened_at n = read_place part.Arrivals n.arrivals

abbrev pub before_play : Names → List Place
before_play n = config_at n ∷ made_at n ∷ opened_at n ∷ []

abbrev pub behind_config : Names → List Place
behind_config n = made_at n ∷ opened_at n ∷ outputs_at (sole_of n)

pub other_name : (n : Names) (v : View) {m : List ℕ} → n.arrivals ≢ m → IsTrue v.tells → IsOther v (before_play n) m
other_name n v apart t = (tt, ((t, λ e. apart (sym e)), (tt, tt)))

-- where no output came to be
leaves_unbegun : {N : List ℕ → Type 0} {F : ℕ → Type 0} {u w : View} {n : Names} (seed count : ℕ) → Keeps N F u w
    → (IsTrue u.tells → N n.departures × N n.fates × N n.stats) → ((p : ℕ) → 3 ≤ p → Untouched u w p)
    → (IsTrue u.tells → IsFrontAt u w (made_at n) (generated_capture seed count)) → MakeLeaves u w n seed count
leaves_unbegun {u = u} {w = w} {n = n} seed count keeps names none front = record {
  arrivals = front;
  behind = λ t. inl (none 3 (omega arith));
  fronts = λ t c says.
      let m = names t in
      unbegun_fronts u w (sole_of n) seed (source_made seed count c.found)
      (all_stay keeps (sole_of n) (λ e h. none (number_of e) (omega (arith, h))) m.0 m.1 m.2);
}

-- THE CONFIGURATION ALONE CAME
config_end : {u a : View} (n : Names) → HaveCome (make_command n).asked u a → FilesEnd (config_at n ∷ []) u a
config_end {u = u} {a = a} n h = files_end (config_at n ∷ []) u a h.along (h.few, tt)

come_leaves : {u a : View} (n : Names) (seed count : ℕ) → HaveCome (make_command n).asked u a → MakeLeaves u a n seed count
come_leaves n seed count h =
    leaves_unbegun seed count h.keeps (λ t. (tt, tt, tt)) (λ p l f fresh e. omega (arith, l, (config_end n h).parts f p fresh e))
    (λ t. inl (λ f fresh e. omega (arith, (config_end n h).parts f 2 fresh e), h.keeps.bytes n.arrivals tt))

-- it is not had
pub make_unready : (u a : View) (n : Names) (seed count : ℕ) (y : Unready) → HaveCome (make_command n).asked u a → IsUnready (make_command n).asked u a y
    → MakeEnds u a n seed count (Err (unready_failure link.Sole y))
make_unready u a n seed count y h m =
    unready_ends (make_command n) (MakeDone u a n seed count) (MakeOwn u a n seed count) (MakeExpected u n seed count) (MakeLeaves u a n seed count) (make_reads n)
    u a y (λ p e. (record { configured = e.0; given = None }, record { configured = e.1; given = tt })) h m (come_leaves n seed count h)

-- the words were accepted, but memory ran out while they were read
pub make_unread : (u : View) (n : Names) (seed count : ℕ) → MakeEnds u u n seed count (Err failure.NoMemory)
make_unread u n seed count =
    unread_ends (make_command n) (MakeDone u u n seed count) (MakeOwn u u n seed count) (MakeExpected u n seed count) (MakeLeaves u u n seed count) (make_reads n)
    u (come_leaves n seed count (none_come u (make_command n).asked))

-- IT IS HAD
pub record Asks (u a : View) (n : Names) (r : ReadConf) : Type 0 where
  pub come : HaveCome (make_command n).asked u a
  pub had : IsHad (make_command n).asked u a r
  pub counts : SameCounts u a
  pub distinct : AreDistinct n.config n.arrivals n.departures n.fates n.stats

module _ {u a : View} {n : Names} {r : ReadConf} (k : Asks u a n r) where
  config_other : (f : ℕ) → IsTrue u.tells → u.part f ≡ None → a.part f ≡ Some 1 → IsOther a (behind_config n) (a.name f)
  config_other f t fresh e = by (k.had.came.only f 1 fresh e)
    where
      by : (f ≡ r.file) ⊎ ⊥ → IsOther a (behind_config n) (a.name f)
      by (inl h) =
          let d = k.distinct in
          let told = k.come.keeps.tells ∙ t in
          subst (IsOther a (behind_config n)) (sym (ap a.name h ∙ k.had.came.are.0.name t))
          ((told, d.config_arrivals), (tt, ((told, d.config_departures), ((told, d.config_fates), ((told, d.config_stats), tt)))))
      by (inr h) = absurd h

  -- and behind that these files came along: they are those of the plan, and the configuration came first
  module _ {w : View} (along : CameAlong (behind_config n) a w) where
    end : FilesEnd (behind_config n) a w
    end = files_end (behind_config n) a w along (tt, (tt, (tt, (tt, (tt, tt)))))

    no_config : Untouched a w 1
    no_config f fresh e = omega (arith, end.parts f 1 fresh e)

    make_few : TookFew u w 1 n.config
    make_few = few_kept _ _ u a w 1 n.config k.come.few end.others no_config config_other

    pub make_stands : {L : Type 0} → L → Stands (make_command n) L u w
    make_stands leaves = record {
      ready = conf_ready u a _ r refl k.had;
      files =
          files_end (make_plan n) u w (came_then (config_at n ∷ []) (behind_config n) (r.file ∷ []) u a w k.had.came along)
          (make_few, (tt, (tt, (tt, (tt, (tt, tt))))));
      first =
          ready_first (make_command n) u w (conf_ready u a _ r refl k.had)
          (λ t.
          read_kept u a w _ (λ f fresh e. end.others.left f 1 e (config_other f t fresh e)) end.others.part no_config
          (conf_read u a (make_command n).asked r k.had t))
          (λ t. tt);
      leaves = leaves;
    }

  -- the play of them did not begin
  stands_unbegun : {w : View} (seed count : ℕ) → CameAlong (made_at n ∷ opened_at n ∷ []) a w
      → (IsTrue u.tells → IsFrontAt u w (made_at n) (generated_capture seed count)) → Stands (make_command n) (MakeLeaves u w n seed count) u w
  stands_unbegun {w = w} seed count along front =
      let d = k.distinct in
      let all = along_more (made_at n ∷ opened_at n ∷ []) (outputs_at (sole_of n)) a w along in
      let some : FilesEnd (before_play n) u w =
      files_end (before_play n) u w (came_then (config_at n ∷ []) (made_at n ∷ opened_at n ∷ []) (r.file ∷ []) u a w k.had.came along)
      (make_few all, (tt, (tt, tt))) in
      make_stands all
      (leaves_unbegun seed count some.others
      (λ t. (other_name n u d.arrivals_departures t, other_name n u d.arrivals_fates t, other_name n u d.arrivals_stats t))
      (λ p l f fresh e. omega (arith, l, some.parts f p fresh e)) front)

  -- a front of the arrivals since the configuration is one since the beginning
  front_since : (b : View) (text : List ℕ) → ((f q : ℕ) → a.part f ≡ Some q → b.part f ≡ Some q) → IsFrontAt a b (made_at n) text
      → IsFrontAt u b (made_at n) text
  front_since b text still (inl x) = inl (
    λ f fresh e. omega (arith, (config_end n k.come).parts f 2 fresh (was_there a b 2 f still x.0 e)),
    x.1 ∙ k.come.keeps.bytes n.arrivals tt,
  )
  front_since b text still (inr x) = inr x

  -- THE ARRIVALS ARE NOT WRITTEN
  pub write_failed : {b : View} {f : Failure} (seed count : ℕ) → CameAlong (made_at n ∷ []) a b
      → (IsTrue a.tells → IsFrontAt a b (made_at n) (generated_capture seed count)) → b.said ≡ a.said
      → (f ≡ failure.NoMemory) ⊎ ((f ≡ failure.Write part.Arrivals) × WriteFailed a b (part_number part.Arrivals)) → MakeEnds u b n seed count (Err f)
  write_failed {b = b} seed count along front said why =
      let s : Stands (make_command n) (MakeLeaves u b n seed count) u b =
      stands_unbegun seed count (along_more (made_at n ∷ []) (opened_at n ∷ []) a b along)
      (λ t. front_since b _ along.came.keeps.part (front (k.come.keeps.tells ∙ t))) in
      let failed : WriteFailed a b 2 → WriteFailed u b 2 = λ h. rose_later _ _ _ (k.come.keeps.later.write 2) h in
      stands_or s (failure.Write part.Arrivals)
      (λ h. (
        failed h,
        files_end (config_at n ∷ made_at n ∷ []) u b (came_then (config_at n ∷ []) (made_at n ∷ []) (r.file ∷ []) u a b k.had.came along)
            (s.files.few.0, (tt, tt)),
      ))
      (λ h t q p e. absurd ((q 2 (omega arith)).1 (omega arith) (failed h))) (said ∙ k.come.said) why

-- THE ARRIVALS ARE WRITTEN
pub record IsWritten (u a b : View) (n : Names) (seed count : ℕ) (r : ReadConf) : Type 0 where
  pub asks : Asks u a n r
  pub file : ℕ
  pub came : Came (made_at n ∷ []) (file ∷ []) a b
  pub whole : IsTrue a.tells → b.bytes n.arrivals ≡ Some (generated_capture seed count)
  pub counts : SameCounts a b
  pub said : b.said ≡ a.said

no_bytes : (o : Option (List ℕ)) (xs : List ℕ) → o ≡ None → o ≡ Some xs → ⊥
no_bytes o xs h k = cc

-- and not opened
pub open_failed : {u a b d : View} {n : Names} {seed count : ℕ} {r : ReadConf} {f : Failure} → IsWritten u a b n seed count r
    → CameAlong (opened_at n ∷ []) b d → d.said ≡ b.said
    → (f ≡ failure.NoMemory) ⊎ ((f ≡ failure.Read part.Arrivals) × (ReadFailed b d (part_number part.Arrivals) ⊎ IsAbsent b n.arrivals))
    → MakeEnds u d n seed count (Err f)
open_failed {u = u} {a = a} {b = b} {d = d} {n = n} {seed = seed} {count = count} {r = r} w along said why =
    stands_or s (failure.Read part.Arrivals)
    (λ h. inl (
      failed h,
      files_end (before_play n) u d (came_then (config_at n ∷ []) (made_at n ∷ opened_at n ∷ []) (r.file ∷ []) u a d w.asks.had.came two)
          (s.files.few.0, (tt, (tt, tt))),
    ))
    (λ h t q p e. absurd ((q 2 (omega arith)).0 (failed h))) (said ∙ w.said ∙ w.asks.come.said) why
  where
    two : CameAlong (made_at n ∷ opened_at n ∷ []) a d
    two = came_then (made_at n ∷ []) (opened_at n ∷ []) (w.file ∷ []) a b d w.came along

    s : Stands (make_command n) (MakeLeaves u d n seed count) u d
    s =
        stands_unbegun w.asks seed count two
        (λ t. inr (
          generated_capture seed count,
          [],
          (files_end (opened_at n ∷ []) b d along (tt, tt)).others.bytes n.arrivals (tt, tt) ∙ w.whole (w.asks.come.keeps.tells ∙ t),
          append-nil (generated_capture seed count),
        ))

    failed : ReadFailed b d 2 ⊎ IsAbsent b n.arrivals → ReadFailed u d 2
    failed (inl x) = rose_later _ _ _ ((later_trans u a b w.asks.come.keeps.later w.came.keeps.later).read 2) x
    failed (inr x) = absurd (no_bytes (b.bytes n.arrivals) (generated_capture seed count) x.1 (w.whole (sym w.came.keeps.tells ∙ x.0)))
