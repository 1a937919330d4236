-- How a chain ends: by its inputs, in its first play, at the opening of what that sent, in its second play, or at its paths.
use Rattle.std.proofs.Common.{◌≡◌, ◌∙◌, ◌++◌, ℕ, List, Ok, Err, ap, append_assoc, sym, refl, subst, inl, inr, arith}
use Rattle.std.specs.Prelude.{IsTrue, Result}
use Rattle.conf_tree.specs.declared.interface.Interface.{Interface}
use Rattle.file_plans.specs.Came.{CameAlong, IsRefused}
use Rattle.file_plans.specs.declared.part.Part.TheVariants as part
use Rattle.file_plans.specs.Plan.{Place, read_place}
use Rattle.file_plans.proofs.CameLaws.{came_unchanged, none_some}
use Rattle.file_plans.proofs.EndLaws.{came_all}
use Rattle.play_base.specs.View.{View, Rose, SameCounts, Unchanged}
use Rattle.play_base.specs.declared.trouble.Trouble.{Trouble}
use Rattle.play_base.specs.declared.trouble.Trouble.TheVariants as trouble
use Rattle.play_core.specs.declared.totals.Totals.{Totals}
use Rattle.play_loop.specs.declared.fault.PlayFault.{PlayFault}
use Rattle.play_loop.specs.declared.kept.KeptFate.{KeptFate}
use Rattle.run_inputs.specs.declared.inputs.Unready.{Unready}
use Rattle.run_inputs.specs.Had.{HaveCome, IsUnready}
use Rattle.run_inputs.specs.Says.{Given}
use Rattle.run_outcomes.specs.Faults.{IsQuiet}
use Rattle.run_outcomes.specs.Outcome.{IsOr, Outcome}
use Rattle.run_outcomes.specs.declared.outcome.Done.TheVariants as done
use Rattle.run_outcomes.specs.declared.outcome.Failure.{Failure}
use Rattle.run_outcomes.specs.declared.outcome.Failure.TheVariants as failure
use Rattle.run_outcomes.specs.declared.outcome.Link.TheVariants as link
use Rattle.command_form.specs.Form.{unready_failure}
use Rattle.command_form.specs.Names.{Links}
use Rattle.command_form.specs.Plans.{chain_plan}
use Rattle.command_form.proofs.EndsLaws.{done_ends, memory_ends, own_ends, unready_ends}
use Rattle.command_form.proofs.FirstLaws.{within_along}
use Rattle.interface_play.proofs.FailingLaws.{failed_as}
use Rattle.interface_play.proofs.FrontLaws.{fronts_none, played_fronts}
use Rattle.interface_play.specs.Failing.{play_failure}
use Rattle.interface_play.specs.Fronts.{Fronts}
use Rattle.interface_play.specs.Played.{WasPlayed}
use Rattle.interface_play.specs.Source.{Places, Source}
use Rattle.play_command.specs.Headline.{sole_of, source_by}
use Rattle.chain_command.specs.Chaining.{ChainDone, ChainEnds, ChainExpected, ChainLeaves, ChainOwn, OfFirst, OfSecond, TwoExpect}
use Rattle.chain_command.specs.Names.{IsGivenTwo, chain_command, seconds_of}
use Rattle.chain_command.specs.Writing.{failure_by}
use Rattle.chain_command.proofs.EndedLemmas.{played_on}
use Rattle.chain_command.proofs.FirstLemmas.{FirstEnded, Run, asked_of, given_at, input_files, is_two, of_two, source_first}
use Rattle.chain_command.proofs.MustLemmas.{first_must, second_must}
use Rattle.chain_command.proofs.NameLemmas.{chain_reads, five, inputs_at, nine}
use Rattle.chain_command.proofs.SecondLemmas.{Passed, SecondEnded, first_then, said_then, source_second, stands_second}
use Rattle.chain_command.proofs.StandLemmas.{Stands, files_at, inputs_first, ready_where, stands_first, stands_on, untouched, within_five, within_nine}

-- THE INPUTS ARE NOT HAD
pub unread_leaves : (n : Links) (seed : ℕ) (u v : View) → HaveCome (asked_of n) u v → ChainLeaves u v n seed
unread_leaves n seed u v h = record {
  first = λ t y. fronts_none u v (sole_of n.first) seed (source_by y.inputs.configured.found y.given)
      (untouched (inputs_at n) u v 3 h.along (λ m. omega (arith, m)), h.keeps.bytes n.first.departures tt)
      (untouched (inputs_at n) u v 4 h.along (λ m. omega (arith, m)), h.keeps.bytes n.first.fates tt)
      (untouched (inputs_at n) u v 5 h.along (λ m. omega (arith, m)), h.keeps.bytes n.first.stats tt);
  second = inl (within_along (chain_command n) (chain_reads n) 5 u v h.along h.few);
  path = λ t. inl (untouched (inputs_at n) u v 10 h.along (λ m. omega (arith, m)));
}

pub input_ends : (n : Links) (seed : ℕ) (u v : View) (y : Unready) → HaveCome (asked_of n) u v → IsUnready (asked_of n) u v y
    → ChainEnds u v n seed (Err (unready_failure link.First y))
input_ends n seed u v y h m =
    unready_ends (chain_command n) _ _ _ _ (chain_reads n) u v y (λ p e. (e.inputs, e.ready)) h m (unread_leaves n seed u v h)

-- WHERE A CHAIN ENDS: the inputs' files stand, and files came along its plan
pub record Stops (s : Run) (v : View) : Type 0 where
  pub stand : Stands s v
  pub along : CameAlong (chain_plan s.links) s.before v
  pub leaves : ChainLeaves s.before v s.links s.seed
  pub said : v.said ≡ s.before.said

-- the first places of a plan came
along_more : (es ds : List Place) (u v : View) → CameAlong es u v → CameAlong (es ++ ds) u v
along_more es ds u v x = record {
  front = x.front;
  rest = x.rest ++ ds;
  split = ap (λ (r : List Place). r ++ ds) x.split ∙ append_assoc x.front x.rest ds;
  files = x.files;
  came = x.came;
}

module _ (s : Run) (v : View) where
  abbrev Must : Outcome → Type 0
  Must o = IsTrue s.before.tells → IsQuiet s.before v → (p : Outcome) → ChainExpected s.before s.links s.seed p → IsOr o p

  pub ends_memory : Stops s v → ChainEnds s.before v s.links s.seed (Err failure.NoMemory)
  ends_memory x = memory_ends (chain_command s.links) _ _ _ _ s.before v (files_at s v x.stand x.along) (inputs_first s v x.stand) x.leaves x.said

  pub ends_own : (f : Failure) → Stops s v → ChainOwn s.before v s.links s.seed f → Must (Err f) → ChainEnds s.before v s.links s.seed (Err f)
  ends_own f x own must =
      own_ends (chain_command s.links) _ _ _ _ s.before v f (ready_where s) own must (files_at s v x.stand x.along) (inputs_first s v x.stand) x.leaves x.said

  pub ends_done : Stops s v → ChainDone s.before v s.links s.seed done.Done → SameCounts s.before v → Must (Ok done.Done)
      → ChainEnds s.before v s.links s.seed (Ok done.Done)
  ends_done x is counts must =
      done_ends (chain_command s.links) _ _ _ _ s.before v done.Done (ready_where s) is counts must (files_at s v x.stand x.along)
      (inputs_first s v x.stand) x.leaves

  -- what the first link's outputs hold, told of any inputs that are ready
  pub leave_first : ((t : IsTrue s.before.tells) → Fronts s.before v (sole_of s.links.first) s.seed (source_first s t)) → IsTrue s.before.tells
      → (y : IsGivenTwo s.before s.links (λ i j g. Unit {0})) → Fronts s.before v (sole_of s.links.first) s.seed (source_by y.inputs.configured.found y.given)
  leave_first h t y =
      let Q : Interface → Given → Type 0 = λ i g. Fronts s.before v (sole_of s.links.first) s.seed (source_by i g) in
      of_two s (λ i j g. Q i g → Q y.inputs.configured.found y.given) t
      (record { inputs = y.inputs; ready = y.ready; next = y.next; is_next = y.is_next; given = y.given; is_given = y.is_given; holds = λ z. z }) (h t)

  -- nothing came to be behind the first play
  stops_five : Stands s v → CameAlong (five s.links) s.before v
      → ((t : IsTrue s.before.tells) → Fronts s.before v (sole_of s.links.first) s.seed (source_first s t)) → v.said ≡ s.before.said → Stops s v
  stops_five x along fronts said = record {
    stand = x;
    along = along_more (five s.links) _ s.before v along;
    leaves = record {
      first = leave_first fronts;
      second = inl (within_five s v x along);
      path = λ t. inl (untouched (five s.links) s.before v 10 along (λ m. omega (arith, m)));
    };
    said = said;
  }

-- THE FIRST PLAY FAILS
pub first_fails : (s : Run) {kept : List KeptFate → Type 0} {v : View} {w : Places} {o : Failure} (f : PlayFault) → FirstEnded s kept v (Err f)
    → o ≡ play_failure link.First w f → w ≡ sole_of s.links.first → ChainEnds s.before v s.links s.seed (Err o)
first_fails s {kept} {v} f h same places =
    let x = stands_first s h in
    rw (same, places)
    (ends_own s v (play_failure link.First (sole_of s.links.first) f) (stops_five s v x h.along h.fronts (h.said ∙ s.come.said))
    (inl (
      within_five s v x h.along,
      failed_as (λ P. (t : IsTrue s.before.tells) → P (source_first s t)) (OfFirst s.before s.links) (sole_of s.links.first) s.seed s.before v link.First f
          (λ P of t. is_two s t (of t)) h.fails,
    ))
    (λ t q o e. first_must s.seed s.had.configured.found s.next (given_at s t) (sole_of s.links.first) f (h.must q t) o (of_two s (TwoExpect s.seed o) t e)))

-- IT IS DONE, AND WHAT IT SENT CANNOT BE OPENED
module _ (s : Run) {kept : List KeptFate → Type 0} {v w : View} {totals : Totals} (h : FirstEnded s kept v (Ok totals)) (n : Unchanged v w) where
  along : CameAlong (five s.links) s.before w
  along = came_all _ _ s.before w (came_unchanged (five s.links) (input_files s ++ h.came.0) s.before v w h.came.1 n)

  stand : Stands s w
  stand = stands_on s (stands_first s h) n.keeps (λ f fresh e. none_some 1 (sym (n.none f fresh) ∙ e)) (λ f fresh e. none_some 2 (sym (n.none f fresh) ∙ e))
      (λ t. (tt, tt))

  played : (t : IsTrue s.before.tells) → WasPlayed w (sole_of s.links.first) s.seed (source_first s t)
  played t = played_on n.keeps (tt, (tt, (tt, tt))) (h.done t).played

  stops : Stops s w
  stops = stops_five s w stand along (λ t. played_fronts s.before w (sole_of s.links.first) s.seed (source_first s t) (played t)) (n.said ∙ h.said ∙ s.come.said)

  -- a fault rose, as the departures are there where the files tell
  rose : IsRefused v w (read_place part.Departures s.links.first.departures) → Rose (s.before.read_faults 3) (w.read_faults 3)
  rose (inl r) = subst (λ (k : ℕ). Rose k (w.read_faults 3)) (h.counts.read 3) r
  rose (inr a) =
      let t : IsTrue s.before.tells = sym (n.keeps.tells ∙ h.keeps.tells ∙ s.come.keeps.tells) ∙ a.0.0 in
      absurd (cc (a.0.1, (played t).texts.departures))

  pub opening_ends : {e : Place} {o : Failure} (t : Trouble) → e ≡ read_place part.Departures s.links.first.departures
      → (◌≡◌ {A = Result ℕ Trouble} (Err t) (Err trouble.Failed) → IsRefused v w e) → o ≡ failure_by (failure.Read part.Departures) t
      → ChainEnds s.before w s.links s.seed (Err o)
  opening_ends trouble.NoMemory is r same = rw same (ends_memory s w stops)
  opening_ends trouble.Failed is r same =
      let up = rose (subst (λ (z : Place). IsRefused v w z) is (r refl)) in
      rw same (ends_own s w (failure.Read part.Departures) stops
      (inr (inl (within_five s w stand along, (refl, up, λ t. is_two s t (played t, tt))))) (λ t q o e. absurd ((q 3 (omega arith)).0 up)))

-- THE SECOND PLAY FAILS
pub second_fails : {s : Run} {kept held : List KeptFate → Type 0} {w c : View} {file : ℕ} {y : Places} {o : Failure} (p : Passed s kept w file) (f : PlayFault)
    → SecondEnded p held c (Err f) → o ≡ play_failure link.Second y f → y ≡ seconds_of s.links → ChainEnds s.before c s.links s.seed (Err o)
second_fails {s} {kept} {held} {w} {c} {file} p f h same places =
    let x = stands_second p h in
    let of : (P : Source → Type 0) → ((t : IsTrue s.before.tells) → P (source_second p t)) → OfSecond s.before c s.links s.seed P =
    λ P of t. is_two s t (first_then p h t, of t) in
    rw (same, places)
    (ends_own s c (play_failure link.Second (seconds_of s.links) f)
    (record {
      stand = x;
      along = along_more (nine s.links) _ s.before c h.along;
      leaves = record {
        first = leave_first s c (λ t. played_fronts s.before c (sole_of s.links.first) s.seed (source_first s t) (first_then p h t));
        second = inr (of (Fronts s.before c (seconds_of s.links) s.seed) h.fronts);
        path = λ t. inl (untouched (nine s.links) s.before c 10 h.along (λ m. omega (arith, m)));
      };
      said = said_then p h;
    })
    (inr (inr (inl (
      within_nine s c x h.along,
      failed_as _ (OfSecond s.before c s.links s.seed) (seconds_of s.links) s.seed s.before c link.Second f of h.fails,
    ))))
    (λ t q o e. second_must s.seed s.had.configured.found s.next (given_at s t) (seconds_of s.links) (Err f) (p.played t) (h.must q t) o
    (of_two s (TwoExpect s.seed o) t e)))
