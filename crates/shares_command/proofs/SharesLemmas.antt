-- How `shares` ends: as its play fails, or behind it.
use Rattle.std.proofs.Common.{◌≡◌, ◌++◌, ◌∙◌, ◌⊎◌, ◌≤◌, ℕ, true, List, [], ◌∷◌, length, Some, Ok, Err, ap, sym, subst, subst₂}
use Rattle.altq_model.specs.History.{Event, unlabelled}
use Rattle.arrivals_front.specs.declared.given.Given.{Given}
use Rattle.command_form.specs.Form.{unready_failure}
use Rattle.command_form.specs.Names.{Names}
use Rattle.command_form.proofs.EndsLaws.{stands_done, stands_fails, stands_unsaid, unread_ends, unready_ends}
use Rattle.command_form.proofs.FirstLaws.{none_come}
use Rattle.conf_tree.specs.declared.interface.Interface.{Interface}
use Rattle.file_plans.specs.Parts.{printed}
use Rattle.file_plans.specs.Plan.{number_of}
use Rattle.interface_play.specs.declared.play.Play.{Play}
use Rattle.interface_play.specs.Ended.{HasEnded, OnlyPlays}
use Rattle.interface_play.specs.Failing.{play_failure}
use Rattle.interface_play.specs.Setup.{Untold}
use Rattle.interface_play.specs.Source.{AreSeparate, Places, places_in}
use Rattle.play_base.specs.View.{View, Said, SameCounts, Unchanged}
use Rattle.play_base.proofs.ViewLaws.{later_trans, same_trans}
use Rattle.play_core.specs.declared.totals.Totals.{Totals}
use Rattle.play_loop.specs.declared.fault.Limit.TheVariants as limit
use Rattle.play_loop.specs.declared.fault.Output.TheVariants as output
use Rattle.play_loop.specs.declared.fault.PlayFault.{PlayFault}
use Rattle.play_loop.specs.declared.fault.PlayFault.TheVariants as fault
use Rattle.run_inputs.specs.declared.inputs.Arrivals.{Arrivals}
use Rattle.run_inputs.specs.declared.inputs.ReadConf.{ReadConf}
use Rattle.run_inputs.specs.declared.inputs.Unready.{Unready}
use Rattle.run_inputs.specs.Had.{HaveCome, IsUnready}
use Rattle.run_outcomes.specs.Faults.{WriteFailed}
use Rattle.run_outcomes.specs.Reported.{OnlySays}
use Rattle.run_outcomes.specs.declared.outcome.Done.TheVariants as done
use Rattle.run_outcomes.specs.declared.outcome.Failure.{Failure}
use Rattle.run_outcomes.specs.declared.outcome.Failure.TheVariants as failure
use Rattle.run_outcomes.specs.declared.outcome.Link.TheVariants as link
use Rattle.play_command.specs.Ending.{PlayExpected, PlayLeaves, PlayOwn}
use Rattle.play_command.specs.Headline.{play_command, sole_of}
use Rattle.play_command.proofs.PlayedLaws.{Begins, begins_there, come_leaves, configured_of, inputs_at, play_done, play_fails, play_must, play_reads, play_stands, separate_of}
use Rattle.play_command.proofs.StayLaws.{says_nothing}
use Rattle.shares_command.specs.Ending.{SharesDone, SharesEnds, SharesOwn}
use Rattle.shares_command.specs.Measuring.{AreLinesOf, MayPlay, Unkept}

pub shares_unready : (u a : View) (n : Names) (seed : ℕ) (y : Unready) → HaveCome (play_command n).asked u a → IsUnready (play_command n).asked u a y
    → SharesEnds u a n seed (Err (unready_failure link.Sole y))
shares_unready u a n seed y h m =
    unready_ends (play_command n) (SharesDone u a n seed) (SharesOwn u a n seed) (PlayExpected u n seed) (PlayLeaves u a n seed) (play_reads n) u a y
    (λ p e. (e.inputs, e.ready)) h m (come_leaves u a n seed h)

-- the words were accepted, but memory ran out while they were read
pub shares_unread : (u : View) (n : Names) (seed : ℕ) → SharesEnds u u n seed (Err failure.NoMemory)
shares_unread u n seed =
    unread_ends (play_command n) (SharesDone u u n seed) (SharesOwn u u n seed) (PlayExpected u n seed) (PlayLeaves u u n seed) (play_reads n) u
    (come_leaves u u n seed (none_come u (play_command n).asked))

-- a failure of the play is one of `shares`
own_of : (u v : View) (n : Names) (seed : ℕ) (w : Places) (f : PlayFault) → PlayOwn u v n seed (play_failure link.Sole w f)
    → SharesOwn u v n seed (play_failure link.Sole w f)
own_of u v n seed w (fault.Write output.Departures) x = x
own_of u v n seed w (fault.Limit limit.Capture) x = x
own_of u v n seed w other x = x

-- what its play needs is there
pub may_play : {u a : View} {n : Names} {seed : ℕ} {p : Play} {r : ReadConf} {x : Arrivals} → Begins u a n seed p r x → MayPlay a p
may_play {a = a} {n = n} {p = p} {r = r} b =
    let P : Places → Type 0 = λ w. a.part p.file ≡ Some (number_of w.arrivals) in
    let Q : Places → Type 0 = λ w. a.name p.file ≡ w.arrivals.name in
    let R : Given → Type 0 = λ y. y.rest ≡ true → length y.front.items ≤ 4 in
    record {
      configured = configured_of n.interface b.had.accepted.text r.conf p.interface.now b.had.accepted.read b.found;
      separate = subst AreSeparate (sym b.places) (separate_of n b.distinct);
      there = subst P (sym b.places) (begins_there b);
      named = λ t. subst Q (sym b.places) (ap a.name b.file ∙ b.had.came.are.1.0.name (sym b.come.keeps.tells ∙ t));
      few = subst R (sym b.given) b.had.few;
    }

-- the play fails
pub shares_failed : {u a v : View} {n : Names} {seed : ℕ} {p : Play} {r : ReadConf} {x : Arrivals} {f : PlayFault} {g : Failure} → Begins u a n seed p r x
    → OnlyPlays a v p → HasEnded Untold Unkept u a v (inputs_at n) (r.file ∷ x.file ∷ []) p (Err f) → g ≡ play_failure link.Sole (places_in p) f
    → SharesEnds u v n seed (Err g)
shares_failed {u = u} {v = v} {n = n} {seed = seed} {f = f} b o e same =
    stands_fails (play_stands b o e (says_nothing v)) _ (same ∙ ap (λ (w : Places). play_failure link.Sole w f) b.places)
    (own_of u v n seed (sole_of n) f (play_fails b o e)) (play_must b o e (says_nothing v)) (o.said ∙ b.come.said)

-- THE PLAY IS DONE, with this text
module _ {u a v w : View} {n : Names} {seed : ℕ} {p : Play} {r : ReadConf} {x : Arrivals} {totals : Totals} {text : List ℕ} (b : Begins u a n seed p r x)
    (o : OnlyPlays a v p)
    (e : HasEnded (λ h. AreLinesOf p.interface.now (unlabelled h) text) Unkept u a v (inputs_at n) (r.file ∷ x.file ∷ []) p (Ok totals)) where
  -- the lines are said
  pub shares_said : Said v w text → SameCounts v w → SharesEnds u w n seed (Ok done.Done)
  shares_said said counts =
      let k : OnlySays v w = record { keeps = said.keeps; none = said.none } in
      stands_done (play_stands b o e k) done.Done
      (λ t.
      let y = play_done b o e k t in
      let P : Interface → List Event → Type 0 = λ i es. AreLinesOf i es text in
      let ls = subst₂ P (sym y.interface) y.stands.2 y.stands.1 in
      record {
        played = y.played;
        said =
            said.grown (o.keeps.tells ∙ b.come.keeps.tells ∙ t) ∙ ap (λ (before : List ℕ). before ++ text) (o.said ∙ b.come.said)
            ∙ ap (λ (more : List ℕ). u.said ++ more) ls.lines;
        fair = ls.fair;
      })
      (same_trans u v w e.counts counts) (play_must b o e k)

  -- they are not
  pub shares_unsaid : {f : Failure} → Unchanged v w → (f ≡ failure.NoMemory) ⊎ ((f ≡ failure.Unsaid) × WriteFailed v w printed) → SharesEnds u w n seed (Err f)
  shares_unsaid same why =
      let k : OnlySays v w = record { keeps = same.keeps; none = same.none } in
      stands_unsaid (play_stands b o e k) done.Done (λ h. (h, λ t. (play_done b o e k t).played)) (play_must b o e k)
      (later_trans u a v b.come.keeps.later o.keeps.later) (o.said ∙ b.come.said) same why
