-- How `make` ends behind the opening of its arrivals.
use Rattle.std.proofs.Common.{◌≡◌, ◌∙◌, ◌⊎◌, ◌++◌, ℕ, Bool, true, false, cond, List, [], ◌∷◌, Some, Ok, Err, IsTrue, ap, arith, sym, subst, inl, inr}
use Rattle.std.proofs.lemmas.List.{append-nil}
use Rattle.std.specs.declared.result.Result.{Result}
use Rattle.arrivals_front.specs.declared.given.Given.{Given}
use Rattle.command_form.specs.Names.{Names}
use Rattle.command_form.proofs.EndsLaws.{Stands, stands_done, stands_fails, stands_unsaid}
use Rattle.command_form.proofs.HadLaws.{accepted_says}
use Rattle.file_plans.specs.Came.{Came, CameAlong}
use Rattle.file_plans.specs.Parts.{printed}
use Rattle.file_plans.specs.Plan.{IsOther, Place}
use Rattle.file_plans.proofs.CameLaws.{came_more}
use Rattle.generated.specs.Packets.{generated_capture}
use Rattle.interface_play.specs.declared.play.Play.{Play}
use Rattle.interface_play.specs.Ended.{HasEnded, IsBehind, OnlyPlays}
use Rattle.interface_play.specs.Expected.{PlayExpects, play_outcome}
use Rattle.interface_play.specs.Failing.{FailsAs, play_failure}
use Rattle.interface_play.specs.Fronts.{Fronts}
use Rattle.interface_play.specs.Source.{IsSource, OfSource, Places, Source, outputs_at, places_in}
use Rattle.pcapng_files.specs.Fronts.{with_front}
use Rattle.play_base.specs.View.{View, Said, SameCounts, Unchanged}
use Rattle.play_base.proofs.ViewLaws.{later_trans, same_trans}
use Rattle.play_core.specs.declared.totals.Totals.{Totals}
use Rattle.play_loop.specs.declared.fault.Limit.TheVariants as limit
use Rattle.play_loop.specs.declared.fault.Output.TheVariants as output
use Rattle.play_loop.specs.declared.fault.PlayFault.{PlayFault}
use Rattle.play_loop.specs.declared.fault.PlayFault.TheVariants as fault
use Rattle.play_loop.specs.declared.kept.KeptFate.{KeptFate}
use Rattle.run_inputs.specs.declared.inputs.ReadConf.{ReadConf}
use Rattle.run_inputs.specs.Says.{Accepted, Configured, TextSays, interface_of}
use Rattle.run_inputs.proofs.OneThing.{one_text}
use Rattle.run_outcomes.specs.Faults.{IsQuiet, WriteFailed}
use Rattle.run_outcomes.specs.Outcome.{IsOrMemory, Outcome}
use Rattle.run_outcomes.specs.Reported.{OnlySays}
use Rattle.run_outcomes.specs.declared.outcome.Done.TheVariants as done
use Rattle.run_outcomes.specs.declared.outcome.Failure.{Failure}
use Rattle.run_outcomes.specs.declared.outcome.Failure.TheVariants as failure
use Rattle.run_outcomes.specs.declared.outcome.Link.TheVariants as link
use Rattle.play_command.specs.Headline.{sole_of}
use Rattle.play_command.proofs.PlayedLaws.{Ended, behind_at, ended_at, fails_at, same_some, source_is}
use Rattle.play_command.proofs.StayLaws.{along_after, says_nothing}
use Rattle.make_command.specs.Ending.{MakeEnds, MakeExpected, MakeLeaves, MakeOwn}
use Rattle.make_command.specs.Made.{OfMade, WasMade, make_command, source_made, summary_of}
use Rattle.make_command.proofs.MakeLemmas.{IsWritten, before_play, config_at, made_at, make_stands, opened_at, other_name}

-- the arrivals are opened, and a play of them begins
pub record Begins (u a b d : View) (n : Names) (seed count : ℕ) (p : Play) (r : ReadConf) (file : ℕ) (g : Given) : Type 0 where
  pub written : IsWritten u a b n seed count r
  pub opened : Came (opened_at n ∷ []) (file ∷ []) b d
  pub counts : SameCounts b d
  pub said : d.said ≡ b.said
  pub rest : g.rest ≡ true
  pub behind : IsTrue b.tells → (bytes : List ℕ) → b.bytes n.arrivals ≡ Some bytes → with_front true true g.front.items (d.left file) ≡ Some bytes
  pub found : interface_of n.interface r.conf ≡ Some p.interface.now
  pub given : p.given.now ≡ g
  pub at : p.file ≡ file
  pub seeded : p.seed ≡ seed
  pub places : places_in p ≡ sole_of n

same_accepted : (c e : Configured) → Accepted c ≡ Accepted e → c ≡ e
same_accepted c e h = cc

module _ {u a b d : View} {n : Names} {seed count : ℕ} {p : Play} {r : ReadConf} {file : ℕ} {g : Given} (m : Begins u a b d n seed count p r file g) where
  arrivals_came : Came (made_at n ∷ opened_at n ∷ []) (m.written.file ∷ file ∷ []) a d
  arrivals_came = came_more (made_at n ∷ []) (opened_at n ∷ []) (m.written.file ∷ []) (file ∷ []) a b d m.written.came m.opened

  -- nothing of the play is there: seen from the beginning, and from behind the configuration
  pub begins_behind : IsBehind u d (before_play n) (r.file ∷ m.written.file ∷ file ∷ []) p
  begins_behind =
      let k = m.written.asks in
      behind_at (came_more (config_at n ∷ []) (made_at n ∷ opened_at n ∷ []) (r.file ∷ []) (m.written.file ∷ file ∷ []) u a d k.had.came arrivals_came)
      (inr (inr (inl m.at))) (same_trans u a d k.counts (same_trans a b d m.written.counts m.counts)) m.places (λ q h l. omega (arith, h, l))
      (other_name n u k.distinct.arrivals_departures) (other_name n u k.distinct.arrivals_fates) (other_name n u k.distinct.arrivals_stats)

  pub begins_since : IsBehind a d (made_at n ∷ opened_at n ∷ []) (m.written.file ∷ file ∷ []) p
  begins_since =
      let k = m.written.asks.distinct in
      behind_at arrivals_came (inr (inl m.at)) (same_trans a b d m.written.counts m.counts) m.places (λ q h l. omega (arith, h, l))
      (λ t. (other_name n a k.arrivals_departures t).1) (λ t. (other_name n a k.arrivals_fates t).1) (λ t. (other_name n a k.arrivals_stats t).1)

  told_then : d.tells ≡ u.tells
  told_then = m.opened.keeps.tells ∙ m.written.came.keeps.tells ∙ m.written.asks.come.keeps.tells

  -- what is played is what was written
  abbrev source_at : Source
  source_at = source_made seed count m.written.asks.had.configured.found

  is_source : IsTrue u.tells → IsSource d p source_at
  is_source t =
      let k = m.written.asks in
      let told = k.come.keeps.tells ∙ t in
      let P : Bool → Type 0 = λ y. with_front true y g.front.items (d.left file) ≡ Some (generated_capture seed count) in
      source_is source_at m.given m.at (same_some _ _ (sym k.had.accepted.found ∙ m.found)) (ap (λ (y : Bool). cond y false true) (sym m.rest))
      (subst P (sym m.rest) (m.behind (m.written.came.keeps.tells ∙ told) (generated_capture seed count) (m.written.whole told)))

  says_of : IsTrue u.tells → TextSays u (make_command n).asked (Accepted m.written.asks.had.configured)
  says_of t = accepted_says u (make_command n).asked r.conf m.written.asks.had.configured t m.written.asks.had.accepted

  of_made : (P : Source → Type 0) → OfSource d p P → OfMade u n seed count P
  of_made P f t = (m.written.asks.had.configured, says_of t, f (told_then ∙ t) source_at (is_source t))

  one_configured : IsTrue u.tells → (c : Configured) → TextSays u (make_command n).asked (Accepted c) → c ≡ m.written.asks.had.configured
  one_configured t c x =
      same_accepted _ _ (one_text u (make_command n).asked (Accepted c) (Accepted m.written.asks.had.configured) x (says_of t))

-- THE PLAY ENDED, and behind it something was said at most
module _ {kept : List KeptFate → Type 0} {u a b d v w : View} {n : Names} {seed count : ℕ} {p : Play} {r : ReadConf} {file : ℕ} {g : Given}
    {y : Result Totals PlayFault} (m : Begins u a b d n seed count p r file g) (o : OnlyPlays d v p)
    (ends : (before : View) (es : List Place) (fs : List ℕ) → IsBehind before d es fs p → HasEnded (λ h. Unit {0}) kept before d v es fs p y)
    (k : OnlySays v w) where
  ended : Ended (λ h. Unit {0}) kept u w (sole_of n) seed (λ t. source_at m) (before_play n) y
  ended = ended_at (λ t. source_at m) m.places m.seeded (told_then m) (is_source m) (ends _ _ _ (begins_behind m)) k

  -- the arrivals stay
  whole : IsTrue u.tells → w.bytes n.arrivals ≡ Some (generated_capture seed count)
  whole t =
      let s = m.written.asks in
      let told = told_then m ∙ t in
      let P : Places → Type 0 = λ z. IsOther d (outputs_at z) n.arrivals in
      k.keeps.bytes n.arrivals tt
      ∙ o.keeps.bytes n.arrivals
      (subst P (sym m.places)
      ((told, s.distinct.arrivals_departures), ((told, s.distinct.arrivals_fates), ((told, s.distinct.arrivals_stats), tt))))
      ∙ m.opened.keeps.bytes n.arrivals (tt, tt) ∙ m.written.whole (s.come.keeps.tells ∙ t)

  stands : Stands (make_command n) (MakeLeaves u w n seed count) u w
  stands =
      let P : Places → Type 0 = λ z. CameAlong ((made_at n ∷ opened_at n ∷ []) ++ outputs_at z) a v in
      make_stands m.written.asks (along_after k (subst P m.places (ends _ _ _ (begins_since m)).along)) (record {
        arrivals = λ t. inr (generated_capture seed count, [], whole t, append-nil (generated_capture seed count));
        behind = λ t. inr (whole t);
        fronts = λ t c says.
            let Q : Configured → Type 0 = λ z. Fronts u w (sole_of n) seed (source_made seed count z.found) in
            subst Q (sym (one_configured m t c says)) (ended.fronts t);
      })

  must : IsTrue u.tells → IsQuiet u w → (z : Outcome) → MakeExpected u n seed count z → IsOrMemory (play_outcome link.Sole (sole_of n) y) z
  must t q z h =
      let P : Configured → Type 0 = λ c. PlayExpects seed (source_made seed count c.found) link.Sole z in
      ended.must t q link.Sole z (subst P (one_configured m t h.0 h.1) h.2)

  silent : v.said ≡ u.said
  silent = o.said ∙ m.said ∙ m.written.said ∙ m.written.asks.come.said

-- each fault of the play is one of `make`
own_of : (u v : View) (n : Names) (seed count : ℕ) (f : PlayFault)
    → FailsAs (OfMade u n seed count) link.Sole (sole_of n) seed u v (play_failure link.Sole (sole_of n) f)
    → MakeOwn u v n seed count (play_failure link.Sole (sole_of n) f)
own_of u v n seed count fault.Read x = inr x
own_of u v n seed count (fault.Write output.Departures) x = x
own_of u v n seed count (fault.Limit limit.Capture) x = x
own_of u v n seed count other x = x

-- IT FAILS
pub make_failed : {kept : List KeptFate → Type 0} {u a b d v : View} {n : Names} {seed count : ℕ} {p : Play} {r : ReadConf} {file : ℕ} {g : Given} {f : PlayFault}
    {e : Failure} → Begins u a b d n seed count p r file g → OnlyPlays d v p
    → ((before : View) (es : List Place) (fs : List ℕ) → IsBehind before d es fs p → HasEnded (λ h. Unit {0}) kept before d v es fs p (Err f))
    → e ≡ play_failure link.Sole (places_in p) f → MakeEnds u v n seed count (Err e)
make_failed {u = u} {v = v} {n = n} {seed = seed} {count = count} {f = f} m o ends same =
    let k = says_nothing v in
    stands_fails (stands m o ends k) _ (same ∙ ap (λ (z : Places). play_failure link.Sole z f) m.places)
    (own_of u v n seed count f (fails_at f (OfMade u n seed count) m.places m.seeded (of_made m) (ends _ _ _ (begins_behind m)).fails)) (must m o ends k)
    (silent m o ends k)

-- IT IS DONE
module _ {kept : List KeptFate → Type 0} {u a b d v w : View} {n : Names} {seed count : ℕ} {p : Play} {r : ReadConf} {file : ℕ} {g : Given} {totals : Totals}
    (m : Begins u a b d n seed count p r file g) (o : OnlyPlays d v p)
    (ends : (before : View) (es : List Place) (fs : List ℕ) → IsBehind before d es fs p → HasEnded (λ h. Unit {0}) kept before d v es fs p (Ok totals)) where
  abbrev was_made : OnlySays v w → IsTrue u.tells → WasMade u w n seed count
  was_made k t = record {
    configured = m.written.asks.had.configured;
    configuration = says_of m t;
    arrivals = whole m o ends k t;
    played = ((ended m o ends k).done t).played;
  }

  -- and its summary said
  pub make_said : Said v w (summary_of totals) → SameCounts v w → MakeEnds u w n seed count (Ok done.Done)
  make_said said counts =
      let k : OnlySays v w = record { keeps = said.keeps; none = said.none } in
      stands_done (stands m o ends k) done.Done
      (λ t. record {
        made = was_made k t;
        said =
            said.grown (o.keeps.tells ∙ told_then m ∙ t) ∙ ap (λ (z : List ℕ). z ++ summary_of totals) (silent m o ends k)
            ∙ ap (λ (z : Totals). u.said ++ summary_of z) (sym ((ended m o ends k).done t).totals);
      })
      (same_trans u v w (ends _ _ _ (begins_behind m)).counts counts) (must m o ends k)

  -- or not
  pub make_unsaid : {f : Failure} → Unchanged v w → (f ≡ failure.NoMemory) ⊎ ((f ≡ failure.Unsaid) × WriteFailed v w printed)
      → MakeEnds u w n seed count (Err f)
  make_unsaid same why =
      let k : OnlySays v w = record { keeps = same.keeps; none = same.none } in
      let s = m.written.asks in
      let later = later_trans a b d m.written.came.keeps.later m.opened.keeps.later in
      stands_unsaid (stands m o ends k) done.Done (λ h. (h, λ t. was_made k t)) (must m o ends k)
      (later_trans u d v (later_trans u a d s.come.keeps.later later) o.keeps.later) (silent m o ends k) same why
