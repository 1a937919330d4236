-- A chain ends at its paths: both its plays are done.
use Rattle.std.proofs.Common.{◌≡◌, ◌<◌, ◌-◌, ◌∙◌, ◌⊎◌, ℕ, List, [], ◌∷◌, Some, Ok, Err, ap, sym, refl, subst, inl, inr, arith}
use Rattle.std.specs.Prelude.{IsTrue, Result, slice_get}
use Rattle.std.proofs.lemmas.List.Elements.{All-contains}
use Rattle.altq_model.specs.Arrivals.{bare_arrivals}
use Rattle.altq_model.specs.declared.Fate.TheVariants.{Sent}
use Rattle.altq_model.specs.Departures.{departed}
use Rattle.altq_model.specs.History.{Decision, unlabelled}
use Rattle.altq_model.specs.Laws.{IsConserved}
use Rattle.altq_model.specs.Link.{link}
use Rattle.conf_laws.specs.Laws.{ConfigurationsFit}
use Rattle.conf_tree.specs.declared.interface.Interface.{Interface}
use Rattle.file_plans.specs.declared.part.Part.TheVariants as part
use Rattle.file_plans.specs.End.{Untouched}
use Rattle.file_plans.specs.Plan.{IsOther}
use Rattle.file_plans.proofs.EndLaws.{came_then}
use Rattle.interface_marks.specs.Conditioners.{conditioning_of}
use Rattle.interface_play.proofs.NewLemmas.{untouched_then}
use Rattle.interface_play.specs.Fronts.{IsFrontAt}
use Rattle.interface_play.specs.Played.{WasPlayed}
use Rattle.interface_play.specs.Setup.{IsConfigured, setup_of}
use Rattle.interface_play.specs.Source.{Places, Source}
use Rattle.play_base.specs.View.{View, Rose, SameCounts}
use Rattle.play_base.specs.declared.trouble.Trouble.{Trouble}
use Rattle.play_base.specs.declared.trouble.Trouble.TheVariants as trouble
use Rattle.play_base.proofs.ViewLaws.{same_trans}
use Rattle.play_chain.specs.declared.firsts.Firsts.{Firsts}
use Rattle.play_chain.specs.declared.seconds.Seconds.{Seconds}
use Rattle.play_chain.specs.Tables.{AreOnce, HoldsFirsts, HoldsSeconds, text_in}
use Rattle.play_chain.specs.Text.{path_text}
use Rattle.play_chain.proofs.KeptLemmas.{decisions_kept, once_kept}
use Rattle.play_chain.proofs.TextLemmas.{text_held}
use Rattle.play_command.specs.Headline.{sole_of}
use Rattle.play_core.specs.declared.totals.Totals.{Totals}
use Rattle.play_laws.proofs.ArrivalLemmas.{bare_arrivals_length}
use Rattle.play_loop.specs.declared.kept.KeptFate.{KeptFate}
use Rattle.play_loop.specs.KeptFates.{kept_fates}
use Rattle.run_inputs.specs.Says.{Given}
use Rattle.run_outcomes.specs.Faults.{WriteFailed}
use Rattle.run_outcomes.specs.declared.outcome.Done.TheVariants as done
use Rattle.run_outcomes.specs.declared.outcome.Failure.{Failure}
use Rattle.run_outcomes.specs.declared.outcome.Failure.TheVariants as failure
use Rattle.command_form.specs.Names.{Links}
use Rattle.chain_command.specs.Chained.{ArePlayed, NoneRaised, StartsAfterFirst, arrivals_of, journal_of, paths_of, sent_by}
use Rattle.chain_command.specs.Chaining.{ChainEnds, HasPathFront, TwoExpect}
use Rattle.chain_command.specs.Names.{IsGivenTwo, seconds_of}
use Rattle.chain_command.specs.Writing.{AddsFile, failure_by}
use Rattle.interface_play.proofs.FrontLaws.{played_fronts}
use Rattle.chain_command.proofs.EndedLemmas.{played_on}
use Rattle.chain_command.proofs.EndLemmas.{Stops, ends_done, ends_memory, ends_own, leave_first}
use Rattle.chain_command.proofs.FirstLemmas.{Run, given_at, is_two, of_two, source_first}
use Rattle.chain_command.proofs.LawLemmas.{IsAfter, Rises, at_stamp, departures_rise, ends_are, marked_stamps, none_raised, stamps, starts_after}
use Rattle.chain_command.proofs.MustLemmas.{quiet_before, second_must}
use Rattle.chain_command.proofs.NameLemmas.{nine, others_path, path_at}
use Rattle.chain_command.proofs.SecondLemmas.{Passed, SecondEnded, first_then, said_then, source_second, stands_second}
use Rattle.chain_command.proofs.StandLemmas.{Stands, input_names, stands_on, untouched}

-- THE LAWS OF BOTH PLAYS. The stamps of the second play's records are those of what the first sent
module _ {v : View} {n : Links} {seed : ℕ} {i j : Interface} {g : Given} (p : ArePlayed v n seed i j g) (rate : 0 < i.rate) where
  same_stamps : stamps p.second.records ≡ stamps (departed (setup_of i seed).dress (arrivals_of p.first) p.first.history)
  same_stamps = marked_stamps (conditioning_of j) (sent_by p.first) _ p.second.records p.first.reads p.second.capture

  pub unraised : NoneRaised (arrivals_of p.second)
  unraised k =
      let free = (link i.rate (unlabelled p.first.history)).free in
      none_raised (setup_of j seed).place 0 free p.second.records (subst (Rises 0 free) (sym same_stamps)
      (departures_rise i.rate (setup_of i seed).dress (arrivals_of p.first) p.first.history rate p.first.play.laws.ends)) (k - 1)

  pub after : StartsAfterFirst (journal_of p.first) (journal_of p.second)
  after k end start later rule at there =
      let ends = ends_are (setup_of i seed).dress (arrivals_of p.first) p.first.history in
      let least = at_stamp (setup_of j seed).place 0 p.second.records (k - 1) end (ap (λ (ns : List ℕ). slice_get ns (k - 1)) (same_stamps ∙ sym ends) ∙ at) in
      let all = starts_after (bare_arrivals (arrivals_of p.second)) p.second.history p.second.play.laws.not_before in
      let most = All-contains (IsAfter (bare_arrivals (arrivals_of p.second))) (journal_of p.second) (k, Sent start later rule) all there in
      omega (arith, least, most)

-- each number has one fate at most
once_played : {v : View} {w : Places} {seed : ℕ} {f : Source} (h : WasPlayed v w seed f) → AreOnce (kept_fates (arrivals_of h) (journal_of h))
once_played h =
    once_kept (arrivals_of h) (journal_of h)
    (subst (λ (count : ℕ). IsConserved count (journal_of h)) (bare_arrivals_length (arrivals_of h)) h.play.laws.conserved)

pub has_rate : (i : Interface) → ConfigurationsFit → IsConfigured i → 0 < i.rate
has_rate i fit x = let l = ((fit x.text x.interfaces x.read).interface x.place i x.at).rate.0 in omega (arith, l)

-- BOTH PLAYS ARE DONE, and their fates stand in two tables; then a file of paths came
pub record Writes {s : Run} {kept : List KeptFate → Type 0} {w : View} {file : ℕ} (p : Passed s kept w file) (held : List KeptFate → Type 0) (more : Totals)
    (c e : View) (firsts : Firsts) (seconds : Seconds) : Type 0 where
  pub second : SecondEnded p held c (Ok more)
  pub adds : AddsFile c e (path_at s.links) (text_in firsts seconds)
  pub rate : 0 < s.had.configured.found.rate
  pub first_table : (ks : List KeptFate) → kept ks → HoldsFirsts firsts ks
  pub second_table : (ks : List KeptFate) → held ks → HoldsSeconds seconds ks

module _ {s : Run} {kept held : List KeptFate → Type 0} {w c e : View} {file : ℕ} {p : Passed s kept w file} {more : Totals} {firsts : Firsts}
    {seconds : Seconds} (x : Writes p held more c e firsts seconds) where
  told_c : IsTrue s.before.tells → IsTrue c.tells
  told_c t = x.second.keeps.tells ∙ p.behind.came.keeps.tells ∙ t

  stand : Stands s e
  stand =
      stands_on s (stands_second p x.second) x.adds.keeps (untouched (path_at s.links ∷ []) c e 1 x.adds.along (λ m. omega (arith, m)))
      (untouched (path_at s.links ∷ []) c e 2 x.adds.along (λ m. omega (arith, m)))
      (λ t.
      let o = (others_path s.links s.distinct c (told_c t)).0 in
      input_names s (stands_second p x.second) (IsOther c (path_at s.links ∷ [])) o.0 o.1.0 t)

  abbrev both : (t : IsTrue s.before.tells) → ArePlayed e s.links s.seed s.had.configured.found s.next (given_at s t)
  both t = record {
    first = played_on x.adds.keeps (others_path s.links s.distinct c (told_c t)).0.1.1 (first_then p x.second t);
    second = played_on x.adds.keeps (others_path s.links s.distinct c (told_c t)).1 (x.second.done t).played;
  }

  text_is : (t : IsTrue s.before.tells) → text_in firsts seconds ≡ paths_of (both t)
  text_is t =
      let one = p.played t in
      let two = (x.second.done t).played in
      text_held firsts seconds _ _ (once_played one) (once_played two) (x.first_table _ (p.told t)) (x.second_table _ (x.second.done t).told)
      ∙ ap (λ (ds : List Decision). path_text (kept_fates (arrivals_of one) (journal_of one)) ds) (decisions_kept (arrivals_of two) (journal_of two))

  front : (t : IsTrue s.before.tells) → IsFrontAt c e (path_at s.links) (text_in firsts seconds)
      → Untouched s.before e 10 ⊎ IsGivenTwo s.before s.links (HasPathFront s.before e s.links s.seed)
  front t (inl y) = inl (untouched_then s.before c e 10 x.adds.keeps.part (untouched (nine s.links) s.before c 10 x.second.along (λ m. omega (arith, m))) y.0)
  front t (inr y) = inr (is_two s t (record { played = both t; front = inr (y.0, y.1, y.2, y.3 ∙ text_is t) }))

  stops : Stops s e
  stops = record {
    stand = stand;
    along = came_then (nine s.links) (path_at s.links ∷ []) _ s.before c e x.second.came.1 x.adds.along;
    leaves = record {
      first = leave_first s e (λ t. played_fronts s.before e (sole_of s.links.first) s.seed (source_first s t) (both t).first);
      second = inr (λ t. is_two s t ((both t).first, played_fronts s.before e (seconds_of s.links) s.seed (source_second p t) (both t).second));
      path = λ t. front t (x.adds.front (told_c t));
    };
    said = x.adds.said ∙ said_then p x.second;
  }

  -- THE PATHS CANNOT BE WRITTEN
  pub path_ends : {o : Failure} (t : Trouble) → (◌≡◌ {A = Result (Unit {0}) Trouble} (Err t) (Err trouble.Failed) → WriteFailed c e 10)
      → o ≡ failure_by (failure.Write part.Path) t → ChainEnds s.before e s.links s.seed (Err o)
  path_ends trouble.NoMemory r same = rw same (ends_memory s e stops)
  path_ends trouble.Failed r same =
      let rose : WriteFailed s.before e 10 = subst (λ (k : ℕ). Rose k (e.write_faults 10)) (x.second.counts.write 10) (r refl) in
      rw same (ends_own s e (failure.Write part.Path) stops (inr (inr (inr (refl, rose, λ t. is_two s t (both t)))))
      (λ t q o h. absurd ((q 10 (omega arith)).1 (omega arith) rose)))

  -- ALL IS DONE
  pub chain_done : (IsTrue c.tells → e.bytes s.links.path ≡ Some (text_in firsts seconds)) → SameCounts c e → ChainEnds s.before e s.links s.seed (Ok done.Done)
  chain_done whole counts =
      ends_done s e stops (
        (λ t. is_two s t (record {
          played = both t;
          unraised = unraised (both t) x.rate;
          after = after (both t) x.rate;
          path = whole (told_c t) ∙ ap (λ (text : List ℕ). Some text) (text_is t);
        })),
        stops.said,
      )
      (same_trans s.before c e x.second.counts counts)
      (λ t q o h. second_must s.seed s.had.configured.found s.next (given_at s t) (seconds_of s.links) (Ok more) (p.played t)
      (x.second.must (quiet_before s.before c e x.adds.keeps.later q) t) o (of_two s (TwoExpect s.seed o) t h))
