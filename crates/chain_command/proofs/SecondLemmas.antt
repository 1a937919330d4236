-- The second play of a chain, of what the first sent.
use Rattle.std.proofs.Common.{◌≡◌, ◌≢◌, ◌∙◌, ◌++◌, ℕ, true, List, [], ◌∷◌, Some, Ok, ap, sym, refl, subst, inl, inr, arith}
use Rattle.std.specs.Prelude.{IsTrue}
use Rattle.std.specs.declared.result.Result.{Result}
use Rattle.arrivals_front.specs.declared.given.Given.{Given as FrontGiven}
use Rattle.file_plans.specs.Came.{Came, IsAmong, IsReady}
use Rattle.file_plans.specs.declared.part.Part.TheVariants as part
use Rattle.file_plans.specs.Plan.{IsOther, Place, read_place}
use Rattle.file_plans.proofs.CameLaws.{came_more, same_part}
use Rattle.file_plans.proofs.EndLaws.{came_all}
use Rattle.interface_play.specs.declared.play.Play.{Play}
use Rattle.interface_play.specs.Ended.{HasEnded, IsBehind, OnlyPlays}
use Rattle.interface_play.specs.Played.{WasPlayed}
use Rattle.interface_play.specs.Setup.{Untold}
use Rattle.interface_play.specs.Source.{Source, outputs_at, places_in}
use Rattle.play_base.specs.View.{View, SameCounts}
use Rattle.play_base.proofs.ViewLaws.{same_trans}
use Rattle.play_command.specs.Headline.{sole_of}
use Rattle.play_core.specs.declared.totals.Totals.{Totals}
use Rattle.play_loop.specs.declared.fault.PlayFault.{PlayFault}
use Rattle.play_loop.specs.declared.kept.KeptFate.{KeptFate}
use Rattle.play_loop.specs.KeptFates.{kept_fates}
use Rattle.chain_command.specs.Chained.{arrivals_of, journal_of, sent_by}
use Rattle.chain_command.specs.Names.{seconds_of, sent_source}
use Rattle.chain_command.proofs.EndedLemmas.{Behind, Ended, ended_at, played_on}
use Rattle.chain_command.proofs.FirstLemmas.{FirstEnded, Run, input_files, source_first}
use Rattle.chain_command.proofs.NameLemmas.{five, others_before, others_second, sent_at, six}
use Rattle.chain_command.proofs.StandLemmas.{Stands, input_names, stands_first, stands_on, untouched}

-- THE FIRST PLAY IS DONE, and what it sent was opened again
pub record Passed (s : Run) (kept : List KeptFate → Type 0) (w : View) (file : ℕ) : Type 0 where
  pub played : (t : IsTrue s.before.tells) → WasPlayed w (sole_of s.links.first) s.seed (source_first s t)
  pub told : (t : IsTrue s.before.tells) → kept (kept_fates (arrivals_of (played t)) (journal_of (played t)))
  pub files : List ℕ
  pub behind : Behind s.before w (seconds_of s.links) file (six s.links) files
  pub stand : Stands s w
  pub part : w.part file ≡ Some 3
  pub left : (t : IsTrue s.before.tells) → w.left file ≡ Some (sent_by (played t))
  pub said : w.said ≡ s.before.said

last_among : (file : ℕ) (fs : List ℕ) → IsAmong file (fs ++ file ∷ [])
last_among file [] = inl refl
last_among file (f ∷ fs) = inr (last_among file fs)

pub passed : {s : Run} {kept : List KeptFate → Type 0} {v w : View} {file : ℕ} {totals : Totals} {e : Place} → FirstEnded s kept v (Ok totals)
    → e ≡ read_place part.Departures s.links.first.departures → Came (e ∷ []) (file ∷ []) v w → IsReady v w e file → w.said ≡ v.said → SameCounts v w
    → Passed s kept w file
passed {s} {kept} {v} {w} {file} {totals} {e} h same came ready said counts =
    let n = s.links in
    let x = subst (λ (z : Place). Came (z ∷ []) (file ∷ []) v w) same came in
    let told : IsTrue s.before.tells → IsTrue v.tells = λ t. h.keeps.tells ∙ s.come.keeps.tells ∙ t in
    record {
      played = λ t. played_on x.keeps ((tt, tt), ((tt, tt), ((tt, tt), tt))) (h.done t).played;
      told = λ t. (h.done t).told;
      files = (input_files s ++ h.came.0) ++ file ∷ [];
      behind = record {
        came = came_more (five n) (sent_at n) (input_files s ++ h.came.0) (file ∷ []) s.before v w h.came.1 x;
        among = last_among file (input_files s ++ h.came.0);
        counts = same_trans s.before v w h.counts counts;
        parts = λ k m l. omega (arith, m, l);
        names = λ t. others_before n s.distinct s.before t;
      };
      stand = stands_on s (stands_first s h) x.keeps (untouched (sent_at n) v w 1 (came_all _ _ v w x) (λ m. omega (arith, m)))
          (untouched (sent_at n) v w 2 (came_all _ _ v w x) (λ m. omega (arith, m))) (λ t. ((tt, tt), (tt, tt)));
      part = x.are.0.part;
      left = λ t. (subst (λ (z : Place). IsReady v w z file) same ready (told t)).1 ∙ (h.done t).played.texts.departures;
      said = said ∙ h.said ∙ s.come.said;
    }

module _ {s : Run} {kept : List KeptFate → Type 0} {w : View} {file : ℕ} (p : Passed s kept w file) where
  abbrev pub source_second : IsTrue s.before.tells → Source
  source_second t = sent_source s.next (sent_by (p.played t))

  -- so the play of it ended, where nothing of it was read before
  abbrev pub SecondEnded : (held : List KeptFate → Type 0) (c : View) → Result Totals PlayFault → Type 0
  SecondEnded held c r = Ended held s.before w c (seconds_of s.links) s.seed file (six s.links) p.files source_second r

  pub second_ended : {held : List KeptFate → Type 0} {c : View} {r : Result Totals PlayFault} (q : Play) (given : FrontGiven) → q.interface.now ≡ s.next
      → q.given.now ≡ given → given.rest ≡ true → given.front.items ≡ [] → q.file ≡ file → q.seed ≡ s.seed → places_in q ≡ seconds_of s.links
      → OnlyPlays w c q → ((u : View) (es : List Place) (fs : List ℕ) → IsBehind u w es fs q → HasEnded Untold held u w c es fs q r) → SecondEnded held c r
  second_ended q given interface is rest front reopened seed places =
      ended_at p.behind (record {
        places = places;
        seeded = seed;
        reads = reopened;
        is = λ t. record { interface = sym interface; in_memory = rw (is, rest); capture = rw (is, rest, front, reopened, p.left t) };
      })

  pub told_w : IsTrue s.before.tells → IsTrue w.tells
  told_w t = p.behind.came.keeps.tells ∙ t

  -- behind it the inputs' files stand, and the first play is as it was
  module _ {held : List KeptFate → Type 0} {c : View} {r : Result Totals PlayFault} (h : SecondEnded held c r) where
    other_file : (f k : ℕ) → s.ready.part f ≡ Some k → k ≢ 3 → f ≢ file
    other_file f k e n same = n (same_part k 3 (sym (p.stand.keeps.part f k e) ∙ ap w.part same ∙ p.part))

    pub stands_second : Stands s c
    stands_second =
        stands_on s p.stand h.keeps (λ f fresh e. let m = h.only f 1 fresh e in omega (arith, m)) (λ f fresh e. let m = h.only f 2 fresh e in omega (arith, m))
        (λ t.
        let o = others_second s.links s.distinct w (told_w t) in
        let y = input_names s p.stand (IsOther w (outputs_at (seconds_of s.links))) o.0 o.1.0 t in (
          (other_file s.conf.file 1 s.had.came.are.0.part (omega arith), y.0),
          (other_file s.arrivals.file 2 s.had.came.are.1.0.part (omega arith), y.1),
        ))

    abbrev pub first_then : (t : IsTrue s.before.tells) → WasPlayed c (sole_of s.links.first) s.seed (source_first s t)
    first_then t = played_on h.keeps (others_second s.links s.distinct w (told_w t)).1.1 (p.played t)

    pub said_then : c.said ≡ s.before.said
    said_then = h.said ∙ p.said
