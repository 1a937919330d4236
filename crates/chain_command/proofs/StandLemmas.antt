-- The inputs' files stand through the steps of a chain.
use Rattle.std.proofs.Common.{◌≡◌, ◌∙◌, ℕ, None, Some, ap, sym, refl, subst, arith}
use Rattle.std.specs.Prelude.{IsTrue, List, take}
use Rattle.std.specs.declared.result.Result.{Result}
use Rattle.arrivals_source.specs.Counted.{IsNoLonger}
use Rattle.file_plans.specs.Came.{CameAlong}
use Rattle.file_plans.specs.End.{FilesEnd, TookFew, Untouched}
use Rattle.file_plans.specs.Plan.{HasPart, Place}
use Rattle.file_plans.proofs.EndLaws.{files_end}
use Rattle.file_plans.proofs.FewLaws.{few_kept}
use Rattle.play_base.specs.View.{View, Keeps}
use Rattle.play_base.proofs.ViewLaws.{keeps_fewer, keeps_trans}
use Rattle.play_core.specs.declared.totals.Totals.{Totals}
use Rattle.play_loop.specs.declared.fault.PlayFault.{PlayFault}
use Rattle.play_loop.specs.declared.kept.KeptFate.{KeptFate}
use Rattle.command_form.specs.Form.{AreReadyWhereTold, InputsFirst, Within}
use Rattle.command_form.specs.Plans.{chain_plan}
use Rattle.command_form.proofs.FirstLaws.{first_on}
use Rattle.command_form.proofs.HadLaws.{both_begun, both_read, both_ready}
use Rattle.interface_play.proofs.NewLemmas.{has_first, part_of, untouched_then}
use Rattle.chain_command.specs.Names.{chain_command}
use Rattle.chain_command.proofs.FirstLemmas.{FirstEnded, Run, asked_of}
use Rattle.chain_command.proofs.NameLemmas.{five, nine, others_first}

-- no file came to be of a part that no place has
pub untouched : (es : List Place) (u v : View) (p : ℕ) → CameAlong es u v → (HasPart es p → ⊥) → Untouched u v p
untouched es u v p x none f fresh e = none (has_first p x.front x.rest es x.split (part_of u v x.front x.files f p x.came.are (x.came.only f p fresh e) e))

-- behind the inputs: the configuration has left what it had and the arrivals no more, and neither was opened again
pub record Stands (s : Run) (v : View) : Type 0 where
  pub keeps : Keeps (λ m. ⊥) (λ f. (f ≡ s.conf.file) × IsTrue s.before.tells) s.ready v
  pub took : IsNoLonger s.ready v s.arrivals.file
  pub no_config : Untouched s.ready v 1
  pub no_arrivals : Untouched s.ready v 2

module _ (s : Run) where
  pub ready_where : AreReadyWhereTold s.before (asked_of s.links)
  ready_where = both_ready s.before s.ready (asked_of s.links) s.links.first.arrivals s.conf s.arrivals refl s.had

  told_ready : IsTrue s.before.tells → IsTrue s.ready.tells
  told_ready t = s.come.keeps.tells ∙ t

  -- through the first play, and through calls that keep what both files have left
  pub stands_first : {kept : List KeptFate → Type 0} {v : View} {r : Result Totals PlayFault} → FirstEnded s kept v r → Stands s v
  stands_first {kept} {v} {r} h =
      let c = s.had.came.are in
      record {
        keeps = keeps_fewer _ _ _ _ s.ready v (λ m x. absurd x) (λ f x. (
          (λ e. absurd (cc (sym c.0.part ∙ ap s.ready.part (sym x.0 ∙ e) ∙ c.1.0.part))),
          rw (x.0, c.0.name x.1) (others_first s.links s.distinct s.ready (told_ready x.1)),
        )) h.keeps;
        took = h.took;
        no_config = λ f fresh e. let m = h.only f 1 fresh e in omega (arith, m);
        no_arrivals = λ f fresh e. let m = h.only f 2 fresh e in omega (arith, m);
      }

  pub stands_on : {v w : View} {N : List ℕ → Type 0} {F : ℕ → Type 0} → Stands s v → Keeps N F v w → Untouched v w 1 → Untouched v w 2
      → (IsTrue s.before.tells → F s.conf.file × F s.arrivals.file) → Stands s w
  stands_on {v} {w} {N} {F} x k one two left = record {
    keeps = keeps_trans _ _ s.ready v w x.keeps (keeps_fewer N _ F _ v w (λ m h. absurd h) (λ f h. subst F (sym h.0) (left h.1).0) k);
    took = λ t all e.
        let y = x.took t all e in
        (y.0, k.left s.arrivals.file 2 (x.keeps.part s.arrivals.file 2 s.had.came.are.1.0.part) (left (sym s.come.keeps.tells ∙ t)).1 ∙ y.1, y.2);
    no_config = untouched_then s.ready v w 1 k.part x.no_config one;
    no_arrivals = untouched_then s.ready v w 2 k.part x.no_arrivals two;
  }

  -- what holds of the names of the words holds of the names of both files
  pub input_names : {v : View} → Stands s v → (N : List ℕ → Type 0) → N s.links.first.config → N s.links.first.arrivals → IsTrue s.before.tells
      → N (v.name s.conf.file) × N (v.name s.arrivals.file)
  input_names {v} x N c a t = let y = s.had.came.are in (
    subst N (sym (x.keeps.name s.conf.file 1 y.0.part ∙ y.0.name t)) c,
    subst N (sym (x.keeps.name s.arrivals.file 2 y.1.0.part ∙ y.1.0.name t)) a,
  )

  is_config : (f : ℕ) → s.before.part f ≡ None → s.ready.part f ≡ Some 1 → f ≡ s.conf.file
  is_config f fresh e = grind (arith, s.had.came.only f 1 fresh e, s.had.came.are.1.0.part)

  is_arrivals : (f : ℕ) → s.before.part f ≡ None → s.ready.part f ≡ Some 2 → f ≡ s.arrivals.file
  is_arrivals f fresh e = grind (arith, s.had.came.only f 2 fresh e, s.had.came.are.0.part)

  -- SO INPUTS CAME FIRST
  pub inputs_first : (v : View) → Stands s v → InputsFirst (chain_command s.links) s.before v
  inputs_first v x =
      first_on (chain_command s.links) s.before s.ready v ready_where
      (both_read s.before s.ready (asked_of s.links) s.links.first.arrivals s.conf s.arrivals s.had)
      (both_begun s.before s.ready (asked_of s.links) s.links.first.arrivals s.conf s.arrivals refl s.had)
      (record {
        config = λ f t fresh e. x.keeps.left f 1 e (is_config f fresh e, t);
        arrivals = λ f t fresh e rest at.
            let g = is_arrivals f fresh e in
            let y = x.took (told_ready t) rest (sym (ap s.ready.left g) ∙ at) in
            (y.0, ap v.left g ∙ y.1, y.2);
        part = x.keeps.part;
        no_config = x.no_config;
        no_arrivals = x.no_arrivals;
      })

  -- and files end that came along the plan, or no further in it
  few : (v : View) → Stands s v → TookFew s.before v 1 s.links.first.config
  few v x = few_kept _ _ s.before s.ready v 1 s.links.first.config s.come.few x.keeps x.no_config (λ f t fresh e. (is_config f fresh e, t))

  pub files_at : (v : View) → Stands s v → CameAlong (chain_plan s.links) s.before v → FilesEnd (chain_plan s.links) s.before v
  files_at v x along = files_end (chain_plan s.links) s.before v along (few v x, (tt, (tt, (tt, (tt, (tt, (tt, (tt, (tt, (tt, tt))))))))))

  pub within_five : (v : View) → Stands s v → CameAlong (five s.links) s.before v → Within 5 (chain_command s.links) s.before v
  within_five v x along = files_end (take 5 (chain_plan s.links)) s.before v along (few v x, (tt, (tt, (tt, (tt, tt)))))

  pub within_nine : (v : View) → Stands s v → CameAlong (nine s.links) s.before v → Within 9 (chain_command s.links) s.before v
  within_nine v x along =
      files_end (take 9 (chain_plan s.links)) s.before v along (few v x, (tt, (tt, (tt, (tt, (tt, (tt, (tt, (tt, tt)))))))))
