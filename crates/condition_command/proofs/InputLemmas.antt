-- What stands of a marking before the marked file is created.
use Rattle.std.proofs.Common.{◌≡◌, ◌∙◌, ◌⊎◌, ap, inl, inr, ℕ, List, [], ◌∷◌, None, Some, sym, refl, arith}
use Rattle.file_plans.specs.declared.part.Part.TheVariants as part
use Rattle.file_plans.specs.Came.{IsAmong, IsOf}
use Rattle.file_plans.specs.End.{FilesEnd, TookFew, Untouched}
use Rattle.file_plans.specs.Plan.{Place, read_place, written_place}
use Rattle.file_plans.proofs.CameLaws.{came_unchanged, none_some, same_part, there_or_not}
use Rattle.file_plans.proofs.EndLaws.{came_some, files_end}
use Rattle.file_plans.proofs.FewLaws.{few_kept}
use Rattle.play_base.specs.View.{View, Everything, Unchanged}
use Rattle.run_inputs.specs.declared.inputs.Arrivals.{Arrivals}
use Rattle.run_inputs.specs.declared.inputs.ReadConf.{ReadConf}
use Rattle.command_form.specs.Form.{AreReadyWhereTold, InputsFirst, ReadsInputs}
use Rattle.command_form.specs.Names.{MarkNames}
use Rattle.command_form.proofs.FirstLaws.{KeepsInputs, first_on}
use Rattle.command_form.proofs.HadLaws.{both_begun, both_read, both_ready}
use Rattle.condition_command.specs.Conditioning.{ConditionLeaves, condition_command}
use Rattle.condition_command.specs.Starting.{HasInputs}

pub condition_reads : (n : MarkNames) → ReadsInputs (condition_command n)
condition_reads n = record { rest = written_place part.Marked n.marked ∷ []; plan = refl; few = λ u v f. (f, (tt, (tt, tt))) }

-- the two files that came to be
abbrev pub inputs_two : MarkNames → List Place
inputs_two n = read_place part.Configuration n.config ∷ read_place part.Arrivals n.arrivals ∷ []

among_two : (f a b : ℕ) → IsAmong f (a ∷ b ∷ []) → (f ≡ a) ⊎ (f ≡ b)
among_two f a b (inl e) = inl e
among_two f a b (inr (inl e)) = inr e
among_two f a b (inr (inr e)) = absurd e

module _ (u v : View) (n : MarkNames) (r : ReadConf) (x : Arrivals) (h : HasInputs u v n r x) where
  pub conf_of : IsOf u v (read_place part.Configuration n.config) r.file
  conf_of = h.had.came.are.0

  pub arrivals_of : IsOf u v (read_place part.Arrivals n.arrivals) x.file
  arrivals_of = h.had.came.are.1.0

  -- one that came to be is one of the two
  came_as : (f p : ℕ) → u.part f ≡ None → v.part f ≡ Some p → ((p ≡ 1) × (f ≡ r.file)) ⊎ ((p ≡ 2) × (f ≡ x.file))
  came_as f p fresh at = by (among_two f r.file x.file (h.had.came.only f p fresh at))
    where
      by : (f ≡ r.file) ⊎ (f ≡ x.file) → ((p ≡ 1) × (f ≡ r.file)) ⊎ ((p ≡ 2) × (f ≡ x.file))
      by (inl e) = inl (same_part p 1 (sym at ∙ ap v.part e ∙ conf_of.part), e)
      by (inr e) = inr (same_part p 2 (sym at ∙ ap v.part e ∙ arrivals_of.part), e)

  pub is_conf : (f : ℕ) → u.part f ≡ None → v.part f ≡ Some 1 → f ≡ r.file
  is_conf f fresh at = by (came_as f 1 fresh at)
    where
      by : ((◌≡◌ {A = ℕ} 1 1) × (f ≡ r.file)) ⊎ ((◌≡◌ {A = ℕ} 1 2) × (f ≡ x.file)) → f ≡ r.file
      by (inl y) = y.1
      by (inr y) = absurd (omega (arith, y.0))

  pub is_arrivals : (f : ℕ) → u.part f ≡ None → v.part f ≡ Some 2 → f ≡ x.file
  is_arrivals f fresh at = by (came_as f 2 fresh at)
    where
      by : ((◌≡◌ {A = ℕ} 2 1) × (f ≡ r.file)) ⊎ ((◌≡◌ {A = ℕ} 2 2) × (f ≡ x.file)) → f ≡ x.file
      by (inl y) = absurd (omega (arith, y.0))
      by (inr y) = y.1

  pub no_marked : Untouched u v 6
  no_marked f fresh at = by (came_as f 6 fresh at)
    where
      by : ((◌≡◌ {A = ℕ} 6 1) × (f ≡ r.file)) ⊎ ((◌≡◌ {A = ℕ} 6 2) × (f ≡ x.file)) → ⊥
      by (inl y) = absurd (omega (arith, y.0))
      by (inr y) = absurd (omega (arith, y.0))

  pub ready : AreReadyWhereTold u (condition_command n).asked
  ready = both_ready u v (condition_command n).asked n.arrivals r x refl h.had

  pub inputs_first : (w : View) → KeepsInputs u v w → InputsFirst (condition_command n) u w
  inputs_first w k =
      first_on (condition_command n) u v w ready (both_read u v (condition_command n).asked n.arrivals r x h.had)
      (both_begun u v (condition_command n).asked n.arrivals r x refl h.had) k

-- NOTHING MORE IS DONE: it was not created
module _ (u v w : View) (n : MarkNames) (r : ReadConf) (x : Arrivals) (h : HasInputs u v n r x) (c : Unchanged v w) where
  gone : (p : ℕ) → Untouched v w p
  gone p f fresh at = none_some p (sym (c.none f fresh) ∙ at)

  keeps_unchanged : KeepsInputs u v w
  keeps_unchanged = record {
    config = λ f t fresh at. c.keeps.left f 1 at tt;
    arrivals = λ f t fresh at rest left. (rest, c.keeps.left f 2 at tt ∙ left, omega arith);
    part = λ f p at. c.keeps.part f p at;
    no_config = gone 1;
    no_arrivals = gone 2;
  }

  pub uncreated_files : FilesEnd (condition_command n).plan u w
  uncreated_files =
      let came = came_unchanged (inputs_two n) (r.file ∷ x.file ∷ []) u v w h.had.came c in
      let few : TookFew u w 1 n.config = few_kept Everything Everything u v w 1 n.config h.come.few c.keeps (gone 1) (λ f t fresh at. tt) in
      files_end (condition_command n).plan u w (came_some (inputs_two n) (written_place part.Marked n.marked ∷ []) (r.file ∷ x.file ∷ []) u w came)
      (few, (tt, (tt, tt)))

  pub uncreated_first : InputsFirst (condition_command n) u w
  uncreated_first = inputs_first u v n r x h w keeps_unchanged

  still_none : Untouched u w 6
  still_none f fresh at = by (there_or_not (v.part f))
    where
      by : (v.part f ≡ None) ⊎ ((q : ℕ) × (v.part f ≡ Some q)) → ⊥
      by (inl e) = gone 6 f e at
      by (inr y) =
          let same : y.0 ≡ 6 = same_part y.0 6 (sym (c.keeps.part f y.0 y.1) ∙ at) in
          no_marked u v n r x h f fresh (y.1 ∙ ap (λ (q : ℕ). Some q) same)

  pub uncreated_leaves : ConditionLeaves u w n
  uncreated_leaves = record {
    front = λ t i g a e. inl (still_none, c.keeps.bytes n.marked tt ∙ h.come.keeps.bytes n.marked tt);
    streams = λ t i g a e classic f k ff fp kf kp. absurd (still_none k kf kp);
  }
