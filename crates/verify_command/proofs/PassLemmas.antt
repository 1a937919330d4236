-- How far a verification went.
use Rattle.std.proofs.Common.{◌≡◌, ◌≢◌, ◌≤◌, ◌∙◌, ◌⊎◌, ◌++◌, inl, inr, ℕ, Option, List, [], ◌∷◌, length, Some, ap, refl, sym, subst, arith}
use Rattle.std.specs.Prelude.{IsTrue}
use Rattle.arrivals_source.specs.Counted.{IsNoLonger}
use Rattle.file_plans.specs.declared.part.Part.{Part}
use Rattle.file_plans.specs.declared.part.Part.TheVariants as part
use Rattle.file_plans.specs.Came.{Came, CameAlong, IsAmong, Works}
use Rattle.file_plans.specs.End.{AreFew, FilesEnd, TookFew, Untouched}
use Rattle.file_plans.specs.Plan.{HasPart, IsOther, Place, read_place}
use Rattle.file_plans.proofs.CameLaws.{came_more, came_none, came_opened, came_took, came_works, none_some, same_or_not, works_said, works_unchanged}
use Rattle.file_plans.proofs.EndLaws.{came_all, came_some, files_end}
use Rattle.file_plans.proofs.FewLaws.{few_kept}
use Rattle.play_base.specs.View.{View, Everything, Keeps, Said, Unchanged}
use Rattle.play_base.proofs.ViewLaws.{keeps_fewer}
use Rattle.run_inputs.specs.declared.inputs.Arrivals.{Arrivals}
use Rattle.run_inputs.specs.declared.inputs.ReadConf.{ReadConf}
use Rattle.run_inputs.specs.Had.{AreHad, HaveCome}
use Rattle.run_inputs.specs.Meets.{HasBegun, HasRead}
use Rattle.command_form.specs.Form.{AreReadyWhereTold, InputsFirst}
use Rattle.command_form.specs.Names.{GivenNames}
use Rattle.command_form.proofs.FirstLaws.{KeepsInputs, begun_on, read_on, ready_first}
use Rattle.command_form.proofs.HadLaws.{both_begun, both_read, both_ready}
use Rattle.verify_command.specs.Reading.{ReadSome, WasRead}
use Rattle.verify_command.specs.Verifying.{verify_command}

-- behind inputs that are ready the files of these places came to be
pub record Passed (n : GivenNames) (u v : View) (places : List Place) (files : List ℕ) : Type 0 where
  pub came : Came places files u v
  pub few : TookFew u v 1 n.config
  pub ready : AreReadyWhereTold u (verify_command n).asked
  pub read : IsTrue u.tells → HasRead u v (verify_command n).asked
  pub begun : IsTrue u.tells → HasBegun u v (Some n.arrivals)

abbrev pub inputs : GivenNames → List Place
inputs n = read_place part.Configuration n.config ∷ read_place part.Arrivals n.arrivals ∷ []

pub passed_inputs : (n : GivenNames) (u v : View) (r : ReadConf) (x : Arrivals) → HaveCome (verify_command n).asked u v
    → AreHad (verify_command n).asked n.arrivals u v r x → Passed n u v (inputs n) (r.file ∷ x.file ∷ [])
passed_inputs n u v r x come h = record {
  came = h.came;
  few = come.few;
  ready = both_ready u v (verify_command n).asked n.arrivals r x refl h;
  read = both_read u v (verify_command n).asked n.arrivals r x h;
  begun = both_begun u v (verify_command n).asked n.arrivals r x refl h;
}

-- calls keep the inputs' files
passed_kept : (n : GivenNames) (u v w : View) (places ps : List Place) (files fs : List ℕ) (N : List ℕ → Type 0) (F : ℕ → Type 0) → Passed n u v places files
    → KeepsInputs u v w → Keeps N F v w → ((f : ℕ) → v.part f ≡ Some 1 → F f) → Came ps fs u w → Passed n u w ps fs
passed_kept n u v w places ps files fs N F p k kept there came = record {
  came = came;
  few = few_kept N F u v w 1 n.config p.few kept k.no_config (λ f t fresh e. there f e);
  ready = p.ready;
  read = λ t. read_on u v w (verify_command n).asked t k (p.read t);
  begun = λ t. begun_on u v w (Some n.arrivals) t k (p.begun t);
}

-- some of the arrivals is read
two_parts : ◌≡◌ {A = Option ℕ} (Some 1) (Some 2) → ⊥
two_parts h = cc

pub passed_some : (n : GivenNames) (u v w : View) (g x : ℕ) → Passed n u v (inputs n) (g ∷ x ∷ []) → ReadSome v w x → IsNoLonger v w x
    → Passed n u w (inputs n) (g ∷ x ∷ [])
passed_some n u v w g x p s less =
    passed_kept n u v w (inputs n) (inputs n) (g ∷ x ∷ []) (g ∷ x ∷ []) Everything (λ f. f ≢ x) p keeps s.keeps other
    (came_works (inputs n) (g ∷ x ∷ []) u v w p.came works)
  where
    is : v.part x ≡ Some 2
    is = p.came.are.1.0.part

    other : (f : ℕ) → v.part f ≡ Some 1 → f ≢ x
    other f e h = two_parts (sym e ∙ ap v.part h ∙ is)

    works : Works (inputs n) (g ∷ x ∷ []) v w
    works = record {
      keeps = keeps_fewer Everything (IsOther v (inputs n)) (λ f. f ≢ x) (λ f. IsOther v (inputs n) (v.name f) × (IsAmong f (g ∷ x ∷ []) → ⊥)) v w
          (λ m _. tt) (λ f k e. k.1 (inr (inl e))) s.keeps;
      none = s.none;
    }

    left : (f : ℕ) (rest : List ℕ) → IsTrue u.tells → v.part f ≡ Some 2 → v.left f ≡ Some rest → (f ≡ x) ⊎ (f ≢ x)
        → (tail : List ℕ) × (w.left f ≡ Some tail) × (length tail ≤ length rest)
    left f rest t e at (inl h) =
        let y = less (p.came.keeps.tells ∙ t) rest (sym (ap v.left h) ∙ at) in
        (y.0, ap w.left h ∙ y.1, y.2)
    left f rest t e at (inr h) = (rest, s.keeps.left f 2 e h ∙ at, omega arith)

    keeps : KeepsInputs u v w
    keeps = record {
      config = λ f t fresh e. s.keeps.left f 1 e (other f e);
      arrivals = λ f t fresh e rest at. left f rest t e at (same_or_not f x);
      part = s.keeps.part;
      no_config = λ f fresh e. none_some 1 (sym (s.none f fresh) ∙ e);
      no_arrivals = λ f fresh e. none_some 2 (sym (s.none f fresh) ∙ e);
    }

-- places behind the inputs, that are read
pub record AreBehind (ps : List Place) : Type 0 where
  pub other : (v : View) (m : List ℕ) → IsOther v ps m
  pub parts : (p : ℕ) → HasPart ps p → 3 ≤ p
  pub few : (v w : View) → AreFew v w ps

none_behind : AreBehind []
none_behind = record { other = λ v m. tt; parts = λ p h. absurd h; few = λ v w. tt }

from_three : (p q : ℕ) → 3 ≤ q → (p ≡ q) ⊎ ⊥ → 3 ≤ p
from_three p q h (inl e) = omega (arith, h, e)
from_three p q h (inr e) = absurd e

pub departures_behind : (name : List ℕ) → AreBehind (read_place part.Departures name ∷ [])
departures_behind name = record { other = λ v m. (tt, tt); parts = λ p h. from_three p 3 (omega arith) h; few = λ v w. (tt, tt) }

pub fates_behind : (name : List ℕ) → AreBehind (read_place part.Fates name ∷ [])
fates_behind name = record { other = λ v m. (tt, tt); parts = λ p h. from_three p 4 (omega arith) h; few = λ v w. (tt, tt) }

passed_on : (n : GivenNames) (u v w : View) (places ps : List Place) (files fs : List ℕ) → AreBehind ps → Passed n u v places files → Came ps fs v w
    → Passed n u w (places ++ ps) (files ++ fs)
passed_on n u v w places ps files fs b p c =
    passed_kept n u v w places (places ++ ps) files (files ++ fs) (IsOther v ps) (λ f. IsOther v ps (v.name f)) p keeps c.keeps
    (λ f e. b.other v (v.name f)) (came_more places ps files fs u v w p.came c)
  where
    untouched : (q : ℕ) → (3 ≤ q → ⊥) → Untouched v w q
    untouched q un f fresh e = un (b.parts q ((files_end ps v w (came_all ps fs v w c) (b.few v w)).parts f q fresh e))

    keeps : KeepsInputs u v w
    keeps = record {
      config = λ f t fresh e. c.keeps.left f 1 e (b.other v (v.name f));
      arrivals = λ f t fresh e rest at. (rest, c.keeps.left f 2 e (b.other v (v.name f)) ∙ at, omega arith);
      part = c.keeps.part;
      no_config = untouched 1 (λ h. omega (arith, h));
      no_arrivals = untouched 2 (λ h. omega (arith, h));
    }

-- nothing more is opened
pub passed_unchanged : (n : GivenNames) (u v w : View) (places : List Place) (files : List ℕ) → Passed n u v places files → Unchanged v w
    → Passed n u w (places ++ []) (files ++ [])
passed_unchanged n u v w places files p x =
    passed_on n u v w places [] files [] none_behind p (came_works [] [] v v w (came_none v) (works_unchanged [] [] v w x))

pub passed_said : (n : GivenNames) (u v w : View) (places : List Place) (files : List ℕ) (text : List ℕ) → Passed n u v places files → Said v w text
    → Passed n u w (places ++ []) (files ++ [])
passed_said n u v w places files text p x =
    passed_on n u v w places [] files [] none_behind p (came_works [] [] v v w (came_none v) (works_said [] [] v w text x))

-- one more file is opened and read
pub passed_read : (n : GivenNames) (u v w : View) (places : List Place) (files : List ℕ) (d : Part) (name : List ℕ) → AreBehind (read_place d name ∷ [])
    → Passed n u v places files → (x : WasRead v w (read_place d name)) → Passed n u w (places ++ read_place d name ∷ []) (files ++ x.file ∷ [])
passed_read n u v w places files d name b p x =
    passed_on n u v w places (read_place d name ∷ []) files (x.file ∷ []) b p
    (came_took (read_place d name ∷ []) (x.file ∷ []) v x.between w x.file x.took.0 (inl refl) (came_opened v x.between d name x.file x.opened) x.took.1)

pub read_said : (v w : View) (e : Place) → WasRead v w e → w.said ≡ v.said
read_said v w e x = x.took.1.said ∙ x.opened.is_new.said

-- THE END: what was opened is the plan's, inputs came first, and nothing was said
pub record Ended (n : GivenNames) (u w : View) : Type 0 where
  pub files : FilesEnd (verify_command n).plan u w
  pub first : InputsFirst (verify_command n) u w
  pub ready : AreReadyWhereTold u (verify_command n).asked

pub ended : (n : GivenNames) (u w : View) (places rest : List Place) (files : List ℕ) → Passed n u w places files → (verify_command n).plan ≡ places ++ rest
    → Ended n u w
ended n u w places rest files p e = record {
  files =
      let P : List Place → Type 0 = λ es. CameAlong es u w in
      files_end (verify_command n).plan u w (subst P (sym e) (came_some places rest files u w p.came)) (p.few, (tt, (tt, (tt, tt))));
  first = ready_first (verify_command n) u w p.ready p.read p.begun;
  ready = p.ready;
}

pub not_opened : (n : GivenNames) (u w : View) (places : List Place) (files : List ℕ) (q : ℕ) → Passed n u w places files → AreFew u w places → (HasPart places q → ⊥)
    → Untouched u w q
not_opened n u w places files q p few un f fresh e = un ((files_end places u w (came_all places files u w p.came) few).parts f q fresh e)

-- every name keeps its bytes, where no place is written
pub since : (n : GivenNames) (u w : View) (places : List Place) (files : List ℕ) → Passed n u w places files → ((m : List ℕ) → IsOther u places m)
    → Keeps Everything Everything u w
since n u w places files p other =
    keeps_fewer (IsOther u places) Everything (λ f. IsOther u places (u.name f)) Everything u w (λ m _. other m) (λ f _. other (u.name f)) p.came.keeps
