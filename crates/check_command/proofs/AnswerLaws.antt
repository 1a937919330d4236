-- How a command ends that reads a configuration alone, and prints an answer.
use Rattle.std.proofs.Common.{◌≡◌, ◌∙◌, ◌⊎◌, ℕ, List, [], ◌∷◌, None, Ok, Err, sym, refl, subst, inl, inr, arith}
use Rattle.std.specs.Prelude.{IsTrue}
use Rattle.file_plans.specs.declared.part.Part.TheVariants as part
use Rattle.file_plans.specs.End.{FilesEnd}
use Rattle.file_plans.specs.Parts.{printed}
use Rattle.file_plans.specs.Plan.{read_place}
use Rattle.file_plans.proofs.CameLaws.{came_works, none_some, works_said, works_unchanged}
use Rattle.file_plans.proofs.EndLaws.{came_all, files_end}
use Rattle.file_plans.proofs.FewLaws.{few_kept}
use Rattle.file_plans.specs.Came.{Works}
use Rattle.play_base.specs.View.{View, Everything, Keeps, NoneAppears, Said, SameCounts, Unchanged}
use Rattle.play_base.proofs.ViewLaws.{rose_later}
use Rattle.run_inputs.specs.Had.{HaveCome, IsHad}
use Rattle.run_inputs.specs.Says.{Accepted, AreReady, Configured, Inputs, TextSays}
use Rattle.run_inputs.specs.declared.inputs.ReadConf.{ReadConf}
use Rattle.run_outcomes.specs.Faults.{WriteFailed}
use Rattle.run_outcomes.specs.Outcome.{IsOr, Outcome}
use Rattle.run_outcomes.specs.declared.outcome.Done.{Done}
use Rattle.run_outcomes.specs.declared.outcome.Failure.{Failure}
use Rattle.run_outcomes.specs.declared.outcome.Failure.TheVariants as failure
use Rattle.command_form.specs.Ends.{CommandEnds}
use Rattle.command_form.specs.Form.{InputsFirst, ReadsInputs}
use Rattle.command_form.proofs.EndsLaws.{done_ends, memory_ends, own_ends}
use Rattle.command_form.proofs.FirstLaws.{come_files, come_first, first_on}
use Rattle.command_form.proofs.HadLaws.{conf_read, conf_ready}
use Rattle.command_form.proofs.TruthLaws.{OwnAreTrue}
use Rattle.check_command.specs.Checking.{CheckOwn, check_command}

pub check_reads : (n i : List ℕ) → ReadsInputs (check_command n i)
check_reads n i = record { rest = []; plan = refl; few = λ old new f. (f, tt) }

pub check_own_true : (n i : List ℕ) (u v : View) → OwnAreTrue (check_command n i).plan (CheckOwn u v) u v
check_own_true n i u v = record { read = λ p f. absurd f; write = λ p f. absurd f; unsaid = λ f. f; words = λ w f. absurd f }

-- a configuration that is accepted is all that is asked for
pub says_ready : (u : View) (n i : List ℕ) (c : Configured) → TextSays u (check_command n i).asked (Accepted c)
    → (j : Inputs) × AreReady u (check_command n i).asked j
says_ready u n i c x = (record { configured = c; given = None }, record { configured = x; given = tt })

-- the configuration was had, and behind that nothing was done but to print
pub record IsHadBefore (n i : List ℕ) (u v w : View) (r : ReadConf) : Type 0 where
  pub come : HaveCome (check_command n i).asked u v
  pub had : IsHad (check_command n i).asked u v r
  pub keeps : Keeps Everything Everything v w
  pub none : NoneAppears v w
  pub works : Works (read_place part.Configuration n ∷ []) (r.file ∷ []) v w

pub had_said : (n i : List ℕ) (u v w : View) (r : ReadConf) (text : List ℕ) → HaveCome (check_command n i).asked u v → IsHad (check_command n i).asked u v r
    → Said v w text → IsHadBefore n i u v w r
had_said n i u v w r text come had s = record {
  come = come;
  had = had;
  keeps = s.keeps;
  none = s.none;
  works = works_said (read_place part.Configuration n ∷ []) (r.file ∷ []) v w text s;
}

pub had_unsaid : (n i : List ℕ) (u v w : View) (r : ReadConf) → HaveCome (check_command n i).asked u v → IsHad (check_command n i).asked u v r
    → Unchanged v w → IsHadBefore n i u v w r
had_unsaid n i u v w r come had s = record {
  come = come;
  had = had;
  keeps = s.keeps;
  none = s.none;
  works = works_unchanged (read_place part.Configuration n ∷ []) (r.file ∷ []) v w s;
}

before_files : (n i : List ℕ) (u v w : View) (r : ReadConf) → IsHadBefore n i u v w r → FilesEnd (check_command n i).plan u w
before_files n i u v w r h =
    files_end (check_command n i).plan u w
    (came_all (read_place part.Configuration n ∷ []) (r.file ∷ []) u w
    (came_works (read_place part.Configuration n ∷ []) (r.file ∷ []) u v w h.had.came h.works))
    (few_kept Everything Everything u v w 1 n h.come.few h.keeps (λ f fresh at. none_some 1 (sym (h.none f fresh) ∙ at)) (λ f t fresh is. tt), tt)

before_first : (n i : List ℕ) (u v w : View) (r : ReadConf) → IsHadBefore n i u v w r → InputsFirst (check_command n i) u w
before_first n i u v w r h =
    first_on (check_command n i) u v w (conf_ready u v (check_command n i).asked r refl h.had) (conf_read u v (check_command n i).asked r h.had) (λ t. tt)
    (record {
      config = λ f t fresh at. h.keeps.left f 1 at tt;
      arrivals = λ f t fresh at rest left. (rest, h.keeps.left f 2 at tt ∙ left, omega arith);
      part = h.keeps.part;
      no_config = λ f fresh at. none_some 1 (sym (h.none f fresh) ∙ at);
      no_arrivals = λ f fresh at. none_some 2 (sym (h.none f fresh) ∙ at);
    })

-- the answer is printed
pub answer_done : (n i : List ℕ) (D : Done → Type 0) (F : Failure → Type 0) (E : Outcome → Type 0) (u v w : View) (r : ReadConf) (d : Done)
    → IsHadBefore n i u v w r → D d → SameCounts u w → (IsTrue u.tells → (p : Outcome) → E p → IsOr (Ok d) p)
    → CommandEnds (check_command n i) D F E (Unit {0}) u w (Ok d)
answer_done n i D F E u v w r d h done counts must =
    done_ends (check_command n i) D F E (Unit {0}) u w d (conf_ready u v (check_command n i).asked r refl h.had) done counts (λ t q p e. must t p e)
    (before_files n i u v w r h) (before_first n i u v w r h) tt

or_unsaid : (p : Outcome) (d : Done) → p ≡ Ok d → IsOr (Err failure.Unsaid) p
or_unsaid p d e = let P : Outcome → Type 0 = λ x. IsOr (Err failure.Unsaid) x in subst P (sym e) (inr refl)

-- it cannot be
pub answer_fails : (n i : List ℕ) (D : Done → Type 0) (E : Outcome → Type 0) (u v w : View) (r : ReadConf) (f : Failure)
    → HaveCome (check_command n i).asked u v → IsHad (check_command n i).asked u v r → Unchanged v w → ((p : Outcome) → E p → (d : Done) × (p ≡ Ok d))
    → (f ≡ failure.NoMemory) ⊎ ((f ≡ failure.Unsaid) × WriteFailed v w printed)
    → CommandEnds (check_command n i) D (CheckOwn u w) E (Unit {0}) u w (Err f)
answer_fails n i D E u v w r f come had s is why = by why
  where
    h : IsHadBefore n i u v w r
    h = had_unsaid n i u v w r come had s

    P : Failure → Type 0
    P g = CommandEnds (check_command n i) D (CheckOwn u w) E (Unit {0}) u w (Err g)

    by : (f ≡ failure.NoMemory) ⊎ ((f ≡ failure.Unsaid) × WriteFailed v w printed) → CommandEnds (check_command n i) D (CheckOwn u w) E (Unit {0}) u w (Err f)
    by (inl e) =
        subst P (sym e) (memory_ends (check_command n i) D (CheckOwn u w) E (Unit {0}) u w (before_files n i u v w r h) (before_first n i u v w r h) tt
        (s.said ∙ come.said))
    by (inr e) =
        subst P (sym e.0)
        (own_ends (check_command n i) D (CheckOwn u w) E (Unit {0}) u w failure.Unsaid (conf_ready u v (check_command n i).asked r refl had)
        (rose_later (u.write_faults 0) (v.write_faults 0) (w.write_faults 0) (come.keeps.later.write 0) e.1)
        (λ t q p x. let y = is p x in or_unsaid p y.0 y.1) (before_files n i u v w r h) (before_first n i u v w r h) tt (s.said ∙ come.said))

-- memory runs out before that
pub answer_memory : (n i : List ℕ) (D : Done → Type 0) (F : Failure → Type 0) (E : Outcome → Type 0) (u v : View) → HaveCome (check_command n i).asked u v
    → CommandEnds (check_command n i) D F E (Unit {0}) u v (Err failure.NoMemory)
answer_memory n i D F E u v come =
    memory_ends (check_command n i) D F E (Unit {0}) u v (come_files (check_command n i) (check_reads n i) u v come)
    (come_first (check_command n i) (check_reads n i) u v come) tt come.said
