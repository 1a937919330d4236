-- What is checked, and what must be.
use Rattle.std.proofs.Common.{◌≡◌, ◌∙◌, ℕ, List, Option, Some, Ok, Err, ap, sym, refl, subst, inl}
use Rattle.std.specs.Prelude.{IsTrue}
use Rattle.admission.specs.declared.Fit.{Fit}
use Rattle.admission.specs.declared.Fit.TheVariants as fit
use Rattle.conf_tree.specs.declared.interface.Interface.{Interface}
use Rattle.link_fit.specs.Curves.{IsFitOf}
use Rattle.play_base.specs.View.{View}
use Rattle.run_inputs.specs.Had.{IsHad}
use Rattle.run_inputs.specs.Says.{Accepted, AreReady, Configured, Inputs, TextSays}
use Rattle.run_inputs.specs.declared.inputs.ReadConf.{ReadConf}
use Rattle.run_inputs.proofs.OneThing.{one_text}
use Rattle.run_outcomes.specs.Outcome.{IsOr, Outcome}
use Rattle.run_outcomes.specs.declared.outcome.Done.{Done}
use Rattle.run_outcomes.specs.declared.outcome.Failure.TheVariants as failure
use Rattle.command_form.proofs.EndsLaws.{unread_ends}
use Rattle.check_command.specs.Checking.{CheckEnds, CheckExpected, CheckOwn, HasChecked, IsCheck, check_command, done_by}
use Rattle.check_command.proofs.AnswerLaws.{check_reads, says_ready}

fits_exceeds : (at by : ℕ) → fit.Fits ≡ fit.Exceeds at by → ⊥
fits_exceeds at by h = cc

-- curves fit or do not
one_done : (i : Interface) (f g : Fit) → IsFitOf i f → IsFitOf i g → done_by f ≡ done_by g
one_done i fit.Fits fit.Fits x y = refl
one_done i fit.Fits (fit.Exceeds at by) x y = absurd (fits_exceeds at by (sym (y.fits.1 (x.fits.0 refl))))
one_done i (fit.Exceeds at by) fit.Fits x y = absurd (fits_exceeds at by (sym (x.fits.1 (y.fits.0 refl))))
one_done i (fit.Exceeds at by) (fit.Exceeds a b) x y = refl

same_accepted : (c d : Configured) → Accepted c ≡ Accepted d → c ≡ d
same_accepted c d h = cc

pub check_must : (u : View) (n i : List ℕ) (c : Configured) (d : Done) (text : List ℕ) → TextSays u (check_command n i).asked (Accepted c)
    → IsCheck c.interfaces c.found d text → (p : Outcome) → CheckExpected u n i p → IsOr (Ok d) p
check_must u n i c d text x y (Err f) e = absurd e
check_must u n i c d text x y (Ok k) e =
    let same : e.0 ≡ c = same_accepted e.0 c (one_text u (check_command n i).asked (Accepted e.0) (Accepted c) e.1 x) in
    let P : Configured → Type 0 = λ z. IsFitOf z.found e.2.0 in
    let z : d ≡ k = y.told ∙ one_done c.found y.by e.2.0 y.curves (subst P same e.2.1) ∙ sym e.2.2 in
    inl (inl (ap (λ (j : Done). Ok j) z))

pub check_is_done : (u : View) (n i : List ℕ) (p : Outcome) → CheckExpected u n i p → (d : Done) × (p ≡ Ok d)
check_is_done u n i (Ok d) e = (d, refl)
check_is_done u n i (Err f) e = absurd e

pub check_ready : (u : View) (n i : List ℕ) (p : Outcome) → CheckExpected u n i p → (j : Inputs) × AreReady u (check_command n i).asked j
check_ready u n i (Ok d) e = says_ready u n i e.0 e.1
check_ready u n i (Err f) e = absurd e

pub check_unread : (u : View) (n i : List ℕ) → CheckEnds u u n i (Err failure.NoMemory)
check_unread u n i =
    unread_ends (check_command n i) (λ d. IsTrue u.tells → HasChecked u u n i d) (CheckOwn u u) (CheckExpected u n i) (Unit {0}) (check_reads n i) u tt

pub some_same : (a b : Interface) → Some a ≡ Some b → a ≡ b
some_same a b h = cc

-- what was checked is what the configuration says
pub check_of : (u : View) (n i : List ℕ) (v : View) (r : ReadConf) (found : Interface) (d : Done) (text : List ℕ) → (h : IsHad (check_command n i).asked u v r)
    → found ≡ h.configured.found → IsCheck r.conf found d text → IsCheck h.configured.interfaces h.configured.found d text
check_of u n i v r found d text h e x =
    let P : List Interface → Type 0 = λ is. IsCheck is h.configured.found d text in
    let Q : Interface → Type 0 = λ j. IsCheck r.conf j d text in
    subst P (sym h.accepted.same) (subst Q e x)

pub found_same : (o : Option Interface) (a b : Interface) → o ≡ Some a → o ≡ Some b → a ≡ b
found_same o a b e f = some_same a b (sym e ∙ f)
