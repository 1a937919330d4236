-- What the second table holds after one more fate.
use Rattle.std.proofs.Common.{◌≡◌, ◌≢◌, ◌∙◌, ℕ, Bool, true, false, List, [], ◌∷◌, ◌++◌, None, Some, refl, ap, sym, subst}
use Rattle.std.specs.Prelude.{◌==◌}
use Rattle.std.specs.declared.option.Option.{Option}
use Rattle.std.proofs.lemmas.Bool.{eqb-true}
use Rattle.altq_model.specs.declared.Fate.{Fate}
use Rattle.altq_model.specs.declared.Fate.TheVariants.{Dropped, Sent}
use Rattle.altq_model.specs.History.{Decision}
use Rattle.altq_model.specs.Laws.{numbers, occurs}
use Rattle.play_loop.specs.declared.kept.KeptFate.{KeptFate}
use Rattle.play_chain.specs.declared.seconds.Second.{Second}
use Rattle.play_chain.specs.declared.seconds.Second.TheVariants as second
use Rattle.play_chain.specs.declared.seconds.Seconds.{Seconds}
use Rattle.play_chain.specs.Path.{decisions_of, fate_under, numbers_of}
use Rattle.play_chain.specs.Tables.{HoldsSeconds, IsSecondTable, second_in, second_row}
use Rattle.play_chain.proofs.FirstLemmas.{new_before, not_same, once_before}
use Rattle.play_chain.proofs.ListLemmas.{fate_new, fate_none, fate_other}

pub absent_none : (o : Option Fate) → second_row o ≡ second.Absent → o ≡ None
absent_none None e = refl
absent_none (Some (Dropped r)) e = absurd (cc)
absent_none (Some (Sent start end rule)) e = absurd (cc)

-- the rows after the fate of k was set
pub record HasSet (rows more : List Second) (k : ℕ) (f : Fate) : Type 0 where
  pub here : second_in more k ≡ second_row (Some f)
  pub others : (m : ℕ) → k ≢ m → second_in more m ≡ second_in rows m

row_by : (rows more : List Second) (k : ℕ) (f : Fate) → HasSet rows more k f → (js : List Decision) → fate_under js k ≡ None → (m : ℕ) (b : Bool) → (k == m) ≡ b
    → second_in rows m ≡ second_row (fate_under js m) → second_in more m ≡ second_row (fate_under (js ++ (k, f) ∷ []) m)
row_by rows more k f set js none m true e before =
    let P : ℕ → Type 0 = λ j. second_in more j ≡ second_row (fate_under (js ++ (k, f) ∷ []) j) in
    subst P (eqb-true k m e) (set.here ∙ sym (ap (λ (o : Option Fate). second_row o) (fate_new js k f none)))
row_by rows more k f set js none m false e before =
    set.others m (not_same k m e) ∙ before ∙ sym (ap (λ (o : Option Fate). second_row o) (fate_other js k f m e))

-- the row of each number
pub row_more : (rows more : List Second) (k : ℕ) (f : Fate) → HasSet rows more k f → (js : List Decision) → fate_under js k ≡ None → (m : ℕ)
    → second_in rows m ≡ second_row (fate_under js m) → second_in more m ≡ second_row (fate_under (js ++ (k, f) ∷ []) m)
row_more rows more k f set js none m before = row_by rows more k f set js none m (k == m) refl before

-- of what was kept
pub decisions_push : (fs : List KeptFate) (f : KeptFate) → decisions_of (fs ++ f ∷ []) ≡ decisions_of fs ++ (f.number, f.fate) ∷ []
decisions_push [] f = refl
decisions_push (x ∷ fs) f = ap (λ (js : List Decision). (x.number, x.fate) ∷ js) (decisions_push fs f)

same_numbers : (fs : List KeptFate) → numbers (decisions_of fs) ≡ numbers_of fs
same_numbers [] = refl
same_numbers (x ∷ fs) = ap (λ (ns : List ℕ). x.number ∷ ns) (same_numbers fs)

pub seconds_more : (t u : Seconds) (x : KeptFate)
    → ((js : List Decision) → IsSecondTable t js → fate_under js x.number ≡ None → IsSecondTable u (js ++ (x.number, x.fate) ∷ []))
    → (fates : List KeptFate) → HoldsSeconds t fates → HoldsSeconds u (fates ++ x ∷ [])
seconds_more t u x h fates holds once =
    let P : List Decision → Type 0 = λ js. IsSecondTable u js in
    let none : occurs x.number (numbers (decisions_of fates)) ≡ 0 = ap (λ (ns : List ℕ). occurs x.number ns) (same_numbers fates) ∙ new_before fates x once in
    subst P (sym (decisions_push fates x)) (h (decisions_of fates) (holds (once_before fates x once)) (fate_none (decisions_of fates) x.number none))
