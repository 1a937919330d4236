-- The file of the paths is created and written.
use Rattle.std.proofs.Common.{◌≡◌, ◌∙◌, List, ℕ, [], ◌∷◌, refl, sym, inl, inr}
use Rattle.std.specs.Prelude.{IsTrue}
use Rattle.file_plans.specs.declared.part.Part.TheVariants as part
use Rattle.file_plans.specs.Came.{AreEmpty, Came}
use Rattle.file_plans.specs.Plan.{Place, number_of, written_place}
use Rattle.file_plans.proofs.AlongLaws.{came_wrote, wrote_bytes}
use Rattle.file_plans.proofs.CameLaws.{came_none, came_unchanged, none_some}
use Rattle.file_plans.proofs.EndLaws.{came_all, came_some}
use Rattle.play_base.specs.View.{View, Everything, Unchanged}
use Rattle.play_base.proofs.ViewLaws.{keeps_fewer, keeps_refl}
use Rattle.chain_command.specs.Writing.{AddsFile, WroteSome}

-- no file came to be
pub adds_none : (a b : View) (e : Place) (text : List ℕ) → Unchanged a b → AddsFile a b e text
adds_none a b e text x = record {
  along = came_some [] (e ∷ []) [] a b (came_unchanged [] [] a a b (came_none a) x);
  front = λ t. inl ((λ f fresh h. none_some (number_of e) (sym (x.none f fresh) ∙ h)), x.keeps.bytes e.name tt);
  keeps = keeps_fewer Everything _ Everything _ a b (λ m h. tt) (λ f h. tt) x.keeps;
  said = x.said;
}

-- nothing was done
pub adds_nothing : (a : View) (e : Place) (text : List ℕ) → AddsFile a a e text
adds_nothing a e text = adds_none a a e text (record { keeps = keeps_refl Everything Everything a; none = λ f none. none; said = refl })

-- it came to be, and holds a front of the text
pub adds_some : {a b c : View} {file : ℕ} {name written text : List ℕ} → Came (written_place part.Path name ∷ []) (file ∷ []) a b
    → (IsTrue a.tells → AreEmpty b (written_place part.Path name ∷ [])) → b.said ≡ a.said → WroteSome b c file written → written ≡ text
    → AddsFile a c (written_place part.Path name) text
adds_some {a} {b} {c} {file} {name} x empty said y same =
    let e = written_place part.Path name in
    let z = came_wrote (e ∷ []) (file ∷ []) 0 e y.front a b c refl refl x y.wrote in
    record {
      along = came_all (e ∷ []) (file ∷ []) a c z;
      front = λ t. inr (y.front, y.rest, wrote_bytes (e ∷ []) (file ∷ []) 0 e y.front a b c refl x (empty t).0 y.wrote t, y.split ∙ same);
      keeps = z.keeps;
      said = y.wrote.said ∙ said;
    }
