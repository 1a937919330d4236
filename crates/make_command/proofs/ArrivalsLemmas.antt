-- The arrivals are written, and opened.
use Rattle.std.proofs.Common.{◌≡◌, ◌∙◌, ◌++◌, ℕ, List, [], ◌∷◌, Some, IsTrue, sym, refl, inl, inr}
use Rattle.file_plans.specs.declared.part.Part.{Part}
use Rattle.file_plans.specs.declared.part.Part.TheVariants as part
use Rattle.file_plans.specs.Came.{AreEmpty, Came, CameAlong}
use Rattle.file_plans.specs.Plan.{Place, number_of, written_place}
use Rattle.file_plans.proofs.AlongLaws.{came_wrote, wrote_bytes}
use Rattle.arrivals_front.specs.Taking.{TookUpTo}
use Rattle.file_plans.proofs.CameLaws.{came_none, came_took, came_unchanged, none_some}
use Rattle.file_plans.proofs.EndLaws.{came_all, came_some}
use Rattle.play_base.specs.View.{View, Rose, Unchanged, WriteFault, Wrote}
use Rattle.play_base.proofs.ViewLaws.{rose_later}
use Rattle.interface_play.specs.Fronts.{IsFrontAt}

-- the next file of a plan did not come to be
pub came_not : (es : List Place) (a b : View) → Unchanged a b → CameAlong es a b
came_not es a b u = came_some [] es [] a b (came_unchanged [] [] a a b (came_none a) u)

-- a file is created, and these bytes are written
pub written_came : (p : Part) (name bytes : List ℕ) (file : ℕ) (a b c : View) → Came (written_place p name ∷ []) (file ∷ []) a b → Wrote b c file bytes
    → Came (written_place p name ∷ []) (file ∷ []) a c
written_came p name bytes file a b c x y =
    came_wrote (written_place p name ∷ []) (file ∷ []) 0 (written_place p name) bytes a b c refl refl x y

module _ {name bytes : List ℕ} {file : ℕ} {a b c : View} (x : Came (written_place part.Arrivals name ∷ []) (file ∷ []) a b) (y : Wrote b c file bytes) where
  pub written_along : CameAlong (written_place part.Arrivals name ∷ []) a c
  written_along = came_all _ _ a c (written_came part.Arrivals name bytes file a b c x y)

  pub written_bytes : (IsTrue a.tells → AreEmpty b (written_place part.Arrivals name ∷ [])) → IsTrue a.tells → c.bytes name ≡ Some bytes
  written_bytes e t =
      wrote_bytes (written_place part.Arrivals name ∷ []) (file ∷ []) 0 (written_place part.Arrivals name) bytes a b c refl x (e t).0 y t

  pub written_front : (rest text : List ℕ) → bytes ++ rest ≡ text → (IsTrue a.tells → AreEmpty b (written_place part.Arrivals name ∷ [])) → IsTrue a.tells
      → IsFrontAt a c (written_place part.Arrivals name) text
  written_front rest text split e t = inr (bytes, rest, written_bytes e t, split)

pub unwritten_front : (e : Place) (text : List ℕ) (a b : View) → Unchanged a b → IsFrontAt a b e text
unwritten_front e text a b u = inl ((λ f fresh h. none_some (number_of e) (sym (u.none f fresh) ∙ h)), u.keeps.bytes e.name tt)

-- a write of a place's file failed
pub write_rose : (e : Place) (file : ℕ) (a b c : View) → Came (e ∷ []) (file ∷ []) a b → WriteFault b c file
    → Rose (a.write_faults (number_of e)) (c.write_faults (number_of e))
write_rose e file a b c x w = rose_later _ _ _ (x.keeps.later.write (number_of e)) (w (number_of e) x.are.0.part)

-- a file is opened, and some bytes are taken of it
pub taken_along : {e : Place} {file most : ℕ} {a b c : View} → Came (e ∷ []) (file ∷ []) a b → TookUpTo b c file most → CameAlong (e ∷ []) a c
taken_along {e = e} {file = file} {a = a} {b = b} {c = c} x y = came_all _ _ a c (came_took (e ∷ []) (file ∷ []) a b c file y.bytes (inl refl) x y.took)
