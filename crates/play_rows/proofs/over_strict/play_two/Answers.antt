use Rattle.std.proofs.Common.{◌≡◌, Bool, true, false, [], ◌∷◌, codes, refl, subst, sym}
use Rattle.std.specs.Prelude.{if◌then◌else◌}
use Rattle.play_text.specs.Names.{HasClass, NameList}
use Rattle.play_rows.proofs.over_strict.play_two.Goals as goal

named_two : (names : NameList) (first : Bool) → names ≡ (1, codes "voice") ∷ (2, codes "data") ∷ [] → HasClass names (if first then 1 else 2)
named_two names true e = let P : NameList → Type 0 = λ l. HasClass l 1 in subst P (sym e) refl
named_two names false e = let P : NameList → Type 0 = λ l. HasClass l 2 in subst P (sym e) refl

pub play_told-requires-clause-named : goal.play_told-requires-clause-named
play_told-requires-clause-named c = λ frame. named_two c.in-Ok.names _ c.in-Ok.ensures
