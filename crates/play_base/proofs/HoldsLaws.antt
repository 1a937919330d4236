-- What one output file holds while calls on it and on others are made.
use Rattle.std.specs.Prelude.{◌≡◌, ◌≢◌, ℕ, List, ◌++◌, [], IsTrue, IsSome}
use Rattle.std.proofs.Common.{◌∙◌, ap, sym}
use Rattle.play_base.specs.View.{View, Keeps, Everything, Unchanged, Opened, Created, Took, Wrote, Said}
use Rattle.play_base.proofs.ViewLaws.{still_there, part_of_there, is_some_of}
use Rattle.play_base.specs.Holds.{HoldsAt, Apart}

-- a file that is there keeps its name
name_kept : (N : List ℕ → Type 0) (F : ℕ → Type 0) (v w : View) (f : ℕ) → Keeps N F v w → IsSome (v.part f) → w.name f ≡ v.name f
name_kept N F v w f k there = let p = part_of_there (v.part f) there in k.name f p.0 p.1

-- a file that was created holds nothing
pub holds_created : (v w : View) (part : ℕ) (name : List ℕ) (f : ℕ) → Created v w part name f → HoldsAt w f []
holds_created v w part name f x = record {
  there = is_some_of (w.part f) part x.is_new.part;
  bytes = λ t. let told : IsTrue v.tells = sym x.keeps.tells ∙ t in ap w.bytes (x.is_new.name told) ∙ (x.empty told).0;
}

-- what is written to the file it holds then
pub holds_wrote : (v w : View) (f : ℕ) (xs ys : List ℕ) → HoldsAt v f xs → Wrote v w f ys → HoldsAt w f (xs ++ ys)
holds_wrote v w f xs ys h x = record {
  there = still_there _ _ v w f x.keeps h.there;
  bytes = λ t. let told : IsTrue v.tells = sym x.keeps.tells ∙ t in ap w.bytes (name_kept _ _ v w f x.keeps h.there) ∙ x.grown told xs (h.bytes told);
}

-- a call that leaves every name leaves what the file holds
pub holds_kept : (F : ℕ → Type 0) (v w : View) (f : ℕ) (xs : List ℕ) → HoldsAt v f xs → Keeps Everything F v w → HoldsAt w f xs
holds_kept F v w f xs h k = record {
  there = still_there _ _ v w f k h.there;
  bytes = λ t. let told : IsTrue v.tells = sym k.tells ∙ t in ap w.bytes (name_kept _ _ v w f k h.there) ∙ k.bytes (v.name f) tt ∙ h.bytes told;
}

pub holds_unchanged : (v w : View) (f : ℕ) (xs : List ℕ) → HoldsAt v f xs → Unchanged v w → HoldsAt w f xs
holds_unchanged v w f xs h x = holds_kept _ v w f xs h x.keeps

pub holds_opened : (v w : View) (part : ℕ) (name : List ℕ) (g f : ℕ) (xs : List ℕ) → HoldsAt v f xs → Opened v w part name g → HoldsAt w f xs
holds_opened v w part name g f xs h x = holds_kept _ v w f xs h x.keeps

pub holds_took : (v w : View) (g f : ℕ) (xs ys : List ℕ) → HoldsAt v f xs → Took v w g ys → HoldsAt w f xs
holds_took v w g f xs ys h x = holds_kept _ v w f xs h x.keeps

pub holds_said : (v w : View) (text : List ℕ) (f : ℕ) (xs : List ℕ) → HoldsAt v f xs → Said v w text → HoldsAt w f xs
holds_said v w text f xs h x = holds_kept _ v w f xs h x.keeps

-- a write to a file of another name leaves what the file holds
pub holds_beside : (v w : View) (f g : ℕ) (xs ys : List ℕ) → HoldsAt v f xs → Apart v f g → Wrote v w g ys → HoldsAt w f xs
holds_beside v w f g xs ys h apart x = record {
  there = still_there _ _ v w f x.keeps h.there;
  bytes = λ t.
      let told : IsTrue v.tells = sym x.keeps.tells ∙ t in
      ap w.bytes (name_kept _ _ v w f x.keeps h.there) ∙ x.keeps.bytes (v.name f) (apart told) ∙ h.bytes told;
}

-- so does the creation of a file of another name
pub holds_beside_created : (v w : View) (part : ℕ) (name : List ℕ) (g f : ℕ) (xs : List ℕ) → HoldsAt v f xs
    → (IsTrue v.tells → v.name f ≢ name) → Created v w part name g → HoldsAt w f xs
holds_beside_created v w part name g f xs h apart x = record {
  there = still_there _ _ v w f x.keeps h.there;
  bytes = λ t.
      let told : IsTrue v.tells = sym x.keeps.tells ∙ t in
      ap w.bytes (name_kept _ _ v w f x.keeps h.there) ∙ x.keeps.bytes (v.name f) (apart told) ∙ h.bytes told;
}

-- files of different names stay so
pub apart_kept : (N : List ℕ → Type 0) (F : ℕ → Type 0) (v w : View) (f g : ℕ) → IsSome (v.part f) → IsSome (v.part g)
    → Apart v f g → Keeps N F v w → Apart w f g
apart_kept N F v w f g is_f is_g apart k = λ t e.
    apart (sym k.tells ∙ t) (sym (name_kept N F v w f k is_f) ∙ e ∙ name_kept N F v w g k is_g)

pub apart_sym : (v : View) (f g : ℕ) → Apart v f g → Apart v g f
apart_sym v f g apart = λ t e. apart t (sym e)

-- a file that is created under another name than an older file's is apart from it
pub apart_created : (v w : View) (part : ℕ) (name : List ℕ) (g f : ℕ) → IsSome (v.part f)
    → (IsTrue v.tells → v.name f ≢ name) → Created v w part name g → Apart w f g
apart_created v w part name g f there other x = λ t e.
    let told : IsTrue v.tells = sym x.keeps.tells ∙ t in
    other told (sym (name_kept _ _ v w f x.keeps there) ∙ e ∙ x.is_new.name told)
