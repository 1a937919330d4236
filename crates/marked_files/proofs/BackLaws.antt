-- What a call on marked files did is what happened to the files behind them.
use Rattle.std.proofs.Common.{◌≡◌, ◌∙◌, ◌∷◌, ℕ, List, sym}
use Rattle.std.specs.Prelude.{◌≢◌}
use Rattle.play_base.specs.View.{View, Keeps, Later, SameCounts}
use Rattle.marked_files.specs.Through.{marked_view}
use Rattle.marked_files.proofs.ViewLaws.{Wrapper, left_other}

-- what is fixed of marked files: the references to those behind them and to the marker, and the file
pub record AreFixed (x y : Wrapper) (old new : List ℕ) : Type 0 where
  pub reference : y.files ≡ x.files
  pub file_is : y.file ≡ x.file
  pub marker : y.marker ≡ x.marker
  pub behind : new ≡ old

pub fixed_are : (x y : Wrapper) (old new : List ℕ) → y.files ∷ y.file ∷ y.marker ∷ new ≡ x.files ∷ x.file ∷ x.marker ∷ old → AreFixed x y old new
fixed_are x y old new e = record { reference = cc; file_is = cc; marker = cc; behind = cc }

-- the files behind a wrapper, before a call and after it
module _ (v w : View) (x y : Wrapper) (become later : List ℕ → List ℕ) where
  abbrev Old : View
  Old = marked_view v x.files x.file x.marker become

  abbrev New : View
  New = marked_view w y.files y.file y.marker later

  -- the wrapper still holds the same references and the same file
  pub still_fixed : (N : List ℕ → Type 0) (F : ℕ → Type 0) → Keeps N F Old New → AreFixed x y v.fixed w.fixed
  still_fixed N F k = fixed_are x y v.fixed w.fixed k.later.fixed

  pub counts_back : SameCounts Old New → SameCounts v w
  counts_back k = record { read = k.read; write = k.write }

  pub later_back : Later Old New → Later v w
  later_back k = record { read = k.read; write = k.write; fixed = (fixed_are x y v.fixed w.fixed k.fixed).behind }

  -- what is kept of the wrapper's files is kept of those behind it, but for what the marked file has left
  pub keeps_back : (N : List ℕ → Type 0) (F : ℕ → Type 0) → ((f : ℕ) → F f → f ≢ x.file) → Keeps N F Old New → Keeps N F v w
  keeps_back N F other k =
      let same = (still_fixed N F k).file_is in
      record {
        tells = k.tells;
        bytes = k.bytes;
        left = λ f p at kept.
            sym (left_other f y.file w.tells later (w.left f) (λ e. other f kept (e ∙ same))) ∙ k.left f p at kept
            ∙ left_other f x.file v.tells become (v.left f) (other f kept);
        part = k.part;
        name = k.name;
        later = later_back k.later;
      }
