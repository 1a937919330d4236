-- What a call on a wrapper did is what happened to the files behind it.
use Rattle.std.proofs.Common.{◌≡◌, ◌∙◌, ◌∷◌, ℕ, Bool, List, inl, sym}
use Rattle.std.specs.Prelude.{◌≢◌}
use Rattle.play_base.specs.View.{View, Keeps}
use Rattle.pcapng_files.specs.Fronts.{front_view}
use Rattle.pcapng_files.proofs.FrontLaws.{left_own}

first_is : (a b : ℕ) (xs ys : List ℕ) → a ∷ xs ≡ b ∷ ys → a ≡ b
first_is a b xs ys e = cc

rest_is : (a b : ℕ) (xs ys : List ℕ) → a ∷ xs ≡ b ∷ ys → xs ≡ ys
rest_is a b xs ys e = cc

-- files, the reference by which a wrapper holds them, and the file of which these bytes are in memory: they come first, and behind them
-- what the file itself has left, where `rest` holds
pub record Fronted : Type 0 where
  pub view : View
  pub reference : ℕ
  pub file : ℕ
  pub rest : Bool
  pub front : List ℕ

abbrev pub fronted : Fronted → View
fronted s = front_view s.view s.reference s.file s.rest s.front

-- the wrapper still holds the same reference
pub same_reference : (N : List ℕ → Type 0) (F : ℕ → Type 0) (s t : Fronted) → Keeps N F (fronted s) (fronted t) → t.reference ≡ s.reference
same_reference N F s t x = first_is t.reference s.reference (t.file ∷ t.view.fixed) (s.file ∷ s.view.fixed) x.later.fixed

-- what is kept of a wrapper's files is kept of those behind it, but for what the one file has left
pub keeps_back : (N : List ℕ → Type 0) (F : ℕ → Type 0) (s t : Fronted) → ((f : ℕ) → F f → f ≢ s.file) → Keeps N F (fronted s) (fronted t)
    → Keeps N F s.view t.view
keeps_back N F s t other x =
    let v : View = s.view in
    let w : View = t.view in
    let fixed : t.file ∷ w.fixed ≡ s.file ∷ v.fixed = rest_is t.reference s.reference (t.file ∷ w.fixed) (s.file ∷ v.fixed) x.later.fixed in
    let same : t.file ≡ s.file = first_is t.file s.file w.fixed v.fixed fixed in
    record {
      tells = x.tells;
      bytes = x.bytes;
      left = λ f p at k.
          sym (left_own f t.file t.rest t.front (w.left f) (inl (λ e. other f k (e ∙ same)))) ∙ x.left f p at k ∙ left_own f s.file s.rest s.front (v.left f) (inl (other f k));
      part = x.part;
      name = x.name;
      later = record { read = x.later.read; write = x.later.write; fixed = rest_is t.file s.file w.fixed v.fixed fixed };
    }
