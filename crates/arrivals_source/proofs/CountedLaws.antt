-- What is counted of a file stays, and so what it has left is no longer behind the calls than before.
use Rattle.std.proofs.Common.{◌≡◌, ◌≤◌, ◌∙◌, ◌∷◌, ap, arith, refl, sym, ℕ, Bool, List, length}
use Rattle.std.specs.Prelude.{true, false, IsSome, Option, None, Some}
use Rattle.play_base.specs.View.{View, Keeps, TellsLeft, Wrote}
use Rattle.play_base.proofs.ViewLaws.{part_of_there}
use Rattle.arrivals_source.specs.Counted.{AreApart, IsNoLonger, count_of, counted_view, is_output}
use Rattle.arrivals_source.proofs.Alike.{keeps_alike}

-- where the files do not tell, nothing is counted
same_count : (t : Bool) (taken : ℕ) (left later : Option (List ℕ)) → (t ≡ true → later ≡ left) → count_of t taken later ≡ count_of t taken left
same_count true taken left later h = ap (λ (o : Option (List ℕ)). count_of true taken o) (h refl)
same_count false taken left later h = refl

-- a write of an output is one of the files whose bytes are counted
pub wrote_counted : (v w : View) (g file f taken : ℕ) (outputs bytes : List ℕ) → IsSome (v.part file) → AreApart v file outputs → is_output f outputs ≡ true
    → Wrote v w f bytes → Wrote (counted_view v g file taken) (counted_view w g file taken) f bytes
wrote_counted v w g file f taken outputs bytes here apart at x =
    let p = part_of_there (v.part file) here in
    let k = x.keeps in
    let left = λ (t : v.tells ≡ true). k.left file p.0 p.1 (λ e. (apart f at).1 t (sym e)) in
    let count : count_of w.tells taken (w.left file) ≡ count_of v.tells taken (v.left file) =
    ap (λ (b : Bool). count_of b taken (w.left file)) k.tells ∙ same_count v.tells taken (v.left file) (w.left file) left in
    record {
      grown = x.grown;
      keeps = keeps_alike v w v.left w.left (counted_view v g file taken).fixed (counted_view w g file taken).fixed _ _ (λ t h k e. e)
          (λ e. ap (λ (n : ℕ). g ∷ file ∷ n ∷ w.fixed) count ∙ ap (λ (l : List ℕ). g ∷ file ∷ count_of v.tells taken (v.left file) ∷ l) e) k;
      none = x.none;
      said = x.said;
    }

-- what is fixed of counted files
pub record AreCounted (v w : View) (g h file next taken later : ℕ) : Type 0 where
  pub reference : h ≡ g
  pub file_is : next ≡ file
  pub count : count_of w.tells later (w.left next) ≡ count_of v.tells taken (v.left file)
  pub behind : w.fixed ≡ v.fixed

are_counted : (v w : View) (g h file next taken later : ℕ) → (counted_view w h next later).fixed ≡ (counted_view v g file taken).fixed
    → AreCounted v w g h file next taken later
are_counted v w g h file next taken later e = record { reference = cc; file_is = cc; count = cc; behind = cc }

-- THE FILES BEHIND KEEP WHAT THOSE KEEP WHOSE BYTES ARE COUNTED, and the file has no more left than before
module _ (v w : View) (g h file next later : ℕ) (N : List ℕ → Type 0) (F : ℕ → Type 0) (k : Keeps N F (counted_view v g file 0) (counted_view w h next later)) where
  pub counted_fixed : AreCounted v w g h file next 0 later
  counted_fixed = are_counted v w g h file next 0 later k.later.fixed

  pub keeps_behind : Keeps N F v w
  keeps_behind = keeps_alike (counted_view v g file 0) (counted_view w h next later) v.left w.left v.fixed w.fixed N F (λ t f kept e. e) (λ e. counted_fixed.behind) k

  shorter : (all : List ℕ) (o : Option (List ℕ)) → IsSome o → count_of true later o ≡ count_of true 0 (Some all) → (rest : List ℕ) × (o ≡ Some rest) × (length rest ≤ length all)
  shorter all None here e = absurd (cc)
  shorter all (Some rest) here e = (rest, refl, omega (arith, e))

  pub no_longer : TellsLeft w → IsSome (v.part file) → IsNoLonger v w file
  no_longer told here t all at =
      let p = part_of_there (v.part file) here in
      let tells : w.tells ≡ true = k.tells ∙ t in
      let c = counted_fixed in
      let count : count_of true later (w.left file) ≡ count_of true 0 (Some all) =
      ap (λ (b : Bool). count_of b later (w.left file)) (sym tells) ∙ ap (λ (n : ℕ). count_of w.tells later (w.left n)) (sym c.file_is) ∙ c.count
      ∙ ap (λ (b : Bool). count_of b 0 (v.left file)) t ∙ ap (λ (o : Option (List ℕ)). count_of true 0 o) at in
      shorter all (w.left file) (told file p.0 tells (k.part file p.0 p.1)) count
