-- What a file has left where bytes are in front.
use Rattle.std.proofs.Common.{◌≡◌, ◌∙◌, ◌++◌, ◌-◌, ℕ, Bool, true, false, List, [], None, Some, arith, inl, inr, ap, sym, subst, refl, append_assoc, take, drop, length}
use Rattle.std.specs.Prelude.{◌≢◌, ◌⊎◌, ◌<◌, eqb, IfOk}
use Rattle.std.specs.declared.option.Option.{Option}
use Rattle.std.specs.declared.result.Result.{Result}
use Rattle.std.proofs.lemmas.Bool.{ne_eqb}
use Rattle.std.proofs.lemmas.Bool.Decides.{eqb_tells}
use Rattle.std.proofs.lemmas.Grind.{common_steps}
use Rattle.std.proofs.lemmas.List.{nil_from_length, take-append-drop}
use Rattle.std.proofs.lemmas.Result.{IfOk-weaker}
use Rattle.play_base.specs.View.{View, Took, IsAtEnd}
use Rattle.pcapng_files.specs.Fronts.{with_front, front_view}

no_front : (b : Bool) (o : Option (List ℕ)) → with_front b true [] o ≡ o
no_front true None = refl
no_front true (Some own) = refl
no_front false o = refl

-- no bytes are in front of the file
abbrev pub HasOwn : ℕ → ℕ → Bool → List ℕ → Type 0
HasOwn f file rest front = (f ≢ file) ⊎ ((rest ≡ true) × (length front ≡ 0))

pub left_own : (f file : ℕ) (rest : Bool) (front : List ℕ) (left : Option (List ℕ)) → HasOwn f file rest front → with_front (eqb f file) rest front left ≡ left
left_own f file rest front left (inl other) = ap (λ b. with_front b rest front left) (ne_eqb f file other)
left_own f file rest front left (inr h) =
    ap (λ (b : Bool). with_front (eqb f file) b front left) h.0
    ∙ ap (λ (l : List ℕ). with_front (eqb f file) true l left) (nil_from_length front h.1) ∙ no_front (eqb f file) left

-- such a file is at its end where its own bytes are
pub end_own : {E : Type 0} (r : Result ℕ E) (into : List ℕ) (w : View) (g file : ℕ) (more : Bool) (front : List ℕ) (f : ℕ) → HasOwn f file more front
    → IfOk r (λ n. n ≡ 0 → 0 < length into → IsAtEnd w f) → IfOk r (λ n. n ≡ 0 → 0 < length into → IsAtEnd (front_view w g file more front) f)
end_own r into w g file more front f own x =
    IfOk-weaker r (λ n. n ≡ 0 → 0 < length into → IsAtEnd w f) (λ n. n ≡ 0 → 0 < length into → IsAtEnd (front_view w g file more front) f)
    (λ n y z s rest h. y z s rest (sym (left_own f file more front (w.left f) own) ∙ h)) x

self_of : (file : ℕ) → ((eqb file file ≡ true) × (file ≡ file)) ⊎ ((eqb file file ≡ false) × (file ≢ file)) → eqb file file ≡ true
self_of file (inl h) = h.0
self_of file (inr h) = absurd (h.1 refl)

-- the bytes in front belong to the file itself
pub left_self : (file : ℕ) (rest : Bool) (front : List ℕ) (left : Option (List ℕ)) → with_front (eqb file file) rest front left ≡ with_front true rest front left
left_self file rest front left = ap (λ b. with_front b rest front left) (self_of file (eqb_tells file file))

some_is : (a b : List ℕ) → Some a ≡ Some b → a ≡ b
some_is a b h = cc

give_some : (more : Bool) (left : Option (List ℕ)) (front next xs all : List ℕ) → front ≡ xs ++ next → with_front true more front left ≡ Some all
    → (rest : List ℕ) × (all ≡ xs ++ rest) × (with_front true more next left ≡ Some rest)
give_some false left front next xs all e h = (next, sym (some_is front all h) ∙ e, refl)
give_some true None front next xs all e h = absurd (cc)
give_some true (Some own) front next xs all e h =
    (next ++ own, sym (some_is (front ++ own) all h) ∙ ap (λ l. l ++ own) e ∙ append_assoc xs next own, refl)

took_self : (v : View) (g file n : ℕ) (more : Bool) (front into : List ℕ) → take n into ≡ take n front
    → Took (front_view v g file more front) (front_view v g file more (drop n front)) file (take n into)
took_self v g file n more front into moved = record {
  left = λ all h.
      let e : front ≡ take n into ++ drop n front = sym (take-append-drop n front) ∙ ap (λ l. l ++ drop n front) (sym moved) in
      let l = give_some more (v.left file) front (drop n front) (take n into) all e (sym (left_self file more front (v.left file)) ∙ h) in
      (l.0, l.1, left_self file more (drop n front) (v.left file) ∙ l.2);
  keeps = record {
    tells = refl;
    bytes = λ _ _. refl;
    left = λ f p h k. left_own f file more (drop n front) (v.left f) (inl k) ∙ sym (left_own f file more front (v.left f) (inl k));
    part = λ _ _ h. h;
    name = λ _ _ _. refl;
    later = record { read = λ p. omega arith; write = λ p. omega arith; fixed = refl };
  };
  none = λ f h. h;
  said = refl;
}

-- bytes that are given from the front
pub took_front : (v : View) (g file f n : ℕ) (more : Bool) (front into : List ℕ) → f ≡ file → take n into ≡ take n front
    → Took (front_view v g file more front) (front_view v g file more (take (length front - n) (drop n front))) f (take n into)
took_front v g file f n more front into at moved =
    let e : take (length front - n) (drop n front) ≡ drop n front = grind (arith, common_steps) in
    let P : List ℕ → Type 0 = λ next. Took (front_view v g file more front) (front_view v g file more next) f (take n into) in
    let Q : ℕ → Type 0 = λ k. Took (front_view v g file more front) (front_view v g file more (drop n front)) k (take n into) in
    subst P (sym e) (subst Q (sym at) (took_self v g file n more front into moved))
