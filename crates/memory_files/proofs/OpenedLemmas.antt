-- What one more file does to the list of opened files, and what is found at a place of it.
use Rattle.std.proofs.Common.{◌≡◌, ◌∙◌, ◌-◌, ℕ, zero, suc, List, [], ◌∷◌, ◌++◌, length, length-append, take, drop, None, Some, refl, arith, ap, sym, subst, get_or}
use Rattle.std.specs.Prelude.{◌≢◌, IsSome, slice_get, string_bytes, option_map}
use Rattle.std.specs.Option.{option_map_or}
use Rattle.std.proofs.lemmas.Option.{slice_get_past}
use Rattle.memory_files.specs.declared.opened.OpenedFile.{OpenedFile}
use Rattle.memory_files.specs.Memory.{Added, part_at, name_at, left_at}

pub slice_get-push : {X : Type 0} (xs : List X) (x : X) → slice_get (xs ++ x ∷ []) (length xs) ≡ Some x
slice_get-push [] x = refl
slice_get-push (y ∷ xs) x = slice_get-push xs x

pub slice_get-append : {X : Type 0} (xs ys : List X) (f : ℕ) (y : X) → slice_get xs f ≡ Some y → slice_get (xs ++ ys) f ≡ Some y
slice_get-append [] ys f y h = cc
slice_get-append (x ∷ xs) ys zero y h = h
slice_get-append (x ∷ xs) ys (suc f) y h = slice_get-append xs ys f y h

all_but_last : (xs : List OpenedFile) (o : OpenedFile) → take (length (xs ++ o ∷ []) - 1) (xs ++ o ∷ []) ≡ xs
all_but_last [] o = refl
all_but_last (x ∷ xs) o =
    let e : length (x ∷ (xs ++ o ∷ [])) - 1 ≡ suc (length (xs ++ o ∷ []) - 1) = omega (arith, length-append xs (o ∷ [])) in
    ap (λ (n : ℕ). take n (x ∷ (xs ++ o ∷ []))) e ∙ ap (λ (l : List OpenedFile). x ∷ l) (all_but_last xs o)

pub part_at-append : (xs ys : List OpenedFile) (f p : ℕ) → part_at xs f ≡ Some p
    → (part_at (xs ++ ys) f ≡ part_at xs f) × (name_at (xs ++ ys) f ≡ name_at xs f) × (left_at (xs ++ ys) f ≡ left_at xs f)
part_at-append [] ys f p h = cc
part_at-append (x ∷ xs) ys zero p h = (refl, refl, refl)
part_at-append (x ∷ xs) ys (suc f) p h = part_at-append xs ys f p h

-- no place but that of the new file comes to be one
part_at-none : (xs : List OpenedFile) (o : OpenedFile) (f : ℕ) → f ≢ length xs → part_at xs f ≡ None → part_at (xs ++ o ∷ []) f ≡ None
part_at-none [] o zero n h = absurd (n refl)
part_at-none [] o (suc f) n h = refl
part_at-none (x ∷ xs) o zero n h = h
part_at-none (x ∷ xs) o (suc f) n h = part_at-none xs o f (λ e. n (ap suc e)) h

pub added : (old : List OpenedFile) (o : OpenedFile) → Added old (old ++ o ∷ []) (length old) o.part (string_bytes o.name) (drop o.place o.bytes.items)
added old o = record {
  fresh = ap (option_map (λ (x : OpenedFile). x.part)) (slice_get_past old (length old) (omega arith));
  part = ap (option_map (λ (x : OpenedFile). x.part)) (slice_get-push old o);
  name = ap (λ r. option_map_or (λ (x : OpenedFile). string_bytes x.name) r []) (slice_get-push old o);
  left = ap (option_map (λ (x : OpenedFile). drop x.place x.bytes.items)) (slice_get-push old o);
  others = λ f p h. part_at-append old (o ∷ []) f p h;
  none = λ f n h. part_at-none old o f n h;
  last = (o, refl);
}

pub name_at_found : (xs : List OpenedFile) (f : ℕ) (o : OpenedFile) → IsSome (part_at xs f) → o ≡ get_or xs f o → name_at xs f ≡ string_bytes o.name
name_at_found [] f o there at = cc
name_at_found (x ∷ xs) zero o there at = ap (λ (y : OpenedFile). string_bytes y.name) (sym at)
name_at_found (x ∷ xs) (suc f) o there at = name_at_found xs f o there at

pub part_at_found : (xs : List OpenedFile) (f : ℕ) (o : OpenedFile) → IsSome (part_at xs f) → o ≡ get_or xs f o → part_at xs f ≡ Some o.part
part_at_found [] f o there at = cc
part_at_found (x ∷ xs) zero o there at = ap (λ (y : OpenedFile). Some y.part) (sym at)
part_at_found (x ∷ xs) (suc f) o there at = part_at_found xs f o there at

-- without its last file the list is the old one
pub without_last : (old new : List OpenedFile) (file part : ℕ) (name bytes : List ℕ) → Added old new file part name bytes
    → take (length new - 1) new ≡ old
without_last old new file part name bytes x =
    subst (λ (l : List OpenedFile). take (length l - 1) l ≡ old) (sym x.last.1) (all_but_last old x.last.0)
