-- The places of a list: what stands there before and after a write or a push, through a function, and the one place at which a test
-- passes, or a name is found.
use Rattle.std.proofs.Common.{is_some, false, ◌≡◌, ◌≢◌, ◌∙◌, ◌⊎◌, ⊎_elim, ℕ, zero, suc, ◌<◌, Bool, true, not, List, [], ◌∷◌, ◌++◌, map, length, Some, None, option_map, position, slice_get, slice_set, bytes_eq, refl, sym, ap, arith}
use Rattle.std.specs.List.{position_or_len}
use Rattle.std.proofs.lemmas.Bool.Decides.{nat_tests}
use Rattle.std.proofs.lemmas.List.Sums.{position_or_len_is, prefix_len_passes, prefix_len_stops}
use Rattle.std.proofs.Math.Seq.{map-set_same, set-append_seam}
use Rattle.std.proofs.lemmas.Grind.{common_steps}
use Rattle.std.proofs.lemmas.Option.{gets, slice_get_cases, slice_get-map, get_or_from_slice_get}
use Rattle.std.proofs.lemmas.Slice.Eq.{bytes_eq-Decides}
use Rattle.std.proofs.lemmas.Bool.{false_from_ne_true}

-- what holds of all that stands in a list, of each place and what stands there, and something of a kind that stands at a place
abbrev pub Each : {X : Type 0} → (X → Type 0) → List X → Type 0
Each {X} P xs = (k : ℕ) (x : X) → slice_get xs k ≡ Some x → P x

abbrev pub AtEach : {X : Type 0} → (ℕ → X → Type 0) → List X → Type 0
AtEach {X} P xs = (k : ℕ) (x : X) → slice_get xs k ≡ Some x → P k x

abbrev pub HoldsAt : {X : Type 0} → (X → Type 0) → List X → ℕ → Type 0
HoldsAt {X} P xs k = (x : X) × (slice_get xs k ≡ Some x) × P x

-- each place of a list has something
pub element : {X : Type 0} (xs : List X) (k : ℕ) → k < length xs → (x : X) × (slice_get xs k ≡ Some x)
element [] k inside = absurd (omega arith)
element (x ∷ xs) zero inside = (x, refl)
element (x ∷ xs) (suc k) inside = element xs k (omega arith)

-- A LIST THAT IS PUSHED TO
pub get_push : {X : Type 0} (xs : List X) (y r : X) (j : ℕ) → slice_get (xs ++ y ∷ []) j ≡ Some r
    → ((j ≡ length xs) × (r ≡ y)) ⊎ (slice_get xs j ≡ Some r)
get_push xs y r j h = grind (arith, common_steps, gets)

pub get_pushed : {X : Type 0} (xs : List X) (y : X) (ys : List X) → slice_get (xs ++ y ∷ ys) (length xs) ≡ Some y
get_pushed xs y ys = grind (arith, common_steps, gets)

pub get_front : {X : Type 0} (xs ys : List X) (j : ℕ) (r : X) → slice_get xs j ≡ Some r → slice_get (xs ++ ys) j ≡ Some r
get_front xs ys j r h = grind (arith, common_steps, gets)

pub push_each : {X : Type 0} (P : ℕ → X → Type 0) (xs : List X) (y : X) → AtEach P xs → P (length xs) y → AtEach P (xs ++ y ∷ [])
push_each P xs y old new k x at = ⊎_elim (λ e. rw e.0 (rw e.1 new)) (λ e. old k x e) (get_push xs y x k at)

pub push_holds : {X : Type 0} (P : X → Type 0) (xs ys : List X) (k : ℕ) → HoldsAt P xs k → HoldsAt P (xs ++ ys) k
push_holds P xs ys k h = (h.0, get_front xs ys k h.0 h.1, h.2)

-- A LIST THAT IS WRITTEN TO
pub get_set : {X : Type 0} (xs : List X) (i : ℕ) (y r : X) (j : ℕ) → slice_get (slice_set xs i y) j ≡ Some r
    → ((j ≡ i) × (r ≡ y)) ⊎ ((j ≢ i) × (slice_get xs j ≡ Some r))
get_set xs i y r j h = grind (arith, common_steps, gets)

pub set_pushed : {X : Type 0} (xs : List X) (x y : X) → slice_set (xs ++ x ∷ []) (length xs) y ≡ xs ++ y ∷ []
set_pushed xs x y = set-append_seam xs x [] y

pub set_at : {X : Type 0} (xs : List X) (i : ℕ) (x y : X) → slice_get xs i ≡ Some x → slice_get (slice_set xs i y) i ≡ Some y
set_at xs i x y h = grind (arith, common_steps, gets)

pub set_each : {X : Type 0} (P : ℕ → X → Type 0) (xs : List X) (i : ℕ) (y : X) → AtEach P xs → P i y → AtEach P (slice_set xs i y)
set_each P xs i y old new k x at = ⊎_elim (λ e. rw e.0 (rw e.1 new)) (λ e. old k x e.1) (get_set xs i y x k at)

pub set_holds : {X : Type 0} (P : X → Type 0) (xs : List X) (i : ℕ) (x y : X) → slice_get xs i ≡ Some x → (P x → P y)
    → (k : ℕ) → HoldsAt P xs k → HoldsAt P (slice_set xs i y) k
set_holds P xs i x y at keep k h =
    let t : ((h.0 ≡ x) × (slice_get (slice_set xs i y) k ≡ Some y)) ⊎ (slice_get (slice_set xs i y) k ≡ Some h.0) = grind (arith, common_steps, gets) in
    ⊎_elim (λ e. (y, e.1, keep (rw e.0 at h.2))) (λ e. (h.0, e, h.2)) t

-- a function that cannot tell what is written from what stood there
pub map_set_same : {X Y : Type 0} (f : X → Y) (xs : List X) (i : ℕ) (x y : X) → slice_get xs i ≡ Some x → f y ≡ f x → map f (slice_set xs i y) ≡ map f xs
map_set_same f xs i x y at same = map-set_same f xs i y x (same ∙ ap f (sym (get_or_from_slice_get xs i x x at)))

-- THROUGH A FUNCTION OF EACH ELEMENT
pub map_on : {X Y : Type 0} (f : X → Y) (xs : List X) (k : ℕ) (x : X) → slice_get xs k ≡ Some x → slice_get (map f xs) k ≡ Some (f x)
map_on f xs k x h = slice_get-map f xs k ∙ ap (option_map f) h

pub map_back : {X Y : Type 0} (f : X → Y) (xs : List X) (k : ℕ) (y : Y) → slice_get (map f xs) k ≡ Some y → HoldsAt (λ x. f x ≡ y) xs k
map_back f xs k y h = grind (arith, slice_get-map)

pub map_through : {X Y Z : Type 0} (g : X → Y) (f : Y → Z) (xs : List X) (k : ℕ) (y : Y) → slice_get (map g xs) k ≡ Some y
    → slice_get (map (λ x. f (g x)) xs) k ≡ Some (f y)
map_through g f xs k y h = grind (arith, slice_get-map)

-- ELEMENTS OF THEIR OWN: each stands at one place
abbrev pub AreApart : {X : Type 0} → List X → Type 0
AreApart {X} xs = (j k : ℕ) (x : X) → slice_get xs j ≡ Some x → slice_get xs k ≡ Some x → j ≡ k

pub push_apart : {X : Type 0} (xs : List X) (y : X) → AreApart xs → ((k : ℕ) → slice_get xs k ≢ Some y) → AreApart (xs ++ y ∷ [])
push_apart xs y apart new j k x at there = grind (arith, get_push, apart, new)

-- elements that differ in what a function makes of them
pub apart_by : {X Y Z : Type 0} (g : X → Y) (f : Y → Z) (xs : List X) → AreApart (map (λ x. f (g x)) xs) → (j k : ℕ) (a b : Y)
    → slice_get (map g xs) j ≡ Some a → slice_get (map g xs) k ≡ Some b → f a ≡ f b → j ≡ k
apart_by g f xs apart j k a b at there same =
    apart j k (f a) (map_through g f xs j a at) (map_through g f xs k b there ∙ ap (λ z. Some z) (sym same))

-- THE PLACE AT WHICH A TEST PASSES
-- lists that are equally long and have the same at each place
pub same_places : {X : Type 0} (xs ys : List X) → length xs ≡ length ys → ((j : ℕ) (x : X) → slice_get xs j ≡ Some x → slice_get ys j ≡ Some x) → xs ≡ ys
same_places [] [] l h = refl
same_places [] (y ∷ ys) l h = absurd (omega arith)
same_places (x ∷ xs) [] l h = absurd (omega arith)
same_places (x ∷ xs) (y ∷ ys) l h =
    let rest : xs ≡ ys = same_places xs ys (omega arith) (λ j z g. h (suc j) z g) in
    cc (h 0 x refl)

pub position_at : {X : Type 0} (p : X → Bool) (xs : List X) (k : ℕ) (x : X) → slice_get xs k ≡ Some x → p x ≡ true
    → ((j : ℕ) (y : X) → slice_get xs j ≡ Some y → p y ≡ true → j ≡ k) → position p xs ≡ Some k
position_at p xs k x h t one = grind (arith, common_steps, gets, nat_tests, position_or_len_is, one)

pub position_nowhere : {X : Type 0} (p : X → Bool) (xs : List X) → ((j : ℕ) (y : X) → slice_get xs j ≡ Some y → p y ≡ true → ⊥) → position p xs ≡ None
position_nowhere p xs h =
    grind (arith, common_steps, gets, nat_tests, slice_get_cases xs (position_or_len p xs), prefix_len_stops (λ x. not (p x)) xs, h)

-- a name that no element has is not among theirs
pub not_among : {X : Type 0} (name_of : X → List ℕ) (name : List ℕ) (xs : List X) → is_some (position (λ x. bytes_eq name (name_of x)) xs) ≡ false
    → (k : ℕ) → slice_get (map name_of xs) k ≢ Some name
not_among name_of name xs none k at =
    let t = map_back name_of xs k name at in
    let yes = (bytes_eq-Decides name (name_of t.0)).1 in
    grind (arith, common_steps, gets, nat_tests, prefix_len_passes (λ x. not (bytes_eq name (name_of x))) xs k t.0)

-- NAMES that are equal or differ, and the place of a name among elements with names
equal_names : (a b : List ℕ) → bytes_eq a b ≡ true → a ≡ b
equal_names a b h = (bytes_eq-Decides a b).0 h

pub names_equal : (a b : List ℕ) → a ≡ b → bytes_eq a b ≡ true
names_equal a b h = (bytes_eq-Decides a b).1 h

pub names_differ : (a b : List ℕ) → a ≢ b → bytes_eq a b ≡ false
names_differ a b h = false_from_ne_true (bytes_eq a b) (λ t. h (equal_names a b t))

pub name_is_new : {X : Type 0} (name_of : X → List ℕ) (name : List ℕ) (xs : List X) → ((j : ℕ) (x : X) → slice_get xs j ≡ Some x → name ≢ name_of x)
    → position (λ x. bytes_eq name (name_of x)) xs ≡ None
name_is_new name_of name xs new =
    position_nowhere (λ x. bytes_eq name (name_of x)) xs (λ j x g t. new j x g (equal_names name (name_of x) t))

pub name_is_at : {X : Type 0} (name_of : X → List ℕ) (xs : List X) (k : ℕ) (x : X) → slice_get xs k ≡ Some x
    → ((j : ℕ) (y : X) → slice_get xs j ≡ Some y → name_of x ≡ name_of y → j ≡ k) → position (λ y. bytes_eq (name_of x) (name_of y)) xs ≡ Some k
name_is_at name_of xs k x at one =
    position_at (λ y. bytes_eq (name_of x) (name_of y)) xs k x at (names_equal (name_of x) (name_of x) refl)
    (λ j y g t. one j y g (equal_names (name_of x) (name_of y) t))
