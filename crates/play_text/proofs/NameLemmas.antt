-- What a binary search finds among entries whose classes rise, and what is read at the place that it found.
use Rattle.std.proofs.Common.{◌≡◌, ℕ, ◌+◌, ◌<◌, ◌≤◌, ◌≢◌, Bool, true, false, cond, suc, List, [], ◌∷◌, ◌++◌, length, if◌then◌else◌, get_or, map, drop, add-one, Option, Some, None, Result, Ok, Err, eqb, refl, sym, ◌∙◌, ap, arith, IsTrue}
use Rattle.std.specs.List.{All, AllPairs, position_or_len, slice_get, find}
use Rattle.std.specs.Option.{unwrap_or, option_map}
use Rattle.std.specs.List.Sorted.{IsSearchInRange, IsBinarySearchResult, IsNonDecreasingBy}
use Rattle.std.specs.Ordering.{nat_cmp, ordering_index}
use Rattle.std.specs.Result.{result_ok}
use Rattle.std.proofs.lemmas.Cmp.{ranked}
use Rattle.std.proofs.lemmas.List.{get_or-map, length-map, drop_all}
use Rattle.std.proofs.Math.Seq.{drop-cons}
use Rattle.std.specs.Str.{bytes_eq}
use Rattle.std.proofs.lemmas.List.Sums.{position_or_len_is}
use Rattle.std.proofs.lemmas.List.Sorted.{IsNonDecreasingBy-from_default}
use Rattle.std.proofs.lemmas.List.Folds.{find_at}
use Rattle.std.proofs.lemmas.List.Elements.{All-push}
use Rattle.std.proofs.lemmas.List.Quantifiers.{position-Some, all_pairs_push}
use Rattle.std.proofs.lemmas.Option.{slice_get-get_or}
use Rattle.std.proofs.lemmas.Bool.Decides.{nat_tests}
use Rattle.std.proofs.lemmas.Grind.{common_steps}
use Rattle.std.proofs.lemmas.Slice.Eq.{bytes_eq-Decides}
use Rattle.std.proofs.lemmas.Bool.{false_from_ne_true}
use Rattle.line_text.specs.Names.{is_name}
use Rattle.play_text.specs.Names.{NameList, AreNames, class_named, place_of, name_of}

-- a place at which a class stands, and before which it does not, is its place
place_is : (names : NameList) (class at : ℕ) (d : ℕ × List ℕ) → at < length names → (get_or names at d).0 ≡ class
    → ((k : ℕ) → k < at → (get_or names k d).0 ≢ class) → place_of names class ≡ Some at
place_is names class at d inside here before =
    let first : position_or_len (λ pair. eqb pair.0 class) names ≡ at = position_or_len_is (λ pair. eqb pair.0 class) names at d (omega arith) (λ k lt. grind (arith, nat_tests, before k lt)) (λ _. grind (arith, nat_tests)) in
    grind (arith, nat_tests, first)

-- a class that stands nowhere has no place
no_place : (names : NameList) (class : ℕ) (d : ℕ × List ℕ)
    → ((k : ℕ) → k < length names → (get_or names k d).0 ≢ class) → place_of names class ≡ None
no_place names class d nowhere =
    let last : position_or_len (λ pair. eqb pair.0 class) names ≡ length names = position_or_len_is (λ pair. eqb pair.0 class) names (length names) d (omega arith) (λ k lt. grind (arith, nat_tests, nowhere k lt)) (λ lt. absurd (omega (arith, lt))) in
    grind (arith, nat_tests, last)

module _ {X : Type 0} (pair : X → ℕ × List ℕ) (xs : List X) (d : X) (rising : AllPairs (λ x y. x.0 < y.0) (map pair xs)) (class : ℕ) where
  -- the class of an entry, and of its pair
  class_at : (k : ℕ) → k < length xs → (get_or (map pair xs) k (0, [])).0 ≡ (pair (get_or xs k d)).0
  class_at k lt = ap (λ (p : ℕ × List ℕ). p.0) (get_or-map pair xs k d (0, []) lt)

  -- the classes of the entries rise
  rises : (i j : ℕ) → i < j → j < length xs → (pair (get_or xs i d)).0 < (pair (get_or xs j d)).0
  rises i j lt inside = rw (← class_at i (omega arith), ← class_at j inside) (rising i j (0, []) lt (rw length-map inside))

  -- where the search found an entry, its class stands there and at no place before
  found : (at : ℕ) → at < length xs → (pair (get_or xs at d)).0 ≡ class → place_of (map pair xs) class ≡ Some at
  found at inside here = place_is (map pair xs) class at (0, []) (rw length-map inside) (class_at at inside ∙ here)
      (λ k lt same. omega (arith, rises k at lt inside, class_at k (omega arith), same, here))

  -- where it found none, the class stands nowhere
  missed : ((k : ℕ) → k < length xs → (pair (get_or xs k d)).0 ≢ class) → place_of (map pair xs) class ≡ None
  missed nowhere = no_place (map pair xs) class (0, [])
      (λ k lt same. let inside : k < length xs = rw length-map at lt in nowhere k inside (sym (class_at k inside) ∙ same))

  -- the searched key rises along the entries, as a binary search asks
  keys_rise : IsNonDecreasingBy (λ x. ordering_index (nat_cmp (pair x).0 class)) xs
  keys_rise = IsNonDecreasingBy-from_default (λ x. ordering_index (nat_cmp (pair x).0 class)) xs d (λ i j le inside.
      let classes : (pair (get_or xs i d)).0 ≤ (pair (get_or xs j d)).0 = grind (arith, rises i j, λ (same : i ≡ j). ap (λ (k : ℕ). (pair (get_or xs k d)).0) same) in
      grind (arith, nat_tests))

  -- so what it answers is the place of the class
  search_ends : (r : Result ℕ ℕ) → IsSearchInRange r (length xs) → IsBinarySearchResult (λ x. nat_cmp (pair x).0 class) xs r
      → result_ok r ≡ place_of (map pair xs) class
  search_ends (Ok at) inside equal = sym (found at inside (ranked _ class _ (sym (equal d))))
  search_ends (Err at) inside parted = sym (missed (λ k lt same.
      let below = λ (less : k < at). ranked (pair (get_or xs k d)).0 class _ (sym ((parted keys_rise).0 k d (omega arith) less)) in
      let above = λ (more : at ≤ k). ranked (pair (get_or xs k d)).0 class _ (sym ((parted keys_rise).1 k d more lt)) in
      grind (arith, below, above)))

-- the search over entries whose classes rise answers the place of the class
pub searched : {X : Type 0} (pair : X → ℕ × List ℕ) (xs : List X) (class : ℕ) (r : Result ℕ ℕ) → AllPairs (λ x y. x.0 < y.0) (map pair xs)
    → IsSearchInRange r (length xs) → IsBinarySearchResult (λ x. nat_cmp (pair x).0 class) xs r → result_ok r ≡ place_of (map pair xs) class
searched pair [] class (Ok at) rising inside equal = absurd (omega (arith, inside))
searched pair [] class (Err at) rising inside parted = refl
searched pair (x ∷ xs) class r rising inside h = search_ends pair (x ∷ xs) x rising class r inside h

-- where an entry of the class stands is its place
pub stands_at : {X : Type 0} (pair : X → ℕ × List ℕ) (xs : List X) (class at : ℕ) (d : X) → AllPairs (λ x y. x.0 < y.0) (map pair xs) → at < length xs
    → (pair (get_or xs at d)).0 ≡ class → place_of (map pair xs) class ≡ Some at
stands_at pair xs class at d rising inside here = found pair xs d rising class at inside here

-- at the place of a class its name is read
pub name_at : {X : Type 0} (pair : X → ℕ × List ℕ) (xs : List X) (class at : ℕ) (x : X) → place_of (map pair xs) class ≡ Some at
    → x ≡ get_or xs at x → name_of (map pair xs) class ≡ (pair x).1
name_at pair xs class at x place read =
    let names = map pair xs in
    let here = position-Some (λ e. eqb e.0 class) names at (0, []) place in
    let first : position_or_len (λ e. eqb e.0 class) names ≡ at = position_or_len_is (λ e. eqb e.0 class) names at (0, []) (omega (arith, here.0)) here.2 (λ _. here.1) in
    let pair_read : get_or names at (0, []) ≡ pair x = get_or-map pair xs at x (0, []) (rw length-map at here.0) ∙ ap pair (sym read) in
    let first_pair : find (λ e. eqb e.0 class) names ≡ slice_get names at = find_at (λ e. eqb e.0 class) names ∙ ap (slice_get names) first in
    let found_pair : slice_get names at ≡ Some (pair x) = slice_get-get_or names at (0, []) here.0 ∙ ap (λ (e : ℕ × List ℕ). Some e) pair_read in
    ap (λ (o : Option (ℕ × List ℕ)). unwrap_or (option_map (λ e. e.1) o) []) (first_pair ∙ found_pair)

-- an entry with a name is the one of its class, since no other has that name
pub named_at : {X : Type 0} (pair : X → ℕ × List ℕ) (xs : List X) (name : List ℕ) (at : ℕ) (x : X) → AllPairs (λ x y. x.1 ≢ y.1) (map pair xs)
    → at < length xs → x ≡ get_or xs at x → bytes_eq (pair x).1 name ≡ true → class_named (map pair xs) name ≡ Some (pair x).0
named_at pair xs name at x different inside read same =
    let names = map pair xs in
    let test : ℕ × List ℕ → Bool = λ e. bytes_eq e.1 name in
    let within : at < length names = rw length-map inside in
    let pair_read : get_or names at (0, []) ≡ pair x = get_or-map pair xs at x (0, []) inside ∙ ap pair (sym read) in
    let here : test (get_or names at (0, [])) ≡ true = rw pair_read same in
    let before : (k : ℕ) → k < at → test (get_or names k (0, [])) ≡ false = λ k lt. false_from_ne_true _
    (λ t. different k at (0, []) lt within ((bytes_eq-Decides _ _).0 t ∙ sym ((bytes_eq-Decides _ _).0 here))) in
    let first : position_or_len test names ≡ at = position_or_len_is test names at (0, []) (omega (arith, within)) before (λ _. here) in
    let first_pair : find test names ≡ slice_get names at = find_at test names ∙ ap (slice_get names) first in
    let found_pair : slice_get names at ≡ Some (pair x) = slice_get-get_or names at (0, []) within ∙ ap (λ (e : ℕ × List ℕ). Some e) pair_read in
    ap (λ (o : Option (ℕ × List ℕ)). option_map (λ e. e.0) o) (first_pair ∙ found_pair)

-- the search for a name, entry by entry
module _ {X : Type 0} (pair : X → ℕ × List ℕ) (xs : List X) (name : List ℕ) (i : ℕ) where
  -- those from i on decide
  abbrev pub Decide : (i : ℕ) → Type 0
  Decide i = class_named (map pair (drop i xs)) name ≡ class_named (map pair xs) name

  here_first : (x : X) → i < length xs → x ≡ get_or xs i x → map pair (drop i xs) ≡ pair x ∷ map pair (drop (i + 1) xs)
  here_first x inside read =
      let parted : drop i xs ≡ get_or xs i x ∷ drop (suc i) xs = drop-cons xs i x inside in
      let same : drop i xs ≡ x ∷ drop (i + 1) xs = rw add-one (parted ∙ ap (λ (y : X). y ∷ drop (suc i) xs) (sym read)) in
      ap (map pair) same

  named_here : (x : X) (b : Bool) → bytes_eq (pair x).1 name ≡ b → class_named (pair x ∷ map pair (drop (i + 1) xs)) name ≡ cond b (Some (pair x).0) (class_named (map pair (drop (i + 1) xs)) name)
  named_here x true t = rw t refl
  named_here x false t = rw t refl

  pub named_found : (x : X) → i < length xs → x ≡ get_or xs i x → bytes_eq (pair x).1 name ≡ true → Decide i → Some (pair x).0 ≡ class_named (map pair xs) name
  named_found x inside read same decide = sym (named_here x true same) ∙ ap (λ names. class_named names name) (sym (here_first x inside read)) ∙ decide

  pub named_passed : (x : X) → i < length xs → x ≡ get_or xs i x → bytes_eq (pair x).1 name ≡ false → Decide i → Decide (i + 1)
  named_passed x inside read other decide = sym (named_here x false other) ∙ ap (λ names. class_named names name) (sym (here_first x inside read)) ∙ decide

  pub named_nowhere : length xs ≤ i → Decide i → None ≡ class_named (map pair xs) name
  named_nowhere past decide = let none : drop i xs ≡ [] = drop_all i xs past in ap (λ (ys : List X). class_named (map pair ys) name) (sym none) ∙ decide

-- one more class after the others, with a name that is not there
pub names_grow : (names : NameList) (class : ℕ) (name : List ℕ) → AreNames names → All (λ pair. pair.0 < class) names → IsTrue (is_name name)
    → All (λ pair. pair.1 ≢ name) names → length names < 256 → AreNames (names ++ (class, name) ∷ [])
names_grow names class name good last named fresh room = record {
  rising = all_pairs_push (λ x y. x.0 < y.0) names (class, name) good.rising last;
  named = All-push (λ pair. IsTrue (is_name pair.1)) names (class, name) good.named named;
  different = all_pairs_push (λ x y. x.1 ≢ y.1) names (class, name) good.different fresh;
  few = grind (arith, common_steps);
}

-- a name has at most 64 letters
short_name : (name : List ℕ) → IsTrue (is_name name) → length name ≤ 64
short_name name e = grind (arith, nat_tests, e)

by_class : (here : Bool) (n : ℕ × List ℕ) (found : Option (ℕ × List ℕ)) → length n.1 ≤ 64
    → length (unwrap_or (option_map (λ (pair : ℕ × List ℕ). pair.1) found) []) ≤ 64
    → length (unwrap_or (option_map (λ (pair : ℕ × List ℕ). pair.1) (if here then Some n else found)) []) ≤ 64
by_class true n found a b = a
by_class false n found a b = b

-- so has what stands with a class
pub name_short : (names : NameList) (class : ℕ) → All (λ pair. IsTrue (is_name pair.1)) names → length (name_of names class) ≤ 64
name_short [] class named = omega arith
name_short (n ∷ ns) class named =
    by_class (eqb n.0 class) n (find (λ (pair : ℕ × List ℕ). eqb pair.0 class) ns) (short_name n.1 (named 0 n (omega arith)))
    (name_short ns class (λ k d inside. named (suc k) d (omega (arith, inside))))
