-- What holds of each filter holds of the one that wins.
use Rattle.std.proofs.Common.{◌≡◌, ℕ, ◌+◌, ◌<◌, ◌≤◌, Bool, true, false, cond, List, [], ◌∷◌, ◌++◌, length, Option, Some, None, position, unwrap_or, refl, arith}
use Rattle.std.specs.Prelude.{All, find, filter}
use Rattle.std.specs.List.{flat_map, enumerate_from}
use Rattle.std.specs.Option.{option_map_or}
use Rattle.std.proofs.lemmas.List.Elements.{All-nil, All-head, All-tail, All-append, All-from_recursion}
use Rattle.std.proofs.lemmas.List.Quantifiers.{position-Some}
use Rattle.conf_tree.specs.declared.class.Class.{Class}
use Rattle.conf_tree.specs.declared.filter.Filter.{Filter}
use Rattle.flow_filter.specs.Rules.{filters_of_control, default_class, control_filters}

found_step : {X : Type 0} (f : X → ℕ) (t : Bool) (x : X) (rest : Option X) (d : ℕ) (R : ℕ → Type 0) → R (f x) → R (option_map_or f rest d)
    → R (option_map_or f (cond t (Some x) rest) d)
found_step f true x rest d R here more = here
found_step f false x rest d R here more = more

-- a number of the element that is found, or of none
pub found_below : {X : Type 0} (n d : ℕ) (f : X → ℕ) (test : X → Bool) (xs : List X) → All (λ x. f x < n) xs → d < n → option_map_or f (find test xs) d < n
found_below n d f test [] all h = h
found_below n d f test (x ∷ xs) all h =
    found_step f (test x) x (find test xs) d (λ m. m < n) (All-head (λ y. f y < n) x xs all)
    (found_below n d f test xs (All-tail (λ y. f y < n) x xs all) h)

-- the filters of control go to classes that are there
of_control : (n class : ℕ) → class < n → All (λ f. f.class < n) (filters_of_control class)
of_control n class h = All-from_recursion (λ f. f.class < n) (filters_of_control class) (h, (h, (h, (h, tt))))

kept : (n i : ℕ) (t : Bool) (c : Class) (rest : List (ℕ × Class)) → i < n → All (λ f. f.class < n) (flat_map (λ numbered. filters_of_control numbered.0) rest)
    → All (λ f. f.class < n) (flat_map (λ numbered. filters_of_control numbered.0) (cond t ((i, c) ∷ rest) rest))
kept n i true c rest h all = All-append (λ f. f.class < n) (filters_of_control i) (flat_map (λ numbered. filters_of_control numbered.0) rest) (of_control n i h) all
kept n i false c rest h all = all

control_below : (n i : ℕ) (classes : List Class) → i + length classes ≤ n
    → All (λ f. f.class < n) (flat_map (λ numbered. filters_of_control numbered.0) (filter (λ numbered. numbered.1.control) (enumerate_from i classes)))
control_below n i [] h = All-nil (λ f. f.class < n)
control_below n i (c ∷ classes) h =
    kept n i c.control c (filter (λ numbered. numbered.1.control) (enumerate_from (i + 1) classes)) (omega arith)
    (control_below n (i + 1) classes (omega arith))

pub filters_below : (filters : List Filter) (classes : List Class) → All (λ f. f.class < length classes) filters
    → All (λ f. f.class < length classes) (filters ++ control_filters classes)
filters_below filters classes all =
    All-append (λ f. f.class < length classes) filters (control_filters classes) all (control_below (length classes) 0 classes (omega arith))

placed : (classes : List Class) (o : Option ℕ) → position (λ c. c.is_default) classes ≡ o → 0 < length classes → unwrap_or o 0 < length classes
placed classes None e h = h
placed (c ∷ classes) (Some i) e h = (position-Some (λ c. c.is_default) (c ∷ classes) i c e).0
placed [] (Some i) e h = absurd (omega arith)

pub default_below : (classes : List Class) → 0 < length classes → default_class classes < length classes
default_below classes h = placed classes (position (λ c. c.is_default) classes) refl h
