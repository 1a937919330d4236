-- A new discipline: its leaves are the queue classes.
use Rattle.std.proofs.Common.{◌≡◌, ◌<◌, ◌+◌, ℕ, suc, Bool, true, false, cond, List, [], ◌∷◌, Some, length, map, refl, ap, arith, ◌∙◌}
use Rattle.std.specs.Prelude.{slice_get, if◌then◌else◌}
use Rattle.std.specs.List.{filter, range_with_len}
use Rattle.class_rows.specs.Rows.{holding}

shifted : (f : ℕ → Bool) (c : ℕ) (b : Bool) (hs : List Bool) → ((k : ℕ) → k < length (b ∷ hs) → slice_get (b ∷ hs) k ≡ Some (f (c + k)))
    → (k : ℕ) → k < length hs → slice_get hs k ≡ Some (f (c + 1 + k))
shifted f c b hs g k l = g (suc k) (omega (arith, l)) ∙ ap (λ n. Some (f n)) (omega arith)

first_is : (f : ℕ → Bool) (c : ℕ) (b : Bool) (hs : List Bool) → ((k : ℕ) → k < length (b ∷ hs) → slice_get (b ∷ hs) k ≡ Some (f (c + k))) → b ≡ f c
first_is f c b hs g = let e : Some b ≡ Some (f c) = g 0 (omega arith) ∙ ap (λ n. Some (f n)) (omega arith) in cc

pub holding_is : (f : ℕ → Bool) (c : ℕ) (hs : List Bool) → ((k : ℕ) → k < length hs → slice_get hs k ≡ Some (f (c + k))) → holding c hs ≡ filter f (range_with_len c (length hs))
holding_is f c [] g = refl
holding_is f c (b ∷ hs) g = go b (f c) (first_is f c b hs g) (holding_is f (c + 1) hs (shifted f c b hs g))
  where
    go : (a d : Bool) → a ≡ d → holding (c + 1) hs ≡ filter f (range_with_len (c + 1) (length hs))
        → (if a then c ∷ holding (c + 1) hs else holding (c + 1) hs) ≡ cond d (c ∷ filter f (range_with_len (c + 1) (length hs))) (filter f (range_with_len (c + 1) (length hs)))
    go true true e r = ap (λ (xs : List ℕ). c ∷ xs) r
    go false false e r = r
    go true false e r = absurd cc
    go false true e r = absurd cc

pub flags_are : (f : ℕ → Bool) (c : ℕ) (hs : List Bool) → ((k : ℕ) → k < length hs → slice_get hs k ≡ Some (f (c + k))) → hs ≡ map f (range_with_len c (length hs))
flags_are f c [] g = refl
flags_are f c (b ∷ hs) g = ap (λ (d : Bool). d ∷ hs) (first_is f c b hs g) ∙ ap (λ (xs : List Bool). f c ∷ xs) (flags_are f (c + 1) hs (shifted f c b hs g))
