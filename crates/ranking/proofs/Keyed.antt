-- The keys of classes from a first one on.
use Rattle.std.proofs.Common.{◌≡◌, ◌≤◌, ◌<◌, ◌+◌, ◌-◌, ℕ, zero, suc, List, ◌∷◌, None, length, refl, ap, arith, ◌∙◌}
use Rattle.std.specs.Prelude.{Option, replicate, slice_set}
use Rattle.ranking.specs.Order.{key_of}
use Rattle.ranking.specs.Keys.{AreSame, keys_from}
use Rattle.ranking.specs.declared.keys.Keys.{Keys}

pub keys_length : (n : ℕ) (ks : List (Option ℕ)) → length (keys_from n ks) ≡ n + length ks
keys_length zero ks = omega arith
keys_length (suc n) ks = let rest = keys_length n ks in omega (arith, rest)

key_past : (n c : ℕ) (ks : List (Option ℕ)) → key_of (keys_from n ks) (n + c) ≡ key_of ks c
key_past zero c ks = let e : 0 + c ≡ c = omega arith in ap (λ m. key_of ks m) e
key_past (suc n) c ks = let e : suc n + c ≡ suc (n + c) = omega arith in ap (λ m. key_of (None ∷ keys_from n ks) m) e ∙ key_past n c ks

pub key_before : (n c : ℕ) (ks : List (Option ℕ)) → c < n → key_of (keys_from n ks) c ≡ None
key_before zero c ks h = absurd (omega arith)
key_before (suc n) zero ks h = refl
key_before (suc n) (suc c) ks h = key_before n c ks (omega arith)

pub key_from : (n c : ℕ) (ks : List (Option ℕ)) → n ≤ c → key_of (keys_from n ks) c ≡ key_of ks (c - n)
key_from n c ks h = let e : c ≡ n + (c - n) = omega arith in ap (λ m. key_of (keys_from n ks) m) e ∙ key_past n (c - n) ks

set_past : (n c : ℕ) (k : Option ℕ) (ks : List (Option ℕ)) → keys_from n (slice_set ks c k) ≡ slice_set (keys_from n ks) (n + c) k
set_past zero c k ks = let e : c ≡ 0 + c = omega arith in ap (λ m. slice_set ks m k) e
set_past (suc n) c k ks =
    let e : suc (n + c) ≡ suc n + c = omega arith in
    ap (λ (l : List (Option ℕ)). None ∷ l) (set_past n c k ks) ∙ ap (λ m. slice_set (None ∷ keys_from n ks) m k) e

pub set_from : (n c : ℕ) (k : Option ℕ) (ks : List (Option ℕ)) → n ≤ c → keys_from n (slice_set ks (c - n) k) ≡ slice_set (keys_from n ks) c k
set_from n c k ks h = let e : n + (c - n) ≡ c = omega arith in set_past n (c - n) k ks ∙ ap (λ m. slice_set (keys_from n ks) m k) e

key_replicated : (n i : ℕ) (k : Option ℕ) → i < n → key_of (replicate n k) i ≡ k
key_replicated zero i k h = absurd (omega (arith, h))
key_replicated (suc n) zero k h = refl
key_replicated (suc n) (suc i) k h = key_replicated n i k (omega (arith, h))

length_replicated : (n : ℕ) (k : Option ℕ) → length (replicate n k) ≡ n
length_replicated zero k = refl
length_replicated (suc n) k = let rest = length_replicated n k in omega (arith, rest)

-- one key for all
pub same_keys : (keys : Keys) (first classes : ℕ) (key : Option ℕ) → keys.first ≡ first → keys.items.items ≡ replicate classes key → AreSame first classes key keys
same_keys keys first classes key e f = record {
  first_is = e;
  count = keys_length keys.first keys.items.items
      ∙ (let count = ap (λ (ks : List (Option ℕ)). length ks) f ∙ length_replicated classes key in omega (arith, count, e));
  keys = λ c from below.
      let past : c - keys.first < classes = omega (arith, from, below, e) in
      key_from keys.first c keys.items.items (omega (arith, from, e)) ∙ ap (λ (ks : List (Option ℕ)). key_of ks (c - keys.first)) f ∙ key_replicated classes (c - keys.first) key past;
}
