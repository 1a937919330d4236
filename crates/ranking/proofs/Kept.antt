-- What a ranking keeps where a class is put in or taken out.
use Rattle.std.proofs.Common.{◌≡◌, ◌<◌, ℕ, Bool, true, false, List, [], ◌∷◌, ◌++◌, None, ◌-◌, length, take, refl, sym, ap, subst, arith, ◌∙◌}
use Rattle.std.specs.Prelude.{◌==◌, Option, slice_set, if◌then◌else◌}
use Rattle.std.specs.List.{insert}
use Rattle.std.proofs.lemmas.List.{length-set, get_or-set_other}
use Rattle.ranking.specs.Order.{is_ranked, are_below, is_in, with_class, without}
use Rattle.ranking.specs.Search.{IsFound}
use Rattle.ranking.proofs.Placed.{put_found}
use Rattle.ranking.proofs.Ranks.{ranked_true, true_ranked, below_true, true_below, rekeyed, with_ranked, with_below, without_ranked, without_below, has_room}

-- a search over copies of the lists is one over the lists
pub found_in : (keys seen_keys : List (Option ℕ)) (order seen : List ℕ) (c k : ℕ) → seen_keys ≡ keys → seen ≡ order → IsFound seen_keys seen c k k → IsFound keys order c k k
found_in keys seen_keys order seen c k e f found =
    subst (λ (xs : List ℕ). IsFound keys xs c k k) f (subst (λ (ks : List (Option ℕ)). IsFound ks seen c k k) e found)

pub take_ranked : (keys : List (Option ℕ)) (order new : List ℕ) (c : ℕ) → new ≡ without order c → is_ranked keys order ≡ true → is_ranked keys new ≡ true
take_ranked keys order new c e r = ap (λ (xs : List ℕ). is_ranked keys xs) e ∙ true_ranked keys (without order c) (without_ranked keys order c (ranked_true keys order r))

pub take_below : (n : ℕ) (order new : List ℕ) (c : ℕ) → new ≡ without order c → are_below n order ≡ true → are_below n new ≡ true
take_below n order new c e r = ap (λ (xs : List ℕ). are_below n xs) e ∙ true_below n (without order c) (without_below n order c (below_true n order r))

-- the new key of a class that is not there changes no order
other : (d c : ℕ) (order : List ℕ) → is_in d order ≡ true → is_in c order ≡ false → d ≡ c → ⊥
other d c order i j e = let same : is_in d order ≡ is_in c order = ap (λ n. is_in n order) e in cc

pub put_before : (keys : List (Option ℕ)) (order : List ℕ) (c : ℕ) (k : Option ℕ) → is_in c order ≡ false → is_ranked keys order ≡ true
    → is_ranked (slice_set keys c k) order ≡ true
put_before keys order c k i r =
    true_ranked (slice_set keys c k) order
    (rekeyed keys (slice_set keys c k) order (λ d j. get_or-set_other keys c d k None (other d c order j i)) (ranked_true keys order r))

pub put_in : (keys seen_keys : List (Option ℕ)) (order seen : List ℕ) (c p : ℕ)
    → seen_keys ≡ keys → seen ≡ order → IsFound seen_keys seen c p p → insert order p c ≡ with_class keys order c
put_in keys seen_keys order seen c p e f found = put_found keys order c p (found_in keys seen_keys order seen c p e f found)

pub put_ranked : (keys after : List (Option ℕ)) (order new : List ℕ) (c : ℕ) (k : Option ℕ) → after ≡ slice_set keys c k
    → new ≡ with_class (slice_set keys c k) order c → is_in c order ≡ false → is_ranked keys order ≡ true → is_ranked after new ≡ true
put_ranked keys after order new c k set e i r =
    ap (λ (ks : List (Option ℕ)). is_ranked ks new) set ∙ ap (λ (xs : List ℕ). is_ranked (slice_set keys c k) xs) e
    ∙ true_ranked (slice_set keys c k) (with_class (slice_set keys c k) order c)
    (with_ranked (slice_set keys c k) order c (ranked_true (slice_set keys c k) order (put_before keys order c k i r)) i)

pub put_below : (keys after : List (Option ℕ)) (order new : List ℕ) (c : ℕ) (k : Option ℕ) → after ≡ slice_set keys c k
    → new ≡ with_class (slice_set keys c k) order c → c < length keys → are_below (length keys) order ≡ true → are_below (length after) new ≡ true
put_below keys after order new c k set e h b =
    ap (λ (ks : List (Option ℕ)). are_below (length ks) new) set ∙ ap (λ (xs : List ℕ). are_below (length (slice_set keys c k)) xs) e
    ∙ ap (λ n. are_below n (with_class (slice_set keys c k) order c)) (length-set keys c k)
    ∙ true_below (length keys) (with_class (slice_set keys c k) order c) (with_below (slice_set keys c k) (length keys) order c h (below_true (length keys) order b))

pub put_room : (keys : List (Option ℕ)) (order : List ℕ) (c : ℕ) → is_ranked keys order ≡ true → are_below (length keys) order ≡ true
    → c < length keys → is_in c order ≡ false → length order < length keys
put_room keys order c r b h i = has_room keys (length keys) order c (ranked_true keys order r) (below_true (length keys) order b) h i

-- nor does a note
pub noted_ranked : (keys after : List (Option ℕ)) (order : List ℕ) (c : ℕ) (k : Option ℕ) → after ≡ slice_set keys c k → is_in c order ≡ false → is_ranked keys order ≡ true
    → is_ranked after order ≡ true
noted_ranked keys after order c k set i r = ap (λ (ks : List (Option ℕ)). is_ranked ks order) set ∙ put_before keys order c k i r

pub set_length : (keys after : List (Option ℕ)) (c : ℕ) (k : Option ℕ) → after ≡ slice_set keys c k → length after ≡ length keys
set_length keys after c k set = ap (λ (ks : List (Option ℕ)). length ks) set ∙ length-set keys c k

pub noted_below : (keys after : List (Option ℕ)) (order : List ℕ) (c : ℕ) (k : Option ℕ) → after ≡ slice_set keys c k → are_below (length keys) order ≡ true → are_below (length after) order ≡ true
noted_below keys after order c k set b = ap (λ n. are_below n order) (set_length keys after c k set) ∙ b

-- a class alone
pub put_first : (keys : List (Option ℕ)) (order new : List ℕ) (c : ℕ) → length order ≡ 0 → new ≡ order ++ c ∷ [] → new ≡ with_class keys order c
put_first keys [] new c h e = e
put_first keys (x ∷ xs) new c h e = absurd (omega arith)

only : (order : List ℕ) (c : ℕ) → length order ≡ 1 → is_in c order ≡ true → without order c ≡ []
only [] c h i = refl
only (x ∷ y ∷ ys) c h i = absurd (omega arith)
only (x ∷ []) c h i = go (x == c) i
  where
    go : (b : Bool) → (if b then true else false) ≡ true → (if b then [] else x ∷ []) ≡ []
    go true e = refl
    go false e = absurd cc

pub take_only : (order new : List ℕ) (c n : ℕ) → length order ≡ 1 → n ≡ 1 → is_in c order ≡ true → new ≡ take (n - 1) order → new ≡ without order c
take_only order new c n h e i t = t ∙ ap (λ k. take (k - 1) order) e ∙ sym (only order c h i)
