-- Classes that come to a place of a list, leave it, or go from one to another.
use Rattle.std.proofs.Common.{◌≡◌, ◌<◌, ◌≤◌, ◌+◌, ◌-◌, ◌⊎◌, inl, inr, ℕ, Bool, true, false, List, length, refl, sym, ap, arith, get_or, ◌∙◌}
use Rattle.std.specs.Prelude.{◌==◌, Option, slice_set, if◌then◌else◌}
use Rattle.std.specs.List.{CopiedTo, SameBelow, SameFrom, insert, remove}
use Rattle.std.proofs.lemmas.Bool.{cases_lt}
use Rattle.std.proofs.lemmas.List.{get_or-set_other, get_or-set_same, get_or_default, length-set, same_lists}
use Rattle.std.proofs.lemmas.List.Edits.{get_or-insert_above, get_or-insert_at, get_or-insert_below, get_or-remove_above, get_or-remove_below, length-insert, length-remove}
use Rattle.ranking.specs.Order.{is_before, is_in, is_ranked, with_class, without}
use Rattle.ranking.specs.Search.{IsFound}
use Rattle.ranking.specs.declared.Ranking.{Ranking}
use Rattle.ranking.specs.Ranking.{keys_of, order_of}
use Rattle.ranking.proofs.Kept.{found_in, put_before, take_ranked}
use Rattle.ranking.proofs.Placed.{IsTakenAt, put_found, taken_found}
use Rattle.ranking.proofs.Ranks.{ranked_true, same_test, with_in, without_in}
use Rattle.ranking.proofs.Searched.{found_above, found_all}

-- a class that leaves a list is not in it
pub gone : (keys : List (Option ℕ)) (order : List ℕ) (c : ℕ) → is_ranked keys order ≡ true → is_in c (without order c) ≡ false
gone keys order c r = without_in keys order c c (ranked_true keys order r) ∙ rw (same_test c) refl

-- the others stay in order, whatever its key
pub others_ranked : (keys : List (Option ℕ)) (order : List ℕ) (c : ℕ) (k : Option ℕ) → is_ranked keys order ≡ true → is_ranked (slice_set keys c k) (without order c) ≡ true
others_ranked keys order c k r = put_before keys (without order c) c k (gone keys order c r) (take_ranked keys order (without order c) c refl r)

-- and it stands among them
pub moved_in : (keys new : List (Option ℕ)) (order : List ℕ) (c d : ℕ) → is_ranked keys order ≡ true
    → is_in d (with_class new (without order c) c) ≡ (if c == d then true else is_in d order)
moved_in keys new order c d r =
    with_in new (without order c) c d ∙ ap (λ b. if c == d then true else b) (without_in keys order c d (ranked_true keys order r)) ∙ go (c == d)
  where
    go : (b : Bool) → (if b then true else (if b then false else is_in d order)) ≡ (if b then true else is_in d order)
    go true = refl
    go false = refl

-- a list that is written at p is another where each place but p agrees
at_each : (xs ys : List ℕ) (p c : ℕ) → p < length xs → length xs ≡ length ys → get_or ys p c ≡ c
    → ((k d : ℕ) → k < p → get_or xs k d ≡ get_or ys k d) → ((k d : ℕ) → p < k → k < length xs → get_or xs k d ≡ get_or ys k d) → slice_set xs p c ≡ ys
at_each xs ys p c low same here below above =
    same_lists (slice_set xs p c) ys (length-set xs p c ∙ same) (λ k d h. go k d (let l = length-set xs p c in omega (arith, l, h)) (cases_lt k p))
  where
    behind : (k d : ℕ) → k < length xs → (p < k) ⊎ (k ≤ p) → p ≤ k → get_or (slice_set xs p c) k d ≡ get_or ys k d
    behind k d h (inl a) b = get_or-set_other xs p k c d (λ e. omega (arith, e, a)) ∙ above k d a h
    behind k d h (inr a) b =
        let e : k ≡ p = omega (arith, a, b) in
        ap (λ n. get_or (slice_set xs p c) n d) e ∙ get_or-set_same xs p c d low ∙ sym here
        ∙ get_or_default ys p c d (omega (arith, same, low)) ∙ ap (λ n. get_or ys n d) (sym e)

    go : (k d : ℕ) → k < length xs → (k < p) ⊎ (p ≤ k) → get_or (slice_set xs p c) k d ≡ get_or ys k d
    go k d h (inl a) = get_or-set_other xs p k c d (λ e. omega (arith, e, a)) ∙ below k d a
    go k d h (inr a) = behind k d h (cases_lt p k) a

-- the length of a list where one comes and one goes
moved_length : (xs : List ℕ) (from to c : ℕ) → from < length xs → to < length xs → length (insert (remove xs from) to c) ≡ length xs
moved_length xs from to c f t =
    let less = length-remove xs from f in
    let more = length-insert (remove xs from) to c (omega (arith, less, t)) in
    omega (arith, less, more)

-- what stands behind the new place
behind_moved : (xs : List ℕ) (from to c k d : ℕ) → from < length xs → to < length xs → to < k → get_or (insert (remove xs from) to c) k d ≡ get_or (remove xs from) (k - 1) d
behind_moved xs from to c k d f t a =
    let less = length-remove xs from f in
    let next : (k - 1) + 1 ≡ k = omega (arith, a) in
    ap (λ n. get_or (insert (remove xs from) to c) n d) (sym next)
    ∙ get_or-insert_above (remove xs from) to c d (k - 1) (omega (arith, a)) (omega (arith, less, t))

-- before the new place, and at it
before_moved : (xs : List ℕ) (from to c k d : ℕ) → from < length xs → to < length xs → k < to → get_or (insert (remove xs from) to c) k d ≡ get_or (remove xs from) k d
before_moved xs from to c k d f t a = let less = length-remove xs from f in get_or-insert_below (remove xs from) to c d k a (omega (arith, less, t))

at_moved : (xs : List ℕ) (from to c : ℕ) → from < length xs → to < length xs → get_or (insert (remove xs from) to c) to c ≡ c
at_moved xs from to c f t = let less = length-remove xs from f in get_or-insert_at (remove xs from) to c c (omega (arith, less, t))

pub moved_up : (xs ys : List ℕ) (from to c : ℕ) → from < to → to < length xs → length ys ≡ length xs → SameBelow xs ys from
    → CopiedTo xs ys (from + 1) from (to + 1 - (from + 1)) → SameFrom xs ys (from + (to + 1 - (from + 1))) → slice_set ys to c ≡ insert (remove xs from) to c
moved_up xs ys from to c h t long below copied above =
    at_each ys (insert (remove xs from) to c) to c (omega (arith, t, long)) (long ∙ sym (moved_length xs from to c f t)) (at_moved xs from to c f t)
    (λ k d a. go k d a (cases_lt k from) ∙ sym (before_moved xs from to c k d f t a))
    (λ k d a l.
    let next : (k - 1) + 1 ≡ k = omega (arith, a) in
    above k d (omega (arith, a, h)) ∙ ap (λ n. get_or xs n d) (sym next)
    ∙ sym (behind_moved xs from to c k d f t a ∙ get_or-remove_above xs from d (k - 1) (omega (arith, a, h)) f))
  where
    f : from < length xs
    f = omega (arith, h, t)

    go : (k d : ℕ) → k < to → (k < from) ⊎ (from ≤ k) → get_or ys k d ≡ get_or (remove xs from) k d
    go k d a (inl b) = below k d b ∙ sym (get_or-remove_below xs from d k b f)
    go k d a (inr b) =
        let next : from + 1 + (k - from) ≡ k + 1 = omega (arith, b) in
        copied k d b (omega (arith, a, b, h)) ∙ ap (λ n. get_or xs n d) next ∙ sym (get_or-remove_above xs from d k b f)

pub moved_down : (xs ys : List ℕ) (from to c : ℕ) → to ≤ from → from < length xs → length ys ≡ length xs → SameBelow xs ys (to + 1)
    → CopiedTo xs ys to (to + 1) (from - to) → SameFrom xs ys (to + 1 + (from - to)) → slice_set ys to c ≡ insert (remove xs from) to c
moved_down xs ys from to c h f long below copied above =
    at_each ys (insert (remove xs from) to c) to c (omega (arith, h, f, long)) (long ∙ sym (moved_length xs from to c f t)) (at_moved xs from to c f t)
    (λ k d a. below k d (omega (arith, a)) ∙ sym (before_moved xs from to c k d f t a ∙ get_or-remove_below xs from d k (omega (arith, a, h)) f))
    (λ k d a l. go k d a (cases_lt from k) ∙ sym (behind_moved xs from to c k d f t a))
  where
    t : to < length xs
    t = omega (arith, h, f)

    go : (k d : ℕ) → to < k → (from < k) ⊎ (k ≤ from) → get_or ys k d ≡ get_or (remove xs from) (k - 1) d
    go k d a (inl b) =
        let next : (k - 1) + 1 ≡ k = omega (arith, a) in
        above k d (omega (arith, b, h)) ∙ ap (λ n. get_or xs n d) (sym next) ∙ sym (get_or-remove_above xs from d (k - 1) (omega (arith, b)) f)
    go k d a (inr b) =
        let back : to + (k - (to + 1)) ≡ k - 1 = omega (arith, a) in
        copied k d (omega (arith, a)) (omega (arith, a, b)) ∙ ap (λ n. get_or xs n d) back ∙ sym (get_or-remove_below xs from d (k - 1) (omega (arith, a, b)) f)

-- where a search among the others begins
pub found_beside : (keys : List (Option ℕ)) (order : List ℕ) (c from : ℕ) → from < length order → (from ≡ 0 → ⊥) → is_ranked keys (remove order from) ≡ true
    → is_before keys (get_or order (from - 1) 0) c ≡ true → IsFound keys (remove order from) c from (length order - 1)
found_beside keys order c from low some r e =
    let less = length-remove order from low in
    let f = found_above keys (remove order from) c 0 (from - 1) (length (remove order from)) (ranked_true keys (remove order from) r) (found_all keys (remove order from) c)
    (omega (arith, less, low, some)) (ap (λ n. is_before keys n c) (get_or-remove_below order from 0 (from - 1) (omega (arith, some)) low) ∙ e) in
    record {
      in_order = omega (arith, low);
      within = omega (arith, less);
      before = λ k a. f.before k (omega (arith, a));
      from = λ k a b. absurd (omega (arith, a, b, less));
    }

pub found_any : (keys : List (Option ℕ)) (order : List ℕ) (c from : ℕ) → from < length order → IsFound keys (remove order from) c 0 (length order - 1)
found_any keys order c from low =
    let less = length-remove order from low in
    record { in_order = omega arith; within = omega (arith, less); before = λ k a. absurd (omega (arith, a)); from = λ k a b. absurd (omega (arith, a, b, less)) }

-- a class that is there is found at a place, and gets a key
pub record Shifts (r : Ranking) (c from : ℕ) (key : Option ℕ) : Type 0 where
  pub low : c < length (keys_of r)
  pub there : is_in c (order_of r) ≡ true
  pub found : IsFound (keys_of r) (order_of r) c from from

pub shift_taken : (r : Ranking) (c from : ℕ) (key : Option ℕ) → Shifts r c from key → IsTakenAt (order_of r) c from
shift_taken r c from key s = taken_found (keys_of r) (order_of r) c from (ranked_true (keys_of r) (order_of r) r.ranked) s.there s.found

pub shift_found : (r : Ranking) (c from to : ℕ) (key : Option ℕ) (seen_keys : List (Option ℕ)) (seen : List ℕ) → Shifts r c from key
    → seen_keys ≡ slice_set (keys_of r) c key → seen ≡ order_of r → IsFound seen_keys (remove seen from) c to to
    → IsFound (slice_set (keys_of r) c key) (without (order_of r) c) c to to
shift_found r c from to key seen_keys seen s e f found =
    found_in (slice_set (keys_of r) c key) seen_keys (without (order_of r) c) (remove seen from) c to e
    (ap (λ (xs : List ℕ). remove xs from) f ∙ (shift_taken r c from key s).rest) found

pub shift_within : (r : Ranking) (c from to : ℕ) (key : Option ℕ) → Shifts r c from key
    → IsFound (slice_set (keys_of r) c key) (without (order_of r) c) c to to → to < length (order_of r)
shift_within r c from to key s found =
    let taken = shift_taken r c from key s in
    let there = taken.there in
    let less = length-remove (order_of r) from there in
    let same = ap (λ (xs : List ℕ). length xs) taken.rest in
    let within = found.within in
    omega (arith, less, same, within)

pub shifted : (r : Ranking) (c from to : ℕ) (key : Option ℕ) (seen_keys : List (Option ℕ)) (seen new : List ℕ) → Shifts r c from key
    → seen_keys ≡ slice_set (keys_of r) c key → seen ≡ order_of r → IsFound seen_keys (remove seen from) c to to
    → new ≡ insert (remove (order_of r) from) to c → new ≡ with_class (slice_set (keys_of r) c key) (without (order_of r) c) c
shifted r c from to key seen_keys seen new s e f found i =
    i ∙ ap (λ (xs : List ℕ). insert xs to c) (shift_taken r c from key s).rest
    ∙ put_found (slice_set (keys_of r) c key) (without (order_of r) c) c to (shift_found r c from to key seen_keys seen s e f found)

-- a class that stays at its place moves no other
pub moved_nowhere : (xs : List ℕ) (from to c : ℕ) → to ≤ from → from ≤ to → from < length xs → slice_set xs to c ≡ insert (remove xs from) to c
moved_nowhere xs from to c h k f = moved_down xs xs from to c h f refl (λ i d a. refl) (λ i d a b. absurd (omega (arith, a, b, h, k))) (λ i d a. refl)
