-- What a look at the middle adds to a search.
use Rattle.std.proofs.Common.{◌≡◌, ◌<◌, ◌≤◌, ◌+◌, ◌⊎◌, inl, inr, ℕ, Bool, true, false, List, length, refl, sym, ap, subst, arith, get_or, ◌∙◌}
use Rattle.std.specs.Prelude.{Option, if◌then◌else◌}
use Rattle.std.proofs.lemmas.Bool.{cases_lt}
use Rattle.hfsc_model.specs.RealTime.{goes_first}
use Rattle.ranking.specs.Order.{is_before, is_ranked, key_of}
use Rattle.ranking.specs.Search.{IsFound, IsRanked}
use Rattle.ranking.proofs.Ordered.{before_trans, goes_not, in_order}
use Rattle.ranking.proofs.Ranks.{ranked_true}

pub found_above : (keys : List (Option ℕ)) (xs : List ℕ) (c low mid high : ℕ) → IsRanked keys xs → IsFound keys xs c low high
    → mid < high → is_before keys (get_or xs mid 0) c ≡ true → IsFound keys xs c (mid + 1) high
found_above keys xs c low mid high r found h e = record {
  in_order = omega arith;
  within = found.within;
  before = λ k a. go k (cases_lt k mid) a;
  from = found.from;
}
  where
    go : (k : ℕ) → (k < mid) ⊎ (mid ≤ k) → k < mid + 1 → is_before keys (get_or xs k 0) c ≡ true
    go k (inl a) b =
        before_trans keys (get_or xs k 0) (get_or xs mid 0) c (in_order keys xs k mid r a (let w : high ≤ length xs = found.within in omega arith)) e
    go k (inr a) b = let same : k ≡ mid = omega arith in ap (λ n. is_before keys (get_or xs n 0) c) same ∙ e

pub found_below : (keys : List (Option ℕ)) (xs : List ℕ) (c low mid high : ℕ) → IsRanked keys xs → IsFound keys xs c low high
    → low ≤ mid → mid < high → is_before keys (get_or xs mid 0) c ≡ false → IsFound keys xs c low mid
found_below keys xs c low mid high r found l h e = record {
  in_order = l;
  within = let w : high ≤ length xs = found.within in omega arith;
  before = found.before;
  from = λ k a b. go k (cases_lt mid k) a b;
}
  where
    no : (b : Bool) (k : ℕ) → is_before keys (get_or xs k 0) c ≡ b → mid < k → k < length xs → b ≡ false
    no false k f a s = refl
    no true k f a s =
        let yes : is_before keys (get_or xs mid 0) c ≡ true = before_trans keys (get_or xs mid 0) (get_or xs k 0) c (in_order keys xs mid k r a s) f in
        sym yes ∙ e

    go : (k : ℕ) → (mid < k) ⊎ (k ≤ mid) → mid ≤ k → k < length xs → is_before keys (get_or xs k 0) c ≡ false
    go k (inl a) b s = no (is_before keys (get_or xs k 0) c) k refl a s
    go k (inr a) b s = let same : k ≡ mid = omega arith in ap (λ n. is_before keys (get_or xs n 0) c) same ∙ e

-- both together, of a look that answered
pub found_half : (keys : List (Option ℕ)) (xs : List ℕ) (c low mid high newlow newhigh : ℕ) (b : Bool) → IsRanked keys xs → IsFound keys xs c low high
    → low ≤ mid → mid < high → is_before keys (get_or xs mid 0) c ≡ b → newlow ≡ (if b then mid + 1 else low) → newhigh ≡ (if b then high else mid)
    → IsFound keys xs c newlow newhigh
found_half keys xs c low mid high newlow newhigh b r found l h e f g =
    subst (λ n. IsFound keys xs c newlow n) (sym g) (subst (λ n. IsFound keys xs c n (if b then high else mid)) (sym f) (go b e))
  where
    go : (v : Bool) → is_before keys (get_or xs mid 0) c ≡ v → IsFound keys xs c (if v then mid + 1 else low) (if v then high else mid)
    go true e = found_above keys xs c low mid high r found h e
    go false e = found_below keys xs c low mid high r found l h e

-- what a look at a class tells
pub tested : (keys : List (Option ℕ)) (xs : List ℕ) (c mid other : ℕ) (k key : Option ℕ) (r : Bool) → other ≡ get_or xs mid 0 → k ≡ key_of keys other
    → key ≡ key_of keys c → r ≡ goes_first k other key c → is_before keys (get_or xs mid 0) c ≡ r
tested keys xs c mid other k key r e f g h =
    ap (λ n. is_before keys n c) (sym e) ∙ ap (λ (o : Option ℕ). goes_first o other (key_of keys c) c) (sym f)
    ∙ ap (λ (o : Option ℕ). goes_first k other o c) (sym g) ∙ sym h

-- before a look
pub found_all : (keys : List (Option ℕ)) (xs : List ℕ) (c : ℕ) → IsFound keys xs c 0 (length xs)
found_all keys xs c = record {
  in_order = omega arith;
  within = omega arith;
  before = λ k a. absurd (omega arith);
  from = λ k a b. absurd (omega arith);
}

-- where a class stands
pub found_there : (keys : List (Option ℕ)) (xs : List ℕ) (c k : ℕ) → is_ranked keys xs ≡ true → k < length xs → get_or xs k 0 ≡ c → IsFound keys xs c k k
found_there keys xs c k r h e = record {
  in_order = omega arith;
  within = omega arith;
  before = λ j a. ap (λ n. is_before keys (get_or xs j 0) n) (sym e) ∙ in_order keys xs j k (ranked_true keys xs r) a h;
  from = (found_below keys xs c 0 k (length xs) (ranked_true keys xs r) (found_all keys xs c) (omega arith) h
      (ap (λ n. is_before keys n c) e ∙ goes_not (key_of keys c) c)).from;
}
