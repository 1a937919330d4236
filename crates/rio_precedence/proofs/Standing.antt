-- What RIO stands for after a packet was offered.
use Rattle.std.proofs.Common.{rules, IsTrue, ◌↔◌, negsuc, ◌≤ℤ◌, ◌^◌, FitsSigned, w64, ◌≡◌, ◌≢◌, ◌≤◌, ◌<◌, ◌==◌, ℕ, ℤ, pos, Bool, true, false, List, ◌∷◌, length, slice_index, slice_index_or, slice_set, refl, sym, ap, subst, ◌∙◌, arith, ◌⊎◌, inl, inr}
use Rattle.std.proofs.Common.{get_or-set_same, get_or-set_other}
use Rattle.std.proofs.lemmas.Bool.{cases_eq}
use Rattle.std.proofs.lemmas.Bool.Decides.{nat_tests}
use Rattle.std.proofs.lemmas.List.{length-set}
use Rattle.std.specs.Prelude.{if◌then◌else◌}
use Rattle.altq_model.specs.History.{Answer, DrawnWords}
use Rattle.leaf_queue.specs.declared.rule.Waiting.{Waiting}
use Rattle.leaf_queue.specs.Queue.{QueueEvent, Enqueued}
use Rattle.rio_precedence.specs.declared.rio.Rio.{Rio}
use Rattle.rio_precedence.specs.Rio.{Represents, average_after, average_of, count_of, idle_of, ruling_at}

-- a fact of each number of a list, after one of them was replaced
each_by : (P : ℤ → Type 0) (xs : List ℤ) (p i : ℕ) (z : ℤ) → (i ≡ p) ⊎ (i ≢ p) → ((k : ℕ) → k < length xs → P (slice_index_or xs k (pos 0)))
    → P z → i < length xs → P (slice_index_or (slice_set xs p z) i (pos 0))
each_by P xs p i z (inl e) all new h =
    let there : p < length xs = subst (λ k. k < length xs) e h in
    let Q : ℕ → Type 0 = λ k. P (slice_index_or (slice_set xs p z) k (pos 0)) in
    subst Q (sym e) (subst P (sym (get_or-set_same xs p z (pos 0) there)) new)
each_by P xs p i z (inr n) all new h = subst P (sym (get_or-set_other xs p i z (pos 0) n)) (all i h)

pub each_set : (P : ℤ → Type 0) (xs : List ℤ) (p i : ℕ) (z : ℤ) → ((k : ℕ) → k < length xs → P (slice_index_or xs k (pos 0))) → P z
    → i < length (slice_set xs p z) → P (slice_index_or (slice_set xs p z) i (pos 0))
each_set P xs p i z all new h = each_by P xs p i z (cases_eq i p) all new (omega (arith, h, length-set xs p z))

-- the count at a place after one of them was replaced
count_by : (xs : List ℤ) (p j : ℕ) (z old : ℤ) (b : Bool) → (j == p) ≡ b → p < length xs → slice_index_or xs j (pos 0) ≡ old
    → slice_index_or (slice_set xs p z) j (pos 0) ≡ (if b then z else old)
count_by xs p j z old true e there was =
    let same : j ≡ p = grind (arith, nat_tests) in
    ap (λ k. slice_index_or (slice_set xs p z) k (pos 0)) same ∙ get_or-set_same xs p z (pos 0) there
count_by xs p j z old false e there was =
    let other : j ≢ p = grind (arith, nat_tests) in
    get_or-set_other xs p j z (pos 0) other ∙ was

-- RIO's numbers after an offer: its averages moved, and the count of the packet's precedence as the ruling leaves it
offered : (r : Rio) (moved : List ℕ) (q : List QueueEvent) (now : ℕ) (waiting : Waiting) (prec : ℕ) (w : DrawnWords) (v : Answer)
    → Represents r.step r.limit r.average r.count r.idle q → prec ≤ 2 → length r.count ≡ 3
    → ((j : ℕ) → j ≤ 2 → slice_index moved j ≡ average_after r.step j prec now waiting (slice_index r.idle j) (slice_index r.average j))
    → Represents r.step r.limit moved
    (slice_set r.count prec (ruling_at r.limit prec (slice_index moved prec) (slice_index_or r.count prec (pos 0)) waiting w).ruling.count) r.idle
    (Enqueued now waiting prec w v ∷ q)
offered r moved q now waiting prec w v s small three moves =
    let step : ℕ = r.step in
    let limit : ℕ = r.limit in
    let average : (j : ℕ) → j ≤ 2 → slice_index moved j ≡ average_after step j prec now waiting (idle_of j q) (average_of step j q) =
    λ j h. moves j h ∙ ap (λ x. average_after step j prec now waiting x (slice_index r.average j)) (s.idle j h)
    ∙ ap (λ y. average_after step j prec now waiting (idle_of j q) y) (s.average j h) in
    let ruling : (ruling_at limit prec (slice_index moved prec) (slice_index_or r.count prec (pos 0)) waiting w).ruling.count
    ≡ (ruling_at limit prec (average_after step prec prec now waiting (idle_of prec q) (average_of step prec q)) (count_of step limit prec q) waiting w).ruling.count =
    ap (λ x. (ruling_at limit prec x (slice_index_or r.count prec (pos 0)) waiting w).ruling.count) (average prec small)
    ∙ ap (λ y. (ruling_at limit prec (average_after step prec prec now waiting (idle_of prec q) (average_of step prec q)) y waiting w).ruling.count) (s.count prec small) in
    record {
      average = average;
      count = λ j h. ap (λ z. slice_index_or (slice_set r.count prec z) j (pos 0)) ruling
          ∙ count_by r.count prec j (ruling_at limit prec (average_after step prec prec now waiting (idle_of prec q) (average_of step prec q)) (count_of step limit prec q) waiting w).ruling.count
          (count_of step limit j q) (j == prec) refl (omega arith) (s.count j h);
      idle = s.idle;
    }

-- RIO after an offer stands for the history with that offer
pub stands_after : (old new : Rio) (q : List QueueEvent) (now : ℕ) (waiting : Waiting) (prec : ℕ) (w : DrawnWords) (v : Answer)
    → Represents old.step old.limit old.average old.count old.idle q → prec ≤ 2 → length old.count ≡ 3 → new.step ≡ old.step → new.limit ≡ old.limit
    → ((j : ℕ) → j ≤ 2 → slice_index new.average j ≡ average_after old.step j prec now waiting (slice_index old.idle j) (slice_index old.average j))
    → new.count ≡ slice_set old.count prec (ruling_at old.limit prec (slice_index new.average prec) (slice_index_or old.count prec (pos 0)) waiting w).ruling.count
    → new.idle ≡ old.idle → Represents new.step new.limit new.average new.count new.idle (Enqueued now waiting prec w v ∷ q)
stands_after old new q now waiting prec w v s small three same_step same_limit moves counts idles =
    let q2 : List QueueEvent = Enqueued now waiting prec w v ∷ q in
    let ruled : List ℤ = slice_set old.count prec (ruling_at old.limit prec (slice_index new.average prec) (slice_index_or old.count prec (pos 0)) waiting w).ruling.count in
    let P : ℕ → Type 0 = λ x. Represents x new.limit new.average new.count new.idle q2 in
    let Q : ℕ → Type 0 = λ x. Represents old.step x new.average new.count new.idle q2 in
    let R : List ℤ → Type 0 = λ x. Represents old.step old.limit new.average x new.idle q2 in
    let S : List ℕ → Type 0 = λ x. Represents old.step old.limit new.average ruled x q2 in
    subst P (sym same_step) (subst Q (sym same_limit) (subst R (sym counts) (subst S (sym idles)
    (offered old new.average q now waiting prec w v s small three moves))))

-- what a test of two numbers says
equal_as : (a b : ℕ) → IsTrue (a == b) → a ≡ b
equal_as a b h = grind (arith, nat_tests)

tested_as : (a b : ℕ) → a ≡ b → IsTrue (a == b)
tested_as a b h = grind (arith, nat_tests)

pub full_as : (a b : ℕ) (V : Type 0) → (V ↔ IsTrue (a == b)) → (V ↔ (a ≡ b))
full_as a b V h = (λ v. equal_as a b (h.0 v), λ e. h.1 (tested_as a b e))

-- a count fits 64 bits
pub fits_count : (z : ℤ) → negsuc 0 ≤ℤ z → z ≤ℤ pos (2 ^ 62) → FitsSigned w64 z
fits_count z least most = search rules
