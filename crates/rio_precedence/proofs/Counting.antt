-- A count of packets that rises with each that is kept, and stays below a bound, ends with a packet that is not.
use Rattle.std.proofs.Common.{◌≡◌, ◌≤◌, ◌<◌, ◌+◌, ◌-◌, ◌*◌, ◌||◌, ◌++◌, ◌⊎◌, inl, inr, ℕ, Bool, true, false, ℤ, pos, negsuc, ◌≤ℤ◌, ◌<ℤ◌, ◌+ℤ◌, ◌*ℤ◌, List, [], ◌∷◌, length, refl, sym, ap, subst, arith}
use Rattle.std.proofs.Math.Nat.{mul-le-mul_left, mul-le-mul_right}
use Rattle.std.proofs.lemmas.Int.{ints}
use Rattle.std.specs.Prelude.{if◌then◌else◌}
use Rattle.std.specs.List.{list_any}
use Rattle.altq_model.specs.History.{DrawnWords, Answer}
use Rattle.altq_model.specs.declared.Verdict.{Verdict}
use Rattle.play_base.specs.Units.{ceil_div}
use Rattle.leaf_queue.specs.declared.rule.Waiting.{Waiting}
use Rattle.leaf_queue.specs.Queue.{QueueEvent, Enqueued, Dequeued, Saying}
use Rattle.red_average.specs.declared.ruling.Thresholds.{Thresholds}
use Rattle.red_average.specs.Ruling.{spacing}
use Rattle.rio_precedence.specs.Sequence.{verdicts, AreAtLeast, OneIsTold, enough}
use Rattle.rio_precedence.proofs.Rulings.{Counts}

-- how the count of a rule moves
pub record Rule (looks : ℕ → Bool) (t : Thresholds) (average : List QueueEvent → ℕ) (count : List QueueEvent → ℤ) (says : Saying)
    (test : Verdict → Bool) : Type 0 where
  pub least : (q : List QueueEvent) → negsuc 0 ≤ℤ count q
  pub gone : (now prec : ℕ) (waiting : Waiting) (q : List QueueEvent) → count (Dequeued now prec waiting ∷ q) ≡ count q
  pub other : (now : ℕ) (waiting : Waiting) (prec : ℕ) (w : DrawnWords) (v : Answer) (q : List QueueEvent) → looks prec ≡ false
      → count (Enqueued now waiting prec w v ∷ q) ≡ count q
  pub kept : (x now : ℕ) (waiting : Waiting) (prec : ℕ) (w : DrawnWords) (v : Answer) (q : List QueueEvent) → looks prec ≡ true → 1 ≤ x
      → t.low + x ≤ average (Enqueued now waiting prec w v ∷ q) → test (says q now waiting prec w).verdict ≡ false
      → Counts t (count q) (count (Enqueued now waiting prec w v ∷ q)) x

-- n packets were kept
record AreKept (t : Thresholds) (x n : ℕ) (c : ℤ) : Type 0 where
  counted : pos n ≤ℤ (c +ℤ pos 1)
  below : 1 ≤ n → (n - 1) * x < spacing (t.high - t.low)

below_by : (s x n : ℕ) (c : ℤ) → pos n ≤ℤ c → (c *ℤ pos x) <ℤ pos s → n * x < s
below_by s x n (pos k) le below =
    let small : n ≤ k = omega (arith, ints, le) in
    let times = mul-le-mul_right x small in
    let product : k * x < s = omega (arith, ints, below) in
    omega (arith, times, product)
below_by s x n (negsuc k) le below = absurd (omega (arith, ints, le))

kept_more : (t : Thresholds) (x n m : ℕ) (c z : ℤ) → m ≡ n + 1 → AreKept t x n c → Counts t c z x → AreKept t x m z
kept_more t x n m c z e h k =
    let le : pos n ≤ℤ z = subst (λ y. pos n ≤ℤ y) (sym k.rises) h.counted in
    let less = below_by (spacing (t.high - t.low)) x n z le k.below in
    let same : (m - 1) * x ≡ n * x = ap (λ k. k * x) (omega arith) in
    record { counted = omega (arith, ints, le, e); below = λ some. omega (arith, less, same) }

-- one was told, or all were kept
abbrev End : (test : Verdict → Bool) → Thresholds → (x : ℕ) → List Verdict → ℤ → Type 0
End test t x vs c = (list_any test vs ≡ true) ⊎ AreKept t x (length vs) c

or_later : (a b : Bool) → b ≡ true → (a || b) ≡ true
or_later true b e = refl
or_later false b e = e

end_more : (test : Verdict → Bool) (t : Thresholds) (x : ℕ) (v : Verdict) (vs : List Verdict) (c z : ℤ) (told : Bool) → test v ≡ told
    → End test t x vs c → (test v ≡ false → Counts t c z x) → End test t x (v ∷ vs) z
end_more test t x v vs c z true e h k = inl (ap (λ b. b || list_any test vs) e)
end_more test t x v vs c z false e (inl told) k = inl (or_later (test v) (list_any test vs) told)
end_more test t x v vs c z false e (inr all) k = inr (kept_more t x (length vs) (length (v ∷ vs)) c z (omega arith) all (k e))

end_if : (test : Verdict → Bool) (t : Thresholds) (x : ℕ) (v : Verdict) (vs : List Verdict) (c z : ℤ) (looks : Bool)
    → End test t x vs c → (looks ≡ true → test v ≡ false → Counts t c z x) → (looks ≡ false → z ≡ c)
    → End test t x (if looks then v ∷ vs else vs) z
end_if test t x v vs c z true h k same = end_more test t x v vs c z (test v) refl h (k refl)
end_if test t x v vs c z false h k same = subst (λ y. End test t x vs y) (sym (same refl)) h

least_kept : (c : ℤ) → negsuc 0 ≤ℤ c → pos 0 ≤ℤ (c +ℤ pos 1)
least_kept c h = omega (arith, ints, h)

walk : (looks : ℕ → Bool) (t : Thresholds) (average : List QueueEvent → ℕ) (count : List QueueEvent → ℤ) (says : Saying)
    (test : Verdict → Bool) → Rule looks t average count says test → (x : ℕ) (new old : List QueueEvent) → 1 ≤ x
    → AreAtLeast looks average (t.low + x) new old → End test t x (verdicts looks says new old) (count (new ++ old))
walk looks t average count says test r x [] old some all = inr (record {
  counted = least_kept (count old) (r.least old);
  below = λ one. absurd (omega (arith, one));
})
walk looks t average count says test r x (Enqueued now waiting prec w v ∷ new) old some all =
    let q = new ++ old in
    end_if test t x (says q now waiting prec w).verdict (verdicts looks says new old) (count q) (count (Enqueued now waiting prec w v ∷ q)) (looks prec)
    (walk looks t average count says test r x new old some all.1)
    (λ seen kept. r.kept x now waiting prec w v q seen some (all.0 seen) kept)
    (λ unseen. r.other now waiting prec w v q unseen)
walk looks t average count says test r x (Dequeued now prec waiting ∷ new) old some all =
    subst (λ y. End test t x (verdicts looks says new old) y) (sym (r.gone now prec waiting (new ++ old)))
    (walk looks t average count says test r x new old some all)

too_many : (s x n : ℕ) → 1 ≤ x → ceil_div s x + 1 ≤ n → (1 ≤ n → (n - 1) * x < s) → ⊥
too_many s x n some many below =
    let round : s ≤ x * ceil_div s x = omega arith in
    let small : ceil_div s x ≤ n - 1 = omega arith in
    let times = mul-le-mul_left x small in
    let less = below (omega arith) in
    omega (arith, round, times, less)

told : (test : Verdict → Bool) (t : Thresholds) (x : ℕ) (vs : List Verdict) (c : ℤ) → 1 ≤ x → enough t x ≤ length vs → End test t x vs c
    → list_any test vs ≡ true
told test t x vs c some many (inl e) = e
told test t x vs c some many (inr all) = absurd (too_many (spacing (t.high - t.low)) x (length vs) some many all.below)

pub one_is_told : (looks : ℕ → Bool) (t : Thresholds) (average : List QueueEvent → ℕ) (count : List QueueEvent → ℤ) (says : Saying)
    (test : Verdict → Bool) → Rule looks t average count says test → OneIsTold looks t average says test
one_is_told looks t average count says test r = λ x new old some all many.
    told test t x (verdicts looks says new old) (count (new ++ old)) some many
    (walk looks t average count says test r x new old some all)
