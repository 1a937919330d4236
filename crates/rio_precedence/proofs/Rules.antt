-- The counts of RED, of RED that marks and of RIO.
use Rattle.std.proofs.Common.{◌≡◌, ◌≤◌, ◌+◌, ◌-◌, ◌^◌, ◌==◌, ℕ, Bool, true, false, not, ℤ, negsuc, ◌≤ℤ◌, List, [], ◌∷◌, refl, sym, subst, arith}
use Rattle.std.proofs.lemmas.Int.{ints}
use Rattle.std.proofs.lemmas.Bool.Decides.{nat_tests}
use Rattle.std.specs.Prelude.{if◌then◌else◌}
use Rattle.altq_model.specs.declared.Reason.TheVariants.{Full, Early, Forced}
use Rattle.altq_model.specs.declared.Verdict.{Verdict}
use Rattle.altq_model.specs.declared.Verdict.TheVariants.{Keep, Mark, Drop}
use Rattle.altq_model.specs.History.{is_kept, DrawnWords, Answer}
use Rattle.leaf_queue.specs.declared.rule.Waiting.{Waiting}
use Rattle.leaf_queue.specs.Queue.{QueueEvent, Enqueued, Dequeued}
use Rattle.leaf_queue.specs.Words.{word}
use Rattle.red_average.specs.Average.{moved}
use Rattle.red_average.specs.Red.{red_says, thresholds}
use Rattle.red_average.specs.Red as red
use Rattle.rio_precedence.specs.Any.{marking, without_early_drop}
use Rattle.rio_precedence.specs.Precedence.{packets, thresholds_of}
use Rattle.rio_precedence.specs.Rio.{rio_says, average_after, ruling_at}
use Rattle.rio_precedence.specs.Rio as rio
use Rattle.rio_precedence.specs.Sequence.{OneIsTold, any_precedence, is_dropped, is_told, only}
use Rattle.rio_precedence.proofs.Rulings.{Counts, counts, least_count}
use Rattle.rio_precedence.proofs.Counting.{one_is_told}

kept_if : (b : Bool) → not b ≡ false → b ≡ true
kept_if true e = refl
kept_if false e = absurd (cc)

-- what RED keeps, or would mark, was kept
untold_if : (b : Bool) (v : Verdict) → is_told (if b then without_early_drop v else v) ≡ false → is_kept v ≡ true
untold_if b Keep e = refl
untold_if b Mark e = refl
untold_if true (Drop Full) e = absurd (cc)
untold_if true (Drop Early) e = absurd (cc)
untold_if true (Drop Forced) e = absurd (cc)
untold_if false (Drop r) e = absurd (cc)

red_least : (step limit : ℕ) (q : List QueueEvent) → negsuc 0 ≤ℤ red.count_of step limit q
red_least step limit [] = omega (arith, ints)
red_least step limit (Enqueued now waiting prec w v ∷ q) =
    least_count thresholds (waiting.all == limit) (moved step (red.idle_of q) now waiting.all (red.average_of step q))
    (red.count_of step limit q) (word w.seed w.drawn)
red_least step limit (Dequeued now prec waiting ∷ q) = red_least step limit q

red_kept : (step limit x now : ℕ) (waiting : Waiting) (prec : ℕ) (w : DrawnWords) (v : Answer) (q : List QueueEvent) → 1 ≤ x
    → thresholds.low + x ≤ red.average_of step (Enqueued now waiting prec w v ∷ q) → is_kept (red_says step limit q now waiting prec w).verdict ≡ true
    → Counts thresholds (red.count_of step limit q) (red.count_of step limit (Enqueued now waiting prec w v ∷ q)) x
red_kept step limit x now waiting prec w v q some over keeps =
    counts thresholds (waiting.all == limit) (moved step (red.idle_of q) now waiting.all (red.average_of step q))
    (red.count_of step limit q) (word w.seed w.drawn) x some over (omega arith) (red_least step limit q) keeps

pub red_drops : (step limit : ℕ) → OneIsTold any_precedence thresholds (red.average_of step) (red_says step limit) is_dropped
red_drops step limit = one_is_told any_precedence thresholds (red.average_of step) (red.count_of step limit) (red_says step limit) is_dropped
    (record {
      least = red_least step limit;
      gone = λ now prec waiting q. refl;
      other = λ now waiting prec w v q e. absurd (cc);
      kept = λ x now waiting prec w v q seen some over told.
          red_kept step limit x now waiting prec w v q some over (kept_if (is_kept (red_says step limit q now waiting prec w).verdict) told);
    })

pub ecn_tells : (step limit : ℕ) → OneIsTold any_precedence thresholds (red.average_of step) (marking (red_says step limit)) is_told
ecn_tells step limit = one_is_told any_precedence thresholds (red.average_of step) (red.count_of step limit) (marking (red_says step limit)) is_told
    (record {
      least = red_least step limit;
      gone = λ now prec waiting q. refl;
      other = λ now waiting prec w v q e. absurd (cc);
      kept = λ x now waiting prec w v q seen some over told.
          red_kept step limit x now waiting prec w v q some over (untold_if (prec == 1) (red_says step limit q now waiting prec w).verdict told);
    })

-- RIO's rule of the precedence of a packet
abbrev rio_average : (step prec now : ℕ) → Waiting → List QueueEvent → ℕ
rio_average step prec now waiting q = average_after step prec prec now waiting (rio.idle_of prec q) (rio.average_of step prec q)

abbrev rio_count : (step limit prec now : ℕ) → Waiting → DrawnWords → List QueueEvent → ℤ
rio_count step limit prec now waiting w q = (ruling_at limit prec (rio_average step prec now waiting q) (rio.count_of step limit prec q) waiting w).ruling.count

if_count : (b : Bool) (x y : ℤ) → negsuc 0 ≤ℤ x → negsuc 0 ≤ℤ y → negsuc 0 ≤ℤ (if b then x else y)
if_count true x y h k = h
if_count false x y h k = k

rio_least : (step limit j : ℕ) (q : List QueueEvent) → negsuc 0 ≤ℤ rio.count_of step limit j q
rio_least step limit j [] = omega (arith, ints)
rio_least step limit j (Enqueued now waiting prec w v ∷ q) =
    if_count (j == prec) (rio_count step limit prec now waiting w q) (rio.count_of step limit j q)
    (least_count (thresholds_of prec) (waiting.all == limit) (rio_average step prec now waiting q) (rio.count_of step limit prec q) (word w.seed w.drawn))
    (rio_least step limit j q)
rio_least step limit j (Dequeued now prec waiting ∷ q) = rio_least step limit j q

then_of : (b : Bool) (x y : ℤ) → b ≡ true → (if b then x else y) ≡ x
then_of true x y e = refl
then_of false x y e = absurd (cc)

else_of : (b : Bool) (x y : ℤ) → b ≡ false → (if b then x else y) ≡ y
else_of true x y e = absurd (cc)
else_of false x y e = refl

narrow_if : (b c : Bool) → (if b then packets 35 45 else if c then packets 20 30 else packets 5 15).high
    - (if b then packets 35 45 else if c then packets 20 30 else packets 5 15).low ≤ 2 ^ 54
narrow_if true c = omega arith
narrow_if false true = omega arith
narrow_if false false = omega arith

narrow : (j : ℕ) → (thresholds_of j).high - (thresholds_of j).low ≤ 2 ^ 54
narrow j = narrow_if (j == 0) (j == 1)

same_precedence : (j prec : ℕ) → (j == prec) ≡ true → prec ≡ j
same_precedence j prec e = grind (arith, nat_tests)

rio_kept_here : (step limit j x now : ℕ) (waiting : Waiting) (w : DrawnWords) (v : Answer) (q : List QueueEvent) → (j == j) ≡ true → 1 ≤ x
    → (thresholds_of j).low + x ≤ rio.average_of step j (Enqueued now waiting j w v ∷ q) → is_kept (rio_says step limit q now waiting j w).verdict ≡ true
    → Counts (thresholds_of j) (rio.count_of step limit j q) (rio.count_of step limit j (Enqueued now waiting j w v ∷ q)) x
rio_kept_here step limit j x now waiting w v q here some over keeps =
    let moved_count = then_of (j == j) (rio_count step limit j now waiting w q) (rio.count_of step limit j q) here in
    subst (λ z. Counts (thresholds_of j) (rio.count_of step limit j q) z x) (sym moved_count)
    (counts (thresholds_of j) (waiting.all == limit) (rio_average step j now waiting q) (rio.count_of step limit j q) (word w.seed w.drawn) x some over
    (narrow j) (rio_least step limit j q) keeps)

rio_kept : (step limit j x now : ℕ) (waiting : Waiting) (prec : ℕ) (w : DrawnWords) (v : Answer) (q : List QueueEvent) → prec ≡ j
    → (j == prec) ≡ true → 1 ≤ x → (thresholds_of j).low + x ≤ rio.average_of step j (Enqueued now waiting prec w v ∷ q)
    → is_kept (rio_says step limit q now waiting prec w).verdict ≡ true
    → Counts (thresholds_of j) (rio.count_of step limit j q) (rio.count_of step limit j (Enqueued now waiting prec w v ∷ q)) x
rio_kept step limit j x now waiting prec w v q e =
    let P : ℕ → Type 0 = λ p. (j == p) ≡ true → 1 ≤ x → (thresholds_of j).low + x ≤ rio.average_of step j (Enqueued now waiting p w v ∷ q)
    → is_kept (rio_says step limit q now waiting p w).verdict ≡ true
    → Counts (thresholds_of j) (rio.count_of step limit j q) (rio.count_of step limit j (Enqueued now waiting p w v ∷ q)) x in
    subst P (sym e) (rio_kept_here step limit j x now waiting w v q)

pub rio_drops : (step limit j : ℕ) → OneIsTold (only j) (thresholds_of j) (rio.average_of step j) (rio_says step limit) is_dropped
rio_drops step limit j = one_is_told (only j) (thresholds_of j) (rio.average_of step j) (rio.count_of step limit j) (rio_says step limit) is_dropped
    (record {
      least = rio_least step limit j;
      gone = λ now prec waiting q. refl;
      other = λ now waiting prec w v q e. else_of (j == prec) (rio_count step limit prec now waiting w q) (rio.count_of step limit j q) e;
      kept = λ x now waiting prec w v q seen some over told.
          rio_kept step limit j x now waiting prec w v q (same_precedence j prec seen) seen some over
          (kept_if (is_kept (rio_says step limit q now waiting prec w).verdict) told);
    })
