use Rattle.std.proofs.Common.{inl, ◌≡◌, ◌+◌, ◌-◌, ◌++◌, arith, length, take, drop, subst, sym, List, ℕ}
use Rattle.std.specs.Prelude.{IsSome}
use Rattle.std.proofs.Math.Seq.{take-add}
use Rattle.std.proofs.lemmas.Grind.{common_steps}
use Rattle.play_base.specs.View.{View, Wrote}
use Rattle.play_base.proofs.ViewLaws.{same_trans, wrote_unchanged, wrote_more_there, still_there}
use Rattle.play_base.proofs.writing.write_all.Goals as goal

step : (i k : ℕ) (s : List ℕ) → take i s ++ take k (take (length s - i) (drop i s)) ≡ take (i + k) s
step i k s = let e : take (length s - i) (drop i s) ≡ drop i s = grind (arith, common_steps) in rw e (sym (take-add i k s))

one_more : (a b c : View) (file i k : ℕ) (s : List ℕ) → IsSome (a.part file) → Wrote a b file (take i s)
    → Wrote b c file (take k (take (length s - i) (drop i s))) → Wrote a c file (take (i + k) s)
one_more a b c file i k s there x y =
    let P : List ℕ → Type 0 = λ ys. Wrote a c file ys in subst P (step i k s) (wrote_more_there a b c file _ _ there x y)

pub returns-in-Err-clause-front : goal.returns-in-Err-clause-front
returns-in-Err-clause-front g c = (c.loop-at.at, wrote_unchanged _ _ _ _ _ c.requires c.loop-at.invariant.wrote c.in-Err.ensures.refused)

pub returns-then-count-eq0-clause-front : goal.returns-then-count-eq0-clause-front
returns-then-count-eq0-clause-front g c =
    (c.loop-at.at + c.in-Ok.count, one_more _ _ _ _ _ _ _ c.requires c.loop-at.invariant.wrote c.in-Ok.ensures.wrote)

pub loop-at-preserved : goal.loop-at-preserved
loop-at-preserved g c = record {
  within = omega (arith, c.in-Ok.ensures.count);
  there = still_there _ _ _ _ _ c.in-Ok.ensures.wrote.keeps c.loop-at.invariant.there;
  wrote = one_more _ _ _ _ _ _ _ c.requires c.loop-at.invariant.wrote c.in-Ok.ensures.wrote;
  counts = same_trans _ _ _ c.loop-at.invariant.counts (c.in-Ok.ensures.counts (inl (omega arith)));
}
