use Rattle.std.proofs.Common.{◌≡◌, ◌++◌, ◌∙◌, ℕ, List, [], ap, sym, arith, take, append_assoc, append-nil}
use Rattle.std.proofs.lemmas.Grind.{common_steps}
use Rattle.play_base.proofs.ViewLaws.{same_trans, still_there, took_more}
use Rattle.input_files.proofs.taken.take_pieces.Goals as goal

pub loop-bytes-preserved : goal.loop-bytes-preserved
loop-bytes-preserved g c =
    let before = c.loop-bytes.invariant.took in
    let next = take c.in-Ok.count c.read.new.into in
    let grown : c.extend_from_slice.new.self.items ≡ c.loop-bytes.bytes.items ++ next = grind (arith, common_steps) in
    record {
      few = grind (arith, common_steps);
      room = grind (arith, common_steps);
      there = still_there _ _ _ _ _ c.in-Ok.ensures.took.keeps c.loop-bytes.invariant.there;
      took = (
        before.0 ++ next,
        took_more _ _ _ _ before.0 next before.1 c.in-Ok.ensures.took,
        grown ∙ ap (λ (r : List ℕ). r ++ next) before.2 ∙ append_assoc _ before.0 next,
      );
      no_fault = same_trans _ _ _ c.loop-bytes.invariant.no_fault c.in-Ok.ensures.counts;
    }

pub returns-then-count-eq0-clause-taken : goal.returns-then-count-eq0-clause-taken
returns-then-count-eq0-clause-taken g c =
    let before = c.loop-bytes.invariant.took in
    let next = take c.in-Ok.count c.read.new.into in
    let none : next ≡ [] = ap (λ (n : ℕ). take n c.read.new.into) c.if-count-eq0.true in (
      before.0 ++ next,
      took_more _ _ _ _ before.0 next before.1 c.in-Ok.ensures.took,
      before.2 ∙ ap (λ (r : List ℕ). c.args.bytes.now.items ++ r) (sym (append-nil before.0) ∙ ap (λ (r : List ℕ). before.0 ++ r) (sym none)),
    )

pub returns-then-is_err-clause-some : goal.returns-then-is_err-clause-some
returns-then-is_err-clause-some g c =
    let before = c.loop-bytes.invariant.took in
    let next = take c.in-Ok.count c.read.new.into in
    (before.0 ++ next, took_more _ _ _ _ before.0 next before.1 c.in-Ok.ensures.took)

pub returns-then-count-eq0-clause-some : goal.returns-then-count-eq0-clause-some
returns-then-count-eq0-clause-some g c =
    let before = c.loop-bytes.invariant.took in
    let next = take c.in-Ok.count c.read.new.into in
    (before.0 ++ next, took_more _ _ _ _ before.0 next before.1 c.in-Ok.ensures.took)
