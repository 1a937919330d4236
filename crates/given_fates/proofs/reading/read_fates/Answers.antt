use Rattle.std.proofs.Common.{◌≡◌, ◌++◌, ℕ, List, length, ap, sym, subst, arith}
use Rattle.std.proofs.lemmas.List.{length-append}
use Rattle.play_base.proofs.ViewLaws.{same_trans, still_there, took_more}
use Rattle.given_fates.specs.Fates.{HasFates, IsReadTo}
use Rattle.given_fates.proofs.ReadLemmas.{all_taken, more_read}
use Rattle.given_fates.proofs.reading.read_fates.Goals as goal

pub returns-in-Err-Failed-clause-some : goal.returns-in-Err-Failed-clause-some
returns-in-Err-Failed-clause-some g c =
    let before = c.loop-found.invariant.read in
    let next = c.in-Err-Failed.ensures.some in
    (before.0 ++ next.0, took_more _ _ _ _ before.0 next.0 before.1 next.1)

pub returns-in-Err-NoMemory-clause-some : goal.returns-in-Err-NoMemory-clause-some
returns-in-Err-NoMemory-clause-some g c =
    let before = c.loop-found.invariant.read in
    let next = c.in-Err-NoMemory.ensures.some in
    (before.0 ++ next.0, took_more _ _ _ _ before.0 next.0 before.1 next.1)

pub returns-then-count-passed-clause-some : goal.returns-then-count-passed-clause-some
returns-then-count-passed-clause-some g c =
    let before = c.loop-found.invariant.read in
    let next = c.in-Ok-fill.ensures.some in
    (before.0 ++ next.0, took_more _ _ _ _ before.0 next.0 before.1 next.1)

pub returns-in_default-last_rows-clause-some : goal.returns-in_default-last_rows-clause-some
returns-in_default-last_rows-clause-some g c =
    let before = c.loop-found.invariant.read in
    let next = c.in-Ok-fill.ensures.some in
    (before.0 ++ next.0, took_more _ _ _ _ before.0 next.0 before.1 next.1)

pub returns-then-count-most-clause-some : goal.returns-then-count-most-clause-some
returns-then-count-most-clause-some g c =
    let before = c.loop-found.invariant.read in
    let next = c.in-Ok-fill.ensures.some in
    (before.0 ++ next.0, took_more _ _ _ _ before.0 next.0 before.1 next.1)

pub returns-in_default-take_rows-clause-some : goal.returns-in_default-take_rows-clause-some
returns-in_default-take_rows-clause-some g c =
    let before = c.loop-found.invariant.read in
    let next = c.in-Ok-fill.ensures.some in
    (before.0 ++ next.0, took_more _ _ _ _ before.0 next.0 before.1 next.1)

pub returns-then-count-most-clause-whole : goal.returns-then-count-most-clause-whole
returns-then-count-most-clause-whole g c = λ text left.
    let names = c.args.names.now in
    let before = c.loop-found.invariant.read in
    let next = c.in-Ok-fill.ensures.taken in
    let all = before.0 ++ next.0 in
    let end = c.in-Ok-fill.ensures.whole (omega (arith, c.len-count.ensures, c.if-count-most.true)) in
    let same : text ≡ all = all_taken _ _ _ all text (took_more _ _ _ _ before.0 next.0 before.1 next.1) end left in
    let read = more_read names c.loop-found.found.items c.loop-found.taken before.0 next.0 c.fill.new.self next.2 before.2 in
    subst (λ (t : List ℕ). HasFates names t c.in-Ok-last_rows.fates) (sym same)
    (c.in-Ok-last_rows.ensures all (subst (λ (l : List ℕ). IsReadTo names c.loop-found.found.items l all) (sym c.as_slice.ensures) read))

pub returns-then-count-most-clause-short : goal.returns-then-count-most-clause-short
returns-then-count-most-clause-short g c = λ text left.
    let before = c.loop-found.invariant.read in
    let next = c.in-Ok-fill.ensures.taken in
    let all = before.0 ++ next.0 in
    let end = c.in-Ok-fill.ensures.whole (omega (arith, c.len-count.ensures, c.if-count-most.true)) in
    let same : text ≡ all = all_taken _ _ _ all text (took_more _ _ _ _ before.0 next.0 before.1 next.1) end left in
    omega (arith, ap length same, length-append before.0 next.0, ap length next.2, length-append c.loop-found.taken next.0, before.3, c.len-count.ensures, c.if-count-passed.false, c.loop-found.invariant.most)

pub loop-found-preserved : goal.loop-found-preserved
loop-found-preserved g c =
    let names = c.args.names.now in
    let before = c.loop-found.invariant.read in
    let next = c.in-Ok-fill.ensures.taken in
    let all = before.0 ++ next.0 in
    let read = more_read names c.loop-found.found.items c.loop-found.taken before.0 next.0 c.fill.new.self next.2 before.2 in
    let fewer = c.in-Ok-take_rows.ensures.fewer in
    record {
      there = still_there _ _ _ _ _ next.1.keeps c.loop-found.invariant.there;
      read = (
        all,
        took_more _ _ _ _ before.0 next.0 before.1 next.1,
        c.in-Ok-take_rows.ensures.read all read,
        omega (arith, length-append before.0 next.0, ap length next.2, length-append c.loop-found.taken next.0, before.3, fewer, c.len-count.ensures, c.len.ensures),
      );
      room = omega (arith, c.next_most-most.ensures.more, c.len-in-loop-found.ensures);
      most = omega (arith, c.next_most-most.ensures.few, c.if-count-passed.false, fewer, c.len-count.ensures, c.len.ensures, c.loop-found.invariant.most);
      no_fault = same_trans _ _ _ c.loop-found.invariant.no_fault c.in-Ok-fill.ensures.no_fault;
    }
