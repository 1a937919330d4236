-- What was written goes up to a number, and ends with the last.
use Rattle.std.proofs.Common.{◌≡◌, ◌++◌, ℕ, List, [], append-nil, refl, subst, sym, arith}
use Rattle.play_base.specs.View.{Wrote, WroteFront}
use Rattle.play_base.proofs.ViewLaws.{same_trans, still_there, wrote_nothing}
use Rattle.play_chain.specs.Stands.{bound, rows_to}
use Rattle.play_chain.specs.Text.{path_header}
use Rattle.chain_command.proofs.PieceLemmas.{front_some, piece_some, piece_wrote}
use Rattle.chain_command.proofs.paths.write_rows.Goals as goal

pub returns-in-Err-clause-front : goal.returns-in-Err-clause-front
returns-in-Err-clause-front g c =
    let u = g.F.Files.view c.args.files.now in
    front_some [] path_header (rows_to c.args.path.now (bound c.args.path.now)) c.requires.there refl (wrote_nothing u c.args.file)
    (subst (λ (t : List ℕ). WroteFront u (g.F.Files.view c.write_all.new.files) c.args.file t) c.path_header.ensures c.in-Err.ensures.front)

pub loop-from-init : goal.loop-from-init
loop-from-init g c =
    let u = g.F.Files.view c.args.files.now in
    let v = g.F.Files.view c.write_all.new.files in
    record {
      within = omega arith;
      there = still_there _ _ u v c.args.file c.in-Ok.ensures.wrote.keeps c.requires.there;
      wrote = rw (append-nil path_header) (subst (λ (t : List ℕ). Wrote u v c.args.file t) c.path_header.ensures c.in-Ok.ensures.wrote);
      no_fault = c.in-Ok.ensures.counts;
    }

pub returns-in_default-clause-front : goal.returns-in_default-clause-front
returns-in_default-clause-front g c =
    let v = g.F.Files.view c.loop-from.files in
    piece_some (g.F.Files.view c.args.files.now) v v c.args.file c.args.path.now c.loop-from.from c.loop-from.from [] c.requires.there
    (sym (append-nil _)) c.loop-from.invariant.wrote c.loop-from.invariant.within (0, wrote_nothing v c.args.file)

pub returns-in-Err-write_all-clause-front : goal.returns-in-Err-write_all-clause-front
returns-in-Err-write_all-clause-front g c =
    let v = g.F.Files.view c.loop-from.files in
    let w = g.F.Files.view c.write_all-in-loop-from.new.files in
    let piece = c.in-Ok-piece_from.piece in
    piece_some (g.F.Files.view c.args.files.now) v w c.args.file c.args.path.now c.loop-from.from piece.next piece.text.items c.requires.there
    c.in-Ok-piece_from.ensures.rows c.loop-from.invariant.wrote c.in-Ok-piece_from.ensures.within
    (subst (λ (t : List ℕ). WroteFront v w c.args.file t) c.as_slice.ensures.value c.in-Err-write_all.ensures.front)

pub loop-from-preserved : goal.loop-from-preserved
loop-from-preserved g c =
    let u = g.F.Files.view c.args.files.now in
    let v = g.F.Files.view c.loop-from.files in
    let w = g.F.Files.view c.write_all-in-loop-from.new.files in
    let piece = c.in-Ok-piece_from.piece in
    record {
      within = c.in-Ok-piece_from.ensures.within;
      there = still_there _ _ v w c.args.file c.in-Ok-write_all.ensures.wrote.keeps c.loop-from.invariant.there;
      wrote = piece_wrote u v w c.args.file c.args.path.now c.loop-from.from piece.next piece.text.items c.requires.there c.in-Ok-piece_from.ensures.rows
          c.loop-from.invariant.wrote (subst (λ (t : List ℕ). Wrote v w c.args.file t) c.as_slice.ensures.value c.in-Ok-write_all.ensures.wrote);
      no_fault = same_trans u v w c.loop-from.invariant.no_fault c.in-Ok-write_all.ensures.counts;
    }

pub returns-clause-wrote : goal.returns-clause-wrote
returns-clause-wrote g c =
    let all : c.loop-from.from ≡ bound c.args.path.now = omega (arith, c.loop-from.invariant.within, c.loop-from-test.false, c.bound.ensures) in
    let P : ℕ → Type 0 = λ n. Wrote (g.F.Files.view c.args.files.now) (g.F.Files.view c.loop-from.files) c.args.file (path_header ++ rows_to c.args.path.now n) in
    subst P all c.loop-from.invariant.wrote
