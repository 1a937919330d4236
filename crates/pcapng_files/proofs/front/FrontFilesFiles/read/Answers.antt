use Rattle.std.proofs.Common.{length, inl, inr, sym}
use Rattle.std.proofs.lemmas.Bool.{eqb-true}
use Rattle.pcapng_files.proofs.FrontLaws.{end_own, took_front}
use Rattle.pcapng_files.proofs.front.FrontFilesFiles.read.Goals as goal

pub returns-then-file-self-clause-end : goal.returns-then-file-self-clause-end
returns-then-file-self-clause-end g c =
    let s = c.args.self.now in
    end_own _ _ (g.F.Files.view c.read.new.self) s.files.ghost_name s.file s.front.rest s.front.bytes.now c.args.file (inl c.if-file-self.true) c.read.ensures.end

pub returns-clause-took : goal.returns-clause-took
returns-clause-took g c =
    let s = c.args.self.now in
    took_front (g.F.Files.view s.files.now) s.files.ghost_name s.file c.args.file c.copy_front-count.result s.front.rest s.front.bytes.now c.copy_front-count.new.into
    c.if-file-self.false c.copy_front-count.ensures.moved

pub returns-then-front-clause-end : goal.returns-then-front-clause-end
returns-then-front-clause-end g c =
    let s = c.args.self.now in
    end_own _ _ (g.F.Files.view c.read-then-front.new.self) s.files.ghost_name s.file s.front.rest s.front.bytes.now c.args.file
    (inr (c.if-front.true, eqb-true (length s.front.bytes.now) 0 (sym c.if-is_empty.ensures))) c.read-then-front.ensures.end
