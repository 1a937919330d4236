-- A write of an output leaves what is counted.
use Rattle.std.proofs.Common.{◌≡◌, ◌∙◌, sym, true}
use Rattle.std.proofs.lemmas.Result.{IfOk-weaker}
use Rattle.std.specs.Prelude.{take}
use Rattle.play_base.specs.View.{Wrote}
use Rattle.arrivals_source.specs.Counted.{counted_view, is_output}
use Rattle.arrivals_source.proofs.CountedLaws.{wrote_counted}
use Rattle.arrivals_source.proofs.counted.CountedFilesFiles.write.Goals as goal

pub returns-then-is_output-clause-wrote : goal.returns-then-is_output-clause-wrote
returns-then-is_output-clause-wrote g c =
    let s = c.args.self.now in
    let v = g.F.Files.view s.files.now in
    let w = g.F.Files.view c.write.new.self in
    let at : is_output c.args.file s.outputs.now ≡ true = sym c.is_output.ensures ∙ c.if-is_output.true in
    IfOk-weaker c.write.result (λ n. Wrote v w c.args.file (take n c.args.bytes.now))
    (λ n. Wrote (counted_view v s.files.ghost_name s.file s.taken) (counted_view w s.files.ghost_name s.file s.taken) c.args.file (take n c.args.bytes.now))
    (λ n x. wrote_counted v w s.files.ghost_name s.file c.args.file s.taken s.outputs.now (take n c.args.bytes.now) s.there s.apart at x) c.write.ensures.wrote
