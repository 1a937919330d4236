use Rattle.std.proofs.Common.{◌≡◌, ◌<◌, length, take, rules}
use Rattle.std.proofs.lemmas.Result.{IfOk-weaker, on_err_weaker}
use Rattle.play_base.specs.View.{IsAtEnd, Took}
use Rattle.marked_files.specs.Taking.{HasRead, holds}
use Rattle.marked_files.proofs.ViewLaws.{Wrapper, end_other, read_ended, read_took, read_unchanged, seen_by}
use Rattle.marked_files.proofs.files.MarkedFilesFiles.read.Goals as goal

pub returns-then-file-self-clause-end : goal.returns-then-file-self-clause-end
returns-then-file-self-clause-end g c =
    let s = c.args.self.now in
    let f = c.args.file in
    let w = g.F.Files.view c.read.new.self in
    let into = c.read.new.into in
    let x : Wrapper = record { files = s.files.ghost_name; file = s.file; marker = s.marker.ghost_name } in
    IfOk-weaker _ (λ i. i ≡ 0 → 0 < length into → IsAtEnd w f) (λ i. i ≡ 0 → 0 < length into → IsAtEnd (seen_by g.C.Classify.placed x w s.marker.now) f)
    (λ i h none asked. end_other g.C.Classify.placed x w f s.marker.now (search rules) (h none asked)) c.read.ensures.end

pub returns-clause-took : goal.returns-clause-took
returns-clause-took g c =
    let s = c.args.self.now in
    let f = c.args.file in
    let v = g.F.Files.view s.files.now in
    let w = g.F.Files.view c.read-2.new.files in
    let n = c.read-2.new.self in
    let into = c.read-2.new.into in
    let x : Wrapper = record { files = s.files.ghost_name; file = s.file; marker = s.marker.ghost_name } in
    IfOk-weaker _ (λ i. HasRead g.C.Classify.placed v w f (take i into) s.marker.now n)
    (λ i. Took (seen_by g.C.Classify.placed x v s.marker.now) (seen_by g.C.Classify.placed x w n) f (take i into))
    (λ i. read_took g.C.Classify.placed x v w f s.marker.now n (take i into) (search rules)) c.read-2.ensures.read

pub returns-clause-end : goal.returns-clause-end
returns-clause-end g c =
    let s = c.args.self.now in
    let f = c.args.file in
    let w = g.F.Files.view c.read-2.new.files in
    let n = c.read-2.new.self in
    let into = c.read-2.new.into in
    let x : Wrapper = record { files = s.files.ghost_name; file = s.file; marker = s.marker.ghost_name } in
    IfOk-weaker _ (λ i. i ≡ 0 → 0 < length into → IsAtEnd w f × (holds n ≡ 0)) (λ i. i ≡ 0 → 0 < length into → IsAtEnd (seen_by g.C.Classify.placed x w n) f)
    (λ i h none asked. read_ended g.C.Classify.placed x w f n (search rules) (h none asked)) c.read-2.ensures.end

pub returns-clause-refused : goal.returns-clause-refused
returns-clause-refused g c =
    let s = c.args.self.now in
    let v = g.F.Files.view s.files.now in
    let w = g.F.Files.view c.read-2.new.files in
    let x : Wrapper = record { files = s.files.ghost_name; file = s.file; marker = s.marker.ghost_name } in
    on_err_weaker _ (read_unchanged g.C.Classify.placed x v w c.args.file s.marker.now c.read-2.new.self (search rules) (g.F.Files.told s.files.now)) c.read-2.ensures.refused
