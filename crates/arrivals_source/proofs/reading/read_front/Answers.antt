-- A read of the front is one of the files behind the wrapper, which has the same reference to them at the end.
use Rattle.std.proofs.Common.{rules, subst}
use Rattle.play_base.specs.View.{View}
use Rattle.arrivals_source.specs.Seen.{front_seen}
use Rattle.arrivals_source.specs.Through.{ReadSo}
use Rattle.arrivals_source.proofs.ReadLemmas.{unwrapped}
use Rattle.arrivals_source.proofs.reading.read_front.Goals as goal

pub invariant_of-fronted : goal.invariant_of-fronted
invariant_of-fronted g c = record { there = c.requires.there }

pub read-result-requires : goal.read-result-requires
read-result-requires g c = c.requires.there

pub returns : goal.returns
returns g c =
    let f = c.read-result.new.self in
    let w = g.F.Files.view f.files.now in
    let file = c.args.file in
    let old = front_seen (g.F.Files.view c.args.files.now) file c.args.front.now in
    let e = c.read-result.ensures in
    let done = unwrapped old w _ f.files.ghost_name file f.file old.fixed w.fixed old.left (λ n. (front_seen w n f.front).left) c.read-result.new.into
    c.read-result.result (λ e. e)
    (record { count = e.count; took = e.took; counts = e.counts; ended = e.end; refused = e.refused; failed = e.failed }) in
    let same = done.reference in
    subst (λ (u : View). ReadSo old (front_seen u file f.front) file c.read-result.new.into c.read-result.result) (search rules) done.read
