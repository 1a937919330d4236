-- A read of what a marker makes of a front is one of the files behind both wrappers.
use Rattle.std.proofs.Common.{rules, subst}
use Rattle.play_base.specs.View.{View}
use Rattle.arrivals_source.specs.Seen.{both_seen, front_seen, marks_seen}
use Rattle.arrivals_source.specs.Through.{ReadSo}
use Rattle.arrivals_source.proofs.ReadLemmas.{unwrapped}
use Rattle.arrivals_source.proofs.reading.read_both.Goals as goal

pub invariant_of-fronted : goal.invariant_of-fronted
invariant_of-fronted g c = record { there = c.requires.there }

pub read_marked-result-requires : goal.read_marked-result-requires
read_marked-result-requires g c = record { there = c.requires.there; few = c.requires.few }

pub returns : goal.returns
returns g c =
    let placed = g.C.Classify.placed in
    let x = c.read_marked-result.new in
    let f = x.files in
    let w = g.F.Files.view f.files.now in
    let file = c.args.file in
    let old = both_seen placed (g.F.Files.view c.args.files.now) file c.args.front.now c.args.marker.now in
    let done = unwrapped old w _ f.files.ghost_name file f.file old.fixed w.fixed old.left
    (λ n. (marks_seen placed (front_seen w n f.front) file x.marker).left) x.into c.read_marked-result.result (λ e. e) c.read_marked-result.ensures.read in
    let same = done.reference in
    let Q : View → Type 0 = λ u. ReadSo old (both_seen placed u file f.front x.marker) file x.into c.read_marked-result.result in
    record { few = c.read_marked-result.ensures.few; read = subst Q (search rules) done.read }
