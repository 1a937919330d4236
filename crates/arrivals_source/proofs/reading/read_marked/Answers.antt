-- A read of what a marker makes is one of the files behind the wrapper, which has the same references at the end.
use Rattle.std.proofs.Common.{◌≡◌, ◌≤◌, ◌∷◌, rules, subst}
use Rattle.marked_files.specs.Markings.{Marking}
use Rattle.marked_files.specs.Taking.{holds}
use Rattle.play_base.specs.View.{View}
use Rattle.arrivals_source.specs.Seen.{marks_seen}
use Rattle.arrivals_source.specs.Through.{ReadSo}
use Rattle.arrivals_source.proofs.ReadLemmas.{unwrapped}
use Rattle.arrivals_source.proofs.reading.read_marked.Goals as goal

pub invariant_of-marked : goal.invariant_of-marked
invariant_of-marked g c = record { there = c.requires.there; few = c.requires.few }

pub read-requires : goal.read-requires
read-requires g c = c.requires.there

pub returns : goal.returns
returns g c =
    let placed = g.C.Classify.placed in
    let f = c.read.new.self in
    let w = g.F.Files.view f.files.now in
    let file = c.args.file in
    let old = marks_seen placed (g.F.Files.view c.args.files.now) file c.args.marker.now in
    let e = c.read.ensures in
    let done = unwrapped old w _ f.files.ghost_name file f.file (_ ∷ old.fixed) (f.marker.ghost_name ∷ w.fixed) old.left
    (λ n. (marks_seen placed w n f.marker.now).left) c.read.new.into c.read.result (λ e. cc)
    (record { count = e.count; took = e.took; counts = e.counts; ended = e.end; refused = e.refused; failed = e.failed }) in
    let files = done.reference in
    let marker = done.more in
    let is : f.marker.now ≡ c.marker-1.given.0 = search rules in
    let k : w ≡ g.F.Files.view c.files-1.given.0 = search rules in
    let P : Marking _ → Type 0 = λ n. ReadSo old (marks_seen placed w file n) file c.read.new.into c.read.result in
    let Q : View → Type 0 = λ u. ReadSo old (marks_seen placed u file c.marker-1.given.0) file c.read.new.into c.read.result in
    record { few = subst (λ (m : Marking _). holds m ≤ 262160) is f.few; read = subst Q k (subst P is done.read) }
