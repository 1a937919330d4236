-- A read of the arrivals is one in the source's way, and a read of another file passes through.
use Rattle.arrivals_source.specs.Ways.{way_view}
use Rattle.arrivals_source.proofs.Alike.{still_read}
use Rattle.arrivals_source.proofs.ReadLemmas.{other_read, way_read}
use Rattle.arrivals_source.proofs.source.ArrivalsSourceFiles.read.Goals as goal

pub read-requires : goal.read-requires
read-requires g c = c.requires

pub invariant_of-self : goal.invariant_of-self
invariant_of-self g c =
    let s = c.args.self.now in
    let e = c.read.ensures in
    record {
      there =
          still_read (g.F.Files.view s.files.now) (g.F.Files.view c.read.new.self) c.args.file s.file c.read.new.into c.read.result
          (record { count = e.count; took = e.took; counts = e.counts; ended = e.end; refused = e.refused; failed = e.failed }) s.there;
      few = s.few;
    }

pub returns-then-file-self : goal.returns-then-file-self
returns-then-file-self g c =
    let s = c.args.self.now in
    let e = c.read.ensures in
    let x = other_read g.C.Classify.placed (g.F.Files.view s.files.now) (g.F.Files.view c.read.new.self) s.files.ghost_name s.file c.args.file s.front s.way.now
    c.read.new.into c.read.result c.if-file-self.true
    (record { count = e.count; took = e.took; counts = e.counts; ended = e.end; refused = e.refused; failed = e.failed }) in
    record { count = x.count; took = x.took; counts = x.counts; end = x.ended; refused = x.refused; failed = x.failed }

pub read-requires-2 : goal.read-requires-2
read-requires-2 g c = record { there = c.requires; few = c.args.self.now.few }

pub invariant_of-self-2 : goal.invariant_of-self-2
invariant_of-self-2 g c =
    let s = c.args.self.now in
    let n = c.read-2.new in
    let placed = g.C.Classify.placed in
    record {
      there =
          still_read (way_view placed (g.F.Files.view s.files.now) c.args.file s.front s.way.now) (way_view placed (g.F.Files.view n.files) c.args.file n.front n.self)
          c.args.file s.file n.into c.read-2.result c.read-2.ensures.read s.there;
      few = c.read-2.ensures.few;
    }

pub returns : goal.returns
returns g c =
    let s = c.args.self.now in
    let n = c.read-2.new in
    let x = way_read g.C.Classify.placed (g.F.Files.view s.files.now) (g.F.Files.view n.files) s.files.ghost_name s.file c.args.file s.front s.way.now n.into
    c.read-2.result n.front n.self c.if-file-self.false c.read-2.ensures.same c.read-2.ensures.read in
    record { count = x.count; took = x.took; counts = x.counts; end = x.ended; refused = x.refused; failed = x.failed }
