use Rattle.std.proofs.Common.{[], length, refl, arith, ap, take}
use Rattle.marked_files.specs.Markings.{Marking}
use Rattle.marked_files.proofs.Turns.{gave_by, none_read, taken_read}
use Rattle.marked_files.proofs.marker.Marker.read.Goals as goal

pub returns-in-Ok-clause-read : goal.returns-in-Ok-clause-read
returns-in-Ok-clause-read g c =
    taken_read g.C.Classify.placed _ _ c.args.file _ c.prepare.new.self _ (take c.give.result c.give.new.into) c.prepare.ensures.taken c.prepare.ensures.room
    (gave_by _ _ _ _ c.self.view_is
    (record {
      ready = c.give.ensures.moved;
      came = record { stage = refl; course = refl; ready = refl; pending = c.give.ensures.pending; classes = refl };
    }))

pub returns-in-Ok-clause-end : goal.returns-in-Ok-clause-end
returns-in-Ok-clause-end g c = λ none asked.
    none_read (g.F.Files.view c.prepare.new.files) c.args.file c.prepare.new.self _ (take c.give.result c.give.new.into) c.give.result (length c.args.into.now) c.in-Ok.ensures.ready
    (gave_by _ _ _ _ c.self.view_is
    (record {
      ready = c.give.ensures.moved;
      came = record { stage = refl; course = refl; ready = refl; pending = c.give.ensures.pending; classes = refl };
    }))
    (omega (arith, c.give.ensures.count, ap (λ (m : Marking _). length m.held.ready) c.self.view_is)) none (omega (arith, c.give.ensures.length))

pub returns-in-Err-clause-refused : goal.returns-in-Err-clause-refused
returns-in-Err-clause-refused g c =
    taken_read g.C.Classify.placed _ _ c.args.file _ _ _ [] c.prepare.ensures.taken c.prepare.ensures.room
    (record { ready = refl; came = record { stage = refl; course = refl; ready = refl; pending = refl; classes = refl } })
