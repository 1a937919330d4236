use Rattle.std.proofs.Common.{◌≡◌, ap, [], length, refl, arith, length-append}
use Rattle.std.proofs.lemmas.Grind.{common_steps}
use Rattle.std.proofs.lemmas.List.{nil_from_length}
use Rattle.marked_files.proofs.Turns.{advanced_by, failed_taken, failed_waits, turn_ended, turn_taken}
use Rattle.marked_files.proofs.marker.Marker.take.Goals as goal

pub returns-in-Ok-eq0-clause-taken : goal.returns-in-Ok-eq0-clause-taken
returns-in-Ok-eq0-clause-taken g c =
    let t = c.in-Ok-eq0.ensures.took in
    let none : t.0 ≡ [] =
    nil_from_length t.0 (omega (arith, ap length t.2, length-append c.self.inside.window.pending t.0, c.in-Ok-eq0.ensures.count, c.in-Ok-eq0.field-0-test)) in
    turn_ended g.C.Classify.placed _ _ c.args.file c.args.self.now _
    (record { classes = c.self.inside.classes; stage = c.self.inside.stage; course = _; held = c.fill.new.self }) _
    (record {
      advanced = advanced_by g.C.Classify.placed _ _ _ c.self.view_is c.advance.ensures.all;
      filled = record {
        more = t.0;
        took = t.1;
        none = grind (arith, common_steps);
        came = record { stage = refl; course = refl; ready = c.fill.ensures.ready; pending = t.2; classes = refl };
      };
    }) none (c.in-Ok-eq0.ensures.end c.in-Ok-eq0.field-0-test)
    (record { stage = refl; course = refl; ready = c.pass_all.ensures.ready; pending = c.pass_all.ensures.pending; classes = refl })

pub returns-in-Ok-clause-taken : goal.returns-in-Ok-clause-taken
returns-in-Ok-clause-taken g c =
    let t = c.in-Ok.ensures.took in
    turn_taken g.C.Classify.placed _ _ c.args.file c.args.self.now _ _
    (record {
      advanced = advanced_by g.C.Classify.placed _ _ _ c.self.view_is c.advance.ensures.all;
      filled = record {
        more = t.0;
        took = t.1;
        none = grind (arith, common_steps);
        came = record { stage = refl; course = refl; ready = c.fill.ensures.ready; pending = t.2; classes = refl };
      };
    })

pub returns-in-Err-clause-taken : goal.returns-in-Err-clause-taken
returns-in-Err-clause-taken g c =
    failed_taken g.C.Classify.placed _ _ c.args.file c.args.self.now _ _
    (record {
      advanced = advanced_by g.C.Classify.placed _ _ _ c.self.view_is c.advance.ensures.all;
      there = c.requires.there;
      unchanged = c.in-Err.ensures.refused;
      none = grind (arith, common_steps);
      still = record { stage = refl; course = refl; ready = c.fill.ensures.ready; pending = c.in-Err.ensures.stays; classes = refl };
    })

pub returns-in-Err-clause-refused : goal.returns-in-Err-clause-refused
returns-in-Err-clause-refused g c =
    failed_waits g.C.Classify.placed (g.F.Files.view c.args.files.now) (g.F.Files.view c.fill.new.files) c.args.file c.args.self.now _ _
    (record {
      advanced = advanced_by g.C.Classify.placed _ _ _ c.self.view_is c.advance.ensures.all;
      there = c.requires.there;
      unchanged = c.in-Err.ensures.refused;
      none = grind (arith, common_steps);
      still = record { stage = refl; course = refl; ready = c.fill.ensures.ready; pending = c.in-Err.ensures.stays; classes = refl };
    })
