use Rattle.std.proofs.Common.{◌≡◌, IsTrue, length, take}
use Rattle.play_base.specs.View.{SameCounts}
use Rattle.file_plans.specs.Came.{AreEmpty, Came}
use Rattle.file_plans.specs.Plan.{places_of}
use Rattle.file_plans.proofs.opening.open_along.Given as goal

abbrev pub invariant-loop-i : goal.invariant-loop-i
invariant-loop-i g l =
    let old = g.F.Files.view l.fn.files in
    let now = g.F.Files.view l.files in
    record {
      room : length l.opened ≡ length l.plan;
      came : Came (places_of (take l.i l.plan)) (take l.i l.opened) old now;
      empty : IsTrue old.tells → AreEmpty now (places_of (take l.i l.plan));
      said : now.said ≡ old.said;
      counts : SameCounts old now;
    }
