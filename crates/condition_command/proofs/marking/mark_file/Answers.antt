-- Each turn moves what it takes: the return of a turn tells what came of all.
use Rattle.std.proofs.Common.{◌≡◌, List, ℕ, Ok, Err, ap, length, sym, subst}
use Rattle.std.specs.Prelude.{Result, ⊤}
use Rattle.frame_classes.specs.Frames.{placed_by}
use Rattle.marked_files.specs.Standing.{TellsLeft}
use Rattle.marked_files.specs.declared.behind.Behind.{Behind}
use Rattle.marked_files.specs.declared.behind.Behind.TheVariants as behind
use Rattle.play_base.specs.View.{Wrote, WroteFront}
use Rattle.play_base.proofs.ViewLaws.{same_refl, same_trans}
use Rattle.condition_command.specs.Marking.{MarksLeft, Stays}
use Rattle.condition_command.specs.declared.marking.Unmarked.{Unmarked}
use Rattle.condition_command.specs.declared.marking.Unmarked.TheVariants as unmarked
use Rattle.condition_command.proofs.MovingLemmas.{EndsAs, marks_cut, marks_told, marks_unwritten, on_begun, on_taken, on_wrote, stays_on, stays_wrote}
use Rattle.condition_command.proofs.marking.mark_file.Given.{Over}
use Rattle.condition_command.proofs.marking.mark_file.Goals.{In_default}
use Rattle.condition_command.proofs.marking.mark_file.Goals as goal

pub turns-init : goal.turns-init
turns-init g c = record {
  on = on_begun (g.F.Files.view c.args.files.now) c.args.from c.args.to c.args.marker.now;
  given = c.requires.given;
  waits = c.requires.waits;
  counts = same_refl (g.F.Files.view c.args.files.now);
}

pub returns-in-Err-clause-marks : goal.returns-in-Err-clause-marks
returns-in-Err-clause-marks g c =
    let y = c.in-Err.ensures in
    let cut = marks_cut c.requires.apart (on_taken c.turns.invariant.on y.taken) y.room c.args.streamed c.in-Err.trouble y.stays.0 y.stays.1 in
    let R : Unmarked → Type 0 =
    λ z. MarksLeft (g.F.Files.view c.args.files.now) (g.F.Files.view c.next_records.new.files) c.args.from c.args.to c.args.marker.now (Err z) in
    subst R (sym c.read_trouble.ensures) cut

pub returns-in-Err-clause-stays : goal.returns-in-Err-clause-stays
returns-in-Err-clause-stays g c = stays_on (on_taken c.turns.invariant.on c.in-Err.ensures.taken)

pub returns-in-Err-write_all-clause-marks : goal.returns-in-Err-write_all-clause-marks
returns-in-Err-write_all-clause-marks g c =
    let z = g.F.Files.view c.write_all.new.files in
    let y = c.in-Ok.ensures in
    let P : List ℕ → Type 0 = λ l. WroteFront (g.F.Files.view c.next_records.new.files) z c.args.to l in
    let cut = marks_unwritten c.requires.apart (on_taken c.turns.invariant.on y.taken) y.room c.in-Err-write_all.trouble
    (subst P c.ready.ensures c.in-Err-write_all.ensures.front) in
    let R : Unmarked → Type 0 = λ why. MarksLeft (g.F.Files.view c.args.files.now) z c.args.from c.args.to c.args.marker.now (Err why) in
    subst R (sym c.write_trouble.ensures) cut

pub returns-in-Err-write_all-clause-stays : goal.returns-in-Err-write_all-clause-stays
returns-in-Err-write_all-clause-stays g c =
    stays_wrote (on_taken c.turns.invariant.on c.in-Ok.ensures.taken) c.requires.apart c.in-Err-write_all.ensures.front.1

pub turns-preserved : goal.turns-preserved
turns-preserved g c =
    let u = g.F.Files.view c.args.files.now in
    let v = g.F.Files.view c.turns.files in
    let w = g.F.Files.view c.next_records.new.files in
    let z = g.F.Files.view c.write_all.new.files in
    let y = c.in-Ok.ensures in
    let P : List ℕ → Type 0 = λ l. Wrote w z c.args.to l in
    record {
      on = on_wrote (on_taken c.turns.invariant.on y.taken) c.requires.apart (subst P c.ready.ensures c.in_default.ensures.wrote) c.give_ready.ensures.stands;
      given = ap length c.give_ready.ensures.ready;
      waits = c.give_ready.ensures.waits (y.waits (ap (λ (b : Behind). Ok b) c.in-More.is));
      counts = same_trans u w z (same_trans u v w c.turns.invariant.counts y.counts) c.in_default.ensures.counts;
    }

-- all that is ready was written, and this stands behind it
told : (g : Over) (c : In_default g) (b : Behind) (r : Result ⊤ Unmarked) → c.in-Ok.behind ≡ b → EndsAs b r
    → MarksLeft (g.F.Files.view c.args.files.now) (g.F.Files.view c.write_all.new.files) c.args.from c.args.to c.args.marker.now r
told g c b r is ends =
    let w = g.F.Files.view c.next_records.new.files in
    let y = c.in-Ok.ensures in
    let P : List ℕ → Type 0 = λ l. Wrote w (g.F.Files.view c.write_all.new.files) c.args.to l in
    let B : Behind → Type 0 = λ x. TellsLeft placed_by w c.args.from c.next_records.new.self x in
    marks_told c.requires.apart (on_taken c.turns.invariant.on y.taken) y.room b r (subst B is y.tells) (subst P c.ready.ensures c.in_default.ensures.wrote) ends

pub returns-in-End-clause-marks : goal.returns-in-End-clause-marks
returns-in-End-clause-marks g c =
    told g (goal.at.returns-in-End-clause-marks g c).In_default behind.End (Ok tt) c.in-End.is (λ k capture taken written h. h)

pub returns-in-Damaged-clause-marks : goal.returns-in-Damaged-clause-marks
returns-in-Damaged-clause-marks g c =
    let d = c.in-Damaged.damage in
    told g (goal.at.returns-in-Damaged-clause-marks g c).In_default (behind.Damaged d) (Err (unmarked.Damaged d)) c.in-Damaged.is (λ k capture taken written h. h)

pub returns-in-Limit-clause-marks : goal.returns-in-Limit-clause-marks
returns-in-Limit-clause-marks g c =
    told g (goal.at.returns-in-Limit-clause-marks g c).In_default behind.Limit (Err unmarked.Limit) c.in-Limit.is (λ k capture taken written h. h)

-- beside that nothing changed
written : (g : Over) (c : In_default g)
    → Stays (g.F.Files.view c.args.files.now) (g.F.Files.view c.write_all.new.files) c.args.from c.args.to
written g c = stays_wrote (on_taken c.turns.invariant.on c.in-Ok.ensures.taken) c.requires.apart c.in_default.ensures.wrote

pub returns-in-End-clause-stays : goal.returns-in-End-clause-stays
returns-in-End-clause-stays g c = written g (goal.at.returns-in-End-clause-stays g c).In_default

pub returns-in-Damaged-clause-stays : goal.returns-in-Damaged-clause-stays
returns-in-Damaged-clause-stays g c = written g (goal.at.returns-in-Damaged-clause-stays g c).In_default

pub returns-in-Limit-clause-stays : goal.returns-in-Limit-clause-stays
returns-in-Limit-clause-stays g c = written g (goal.at.returns-in-Limit-clause-stays g c).In_default
