use Rattle.std.proofs.Common.{◌≤◌, ◌∙◌, ℕ, List, Err, length, take, ap, sym, refl, subst, arith}
use Rattle.std.specs.Prelude.{Result}
use Rattle.std.proofs.lemmas.List.{length-replicate, length-set, take_all}
use Rattle.play_base.specs.declared.trouble.Trouble.{Trouble}
use Rattle.play_base.proofs.ViewLaws.{same_refl, same_trans}
use Rattle.file_plans.specs.declared.plan.Entry.{Entry}
use Rattle.file_plans.specs.Came.{AreEmpty, Came}
use Rattle.file_plans.specs.Plan.{places_of}
use Rattle.file_plans.proofs.AlongLaws.{came_next, came_refused, came_so_far, empty_next, refused_at}
use Rattle.file_plans.proofs.CameLaws.{came_none}
use Rattle.file_plans.proofs.opening.open_along.Goals as goal

pub loop-i-init : goal.loop-i-init
loop-i-init g c = record {
  room = length-replicate g.row.N 0 ∙ sym c.requires.length;
  came = came_none _;
  empty = λ _. tt;
  said = refl;
  counts = same_refl _;
}

pub returns-in-Err-clause-along : goal.returns-in-Err-clause-along
returns-in-Err-clause-along g c = came_refused c.args.plan.now _ c.loop-i.i _ _ _ c.loop-i.invariant.came c.in-Err.ensures.refused

pub returns-in-Err-clause-failed : goal.returns-in-Err-clause-failed
returns-in-Err-clause-failed g c = λ h e at.
    refused_at c.args.plan.now c.loop-i.i _ e _ _ _ c.loop-i.invariant.came.keeps.later c.loop-i.invariant.counts
    (c.in-Err.ensures.failed (ap {B = Result ℕ Trouble} (λ (x : Trouble). Err x) h)) at

pub returns-in-Err-clause-said : goal.returns-in-Err-clause-said
returns-in-Err-clause-said g c = c.in-Err.ensures.refused.said ∙ c.loop-i.invariant.said

pub loop-i-preserved : goal.loop-i-preserved
loop-i-preserved g c =
    let v = c.loop-i.invariant in
    record {
      room = length-set c.loop-i.opened c.loop-i.i c.in-Ok.file ∙ v.room;
      came = came_next c.args.plan.now c.loop-i.opened c.loop-i.i _ c.in-Ok.file _ _ _ c.loop-i-test.true v.room v.came c.in-Ok.ensures.came;
      empty = λ t.
          empty_next c.args.plan.now c.loop-i.opened c.loop-i.i _ c.in-Ok.file _ _ c.loop-i-test.true (v.came.keeps.tells ∙ t) (v.empty t) c.in-Ok.ensures.came
          (c.in-Ok.ensures.empty (v.came.keeps.tells ∙ t));
      said = c.in-Ok.ensures.said ∙ v.said;
      counts = same_trans _ _ _ v.counts c.in-Ok.ensures.counts;
    }

pub returns-clause-along : goal.returns-clause-along
returns-clause-along g c = came_so_far c.args.plan.now _ c.loop-i.i _ _ c.loop-i.invariant.came

pub returns-clause-came : goal.returns-clause-came
returns-clause-came g c =
    let v = c.loop-i.invariant in
    let old = g.F.Files.view c.args.files.now in
    let now = g.F.Files.view c.loop-i.files in
    let P : List Entry → Type 0 = λ es. Came (places_of es) (take c.loop-i.i c.loop-i.opened) old now in
    let Q : List ℕ → Type 0 = λ fs. Came (places_of c.args.plan.now) fs old now in
    let long : length c.args.plan.now ≤ c.loop-i.i = omega arith in
    let room : length c.loop-i.opened ≤ c.loop-i.i = omega (arith, v.room, long) in
    subst Q (take_all c.loop-i.i c.loop-i.opened room) (subst P (take_all c.loop-i.i c.args.plan.now long) v.came)

pub returns-clause-empty : goal.returns-clause-empty
returns-clause-empty g c = λ t.
    let now = g.F.Files.view c.loop-i.files in
    let P : List Entry → Type 0 = λ es. AreEmpty now (places_of es) in
    let long : length c.args.plan.now ≤ c.loop-i.i = omega arith in
    subst P (take_all c.loop-i.i c.args.plan.now long) (c.loop-i.invariant.empty t)
