-- Where there was no memory for a discipline, no output was created.
use Rattle.std.proofs.Common.{[], refl}
use Rattle.file_plans.proofs.CameLaws.{came_none}
use Rattle.file_plans.proofs.EndLaws.{came_some}
use Rattle.interface_play.proofs.EndedLemmas.{ended_untold, only_created, unbuilt}
use Rattle.interface_play.proofs.kind.play_built.Goals as goal

pub returns-in-Ok-clause-ended : goal.returns-in-Ok-clause-ended
returns-in-Ok-clause-ended g c = λ before places opened b.
    ended_untold _ _ before _ _ places opened c.args.play.now c.play_watched.result (c.play_watched.ensures.ended before places opened b)

pub returns-in-Err-clause-ended : goal.returns-in-Err-clause-ended
returns-in-Err-clause-ended g c = λ before places opened b.
    unbuilt before _ places opened c.args.play.now _ _ c.laws_hold.ensures c.requires.configured
    (record { separate = c.requires.separate; there = c.requires.there; named = c.requires.named; few = c.requires.few }) b

pub returns-in-Err-clause-only : goal.returns-in-Err-clause-only
returns-in-Err-clause-only g c =
    let v = g.F.Files.view c.args.files.now in
    only_created v v c.args.play.now (record { separate = c.requires.separate; there = c.requires.there; named = c.requires.named; few = c.requires.few })
    (came_some [] _ [] v v (came_none v)) refl
