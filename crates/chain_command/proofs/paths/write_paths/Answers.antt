-- The text that is written is that of the tables.
use Rattle.std.proofs.Common.{◌∙◌, List, ℕ, Option, Some, ap, append-nil, refl}
use Rattle.file_plans.specs.declared.part.Part.TheVariants as part
use Rattle.file_plans.specs.Plan.{written_place}
use Rattle.file_plans.proofs.AlongLaws.{wrote_bytes}
use Rattle.chain_command.proofs.WrittenLemmas.{adds_none, adds_nothing, adds_some}
use Rattle.chain_command.proofs.paths.write_paths.Goals as goal

pub returns-in-Err-clause-adds : goal.returns-in-Err-clause-adds
returns-in-Err-clause-adds g c = adds_nothing (g.F.Files.view c.args.files.now) (written_place part.Path c.args.name.now) _

pub returns-in-Err-open_next-clause-adds : goal.returns-in-Err-open_next-clause-adds
returns-in-Err-open_next-clause-adds g c = adds_none _ _ (written_place part.Path c.args.name.now) _ c.in-Err-open_next.ensures.refused

pub returns-in-Ok-write_rows-clause-whole : goal.returns-in-Ok-write_rows-clause-whole
returns-in-Ok-write_rows-clause-whole g c t =
    let o = c.in-Ok-open_next.ensures in
    wrote_bytes _ _ 0 (written_place part.Path c.args.name.now) _ _ _ _ refl o.came (o.empty t).0 c.in-Ok-write_rows.ensures.wrote t
    ∙ ap {B = Option (List ℕ)} Some c.in-Ok.ensures.text

pub returns-in-Ok-write_rows-clause-adds : goal.returns-in-Ok-write_rows-clause-adds
returns-in-Ok-write_rows-clause-adds g c =
    let o = c.in-Ok-open_next.ensures in
    adds_some o.came o.empty o.said (record { front = _; rest = _; split = append-nil _; wrote = c.in-Ok-write_rows.ensures.wrote }) c.in-Ok.ensures.text

pub returns-clause-adds : goal.returns-clause-adds
returns-clause-adds g c =
    let o = c.in-Ok-open_next.ensures in adds_some o.came o.empty o.said c.in-Err-write_rows.ensures.front c.in-Ok.ensures.text
