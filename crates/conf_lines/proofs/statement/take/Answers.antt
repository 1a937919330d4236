use Rattle.conf_lines.specs.Grammar.{seen}
use Rattle.conf_lines.proofs.Readings.{taken, refused}
use Rattle.conf_lines.proofs.statement.take.Goals as goal

pub returns-in-Ok-add_item : goal.returns-in-Ok-add_item
returns-in-Ok-add_item c =
    taken (seen c.args.place) c.in-Ok.field-0.after c.args.word.now.parts.now c.in-Ok.field-0.what c.args.at c.args.items.now.items c.add_item.new.items.items
    c.in-Ok.ensures c.in-Ok-add_item.ensures

pub returns-in-Err : goal.returns-in-Err
returns-in-Err c = refused (seen c.args.place) c.args.word.now.parts.now c.in-Err.refusal c.args.at c.args.items.now.items c.in-Err.ensures
