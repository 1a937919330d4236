-- What comes of each command as it was read.
use Rattle.play_words.specs.declared.words.Command.TheVariants as asks
use Rattle.play_cli.proofs.RunLaws.{read_ends}
use Rattle.play_cli.proofs.program.run_command.Goals as goal

pub returns-in-Play : goal.returns-in-Play
returns-in-Play g c = read_ends _ _ c.args.command.now (asks.Play c.in-Play.words) c.play.result c.in-Play.is c.play.ensures

pub returns-in-Check : goal.returns-in-Check
returns-in-Check g c = read_ends _ _ c.args.command.now (asks.Check c.in-Check.words) c.check.result c.in-Check.is c.check.ensures

pub returns-in-Make : goal.returns-in-Make
returns-in-Make g c = read_ends _ _ c.args.command.now (asks.Make c.in-Make.words) c.make.result c.in-Make.is c.make.ensures

pub returns-in-Verify : goal.returns-in-Verify
returns-in-Verify g c = read_ends _ _ c.args.command.now (asks.Verify c.in-Verify.words) c.verify.result c.in-Verify.is c.verify.ensures

pub returns-in-Shares : goal.returns-in-Shares
returns-in-Shares g c = read_ends _ _ c.args.command.now (asks.Shares c.in-Shares.words) c.shares.result c.in-Shares.is c.shares.ensures

pub returns-in-Chain : goal.returns-in-Chain
returns-in-Chain g c = read_ends _ _ c.args.command.now (asks.Chain c.in-Chain.words) c.chain.result c.in-Chain.is c.chain.ensures

pub returns-in-Condition : goal.returns-in-Condition
returns-in-Condition g c = read_ends _ _ c.args.command.now (asks.Condition c.in-Condition.words) c.condition.result c.in-Condition.is c.condition.ensures

pub returns-in-Bound : goal.returns-in-Bound
returns-in-Bound g c = read_ends _ _ c.args.command.now (asks.Bound c.in-Bound.words) c.bound.result c.in-Bound.is c.bound.ensures
