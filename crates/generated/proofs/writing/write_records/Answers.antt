use Rattle.std.proofs.Common.{◌+◌, List, ℕ, subst, sym}
use Rattle.generated.specs.Generating.{Continues}
use Rattle.generated.proofs.PacketLemmas.{front_stopped, none_in}
use Rattle.generated.proofs.writing.write_records.Goals as goal

pub returns-in_default-clause-front : goal.returns-in_default-clause-front
returns-in_default-clause-front g c = none_in _ _ _ _ _

pub returns-in-Err-clause-front : goal.returns-in-Err-clause-front
returns-in-Err-clause-front g c =
    let P : List ℕ → Type 0 = λ t. Continues c.args.generator.now.seed c.args.generator.now.made t (c.args.generator.now.made + c.args.more) in
    front_stopped _ _ _ _ _ _ c.as_slice.result.now (subst P (sym c.as_slice.ensures.value) c.in-Ok.ensures.behind) c.in-Err.ensures.front
