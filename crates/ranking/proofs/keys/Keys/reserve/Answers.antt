use Rattle.std.proofs.Common.{rules, refl, ◌≡◌}
use Rattle.std.specs.Prelude.{replicate}
use Rattle.ranking.proofs.Keyed.{same_keys}
use Rattle.ranking.proofs.keys.Keys.reserve.Goals as goal

pub returns : goal.returns
returns c =
    let items : c.in_ok-items.items.items ≡ replicate c.args.classes c.args.key = search rules in
    same_keys _ c.args.first c.args.classes c.args.key refl items
