use Rattle.std.proofs.Common.{◌≡◌, ◌∙◌, Bool, true, None, Some, refl, sym}
use Rattle.std.specs.declared.option.Option.{Option}
use Rattle.std.specs.Prelude.{is_some}
use Rattle.class_rows.specs.Rows.{list_in}
use Rattle.cbq_model.specs.declared.Rank.{Rank}
use Rattle.cbq_rounds.proofs.FoundLemmas.{first_where_able}
use Rattle.cbq_rounds.proofs.look.look.Goals as goal

record IsThere (found : Option Rank) : Type 0 where
  pub rank : Rank
  pub is : found ≡ Some rank

there : (found : Option Rank) (b : Bool) → b ≡ is_some found → b ≡ true → IsThere found
there None b e f = absurd (cc)
there (Some r) b e f = record { rank = r; is = refl }

pub returns-then-is_some-clause-till : goal.returns-then-is_some-clause-till
returns-then-is_some-clause-till g c =
    let x = there c.first_able-best.result c.is_some.result c.is_some.ensures c.if-is_some.true in
    sym (first_where_able c.args.shares.now (list_in c.args.rows.now) c.args.clock.now c.args.now x.rank (sym c.first_able-best.ensures ∙ x.is)
    c.requires.free c.requires.rate)
