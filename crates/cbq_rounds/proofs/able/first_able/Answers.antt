use Rattle.std.proofs.Common.{◌≡◌, ◌-◌, ℕ, Bool, true, None, Some, arith, get_or}
use Rattle.std.specs.declared.option.Option.{Option}
use Rattle.std.specs.Prelude.{is_some}
use Rattle.class_rows.specs.Rows.{list_in}
use Rattle.cbq_model.specs.declared.Rank.{Rank}
use Rattle.cbq_rounds.proofs.FoundLemmas.{IsAsked, asked_best}
use Rattle.cbq_rounds.proofs.RingLemmas.{asked_above}
use Rattle.cbq_rounds.proofs.able.first_able.Goals as goal

some_found : (found : Option Rank) (b : Bool) → b ≡ is_some found → b ≡ true → found ≡ None → ⊥
some_found None b e f n = absurd (cc)
some_found (Some r) b e f n = absurd (cc)

pub able_at-best-requires-clause-asked : goal.able_at-best-requires-clause-asked
able_at-best-requires-clause-asked g c =
    asked_above c.args.shares.now (list_in c.args.rows.now) c.args.clock.now c.args.now c.levels.level None c.levels.invariant.0 c.requires.few

pub returns-then-is_some : goal.returns-then-is_some
returns-then-is_some g c =
    let top : ℕ = get_or c.args.rings.now.tops.items (c.levels.level - 1) 0 in
    let asked : IsAsked c.args.shares.now (list_in c.args.rows.now) c.args.clock.now c.args.now top c.able_at-best.result = record {
      few = c.requires.few;
      asked = c.able_at-best.ensures;
      all = λ e. absurd (some_found c.able_at-best.result c.is_some.result c.is_some.ensures c.if-is_some.true e);
    } in
    asked_best c.args.shares.now (list_in c.args.rows.now) c.args.clock.now c.args.now top c.able_at-best.result asked

pub returns : goal.returns
returns g c =
    let asked : IsAsked c.args.shares.now (list_in c.args.rows.now) c.args.clock.now c.args.now c.levels.level None = record {
      few = c.requires.few;
      asked = c.levels.invariant.0;
      all = λ e. omega (arith, c.levels-test.false);
    } in
    asked_best c.args.shares.now (list_in c.args.rows.now) c.args.clock.now c.args.now c.levels.level None asked
