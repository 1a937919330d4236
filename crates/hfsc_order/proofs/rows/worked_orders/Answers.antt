use Rattle.std.proofs.Common.{◌≤◌, refl, arith}
use Rattle.hfsc_order.proofs.rows.worked_orders.Goals as goal

pub returns-clause-not_the_second : goal.returns-clause-not_the_second
returns-clause-not_the_second c = λ x. let le : 2 ≤ 1 = x.first 1 (record { child = refl; shares = refl }) refl in omega (arith, le)

pub returns-clause-not_the_first : goal.returns-clause-not_the_first
returns-clause-not_the_first c = λ x. let le : 4000000 ≤ 0 = x.least 2 (record { child = refl; shares = refl }) in omega (arith, le)
