use Rattle.std.proofs.Common.{◌≡◌, ℕ, [], subst, arith}
use Rattle.class_rows.specs.Rows.{IsOther, ClassQueuesView, list_in}
use Rattle.class_rows.proofs.RowLemmas.{fit_length, others_empty}
use Rattle.class_rows.proofs.rows.ClassQueues.first.Goals as goal

pub returns-clause-others : goal.returns-clause-others
returns-clause-others g c =
    let P : ClassQueuesView g.row.Q.Denot → Type 0 = λ d. (class : ℕ) → IsOther d class → list_in d class ≡ [] in
    let same = (fit_length g.Q.QueueRule.most c.self.inside.queues.items c.self.inside.holds.items c.self.inside.lists.lists c.self.invariant.fit).0 in
    subst P c.self.view_is (λ class o. others_empty c.self.inside.first c.self.inside.lists.lists class (λ l m. o l (omega (arith, m, same))))
