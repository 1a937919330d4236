use Rattle.std.proofs.Common.{◌≡◌, ◌≤◌, subst}
use Rattle.discipline.specs.Laws.{held_in, room_of}
use Rattle.class_rows.specs.Rows.{ClassQueuesView, classes_in, limit_in, list_in}
use Rattle.class_rows.proofs.RowHistory.{room_row, within_row}
use Rattle.class_rows.proofs.rows.ClassQueues.room.Goals as goal

pub returns-clause-sum : goal.returns-clause-sum
returns-clause-sum g c =
    let P : ClassQueuesView g.row.Q.Denot → Type 0 = λ d. c.self.inside.room ≡ room_of (limit_in g.Q.QueueRule.most d) (classes_in d) in
    subst P c.self.view_is (room_row g.Q.QueueRule.most c.self.inside.room _ c.self.invariant)

pub returns-clause-within : goal.returns-clause-within
returns-clause-within g c =
    let P : ClassQueuesView g.row.Q.Denot → Type 0 = λ d. held_in (list_in d) (classes_in d) ≤ c.self.inside.room in
    subst P c.self.view_is (within_row g.Q.QueueRule.most c.self.inside.room _ c.self.invariant)
