use Rattle.std.proofs.Common.{◌≡◌, ◌≤◌, ◌<◌, ◌+◌, ◌∙◌, subst, sym, length}
use Rattle.std.specs.Prelude.{slice_get}
use Rattle.class_rows.specs.Rows.{ClassQueuesView, list_in}
use Rattle.class_rows.proofs.RowHistory.{head_is, known_place}
use Rattle.class_rows.proofs.rows.ClassQueues.head.Goals as goal

pub head-requires : goal.head-requires
head-requires g c =
    let P : ClassQueuesView g.row.Q.Denot → Type 0 = λ d. (d.first ≤ c.args.class) × (c.args.class < d.first + length d.queues) in
    let r = subst P (sym c.self.view_is) (c.requires.low, c.requires.high) in
    (known_place g.Q.QueueRule.most c.self.inside.room _ c.self.invariant c.args.class r.0 r.1).listed

pub returns : goal.returns
returns g c =
    let P : ClassQueuesView g.row.Q.Denot → Type 0 = λ d. (d.first ≤ c.args.class) × (c.args.class < d.first + length d.queues) in
    let R : ClassQueuesView g.row.Q.Denot → Type 0 = λ d. c.head.result ≡ slice_get (list_in d c.args.class) 0 in
    let r = subst P (sym c.self.view_is) (c.requires.low, c.requires.high) in
    subst R c.self.view_is
    (c.head.ensures ∙ head_is _ c.args.class (known_place g.Q.QueueRule.most c.self.inside.room _ c.self.invariant c.args.class r.0 r.1))
