use Rattle.std.proofs.Common.{◌-◌, ◌<◌, length, subst, sym, arith, ap}
use Rattle.class_rows.specs.Rows.{ClassQueuesView, list_in}
use Rattle.class_rows.proofs.RowLemmas.{fit_at, list_at-here}
use Rattle.class_rows.proofs.RowHistory.{Leaves, Swap, bounded_row, leaves, queue_is, waiting_place, swapped}
use Rattle.class_rows.proofs.rows.ClassQueues.take.Given.{Over}
use Rattle.class_rows.proofs.rows.ClassQueues.take.Goals as goal

pub overflow_sub-place : goal.overflow_sub-place
overflow_sub-place g c =
    let P : ClassQueuesView g.row.Q.Denot → Type 0 = λ d. 0 < length (list_in d c.args.class) in
    (waiting_place g.Q.QueueRule.most c.self.inside.room _ c.self.invariant c.args.class (subst P (sym c.self.view_is) c.requires.some)).low

pub index_mut-queue-requires : goal.index_mut-queue-requires
index_mut-queue-requires g c =
    let P : ClassQueuesView g.row.Q.Denot → Type 0 = λ d. 0 < length (list_in d c.args.class) in
    omega (arith, (waiting_place g.Q.QueueRule.most c.self.inside.room _ c.self.invariant c.args.class (subst P (sym c.self.view_is) c.requires.some)).there)

pub take_from-requires-clause-place : goal.take_from-requires-clause-place
take_from-requires-clause-place g c =
    let P : ClassQueuesView g.row.Q.Denot → Type 0 = λ d. 0 < length (list_in d c.args.class) in
    (waiting_place g.Q.QueueRule.most c.self.inside.room _ c.self.invariant c.args.class (subst P (sym c.self.view_is) c.requires.some)).listed

pub take_from-requires-clause-some : goal.take_from-requires-clause-some
take_from-requires-clause-some g c =
    let P : ClassQueuesView g.row.Q.Denot → Type 0 = λ d. 0 < length (list_in d c.args.class) in
    let some = subst P (sym c.self.view_is) c.requires.some in
    let place = waiting_place g.Q.QueueRule.most c.self.inside.room _ c.self.invariant c.args.class some in
    omega (arith, some, ap length (list_at-here c.self.inside.first c.self.inside.lists.lists (c.args.class - c.self.inside.first) c.args.class place.listed place.is))

pub take_from-requires-clause-precs : goal.take_from-requires-clause-precs
take_from-requires-clause-precs g c =
    let P : ClassQueuesView g.row.Q.Denot → Type 0 = λ d. 0 < length (list_in d c.args.class) in
    let place = waiting_place g.Q.QueueRule.most c.self.inside.room _ c.self.invariant c.args.class (subst P (sym c.self.view_is) c.requires.some) in
    (fit_at g.Q.QueueRule.most _ _ _ _ _ c.self.invariant.fit (queue_is _ c.args.class _ place c.index_mut-queue.ensures.value)).1

-- the row before the head leaves, and the class's queue and the lists before and after that
abbrev old : (g : Over) → goal.After-self-1 g → ClassQueuesView g.row.Q.Denot
old g c = record { first = c.self.inside.first; queues = c.self.inside.queues.items; holds = c.self.inside.holds.items; listed = c.self.inside.lists }

abbrev swap : (g : Over) → goal.After-self-1 g → Swap g.row.Q.Denot
swap g c = record { was = c.index_mut-queue.result.now; is = c.take_from.new.queue; listed = c.take_from.new.lists }

all : (g : Over) (c : goal.After-self-1 g)
    → Leaves g.Q.QueueRule.stands g.Q.QueueRule.says g.Q.QueueRule.most c.self.inside.room (old g c) (swapped (old g c) c.args.class (swap g c)) c.args.class c.args.now
all g c =
    let P : ClassQueuesView g.row.Q.Denot → Type 0 = λ d. 0 < length (list_in d c.args.class) in
    let place = waiting_place g.Q.QueueRule.most c.self.inside.room _ c.self.invariant c.args.class (subst P (sym c.self.view_is) c.requires.some) in
    leaves g.Q.QueueRule.stands g.Q.QueueRule.says g.Q.QueueRule.most c.self.inside.room (old g c) c.args.class c.args.now (swap g c) c.self.invariant (record {
      place = place;
      swap = record {
        there = queue_is _ c.args.class _ place c.index_mut-queue.ensures.value;
        same = c.take_from.ensures.kind;
        limit = c.take_from.ensures.limit;
        room = c.take_from.ensures.room;
      };
      lists = c.take_from.ensures.lists;
      goes = c.take_from.ensures.history;
    })

done : (g : Over) (c : goal.After-self-1 g)
    → Leaves g.Q.QueueRule.stands g.Q.QueueRule.says g.Q.QueueRule.most c.self.inside.room c.args.self.now (swapped (old g c) c.args.class (swap g c)) c.args.class c.args.now
done g c =
    let R : ClassQueuesView g.row.Q.Denot → Type 0 = λ d. Leaves g.Q.QueueRule.stands g.Q.QueueRule.says g.Q.QueueRule.most c.self.inside.room d
    (swapped (old g c) c.args.class (swap g c)) c.args.class c.args.now in
    subst R c.self.view_is (all g c)

pub invariant_of-self : goal.invariant_of-self
invariant_of-self g c = (all g c).row

pub returns-clause-lists : goal.returns-clause-lists
returns-clause-lists g c = (done g c).lists

pub returns-clause-recorded : goal.returns-clause-recorded
returns-clause-recorded g c = (done g c).recorded

pub returns-clause-within : goal.returns-clause-within
returns-clause-within g c = bounded_row g.Q.QueueRule.most c.self.inside.room _ (all g c).row

pub returns-clause-same : goal.returns-clause-same
returns-clause-same g c = (done g c).same
