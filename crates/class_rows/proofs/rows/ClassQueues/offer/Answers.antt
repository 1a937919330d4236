use Rattle.std.proofs.Common.{subst, sym, arith}
use Rattle.altq_model.specs.Lawful.{IsOneOf}
use Rattle.class_rows.specs.Rows.{ClassQueuesView, classes_in}
use Rattle.class_rows.proofs.RowLemmas.{fit_at, fit_less}
use Rattle.class_rows.proofs.RowHistory.{Offering, Offers, Swap, bounded_row, offers, queue_is, queue_place, swapped}
use Rattle.class_rows.proofs.rows.ClassQueues.offer.Given.{Over}
use Rattle.class_rows.proofs.rows.ClassQueues.offer.Goals as goal

pub overflow_sub-place : goal.overflow_sub-place
overflow_sub-place g c =
    let P : ClassQueuesView g.row.Q.Denot → Type 0 = λ d. IsOneOf c.args.class (classes_in d) in
    (queue_place g.Q.QueueRule.most c.self.inside.room _ c.self.invariant c.args.class (subst P (sym c.self.view_is) c.requires.class)).0.low

pub index_mut-queue-requires : goal.index_mut-queue-requires
index_mut-queue-requires g c =
    let P : ClassQueuesView g.row.Q.Denot → Type 0 = λ d. IsOneOf c.args.class (classes_in d) in
    omega (arith, (queue_place g.Q.QueueRule.most c.self.inside.room _ c.self.invariant c.args.class (subst P (sym c.self.view_is) c.requires.class)).0.there)

pub offer_to-requires-clause-place : goal.offer_to-requires-clause-place
offer_to-requires-clause-place g c =
    let P : ClassQueuesView g.row.Q.Denot → Type 0 = λ d. IsOneOf c.args.class (classes_in d) in
    (queue_place g.Q.QueueRule.most c.self.inside.room _ c.self.invariant c.args.class (subst P (sym c.self.view_is) c.requires.class)).0.listed

pub offer_to-requires-clause-bounded : goal.offer_to-requires-clause-bounded
offer_to-requires-clause-bounded g c =
    let P : ClassQueuesView g.row.Q.Denot → Type 0 = λ d. IsOneOf c.args.class (classes_in d) in
    let place = queue_place g.Q.QueueRule.most c.self.inside.room _ c.self.invariant c.args.class (subst P (sym c.self.view_is) c.requires.class) in
    (fit_at g.Q.QueueRule.most _ _ _ _ _ c.self.invariant.fit (queue_is _ c.args.class _ place.0 c.index_mut-queue.ensures.value)).0

pub offer_to-requires-clause-room : goal.offer_to-requires-clause-room
offer_to-requires-clause-room g c = λ less.
    let P : ClassQueuesView g.row.Q.Denot → Type 0 = λ d. IsOneOf c.args.class (classes_in d) in
    let place = queue_place g.Q.QueueRule.most c.self.inside.room _ c.self.invariant c.args.class (subst P (sym c.self.view_is) c.requires.class) in
    omega (
      arith,
      fit_less g.Q.QueueRule.most _ _ _ _ _ c.self.invariant.fit (queue_is _ c.args.class _ place.0 c.index_mut-queue.ensures.value) place.1 less,
      c.self.invariant.sum,
      c.self.invariant.there,
    )

-- the row before the offer, the offer as it was answered, and the class's queue and the lists before and after it
abbrev old : (g : Over) → goal.After-self-1 g → ClassQueuesView g.row.Q.Denot
old g c = record { first = c.self.inside.first; queues = c.self.inside.queues.items; holds = c.self.inside.holds.items; listed = c.self.inside.lists }

abbrev offering : (g : Over) → goal.After-self-1 g → Offering
offering g c = record {
  class = c.args.class;
  entry = c.args.entry;
  now = c.args.now;
  words = c.args.words.now;
  after = c.offer_to.new.words;
  verdict = c.offer_to.result;
}

abbrev swap : (g : Over) → goal.After-self-1 g → Swap g.row.Q.Denot
swap g c = record { was = c.index_mut-queue.result.now; is = c.offer_to.new.queue; listed = c.offer_to.new.lists }

all : (g : Over) (c : goal.After-self-1 g)
    → Offers g.Q.QueueRule.stands g.Q.QueueRule.says g.Q.QueueRule.most c.self.inside.room (old g c) (swapped (old g c) c.args.class (swap g c)) (offering g c)
all g c =
    let P : ClassQueuesView g.row.Q.Denot → Type 0 = λ d. IsOneOf c.args.class (classes_in d) in
    let place = queue_place g.Q.QueueRule.most c.self.inside.room _ c.self.invariant c.args.class (subst P (sym c.self.view_is) c.requires.class) in
    offers g.Q.QueueRule.stands g.Q.QueueRule.says g.Q.QueueRule.most c.self.inside.room (old g c) (swap g c) (offering g c) c.self.invariant (record {
      place = place.0;
      held = place.1;
      swap = record {
        there = queue_is _ c.args.class _ place.0 c.index_mut-queue.ensures.value;
        same = c.offer_to.ensures.kind;
        limit = c.offer_to.ensures.limit;
        room = c.offer_to.ensures.room;
      };
      small = c.requires.prec;
      lists = c.offer_to.ensures.lists;
      full = c.offer_to.ensures.full;
      asks = λ t k few. (c.offer_to.ensures.verdict t k few, c.offer_to.ensures.words t k few, c.offer_to.ensures.history t k few);
    })

done : (g : Over) (c : goal.After-self-1 g)
    → Offers g.Q.QueueRule.stands g.Q.QueueRule.says g.Q.QueueRule.most c.self.inside.room c.args.self.now (swapped (old g c) c.args.class (swap g c)) (offering g c)
done g c =
    let R : ClassQueuesView g.row.Q.Denot → Type 0 = λ d. Offers g.Q.QueueRule.stands g.Q.QueueRule.says g.Q.QueueRule.most c.self.inside.room d
    (swapped (old g c) c.args.class (swap g c)) (offering g c) in
    subst R c.self.view_is (all g c)

pub invariant_of-self : goal.invariant_of-self
invariant_of-self g c = (all g c).row

pub returns-clause-lists : goal.returns-clause-lists
returns-clause-lists g c = (done g c).lists

pub returns-clause-full : goal.returns-clause-full
returns-clause-full g c = (done g c).full

pub returns-clause-recorded : goal.returns-clause-recorded
returns-clause-recorded g c = (done g c).recorded

pub returns-clause-within : goal.returns-clause-within
returns-clause-within g c = bounded_row g.Q.QueueRule.most c.self.inside.room _ (all g c).row

pub returns-clause-same : goal.returns-clause-same
returns-clause-same g c = (done g c).same
