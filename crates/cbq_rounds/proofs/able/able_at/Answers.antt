use Rattle.std.proofs.Common.{◌+◌, ◌∙◌, ℕ, Bool, List, [], None, Some, ap, arith, get_or, sym}
use Rattle.std.specs.declared.option.Option.{Option}
use Rattle.std.specs.Prelude.{option_map, if◌then◌else◌}
use Rattle.leaf_queue.specs.declared.node.Entry.{Entry}
use Rattle.class_rows.specs.Rows.{list_in}
use Rattle.cbq_sharing.proofs.WaitLemmas.{first_sized, head_of}
use Rattle.cbq_model.specs.Choice.{better}
use Rattle.cbq_rounds.proofs.LookLemmas.{IsNext, asked_able, asked_held, asked_same}
use Rattle.cbq_rounds.proofs.RingLemmas.{IsWalk, asked_ring, inside, never_none, next_of_walk}
use Rattle.cbq_rounds.proofs.able.able_at.Given as given
use Rattle.cbq_rounds.proofs.able.able_at.Goals as goal
use Rattle.cbq_rounds.proofs.able.able_at.Goals.{After-among-some, After-may_send}

-- the walk over the classes of the priority that are awake
walk : (g : given.Over) (c : After-among-some g) → IsWalk c.args.shares.now (list_in c.args.rows.now) c.args.clock.now c.args.now c.args.priority c.among-some.result
walk g c = record {
  words = c.args.awake.now;
  ring = get_or c.args.rings.now.sets.items c.args.priority [];
  awake = c.requires.awake;
  ring_is = c.requires.rings.ring_of c.args.priority c.requires.priority;
  others = c.requires.others;
  within = c.among-some.ensures;
}

-- the class at which it stands is the next to be asked
next : (g : given.Over) (c : After-may_send g) → IsWalk c.args.shares.now (list_in c.args.rows.now) c.args.clock.now c.args.now c.args.priority c.among-some.result
    → IsNext c.args.shares.now (list_in c.args.rows.now) c.args.clock.now c.args.now c.args.priority c.classes.from c.in-Some.class c.in-Some-head.head.len c.classes.best
next g c w =
    let lists : ℕ → List Entry = list_in c.args.rows.now in
    next_of_walk c.args.shares.now lists c.args.clock.now c.args.now c.args.priority c.classes.from c.in-Some.class c.in-Some-head.head.len c.classes.best
    (record {
      both = c.among-some.result;
      walk = w;
      first = c.in-Some.ensures.some;
      rate = c.requires.rate;
      head = head_of (lists c.in-Some.class) c.head.result c.head.ensures ∙ ap (λ (o : Option Entry). option_map (λ (y : Entry). y.len) o) c.in-Some-head.is;
    })
    c.classes.invariant.0

pub returns-then-is_empty : goal.returns-then-is_empty
returns-then-is_empty g c =
    asked_ring c.args.shares.now (list_in c.args.rows.now) c.args.clock.now c.args.now c.args.priority 0 (get_or c.args.rings.now.tops.items c.args.priority 0) None
    c.among-some.result (walk g (goal.at.returns-then-is_empty g c).After-among-some) c.requires.asked
    (c.requires.rings.top_of c.args.priority (omega (arith, c.requires.priority))) (λ k l. c.is_empty.ensures.none c.if-is_empty.true k)

pub classes-init : goal.classes-init
classes-init g c = (c.requires.asked, c.none-last.ensures c.args.shares.now.tree c.args.shares.now.estimates c.args.clock.now c.args.now)

pub classes-preserved-in_default-head : goal.classes-preserved-in_default-head
classes-preserved-in_default-head g c =
    absurd (never_none c.args.shares.now (list_in c.args.rows.now) c.args.clock.now c.args.now c.args.priority c.among-some.result
    (walk g (goal.at.classes-preserved-in_default-head g c).After-among-some) c.in-Some.class c.in-Some.ensures.some.is
    (head_of (list_in c.args.rows.now c.in-Some.class) c.head.result c.head.ensures
    ∙ ap (λ (o : Option Entry). option_map (λ (y : Entry). y.len) o) c.in_default-head.is))

pub head-requires-clause-high : goal.head-requires-clause-high
head-requires-clause-high g c =
    let place = inside c.args.shares.now (list_in c.args.rows.now) c.args.clock.now c.args.now c.args.priority c.among-some.result (walk g (goal.at.head-requires-clause-high g c).After-among-some)
    c.in-Some.class c.in-Some.ensures.some.is in
    omega (arith, place, c.requires.count, c.requires.first)

pub may_send-requires-clause-class : goal.may_send-requires-clause-class
may_send-requires-clause-class g c =
    inside c.args.shares.now (list_in c.args.rows.now) c.args.clock.now c.args.now c.args.priority c.among-some.result (walk g (goal.at.may_send-requires-clause-class g c).After-among-some)
    c.in-Some.class c.in-Some.ensures.some.is

pub rank-rank-requires : goal.rank-rank-requires
rank-rank-requires g c = record {
  class = inside c.args.shares.now (list_in c.args.rows.now) c.args.clock.now c.args.now c.args.priority c.among-some.result (walk g (goal.at.rank-rank-requires g c).After-among-some)
      c.in-Some.class c.in-Some.ensures.some.is;
}

pub may_send-requires-clause-some_bytes : goal.may_send-requires-clause-some_bytes
may_send-requires-clause-some_bytes g c =
    (first_sized (list_in c.args.rows.now c.in-Some.class) c.in-Some-head.head (c.requires.sized c.in-Some.class) (sym c.head.ensures ∙ c.in-Some-head.is)).0

pub classes-preserved-then-leads : goal.classes-preserved-then-leads
classes-preserved-then-leads g c = (
  asked_same c.args.shares.now (list_in c.args.rows.now) c.args.clock.now c.args.now c.args.priority (c.in-Some.class + 1) (better c.classes.best c.rank-rank.result) (Some c.rank-rank.result)
      (asked_able c.args.shares.now (list_in c.args.rows.now) c.args.clock.now c.args.now c.args.priority c.classes.from c.in-Some.class c.in-Some-head.head.len c.classes.best
      c.rank-rank.result (next g (goal.at.classes-preserved-then-leads g c).After-may_send (walk g (goal.at.classes-preserved-then-leads g c).After-among-some))
      (sym c.may_send.ensures.may ∙ c.if-may_send.true)
      (record { of_priority = c.rank-rank.ensures.priority; of_rounds = c.rank-rank.ensures.rounds; of_wraps = c.rank-rank.ensures.wraps; of_class = c.rank-rank.ensures.class }))
      (c.leads.ensures ∙ ap (λ (b : Bool). if b then Some c.rank-rank.result else c.classes.best) c.if-leads.true),
  c.may_send.ensures.lent,
)

pub classes-preserved-else-leads : goal.classes-preserved-else-leads
classes-preserved-else-leads g c = (
  asked_same c.args.shares.now (list_in c.args.rows.now) c.args.clock.now c.args.now c.args.priority (c.in-Some.class + 1) (better c.classes.best c.rank-rank.result) c.classes.best
      (asked_able c.args.shares.now (list_in c.args.rows.now) c.args.clock.now c.args.now c.args.priority c.classes.from c.in-Some.class c.in-Some-head.head.len c.classes.best
      c.rank-rank.result (next g (goal.at.classes-preserved-else-leads g c).After-may_send (walk g (goal.at.classes-preserved-else-leads g c).After-among-some))
      (sym c.may_send.ensures.may ∙ c.if-may_send.true)
      (record { of_priority = c.rank-rank.ensures.priority; of_rounds = c.rank-rank.ensures.rounds; of_wraps = c.rank-rank.ensures.wraps; of_class = c.rank-rank.ensures.class }))
      (c.leads.ensures ∙ ap (λ (b : Bool). if b then Some c.rank-rank.result else c.classes.best) c.if-leads.false),
  c.may_send.ensures.lent,
)

pub classes-preserved-then-is_none : goal.classes-preserved-then-is_none
classes-preserved-then-is_none g c = (
  asked_held c.args.shares.now (list_in c.args.rows.now) c.args.clock.now c.args.now c.args.priority c.classes.from c.in-Some.class c.in-Some-head.head.len c.classes.best
      (next g (goal.at.classes-preserved-then-is_none g c).After-may_send (walk g (goal.at.classes-preserved-then-is_none g c).After-among-some)) (sym c.may_send.ensures.may ∙ c.if-may_send.false),
  c.may_send.ensures.lent,
)

pub classes-preserved : goal.classes-preserved
classes-preserved g c = (
  asked_held c.args.shares.now (list_in c.args.rows.now) c.args.clock.now c.args.now c.args.priority c.classes.from c.in-Some.class c.in-Some-head.head.len c.classes.best
      (next g (goal.at.classes-preserved g c).After-may_send (walk g (goal.at.classes-preserved g c).After-among-some)) (sym c.may_send.ensures.may ∙ c.if-may_send.false),
  c.may_send.ensures.lent,
)

pub returns : goal.returns
returns g c =
    asked_ring c.args.shares.now (list_in c.args.rows.now) c.args.clock.now c.args.now c.args.priority c.classes.from (get_or c.args.rings.now.tops.items c.args.priority 0) c.classes.best
    c.among-some.result (walk g (goal.at.returns g c).After-among-some) c.classes.invariant.0
    (c.requires.rings.top_of c.args.priority (omega (arith, c.requires.priority))) c.in_default.ensures.none
