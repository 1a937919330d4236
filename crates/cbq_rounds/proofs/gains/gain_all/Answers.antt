use Rattle.std.proofs.Common.{◌<◌, ◌∙◌, ap, arith, length, refl, sym}
use Rattle.class_rows.specs.Rows.{list_in}
use Rattle.cbq_sharing.specs.Shared.{Shared}
use Rattle.cbq_rounds.proofs.GainLemmas.{IsDueNow, IsLookedAt, due_now, few_longer, gained_on, gain_kept, held_gains_nothing, lent_by, lent_now, no_gains}
use Rattle.cbq_rounds.proofs.RingLemmas.{HasHead, IsGainWalk, alike_in, gain_walk, gained_all, gained_to, head_in, place_in}
use Rattle.cbq_rounds.proofs.gains.gain_all.Given as given
use Rattle.cbq_rounds.proofs.gains.gain_all.Goals as goal
use Rattle.cbq_rounds.proofs.gains.gain_all.Goals.{After-may_gain, At-classes, In-Some, Then-may_gain}

-- the walk over the classes of the priority that are awake
walk : (g : given.Over) (c : At-classes g) → IsGainWalk c.args.shares.now (list_in c.args.rows.now) c.args.clock.now c.args.sending.now c.among-some.result
walk g c =
    gain_walk c.args.shares.now (list_in c.args.rows.now) c.args.clock.now c.args.sending.now c.args.awake.now c.args.rings.now.sets.items c.args.rings.now.tops.items
    c.among-some.result c.priority-priority.result c.requires.rings c.requires.awake c.requires.others c.among-some.ensures
    (record { free = c.requires.free; rate = c.requires.rate; due = c.requires.due; of_class = c.priority-priority.ensures })

-- the class at which it stands is of the tree
place : (g : given.Over) (c : In-Some g) → IsGainWalk c.args.shares.now (list_in c.args.rows.now) c.args.clock.now c.args.sending.now c.among-some.result → c.in-Some.class < length c.args.shares.now.tree
place g c w = place_in c.args.shares.now (list_in c.args.rows.now) c.args.clock.now c.args.sending.now c.among-some.result w c.in-Some.class c.in-Some.ensures.some.is

-- a packet waits in it
head : (g : given.Over) (c : In-Some g) → IsGainWalk c.args.shares.now (list_in c.args.rows.now) c.args.clock.now c.args.sending.now c.among-some.result → HasHead (list_in c.args.rows.now c.in-Some.class)
head g c w = head_in c.args.shares.now (list_in c.args.rows.now) c.args.clock.now c.args.sending.now c.among-some.result w c.in-Some.class c.in-Some.ensures.some.is

-- and is asked
asked : (g : given.Over) (c : After-may_gain g) → IsGainWalk c.args.shares.now (list_in c.args.rows.now) c.args.clock.now c.args.sending.now c.among-some.result → (h : HasHead (list_in c.args.rows.now c.in-Some.class))
    → IsLookedAt c.args.shares.now (list_in c.args.rows.now) c.args.clock.now c.args.sending.now c.in-Some.class h.len c.classes.shares
asked g c w h =
    record {
      gone = gained_to c.args.shares.now (list_in c.args.rows.now) c.args.clock.now c.args.sending.now c.among-some.result w c.classes.from c.in-Some.class c.classes.shares
          c.classes.invariant.0 c.in-Some.ensures.some;
      free = c.requires.free;
      rate = c.requires.rate;
      due = c.requires.due;
      place = place_in c.args.shares.now (list_in c.args.rows.now) c.args.clock.now c.args.sending.now c.among-some.result w c.in-Some.class c.in-Some.ensures.some.is;
      head = h.is;
    }

-- it may be sent
able : (g : given.Over) (c : Then-may_gain g) → IsGainWalk c.args.shares.now (list_in c.args.rows.now) c.args.clock.now c.args.sending.now c.among-some.result → (h : HasHead (list_in c.args.rows.now c.in-Some.class))
    → IsLookedAt c.args.shares.now (list_in c.args.rows.now) c.args.clock.now c.args.sending.now c.in-Some.class h.len c.classes.shares
    → IsDueNow c.args.shares.now (list_in c.args.rows.now) c.args.clock.now c.args.sending.now c.in-Some.class h.len
able g c w h q =
    due_now c.args.shares.now (list_in c.args.rows.now) c.args.clock.now c.args.sending.now c.in-Some.class h.len c.classes.shares q
    (sym (c.may_gain.ensures.may h.len h.is) ∙ c.if-may_gain.true) (alike_in c.args.shares.now (list_in c.args.rows.now) c.args.clock.now c.args.sending.now c.among-some.result w c.in-Some.class c.in-Some.ensures.some.is)

pub may_gain-requires-clause-class : goal.may_gain-requires-clause-class
may_gain-requires-clause-class g c =
    let low = place g (goal.at.may_gain-requires-clause-class g c).In-Some (walk g (goal.at.may_gain-requires-clause-class g c).At-classes) in
    omega (arith, low, ap (λ (s : Shared). length s.tree) c.classes.invariant.0.same)

pub gain-requires-clause-class : goal.gain-requires-clause-class
gain-requires-clause-class g c =
    let low = place g (goal.at.gain-requires-clause-class g c).In-Some (walk g (goal.at.gain-requires-clause-class g c).At-classes) in
    omega (arith, low, ap (λ (s : Shared). length s.tree) c.classes.invariant.0.same)

pub gain-requires-clause-few : goal.gain-requires-clause-few
gain-requires-clause-few g c =
    let w = walk g (goal.at.gain-requires-clause-few g c).At-classes in
    let h = head g (goal.at.gain-requires-clause-few g c).In-Some w in
    let q = asked g (goal.at.gain-requires-clause-few g c).After-may_gain w h in
    few_longer c.args.shares.now (list_in c.args.rows.now) c.args.clock.now c.args.sending.now c.in-Some.class h.len 262144 c.rounds-rounds.result c.classes.shares q.gone
    (able g (goal.at.gain-requires-clause-few g c).Then-may_gain w h q) c.rounds-rounds.ensures
    (h.most (c.requires.sized c.in-Some.class))

pub classes-init : goal.classes-init
classes-init g c = (
  record { same = refl; count = refl; done = λ k l h. absurd (omega (arith, l)); rest = λ k l. refl },
  c.none-last.ensures c.args.shares.now.tree c.args.shares.now.estimates c.args.clock.now c.args.sending.now.start,
)

pub may_gain-requires-clause-lent : goal.may_gain-requires-clause-lent
may_gain-requires-clause-lent g c =
    lent_now c.args.shares.now (list_in c.args.rows.now) c.args.clock.now c.args.sending.now c.classes.from c.classes.shares c.classes.last c.classes.invariant.0
    c.classes.invariant.1

pub classes-preserved-then-may_gain : goal.classes-preserved-then-may_gain
classes-preserved-then-may_gain g c =
    let w = walk g (goal.at.classes-preserved-then-may_gain g c).At-classes in
    let h = head g (goal.at.classes-preserved-then-may_gain g c).In-Some w in
    let q = asked g (goal.at.classes-preserved-then-may_gain g c).After-may_gain w h in (
      gained_on c.args.shares.now (list_in c.args.rows.now) c.args.clock.now c.args.sending.now c.in-Some.class h.len c.rounds-rounds.result c.classes.shares c.gain.new.self
          q.gone (able g (goal.at.classes-preserved-then-may_gain g c).Then-may_gain w h q) c.requires.credits c.rounds-rounds.ensures c.gain.ensures,
      lent_by c.args.shares.now (list_in c.args.rows.now) c.args.clock.now c.args.sending.now c.in-Some.class c.classes.shares c.may_gain.new.last q.gone c.may_gain.ensures.lent,
    )

pub classes-preserved : goal.classes-preserved
classes-preserved g c =
    let w = walk g (goal.at.classes-preserved g c).At-classes in
    let h = head g (goal.at.classes-preserved g c).In-Some w in
    let q = asked g (goal.at.classes-preserved g c).After-may_gain w h in (
      gain_kept c.args.shares.now (list_in c.args.rows.now) c.args.clock.now c.args.sending.now c.in-Some.class c.classes.shares q.gone
          (held_gains_nothing c.args.shares.now (list_in c.args.rows.now) c.args.clock.now c.args.sending.now c.in-Some.class h.len c.classes.shares q
          (sym (c.may_gain.ensures.may h.len h.is) ∙ c.if-may_gain.false)),
      lent_by c.args.shares.now (list_in c.args.rows.now) c.args.clock.now c.args.sending.now c.in-Some.class c.classes.shares c.may_gain.new.last q.gone c.may_gain.ensures.lent,
    )

pub returns-then-rounds-eq0 : goal.returns-then-rounds-eq0
returns-then-rounds-eq0 g c =
    no_gains c.args.shares.now (list_in c.args.rows.now) c.args.clock.now c.args.sending.now c.rounds-rounds.result c.rounds-rounds.ensures c.if-rounds-eq0.true
    c.requires.credits

pub returns : goal.returns
returns g c =
    gained_all c.args.shares.now (list_in c.args.rows.now) c.args.clock.now c.args.sending.now c.among-some.result (walk g (goal.at.returns g c).At-classes) c.classes.from
    c.classes.shares c.classes.invariant.0 c.in_default.ensures.none c.requires.credits
