use Rattle.std.proofs.Common.{◌∙◌, ap, arith, sym}
use Rattle.discipline.specs.declared.pick.Pick.TheVariants.{Send}
use Rattle.class_rows.specs.Rows.{list_in}
use Rattle.cbq_rounds.proofs.DueLemmas.{found_head, found_is, found_sent, same_rank}
use Rattle.cbq_sharing.proofs.WaitLemmas.{first_sized}
use Rattle.cbq_rounds.proofs.cbq.pick_of.Goals as goal

pub returns-in_default-best : goal.returns-in_default-best
returns-in_default-best g c =
    let x = found_is c.args.shares.now (list_in c.args.rows.now) c.args.clock.now c.args.now c.in-Some.till c.args.found.now.till c.args.found.now.best c.requires.free c.requires.rate
    c.requires.till c.in-Some.is c.if-till-now.false c.requires.best in
    let y = x.is in
    let z = c.in_default-best.is in
    absurd (cc)

pub head-requires-clause-high : goal.head-requires-clause-high
head-requires-clause-high g c =
    let x = found_is c.args.shares.now (list_in c.args.rows.now) c.args.clock.now c.args.now c.in-Some.till c.args.found.now.till c.args.found.now.best c.requires.free c.requires.rate
    c.requires.till c.in-Some.is c.if-till-now.false c.requires.best in
    let place = same_rank c.args.shares.now (list_in c.args.rows.now) c.args.clock.now c.args.now c.args.found.now.best c.in-Some-best.best x c.in-Some-best.is in
    omega (arith, place.1, c.requires.count)

pub returns-in_default-head : goal.returns-in_default-head
returns-in_default-head g c =
    let x = found_is c.args.shares.now (list_in c.args.rows.now) c.args.clock.now c.args.now c.in-Some.till c.args.found.now.till c.args.found.now.best c.requires.free c.requires.rate
    c.requires.till c.in-Some.is c.if-till-now.false c.requires.best in
    let there = found_head c.args.shares.now (list_in c.args.rows.now) c.args.clock.now c.args.now c.args.found.now.best c.in-Some-best.best x c.in-Some-best.is in
    let y = there.front in
    let z = c.head.ensures in
    let w = c.in_default-head.is in
    absurd (cc)

pub allows-allowed-requires-clause-class : goal.allows-allowed-requires-clause-class
allows-allowed-requires-clause-class g c =
    let x = found_is c.args.shares.now (list_in c.args.rows.now) c.args.clock.now c.args.now c.in-Some.till c.args.found.now.till c.args.found.now.best c.requires.free c.requires.rate
    c.requires.till c.in-Some.is c.if-till-now.false c.requires.best in
    (same_rank c.args.shares.now (list_in c.args.rows.now) c.args.clock.now c.args.now c.args.found.now.best c.in-Some-best.best x c.in-Some-best.is).1

pub allows-allowed-requires-clause-some_bytes : goal.allows-allowed-requires-clause-some_bytes
allows-allowed-requires-clause-some_bytes g c =
    (first_sized (list_in c.args.rows.now c.in-Some-best.best.class) c.in-Some-head.head (c.requires.sized c.in-Some-best.best.class) (sym c.head.ensures ∙ c.in-Some-head.is)).0

pub allows-allowed-requires-clause-few_bytes : goal.allows-allowed-requires-clause-few_bytes
allows-allowed-requires-clause-few_bytes g c =
    (first_sized (list_in c.args.rows.now c.in-Some-best.best.class) c.in-Some-head.head (c.requires.sized c.in-Some-best.best.class) (sym c.head.ensures ∙ c.in-Some-head.is)).1

pub returns : goal.returns
returns g c =
    let x = found_is c.args.shares.now (list_in c.args.rows.now) c.args.clock.now c.args.now c.in-Some.till c.args.found.now.till c.args.found.now.best c.requires.free c.requires.rate
    c.requires.till c.in-Some.is c.if-till-now.false c.requires.best in
    ap (λ r. Send c.in-Some-head.head.ticket c.in-Some-best.best.class c.in-Some-head.head.len r) c.rule_of.ensures
    ∙ found_sent c.args.shares.now (list_in c.args.rows.now) c.args.clock.now c.args.now c.args.found.now.best c.in-Some-best.best c.in-Some-head.head c.allows-allowed.result
    c.requires.free c.requires.rate x c.in-Some-best.is (sym c.head.ensures ∙ c.in-Some-head.is) c.allows-allowed.ensures
