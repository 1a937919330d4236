use Rattle.fate_judge.specs.Given.{bare_arrivals}
use Rattle.fate_judge.proofs.all.AllTests.passes.Goals as goal

pub returns-clause-passes : goal.returns-clause-passes
returns-clause-passes c = λ yes before told.
    let classes = c.args.classes.now in let arrived = bare_arrivals c.args.arrived.now in
    let is = c.is_of_arrival.ensures.passes c.if-not-is_of_arrival.false in
    record {
      read = is;
      new = c.passes.ensures.passes c.if-not-passes.false before told.seen;
      order = c.passes-2.ensures.passes c.if-not-passes-2.false classes arrived before is told.order;
      moments = c.passes-3.ensures.passes c.if-not-passes-3.false classes arrived before is told.free;
      end = c.passes-4.ensures.passes yes classes arrived before is told.link;
    }

pub returns-clause-stands : goal.returns-clause-stands
returns-clause-stands c = λ yes before told.
    let classes = c.args.classes.now in let arrived = bare_arrivals c.args.arrived.now in
    let is = c.is_of_arrival.ensures.passes c.if-not-is_of_arrival.false in
    record {
      seen = c.passes.ensures.stands c.if-not-passes.false before told.seen;
      order = c.passes-2.ensures.stands c.if-not-passes-2.false classes arrived before is told.order;
      free = c.passes-3.ensures.stands c.if-not-passes-3.false before told.free;
      link = c.passes-4.ensures.stands yes classes arrived before is told.link;
    }
