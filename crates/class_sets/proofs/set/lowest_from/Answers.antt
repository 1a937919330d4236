use Rattle.class_sets.proofs.Marks.{lowest_left, none_left}
use Rattle.class_sets.proofs.set.lowest_from.Goals as goal

pub returns-then-rest-eq0-clause-none : goal.returns-then-rest-eq0-clause-none
returns-then-rest-eq0-clause-none c = none_left c.args.word c.args.place c.if-rest-eq0.true

pub returns-else-rest-eq0-clause-some : goal.returns-else-rest-eq0-clause-some
returns-else-rest-eq0-clause-some c = lowest_left c.args.word c.args.place c.if-rest-eq0.false c.ranges.word.fits
