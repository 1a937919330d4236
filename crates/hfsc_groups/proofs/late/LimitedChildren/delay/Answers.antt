use Rattle.std.proofs.Common.{arith}
use Rattle.hfsc_groups.proofs.NeverLimited.{never_limited_stays}
use Rattle.hfsc_groups.proofs.late.LimitedChildren.delay.Goals as goal

pub returns-then-stays_never_limited : goal.returns-then-stays_never_limited
returns-then-stays_never_limited c = never_limited_stays c.args.self.now c.args.class c.args.is c.args.opens.now c.requires.place (c.stays_never_limited.ensures c.if-stays_never_limited.true)

pub delay_in-requires : goal.delay_in-requires
delay_in-requires c = record { place = c.requires.place; there = c.requires.there }

pub returns : goal.returns
returns c =
    let r = c.delay_in.ensures in
    record {
      places = λ d place. record {
        from = let from = place.from in let first = r.first in omega (arith, from, first);
        room = let room = place.room in let count = r.count in omega (arith, room, count);
      };
      classes = r.classes;
      keyed = r.keyed;
      others = r.others;
    }
