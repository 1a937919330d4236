use Rattle.std.proofs.Common.{◌<◌, ◌∙◌, length, Some, sym, arith}
use Rattle.flow_filter.specs.declared.numbers.Numbers.TheVariants as numbers
use Rattle.flow_filter.specs.Entries.{takes_4, takes_at}
use Rattle.flow_filter.proofs.EntrySearch.{fits_here, fits_not, fits_nowhere, takes_is}
use Rattle.flow_filter.proofs.entries.first_of_4.Goals as goal

pub returns-then-fits_4 : goal.returns-then-fits_4
returns-then-fits_4 c =
    let xs = c.args.entries.now in
    let within : c.loop-k.k < length c.args.entries.now = omega (arith, c.min-k-end.ensures, c.loop-k-test.true) in
    let high : c.loop-k.k < c.args.end = omega (arith, c.min-k-end.ensures, c.loop-k-test.true) in
    fits_here (takes_at takes_4 xs (Some (numbers.V4 c.args.flow.now))) c.args.start c.args.end c.loop-k.k c.loop-k.invariant.1 c.loop-k.invariant.0 high
    (takes_is takes_4 xs (Some (numbers.V4 c.args.flow.now)) c.loop-k.k _ within ∙ sym c.fits_4.ensures ∙ c.if-fits_4.true)

pub returns : goal.returns
returns c =
    fits_nowhere takes_4 c.args.entries.now (Some (numbers.V4 c.args.flow.now)) c.args.start c.args.end c.loop-k.k c.loop-k.invariant.1
    (omega (arith, c.min-k-end.ensures, c.loop-k-test.false))

pub loop-k-preserved : goal.loop-k-preserved
loop-k-preserved c =
    let xs = c.args.entries.now in
    let within : c.loop-k.k < length c.args.entries.now = omega (arith, c.min-k-end.ensures, c.loop-k-test.true) in
    let low = c.loop-k.invariant.0 in (
      omega arith,
      fits_not (takes_at takes_4 xs (Some (numbers.V4 c.args.flow.now))) c.args.start c.loop-k.k c.loop-k.invariant.1
          (takes_is takes_4 xs (Some (numbers.V4 c.args.flow.now)) c.loop-k.k _ within ∙ sym c.fits_4.ensures ∙ c.if-fits_4.false),
    )
