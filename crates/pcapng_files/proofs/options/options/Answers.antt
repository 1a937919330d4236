use Rattle.std.proofs.Common.{arith, ◌∙◌, sym}
use Rattle.pcapng_files.specs.Views.{settings}
use Rattle.pcapng_files.proofs.OptionLemmas.{ends_coded, ends_short, forbidden, follows}
use Rattle.pcapng_files.proofs.options.options.Goals as goal

pub returns-then-code-eq0 : goal.returns-then-code-eq0
returns-then-code-eq0 c =
    let known = c.loop-rest.invariant in
    sym (ends_coded known.0 c.args.big c.loop-rest.rest.now (settings c.loop-rest.set) (sym c.two-code.ensures ∙ c.if-code-eq0.true)) ∙ known.2

pub returns-in-None : goal.returns-in-None
returns-in-None c =
    let known = c.loop-rest.invariant in
    sym (forbidden known.0 c.args.big c.loop-rest.rest.now (settings c.loop-rest.set) c.two-code.result c.two-len.result c.behind.result.now
    (record { long = c.loop-rest-test.true; code_is = c.two-code.ensures; some = c.if-code-eq0.false; len_is = c.two-len.ensures; value_is = c.behind.ensures })
    known.1 (sym c.in-None.ensures)) ∙ known.2

pub loop-rest-preserved : goal.loop-rest-preserved
loop-rest-preserved c =
    let known = c.loop-rest.invariant in
    let next = follows known.0 c.args.big c.loop-rest.rest.now (settings c.loop-rest.set) (settings c.in-Some.next) c.two-code.result c.two-len.result
    c.behind.result.now c.behind-rest.result.now
    (record { long = c.loop-rest-test.true; code_is = c.two-code.ensures; some = c.if-code-eq0.false; len_is = c.two-len.ensures; value_is = c.behind.ensures })
    known.1 (omega arith) (sym c.in-Some.ensures) (cc) in
    (next.turns, next.enough, sym next.same ∙ known.2)

pub returns : goal.returns
returns c =
    let known = c.loop-rest.invariant in
    sym (ends_short known.0 c.args.big c.loop-rest.rest.now (settings c.loop-rest.set) (omega arith)) ∙ known.2
