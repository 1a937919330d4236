use Rattle.std.proofs.Common.{◌≡◌, ◌∙◌, sym, ap, subst}
use Rattle.leaf_queue.specs.Words.{Drew}
use Rattle.rio_precedence.specs.Any.{marking, says_of}
use Rattle.rio_precedence.specs.declared.any.AnyQueue.{AnyQueue}
use Rattle.rio_precedence.proofs.any.AnyQueueQueueRule.offer.Goals as goal

pub returns-in-Tail-clause-verdict : goal.returns-in-Tail-clause-verdict
returns-in-Tail-clause-verdict c = λ q s d.
    let P : AnyQueue → Type 0 = λ x. c.offer.result ≡ (says_of x q c.args.now c.args.waiting c.args.prec c.args.words.now).verdict in
    subst P (sym c.in-Tail.is) (c.offer.ensures.verdict q tt d)

pub returns-in-Tail-clause-words : goal.returns-in-Tail-clause-words
returns-in-Tail-clause-words c = λ q s d.
    let P : AnyQueue → Type 0 = λ x. Drew c.args.words.now c.offer.new._words (says_of x q c.args.now c.args.waiting c.args.prec c.args.words.now).took in
    subst P (sym c.in-Tail.is) (c.offer.ensures.words q tt d)

pub returns-in-Ecn-clause-kind : goal.returns-in-Ecn-clause-kind
returns-in-Ecn-clause-kind c = ap marking c.offer-in-Ecn.ensures.kind ∙ sym (ap says_of c.in-Ecn.is)
