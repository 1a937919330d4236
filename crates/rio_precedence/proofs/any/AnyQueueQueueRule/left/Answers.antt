use Rattle.std.proofs.Common.{◌∙◌, sym, ap}
use Rattle.rio_precedence.specs.Any.{marking, says_of}
use Rattle.rio_precedence.proofs.any.AnyQueueQueueRule.left.Goals as goal

pub returns-in-Ecn-clause-kind : goal.returns-in-Ecn-clause-kind
returns-in-Ecn-clause-kind c = ap marking c.left-in-Ecn.ensures.kind ∙ sym (ap says_of c.in-Ecn.is)
