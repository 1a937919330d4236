use Rattle.conf_tree_grammar.proofs.Whole.{accepted_is_tree, tree_is_accepted}
use Rattle.conf_tree_grammar.proofs.accepted_is_the_grammar.Goals as goal

pub returns-clause-accepted : goal.returns-clause-accepted
returns-clause-accepted c = accepted_is_tree

pub returns-clause-tree : goal.returns-clause-tree
returns-clause-tree c = tree_is_accepted
