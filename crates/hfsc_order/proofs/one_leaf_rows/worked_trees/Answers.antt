use Rattle.hfsc_order.proofs.one_leaf_rows.worked_trees.Goals as goal

pub returns-clause-not_with_real_time : goal.returns-clause-not_with_real_time
returns-clause-not_with_real_time c = λ q. let none = q.no_real_time 1 in cc

pub returns-clause-not_with_a_limit : goal.returns-clause-not_with_a_limit
returns-clause-not_with_a_limit c = λ q. let none = q.no_limits 1 in cc
