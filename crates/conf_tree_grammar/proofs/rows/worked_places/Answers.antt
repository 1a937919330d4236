use Rattle.std.proofs.Common.{refl, arith}
use Rattle.conf_tree_grammar.proofs.rows.worked_places.Goals as goal

pub returns-clause-class : goal.returns-clause-class
returns-clause-class c = record {
  stands = refl;
  room = omega arith;
  new = refl;
  root = λ e. absurd cc;
  below = λ e. record { stands = refl; level = omega arith; real_time = refl; packets = λ hfsc. record { default = refl; filter = refl; conditioner = refl } };
  own = λ e. refl;
  default = omega arith;
  rates = (tt, (tt, (tt, (tt, tt))));
}

pub returns-clause-other_kind : goal.returns-clause-other_kind
returns-clause-other_kind c = λ h. let e = h.stands in cc

pub returns-clause-name_taken : goal.returns-clause-name_taken
returns-clause-name_taken c = λ h. let e = h.new in cc

pub returns-clause-no_parent : goal.returns-clause-no_parent
returns-clause-no_parent c = λ h. let e = (h.below refl).stands in cc

pub returns-clause-two_roots : goal.returns-clause-two_roots
returns-clause-two_roots c = λ h. let e = h.root refl in cc

pub returns-clause-no_share : goal.returns-clause-no_share
returns-clause-no_share c = λ h. let e = h.own refl in cc

pub returns-clause-two_defaults : goal.returns-clause-two_defaults
returns-clause-two_defaults c = λ h. let e = h.default in omega arith

pub returns-clause-real_time_inside : goal.returns-clause-real_time_inside
returns-clause-real_time_inside c = λ h. let e = h.real_time in cc

pub returns-clause-inner_queue : goal.returns-clause-inner_queue
returns-clause-inner_queue c = λ h. let e = (h.packets refl).default in cc

pub returns-clause-seventh_level : goal.returns-clause-seventh_level
returns-clause-seventh_level c =
    record { stands = refl; level = omega arith; real_time = refl; packets = λ hfsc. record { default = refl; filter = refl; conditioner = refl } }

pub returns-clause-eighth_level : goal.returns-clause-eighth_level
returns-clause-eighth_level c = λ h. let e = h.level in omega arith

pub returns-clause-filter : goal.returns-clause-filter
returns-clause-filter c = record { named = record { kind = _; said = refl; stands = refl; leaf = λ hfsc. refl }; room = omega arith }

pub returns-clause-filter_inside : goal.returns-clause-filter_inside
returns-clause-filter_inside c = λ h. let s = h.named.said in let e = h.named.leaf cc in cc

pub returns-clause-no_class : goal.returns-clause-no_class
returns-clause-no_class c = λ h. let e = h.named.stands in cc

pub returns-clause-conditioner_twice : goal.returns-clause-conditioner_twice
returns-clause-conditioner_twice c = λ h. let e = h.first in cc

pub returns-clause-interface_twice : goal.returns-clause-interface_twice
returns-clause-interface_twice c = λ h. let e = h.new in cc

pub returns-clause-least_rate : goal.returns-clause-least_rate
returns-clause-least_rate c = ((omega arith, omega arith), (tt, tt))

pub returns-clause-below_it : goal.returns-clause-below_it
returns-clause-below_it c = λ h. let e = h.0.0 in omega arith
