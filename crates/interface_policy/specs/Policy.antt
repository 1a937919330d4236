-- What is played of an interface: its discipline over the queues of its classes, as a policy, and the names of its queue classes.
use Rattle.std.specs.Prelude.{ℕ, List, map, filter}
use Rattle.std.specs.List.{enumerate_from}
use Rattle.play_base.specs.Units.{time_of}
use Rattle.altq_model.specs.Play.{Policy}
use Rattle.altq_model.specs.Policies.{Answering}
use Rattle.conf_tree.specs.declared.class.Class.{Class}
use Rattle.conf_tree.specs.declared.class.DropRule.{DropRule}
use Rattle.conf_tree.specs.declared.class.DropRule.TheVariants.{Tail, Red, Ecn, Rio}
use Rattle.conf_tree.specs.declared.interface.Interface.{Interface}
use Rattle.conf_tree.specs.declared.interface.Kind.{Kind}
use Rattle.conf_tree.specs.declared.interface.Kind.TheVariants.{Hfsc, Cbq}
use Rattle.conf_tree.specs.Family.{is_queue_class}
use Rattle.leaf_queue.specs.Queue.{Saying, by_queues, tail_says}
use Rattle.red_average.specs.Red.{red_says}
use Rattle.rio_precedence.specs.Any.{marking}
use Rattle.rio_precedence.specs.Rio.{rio_says}
use Rattle.hfsc_policy.specs.Policy.{hfsc_policy}
use Rattle.cbq_model.specs.Rounds.{cbq}
use Rattle.play_text.specs.Names.{NameList}
use Rattle.interface_policy.specs.Classes.{hfsc_classes, cbq_classes}

-- a step of an average is the time of 1,000 bytes on the link
abbrev pub step_of : (rate : ℕ) → ℕ
step_of rate = time_of 1000 rate

-- how a queue with this drop rule and this limit answers an offer, on a link of a rate in bits per second
abbrev pub rule_says : (rate : ℕ) → DropRule → (limit : ℕ) → Saying
rule_says rate Tail limit = tail_says limit
rule_says rate Red limit = red_says (step_of rate) limit
rule_says rate Ecn limit = marking (red_says (step_of rate) limit)
rule_says rate Rio limit = rio_says (step_of rate) limit

abbrev pub queue_says : (rate : ℕ) → Class → Saying
queue_says rate c = rule_says rate c.drop c.limit

-- each packet is answered by the queue of its class
abbrev pub answering_of : Interface → Answering
answering_of i = by_queues 0 (map (queue_says i.rate) i.classes)

abbrev pub policy_by : Kind → Interface → Policy
policy_by Hfsc i = hfsc_policy (hfsc_classes i.classes) (answering_of i)
policy_by Cbq i = cbq (cbq_classes i.classes) i.rate (answering_of i)

abbrev pub policy_of : Interface → Policy
policy_of i = policy_by i.kind i

-- the classes that hold packets, in the order of the text, with their names
abbrev pub queue_names : Interface → NameList
queue_names i =
    map (λ numbered. (numbered.0, numbered.1.name))
    (filter (λ numbered. is_queue_class i.kind i.classes numbered.0) (enumerate_from 0 i.classes))
