-- An interface of a configuration can be built.
use Rattle.interface_play.proofs.Cited.{is_interface}
use Rattle.interface_play.proofs.kind.play_source.Goals as goal

pub hfsc_of-requires-clause-fit : goal.hfsc_of-requires-clause-fit
hfsc_of-requires-clause-fit g c = is_interface c.laws_hold.ensures c.args.play.now.interface.now c.requires.configured

pub cbq_of-requires-clause-fit : goal.cbq_of-requires-clause-fit
cbq_of-requires-clause-fit g c = is_interface c.laws_hold.ensures c.args.play.now.interface.now c.requires.configured

pub sole_class-requires : goal.sole_class-requires
sole_class-requires g c = is_interface c.laws_hold.ensures c.args.play.now.interface.now c.requires.configured

pub one_queue_of-built-requires-clause-fit : goal.one_queue_of-built-requires-clause-fit
one_queue_of-built-requires-clause-fit g c = is_interface c.laws_hold.ensures c.args.play.now.interface.now c.requires.configured
