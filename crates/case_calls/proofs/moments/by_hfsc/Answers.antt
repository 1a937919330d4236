-- The numbers of a configured interface are in their ranges, and its classes hold its frames.
use Rattle.case_calls.proofs.InterfaceLemmas.{fits, held_in, prec_in}
use Rattle.case_calls.proofs.moments.by_hfsc.Goals as goal

pub hfsc_of-requires-clause-fit : goal.hfsc_of-requires-clause-fit
hfsc_of-requires-clause-fit c = fits c.args.interface.now c.configurations_fit.ensures c.requires.configured

pub answer_of-requires-clause-least : goal.answer_of-requires-clause-least
answer_of-requires-clause-least c = (fits c.args.interface.now c.configurations_fit.ensures c.requires.configured).rate.0

pub answer_of-requires-clause-most : goal.answer_of-requires-clause-most
answer_of-requires-clause-most c = (fits c.args.interface.now c.configurations_fit.ensures c.requires.configured).rate.1

pub answer_of-requires-clause-held : goal.answer_of-requires-clause-held
answer_of-requires-clause-held c =
    held_in c.args.interface.now _ _ c.frames_have_classes.ensures.class c.interfaces_keep_their_promises.ensures.held c.requires.configured
    c.in_ok-hfsc.ensures.policy c.requires.placed

pub answer_of-requires-clause-precs : goal.answer_of-requires-clause-precs
answer_of-requires-clause-precs c = prec_in c.args.interface.now _ c.frames_have_classes.ensures.prec c.requires.placed
