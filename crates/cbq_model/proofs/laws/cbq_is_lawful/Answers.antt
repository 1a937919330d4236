use Rattle.cbq_model.proofs.Lawful as lawful
use Rattle.cbq_model.proofs.laws.cbq_is_lawful.Goals as goal

pub returns-clause-moments : goal.returns-clause-moments
returns-clause-moments c = lawful.sends_when

pub returns-clause-lawful : goal.returns-clause-lawful
returns-clause-lawful c = lawful.cbq_lawful

pub returns-clause-steady : goal.returns-clause-steady
returns-clause-steady c = lawful.cbq_steady
