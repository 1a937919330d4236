use Rattle.std.specs.Prelude.{◌∷◌, []}
use Rattle.altq_model.specs.declared.Rule.TheVariants.{Share}
use Rattle.altq_model.specs.Policies.{tail}
use Rattle.play_laws.proofs.StrictLemmas as lemma
use Rattle.play_laws.proofs.strict_order_is_lawful.Goals as goal

pub returns-clause-lawful : goal.returns-clause-lawful
returns-clause-lawful c = lemma.strict_lawful

pub returns-clause-one_lawful : goal.returns-clause-one_lawful
returns-clause-one_lawful c = λ limit. lemma.strict_lawful (1 ∷ []) Share (tail limit)

pub returns-clause-one_holds : goal.returns-clause-one_holds
returns-clause-one_holds c = lemma.one_queue_holds

pub returns-clause-steady : goal.returns-clause-steady
returns-clause-steady c = lemma.steady
