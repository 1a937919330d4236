use Rattle.std.specs.Prelude.{IsTrue}
use Rattle.play_laws.proofs.LawfulLemmas as lemma
use Rattle.play_laws.proofs.policies_by_moments_are_lawful.Goals as goal

pub returns-clause-lawful : goal.returns-clause-lawful
returns-clause-lawful c = λ allowed p x. lemma.when_lawful (λ h c t. IsTrue (allowed h c t)) p x

pub returns-clause-steady : goal.returns-clause-steady
returns-clause-steady c = λ allowed p x. lemma.when_steady (λ h c t. IsTrue (allowed h c t)) p x
