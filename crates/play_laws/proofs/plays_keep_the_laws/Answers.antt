use Rattle.play_laws.proofs.AllLaws as lemma
use Rattle.play_laws.proofs.plays_keep_the_laws.Goals as goal

pub returns-clause-laws : goal.returns-clause-laws
returns-clause-laws c = lemma.play_laws

pub returns-clause-whole : goal.returns-clause-whole
returns-clause-whole c = lemma.play_is_whole
