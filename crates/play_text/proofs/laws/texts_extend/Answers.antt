use Rattle.play_text.proofs.TextLemmas as lemma
use Rattle.play_text.proofs.laws.texts_extend.Goals as goal

pub returns-clause-fates : goal.returns-clause-fates
returns-clause-fates c = lemma.fates-append

pub returns-clause-rows : goal.returns-clause-rows
returns-clause-rows c = lemma.fate_rows-append

pub returns-clause-stay : goal.returns-clause-stay
returns-clause-stay c = lemma.rows_stay
