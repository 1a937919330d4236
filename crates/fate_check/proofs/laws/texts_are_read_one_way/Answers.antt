use Rattle.fate_check.proofs.OneLemmas.{fates_read, never_both, one_fault, one_reading}
use Rattle.fate_check.proofs.laws.texts_are_read_one_way.Goals as goal

pub returns : goal.returns
returns c = record { one_list = one_reading; one_row = one_fault; never_both = never_both; fates_are_read = fates_read }
