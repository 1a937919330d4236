use Rattle.fate_judge.proofs.OneWay.{not_refuted, one_answer}
use Rattle.fate_judge.proofs.laws.rows_fail_one_way.Goals as goal

pub returns : goal.returns
returns c = record { one_answer = one_answer; never_both = not_refuted }
