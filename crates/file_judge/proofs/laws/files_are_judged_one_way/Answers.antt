use Rattle.file_judge.proofs.OneVerdict.{never_both, one_answer, one_lateness}
use Rattle.file_judge.proofs.laws.files_are_judged_one_way.Goals as goal

pub returns : goal.returns
returns c = record {
  one_answer = one_answer;
  never_both = λ g row t came h v x. never_both g row t came h v x;
  one_lateness = one_lateness;
}
