use Rattle.fate_judge.proofs.all.AllTests.new.Goals as goal

pub returns-clause-told : goal.returns-clause-told
returns-clause-told c = λ rate arrived. record {
  seen = c.in_ok-new.ensures.none;
  order = c.in_ok-new-2.ensures.none arrived;
  free = c.new-3.ensures;
  link = c.new-4.ensures.link rate arrived;
}
