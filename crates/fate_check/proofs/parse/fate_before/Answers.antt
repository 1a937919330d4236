use Rattle.fate_check.proofs.FrontLemmas.{sent_stands}
use Rattle.fate_check.proofs.parse.fate_before.Goals as goal

pub returns : goal.returns
returns c =
    sent_stands c.args.text.now c.in-Some.text.now c.in_ok-start-2.text.now c.in_ok-end-2.text.now c.in-Some.rule c.in_ok-start-2.start c.in_ok-end-2.end
    c.in-Some.ensures c.in_ok-start-2.ensures c.in_ok-end-2.ensures
