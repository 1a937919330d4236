-- The words of rules at the front of a text.
use Rattle.std.proofs.Common.{◌≡◌, ◌∙◌, ◌++◌, ◌∷◌, ℕ, List, ap}
use Rattle.altq_model.specs.declared.Rule.{Rule}
use Rattle.line_text.specs.Numbers.{cut}
use Rattle.play_text.specs.Texts.{rule_word}
use Rattle.fate_check.specs.Front.{RuleStands}
use Rattle.fate_check.proofs.CutLemmas.{cut-front}
use Rattle.fate_check.proofs.FieldLemmas.{lacks_comma}
use Rattle.fate_check.proofs.RowLemmas.{plain_rule, rule_read}

-- a word and its comma
pub rule_stands : (rule : Rule) (text rest : List ℕ) → text ≡ rule_word rule ++ 44 ∷ rest → RuleStands text rule rest
rule_stands rule text rest e = record {
  word = rule_word rule;
  parts = ap (cut 44) e ∙ cut-front 44 (rule_word rule) rest (lacks_comma (rule_word rule) (plain_rule rule));
  is = rule_read rule;
}
