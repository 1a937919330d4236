-- What stands at the front of a text.
use Rattle.std.specs.Prelude.{◌≡◌, ◌≤◌, ◌<◌, ◌^◌, ℕ, true, List, length, take, Some}
use Rattle.std.specs.Str.Parse.{digits_value}
use Rattle.altq_model.specs.declared.Fate.{Fate}
use Rattle.altq_model.specs.declared.Rule.{Rule}
use Rattle.line_text.specs.Numbers.{are_digits, cut}
use Rattle.fate_check.specs.Parse.{fate_of, number_of, rule_of}

-- the first `count` bytes of a text are digits, and write the number `n`
pub record WritesFirst (text : List ℕ) (count n : ℕ) : Type 0 where
  pub inside : count ≤ length text
  pub digits : are_digits 10 (take count text) ≡ true
  pub value : n ≡ digits_value 10 (take count text)
  pub small : n < 10 ^ count

-- the field at the front, up to a mark, writes a number; and what stands behind the mark
pub record StandsBefore (mark : ℕ) (text : List ℕ) (n : ℕ) (rest : List ℕ) : Type 0 where
  pub field : List ℕ
  pub parts : cut mark text ≡ Some (field, rest)
  pub number : number_of field ≡ Some n

-- the field at the front is the word of a rule; and what stands behind its comma
pub record RuleStands (text : List ℕ) (rule : Rule) (rest : List ℕ) : Type 0 where
  pub word : List ℕ
  pub parts : cut 44 text ≡ Some (word, rest)
  pub is : rule_of word ≡ Some rule

-- the three fields at the front are those of a fate; and what stands behind them
pub record FateStands (text : List ℕ) (fate : Fate) (rest : List ℕ) : Type 0 where
  pub word : List ℕ
  pub behind : List ℕ
  pub start : List ℕ
  pub middle : List ℕ
  pub end : List ℕ
  pub named : cut 44 text ≡ Some (word, behind)
  pub first : cut 44 behind ≡ Some (start, middle)
  pub last : cut 10 middle ≡ Some (end, rest)
  pub is : fate_of word start end ≡ Some fate
