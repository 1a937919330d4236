-- The fates of a play are shorter than 2^30 bytes.
use Rattle.std.proofs.Common.{◌≡◌, ◌≤◌, ◌+◌, ◌*◌, ◌&&◌, ℕ, true, List, [], ◌∷◌, ◌++◌, length, get_or, ap, arith}
use Rattle.std.specs.Prelude.{nat_le}
use Rattle.std.proofs.lemmas.Bool.{and_parts}
use Rattle.std.proofs.lemmas.Bool.Decides.{nat_tests}
use Rattle.std.proofs.lemmas.Fmt.{length-decimal-le}
use Rattle.std.proofs.lemmas.List.{length-append}
use Rattle.std.proofs.lemmas.List.Elements.{recursion_from_All}
use Rattle.altq_model.specs.declared.Fate.{Fate}
use Rattle.altq_model.specs.declared.Fate.TheVariants.{Dropped, Sent}
use Rattle.altq_model.specs.declared.Reason.{Reason}
use Rattle.altq_model.specs.declared.Reason.TheVariants.{Full, Early, Forced}
use Rattle.altq_model.specs.declared.Rule.{Rule}
use Rattle.altq_model.specs.declared.Rule.TheVariants.{RealTime, Share, Own, Borrow}
use Rattle.fate_check.specs.declared.reading.Row.{Row}
use Rattle.fate_check.specs.Parse.{Texts}
use Rattle.fate_check.specs.Text.{text_of, texts_of}
use Rattle.fate_check.proofs.FieldLemmas.{joined}
use Rattle.fate_check.proofs.NameLemmas.{of_name}
use Rattle.fate_check.proofs.RowLemmas.{fate_end, fate_start, fate_word, text_joined, texts}
use Rattle.line_text.specs.Names.{are_name_bytes, is_name}
use Rattle.play_text.specs.Names.{AreNames, NameList, name_of}
use Rattle.play_text.specs.Texts.{reason_word, rule_word}
use Rattle.verify_laws.proofs.SmallRows.{AreSmall, EndsEarly, IsSmall, is_row}

abbrev IsUpTo : ℕ → List ℕ → Type 0
IsUpTo n text = length text ≤ n

-- THE FIELDS
rule_length : (r : Rule) → IsUpTo 8 (rule_word r)
rule_length RealTime = omega arith
rule_length Share = omega arith
rule_length Own = omega arith
rule_length Borrow = omega arith

reason_length : (r : Reason) → IsUpTo 8 (reason_word r)
reason_length Full = omega arith
reason_length Early = omega arith
reason_length Forced = omega arith

record FateIsShort (f : Fate) : Type 0 where
  word : IsUpTo 8 (fate_word f)
  start : IsUpTo 19 (fate_start f)
  end : IsUpTo 19 (fate_end f)

fate_short : (f : Fate) → EndsEarly f → FateIsShort f
fate_short (Dropped reason) h = record { word = reason_length reason; start = omega arith; end = omega arith }
fate_short (Sent start end rule) h =
    let early = h.0 in
    let late = h.1 in
    record {
      word = rule_length rule;
      start = length-decimal-le 19 start (omega arith) (omega (arith, early)) (omega (arith, early));
      end = length-decimal-le 19 end (omega arith) (omega (arith, late)) (omega (arith, late));
    }

name_length : (text : List ℕ) → is_name text ≡ true → IsUpTo 64 text
name_length text h =
    let both = (and_parts (nat_le 1 (length text) && nat_le (length text) 64) (are_name_bytes text) h).0 in
    let few = (and_parts (nat_le 1 (length text)) (nat_le (length text) 64) both).1 in
    grind (arith, nat_tests, few)

class_length : (names : NameList) (class : ℕ) → AreNames names → IsUpTo 64 (name_of names class)
class_length names class good =
    of_name (IsUpTo 64) names class (omega arith)
    (recursion_from_All (λ (q : ℕ × List ℕ). IsUpTo 64 q.1) names (λ k d inside. name_length (get_or names k d).1 (good.named k d inside)))

-- A ROW
joined_length : (t : Texts) (rest : List ℕ)
    → length (joined t rest) ≡ length t.number + length t.at + length t.len + length t.class + length t.word + length t.start + length t.end + 7 + length rest
joined_length t rest =
    let r6 : List ℕ = t.end ++ 10 ∷ rest in
    let r5 : List ℕ = t.start ++ 44 ∷ r6 in
    let r4 : List ℕ = t.word ++ 44 ∷ r5 in
    let r3 : List ℕ = t.class ++ 44 ∷ r4 in
    let r2 : List ℕ = t.len ++ 44 ∷ r3 in
    let r1 : List ℕ = t.at ++ 44 ∷ r2 in
    omega (
      arith,
      length-append t.number (44 ∷ r1),
      length-append t.at (44 ∷ r2),
      length-append t.len (44 ∷ r3),
      length-append t.class (44 ∷ r4),
      length-append t.word (44 ∷ r5),
      length-append t.start (44 ∷ r6),
      length-append t.end (10 ∷ rest),
    )

row_length : (names : NameList) (r : Row) → AreNames names → IsSmall names r → length (text_of names r) ≤ 149
row_length names r good h =
    let t : Texts = texts names r in
    let number = h.number in
    let at = h.at in
    let len = h.len in
    let fate = fate_short r.fate h.fate in
    let word = fate.word in
    let start = fate.start in
    let end = fate.end in
    let class = class_length names r.class good in
    let numbers = length-decimal-le 7 r.number (omega arith) (omega (arith, number)) (omega (arith, number)) in
    let ats = length-decimal-le 19 r.at (omega arith) (omega (arith, at)) (omega (arith, at)) in
    let lens = length-decimal-le 6 r.len (omega arith) (omega (arith, len)) (omega (arith, len)) in
    let is : length (text_of names r ++ []) ≡ length (joined t []) = ap (length {A = ℕ}) (text_joined names r [] good (is_row names r h)) in
    let own = length-append (text_of names r) [] in
    let sum = joined_length t [] in
    omega (arith, is, own, sum, numbers, ats, lens, class, word, start, end)

-- AND ALL
pub rows_length : (names : NameList) (rows : List Row) → AreNames names → AreSmall names rows → length (texts_of names rows) ≤ 149 * length rows
rows_length names [] good h = omega arith
rows_length names (r ∷ rows) good h =
    let one = row_length names r good h.0 in
    let rest = rows_length names rows good h.1 in
    omega (arith, one, rest, length-append (text_of names r) (texts_of names rows))
