-- Numbers that stand at the front of a text.
use Rattle.std.proofs.Common.{◌≡◌, ◌∙◌, ◌+◌, ◌-◌, ◌*◌, ◌<◌, ◌≤◌, ◌^◌, ◌++◌, ◌&&◌, ℕ, zero, suc, Bool, true, false, List, [], ◌∷◌, Some, length, take, drop, get_or, nat_lt, eqb, add-one, refl, sym, ap, arith, length-take}
use Rattle.std.proofs.Math.Nat.{pow-le-pow_right, pow-succ'}
use Rattle.std.proofs.Math.Seq.{drop-cons}
use Rattle.std.proofs.lemmas.List.{take-append-drop, take_all}
use Rattle.std.proofs.lemmas.Str.{digit_value_digit}
use Rattle.std.proofs.lemmas.Str.Parse.{digit_from_value, tells_digits}
use Rattle.std.specs.Bool.{OnTrue}
use Rattle.std.specs.Char.{digit_value}
use Rattle.std.specs.Str.Parse.{AllDigits, digits_value}
use Rattle.line_text.specs.Numbers.{are_digits, cut, number}
use Rattle.line_text.proofs.Digits.{digits_more, number_whole}
use Rattle.altq_model.specs.declared.Fate.TheVariants.{Sent}
use Rattle.altq_model.specs.declared.Rule.{Rule}
use Rattle.play_text.specs.Names.{NameList, class_named}
use Rattle.fate_check.specs.declared.reading.Row.{Row}
use Rattle.fate_check.specs.Front.{FateStands, RuleStands, StandsBefore, WritesFirst}
use Rattle.fate_check.specs.Parse.{fate_by, fate_of, fields_of, len_of, number_of, row_in, row_of, sent_of}
use Rattle.fate_check.proofs.CutLemmas.{Lacks, cut-front}
use Rattle.fate_check.proofs.FieldLemmas.{digit_is_not}
use Rattle.fate_check.proofs.NumberLemmas.{are_all}

-- what some digits write, with one digit more
pub small_more : (value count digit : ℕ) → value < 10 ^ count → digit < 10 → value * 10 + digit < 10 ^ (count + 1)
small_more value count digit small few =
    let same : 10 ^ (count + 1) ≡ 10 * 10 ^ count = ap (λ (n : ℕ). 10 ^ n) (add-one count) ∙ pow-succ' 10 count in
    omega (arith, same, small, few)

pub fits_more : (value count : ℕ) → value < 10 ^ count → count < 19 → value * 10 + 10 ≤ 2 ^ 64
fits_more value count small few =
    let most : 10 ^ count ≤ 10 ^ 18 = pow-le-pow_right {n = 10} (omega arith) {i = count} {j = 18} (omega (arith, few)) in
    omega (arith, small, most)

-- digits at the front of a text write a value, and the mark stands behind them
pub record DigitsEnd (mark : ℕ) (text : List ℕ) (count n : ℕ) : Type 0 where
  pub low : mark < 48
  pub some : 0 < count
  pub inside : count < length text
  pub digits : are_digits 10 (take count text) ≡ true
  pub value : n ≡ digits_value 10 (take count text)
  pub small : n < 2 ^ 64
  pub here : get_or text count 0 ≡ mark
  pub leads : (nat_lt 1 count && eqb (get_or text 0 0) 48) ≡ false

digits_lack : (mark : ℕ) (text : List ℕ) → mark < 48 → AllDigits 10 text → Lacks mark text
digits_lack mark [] low h = tt
digits_lack mark (b ∷ text) low h = let p = tells_digits.parts b text h in (digit_is_not b mark p.0 low, digits_lack mark text low p.1)

parts_are : (mark : ℕ) (text : List ℕ) (count n : ℕ) → DigitsEnd mark text count n → cut mark text ≡ Some (take count text, drop (count + 1) text)
parts_are mark text count n h =
    let behind : drop count text ≡ mark ∷ drop (count + 1) text =
    rw add-one (drop-cons text count 0 h.inside ∙ ap (λ (b : ℕ). b ∷ drop (suc count) text) h.here) in
    let whole : text ≡ take count text ++ mark ∷ drop (count + 1) text = sym (take-append-drop count text) ∙ ap (λ (r : List ℕ). take count text ++ r) behind in
    ap (cut mark) whole ∙ cut-front mark (take count text) (drop (count + 1) text) (digits_lack mark (take count text) h.low (are_all 10 (take count text) h.digits))

number_is : (mark : ℕ) (text : List ℕ) (count n : ℕ) → DigitsEnd mark text count n → number_of (take count text) ≡ Some n
unfolding number_of
number_is mark [] count n h = absurd (omega (arith, h.inside))
number_is mark (b ∷ text) zero n h = absurd (omega (arith, h.some))
number_is mark (b ∷ text) (suc count) n h =
    let field : List ℕ = b ∷ take count text in
    let long : length field ≡ suc count = omega (arith, h.inside, length-take (suc count) (b ∷ text)) in
    let same : take (suc count) field ≡ field = take_all (suc count) field (omega (arith, long)) in
    let digits : are_digits 10 (take (suc count) field) ≡ true = ap (are_digits 10) same ∙ h.digits in
    let value_is : n ≡ digits_value 10 (take (suc count) field) = h.value ∙ ap (digits_value 10) (sym same) in
    let whole : number 10 field ≡ Some n =
    number_whole 10 field (suc count) n (omega (arith, long)) digits value_is h.small (omega (arith, long)) in
    let test : (nat_lt 1 (length field) && eqb b 48) ≡ false = rw long h.leads in
    rw test whole

pub stands_before : (mark : ℕ) (text : List ℕ) (count n : ℕ) → DigitsEnd mark text count n → StandsBefore mark text n (drop (count + 1) text)
stands_before mark text count n h =
    record { field = take count text; parts = parts_are mark text count n h; number = number_is mark text count n h }

-- the rule and the numbers of a sending
pub sent_stands : (text behind middle rest : List ℕ) (rule : Rule) (s e : ℕ) → RuleStands text rule behind → StandsBefore 44 behind s middle
    → StandsBefore 10 middle e rest → FateStands text (Sent s e rule) rest
unfolding fate_of fate_by sent_of
sent_stands text behind middle rest rule s e named first last = record {
  word = named.word;
  behind = behind;
  start = first.field;
  middle = middle;
  end = last.field;
  named = named.parts;
  first = first.parts;
  last = last.parts;
  is = rw (named.is, first.number, last.number) refl;
}

-- what stands one behind the other at the front of a text
pub record RowStands (names : NameList) (text : List ℕ) (r : Row) (rest : List ℕ) : Type 0 where
  pub at : List ℕ
  pub len : List ℕ
  pub class : List ℕ
  pub word : List ℕ
  pub name : List ℕ
  pub number_stands : StandsBefore 44 text r.number at
  pub at_stands : StandsBefore 44 at r.at len
  pub len_stands : StandsBefore 44 len r.len class
  pub class_stands : cut 44 class ≡ Some (name, word)
  pub fate_stands : FateStands word r.fate rest
  pub small : nat_lt r.len (2 ^ 32) ≡ true
  pub named : class_named names name ≡ Some r.class

pub row_is : (names : NameList) (text : List ℕ) (r : Row) (rest : List ℕ) → RowStands names text r rest → row_of names text ≡ Some (r, rest)
unfolding row_of fields_of row_in len_of
row_is names text r rest h = rw (
  h.number_stands.parts,
  h.at_stands.parts,
  h.len_stands.parts,
  h.class_stands,
  h.fate_stands.named,
  h.fate_stands.first,
  h.fate_stands.last,
  h.number_stands.number,
  h.at_stands.number,
  h.len_stands.number,
  h.small,
  h.named,
  h.fate_stands.is,
) refl

-- the number of eight digits at the front, each of which counts as its byte
abbrev pub eight : (text : List ℕ) → ℕ
eight text =
    let b : ℕ → ℕ = λ i. get_or text i 0 in
    ((b 0 * 10 + b 1) * 100 + (b 2 * 10 + b 3)) * 10000 + ((b 4 * 10 + b 5) * 100 + (b 6 * 10 + b 7))

abbrev pub DigitAt : (text : List ℕ) (i : ℕ) → Type 0
DigitAt text i = digit_value (get_or text i 0) < 10

pub record AreDigits (text : List ℕ) : Type 0 where
  pub d0 : DigitAt text 0
  pub d1 : DigitAt text 1
  pub d2 : DigitAt text 2
  pub d3 : DigitAt text 3
  pub d4 : DigitAt text 4
  pub d5 : DigitAt text 5
  pub d6 : DigitAt text 6
  pub d7 : DigitAt text 7

pub on_true : (b : Bool) (P : Type 0) → OnTrue b P → b ≡ true → P
on_true true P h e = h
on_true false P h e = absurd (cc)

is_own : (text : List ℕ) (i : ℕ) → DigitAt text i → digit_value (get_or text i 0) + 48 ≡ get_or text i 0
is_own text i h = digit_value_digit (get_or text i 0) (digit_from_value (get_or text i 0) h)

pub eight_stand : (text : List ℕ) → 8 ≤ length text → AreDigits text → WritesFirst text 8 (eight text - 533333328)
eight_stand text long h =
    let m1 = digits_more 10 text 0 0 (omega (arith, long)) refl refl h.d0 in
    let m2 = digits_more 10 text 1 (0 * 10 + digit_value (get_or text 0 0)) (omega (arith, long)) m1.0 m1.1 h.d1 in
    let m3 = digits_more 10 text 2 _ (omega (arith, long)) m2.0 m2.1 h.d2 in
    let m4 = digits_more 10 text 3 _ (omega (arith, long)) m3.0 m3.1 h.d3 in
    let m5 = digits_more 10 text 4 _ (omega (arith, long)) m4.0 m4.1 h.d4 in
    let m6 = digits_more 10 text 5 _ (omega (arith, long)) m5.0 m5.1 h.d5 in
    let m7 = digits_more 10 text 6 _ (omega (arith, long)) m6.0 m6.1 h.d6 in
    let m8 = digits_more 10 text 7 _ (omega (arith, long)) m7.0 m7.1 h.d7 in
    let e0 = is_own text 0 h.d0 in
    let e1 = is_own text 1 h.d1 in
    let e2 = is_own text 2 h.d2 in
    let e3 = is_own text 3 h.d3 in
    let e4 = is_own text 4 h.d4 in
    let e5 = is_own text 5 h.d5 in
    let e6 = is_own text 6 h.d6 in
    let e7 = is_own text 7 h.d7 in
    record {
      inside = long;
      digits = m8.0;
      value = omega (arith, m8.1, e0, e1, e2, e3, e4, e5, e6, e7);
      small = omega (arith, e0, e1, e2, e3, e4, e5, e6, e7);
    }
