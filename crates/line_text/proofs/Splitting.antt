-- Words: what a blank and the end of a line make of the bytes before them, and one step along a line.
use Rattle.std.proofs.Common.{◌≡◌, ℕ, zero, suc, ◌+◌, ◌-◌, ◌<◌, ◌≤◌, ◌++◌, Bool, true, false, cond, List, [], ◌∷◌, ◌⊎◌, inl, inr, add-zero, length, take, drop, get_or, max, refl, sym, ap, ◌∙◌, arith, eqb, nat_lt, slice_index}
use Rattle.std.proofs.lemmas.List.{take_more, get_or-drop, length-drop, append-nil, append_assoc, drop_all, at_drop_more, length-append, length-take-le}
use Rattle.std.proofs.lemmas.Bool.Decides.{nat_tests}
use Rattle.line_text.specs.declared.word.Token.{Token}
use Rattle.line_text.specs.Lines.{continuation_len, joined, ends}
use Rattle.line_text.specs.Words.{is_blank, with_first, words_of, AreCountedFrom, word_list}
use Rattle.line_text.proofs.Passing.{joined-step}

pub counted_more : (n : ℕ) (words : List Token) (word : Token) → AreCountedFrom n words → word.index ≡ n + length words → AreCountedFrom n (words ++ word ∷ [])
counted_more n [] word h e = (omega arith, tt)
counted_more n (first ∷ words) word h e = (h.0, counted_more (n + 1) words word h.1 (omega arith))

-- no blank among them
abbrev pub ArePlain : List ℕ → Type 0
ArePlain [] = Unit {0}
ArePlain (byte ∷ text) = (is_blank byte ≡ false) × ArePlain text

pub plain_more : (text : List ℕ) (byte : ℕ) → ArePlain text → is_blank byte ≡ false → ArePlain (text ++ byte ∷ [])
plain_more [] byte h e = (e, tt)
plain_more (first ∷ text) byte h e = (h.0, plain_more text byte h.1 e)

words_of-joins : (byte next : ℕ) (text : List ℕ) → is_blank byte ≡ false → is_blank next ≡ false → words_of (byte ∷ next ∷ text) ≡ with_first byte (words_of (next ∷ text))
words_of-joins byte next text plain also = rw (plain, also) refl

pub words_of-blank : (word : List ℕ) (blank : ℕ) (rest : List ℕ) → ArePlain word → is_blank blank ≡ true → words_of (word ++ blank ∷ rest) ≡ word_list word ++ words_of rest
words_of-blank [] blank rest plain is = rw is refl
words_of-blank (byte ∷ []) blank rest plain is = rw (plain.0, is) refl
words_of-blank (byte ∷ next ∷ word) blank rest plain is =
    words_of-joins byte next (word ++ blank ∷ rest) plain.0 plain.1.0 ∙ ap (with_first byte) (words_of-blank (next ∷ word) blank rest plain.1 is)

pub words_of-end : (word : List ℕ) → ArePlain word → words_of word ≡ word_list word
words_of-end [] plain = refl
words_of-end (byte ∷ []) plain = rw plain.0 refl
words_of-end (byte ∷ next ∷ word) plain =
    words_of-joins byte next word plain.0 plain.1.0 ∙ ap (with_first byte) (words_of-end (next ∷ word) plain.1)

continuation_len-other : (text : List ℕ) → eqb (slice_index text 0) 92 ≡ false → continuation_len text ≡ 0
unfolding continuation_len
continuation_len-other text h = rw h refl

blank_is_other : (byte : ℕ) → is_blank byte ≡ true → eqb byte 92 ≡ false
blank_is_other byte h = grind (arith, nat_tests)

-- a byte of a word stands at the front, or a blank of some bytes
abbrev IsByte : List ℕ → ℕ → ℕ → Type 0
IsByte line at n = (n ≡ 0) × (is_blank (get_or line at 0) ≡ false) × (joined (drop at line) ≡ get_or line at 0 ∷ joined (drop (at + 1) line))

abbrev IsBlank : List ℕ → ℕ → ℕ → Type 0
IsBlank line at n = (0 < n) × (blank : ℕ) × (is_blank blank ≡ true) × (joined (drop at line) ≡ blank ∷ joined (drop (at + n) line))

positive : (j : ℕ) → 0 < j → nat_lt 0 j ≡ true
positive j h = grind (arith, nat_tests)

front-by : (line : List ℕ) (at j n : ℕ) (plain : Bool) → is_blank (get_or line at 0) ≡ plain → (plain ≡ true → j ≡ 0)
    → joined (drop at line) ≡ cond (nat_lt 0 j) 32 (get_or line at 0) ∷ joined (drop (at + max j 1) line) → n ≡ cond plain 1 j → IsByte line at n ⊎ IsBlank line at n
front-by line at j n true is none e same = inr (omega arith, get_or line at 0, is, rw same (rw (none refl) at e))
front-by line at zero n false is none e same = inl (same, is, e)
front-by line at (suc j) n false is none e same =
    let m : max (suc j) 1 ≡ suc j = omega arith in
    inr (omega arith, 32, refl, rw same (rw (positive (suc j) (omega arith), m) at e))

first_of_rest : (line : List ℕ) (at : ℕ) → get_or (drop at line) 0 0 ≡ get_or line at 0
first_of_rest line at = get_or-drop at line 0 0 ∙ rw add-zero refl

front : (line : List ℕ) (at n : ℕ) → at < length line → ends (get_or line at 0) ≡ false
    → n ≡ cond (is_blank (get_or (drop at line) 0 0)) 1 (continuation_len (drop at line)) → IsByte line at n ⊎ IsBlank line at n
front line at n inside on same =
    let x = first_of_rest line at in
    let none : is_blank (get_or line at 0) ≡ true → continuation_len (drop at line) ≡ 0 = λ h. continuation_len-other (drop at line) (ap (λ byte. eqb byte 92) x ∙ blank_is_other (get_or line at 0) h) in
    front-by line at (continuation_len (drop at line)) n (is_blank (get_or line at 0)) refl none (joined-step line at inside on) (same ∙ ap (λ byte. cond (is_blank byte) 1 (continuation_len (drop at line))) x)

pub front_byte : (line : List ℕ) (at n : ℕ) → at < length line → ends (get_or line at 0) ≡ false
    → n ≡ cond (is_blank (get_or (drop at line) 0 0)) 1 (continuation_len (drop at line)) → n ≡ 0 → IsByte line at n
front_byte line at n inside on same none =
    elim (front line at n inside on same) [ inl h ↦ h | inr h ↦ absurd (omega (arith, h.0)) ]

pub front_blank : (line : List ℕ) (at n : ℕ) → at < length line → ends (get_or line at 0) ≡ false
    → n ≡ cond (is_blank (get_or (drop at line) 0 0)) 1 (continuation_len (drop at line)) → (n ≡ 0 → ⊥) → IsBlank line at n
front_blank line at n inside on same some =
    elim (front line at n inside on same) [ inl h ↦ absurd (some h.0) | inr h ↦ h ]

pub joined-past : (line : List ℕ) (at : ℕ) → length line ≤ at → joined (drop at line) ≡ []
joined-past line at past = ap joined (drop_all at line past)

pub joined-stop : (line : List ℕ) (at : ℕ) → at < length line → ends (get_or line at 0) ≡ true → joined (drop at line) ≡ []
joined-stop line at inside stop = at_drop_more joined line at 0 inside ∙ rw stop refl

-- the bytes from start to at, with the one at `at`
pub span_more : (line : List ℕ) (start at : ℕ) → start ≤ at → at < length line → take (at + 1 - start) (drop start line) ≡ take (at - start) (drop start line) ++ get_or line at 0 ∷ []
span_more line start at order inside =
    let n : at + 1 - start ≡ at - start + 1 = omega arith in
    let p : start + (at - start) ≡ at = omega arith in
    let l = length-drop start line in
    rw n (take_more (drop start line) (at - start) 0 (omega arith) ∙ ap (λ byte. take (at - start) (drop start line) ++ byte ∷ []) (get_or-drop start line (at - start) 0 ∙ ap (λ i. get_or line i 0) p))

-- the words so far and those to come, one step on: `found` so far, `span` the bytes since the last blank, `left` what is left
pub byte_kept : (found all : List (List ℕ)) (span left rest : List ℕ) (byte : ℕ) → found ++ words_of (span ++ left) ≡ all → left ≡ byte ∷ rest
    → found ++ words_of ((span ++ byte ∷ []) ++ rest) ≡ all
byte_kept found all span left rest byte h e = rw append_assoc (rw e at h)

pub blank_kept : (found more all : List (List ℕ)) (span left rest : List ℕ) (blank : ℕ) → found ++ words_of (span ++ left) ≡ all → left ≡ blank ∷ rest
    → ArePlain span → is_blank blank ≡ true → more ≡ found ++ word_list span → more ++ words_of rest ≡ all
blank_kept found more all span left rest blank h e plain is m =
    rw (m, append_assoc) (ap (λ words. found ++ words) (sym (words_of-blank span blank rest plain is)) ∙ rw e at h)

pub end_kept : (found more all : List (List ℕ)) (span left : List ℕ) → found ++ words_of (span ++ left) ≡ all → left ≡ [] → ArePlain span
    → more ≡ found ++ word_list span → more ≡ all
end_kept found more all span left h e plain m =
    let g = rw (e, append-nil, words_of-end span plain) at h in m ∙ g

pub count_byte_kept : (found all : ℕ) (span left rest : List ℕ) (byte : ℕ) → found + length (words_of (span ++ left)) ≡ all → left ≡ byte ∷ rest
    → found + length (words_of ((span ++ byte ∷ []) ++ rest)) ≡ all
count_byte_kept found all span left rest byte h e = rw append_assoc (rw e at h)

above_zero : (start at : ℕ) → cond {A = ℕ} (nat_lt 0 (at - start)) 1 0 ≡ cond {A = ℕ} (nat_lt start at) 1 0
above_zero start at = grind (arith, nat_tests)

word_list-len : (span : List ℕ) → length (word_list span) ≡ cond {A = ℕ} (nat_lt 0 (length span)) 1 0
word_list-len [] = refl
word_list-len (byte ∷ span) = rw (positive (suc (length span)) (omega arith)) refl

-- the words that the bytes from start to at are: one where there are bytes
pub span_words : (line : List ℕ) (start at : ℕ) → start ≤ at → at ≤ length line → length (word_list (take (at - start) (drop start line))) ≡ cond (nat_lt start at) 1 0
span_words line start at order inside =
    let l : length (take (at - start) (drop start line)) ≡ at - start = length-take-le (at - start) (drop start line) (omega (arith, length-drop start line)) in
    word_list-len (take (at - start) (drop start line)) ∙ rw l (above_zero start at)

pub count_blank_kept : (found all : ℕ) (span left rest : List ℕ) (blank : ℕ) → found + length (words_of (span ++ left)) ≡ all → left ≡ blank ∷ rest
    → ArePlain span → is_blank blank ≡ true → found + length (word_list span) + length (words_of rest) ≡ all
count_blank_kept found all span left rest blank h e plain is =
    let g = rw (e, words_of-blank span blank rest plain is) at h in
    omega (arith, length-append (word_list span) (words_of rest), g)

pub count_end_kept : (found all : ℕ) (span left : List ℕ) → found + length (words_of (span ++ left)) ≡ all → left ≡ [] → ArePlain span
    → found + length (word_list span) ≡ all
count_end_kept found all span left h e plain = rw (e, append-nil, words_of-end span plain) at h
