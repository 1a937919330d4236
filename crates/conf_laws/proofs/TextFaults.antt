-- Two texts that agree up to and with the word of a fault, and the byte that ends it, have the same fault.
use Rattle.std.proofs.Common.{◌≡◌, ℕ, zero, suc, ◌+◌, ◌-◌, ◌<◌, ◌≤◌, ◌&&◌, ◌||◌, ◌==◌, ◌∙◌, Bool, true, false, cond, not, min, List, [], ◌∷◌, ◌++◌, length, take, drop, eqb, nat_lt, refl, ap, arith, ◌⊎◌, inl, inr, ⊎_elim, Option, Some, None, Result, Ok, Err, sym, subst}
use Rattle.std.specs.List.{Contains}
use Rattle.std.specs.Option.{IfSome}
use Rattle.std.specs.Result.{IfErr}
use Rattle.std.proofs.Math.Seq.{take-append-add}
use Rattle.std.proofs.lemmas.Bool.Decides.{nat_tests}
use Rattle.std.proofs.lemmas.Bool.{and_parts, cond_both, cases_lt}
use Rattle.std.proofs.lemmas.List.Sums.{sum_by-cons}
use Rattle.std.proofs.lemmas.List.{length-append, length-drop, take-append-le, drop-append-le, take_all, drop_all}
use Rattle.std.proofs.lemmas.Result.{IfErr-at_err}
use Rattle.line_text.specs.Lines.{continuation_len, line_len_after, through_line_feed, joined_after, joined, ends, line_len, longest_line}
use Rattle.line_text.specs.Words.{is_blank, begins_word, with_first, words_of}
use Rattle.conf_lines.specs.declared.fault.ConfKind.TheVariants.{TooLong}
use Rattle.conf_lines.specs.declared.fault.ConfPlace.{ConfPlace}
use Rattle.conf_lines.specs.declared.statement.Statement.{Statement}
use Rattle.conf_lines.specs.Grammar.{start}
use Rattle.conf_lines.specs.Texts.{line_feeds, by_words, line_too_long, statement_of, before, statements_in, statements_of}
use Rattle.conf_lines.proofs.OneLine.{one_line, line_len-some}
use Rattle.conf_lines.proofs.Readings.{IsOn, faults_on_line}
use Rattle.conf_tree.specs.declared.interface.Interface.{Interface}
use Rattle.conf_tree.specs.Reading.{read_statement, reading_from, HasFirstFault}
use Rattle.conf_tree.specs.Tree.{Begun}
use Rattle.conf_tree.proofs.StandingFaults.{then_read, at_end}
use Rattle.conf_laws.specs.Laws.{ends_word, line_of_words, StandsIn}
use Rattle.conf_laws.proofs.WordFaults.{OnLine, fault_on_line, line_stands}

-- A TEXT THAT ENDS BEHIND A WORD, and goes on: its lines and words up to there do not depend on what follows. Each end of it is
-- behind a word, or empty.
abbrev Stable : List ℕ → Type 0
Stable [] = Unit {0}
Stable (byte ∷ text) = (ends_word (byte ∷ text) ≡ true) × Stable text

stable : (text : List ℕ) → ends_word text ≡ true → Stable text
stable [] h = tt
stable (byte ∷ []) h = (h, tt)
stable (byte ∷ next ∷ []) h = (h, ((and_parts (is_blank next || ends next) (not ((byte == 92) && (next == 13))) h).0, tt))
stable (byte ∷ next ∷ third ∷ text) h = (h, stable (next ∷ third ∷ text) h)

stable-drop : (n : ℕ) (text : List ℕ) → Stable text → Stable (drop n text)
stable-drop zero text h = h
stable-drop (suc n) [] h = tt
stable-drop (suc n) (byte ∷ text) h = stable-drop n text h.1

-- a continuation at its front is one whatever follows
continuation_len-same : (text more : List ℕ) → ends_word text ≡ true → continuation_len (text ++ more) ≡ continuation_len text
unfolding continuation_len
continuation_len-same [] more h = cc
continuation_len-same (byte ∷ []) more h = let no_slash : eqb byte 92 ≡ false = grind (arith, nat_tests) in rw no_slash refl
continuation_len-same (byte ∷ next ∷ []) more h = grind (arith, nat_tests)
continuation_len-same (byte ∷ next ∷ third ∷ text) more h = refl

-- THE LINE at its front: as much of it as stands in the text
comment_front : (text more : List ℕ) → min (length text) (through_line_feed (text ++ more)) ≡ through_line_feed text
comment_front [] more = omega arith
comment_front (byte ∷ text) more = let front = comment_front text more in grind (arith, nat_tests)

line_front : (inside : ℕ) (text more : List ℕ) → Stable text → min (length text) (line_len_after inside (text ++ more)) ≡ line_len_after inside text
line_front inside [] more h = omega arith
line_front (suc inside) (byte ∷ text) more h = let front = line_front inside text more h.1 in omega arith
line_front zero (byte ∷ text) more h =
    let comment = comment_front text more in
    let front = line_front (continuation_len (byte ∷ text) - 1) text more h.1 in
    rw (continuation_len-same (byte ∷ text) more h.0) (grind (arith, nat_tests))

-- a line that ends before its text has a line feed
abbrev HasFeed : List ℕ → ℕ → Type 0
HasFeed text n = n < length text → 1 ≤ line_feeds (take n text)

feed_here : (byte : ℕ) (text : List ℕ) → eqb byte 10 ≡ true → HasFeed (byte ∷ text) 1
feed_here byte text e = λ less. rw (sum_by-cons (λ b. cond (eqb b 10) 1 0) byte (take 0 text)) (rw e (omega arith))

feed_behind : (byte : ℕ) (text : List ℕ) (n : ℕ) → HasFeed text n → HasFeed (byte ∷ text) (1 + n)
feed_behind byte text n h = λ less.
    let one : 1 + n ≡ suc n = omega arith in
    let feeds = sum_by-cons (λ b. cond (eqb b 10) 1 0) byte (take n text) in
    rw one (grind arith)

comment_feed : (text : List ℕ) → HasFeed text (through_line_feed text)
comment_feed [] = λ less. absurd (omega arith)
comment_feed (byte ∷ text) =
    cond_both (eqb byte 10) _ _ (HasFeed (byte ∷ text)) (feed_here byte text) (λ e. feed_behind byte text (through_line_feed text) (comment_feed text))

line_feed : (inside : ℕ) (text : List ℕ) → HasFeed text (line_len_after inside text)
line_feed inside [] = λ less. absurd (omega arith)
line_feed (suc inside) (byte ∷ text) = feed_behind byte text (line_len_after inside text) (line_feed inside text)
line_feed zero (byte ∷ text) =
    cond_both (eqb byte 10) _ _ (HasFeed (byte ∷ text)) (feed_here byte text) (λ e.
    cond_both (eqb byte 35) _ _ (HasFeed (byte ∷ text)) (λ e. feed_behind byte text (through_line_feed text) (comment_feed text)) (λ e.
    feed_behind byte text (line_len_after (continuation_len (byte ∷ text) - 1) text) (line_feed (continuation_len (byte ∷ text) - 1) text)))

-- THE WORDS of the line at its front, and more of them
with_first-more : (byte : ℕ) (line : List ℕ) (more : List (List ℕ)) → begins_word line ≡ true
    → with_first byte (words_of line ++ more) ≡ with_first byte (words_of line) ++ more
with_first-more byte [] more h = cc
with_first-more byte (first ∷ line) more h =
    let P = λ (words : List (List ℕ)). with_first byte (words ++ more) ≡ with_first byte words ++ more in
    cond_both (is_blank first) _ _ P (λ e. let not_blank : not (is_blank first) ≡ true = h in cc) (λ e.
    cond_both (begins_word line) _ _ P (λ e.
    elim (words_of line) as (λ words. P (with_first first words)) [ [] ↦ refl | word ∷ words ↦ refl ]) (λ e. refl))

-- lines that begin alike behind a byte
words_by : (byte : ℕ) (line other : List ℕ) (more : List (List ℕ)) (blank begins : Bool) → is_blank byte ≡ blank → begins_word line ≡ begins
    → begins_word other ≡ begins → words_of other ≡ words_of line ++ more → words_of (byte ∷ other) ≡ words_of (byte ∷ line) ++ more
words_by byte line other more true begins b l o e = rw b e
words_by byte line other more false false b l o e = rw (b, l, o) (ap (λ words. (byte ∷ []) ∷ words) e)
words_by byte line other more false true b l o e = rw (b, l, o) (ap (with_first byte) e ∙ with_first-more byte line more l)

begins-same : (byte : ℕ) (text more : List ℕ) → ends_word (byte ∷ text) ≡ true
    → begins_word (joined (byte ∷ (text ++ more))) ≡ begins_word (joined (byte ∷ text))
begins-same byte text more h = rw (continuation_len-same (byte ∷ text) more h) (grind (arith, nat_tests))

abbrev HasMore : ℕ → List ℕ → List ℕ → Type 0
HasMore inside text more = (extra : List (List ℕ)) × (words_of (joined_after inside (text ++ more)) ≡ words_of (joined_after inside text) ++ extra)

front_by : (byte : ℕ) (text more : List ℕ) (stop joins : Bool) → ends byte ≡ stop → nat_lt 0 (continuation_len (byte ∷ text)) ≡ joins → Stable (byte ∷ text)
    → HasMore (continuation_len (byte ∷ text) - 1) text more → HasMore zero text more → HasMore zero (byte ∷ text) more
front_by byte text more true joins e j h f g = ([], rw e refl)
front_by byte text more false true e j h f g = (f.0, rw (e, continuation_len-same (byte ∷ text) more h.0, j) f.1)
front_by byte [] more false false e j h f g =
    let ends = h.0 in
    let blank : is_blank byte ≡ true = grind (arith, nat_tests) in
    (g.0, rw (e, continuation_len-same (byte ∷ []) more h.0, j, blank) g.1)
front_by byte (next ∷ text) more false false e j h f g =
    let line = joined (next ∷ text) in
    let begins = begins-same next text more h.1.0 in
    let words = words_by byte line (joined (next ∷ (text ++ more))) g.0 (is_blank byte) (begins_word line) refl refl begins g.1 in
    (g.0, rw (e, continuation_len-same (byte ∷ next ∷ text) more h.0, j) words)

words_front : (inside : ℕ) (text more : List ℕ) → Stable text → HasMore inside text more
words_front inside [] more h = (words_of (joined_after inside more), refl)
words_front (suc inside) (byte ∷ text) more h = words_front inside text more h.1
words_front zero (byte ∷ text) more h =
    let inside = continuation_len (byte ∷ text) - 1 in
    front_by byte text more (ends byte) (nat_lt 0 (continuation_len (byte ∷ text))) refl refl h (words_front inside text more h.1) (words_front zero text more h.1)

-- THE STATEMENT of a line
record OfLine (n : ℕ) (words : List (List ℕ)) (s : Statement) : Type 0 where
  line : s.line ≡ n
  fault : IsOn s.line s.fault
  end : s.end ≡ length words + 1

abbrev worded : ℕ → List (List ℕ) → Bool → Option Statement
worded line words long = cond long (Some (line_too_long line words)) (by_words line words)

by_long : (line : ℕ) (words : List (List ℕ)) (long : Bool) → IfSome (worded line words long) (OfLine line words)
by_long line words true = record { line = refl; fault = refl; end = refl }
by_long line [] false = tt
by_long line (word ∷ words) false = record { line = refl; fault = faults_on_line line (word ∷ words) start 1; end = refl }

of_line : (line : ℕ) (bytes : List ℕ) → IfSome (statement_of line bytes) (OfLine line (words_of (joined bytes)))
of_line line bytes = by_long line (words_of (joined bytes)) (nat_lt longest_line (length (joined bytes)))

-- reading it, if there is one
abbrev read_line : List Begun → Option Statement → Result (List Begun) ConfPlace
read_line b None = Ok b
read_line b (Some s) = read_statement b s

line_fault : (b : List Begun) (line : ℕ) (words : List (List ℕ)) (o : Option Statement) → IfSome o (OfLine line words) → IfErr (read_line b o) (OnLine line)
line_fault b line words None h = tt
line_fault b line words (Some s) h = subst (λ n. IfErr (read_statement b s) (OnLine n)) h.line (fault_on_line b s h.fault)

read_before : (b : List Begun) (o : Option Statement) (rest : List Statement) → reading_from b (before o rest) ≡ then_read (read_line b o) rest
read_before b None rest = refl
read_before b (Some s) rest = refl

-- a fault is that of the line, or one behind it
line_or_rest : (b : List Begun) (o : Option Statement) (rest : List Statement) (fault : ConfPlace) → reading_from b (before o rest) ≡ Err fault
    → (read_line b o ≡ Err fault) ⊎ ((after : List Begun) × (read_line b o ≡ Ok after) × (reading_from after rest ≡ Err fault))
line_or_rest b o rest fault e =
    (elim (read_line b o) as
    (λ r. then_read r rest ≡ Err fault → (r ≡ Err fault) ⊎ ((after : List Begun) × (r ≡ Ok after) × (reading_from after rest ≡ Err fault)))
    [ Ok after ↦ λ e. inr (after, refl, e) | Err place ↦ λ e. inl cc ]) (sym (read_before b o rest) ∙ e)

-- THE STATEMENTS of a text whose first line has a number: that of this line, and those of the lines behind it
abbrev all_in : ℕ → List ℕ → List Statement
all_in line text = statements_in (length text) line text

abbrev first_bytes : List ℕ → List ℕ
first_bytes text = take (line_len text) text

abbrev other_bytes : List ℕ → List ℕ
other_bytes text = drop (line_len text) text

abbrev next_line : ℕ → List ℕ → ℕ
next_line line text = line + line_feeds (first_bytes text)

one_line_on : (line : ℕ) (text : List ℕ) → 0 < length text
    → all_in line text ≡ before (statement_of line (first_bytes text)) (all_in (next_line line text) (other_bytes text))
one_line_on line text some =
    let behind = λ (turns : ℕ). statements_in turns (next_line line text) (other_bytes text) in
    one_line (length text) line text some (omega arith)
    ∙ ap (λ turns. before (statement_of line (first_bytes text)) (behind turns)) (sym (length-drop (line_len text) text))

-- a fault at a word stands on one of these lines
from_line : (turns line : ℕ) (text : List ℕ) (b : List Begun) (fault : ConfPlace) → 1 ≤ fault.word → reading_from b (statements_in turns line text) ≡ Err fault
    → line ≤ fault.line
from_line zero line text b fault some e = let end = at_end b fault e in absurd (omega (arith, end.word))
from_line (suc turns) line [] b fault some e = let end = at_end b fault e in absurd (omega (arith, end.word))
from_line (suc turns) line (byte ∷ text) b fault some e =
    let bytes = first_bytes (byte ∷ text) in
    let o = statement_of line bytes in
    ⊎_elim
    (λ here. let on = IfErr-at_err (OnLine line) here (line_fault b line (words_of (joined bytes)) o (of_line line bytes)) in omega arith)
    (λ more. let later = from_line turns (next_line line (byte ∷ text)) (other_bytes (byte ∷ text)) more.0 fault some more.2 in omega arith)
    (line_or_rest b o (statements_in turns (next_line line (byte ∷ text)) (other_bytes (byte ∷ text))) fault e)

behind_line : (line : ℕ) (text : List ℕ) (b : List Begun) (fault : ConfPlace) → 1 ≤ fault.word
    → reading_from b (all_in (next_line line text) (other_bytes text)) ≡ Err fault → line < fault.line
behind_line line text b fault some e =
    ⊎_elim
    (λ less.
    let feed = line_feed 0 text less in
    let from = from_line (length (other_bytes text)) (next_line line text) (other_bytes text) b fault some e in omega arith)
    (λ all. let end = at_end b fault (rw (drop_all (line_len text) text all) at e) in absurd (omega (arith, end.word)))
    (cases_lt (line_len text) (length text))

-- a statement of a text is that of its first line, or one behind it
contains_before : (o : Option Statement) (rest : List Statement) (s : Statement) → Contains (before o rest) s → (o ≡ Some s) ⊎ Contains rest s
contains_before None rest s h = inr h
contains_before (Some t) rest s (zero, within, is) = inl (ap (λ x. Some x) is)
contains_before (Some t) rest s (suc k, within, is) = inr (k, omega arith, is)

first_or_later : (line : ℕ) (text : List ℕ) (s : Statement) → 0 < length text → Contains (all_in line text) s
    → OfLine line (words_of (joined (first_bytes text))) s ⊎ Contains (all_in (next_line line text) (other_bytes text)) s
first_or_later line text s some h =
    ⊎_elim (λ first. inl (rw first at (of_line line (first_bytes text)))) inr
    (contains_before (statement_of line (first_bytes text)) (all_in (next_line line text) (other_bytes text)) s (rw (one_line_on line text some) at h))

-- A LINE THAT ENDS BEFORE ITS TEXT is the same whatever follows
one_more : (line : ℕ) (text more : List ℕ) → Stable text → line_len text < length text
    → all_in line (text ++ more) ≡ before (statement_of line (first_bytes text)) (all_in (next_line line text) (other_bytes text ++ more))
one_more line text more stays less =
    let n = line_len text in
    let front = line_front 0 text more stays in
    let same : line_len (text ++ more) ≡ n = omega arith in
    let all = one_line_on line (text ++ more) (omega (arith, length-append text more)) in
    rw (all, same, take-append-le n text more (omega arith), drop-append-le n text more (omega arith)) refl

-- THE LAST LINE is its words and more of them, or it is too long
said_or_long : (line : ℕ) (words : List (List ℕ)) (long : Bool) → 1 ≤ length words
    → (worded line words long ≡ Some (line_of_words line words)) ⊎ (worded line words long ≡ Some (line_too_long line words))
said_or_long line [] long some = absurd (omega arith)
said_or_long line (word ∷ words) true some = inr refl
said_or_long line (word ∷ words) false some = inl refl

last_line : (line : ℕ) (text more : List ℕ) → Stable text → length text ≤ line_len text → 1 ≤ length (words_of (joined text))
    → (extra : List (List ℕ)) × ((statement_of line (first_bytes (text ++ more)) ≡ Some (line_of_words line (words_of (joined text) ++ extra)))
    ⊎ (statement_of line (first_bytes (text ++ more)) ≡ Some (line_too_long line (words_of (joined text) ++ extra))))
last_line line text more stays all some =
    let front = line_front 0 text more stays in
    let k = line_len (text ++ more) - length text in
    let goes_on : line_len (text ++ more) ≡ length text + k = omega arith in
    let bytes = ap (λ n. take n (text ++ more)) goes_on ∙ take-append-add text more k in
    let extra = words_front 0 text (take k more) stays in
    let words = words_of (joined text) ++ extra.0 in
    let long = nat_lt longest_line (length (joined (text ++ take k more))) in
    let same : statement_of line (first_bytes (text ++ more)) ≡ worded line words long =
    ap (statement_of line) bytes ∙ ap (λ all. worded line all long) extra.1 in
    (extra.0, rw same (said_or_long line words long (omega (arith, length-append (words_of (joined text)) extra.0))))

-- THE LAW from a line on, where the word of the fault stands in a statement of the whole text
module _ (whole more other : List ℕ) (fault : ConfPlace) (stands : StandsIn whole fault) where
  -- the same fault, or the line is too long
  abbrev Answers : Result (List Interface) ConfPlace → Type 0
  Answers r = (r ≡ Err fault) ⊎ (r ≡ Err (record { line = fault.line; word = 0; kind = TooLong }))

  abbrev FaultStands : ℕ → List ℕ → Type 0
  FaultStands line text =
      (b : List Begun) → Contains (all_in line text) stands.statement → reading_from b (all_in line (text ++ more)) ≡ Err fault
      → Answers (reading_from b (all_in line (text ++ other)))

  past_line : (line : ℕ) (text : List ℕ) → Stable text → line_len text < length text → FaultStands (next_line line text) (other_bytes text)
      → FaultStands line text
  past_line line text stays less k = λ b is e.
      let o = statement_of line (first_bytes text) in
      let rest = λ (bytes : List ℕ). all_in (next_line line text) (other_bytes text ++ bytes) in
      let here_or_rest = line_or_rest b o (rest more) fault (rw (one_more line text more stays less) at e) in
      rw (one_more line text other stays less, read_before b o (rest other))
      (⊎_elim (λ here. inl (ap (λ r. then_read r (rest other)) here)) (λ after.
      let feed = line_feed 0 text less in
      let from = from_line (length (other_bytes text ++ more)) (next_line line text) (other_bytes text ++ more) after.0 fault stands.some after.2 in
      let later : Contains (all_in (next_line line text) (other_bytes text)) stands.statement =
      ⊎_elim (λ first. absurd (omega (arith, first.line, stands.line))) (λ later. later) (first_or_later line text stands.statement (omega arith) is) in
      rw after.1 (k after.0 later after.2)) here_or_rest)

  last_word : (line : ℕ) (text : List ℕ) → 0 < length text → length text ≤ line_len text → Contains (all_in line text) stands.statement
      → (fault.line ≡ line) × (fault.word ≤ length (words_of (joined text)))
  last_word line text some all is =
      ⊎_elim (λ first. let it = rw (take_all (line_len text) text all) at first in (omega (arith, stands.line, it.line), omega (arith, stands.word, it.end)))
      (λ later. absurd (omega (arith, (rw (drop_all (line_len text) text all) at later).1)))
      (first_or_later line text stands.statement some is)

  last_stands : (line : ℕ) (text : List ℕ) → Stable text → 0 < length text → length text ≤ line_len text → FaultStands line text
  last_stands line text stays text_some all = λ b is e.
      let at = last_word line text text_some all is in
      let words = words_of (joined text) in
      let some : 1 ≤ length words = omega (arith, stands.some, at.1) in
      let left = last_line line text more stays all some in
      let right = last_line line text other stays all some in
      let here : read_line b (statement_of line (first_bytes (text ++ more))) ≡ Err fault =
      ⊎_elim (λ here. here) (λ after. let behind = behind_line line (text ++ more) after.0 fault stands.some after.2 in absurd (omega (arith, at.0)))
      (line_or_rest b _ _ fault (rw (one_line_on line (text ++ more) (omega (arith, length-append text more))) at e)) in
      let said : read_statement b (line_of_words line (words ++ left.0)) ≡ Err fault =
      ⊎_elim (λ said. rw said at here)
      (λ long. let none = IfErr-at_err (λ place. place.word ≡ 0) (rw long at here) refl in absurd (omega (arith, stands.some))) left.1 in
      let same = line_stands b line words left.0 right.0 fault at.1 said in
      let rest = all_in (next_line line (text ++ other)) (other_bytes (text ++ other)) in
      rw (one_line_on line (text ++ other) (omega (arith, length-append text other)), read_before b)
      (⊎_elim (λ said. inl (ap (λ o. then_read (read_line b o) rest) said ∙ ap (λ r. then_read r rest) same))
      (λ long. inr (rw at.0 (ap (λ o. then_read (read_line b o) rest) long))) right.1)

  each_stands : (turns line : ℕ) (text : List ℕ) → length text ≤ turns → Stable text → FaultStands line text
  each_stands turns line [] h stays = λ b is e. absurd (omega (arith, is.1))
  each_stands zero line (byte ∷ text) h stays = absurd (omega arith)
  each_stands (suc turns) line (byte ∷ text) h stays =
      let n = line_len (byte ∷ text) in
      let some = line_len-some byte text in
      let left = length-drop n (byte ∷ text) in
      ⊎_elim
      (λ less. past_line line (byte ∷ text) stays less
      (each_stands turns (next_line line (byte ∷ text)) (other_bytes (byte ∷ text)) (omega arith) (stable-drop n (byte ∷ text) stays)))
      (last_stands line (byte ∷ text) stays (omega arith)) (cases_lt n (length (byte ∷ text)))

pub text_faults_stand : (text more other : List ℕ) (fault : ConfPlace) → ends_word text ≡ true → StandsIn text fault → HasFirstFault (text ++ more) fault
    → HasFirstFault (text ++ other) fault ⊎ HasFirstFault (text ++ other) (record { line = fault.line; word = 0; kind = TooLong })
unfolding statements_of
text_faults_stand text more other fault ends h e = each_stands text more other fault h (length text) 1 text (omega arith) (stable text ends) [] h.is e
