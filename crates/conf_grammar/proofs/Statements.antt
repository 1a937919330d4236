-- THE READING IS EXACTLY THE GRAMMAR.
use Rattle.std.proofs.Common.{◌≡◌, ◌∙◌, ℕ, ◌+◌, Bool, true, false, cond, List, [], ◌∷◌, None, Some, refl, sym, ap, subst, codes, length, nat_lt, le-ltb}
use Rattle.line_text.specs.Lines.{joined, longest_line}
use Rattle.line_text.specs.Words.{words_of}
use Rattle.conf_lines.proofs.GrammarPlaces.{at_discipline_word, at_interface_name}
use Rattle.conf_lines.proofs.Readings.{past}
use Rattle.conf_lines.specs.Grammar.{at_discipline, at_statement, begins, behind_option, end, refused, start, step}
use Rattle.conf_lines.specs.Slots.{is_text}
use Rattle.conf_lines.specs.Texts.{Reading, as_statement, by_words, line_too_long, read_from, statement_of}
use Rattle.conf_lines.specs.declared.item.What.{What}
use Rattle.conf_lines.specs.declared.options.Slots.TheVariants as slots
use Rattle.conf_lines.specs.declared.statement.Form.{Form}
use Rattle.conf_lines.specs.declared.statement.Form.TheVariants as form
use Rattle.conf_lines.specs.declared.statement.Statement.{Statement as Stated}
use Rattle.conf_laws.specs.Statements.{numbered}
use Rattle.conf_grammar.proofs.Classes.{cbq_ends, hfsc_ends, interface_ends}
use Rattle.conf_grammar.proofs.Filters.{conditioner_ends, filter6_ends, filter_ends}
use Rattle.conf_grammar.proofs.Leads.{Ends, NoFault, Spelled, clean}
use Rattle.conf_grammar.proofs.Places.{err_is, is_word, refused_is}
use Rattle.conf_grammar.specs.Laws.{ReadIsSpelled, SpelledIsRead, SpelledLinesAreStatements, StatementsAreSpelled, first_item, whats}
use Rattle.conf_grammar.specs.Phrases.{◌▷◌, then, Fixed, fixed}
use Rattle.conf_grammar.specs.Spells.{Spells}
use Rattle.conf_grammar.specs.Words.{Phrase}

-- SPELLED WORDS ARE READ
-- behind a first word that says which statement it is, and behind class and such a word
begun_read : (line : ℕ) (form : Form) (text : List ℕ) {A : Phrase} → step start text ≡ begins form (behind_option slots.Nothing)
    → Ends form A (at_interface_name form) → (words : List (List ℕ)) (says : List What) → (Fixed text ▷ A) words says
    → read_from line words start 1 ≡ clean 2 form says
begun_read line form text e ends words says (then fixed x) = rw (read_from, e, (ends.read x).is line 2) refl

class_read : (line : ℕ) (form : Form) (kind : List ℕ) {A : Phrase} → step at_discipline_word kind ≡ begins form (behind_option slots.Nothing)
    → Ends form A (at_interface_name form) → (words : List (List ℕ)) (says : List What) → (Fixed (codes "class") ▷ Fixed kind ▷ A) words says
    → read_from line words start 1 ≡ clean 3 form says
unfolding step at_statement is_text
class_read line form kind e ends words says (then fixed (then fixed x)) =
    rw (read_from, e, (ends.read x).is line 3) refl

pub spelled_is_read : SpelledIsRead
unfolding step at_statement at_discipline is_text
spelled_is_read line form.Interface words says x = begun_read line form.Interface (codes "interface") refl interface_ends words says x
spelled_is_read line form.ClassHfsc words says x = class_read line form.ClassHfsc (codes "hfsc") refl hfsc_ends words says x
spelled_is_read line form.ClassCbq words says x = class_read line form.ClassCbq (codes "cbq") refl cbq_ends words says x
spelled_is_read line form.Filter words says x = begun_read line form.Filter (codes "filter") refl filter_ends words says x
spelled_is_read line form.Filter6 words says x = begun_read line form.Filter6 (codes "filter6") refl filter6_ends words says x
spelled_is_read line form.Conditioner words says x = begun_read line form.Conditioner (codes "conditioner") refl conditioner_ends words says x
spelled_is_read line form.Unread words says x = absurd x

-- READ WORDS ARE SPELLED
record Statement (words : List (List ℕ)) : Type 0 where
  form : Form
  says : List What
  is : Spells form words says

-- behind a word that says which statement it is
begun : (form : Form) (text w : List ℕ) {words : List (List ℕ)} {A : Phrase} → is_text text w ≡ true
    → ((says : List What) → A words says → Spells form (text ∷ words) says) → Spelled A words → Statement (w ∷ words)
begun form text w {words = words} t spells s = record {
  form = form;
  says = s.says;
  is = subst (λ (v : List ℕ). Spells form (v ∷ words) s.says) (sym (is_word text w t)) (spells s.says s.is);
}

class_begun : (form : Form) (kind v w : List ℕ) {words : List (List ℕ)} {A : Phrase} → is_text (codes "class") w ≡ true → is_text kind v ≡ true
    → ((says : List What) → A words says → Spells form (codes "class" ∷ kind ∷ words) says) → Spelled A words → Statement (w ∷ v ∷ words)
class_begun form kind v w {words = words} t u spells s = record {
  form = form;
  says = s.says;
  is = subst (λ (x : List ℕ). Spells form (x ∷ v ∷ words) s.says) (sym (is_word (codes "class") w t))
      (subst (λ (x : List ℕ). Spells form (codes "class" ∷ x ∷ words) s.says) (sym (is_word kind v u)) (spells s.says s.is));
}

by_kind : (line : ℕ) (w v : List ℕ) (words : List (List ℕ)) (a b : Bool) → is_text (codes "class") w ≡ true → is_text (codes "hfsc") v ≡ a
    → is_text (codes "cbq") v ≡ b
    → (past line words at_discipline_word 2
    (cond a (begins form.ClassHfsc (behind_option slots.Nothing)) (cond b (begins form.ClassCbq (behind_option slots.Nothing)) (refused v)))).fault ≡ None
    → Statement (w ∷ v ∷ words)
by_kind line w v words true b t e f h =
    class_begun form.ClassHfsc (codes "hfsc") v w t e (λ says x. then fixed (then fixed x)) (hfsc_ends.found line words 3 h)
by_kind line w v words false true t e f h =
    class_begun form.ClassCbq (codes "cbq") v w t f (λ says x. then fixed (then fixed x)) (cbq_ends.found line words 3 h)
by_kind line w v words false false t e f h = absurd (err_is line words at_discipline_word 2 (refused v) (refused_is v) h)

class_found : (line : ℕ) (w : List ℕ) (words : List (List ℕ)) → is_text (codes "class") w ≡ true → NoFault line words at_discipline_word 2
    → Statement (w ∷ words)
unfolding step end at_discipline
class_found line w [] t h = absurd cc
class_found line w (v ∷ words) t h = by_kind line w v words (is_text (codes "hfsc") v) (is_text (codes "cbq") v) t refl refl h

by_first : (line : ℕ) (w : List ℕ) (words : List (List ℕ)) (a b c d e : Bool) → is_text (codes "interface") w ≡ a → is_text (codes "class") w ≡ b
    → is_text (codes "filter") w ≡ c → is_text (codes "filter6") w ≡ d → is_text (codes "conditioner") w ≡ e
    → (past line words start 1
    (cond a (begins form.Interface (behind_option slots.Nothing))
    (cond b (begins form.Unread at_discipline_word.next)
    (cond c (begins form.Filter (behind_option slots.Nothing))
    (cond d (begins form.Filter6 (behind_option slots.Nothing)) (cond e (begins form.Conditioner (behind_option slots.Nothing)) (refused w))))))).fault
    ≡ None → Statement (w ∷ words)
by_first line w words true b c d e i k f g m h =
    begun form.Interface (codes "interface") w i (λ says x. then fixed x) (interface_ends.found line words 2 h)
by_first line w words false true c d e i k f g m h = class_found line w words k h
by_first line w words false false true d e i k f g m h =
    begun form.Filter (codes "filter") w f (λ says x. then fixed x) (filter_ends.found line words 2 h)
by_first line w words false false false true e i k f g m h =
    begun form.Filter6 (codes "filter6") w g (λ says x. then fixed x) (filter6_ends.found line words 2 h)
by_first line w words false false false false true i k f g m h =
    begun form.Conditioner (codes "conditioner") w m (λ says x. then fixed x) (conditioner_ends.found line words 2 h)
by_first line w words false false false false false i k f g m h = absurd (err_is line words start 1 (refused w) (refused_is w) h)

statement_found : (line : ℕ) (words : List (List ℕ)) → NoFault line words start 1 → Statement words
unfolding step end at_statement
statement_found line [] h = absurd cc
statement_found line (w ∷ words) h =
    by_first line w words (is_text (codes "interface") w) (is_text (codes "class") w) (is_text (codes "filter") w) (is_text (codes "filter6") w)
    (is_text (codes "conditioner") w) refl refl refl refl refl h

whats_numbered : (at : ℕ) (says : List What) → whats (numbered at says) ≡ says
whats_numbered at [] = refl
whats_numbered at (x ∷ says) = ap (λ (xs : List What). x ∷ xs) (whats_numbered (at + 1) says)

pub read_is_spelled : ReadIsSpelled
read_is_spelled line words h =
    let s = statement_found line words h in
    let e = spelled_is_read line s.form words s.says s.is in
    subst (λ (r : Reading). Spells r.form words (whats r.items)) (sym e)
    (subst (λ (xs : List What). Spells s.form words xs) (sym (whats_numbered (first_item s.form) s.says)) s.is)

-- LINES
none_spelled : (line : ℕ) (form : Form) (says : List What) → Spells form [] says → ⊥
unfolding end
none_spelled line form says x = let e = ap (λ (r : Reading). r.fault) (spelled_is_read line form [] says x) in absurd (some_fault e)
  where
    some_fault : (read_from line [] start 1).fault ≡ None → ⊥
    some_fault e = cc

words_stated : (line : ℕ) (form : Form) (words : List (List ℕ)) (says : List What) → Spells form words says
    → by_words line words ≡ Some (record { line = line; form = form; items = numbered (first_item form) says; end = length words + 1; fault = None })
words_stated line form [] says x = absurd (none_spelled line form says x)
words_stated line form (w ∷ words) says x =
    ap (λ (r : Reading). Some (as_statement line (length (w ∷ words) + 1) r)) (spelled_is_read line form (w ∷ words) says x)

pub spelled_lines : SpelledLinesAreStatements
spelled_lines line form bytes says few x =
    rw (statement_of, le-ltb longest_line (length (joined bytes)) few) (words_stated line form (words_of (joined bytes)) says x)

words_spelled : (line : ℕ) (words : List (List ℕ)) (s : Stated) → by_words line words ≡ Some s → s.fault ≡ None → Spells s.form words (whats s.items)
words_spelled line [] s e h = absurd cc
words_spelled line (w ∷ words) s e h =
    let same : as_statement line (length (w ∷ words) + 1) (read_from line (w ∷ words) start 1) ≡ s = cc in
    let none : (read_from line (w ∷ words) start 1).fault ≡ None = ap (λ (x : Stated). x.fault) same ∙ h in
    subst (λ (x : Stated). Spells x.form (w ∷ words) (whats x.items)) same (read_is_spelled line (w ∷ words) none)

pub statements_spelled : StatementsAreSpelled
statements_spelled line bytes s e h = go (nat_lt longest_line (length (joined bytes))) e
  where
    go : (b : Bool) → cond b (Some (line_too_long line (words_of (joined bytes)))) (by_words line (words_of (joined bytes))) ≡ Some s
        → Spells s.form (words_of (joined bytes)) (whats s.items)
    go true e =
        let same : line_too_long line (words_of (joined bytes)) ≡ s = cc in
        absurd (some_fault (ap (λ (x : Stated). x.fault) same ∙ h))
      where
        some_fault : (line_too_long line (words_of (joined bytes))).fault ≡ None → ⊥
        some_fault e = cc
    go false e = words_spelled line (words_of (joined bytes)) s e h
