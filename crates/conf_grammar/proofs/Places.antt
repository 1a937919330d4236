-- Places of the grammar: where the words of an option are wanted, and places that are read alike.
use Rattle.std.proofs.Common.{◌≡◌, ◌∙◌, ℕ, Bool, true, false, cond, List, [], ◌∷◌, None, Result, Ok, Err, refl, sym, ap}
use Rattle.std.specs.Cmp.Lexicographic.{bytes_decides}
use Rattle.conf_lines.proofs.Readings.{past}
use Rattle.conf_lines.specs.Grammar.{Place, Step, behind_option, end, reads, refused, stands_by, step}
use Rattle.conf_lines.specs.Slots.{are_plain, is_text}
use Rattle.conf_lines.specs.Texts.{Reading, read_from}
use Rattle.conf_lines.specs.declared.fault.ConfKind.{ConfKind}
use Rattle.conf_lines.specs.declared.fault.ConfKind.TheVariants.{BadByte, UnknownWord}
use Rattle.conf_lines.specs.declared.item.What.{What}
use Rattle.conf_lines.specs.declared.options.Slots.{Slots}
use Rattle.conf_lines.specs.declared.options.Slots.TheVariants as slots
use Rattle.conf_lines.specs.declared.statement.Form.{Form}
use Rattle.conf_grammar.proofs.Leads.{Found, Good, NoFault, leading}
use Rattle.conf_grammar.specs.Words.{Phrase}

-- what an option asks for comes next; and behind it a part or an option
abbrev pub wanting : Slots → Place → Place
wanting s q = record q { next = behind_option s; stands = true }

abbrev pub resumed : Place → Place
resumed q = wanting slots.Nothing q

-- the place behind a word, if it was read
abbrev pub after : Place → Result Step ConfKind → Place
after p (Ok t) = t.after
after p (Err kind) = p

-- a word is read at the place of a part, and behind it
abbrev pub behind_word : Place → What → Place
behind_word q x = record (resumed q) { stands = stands_by x }

pub reads_leading : (q : Place) (r : Result What ConfKind) → reads r q ≡ leading (behind_word q) r
reads_leading q (Ok x) = refl
reads_leading q (Err kind) = refl

-- WORDS
pub is_word : (text word : List ℕ) → is_text text word ≡ true → word ≡ text
unfolding is_text
is_word text word e = (bytes_decides word text).0 e

pub is_itself : (text : List ℕ) → is_text text text ≡ true
unfolding is_text
is_itself text = (bytes_decides text text).1 refl

-- a word is this one, or it is not
pub by_text : {A : Type 0} (text word : List ℕ) → (is_text text word ≡ true → A) → (is_text text word ≡ false → A) → A
by_text {A} text word same other = go (is_text text word) refl
  where
    go : (b : Bool) → is_text text word ≡ b → A
    go true e = same e
    go false e = other e

abbrev pub IsErr : Result Step ConfKind → Type 0
IsErr (Ok t) = ⊥
IsErr (Err kind) = Unit {0}

pub refused_is : (word : List ℕ) → IsErr (refused word)
refused_is word = go (are_plain word)
  where
    go : (b : Bool) → IsErr (cond b (Err UnknownWord) (Err BadByte))
    go true = tt
    go false = tt

pub err_is : (line : ℕ) (words : List (List ℕ)) (p : Place) (at : ℕ) (r : Result Step ConfKind) → IsErr r → (past line words p at r).fault ≡ None → ⊥
err_is line words p at (Ok t) is h = is
err_is line words p at (Err kind) is h = cc

-- PLACES THAT ARE READ ALIKE
pub past_same : (p q : Place) → p.form ≡ q.form → (line : ℕ) (words : List (List ℕ)) (at : ℕ) (r : Result Step ConfKind)
    → past line words p at r ≡ past line words q at r
past_same p q e line words at (Ok t) = refl
past_same p q e line words at (Err kind) = rw e refl

pub record Same (p q : Place) : Type 0 where
  pub form : p.form ≡ q.form
  pub steps : (word : List ℕ) → step p word ≡ step q word
  pub ends : end p ≡ end q

pub same_read : (p q : Place) → Same p q → (line : ℕ) (words : List (List ℕ)) (at : ℕ) → read_from line words p at ≡ read_from line words q at
same_read p q s line [] at = rw (read_from, s.ends, s.form) refl
same_read p q s line (word ∷ words) at = rw (read_from, s.steps word) (past_same p q s.form line words at (step q word))

pub good_same : {form : Form} (p q : Place) {words : List (List ℕ)} {says : List What} → Same p q → Good form q words says → Good form p words says
good_same p q {words = words} s good = record { is = λ line at. same_read p q s line words at ∙ good.is line at }

pub none_same : (p q : Place) → Same p q → (line : ℕ) (words : List (List ℕ)) (at : ℕ) → NoFault line words p at → NoFault line words q at
none_same p q s line words at h = ap (λ (r : Reading). r.fault) (sym (same_read p q s line words at)) ∙ h

pub found_same : {A : Phrase} (p q : Place) {line : ℕ} {words : List (List ℕ)} → Same p q → Found A p line words → Found A q line words
found_same p q {line = line} s f =
    record { front = f.front; says = f.says; rest = f.rest; at = f.at; split = f.split; is = f.is; on = none_same p q s line f.rest f.at f.on }
