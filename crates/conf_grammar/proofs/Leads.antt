-- A phrase leads from one place of the grammar to another where exactly its words do.
use Rattle.std.proofs.Common.{◌≡◌, ◌∙◌, ℕ, ◌+◌, List, [], ◌∷◌, ◌++◌, Option, None, Some, Result, Ok, Err, refl, sym, ap, subst}
use Rattle.std.proofs.lemmas.List.{append_assoc}
use Rattle.conf_lines.proofs.Readings.{past}
use Rattle.conf_lines.specs.Grammar.{Place, Step, end, step}
use Rattle.conf_lines.specs.Texts.{Reading, fault_at, read_from}
use Rattle.conf_lines.specs.declared.fault.ConfKind.{ConfKind}
use Rattle.conf_lines.specs.declared.item.What.{What}
use Rattle.conf_lines.specs.declared.statement.Form.{Form}
use Rattle.conf_laws.specs.Statements.{numbered}
use Rattle.conf_grammar.specs.Phrases.{◌▷◌, then}
use Rattle.conf_grammar.specs.Words.{Phrase}

-- words are read from a place on as what they say, to the end of the statement
abbrev pub clean : ℕ → Form → List What → Reading
clean at form says = record { form = form; items = numbered at says; fault = None }

pub record Good (form : Form) (p : Place) (words : List (List ℕ)) (says : List What) : Type 0 where
  pub is : (line at : ℕ) → read_from line words p at ≡ clean at form says

-- they are read so without a fault
abbrev pub NoFault : ℕ → List (List ℕ) → Place → ℕ → Type 0
NoFault line words p at = (read_from line words p at).fault ≡ None

-- a phrase stands first, and behind it the reading goes on from a place
pub record Found (A : Phrase) (q : Place) (line : ℕ) (words : List (List ℕ)) : Type 0 where
  pub front : List (List ℕ)
  pub says : List What
  pub rest : List (List ℕ)
  pub at : ℕ
  pub split : words ≡ front ++ rest
  pub is : A front says
  pub on : NoFault line rest q at

-- one word, and one word more in front
pub found_one : {A : Phrase} {q : Place} {line : ℕ} {words : List (List ℕ)} (word : List ℕ) (x : What) (at : ℕ) → A (word ∷ []) (x ∷ [])
    → NoFault line words q at → Found A q line (word ∷ words)
found_one {words = words} word x at is on =
    record { front = word ∷ []; says = x ∷ []; rest = words; at = at; split = refl; is = is; on = on }

pub found_more : {A B : Phrase} {q : Place} {line : ℕ} {words : List (List ℕ)} (word : List ℕ) (x : What)
    → ((front : List (List ℕ)) (says : List What) → A front says → B (word ∷ front) (x ∷ says)) → Found A q line words → Found B q line (word ∷ words)
found_more word x is f = record {
  front = word ∷ f.front;
  says = x ∷ f.says;
  rest = f.rest;
  at = f.at;
  split = ap (λ (ws : List (List ℕ)). word ∷ ws) f.split;
  is = is f.front f.says f.is;
  on = f.on;
}

pub record Leads (form : Form) (A : Phrase) (p q : Place) : Type 0 where
  pub read : {words more : List (List ℕ)} {says rest : List What} → A words says → Good form q more rest → Good form p (words ++ more) (says ++ rest)
  pub found : (line : ℕ) (words : List (List ℕ)) (at : ℕ) → NoFault line words p at → Found A q line words

-- the same up to the end of the statement
pub record Spelled (A : Phrase) (words : List (List ℕ)) : Type 0 where
  pub says : List What
  pub is : A words says

pub record Ends (form : Form) (A : Phrase) (p : Place) : Type 0 where
  pub read : {words : List (List ℕ)} {says : List What} → A words says → Good form p words says
  pub found : (line : ℕ) (words : List (List ℕ)) (at : ℕ) → NoFault line words p at → Spelled A words

-- ONE PHRASE BEHIND ANOTHER
infixr 5 ◌>>◌
pub ◌>>◌ : {form : Form} {A B : Phrase} {p q : Place} → Leads form A p q → Ends form B q → Ends form (A ▷ B) p
◌>>◌ {form} {A} {B} {p} {q} first second = record { read = reads; found = finds }
  where
    reads : {words : List (List ℕ)} {says : List What} → (A ▷ B) words says → Good form p words says
    reads (then a b) = first.read a (second.read b)

    finds : (line : ℕ) (words : List (List ℕ)) (at : ℕ) → NoFault line words p at → Spelled (A ▷ B) words
    finds line words at h =
        let f = first.found line words at h in
        let s = second.found line f.rest f.at f.on in
        record { says = f.says ++ s.says; is = subst (λ (ws : List (List ℕ)). (A ▷ B) ws (f.says ++ s.says)) (sym f.split) (then f.is s.is) }

infixr 5 ◌>+◌
pub ◌>+◌ : {form : Form} {A B : Phrase} {p q r : Place} → Leads form A p q → Leads form B q r → Leads form (A ▷ B) p r
◌>+◌ {form} {A} {B} {p} {q} {r} first second = record { read = reads; found = finds }
  where
    reads : {words more : List (List ℕ)} {says rest : List What} → (A ▷ B) words says → Good form r more rest → Good form p (words ++ more) (says ++ rest)
    reads {more = more} {rest = rest} (then {words = u} {more = v} {says = x} {rest = y} a b) good =
        simp append_assoc (first.read a (second.read b good))

    finds : (line : ℕ) (words : List (List ℕ)) (at : ℕ) → NoFault line words p at → Found (A ▷ B) r line words
    finds line words at h =
        let f = first.found line words at h in
        let s = second.found line f.rest f.at f.on in
        record {
          front = f.front ++ s.front;
          says = f.says ++ s.says;
          rest = s.rest;
          at = s.at;
          split = f.split ∙ ap (λ (ws : List (List ℕ)). f.front ++ ws) s.split ∙ rw append_assoc refl;
          is = then f.is s.is;
          on = s.on;
        }

-- ONE WORD
-- the step of a word that says something: the place behind it is by what it says, or the same for all
abbrev pub leading : (What → Place) → Result What ConfKind → Result Step ConfKind
leading after (Ok says) = Ok (record { what = Some says; after = after says })
leading after (Err kind) = Err kind

abbrev pub taken : Place → Result What ConfKind → Result Step ConfKind
taken q read = leading (λ x. q) read

pub one_more : {form : Form} (p q : Place) (word : List ℕ) (x : What) {more : List (List ℕ)} {rest : List What}
    → step p word ≡ Ok (record { what = Some x; after = q }) → Good form q more rest → Good form p (word ∷ more) (x ∷ rest)
one_more p q word x e good = record { is = λ line at. rw (read_from, e, good.is line (at + 1)) refl }

pub no_fault : (line at : ℕ) (o : Option ConfKind) → fault_at line at o ≡ None → o ≡ None
no_fault line at None e = refl
no_fault line at (Some kind) e = absurd cc

-- what is found at a place where a word must stand, which `read` reads
module _ (C : List (List ℕ) → Type 0) (line : ℕ) (p : Place) (read : List ℕ → Result What ConfKind) (behind : List ℕ → What → Place)
    (unended : end p ≡ None → ⊥) (steps : (word : List ℕ) → step p word ≡ leading (behind word) (read word))
    (by_word : (word : List ℕ) (x : What) (more : List (List ℕ)) (at : ℕ) → read word ≡ Ok x → NoFault line more (behind word x) at → C (word ∷ more)) where
  by_read : (word : List ℕ) (more : List (List ℕ)) (at : ℕ) (r : Result What ConfKind) → read word ≡ r
      → (past line more p at (leading (behind word) r)).fault ≡ None → C (word ∷ more)
  by_read word more at (Ok x) e h = by_word word x more (at + 1) e h
  by_read word more at (Err kind) e h = absurd cc

  pub found_by : (words : List (List ℕ)) (at : ℕ) → NoFault line words p at → C words
  found_by [] at h = absurd (unended (no_fault line at (end p) h))
  found_by (word ∷ more) at h =
      by_read word more at (read word) refl (subst (λ (r : Result Step ConfKind). (past line more p at r).fault ≡ None) (steps word) h)

-- a phrase of one word, which `read` reads
pub data One (read : List ℕ → Result What ConfKind) : List (List ℕ) → List What → Type 0 where
  one : {word : List ℕ} {x : What} → read word ≡ Ok x → One read (word ∷ []) (x ∷ [])

pub one_leads : (form : Form) (A : Phrase) (p q : Place) (read : List ℕ → Result What ConfKind)
    → ((word : List ℕ) → step p word ≡ taken q (read word)) → (end p ≡ None → ⊥)
    → ((words : List (List ℕ)) (says : List What) → A words says → One read words says)
    → ((word : List ℕ) (x : What) → read word ≡ Ok x → A (word ∷ []) (x ∷ [])) → Leads form A p q
one_leads form A p q read steps unended one_of of_one = record { read = reads; found = finds }
  where
    by_one : {words more : List (List ℕ)} {says rest : List What} → One read words says → Good form q more rest → Good form p (words ++ more) (says ++ rest)
    by_one (one {word = word} {x = x} e) good = one_more p q word x (rw (steps word, e) refl) good

    reads : {words more : List (List ℕ)} {says rest : List What} → A words says → Good form q more rest → Good form p (words ++ more) (says ++ rest)
    reads {words = words} {says = says} a good = by_one (one_of words says a) good

    finds : (line : ℕ) (words : List (List ℕ)) (at : ℕ) → NoFault line words p at → Found A q line words
    finds line words at h =
        found_by (Found A q line) line p read (λ w x. q) unended steps (λ w x more n e on. found_one w x n (of_one w x e) on) words at h
