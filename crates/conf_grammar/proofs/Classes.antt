-- An interface and a class, from behind the words that say which statement it is up to the end.
use Rattle.std.proofs.Common.{◌≡◌, ◌∙◌, ℕ, ◌||◌, Bool, true, false, List, ◌∷◌, drop, length, None, Ok, refl, sym, subst, codes, arith}
use Rattle.std.proofs.Math.Bool.{or-true}
use Rattle.line_text.specs.Names.{is_name}
use Rattle.conf_lines.proofs.GrammarPlaces.{at_option}
use Rattle.conf_lines.specs.Grammar.{Place, at_parent, end, reads, step}
use Rattle.conf_lines.specs.Parts.{parts_of}
use Rattle.conf_lines.specs.Slots.{is_text, name_in}
use Rattle.conf_lines.specs.declared.item.What.{What}
use Rattle.conf_lines.specs.declared.item.What.TheVariants as what
use Rattle.conf_lines.specs.declared.options.Key.{Key}
use Rattle.conf_lines.specs.declared.statement.Form.{Form}
use Rattle.conf_lines.specs.declared.statement.Form.TheVariants as form
use Rattle.conf_grammar.proofs.Forms.{cbq_choice, hfsc_choice, interface_choice}
use Rattle.conf_grammar.proofs.Leads.{Ends, Good, NoFault, Spelled, found_by, one_more, ◌>>◌}
use Rattle.conf_grammar.proofs.Many.{Choice, Options, many_found, many_read}
use Rattle.conf_grammar.proofs.OneWord.{name_back, name_read}
use Rattle.conf_grammar.proofs.Parts.{at_name, at_part, name_part}
use Rattle.conf_grammar.proofs.Places.{behind_word, is_itself, is_word, reads_leading}
use Rattle.conf_grammar.specs.Options.{CbqOption, HfscOption, InterfaceOption, is_discipline, is_rate, is_share}
use Rattle.conf_grammar.specs.Phrases.{◌▷◌, has, Many}
use Rattle.conf_grammar.specs.Spells.{Below, below, root, Needing, needing}
use Rattle.conf_grammar.specs.Words.{Name, Phrase}

-- AN INTERFACE
needing_read : (form : Form) (test : Key → Bool) (Of : Phrase) → Choice form test Of → {words : List (List ℕ)} {says : List What} → Needing test Of words says
    → Good form (at_option form false) words says
needing_read form test Of choice (needing os s) = many_read form test Of choice false os s

needing_found : (form : Form) (test : Key → Bool) (Of : Phrase) → Choice form test Of → (line : ℕ) (words : List (List ℕ)) (at : ℕ)
    → NoFault line words (at_option form false) at → Spelled (Needing test Of) words
needing_found form test Of choice line words at h =
    let os = many_found form test Of choice (length words) false line words at (omega arith) h in
    record { says = os.says; is = needing os.are os.whole }

options_end : Ends form.Interface (Needing is_discipline InterfaceOption) (at_option form.Interface false)
options_end = record {
  read = needing_read form.Interface is_discipline InterfaceOption interface_choice;
  found = needing_found form.Interface is_discipline InterfaceOption interface_choice;
}

pub interface_ends : Ends form.Interface (Name ▷ Needing is_discipline InterfaceOption) (at_part form.Interface 0)
interface_ends = name_part (at_option form.Interface false) >> options_end

-- A CLASS
module _ (f : Form) (test : Key → Bool) (Of : Phrase) (choice : Choice f test Of) where
  -- where the parent of a class is still to come
  abbrev at_below : Place
  at_below = record (at_option f false) { parts = drop 2 (parts_of form.ClassHfsc) }

  steps : (w : List ℕ) → step at_below w ≡ reads (name_in w) (at_option f (is_text (codes "NULL") w))
  unfolding step at_parent
  steps w = refl

  unended : end at_below ≡ None → ⊥
  unfolding end
  unended e = cc

  read_parent : (parent : List ℕ) {words : List (List ℕ)} {says : List What} → is_name parent ≡ true → Many Of words says
      → (is_text (codes "NULL") parent || has test says) ≡ true → Good f at_below (parent ∷ words) (what.Name parent ∷ says)
  read_parent parent is os s =
      one_more at_below (at_option f (is_text (codes "NULL") parent)) parent (what.Name parent) (rw (steps parent, name_read parent is) refl)
      (many_read f test Of choice (is_text (codes "NULL") parent) os s)

  read_below : {words : List (List ℕ)} {says : List What} → Below test Of words says → Good f at_below words says
  read_below (root os) = read_parent (codes "NULL") refl os (rw (is_itself (codes "NULL")) refl)
  read_below (below {parent = parent} is (needing os s)) = read_parent parent is os (rw (s, or-true (is_text (codes "NULL") parent)) refl)

  spelled : (w : List ℕ) (words : List (List ℕ)) (t : Bool) → is_text (codes "NULL") w ≡ t → is_name w ≡ true → Options f test Of choice t words
      → Spelled (Below test Of) (w ∷ words)
  spelled w words true t is os =
      record {
        says = what.Name (codes "NULL") ∷ os.says;
        is = subst (λ (v : List ℕ). Below test Of (v ∷ words) (what.Name (codes "NULL") ∷ os.says)) (sym (is_word (codes "NULL") w t)) (root os.are);
      }
  spelled w words false t is os = record { says = what.Name w ∷ os.says; is = below is (needing os.are os.whole) }

  by_name : (line : ℕ) (w : List ℕ) (x : What) (words : List (List ℕ)) (at : ℕ) → name_in w ≡ Ok x
      → NoFault line words (behind_word (at_option f (is_text (codes "NULL") w)) x) at → Spelled (Below test Of) (w ∷ words)
  by_name line w x words at e h =
      let is = name_back w x e in
      let on = subst (λ (y : What). NoFault line words (behind_word (at_option f (is_text (codes "NULL") w)) y) at) (sym is.1) h in
      spelled w words (is_text (codes "NULL") w) refl is.0
      (many_found f test Of choice (length words) (is_text (codes "NULL") w) line words at (omega arith) on)

  found_below : (line : ℕ) (words : List (List ℕ)) (at : ℕ) → NoFault line words at_below at → Spelled (Below test Of) words
  found_below line words at h =
      found_by (Spelled (Below test Of)) line at_below name_in (λ w x. behind_word (at_option f (is_text (codes "NULL") w)) x) unended
      (λ w. steps w ∙ reads_leading (at_option f (is_text (codes "NULL") w)) (name_in w)) (by_name line) words at h

  pub class_ends : Ends f (Name ▷ Name ▷ Below test Of) (at_name (at_name at_below))
  class_ends = name_part (at_name at_below) >> name_part at_below >> record { read = read_below; found = found_below }

pub hfsc_ends : Ends form.ClassHfsc (Name ▷ Name ▷ Below is_share HfscOption) (at_part form.ClassHfsc 0)
hfsc_ends = class_ends form.ClassHfsc is_share HfscOption hfsc_choice

pub cbq_ends : Ends form.ClassCbq (Name ▷ Name ▷ Below is_rate CbqOption) (at_part form.ClassCbq 0)
cbq_ends = class_ends form.ClassCbq is_rate CbqOption cbq_choice
