-- What the reading answers to lines at the ends of each range, and past them.
use Rattle.std.proofs.Common.{◌≡◌, ℕ, List, [], ◌∷◌, None, refl, subst}
use Rattle.line_text.specs.Words.{words_of}
use Rattle.conf_lines.specs.Grammar.{at_discipline, at_parent, at_statement, end, start, step}
use Rattle.conf_lines.specs.Slots.{address6_in, address_in, are_plain, is_text, mask_in, name_in, protocol_in, rate_in, whole_in}
use Rattle.conf_lines.specs.Texts.{Reading, read_from}
use Rattle.conf_lines.specs.declared.statement.Form.{Form}
use Rattle.conf_lines.specs.declared.statement.Form.TheVariants as form
use Rattle.conf_grammar.proofs.Statements.{read_is_spelled}
use Rattle.conf_grammar.proofs.WorkedLines.{refuted}
use Rattle.conf_grammar.specs.Bounds.{AllSpell, NoneSpells, interface_ends, interface_past, hfsc_ends, hfsc_past, cbq_ends, cbq_past, filter_ends, filter_past, filter6_ends, filter6_past, conditioner_ends, conditioner_past}
use Rattle.conf_grammar.specs.Laws.{whats}
use Rattle.conf_grammar.specs.Spells.{Spells}

abbrev reading : List ℕ → Reading
reading line = read_from 1 (words_of line) start 1

-- each line is read as a statement of this form, and each has a fault
abbrev AllRead : Form → List (List ℕ) → Type 0
AllRead form [] = Unit {0}
AllRead form (line ∷ lines) = ((reading line).fault ≡ None) × ((reading line).form ≡ form) × AllRead form lines

abbrev NoneRead : List (List ℕ) → Type 0
NoneRead [] = Unit {0}
NoneRead (line ∷ lines) = ((reading line).fault ≡ None → ⊥) × NoneRead lines

all_spell : (form : Form) (lines : List (List ℕ)) → AllRead form lines → AllSpell form lines
all_spell form [] read = tt
all_spell form (line ∷ lines) read =
    let spelled = read_is_spelled 1 (words_of line) read.0 in
    let P : Form → Type 0 = λ f. Spells f (words_of line) (whats (reading line).items) in
    ((whats (reading line).items, subst P read.1 spelled), all_spell form lines read.2)

none_spells : (form : Form) (lines : List (List ℕ)) → NoneRead lines → NoneSpells form lines
none_spells form [] read = tt
none_spells form (line ∷ lines) read = (refuted form (words_of line) read.0, none_spells form lines read.1)

pub interface_ends_spell : AllSpell form.Interface interface_ends
unfolding is_text are_plain rate_in whole_in name_in protocol_in mask_in address_in address6_in at_statement at_discipline at_parent step end
interface_ends_spell = all_spell form.Interface interface_ends (refl, refl, (refl, refl, (refl, refl, tt)))

pub interface_past_spells_nothing : NoneSpells form.Interface interface_past
unfolding is_text are_plain rate_in whole_in name_in protocol_in mask_in address_in address6_in at_statement at_discipline at_parent step end
interface_past_spells_nothing = none_spells form.Interface interface_past (λ e. cc, (λ e. cc, (λ e. cc, tt)))

pub hfsc_ends_spell : AllSpell form.ClassHfsc hfsc_ends
unfolding is_text are_plain rate_in whole_in name_in protocol_in mask_in address_in address6_in at_statement at_discipline at_parent step end
hfsc_ends_spell = all_spell form.ClassHfsc hfsc_ends (refl, refl, (refl, refl, (refl, refl, (refl, refl, (refl, refl, tt)))))

pub hfsc_past_spells_nothing : NoneSpells form.ClassHfsc hfsc_past
unfolding is_text are_plain rate_in whole_in name_in protocol_in mask_in address_in address6_in at_statement at_discipline at_parent step end
hfsc_past_spells_nothing = none_spells form.ClassHfsc hfsc_past (λ e. cc, (λ e. cc, (λ e. cc, (λ e. cc, (λ e. cc, (λ e. cc, (λ e. cc, (λ e. cc, (λ e. cc, (λ e. cc, (λ e. cc, (λ e. cc, (λ e. cc, (λ e. cc, (λ e. cc, (λ e. cc, (λ e. cc, (λ e. cc, (λ e. cc, (λ e. cc, (λ e. cc, (λ e. cc, (λ e. cc, (λ e. cc, (λ e. cc, tt)))))))))))))))))))))))))

pub cbq_ends_spell : AllSpell form.ClassCbq cbq_ends
unfolding is_text are_plain rate_in whole_in name_in protocol_in mask_in address_in address6_in at_statement at_discipline at_parent step end
cbq_ends_spell = all_spell form.ClassCbq cbq_ends (refl, refl, (refl, refl, tt))

pub cbq_past_spells_nothing : NoneSpells form.ClassCbq cbq_past
unfolding is_text are_plain rate_in whole_in name_in protocol_in mask_in address_in address6_in at_statement at_discipline at_parent step end
cbq_past_spells_nothing = none_spells form.ClassCbq cbq_past (λ e. cc, (λ e. cc, (λ e. cc, (λ e. cc, (λ e. cc, (λ e. cc, (λ e. cc, (λ e. cc, (λ e. cc, (λ e. cc, tt))))))))))

pub filter_ends_spell : AllSpell form.Filter filter_ends
unfolding is_text are_plain rate_in whole_in name_in protocol_in mask_in address_in address6_in at_statement at_discipline at_parent step end
filter_ends_spell = all_spell form.Filter filter_ends (refl, refl, (refl, refl, tt))

pub filter_past_spells_nothing : NoneSpells form.Filter filter_past
unfolding is_text are_plain rate_in whole_in name_in protocol_in mask_in address_in address6_in at_statement at_discipline at_parent step end
filter_past_spells_nothing = none_spells form.Filter filter_past (λ e. cc, (λ e. cc, (λ e. cc, (λ e. cc, (λ e. cc, (λ e. cc, tt))))))

pub filter6_ends_spell : AllSpell form.Filter6 filter6_ends
unfolding is_text are_plain rate_in whole_in name_in protocol_in mask_in address_in address6_in at_statement at_discipline at_parent step end
filter6_ends_spell = all_spell form.Filter6 filter6_ends (refl, refl, (refl, refl, tt))

pub filter6_past_spells_nothing : NoneSpells form.Filter6 filter6_past
unfolding is_text are_plain rate_in whole_in name_in protocol_in mask_in address_in address6_in at_statement at_discipline at_parent step end
filter6_past_spells_nothing = none_spells form.Filter6 filter6_past (λ e. cc, (λ e. cc, (λ e. cc, (λ e. cc, (λ e. cc, (λ e. cc, (λ e. cc, (λ e. cc, tt))))))))

pub conditioner_ends_spell : AllSpell form.Conditioner conditioner_ends
unfolding is_text are_plain rate_in whole_in name_in protocol_in mask_in address_in address6_in at_statement at_discipline at_parent step end
conditioner_ends_spell = all_spell form.Conditioner conditioner_ends (refl, refl, (refl, refl, (refl, refl, (refl, refl, tt))))

pub conditioner_past_spells_nothing : NoneSpells form.Conditioner conditioner_past
unfolding is_text are_plain rate_in whole_in name_in protocol_in mask_in address_in address6_in at_statement at_discipline at_parent step end
conditioner_past_spells_nothing = none_spells form.Conditioner conditioner_past (λ e. cc, (λ e. cc, (λ e. cc, (λ e. cc, (λ e. cc, (λ e. cc, (λ e. cc, (λ e. cc, (λ e. cc, (λ e. cc, (λ e. cc, (λ e. cc, (λ e. cc, (λ e. cc, (λ e. cc, (λ e. cc, tt))))))))))))))))
