use Rattle.conf_grammar.proofs.WorkedBounds.{cbq_ends_spell, cbq_past_spells_nothing, conditioner_ends_spell, conditioner_past_spells_nothing, filter6_ends_spell, filter6_past_spells_nothing, filter_ends_spell, filter_past_spells_nothing, hfsc_ends_spell, hfsc_past_spells_nothing, interface_ends_spell, interface_past_spells_nothing}
use Rattle.conf_grammar.proofs.rows.worked_bounds.Goals as goal

pub returns : goal.returns
returns c = record {
  interface_ends = interface_ends_spell;
  interface_past = interface_past_spells_nothing;
  hfsc_ends = hfsc_ends_spell;
  hfsc_past = hfsc_past_spells_nothing;
  cbq_ends = cbq_ends_spell;
  cbq_past = cbq_past_spells_nothing;
  filter_ends = filter_ends_spell;
  filter_past = filter_past_spells_nothing;
  filter6_ends = filter6_ends_spell;
  filter6_past = filter6_past_spells_nothing;
  conditioner_ends = conditioner_ends_spell;
  conditioner_past = conditioner_past_spells_nothing;
}
