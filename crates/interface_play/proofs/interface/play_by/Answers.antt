-- What the loop plays is what was built, which is what is played of the interface.
use Rattle.std.proofs.Common.{ap, inl}
use Rattle.altq_model.specs.History.{DrawnWords}
use Rattle.interface_play.proofs.Cited.{is_interface}
use Rattle.interface_play.proofs.SetupLemmas.{came_built, held_of, named_of, setup_is}
use Rattle.play_loop.proofs.PlayLemmas.{no_heads, stopped_empty}
use Rattle.interface_play.proofs.interface.play_by.Goals as goal

pub returns-in_default-clause-came : goal.returns-in_default-clause-came
returns-in_default-clause-came g c = (tt, λ t bytes l records last r s. stopped_empty _ _ _ records c.requires.ready, inl c.requires.ready.stats, no_heads _ _ c.requires.ready)

pub returns-in_default-names_of-clause-came : goal.returns-in_default-names_of-clause-came
returns-in_default-names_of-clause-came g c = (tt, λ t bytes l records last r s. stopped_empty _ _ _ records c.requires.ready, inl c.requires.ready.stats, no_heads _ _ c.requires.ready)

pub names_of-requires : goal.names_of-requires
names_of-requires g c = is_interface c.laws_hold.ensures c.args.interface.now c.requires.configured

pub play_told-requires-clause-least : goal.play_told-requires-clause-least
play_told-requires-clause-least g c = (is_interface c.laws_hold.ensures c.args.interface.now c.requires.configured).rate.0

pub play_told-requires-clause-most : goal.play_told-requires-clause-most
play_told-requires-clause-most g c = (is_interface c.laws_hold.ensures c.args.interface.now c.requires.configured).rate.1

pub play_told-requires-clause-held : goal.play_told-requires-clause-held
play_told-requires-clause-held g c =
    held_of c.laws_hold.ensures c.args.interface.now _ _ c.requires.configured c.requires.policy c.in-Ok.ensures.placed

pub play_told-requires-clause-named : goal.play_told-requires-clause-named
play_told-requires-clause-named g c =
    named_of c.laws_hold.ensures c.args.interface.now _ _ c.requires.configured c.in-Ok-names_of.ensures c.in-Ok.ensures.placed

pub returns-clause-came : goal.returns-clause-came
returns-clause-came g c =
    let y = c.play_told.ensures in
    came_built _ _ _ _ _ _ c.args.opened.now c.play_told.result
    (setup_is c.args.interface.now _ _ _ _ c.new-words.result.seed c.args.seed (record {
      policy = c.requires.policy;
      placed = c.in-Ok.ensures.placed;
      dressed = c.in-Ok.ensures.dressed;
      named = c.in-Ok-names_of.ensures;
      seed_is = ap (λ (w : DrawnWords). w.seed) c.new-words.ensures;
    }))
    y.told y.decided y.why y.front y.stats y.heads
