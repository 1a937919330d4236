use Rattle.std.proofs.Common.{refl, sym, ◌∙◌, bytes_eq}
use Rattle.std.proofs.lemmas.List.{map-append}
use Rattle.conf_tree.proofs.Positions.{position_map, list_any_absent}
use Rattle.conf_tree.proofs.names.Names.add.Goals as goal
use Rattle.conf_tree.proofs.names.Names.add.Goals.{in-Ok, in-Err}

pub returns-clause-added : goal.returns-clause-added
returns-clause-added c =
    let keys = c.self.inside.names.keys in
    let none = sym (position_map (λ k. k.now) (bytes_eq c.args.name.now) keys) ∙ (rw (← c.self.view_is) at c.requires) in
    let absent = list_any_absent (λ k. bytes_eq c.args.name.now k.now) keys none in
    elim c.match-insert.branch [
      | in-Ok w ↦ rw (w.result-is, w.in-Ok.ensures.keys, absent) (rw (map-append, c.self.view_is) refl)
      | in-Err w ↦ rw w.result-is tt
    ]
