use Rattle.std.proofs.lemmas.List.{map_push}
use Rattle.play_text.proofs.NameLemmas.{names_grow}
use Rattle.play_text.proofs.names.Names.add.Goals as goal

-- the entry went to the end
pub invariant_of-self-2 : goal.invariant_of-self-2
invariant_of-self-2 c =
    let grown = names_grow _ c.args.class c.args.name.now c.self.invariant (rw c.self.view_is c.requires.last) c.requires.named (rw c.self.view_is c.requires.fresh) (rw c.self.view_is c.requires.room) in
    rw (c.in_ok-push.ensures.items, map_push, c.in_ok-name.ensures.ok) grown
