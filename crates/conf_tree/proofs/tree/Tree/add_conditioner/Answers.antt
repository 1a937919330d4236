use Rattle.std.proofs.Common.{◌≡◌, Some, slice_get, refl, ap, sym, ◌∙◌, arith}
use Rattle.std.proofs.Math.Seq.{map-set_same}
use Rattle.std.proofs.lemmas.Option.{slice_get-get_or}
use Rattle.conf_tree.specs.Tree.{interface_name}
use Rattle.conf_tree.proofs.tree.Tree.add_conditioner.Goals as goal

pub invariant_of-self : goal.invariant_of-self
invariant_of-self c =
    c.self.invariant ∙ sym (map-set_same interface_name c.self.inside.interfaces.items c.args.number c.add_conditioner.new.self c.index_mut-draft.result.now
    (c.add_conditioner.ensures.name ∙ ap interface_name c.index_mut-draft.ensures.value))

pub returns-then-number-len : goal.returns-then-number-len
returns-then-number-len c = λ b h.
    let items = c.self.inside.interfaces.items in
    let d = c.index_mut-draft.result.now in
    let there : slice_get items c.args.number ≡ Some d =
    slice_get-get_or items c.args.number d (omega (arith, c.if-number-len.true, c.len.ensures)) ∙ ap Some (sym c.index_mut-draft.ensures.value) in
    let asked : slice_get items c.args.number ≡ Some b = rw (← c.self.view_is) at h in
    let same : d ≡ b = cc in
    rw (c.add_conditioner.ensures.added, same, ← c.self.view_is) refl
