use Rattle.std.proofs.Common.{◌≡◌, ◌∙◌, ap, arith, length}
use Rattle.cbq_model.specs.Tree.{class_of}
use Rattle.cbq_sharing.specs.declared.fixed.Fixed.{Fixed}
use Rattle.cbq_sharing.specs.Shared.{Shared, borrows_from_root}
use Rattle.cbq_sharing.proofs.Places.{fixed_is}
use Rattle.cbq_sharing.proofs.sharing.Shares.is_rooted.Goals as goal

pub returns : goal.returns
returns c =
    let tree : length c.self.inside.classes.items ≡ length c.args.self.now.tree = ap (λ (s : Shared). length s.tree) c.self.view_is in
    ap (λ (f : Fixed). f.rooted)
    (fixed_is c.self.inside.rate c.self.inside.classes.items c.self.inside.fixed.items c.args.class c.index.result.now c.self.invariant.fixed_each
    (omega (arith, tree, c.requires.class)) c.index.ensures)
    ∙ ap (λ (d : Shared). borrows_from_root d.tree (class_of d.tree c.args.class)) c.self.view_is
