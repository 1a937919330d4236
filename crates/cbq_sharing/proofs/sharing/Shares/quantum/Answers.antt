use Rattle.std.proofs.Common.{◌≡◌, ◌<◌, ◌∙◌, ap, arith, length}
use Rattle.cbq_model.specs.Tree.{class_of, quantum_of}
use Rattle.cbq_sharing.specs.declared.fixed.Fixed.{Fixed}
use Rattle.cbq_sharing.specs.Shared.{Shared}
use Rattle.cbq_sharing.proofs.Places.{fixed_is, most_quantum, some_quantum}
use Rattle.cbq_sharing.proofs.sharing.Shares.quantum.Goals as goal
use Rattle.cbq_sharing.proofs.sharing.Shares.quantum.Goals.{After-index}

-- the quantum that is kept is the class's
kept : (c : After-index) → c.index.result.now.quantum ≡ quantum_of c.self.inside.rate (class_of c.self.inside.classes.items c.args.class)
kept c =
    let tree : length c.self.inside.classes.items ≡ length c.args.self.now.tree = ap (λ (d : Shared). length d.tree) c.self.view_is in
    let place : c.args.class < length c.self.inside.classes.items = omega (arith, tree, c.requires.class) in
    ap (λ (f : Fixed). f.quantum)
    (fixed_is c.self.inside.rate c.self.inside.classes.items c.self.inside.fixed.items c.args.class c.index.result.now c.self.invariant.fixed_each place c.index.ensures)

pub returns : goal.returns
returns c =
    let is = kept (goal.at.returns c).After-index in
    record {
      value = is ∙ ap (λ (d : Shared). quantum_of d.rate (class_of d.tree c.args.class)) c.self.view_is;
      least = omega (arith, is, some_quantum c.self.inside.rate (class_of c.self.inside.classes.items c.args.class));
      most = omega (
        arith,
        is,
        most_quantum c.self.inside.rate (class_of c.self.inside.classes.items c.args.class) c.self.invariant.least_rate
            (c.self.invariant.tree.rates c.args.class),
      );
    }
