use Rattle.std.proofs.Common.{rules, ◌≡◌, None, ◌-◌, ◌∙◌, sym, arith}
use Rattle.ranking.specs.Order.{key_of}
use Rattle.ranking.proofs.Keyed.{key_before, key_from}
use Rattle.ranking.proofs.keys.Keys.get.Goals as goal

pub returns-then-class-self : goal.returns-then-class-self
returns-then-class-self c = sym (key_before c.args.self.now.first c.args.class c.args.self.now.items.items (omega arith))

pub returns-in-None : goal.returns-in-None
returns-in-None c =
    let here : None ≡ key_of c.args.self.now.items.items (c.args.class - c.args.self.now.first) = search rules in
    here ∙ sym (key_from c.args.self.now.first c.args.class c.args.self.now.items.items (omega arith))

pub returns-in-Some : goal.returns-in-Some
returns-in-Some c =
    let here : c.in-Some.key.now ≡ key_of c.args.self.now.items.items (c.args.class - c.args.self.now.first) = search rules in
    here ∙ sym (key_from c.args.self.now.first c.args.class c.args.self.now.items.items (omega arith))
