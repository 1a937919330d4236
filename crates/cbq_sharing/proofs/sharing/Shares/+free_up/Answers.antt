use Rattle.std.proofs.Common.{◌≡◌, ◌<◌, ◌-◌, ◌∙◌, ℕ, suc, [], Some, ap, arith, length, subst, sym}
use Rattle.std.specs.declared.option.Option.{Option}
use Rattle.cbq_model.specs.declared.CbqClass.{CbqClass}
use Rattle.cbq_model.specs.Tree.{class_of, no_class}
use Rattle.class_sets.specs.Marked.{marked}
use Rattle.cbq_sharing.specs.Held.{IsUntold}
use Rattle.cbq_sharing.specs.Sent.{told_up}
use Rattle.cbq_sharing.specs.Shared.{Shared}
use Rattle.cbq_sharing.proofs.FreedLemmas.{untold_up}
use Rattle.cbq_sharing.proofs.Places.{at_any, parent_below}
use Rattle.cbq_sharing.proofs.sharing.Shares.+free_up.Goals as goal
use Rattle.cbq_sharing.proofs.sharing.Shares.+free_up.Goals.{After-free_up}

pub free-requires : goal.free-requires
free-requires t c =
    let same : length c.self.inside.classes.items ≡ length c.args.self.now.tree = ap (λ (d : Shared). length d.tree) c.self.view_is in
    omega (arith, same, c.requires.class c.in-Some.class c.in-Some.is, c.self.invariant.few)

-- the class above
above : (t : ℕ) (c : After-free_up t) → c.index.result.now.parent ≡ (class_of c.args.self.now.tree c.in-Some.class).parent
above t c =
    let same : length c.self.inside.classes.items ≡ length c.args.self.now.tree = ap (λ (d : Shared). length d.tree) c.self.view_is in
    let place : c.in-Some.class < length c.self.inside.classes.items = omega (arith, same, c.requires.class c.in-Some.class c.in-Some.is) in
    ap (λ (k : CbqClass). k.parent) (c.index.ensures ∙ at_any c.self.inside.classes.items c.in-Some.class c.index.result.now no_class place)
    ∙ ap (λ (d : Shared). (class_of d.tree c.in-Some.class).parent) c.self.view_is

pub free_up-requires : goal.free_up-requires
free_up-requires t c =
    let same : length c.self.inside.classes.items ≡ length c.args.self.now.tree = ap (λ (d : Shared). length d.tree) c.self.view_is in
    let place : c.in-Some.class < length c.self.inside.classes.items = omega (arith, same, c.requires.class c.in-Some.class c.in-Some.is) in (
      omega (arith, c.decreases, c.if-levels-eq0.false),
      λ p e.
          let low = parent_below c.self.inside.classes.items c.in-Some.class p c.index.result.now c.self.invariant.tree place c.index.ensures e in
          omega (arith, low, same),
    )

pub returns-clause-here : goal.returns-clause-here
returns-clause-here t c = λ p e l m.
    let u = c.free_up.ensures.others p m (record { end = 0; len = 0 }) [] in
    let some : Some p ≡ Some c.in-Some.class = sym e ∙ c.in-Some.is in
    let same : p ≡ c.in-Some.class = cc in
    let none : marked c.free.new.self.set p ≡ 0 = ap (marked c.free.new.self.set) same ∙ c.free.ensures.here in
    omega (arith, none, u.was)

pub returns-clause-others : goal.returns-clause-others
returns-clause-others t c = λ k m x es.
    let parent = above t (goal.at.returns-clause-others t c).After-free_up in
    let some : suc (c.args.levels - 1) ≡ c.args.levels = omega (arith, c.if-levels-eq0.false) in
    let P : ℕ → Type 0 = λ n. IsUntold c.args.held.now.set es (told_up n c.args.self.now.tree c.args.at x es) k in
    let Q : Option ℕ → Type 0 = λ o. IsUntold c.args.held.now.set es (told_up (suc (c.args.levels - 1)) c.args.self.now.tree o x es) k in
    subst P some (subst Q (sym c.in-Some.is)
    (untold_up (c.args.levels - 1) c.in-Some.class k c.args.self.now.tree c.args.held.now.set c.free.new.self.set c.free_up.new.held.set c.free.ensures.here c.free.ensures.others
    (λ j e y fs.
    let R : Option ℕ → Type 0 = λ o. IsUntold c.free.new.self.set fs (told_up (c.args.levels - 1) c.args.self.now.tree o y fs) j in
    subst R parent (c.free_up.ensures.others j e y fs))
    m x es))
