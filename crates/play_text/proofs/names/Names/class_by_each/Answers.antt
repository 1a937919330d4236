use Rattle.std.proofs.Common.{ℕ, List, ap, refl, sym, ◌∙◌}
use Rattle.std.specs.Str.{bytes_eq}
use Rattle.play_text.specs.Named.{pair_of}
use Rattle.play_text.proofs.NameLemmas.{named_found, named_nowhere, named_passed}
use Rattle.play_text.proofs.names.Names.class_by_each.Goals as goal

pub loop-named-init : goal.loop-named-init
loop-named-init c = refl

pub returns-then-eq : goal.returns-then-eq
returns-then-eq c =
    rw (← c.self.view_is, ← c.deref-named-items.ensures.value) (named_found pair_of _ c.args.name.now c.loop-named.named-index c.named-item.result c.loop-named-test.true c.named-item.is (ap (λ (t : List ℕ). bytes_eq t c.args.name.now) (sym c.as_bytes.ensures.value) ∙ sym c.eq.ensures ∙ c.if-eq.true) c.loop-named.invariant)

pub loop-named-preserved : goal.loop-named-preserved
loop-named-preserved c = named_passed pair_of _ c.args.name.now c.loop-named.named-index c.named-item.result c.loop-named-test.true c.named-item.is (ap (λ (t : List ℕ). bytes_eq t c.args.name.now) (sym c.as_bytes.ensures.value) ∙ sym c.eq.ensures ∙ c.if-eq.false) c.loop-named.invariant

pub returns : goal.returns
returns c = rw (← c.self.view_is, ← c.deref-named-items.ensures.value) (named_nowhere pair_of _ c.args.name.now c.loop-named.named-index c.loop-named-test.false c.loop-named.invariant)
