use Rattle.std.proofs.Common.{◌∙◌, ap, arith, sym}
use Rattle.play_text.specs.declared.names.Named.{Named}
use Rattle.play_text.specs.Named.{pair_of}
use Rattle.play_text.proofs.NameLemmas.{stands_at}
use Rattle.play_text.proofs.names.Names.guess.Goals as goal

-- the class was read there
pub returns-then-index-class-clause-place : goal.returns-then-index-class-clause-place
returns-then-index-class-clause-place c =
    let x : Named = c.index-then-at-len.result.now in
    rw (← c.self.view_is)
    (stands_at pair_of c.self.inside.entries.items c.args.class c.saturating_sub-at.result x c.self.invariant.rising
    (omega (arith, c.if-at-len.true, c.len.ensures))
    (ap (λ (e : Named). (pair_of e).0) (sym c.index-then-at-len.ensures) ∙ c.if-index-class.true))
