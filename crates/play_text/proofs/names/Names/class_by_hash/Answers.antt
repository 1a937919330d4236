use Rattle.std.proofs.Common.{List, ℕ, ap, arith, sym, ◌∙◌}
use Rattle.std.specs.Str.{bytes_eq}
use Rattle.play_text.specs.Named.{pair_of}
use Rattle.play_text.proofs.NameLemmas.{named_at}
use Rattle.play_text.proofs.names.Names.class_by_hash.Goals as goal

-- the entry has the name, and no other has it
pub returns-then-eq : goal.returns-then-eq
returns-then-eq c =
    rw (← c.self.view_is)
    (named_at pair_of c.self.inside.entries.items c.args.name.now c.from-at.result c.index-named.result.now c.self.invariant.different
    (omega (arith, c.if-at-len.false, c.len.ensures)) c.index-named.ensures
    (ap (λ (t : List ℕ). bytes_eq t c.args.name.now) (sym c.as_bytes.ensures.value) ∙ sym c.eq.ensures ∙ c.if-eq.true))
