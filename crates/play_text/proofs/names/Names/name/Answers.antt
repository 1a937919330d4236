use Rattle.std.proofs.Common.{List, ℕ, ◌≤◌, ◌∙◌, length, subst, sym}
use Rattle.play_text.specs.Named.{pair_of}
use Rattle.play_text.proofs.NameLemmas.{name_at, name_short}
use Rattle.play_text.proofs.names.Names.name.Goals as goal

-- the name was read at the place of the class
pub returns-in-Some-clause-name : goal.returns-in-Some-clause-name
returns-in-Some-clause-name c =
    rw (c.as_str.ensures.value, ← c.self.view_is) (sym (name_at pair_of _ c.args.class c.in-Some.at c.index.result.now (rw c.self.view_is (sym c.in-Some.ensures.place)) c.index.ensures))

pub returns-in-Some-clause-short : goal.returns-in-Some-clause-short
returns-in-Some-clause-short c =
    let read = name_at pair_of _ c.args.class c.in-Some.at c.index.result.now (rw c.self.view_is (sym c.in-Some.ensures.place)) c.index.ensures in
    subst (λ (name : List ℕ). length name ≤ 64) (read ∙ sym c.as_str.ensures.value) (name_short _ c.args.class c.self.invariant.named)
