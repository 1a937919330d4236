use Rattle.std.proofs.Common.{rules}
use Rattle.std.proofs.lemmas.List.Sorted.{answers_always}
use Rattle.play_text.specs.Named.{pair_of}
use Rattle.play_text.proofs.NameLemmas.{searched}
use Rattle.play_text.proofs.names.Names.search.Goals as goal

-- the closure gives an entry's class, and the slice is the entries
pub returns-clause-place : goal.returns-clause-place
returns-clause-place c =
    let facts = c.binary_search_by_key.ensures in
    let by_class = facts.position (λ named. named.class) (answers_always _ _ _ (λ f a r g called. search rules)) in
    rw (← c.self.view_is, ← c.deref.ensures.value, c.ok.ensures.value) (searched pair_of _ c.args.class _ (rw c.deref.ensures.value c.self.invariant.rising) facts.bound by_class)
