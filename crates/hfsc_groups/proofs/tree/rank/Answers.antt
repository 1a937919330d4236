use Rattle.std.proofs.Common.{◌≡◌, ℕ, Some, None, refl, sym, subst, ◌∙◌}
use Rattle.std.specs.Prelude.{slice_set}
use Rattle.hfsc_groups.specs.Group.{AreRankedIn}
use Rattle.hfsc_groups.proofs.Places.{get_read}
use Rattle.hfsc_groups.proofs.Held.{is_changed}
use Rattle.hfsc_groups.proofs.tree.rank.Goals as goal

pub returns-in-Some : goal.returns-in-Some
returns-in-Some c = record {
  none = λ e. let no : Some c.in-Some.parent ≡ None = sym of ∙ e in absurd cc;
  some = λ p e. subst (λ n. AreRankedIn n c.args.class c.args.node.now c.args.groups.now.items (slice_set c.args.groups.now.items c.in-Some.parent c.replace.new.self)) (number c.in-Some.parent p (sym of ∙ e)) here;
}
  where
    of : c.args.node.now.parent ≡ Some c.in-Some.parent
    of = sym c.parent.ensures ∙ c.in-Some.is

    number : (m n : ℕ) → Some m ≡ Some n → m ≡ n
    number m n e = cc

    here : AreRankedIn c.in-Some.parent c.args.class c.args.node.now c.args.groups.now.items (slice_set c.args.groups.now.items c.in-Some.parent c.replace.new.self)
    here = record {
      old = c.index_mut.result.now;
      changed = c.replace.new.self;
      at = get_read c.args.groups.now.items c.in-Some.parent c.index_mut.result.now (c.requires.low c.in-Some.parent of) c.index_mut.ensures.value;
      set = refl;
      change = is_changed c.args.class c.is_active.result c.time.result c.opening.result.now c.args.node.now c.index_mut.result.now c.replace.new.self
          c.is_active.ensures c.time.ensures.is c.opening.ensures c.replace.ensures;
    }
