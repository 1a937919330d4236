use Rattle.std.proofs.Common.{◌≡◌, ◌∙◌, ℕ, List, Some, ap, sym, subst}
use Rattle.std.specs.declared.option.Option.{Option}
use Rattle.std.specs.Prelude.{option_map}
use Rattle.leaf_queue.specs.declared.node.Entry.{Entry}
use Rattle.class_rows.specs.Rows.{list_in}
use Rattle.cbq_sharing.specs.Held.{IsHeldBack}
use Rattle.cbq_sharing.specs.Shared.{Shared, head_len}
use Rattle.cbq_sharing.proofs.HeldLemmas.{held_more, refused_waits}
use Rattle.cbq_sharing.proofs.WaitLemmas.{head_of}
use Rattle.cbq_sharing.proofs.held.hold_refused.Goals as goal

pub classes-preserved-in-Some-held_till : goal.classes-preserved-in-Some-held_till
classes-preserved-in-Some-held_till g c =
    let d : Shared = c.args.shares.now in
    let lists : ℕ → List Entry = list_in c.args.rows.now in
    let i : ℕ = c.in-Some.class in
    let len : ℕ = c.in-Some-head.head.len in
    let H : ℕ → Type 0 = λ m. IsHeldBack d i len m in
    let head : head_len (lists i) ≡ Some len = head_of (lists i) c.head.result c.head.ensures ∙ ap (λ (o : Option Entry). option_map (λ (y : Entry). y.len) o) c.in-Some-head.is in
    let waits = refused_waits c.args.waiting.now c.args.refused.now c.within-some.result i c.within-some.ensures c.in-Some.ensures.some.is in
    held_more d lists c.classes.held c.hold.new.self i len c.classes.invariant (sym (c.requires.waiting i) ∙ waits) head
    (subst H (sym c.hold.ensures.moment) c.in-Some-held_till.ensures) c.hold.ensures.others c.hold.ensures.moments
