use Rattle.std.proofs.Common.{◌∙◌, ℕ, List, Some, ap, length}
use Rattle.std.specs.declared.option.Option.{Option}
use Rattle.std.specs.Prelude.{option_map}
use Rattle.leaf_queue.specs.declared.node.Entry.{Entry}
use Rattle.class_rows.specs.Rows.{list_in}
use Rattle.cbq_sharing.specs.Shared.{Shared}
use Rattle.cbq_rounds.proofs.FirstLemmas.{IsAfter, first_done, first_next}
use Rattle.cbq_sharing.proofs.WaitLemmas.{head_of, marked_inside, not_marked}
use Rattle.cbq_rounds.proofs.look.first_moment.Goals as goal

pub classes-preserved : goal.classes-preserved
classes-preserved g c =
    let d : Shared = c.args.shares.now in
    let lists : ℕ → List Entry = list_in c.args.rows.now in
    let i : ℕ = c.in-Some.class in
    let first = c.in-Some.ensures.some in
    let after : IsAfter d lists c.args.clock.now c.args.now c.classes.from i c.in-Some-head.head.len c.start_of-start.result c.classes.till = record {
      first = c.classes.invariant;
      place = marked_inside c.args.waiting.now lists i (length d.tree) c.requires.waiting c.requires.others first.is;
      none = λ k a b. not_marked c.args.waiting.now lists k c.requires.waiting (first.before k a b);
      head = head_of (lists i) c.head.result c.head.ensures ∙ ap (λ (o : Option Entry). option_map (λ (y : Entry). y.len) o) c.in-Some-head.is;
      start_is = c.start_of-start.ensures;
    } in
    first_next d lists c.args.clock.now c.args.now c.classes.from i c.in-Some-head.head.len c.start_of-start.result c.classes.till (Some c.earlier.result) after
    c.earlier.ensures

pub returns : goal.returns
returns g c =
    let lists : ℕ → List Entry = list_in c.args.rows.now in
    first_done c.args.shares.now lists c.args.clock.now c.args.now c.classes.from c.classes.till c.classes.invariant
    (λ k a. not_marked c.args.waiting.now lists k c.requires.waiting (c.in_default.ensures.none k a))
