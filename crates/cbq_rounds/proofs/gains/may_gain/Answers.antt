use Rattle.std.proofs.Common.{◌≡◌, ◌∙◌, ℕ, None, Some, ap, arith, subst, sym}
use Rattle.std.specs.declared.option.Option.{Option}
use Rattle.std.specs.Prelude.{option_map}
use Rattle.altq_model.specs.Link.{end_of}
use Rattle.leaf_queue.specs.declared.node.Entry.{Entry}
use Rattle.class_rows.specs.Rows.{list_in}
use Rattle.cbq_sharing.specs.Shared.{Shared, head_len, may_end}
use Rattle.cbq_sharing.proofs.RootLemmas.{rooted_may}
use Rattle.cbq_sharing.proofs.WaitLemmas.{first_sized, head_of}
use Rattle.cbq_rounds.proofs.gains.may_gain.Goals as goal

pub head-requires-clause-high : goal.head-requires-clause-high
head-requires-clause-high g c = omega (arith, c.requires.class, c.requires.count, c.requires.first)

pub returns-then-is_rooted-clause-may : goal.returns-then-is_rooted-clause-may
returns-then-is_rooted-clause-may g c = λ len h.
    let d : Shared = c.args.shares.now in
    rooted_may d.tree d.estimates (end_of c.args.clock.now.rate c.args.clock.now.link c.args.now len) len c.args.class (sym c.is_rooted.ensures ∙ c.if-is_rooted.true)

pub returns-in_default-clause-may : goal.returns-in_default-clause-may
returns-in_default-clause-may g c = λ len h.
    let none : head_len (list_in c.args.rows.now c.args.class) ≡ None =
    head_of (list_in c.args.rows.now c.args.class) c.head.result c.head.ensures ∙ ap (λ (o : Option Entry). option_map (λ (y : Entry). y.len) o) c.in_default.is in
    absurd (cc)

pub asks-requires-clause-some_bytes : goal.asks-requires-clause-some_bytes
asks-requires-clause-some_bytes g c =
    (first_sized (list_in c.args.rows.now c.args.class) c.in-Some.head (c.requires.sized c.args.class) (sym c.head.ensures ∙ c.in-Some.is)).0

pub returns-clause-may : goal.returns-clause-may
returns-clause-may g c = λ len h.
    let some : Some c.in-Some.head.len ≡ Some len =
    sym (head_of (list_in c.args.rows.now c.args.class) c.head.result c.head.ensures ∙ ap (λ (o : Option Entry). option_map (λ (y : Entry). y.len) o) c.in-Some.is) ∙ h in
    let same : c.in-Some.head.len ≡ len = cc in
    let P : ℕ → Type 0 = λ n. c.asks.result
    ≡ may_end c.args.shares.now.tree c.args.shares.now.estimates (end_of c.args.clock.now.rate c.args.clock.now.link c.args.now n) n c.args.class in
    subst P same c.asks.ensures.may
