use Rattle.std.proofs.Common.{◌≡◌, ◌≢◌, ◌<◌, ◌∙◌, ◌++◌, ◌∷◌, [], List, ℕ, true, length, sym, subst, ap, arith}
use Rattle.std.specs.Prelude.{All}
use Rattle.conf_tree.specs.declared.class.Class.{Class}
use Rattle.conf_laws.specs.Fit.{IsName}
use Rattle.play_text.specs.Names.{NameList}
use Rattle.interface_policy.proofs.Named.{are_before, are_few, are_others, class_at, first_names, next_names, no_name}
use Rattle.interface_policy.proofs.names.names_of.Goals as goal
use Rattle.interface_policy.proofs.names.names_of.Goals.{then-is_queue_class+in_ok-add, else-is_queue_class}

pub add-requires-clause-last : goal.add-requires-clause-last
add-requires-clause-last c =
    let n = c.loop-number.number in
    subst (λ (names : NameList). All (λ pair. pair.0 < n) names) (sym c.loop-number.invariant) (are_before c.args.interface.now n)

pub add-requires-clause-named : goal.add-requires-clause-named
add-requires-clause-named c =
    let i = c.args.interface.now in
    let n = c.loop-number.number in
    let class = c.index-classes-number.result in
    let at = class_at i c.as_slice-classes.result.now n class c.as_slice-classes.ensures (omega arith) c.index-classes-number.is in
    let is = c.as_str.ensures ∙ ap (λ (x : Class). x.name) (sym c.index-classes-number.is) in
    subst IsName (sym is) (c.requires.tree.class n class at).name

pub add-requires-clause-fresh : goal.add-requires-clause-fresh
add-requires-clause-fresh c =
    let i = c.args.interface.now in
    let n = c.loop-number.number in
    let class = c.index-classes-number.result in
    let at = class_at i c.as_slice-classes.result.now n class c.as_slice-classes.ensures (omega arith) c.index-classes-number.is in
    let is = c.as_str.ensures ∙ ap (λ (x : Class). x.name) (sym c.index-classes-number.is) in
    subst (λ (names : NameList). All (λ pair. pair.1 ≢ c.as_str.result.now) names) (sym c.loop-number.invariant)
    (subst (λ (name : List ℕ). All (λ pair. pair.1 ≢ name) (first_names i n)) (sym is) (are_others i n class c.requires at))

pub add-requires-clause-room : goal.add-requires-clause-room
add-requires-clause-room c =
    let i = c.args.interface.now in
    let n = c.loop-number.number in
    let few = are_few i n in
    let same = ap (λ (names : NameList). length names) c.loop-number.invariant in
    let long = ap (λ (xs : List Class). length xs) c.as_slice-classes.ensures in
    omega (arith, few, same, long)

pub loop-number-preserved : goal.loop-number-preserved
loop-number-preserved c =
    let i = c.args.interface.now in
    let n = c.loop-number.number in
    elim c.if-is_queue_class.branch [
      | then-is_queue_class+in_ok-add w ↦
          let class = w.index-classes-number.result in
          let at = class_at i c.as_slice-classes.result.now n class c.as_slice-classes.ensures (omega arith) w.index-classes-number.is in
          let is = w.as_str.ensures ∙ ap (λ (x : Class). x.name) (sym w.index-classes-number.is) in
          w.names-is ∙ w.in_ok-add.ensures.added ∙ ap (λ (names : NameList). names ++ (n, w.as_str.result.now) ∷ []) c.loop-number.invariant
          ∙ ap (λ (name : List ℕ). first_names i n ++ (n, name) ∷ []) is ∙ sym (next_names i n class true at (sym w.if-is_queue_class.true ∙ c.is_queue_class.ensures))
      | else-is_queue_class w ↦
          let long = ap (λ (xs : List Class). length xs) c.as_slice-classes.ensures in
          w.names-is ∙ c.loop-number.invariant ∙ sym (no_name i n (omega (arith, long)) (sym w.if-is_queue_class.false ∙ c.is_queue_class.ensures))
    ]
