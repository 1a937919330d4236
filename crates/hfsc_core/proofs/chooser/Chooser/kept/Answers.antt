use Rattle.std.proofs.Common.{◌∙◌, ap, arith, refl}
use Rattle.std.specs.Prelude.{not}
use Rattle.hfsc_model.specs.Leaf.{leaf}
use Rattle.hfsc_model.specs.Tree.{reals}
use Rattle.hfsc_policy.proofs.Offers.{leaf_below}
use Rattle.hfsc_policy.proofs.Timely.{length_map}
use Rattle.hfsc_core.specs.Chooser.{classes_of, woken_at}
use Rattle.hfsc_core.proofs.Held.{active_is, head_is, no_child, opening_by, none_waits}
use Rattle.hfsc_core.proofs.Keeping.{kept_first, kept_more, kept_small, kept_waits}
use Rattle.hfsc_core.proofs.chooser.Chooser.kept.Goals as goal

pub returns-then-not-empty-clause-stands : goal.returns-then-not-empty-clause-stands
returns-then-not-empty-clause-stands c = λ h m.
    let x = c.args.self.now in
    let w = kept_waits x h c.args.class c.args.at c.args.len c.args.empty m (cc (c.if-not-empty.true)) in
    kept_more x h c.args.class c.args.at c.args.len c.args.empty m (cc (c.if-not-empty.true))
    (c.waiting_classes_open_once.ensures x.eligible (reals (classes_of x)) h c.args.class c.args.at c.args.len m.stands.real w)
    (c.waiting_leaves_wake_once.ensures x.shares (classes_of x) h c.args.class c.args.at c.args.len m.stands.share w)

pub open-requires-clause-empty : goal.open-requires-clause-empty
open-requires-clause-empty c =
    let x = c.args.self.now in
    let h = c.requires.0 in
    let m = c.requires.1 in
    let low = leaf_below (classes_of x) c.args.class m.of_leaf in
    let long = length_map (classes_of x) in
    head_is x.eligible (reals (classes_of x)) h c.args.class m.stands.real (omega (arith, low, long)) ∙ none_waits (leaf h c.args.class).waiting (m.waits ∙ ap not c.if-not-empty.false)

pub open-requires-clause-later : goal.open-requires-clause-later
open-requires-clause-later c = λ o e.
    let x = c.args.self.now in
    let h = c.requires.0 in
    let m = c.requires.1 in
    let low = leaf_below (classes_of x) c.args.class m.of_leaf in
    let long = length_map (classes_of x) in
    let by = opening_by x.eligible (reals (classes_of x)) h c.args.class (woken_at x) o m.stands.real (omega (arith, low, long)) m.stands.opened e in
    let later = m.later in
    omega (arith, by, later)

pub wake-requires-clause-leaf : goal.wake-requires-clause-leaf
wake-requires-clause-leaf c =
    let x = c.args.self.now in
    no_child x.shares (classes_of x) c.requires.0 c.args.class c.requires.1.stands.share c.requires.1.of_leaf

pub wake-requires-clause-idle : goal.wake-requires-clause-idle
wake-requires-clause-idle c =
    let x = c.args.self.now in
    let m = c.requires.1 in
    active_is x.shares (classes_of x) c.requires.0 c.args.class m.stands.tree.tree m.stands.share m.of_leaf ∙ m.waits ∙ ap not c.if-not-empty.false

pub returns-clause-stands : goal.returns-clause-stands
returns-clause-stands c = λ h m.
    let x = c.args.self.now in
    kept_first x _ h c.args.class c.args.at c.args.len c.args.empty m refl c.wake.ensures.woken
    (c.open.ensures.stands (reals (classes_of x)) h m.stands.real)
    (c.wake.ensures.stands (classes_of x) h c.args.len m.stands.share (kept_small x h c.args.class c.args.at c.args.len c.args.empty m))
