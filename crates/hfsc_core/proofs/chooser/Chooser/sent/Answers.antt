use Rattle.std.proofs.Common.{◌∙◌, refl}
use Rattle.hfsc_model.specs.Tree.{reals}
use Rattle.hfsc_core.specs.Chooser.{classes_of}
use Rattle.hfsc_core.proofs.Held.{active_is, no_child}
use Rattle.hfsc_core.proofs.Keeping.{sent_count, sent_front, sent_leaf, sent_next, sent_next_long, sent_small, sent_stands, sent_waits}
use Rattle.hfsc_core.proofs.chooser.Chooser.sent.Goals as goal

pub sent-requires-clause-head : goal.sent-requires-clause-head
sent-requires-clause-head c = λ n e. sent_next_long c.args.self.now c.requires.0 c.args.class c.args.len n c.args.head c.requires.1 e

pub served-requires-clause-leaf : goal.served-requires-clause-leaf
served-requires-clause-leaf c =
    let x = c.args.self.now in
    no_child x.shares (classes_of x) c.requires.0 c.args.class c.requires.1.stands.share (sent_leaf x c.requires.0 c.args.class c.args.len c.args.head c.requires.1)

pub served-requires-clause-waits : goal.served-requires-clause-waits
served-requires-clause-waits c =
    let x = c.args.self.now in
    let h = c.requires.0 in
    let m = c.requires.1 in
    active_is x.shares (classes_of x) h c.args.class m.stands.tree.tree m.stands.share (sent_leaf x h c.args.class c.args.len c.args.head m)
    ∙ (sent_front x h c.args.class c.args.len c.args.head m).1

pub returns-clause-stands : goal.returns-clause-stands
returns-clause-stands c = λ h start m.
    let x = c.args.self.now in
    sent_stands x _ h c.args.class c.args.len start c.args.real c.args.head m refl c.served.ensures.woken
    (c.sent.ensures.stands (reals (classes_of x)) h start m.stands.real (sent_next x h c.args.class c.args.len start c.args.real c.args.head m)
    (sent_count x h c.args.class c.args.len start c.args.real c.args.head m))
    (c.served.ensures.stands (classes_of x) h c.args.real start m.stands.share (sent_waits x h c.args.class c.args.len start c.args.real c.args.head _ m c.is_none.ensures)
    (sent_small x h c.args.class c.args.len start c.args.real c.args.head m))
