use Rattle.std.proofs.Common.{refl}
use Rattle.hfsc_share.proofs.Stopping.{open_ends}
use Rattle.hfsc_share.proofs.Shares.wake_class.Goals as goal

pub returns-then-is_open : goal.returns-then-is_open
returns-then-is_open c = record {
  walks = λ cs h leaf len l w.
      open_ends (record { classes = cs; history = h; leaf = leaf; at = c.args.self.now.woken; len = len }) c.args.self.now.woken c.args.class c.args.self.now.nodes.items
      (c.is_open.ensures c.if-is_open.true) l w;
  step = record { count = refl; parents = λ d. refl; others = λ d n. refl };
  active = (c.is_open.ensures c.if-is_open.true).active;
  woken = refl;
  parent = λ p e. absurd cc;
}
