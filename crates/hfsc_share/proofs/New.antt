-- Classes without a packet.
use Rattle.std.proofs.Common.{◌≡◌, ℕ, Bool, true, false, List, [], refl, sym, ◌∙◌}
use Rattle.hfsc_model.specs.declared.HfscClass.{HfscClass}
use Rattle.hfsc_model.specs.Share.{active}
use Rattle.hfsc_groups.specs.Classes.{AreClasses}
use Rattle.hfsc_groups.specs.Node.{AreNew}
use Rattle.hfsc_groups.proofs.New.{idle_in, new_node, parent_is}
use Rattle.hfsc_groups.proofs.Opening.{active_is, waits_is}
use Rattle.hfsc_share.specs.declared.Shares.{Shares}
use Rattle.hfsc_share.specs.Shares.{Represents, NoneIsActive}

nothing_active : (cs : List HfscClass) (c : ℕ) → active cs [] c ≡ false
nothing_active cs c = go (active cs [] c) refl
  where
    go : (b : Bool) → active cs [] c ≡ b → b ≡ false
    go true e =
        let x = active_is cs [] c e in
        let w = (waits_is cs [] c x.one x.waits).waiting in
        absurd cc
    go false e = refl

pub new_stands : (s : Shares) (cs : List HfscClass) → AreClasses cs → AreNew cs s.nodes.items → Represents s cs []
new_stands s cs classes new = record {
  classes = classes;
  count = new.count;
  each = λ c x e.
      let n = new_node cs s.nodes.items c x new e in
      record {
        parent = n.parent;
        share = n.share;
        limit = n.limit;
        total = sym n.total;
        active = nothing_active cs c ∙ sym n.active;
        time = sym n.time;
        opens = λ a. let no = n.active in absurd cc;
      };
  arrivals = λ c. tt;
}

pub new_is : (s : Shares) (cs : List HfscClass) → AreNew cs s.nodes.items → s.woken ≡ 0 → NoneIsActive cs s
new_is s cs new e = record {
  classes = new.count;
  parents = λ c. parent_is cs s.nodes.items c new;
  idle = λ c. idle_in cs s.nodes.items c new;
  woken = e;
}
