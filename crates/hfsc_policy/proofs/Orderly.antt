-- A history in order holds packets that may be, and sends heads; so it is timely where its link never idles.
use Rattle.std.proofs.Common.{◌≡◌, ◌<◌, ℕ, List, [], ◌∷◌, subst, sym}
use Rattle.altq_model.specs.Busy.{IsBusy}
use Rattle.altq_model.specs.History.{Event, Offered, Sent, waiting}
use Rattle.altq_model.specs.Link.{HasLinkEnds}
use Rattle.altq_model.specs.Policies.{Answering}
use Rattle.discipline.specs.Moments.{IsOrderly}
use Rattle.hfsc_model.specs.declared.HfscClass.{HfscClass}
use Rattle.hfsc_model.specs.Leaf.{Waiting, leaf}
use Rattle.hfsc_model.specs.Timely.{FitLink, IsHead, IsTimely}
use Rattle.hfsc_model.specs.Tree.{reals}
use Rattle.hfsc_policy.specs.Classes.{IsClassTree}
use Rattle.hfsc_policy.specs.Events.{hfsc_history}
use Rattle.hfsc_policy.specs.Heads.{AreHeads}
use Rattle.hfsc_policy.specs.Policy.{hfsc_policy}
use Rattle.hfsc_policy.proofs.Histories.{leaf_waits}
use Rattle.hfsc_policy.proofs.Plays.{heads_after, front_head}
use Rattle.hfsc_policy.proofs.Timely.{orderly_timely}

pub orderly_heads : (cs : List HfscClass) (answer : Answering) (h : List Event) → IsOrderly (hfsc_policy cs answer) h → AreHeads (hfsc_history h)
orderly_heads cs answer [] o = tt
orderly_heads cs answer (Offered b w v ∷ h) o = heads_after v.verdict b (hfsc_history h) o.0.sized (orderly_heads cs answer h o.2)
orderly_heads cs answer (Sent s ∷ h) o = (
  subst (λ (ws : List Waiting). IsHead ws s.len) (sym (leaf_waits s.class h)) (front_head (waiting s.class h) o.0.packet s.len o.0.front o.0.len),
  orderly_heads cs answer h o.1,
)

pub timely_in_order : (cs : List HfscClass) (answer : Answering) (rate : ℕ) (h : List Event) → 0 < rate → IsClassTree cs → IsOrderly (hfsc_policy cs answer) h
    → HasLinkEnds rate h → IsBusy (hfsc_policy cs answer) rate h → FitLink rate (reals cs) → IsTimely rate (reals cs) (hfsc_history h)
timely_in_order cs answer rate h z k o e b fit = orderly_timely cs answer rate h z k o (orderly_heads cs answer h o) e b fit
