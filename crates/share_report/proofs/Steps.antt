-- What a watched discipline stands for after an offer that was kept, and after a sending.
use Rattle.std.proofs.Common.{◌≡◌, ◌<◌, ◌+◌, ◌∷◌, ◌∙◌, ℕ, Bool, true, List, ap, arith, subst, sym}
use Rattle.std.specs.Prelude.{if◌then◌else◌}
use Rattle.altq_model.specs.History.{Answer, Arrival, DrawnWords, LabelledEvent, Offered, Sent, Sending, unlabelled, is_kept, waiting}
use Rattle.altq_model.specs.Play.{Policy}
use Rattle.discipline.specs.Moments.{IsOffer, IsOrderly}
use Rattle.hfsc_model.specs.Event.{HfscHistory, Enqueued, Sent as HfscSent}
use Rattle.hfsc_model.specs.Leaf.{Waiting, leaf}
use Rattle.hfsc_model.specs.Timely.{IsHead}
use Rattle.hfsc_policy.specs.Events.{hfsc_history, is_real}
use Rattle.hfsc_model.specs.declared.HfscClass.{HfscClass}
use Rattle.hfsc_policy.specs.Heads.{IsSized, kept_in}
use Rattle.hfsc_policy.specs.Policy.{hfsc_policy}
use Rattle.hfsc_policy.proofs.Histories.{leaf_waits}
use Rattle.hfsc_policy.proofs.Plays.{front_head}
use Rattle.share_gaps.specs.declared.watch.Watch.{Watch}
use Rattle.share_gaps.specs.Watching.{Represents, classes_of}
use Rattle.share_report.specs.Watched.{BothStand, IsHfscOver}

-- neither the policy nor the classes change
pub still_hfsc : (p q : Policy) (cs ds : List HfscClass) → q ≡ p → ds ≡ cs → IsHfscOver cs p → IsHfscOver ds q
still_hfsc p q cs ds e f x = record { answer = x.answer; is = e ∙ x.is ∙ ap (λ (ks : List HfscClass). hfsc_policy ks x.answer) (sym f) }

-- an offer: the number of its packet, the packet, the random words before it, and the answer
pub record Offer : Type 0 where
  pub label : ℕ
  pub arrival : Arrival
  pub words : DrawnWords
  pub answer : Answer

abbrev pub happened : Offer → LabelledEvent
happened x = record { label = x.label; what = Offered x.arrival x.words x.answer }

-- the discipline and what watches it, before and after; neither the policy nor the classes change
module _ (old new : List LabelledEvent → Type 0) (p q : Policy) (w v : Watch) (same : q ≡ p) (classes : classes_of v ≡ classes_of w) where
  pub after_offer : (kept : ℕ) (x : Offer) (h : List LabelledEvent) → BothStand old p w kept h → is_kept x.answer.verdict ≡ true → IsOffer x.arrival (unlabelled h)
      → kept < 4000000
      → ((g : HfscHistory) (at len : ℕ) → Represents w g → kept_in g < 4000000 → IsSized len → Represents v (Enqueued x.arrival.class at len ∷ g))
      → new (happened x ∷ h) → BothStand new q v (kept + 1) (happened x ∷ h)
  after_offer kept x h s k offer few stands is =
      let a : Arrival = x.arrival in
      record {
        stands = is;
        shares = still_hfsc p q (classes_of w) (classes_of v) same classes s.shares;
        watches = subst (λ (b : Bool). Represents v (if b then Enqueued a.class a.at a.len ∷ hfsc_history (unlabelled h) else hfsc_history (unlabelled h))) (sym k)
            (stands (hfsc_history (unlabelled h)) a.at a.len s.watches (let count = s.kept_is in omega (arith, count, few)) offer.sized);
        kept_is = ap (λ (b : Bool). kept_in (if b then Enqueued a.class a.at a.len ∷ hfsc_history (unlabelled h) else hfsc_history (unlabelled h))) k ∙ ap (λ (n : ℕ). n + 1) s.kept_is;
        counted = let more = s.counted in omega (arith, more);
      }

  pub after_sending : (kept label : ℕ) (x : Sending) (h : List LabelledEvent) → BothStand old p w kept h → ((g : List LabelledEvent) → new g → IsOrderly q (unlabelled g))
      → ((g : HfscHistory) (real : Bool) (start : ℕ) → Represents w g → IsHead (leaf g x.class).waiting x.len → Represents v (HfscSent x.class x.len real start ∷ g))
      → new (record { label = label; what = Sent x } ∷ h) → BothStand new q v kept (record { label = label; what = Sent x } ∷ h)
  after_sending kept label x h s orderly stands is =
      let due = (orderly (record { label = label; what = Sent x } ∷ h) is).0 in
      record {
        stands = is;
        shares = still_hfsc p q (classes_of w) (classes_of v) same classes s.shares;
        watches = stands (hfsc_history (unlabelled h)) (is_real x.rule) x.start s.watches
            (subst (λ (ws : List Waiting). IsHead ws x.len) (sym (leaf_waits x.class (unlabelled h))) (front_head (waiting x.class (unlabelled h)) due.packet x.len due.front due.len));
        kept_is = s.kept_is;
        counted = s.counted;
      }
