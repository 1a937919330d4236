-- What was sent of a class is the older part of what was kept in it, and that is a part of what was offered.
use Rattle.std.proofs.Common.{◌≡◌, ◌≤◌, ◌+◌, ℕ, Bool, true, false, List, [], ◌∷◌, ◌++◌, drop, map, refl, ap, subst, sym, arith, ◌∙◌}
use Rattle.std.specs.Prelude.{◌==◌, if◌then◌else◌}
use Rattle.play_base.specs.Units.{units}
use Rattle.traffic_meter.specs.History.{Metered, ArrivalsAreInOrder, latest}
use Rattle.altq_model.specs.History.{Event, Offered, Sent, is_kept}
use Rattle.altq_model.specs.Lawful.{latest as greatest}
use Rattle.hfsc_model.specs.Event.{HfscHistory, Enqueued, Sent as HfscSent}
use Rattle.hfsc_model.specs.Leaf.{Waiting, after_kept, after_sent, leaf}
use Rattle.hfsc_model.specs.Link.{free, run_after}
use Rattle.hfsc_model.specs.Timely.{Row, rows, with_row}
use Rattle.hfsc_policy.specs.Events.{hfsc_history}
use Rattle.delay_bound.specs.Bound.{OffersRise, metered, offers_in}
use Rattle.delay_bound.proofs.Conforming.{Keep, Within}

-- the packets that were kept in a class, the newest first
abbrev kept_in : (c : ℕ) → HfscHistory → List Metered
kept_in c [] = []
kept_in c (Enqueued d at len ∷ h) = if d == c then record { moment = at; len = len } ∷ kept_in c h else kept_in c h
kept_in c (HfscSent d len real start ∷ h) = kept_in c h

-- those that were sent, as a meter sees them
abbrev pub sent_rows : List Row → List Metered
sent_rows rs = map (λ (r : Row). record { moment = r.at; len = r.len }) rs

-- the packets that wait, the head first, behind older ones
abbrev behind : List Waiting → List Metered → List Metered
behind [] xs = xs
behind (w ∷ ws) xs = behind ws (record { moment = w.at; len = w.len } ∷ xs)

behind_last : (ws : List Waiting) (w : Waiting) (xs : List Metered) → behind (ws ++ w ∷ []) xs ≡ record { moment = w.at; len = w.len } ∷ behind ws xs
behind_last [] w xs = refl
behind_last (v ∷ ws) w xs = behind_last ws w (record { moment = v.at; len = v.len } ∷ xs)

behind_sent : (ws : List Waiting) (start end : ℕ) (rs : List Row) → behind (drop 1 ws) (sent_rows (with_row ws start end rs)) ≡ behind ws (sent_rows rs)
behind_sent [] start end rs = refl
behind_sent (w ∷ ws) start end rs = refl

sent_are_older : (rate : ℕ) (h : HfscHistory) (c : ℕ) → kept_in c h ≡ behind (leaf h c).waiting (sent_rows (rows rate h c))
sent_are_older rate [] c = refl
sent_are_older rate (Enqueued d at len ∷ h) c = go (d == c) (sent_are_older rate h c)
  where
    go : (b : Bool) → kept_in c h ≡ behind (leaf h c).waiting (sent_rows (rows rate h c))
        → (if b then record { moment = at; len = len } ∷ kept_in c h else kept_in c h)
        ≡ behind (if b then after_kept at len (leaf h c) else leaf h c).waiting (sent_rows (rows rate h c))
    go true e =
        ap (λ ys. record { moment = at; len = len } ∷ ys) e
        ∙ sym (behind_last (leaf h c).waiting (record { at = at; len = len }) (sent_rows (rows rate h c)))
    go false e = e
sent_are_older rate (HfscSent d len real start ∷ h) c = go (d == c) (sent_are_older rate h c)
  where
    go : (b : Bool) → kept_in c h ≡ behind (leaf h c).waiting (sent_rows (rows rate h c))
        → kept_in c h ≡ behind (if b then after_sent len real (leaf h c) else leaf h c).waiting
        (sent_rows (if b then with_row (leaf h c).waiting start (free rate (run_after rate (HfscSent d len real start ∷ h))) (rows rate h c) else rows rate h c))
    go true e = e ∙ sym (behind_sent (leaf h c).waiting start (free rate (run_after rate (HfscSent d len real start ∷ h))) (rows rate h c))
    go false e = e

older_keep : (rate burst : ℕ) (ws : List Waiting) (xs : List Metered) → Keep rate burst (behind ws xs) → Keep rate burst xs
older_keep rate burst [] xs a = a
older_keep rate burst (w ∷ ws) xs a = (older_keep rate burst ws (record { moment = w.at; len = w.len } ∷ xs) a).1

either_history : (P : HfscHistory → Type 0) (b : Bool) (x y : HfscHistory) → P x → P y → P (if b then x else y)
either_history P true x y f g = f
either_history P false x y f g = g

-- what was kept is a part of what was offered
kept_within : (rate burst t n m : ℕ) (c : ℕ) (h : List Event) → m ≤ n → Within rate burst t n (offers_in c h) → Within rate burst t m (kept_in c (hfsc_history h))
kept_within rate burst t n m c [] k a = tt
kept_within rate burst t n m c (Sent s ∷ h) k a = kept_within rate burst t n m c h k a
kept_within rate burst t n m c (Offered b w v ∷ h) k a =
    either_history (λ z. Within rate burst t m (kept_in c z)) (is_kept v.verdict) (Enqueued b.class b.at b.len ∷ hfsc_history h) (hfsc_history h)
    (kept (b.class == c) (λ x y l. kept_within rate burst t x y c h l) a) (lost (b.class == c) (λ x y l. kept_within rate burst t x y c h l) a)
  where
    kept : (y : Bool) → ((x z : ℕ) → z ≤ x → Within rate burst t x (offers_in c h) → Within rate burst t z (kept_in c (hfsc_history h)))
        → Within rate burst t n (if y then metered b ∷ offers_in c h else offers_in c h)
        → Within rate burst t m (if y then record { moment = b.at; len = b.len } ∷ kept_in c (hfsc_history h) else kept_in c (hfsc_history h))
    kept true f a = (a.0, omega (arith, a.1, k), f (n + units b.len) (m + units b.len) (omega arith) a.2)
    kept false f a = f n m k a

    lost : (y : Bool) → ((x z : ℕ) → z ≤ x → Within rate burst t x (offers_in c h) → Within rate burst t z (kept_in c (hfsc_history h)))
        → Within rate burst t n (if y then metered b ∷ offers_in c h else offers_in c h) → Within rate burst t m (kept_in c (hfsc_history h))
    lost true f a = f (n + units b.len) m (omega arith) a.2
    lost false f a = f n m k a

kept_keep : (rate burst : ℕ) (c : ℕ) (h : List Event) → Keep rate burst (offers_in c h) → Keep rate burst (kept_in c (hfsc_history h))
kept_keep rate burst c [] a = tt
kept_keep rate burst c (Sent s ∷ h) a = kept_keep rate burst c h a
kept_keep rate burst c (Offered b w v ∷ h) a =
    either_history (λ z. Keep rate burst (kept_in c z)) (is_kept v.verdict) (Enqueued b.class b.at b.len ∷ hfsc_history h) (hfsc_history h)
    (kept (b.class == c) (kept_keep rate burst c h) a) (lost (b.class == c) (kept_keep rate burst c h) a)
  where
    kept : (y : Bool) → (Keep rate burst (offers_in c h) → Keep rate burst (kept_in c (hfsc_history h)))
        → Keep rate burst (if y then metered b ∷ offers_in c h else offers_in c h)
        → Keep rate burst (if y then record { moment = b.at; len = b.len } ∷ kept_in c (hfsc_history h) else kept_in c (hfsc_history h))
    kept true f a = (
      (a.0.0, a.0.1, kept_within rate burst b.at (0 + units b.len) (0 + units b.len) c h (omega arith) a.0.2),
      f a.1,
    )
    kept false f a = f a

    lost : (y : Bool) → (Keep rate burst (offers_in c h) → Keep rate burst (kept_in c (hfsc_history h)))
        → Keep rate burst (if y then metered b ∷ offers_in c h else offers_in c h) → Keep rate burst (kept_in c (hfsc_history h))
    lost true f a = f a.1
    lost false f a = f a

-- so what was sent keeps to what the offers keep to
pub sent_keep : (link_rate rate burst : ℕ) (c : ℕ) (h : List Event) → Keep rate burst (offers_in c h) → Keep rate burst (sent_rows (rows link_rate (hfsc_history h) c))
sent_keep link_rate rate burst c h a =
    older_keep rate burst (leaf (hfsc_history h) c).waiting (sent_rows (rows link_rate (hfsc_history h) c))
    (subst (λ xs. Keep rate burst xs) (sent_are_older link_rate (hfsc_history h) c) (kept_keep rate burst c h a))

-- the offers to a class are in order where all are
offers_late : (c : ℕ) (h : List Event) → latest (offers_in c h) ≤ greatest h
offers_late c [] = omega arith
offers_late c (Sent s ∷ h) = offers_late c h
offers_late c (Offered a w v ∷ h) = go (a.class == c) (offers_late c h)
  where
    go : (b : Bool) → latest (offers_in c h) ≤ greatest h → latest (if b then metered a ∷ offers_in c h else offers_in c h) ≤ greatest (Offered a w v ∷ h)
    go true l = omega arith
    go false l = omega (arith, l)

pub offers_in_order : (c : ℕ) (h : List Event) → OffersRise h → ArrivalsAreInOrder (offers_in c h)
offers_in_order c [] o = tt
offers_in_order c (Sent s ∷ h) o = offers_in_order c h o
offers_in_order c (Offered a w v ∷ h) o = go (a.class == c) (offers_late c h) (offers_in_order c h o.1)
  where
    go : (b : Bool) → latest (offers_in c h) ≤ greatest h → ArrivalsAreInOrder (offers_in c h) → ArrivalsAreInOrder (if b then metered a ∷ offers_in c h else offers_in c h)
    go true l i = (omega (arith, l, o.0), i)
    go false l i = i
