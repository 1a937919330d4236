-- What waits after the events of a link is what waits after the history that HFSC sees.
use Rattle.std.proofs.Common.{◌≡◌, ℕ, Bool, true, false, List, [], ◌∷◌, ◌++◌, Some, refl, ap, sym, ◌∙◌, drop}
use Rattle.std.specs.Prelude.{◌==◌, ◌&&◌, slice_get, if◌then◌else◌}
use Rattle.altq_model.specs.History.{Arrival, Event, Offered, Sent, is_kept, head, waiting}
use Rattle.hfsc_model.specs.Event.{Enqueued}
use Rattle.hfsc_model.specs.Leaf.{Waiting, leaf, is_waiting, after_kept, after_sent}
use Rattle.hfsc_policy.specs.Events.{is_real, hfsc_history, waits}

waits_push : (ws : List Arrival) (a : Arrival) → waits ws ++ record { at = a.at; len = a.len } ∷ [] ≡ waits (ws ++ a ∷ [])
waits_push [] a = refl
waits_push (w ∷ ws) a = ap (λ (x : List Waiting). record { at = w.at; len = w.len } ∷ x) (waits_push ws a)

waits_drop : (ws : List Arrival) → drop 1 (waits ws) ≡ waits (drop 1 ws)
waits_drop [] = refl
waits_drop (w ∷ ws) = refl

pub leaf_waits : (c : ℕ) (h : List Event) → (leaf (hfsc_history h) c).waiting ≡ waits (waiting c h)
leaf_waits c [] = refl
leaf_waits c (Offered a w v ∷ h) = go (is_kept v.verdict) (leaf_waits c h)
  where
    here : (m : Bool) → (leaf (hfsc_history h) c).waiting ≡ waits (waiting c h)
        → (if m then after_kept a.at a.len (leaf (hfsc_history h) c) else leaf (hfsc_history h) c).waiting ≡ waits (if true && m then waiting c h ++ a ∷ [] else waiting c h)
    here true e = ap (λ (x : List Waiting). x ++ record { at = a.at; len = a.len } ∷ []) e ∙ waits_push (waiting c h) a
    here false e = e

    go : (k : Bool) → (leaf (hfsc_history h) c).waiting ≡ waits (waiting c h)
        → (leaf (if k then Enqueued a.class a.at a.len ∷ hfsc_history h else hfsc_history h) c).waiting ≡ waits (if k && (a.class == c) then waiting c h ++ a ∷ [] else waiting c h)
    go true e = here (a.class == c) e
    go false e = e
leaf_waits c (Sent s ∷ h) = go (s.class == c) (leaf_waits c h)
  where
    go : (m : Bool) → (leaf (hfsc_history h) c).waiting ≡ waits (waiting c h)
        → (if m then after_sent s.len (is_real s.rule) (leaf (hfsc_history h) c) else leaf (hfsc_history h) c).waiting ≡ waits (if m then drop 1 (waiting c h) else waiting c h)
    go true e = ap (λ (x : List Waiting). drop 1 x) e ∙ waits_drop (waiting c h)
    go false e = e

front_waits : (ws : List Arrival) (b : Arrival) → slice_get ws 0 ≡ Some b → is_waiting (waits ws) ≡ true
front_waits [] b e = absurd cc
front_waits (w ∷ ws) b e = refl

pub head_waits : (c : ℕ) (h : List Event) (b : Arrival) → head c h ≡ Some b → is_waiting (leaf (hfsc_history h) c).waiting ≡ true
head_waits c h b e = ap is_waiting (leaf_waits c h) ∙ front_waits (waiting c h) b e

pub record HasHead (c : ℕ) (h : List Event) : Type 0 where
  pub packet : Arrival
  pub front : head c h ≡ Some packet

pub waits_head : (c : ℕ) (h : List Event) → is_waiting (leaf (hfsc_history h) c).waiting ≡ true → HasHead c h
waits_head c h e = go (waiting c h) refl (ap is_waiting (sym (leaf_waits c h)) ∙ e)
  where
    go : (ws : List Arrival) → waiting c h ≡ ws → is_waiting (waits ws) ≡ true → HasHead c h
    go [] f g = absurd cc
    go (w ∷ ws) f g = record { packet = w; front = ap (λ (xs : List Arrival). slice_get xs 0) f }
