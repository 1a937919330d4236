-- The front of a list that shows what waits in its class is the head of that class.
use Rattle.std.proofs.Common.{◌≡◌, ℕ, List, [], ◌∷◌, ◌∙◌, Some, refl, ap}
use Rattle.std.specs.Prelude.{slice_get}
use Rattle.altq_model.specs.History.{Arrival, LabelledEvent, unlabelled, waiting}
use Rattle.leaf_queue.specs.declared.node.Entry.{Entry}
use Rattle.discipline.specs.Laws.{Shows, seen, seen_of}

-- a packet of this length is at the head
pub record HasFront (ws : List Arrival) (length_is : ℕ) : Type 0 where
  pub packet : Arrival
  pub front : slice_get ws 0 ≡ Some packet
  pub len : length_is ≡ packet.len

seen_front : (xs : List Entry) (ws : List Arrival) (x : Entry) → seen xs ≡ seen_of ws → slice_get xs 0 ≡ Some x → HasFront ws x.len
seen_front [] ws x e f = absurd (cc)
seen_front (y ∷ xs) [] x e f = absurd (cc)
seen_front (y ∷ xs) (a ∷ ws) x e f =
    let same : x ≡ y = cc in
    let both : (y.len, y.prec) ≡ (a.len, a.prec) = cc e in
    let long : y.len ≡ a.len = ap (λ (z : ℕ × ℕ). z.0) both in
    record { packet = a; front = refl; len = ap (λ (z : Entry). z.len) same ∙ long }

pub front_shown : (c : ℕ) (xs : List Entry) (h : List LabelledEvent) (x : Entry) → Shows c xs h → slice_get xs 0 ≡ Some x → HasFront (waiting c (unlabelled h)) x.len
front_shown c xs h x s e = seen_front xs (waiting c (unlabelled h)) x s.packets e
