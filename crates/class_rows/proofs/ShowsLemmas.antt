-- Lists and queues after one more event.
use Rattle.std.proofs.Common.{◌≡◌, ◌∙◌, ℕ, Bool, true, false, cond, List, [], ◌∷◌, ◌++◌, length, refl, ap, sym, arith, drop}
use Rattle.std.specs.Prelude.{◌==◌}
use Rattle.std.proofs.lemmas.Bool.{eq-eqb, ne_eqb}
use Rattle.altq_model.specs.declared.Verdict.{Verdict}
use Rattle.altq_model.specs.declared.Verdict.TheVariants.{Keep, Mark, Drop}
use Rattle.altq_model.specs.History.{Arrival, DrawnWords, Answer, Event, Offered, Sent, LabelledEvent, Sending, unlabelled, waiting, with_offer, without_head}
use Rattle.leaf_queue.specs.declared.node.Entry.{Entry}
use Rattle.leaf_queue.specs.Lists.{precs_in}
use Rattle.leaf_queue.specs.Queue.{QueueEvent, Enqueued, Dequeued, waiting_of, precs_of, told_of, head_gone}
use Rattle.discipline.specs.Laws.{Shows, tickets, seen, seen_of, after_offer, after_sent}
use Rattle.class_rows.specs.Leaf.{gone}

tickets-append : (xs : List Entry) (x : Entry) → tickets (xs ++ x ∷ []) ≡ tickets xs ++ x.ticket.0 ∷ []
tickets-append [] x = refl
tickets-append (y ∷ xs) x = ap (λ (ns : List ℕ). y.ticket.0 ∷ ns) (tickets-append xs x)

seen-append : (xs : List Entry) (x : Entry) → seen xs ++ (x.len, x.prec) ∷ [] ≡ seen (xs ++ x ∷ [])
seen-append [] x = refl
seen-append (y ∷ xs) x = ap (λ (ns : List (ℕ × ℕ)). (y.len, y.prec) ∷ ns) (seen-append xs x)

seen_of-append : (ws : List Arrival) (a : Arrival) → seen_of ws ++ (a.len, a.prec) ∷ [] ≡ seen_of (ws ++ a ∷ [])
seen_of-append [] a = refl
seen_of-append (b ∷ ws) a = ap (λ (ns : List (ℕ × ℕ)). (b.len, b.prec) ∷ ns) (seen_of-append ws a)

tickets-offer : (mine : Bool) (v : Verdict) (x : Entry) (xs : List Entry) → tickets (with_offer mine v x xs) ≡ with_offer mine v x.ticket.0 (tickets xs)
tickets-offer true Keep x xs = tickets-append xs x
tickets-offer false Keep x xs = refl
tickets-offer true Mark x xs = tickets-append xs x
tickets-offer false Mark x xs = refl
tickets-offer mine (Drop r) x xs = refl

seen-more : (x : Entry) (xs : List Entry) (a : Arrival) (ws : List Arrival) → x.len ≡ a.len → x.prec ≡ a.prec
    → seen xs ≡ seen_of ws → seen (xs ++ x ∷ []) ≡ seen_of (ws ++ a ∷ [])
seen-more x xs a ws l p e =
    sym (seen-append xs x) ∙ ap (λ (ns : List (ℕ × ℕ)). ns ++ (x.len, x.prec) ∷ []) e
    ∙ ap (λ (n : ℕ). seen_of ws ++ (n, x.prec) ∷ []) l ∙ ap (λ (n : ℕ). seen_of ws ++ (a.len, n) ∷ []) p ∙ seen_of-append ws a

pub seen-offer : (mine : Bool) (v : Verdict) (x : Entry) (xs : List Entry) (a : Arrival) (ws : List Arrival) → x.len ≡ a.len → x.prec ≡ a.prec
    → seen xs ≡ seen_of ws → seen (with_offer mine v x xs) ≡ seen_of (with_offer mine v a ws)
seen-offer true Keep x xs a ws l p e = seen-more x xs a ws l p e
seen-offer false Keep x xs a ws l p e = e
seen-offer true Mark x xs a ws l p e = seen-more x xs a ws l p e
seen-offer false Mark x xs a ws l p e = e
seen-offer mine (Drop r) x xs a ws l p e = e

tickets-drop : (xs : List Entry) → tickets (drop 1 xs) ≡ drop 1 (tickets xs)
tickets-drop [] = refl
tickets-drop (x ∷ xs) = refl

seen-drop : (xs : List Entry) → seen (drop 1 xs) ≡ drop 1 (seen xs)
seen-drop [] = refl
seen-drop (x ∷ xs) = refl

seen_of-drop : (ws : List Arrival) → seen_of (drop 1 ws) ≡ drop 1 (seen_of ws)
seen_of-drop [] = refl
seen_of-drop (a ∷ ws) = refl

tickets-sent : (mine : Bool) (xs : List Entry) → tickets (without_head mine xs) ≡ without_head mine (tickets xs)
tickets-sent true xs = tickets-drop xs
tickets-sent false xs = refl

pub seen-sent : (mine : Bool) (xs : List Entry) (ws : List Arrival) → seen xs ≡ seen_of ws → seen (without_head mine xs) ≡ seen_of (without_head mine ws)
seen-sent true xs ws e = seen-drop xs ∙ ap (drop 1) e ∙ sym (seen_of-drop ws)
seen-sent false xs ws e = e

-- every list after an offer
pub shows_offered : (lists new : ℕ → List Entry) (h : List LabelledEvent) (x : Entry) (a : Arrival) (w : DrawnWords) (s : Answer) (v : Verdict)
    → ((c : ℕ) → Shows c (lists c) h) → v ≡ s.verdict → x.len ≡ a.len → x.prec ≡ a.prec
    → ((c : ℕ) → new c ≡ after_offer v a.class x lists c)
    → (c : ℕ) → Shows c (new c) ((record { label = x.ticket.0; what = Offered a w s }) ∷ h)
shows_offered lists new h x a w s v k e l p n c =
    let m : Bool = a.class == c in
    let same : new c ≡ with_offer m s.verdict x (lists c) = n c ∙ ap (λ (u : Verdict). with_offer m u x (lists c)) e in
    record {
      labels = ap tickets same ∙ tickets-offer m s.verdict x (lists c) ∙ ap (with_offer m s.verdict x.ticket.0) (k c).labels;
      packets = ap seen same ∙ seen-offer m s.verdict x (lists c) a (waiting c (unlabelled h)) l p (k c).packets;
    }

-- every list after a sending
pub shows_sent : (lists new : ℕ → List Entry) (h : List LabelledEvent) (n : ℕ) (s : Sending)
    → ((c : ℕ) → Shows c (lists c) h) → ((c : ℕ) → new c ≡ after_sent s.class lists c)
    → (c : ℕ) → Shows c (new c) ((record { label = n; what = Sent s }) ∷ h)
shows_sent lists new h n s k e c =
    let m : Bool = s.class == c in
    record {
      labels = ap tickets (e c) ∙ tickets-sent m (lists c) ∙ ap (without_head m) (k c).labels;
      packets = ap seen (e c) ∙ seen-sent m (lists c) (waiting c (unlabelled h)) (k c).packets;
    }

pub seen_length : (xs : List Entry) (ws : List Arrival) → seen xs ≡ seen_of ws → length xs ≡ length ws
seen_length [] [] e = refl
seen_length [] (a ∷ ws) e = absurd (cc)
seen_length (x ∷ xs) [] e = absurd (cc)
seen_length (x ∷ xs) (a ∷ ws) e = let t : seen xs ≡ seen_of ws = cc in omega (arith, seen_length xs ws t)

abbrev pair : ℕ → ℕ → ℕ × ℕ
pair m n = (m, n)

pub seen_precs : (xs : List Entry) (ws : List Arrival) → seen xs ≡ seen_of ws → precs_in xs ≡ precs_of ws
seen_precs [] [] e = refl
seen_precs [] (a ∷ ws) e = absurd (cc)
seen_precs (x ∷ xs) [] e = absurd (cc)
seen_precs (x ∷ xs) (a ∷ ws) e =
    let t : seen xs ≡ seen_of ws = cc in
    let q : pair x.len x.prec ≡ pair a.len a.prec = cc in
    let p : x.prec ≡ a.prec = ap (λ (n : ℕ × ℕ). n.1) q in
    ap (λ (n : ℕ). n ∷ precs_in xs) p ∙ ap (λ (ns : List ℕ). a.prec ∷ ns) (seen_precs xs ws t)

-- what the queue of a class is told of an offer and of a sending
pub told_here : (c : ℕ) (b : List Event) (a : Arrival) (w : DrawnWords) (s : Answer) → a.class ≡ c
    → told_of c (Offered a w s ∷ b) ≡ Enqueued a.at (waiting_of (precs_of (waiting c b))) a.prec w s ∷ told_of c b
told_here c b a w s e = ap (λ (t : Bool). cond t (Enqueued a.at (waiting_of (precs_of (waiting c b))) a.prec w s ∷ told_of c b) (told_of c b)) (eq-eqb a.class c e)

pub told_there : (c : ℕ) (b : List Event) (a : Arrival) (w : DrawnWords) (s : Answer) → (a.class ≡ c → ⊥) → told_of c (Offered a w s ∷ b) ≡ told_of c b
told_there c b a w s n = ap (λ (t : Bool). cond t (Enqueued a.at (waiting_of (precs_of (waiting c b))) a.prec w s ∷ told_of c b) (told_of c b)) (ne_eqb a.class c n)

pub gone_there : (c : ℕ) (b : List Event) (s : Sending) → (s.class ≡ c → ⊥) → told_of c (Sent s ∷ b) ≡ told_of c b
gone_there c b s n = ap (λ (t : Bool). cond t (head_gone s.start (waiting c b) (told_of c b)) (told_of c b)) (ne_eqb s.class c n)

gone_same : (now : ℕ) (xs : List Entry) (ws : List Arrival) (q : List QueueEvent) → seen xs ≡ seen_of ws → gone now xs q ≡ head_gone now ws q
gone_same now [] [] q e = refl
gone_same now [] (a ∷ ws) q e = absurd (cc)
gone_same now (x ∷ xs) [] q e = absurd (cc)
gone_same now (x ∷ xs) (a ∷ ws) q e =
    let t : seen xs ≡ seen_of ws = cc in
    let both : pair x.len x.prec ≡ pair a.len a.prec = cc in
    let p : x.prec ≡ a.prec = ap (λ (n : ℕ × ℕ). n.1) both in
    ap (λ (n : ℕ). Dequeued now n (waiting_of (precs_in xs)) ∷ q) p ∙ ap (λ (ns : List ℕ). Dequeued now a.prec (waiting_of ns) ∷ q) (seen_precs xs ws t)

pub gone_here : (c : ℕ) (b : List Event) (s : Sending) (xs : List Entry) → s.class ≡ c → seen xs ≡ seen_of (waiting c b)
    → told_of c (Sent s ∷ b) ≡ gone s.start xs (told_of c b)
gone_here c b s xs e k =
    ap (λ (t : Bool). cond t (head_gone s.start (waiting c b) (told_of c b)) (told_of c b)) (eq-eqb s.class c e)
    ∙ sym (gone_same s.start xs (waiting c b) (told_of c b) k)
