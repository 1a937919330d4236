-- Which class sends, and when one may (Floyd and Jacobson 1995, "Link-sharing and resource management models for packet networks"):
-- of the classes that may send those of the greatest priority, and of these the one that needs the fewest weighted rounds.
use Rattle.std.specs.Prelude.{◌==◌, ◌+◌, ◌-◌, ℕ, min, max, nat_le, nat_lt, Bool, true, false, ◌||◌, ◌&&◌, List, [], ◌∷◌, get_or, Option, None, Some, unwrap_or, if◌then◌else◌, int_lt, pos}
use Rattle.std.specs.List.{filter, list_any}
use Rattle.altq_model.specs.declared.Rule.TheVariants.{Own, Borrow}
use Rattle.altq_model.specs.Link.{Link, end_of}
use Rattle.altq_model.specs.Play.{Choice}
use Rattle.play_base.specs.Units.{ceil_div, time_of}
use Rattle.cbq_estimator.specs.Estimate.{Estimate}
use Rattle.cbq_estimator.specs.Now.{allows_now, estimate_of, wanted_now}
use Rattle.cbq_model.specs.declared.CbqClass.{CbqClass}
use Rattle.cbq_model.specs.declared.Rank.{Rank}
use Rattle.cbq_model.specs.Tree.{class_of, is_root, lenders, no_class, numbers, pace_of, quantum_of}

-- what a choice looks at: of each class its average and last end, the length of its head and its credit in bytes; of each priority the
-- class at which the ring begins; and the link
pub record Situation : Type 0 where
  pub estimates : List Estimate
  pub heads : List (Option ℕ)
  pub credits : List ℕ
  pub cursors : List ℕ
  pub link : Link

abbrev pub estimate_in : Situation → ℕ → Estimate
estimate_in s c = get_or s.estimates c (estimate_of (pace_of no_class) [])

abbrev pub head_in : Situation → ℕ → Option ℕ
head_in s c = get_or s.heads c None

abbrev pub credit_in : Situation → ℕ → ℕ
credit_in s c = get_or s.credits c 0

-- a class allows a packet of a length to start at t: the root always, another by its average or by the idle time that the packet's
-- end leaves
abbrev pub allows_in : List CbqClass → (rate : ℕ) → Situation → (c t len : ℕ) → Bool
allows_in cs rate s c t len = is_root cs c || allows_now (estimate_in s c) (end_of rate s.link t len) len

-- a class may send a packet of a length at t: it allows it itself, or one that may lend to it does
abbrev pub may_send : List CbqClass → (rate : ℕ) → Situation → (c t len : ℕ) → Bool
may_send cs rate s c t len = allows_in cs rate s c t len || list_any (λ p. allows_in cs rate s p t len) (lenders cs c)

-- a class waits, and may send its head at t
abbrev pub may_with : List CbqClass → (rate : ℕ) → Situation → (c t : ℕ) → Option ℕ → Bool
may_with cs rate s c t None = false
may_with cs rate s c t (Some len) = may_send cs rate s c t len

abbrev pub may : List CbqClass → (rate : ℕ) → Situation → (c t : ℕ) → Bool
may cs rate s c t = may_with cs rate s c t (head_in s c)

-- The least moment from t on at which an average allows a packet to start: a packet that starts at the link's last end may end 1 ns
-- sooner than by its own time, and then the next moment is the least.
abbrev pub least_allowed : Estimate → (rate : ℕ) → Link → (t len : ℕ) → ℕ
least_allowed e rate l t len =
    let u = max t (wanted_now e len - time_of len rate) in
    if int_lt (pos 0) e.average then t else if nat_le (wanted_now e len) (end_of rate l u len) then u else u + 1

-- the same for a class; the root is never held back
abbrev pub own_start : List CbqClass → (rate : ℕ) → Situation → (t len c : ℕ) → ℕ
own_start cs rate s t len c = if is_root cs c then t else least_allowed (estimate_in s c) rate s.link t len

abbrev pub least_of : (ℕ → ℕ) → (c : ℕ) → List ℕ → ℕ
least_of f c [] = f c
least_of f c (p ∷ ps) = min (f c) (least_of f p ps)

-- the least moment from t on at which a class that waits may send: that of its own average, or of a lender's
abbrev pub start_with : List CbqClass → (rate : ℕ) → Situation → (c t : ℕ) → Option ℕ → ℕ
start_with cs rate s c t None = t
start_with cs rate s c t (Some len) = least_of (own_start cs rate s t len) c (lenders cs c)

abbrev pub start_of : List CbqClass → (rate : ℕ) → Situation → (c t : ℕ) → ℕ
start_of cs rate s c t = start_with cs rate s c t (head_in s c)

-- the waiting classes that may send at t
abbrev pub able : List CbqClass → (rate : ℕ) → Situation → (t : ℕ) → List ℕ
able cs rate s t = filter (λ c. may cs rate s c t) (numbers cs)

-- how many rounds a class needs until its credit pays for a packet
abbrev pub rounds_for : (credit quantum len : ℕ) → ℕ
rounds_for credit quantum len = ceil_div (len - credit) quantum

abbrev pub rounds : List CbqClass → (rate : ℕ) → Situation → (c : ℕ) → ℕ
rounds cs rate s c = rounds_for (credit_in s c) (quantum_of rate (class_of cs c)) (unwrap_or (head_in s c) 0)

-- what decides between classes: the priority, the rounds that they need, and the order of the ring of their priority: that of the
-- file, but beginning at the cursor
abbrev pub rank_in : List CbqClass → (rate : ℕ) → Situation → (c : ℕ) → Rank
rank_in cs rate s c =
    let p = (class_of cs c).priority in
    record { priority = p; rounds = rounds cs rate s c; wraps = nat_lt c (get_or s.cursors p 0); class = c }

abbrev pub before_in_ring : (a b : Rank) → Bool
before_in_ring a b = if a.wraps then b.wraps && nat_lt a.class b.class else (b.wraps || nat_lt a.class b.class)

-- the greater priority goes first, then the fewer rounds, then the ring
abbrev pub goes_before : (a b : Rank) → Bool
goes_before a b =
    if nat_lt b.priority a.priority then true
    else if nat_lt a.priority b.priority then false
    else if nat_lt a.rounds b.rounds then true
    else if nat_lt b.rounds a.rounds then false
    else before_in_ring a b

-- the better of the best so far and one class more, and the best of all of a list
abbrev pub better : Option Rank → Rank → Option Rank
better None a = Some a
better (Some b) a = if goes_before a b then Some a else Some b

abbrev pub best : List CbqClass → (rate : ℕ) → Situation → Option Rank → List ℕ → Option Rank
best cs rate s o [] = o
best cs rate s o (c ∷ rest) = best cs rate s (better o (rank_in cs rate s c)) rest

abbrev pub class_in : Option Rank → ℕ
class_in None = 0
class_in (Some a) = a.class

-- the class that sends
abbrev pub picked : List CbqClass → (rate : ℕ) → Situation → (t : ℕ) → ℕ
picked cs rate s t = class_in (best cs rate s None (able cs rate s t))

-- the candidates: those that may send and have its priority
abbrev pub candidates : List CbqClass → (rate : ℕ) → Situation → (t : ℕ) → List ℕ
candidates cs rate s t = filter (λ c. (class_of cs c).priority == (class_of cs (picked cs rate s t)).priority) (able cs rate s t)

-- it sends by `Own` where it allows the packet itself, else by `Borrow`
abbrev pub choice_of : List CbqClass → (rate : ℕ) → Situation → (t : ℕ) → Choice
choice_of cs rate s t =
    let c = picked cs rate s t in
    record { class = c; rule = if allows_in cs rate s c t (unwrap_or (head_in s c) 0) then Own else Borrow }
