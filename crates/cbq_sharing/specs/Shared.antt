-- What CBQ keeps of its classes beside their queues, and what a choice looks at of it.
use Rattle.std.specs.Prelude.{◌≡◌, ◌≤◌, ◌<◌, ◌^◌, ◌||◌, ℕ, pos, int_lt, Bool, min, List, [], ◌∷◌, length, get_or, map, Option, Some, option_map, slice_get, unwrap_or, if◌then◌else◌}
use Rattle.std.specs.List.{list_any}
use Rattle.altq_model.specs.Link.{Link}
use Rattle.cbq_estimator.specs.Estimate.{Estimate}
use Rattle.cbq_estimator.specs.Now.{allows_now, estimate_of, start_now}
use Rattle.cbq_model.specs.declared.CbqClass.{CbqClass}
use Rattle.cbq_model.specs.Choice.{Situation}
use Rattle.cbq_model.specs.Tree.{class_of, each, is_root, lender_of, lenders, lenders_up, no_class, pace_of, quantum_of}
use Rattle.leaf_queue.specs.declared.node.Entry.{Entry}
use Rattle.cbq_sharing.specs.declared.fixed.Fixed.{Fixed}

-- the rate of the link, the classes, and of each its average and its credit; of each priority the class at which its ring begins; and the
-- end of the latest sending
pub record Shared : Type 0 where
  pub rate : ℕ
  pub tree : List CbqClass
  pub estimates : List Estimate
  pub credits : List ℕ
  pub cursors : List ℕ
  pub ended : ℕ

abbrev pub no_estimate : Estimate
no_estimate = estimate_of (pace_of no_class) []

-- every parent stands earlier in the file, and a class's numbers are in their ranges
pub record IsTree (cs : List CbqClass) : Type 0 where
  pub earlier : (c p : ℕ) → (class_of cs c).parent ≡ Some p → p < c
  pub priorities : (c : ℕ) → (class_of cs c).priority ≤ 7
  pub rates : (c : ℕ) → (class_of cs c).rate ≤ 10 ^ 12

-- the root is one of those that may lend to a class
abbrev pub borrows_from_root : List CbqClass → CbqClass → Bool
borrows_from_root cs k = list_any (is_root cs) (lenders_up 8 cs (lender_of k))

-- what never changes of a class
abbrev pub fixed_of : (rate : ℕ) → List CbqClass → CbqClass → Fixed
fixed_of rate cs k = record { quantum = quantum_of rate k; rooted = borrows_from_root cs k }

pub record IsShared (rate : ℕ) (cs : List CbqClass) (estimates : List Estimate) (fixed : List Fixed) (credits cursors : List ℕ) (ended : ℕ) : Type 0 where
  pub least_rate : 1000 ≤ rate
  pub most_rate : rate ≤ 10 ^ 12
  pub few : length cs ≤ 256
  pub tree : IsTree cs
  pub estimate_each : length estimates ≡ length cs
  pub fixed_each : fixed ≡ map (fixed_of rate cs) cs
  pub credit_each : length credits ≡ length cs
  pub cursor_each : length cursors ≡ 8
  pub credit_bound : (c : ℕ) → get_or credits c 0 ≤ 2 ^ 42
  pub ends : (c : ℕ) → unwrap_or (get_or estimates c no_estimate).last 0 ≤ ended

-- the length of the packet that stands first in a list
abbrev pub head_len : List Entry → Option ℕ
head_len xs = option_map (λ (x : Entry). x.len) (slice_get xs 0)

abbrev pub situation_in : Shared → (lists : ℕ → List Entry) → Link → Situation
situation_in d lists link = record {
  estimates = d.estimates;
  heads = each (λ c k. head_len (lists c)) d.tree;
  credits = d.credits;
  cursors = d.cursors;
  link = link;
}

-- the least moment from t on at which a class's own average allows a packet; the root is never held back
abbrev pub own_now : List CbqClass → List Estimate → (rate : ℕ) → Link → (t len c : ℕ) → ℕ
own_now cs es rate l t len c = if is_root cs c then t else start_now (get_or es c no_estimate) rate l t len

-- a class holds back no packet at any moment: the root, or one whose average is above 0
abbrev pub is_free : List CbqClass → List Estimate → (c : ℕ) → Bool
is_free cs es c = is_root cs c || int_lt (pos 0) (get_or es c no_estimate).average

-- a class allows a packet that would end at `end`: the root each one
abbrev pub allows_end : List CbqClass → List Estimate → (end len c : ℕ) → Bool
allows_end cs es end len c = is_root cs c || allows_now (get_or es c no_estimate) end len

-- a class may send such a packet: it allows it itself, or one that may lend to it does
abbrev pub may_end : List CbqClass → List Estimate → (end len c : ℕ) → Bool
may_end cs es end len c = allows_end cs es end len c || list_any (allows_end cs es end len) (lenders cs c)

-- the least of t and of the moments that f gives some classes
abbrev pub least_with : (ℕ → ℕ) → (t : ℕ) → List ℕ → ℕ
least_with f t [] = t
least_with f t (p ∷ ps) = least_with f (min t (f p)) ps

-- the least moment from t on at which a class may send a packet
abbrev pub start_now_in : Shared → (rate : ℕ) → Link → (c t len : ℕ) → ℕ
start_now_in d rate l c t len =
    let f = own_now d.tree d.estimates rate l t len in
    least_with f (f c) (lenders d.tree c)
