-- What a sending does to the leads.
use Rattle.std.specs.Prelude.{◌&&◌, ◌+◌, ◌-◌, ◌*◌, ◌^◌, ℕ, min, max, nat_lt, Bool, List, [], ◌∷◌, Option, None, Some, slice_get, slice_set, get_or, if◌then◌else◌}
use Rattle.share_gaps.specs.declared.lead.Lead.{Lead}
use Rattle.share_gaps.specs.declared.siblings.Siblings.{Siblings}

-- numbers of 128 bits stay at the greatest
abbrev pub held_to : ℕ → ℕ
held_to x = min x (2 ^ 128 - 1)

-- the amount times the rate of the sibling; 0 where its curve is no line
abbrev pub gain_of : (amount : ℕ) → Option ℕ → ℕ
gain_of amount None = 0
gain_of amount (Some rate) = held_to (amount * rate)

-- the leads of two siblings after a sending that gains one of them this much; where not both are active a stretch ends
abbrev pub after_gains : Lead → (both : Bool) → (first second : ℕ) → Lead
after_gains x both a b =
    if both then record {
      first = held_to (x.first + a) - b;
      second = held_to (x.second + b) - a;
      most = max (max x.most (held_to (x.first + a) - b)) (held_to (x.second + b) - a);
    } else record { first = 0; second = 0; most = x.most }

-- at most one thing was done at each of some places
abbrev pub update_at : {X : Type 0} → (ℕ → X → X) → ℕ → List X → List X
update_at f i xs = elim (slice_get xs i) [ None ↦ xs | Some x ↦ slice_set xs i (f i x) ]

abbrev pub update_all : {X : Type 0} → (ℕ → X → X) → List ℕ → List X → List X
update_all f [] xs = xs
update_all f (i ∷ is) xs = update_all f is (update_at f i xs)

-- both siblings of a row are active, by the packets that wait in each class
abbrev pub both_active : List ℕ → Siblings → Bool
both_active waiting s = nat_lt 0 (get_or waiting s.first 0) && nat_lt 0 (get_or waiting s.second 0)

abbrev pub rate_at : List (Option ℕ) → ℕ → Option ℕ
rate_at rates c = elim (slice_get rates c) [ None ↦ None | Some r ↦ r ]

-- the leads of a row after a sending under its first, or its second
abbrev pub first_served : List Siblings → (waiting : List ℕ) → List (Option ℕ) → (amount row : ℕ) → Lead → Lead
first_served ss waiting rates amount i x =
    elim (slice_get ss i) [ None ↦ x | Some s ↦ after_gains x (both_active waiting s) (gain_of amount (rate_at rates s.second)) 0 ]

abbrev pub second_served : List Siblings → (waiting : List ℕ) → List (Option ℕ) → (amount row : ℕ) → Lead → Lead
second_served ss waiting rates amount i x =
    elim (slice_get ss i) [ None ↦ x | Some s ↦ after_gains x (both_active waiting s) 0 (gain_of amount (rate_at rates s.first)) ]

abbrev pub one_more : ℕ → ℕ → ℕ
one_more c n = min (n + 1) (2 ^ 32 - 1)

abbrev pub one_less : ℕ → ℕ → ℕ
one_less c n = n - 1
