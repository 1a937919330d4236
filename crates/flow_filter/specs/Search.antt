-- What searches among filters that are filed find.
use Rattle.std.specs.Prelude.{◌≡◌, ℕ, ◌<◌, ◌≤◌, ◌==◌, Bool, true, false, List, length, All, Contains, Option, IfSome, slice_get, slice_index_or}
use Rattle.std.specs.Option.{option_map_or}
use Rattle.flow_filter.specs.declared.ports.Filed.{Filed}
use Rattle.flow_filter.specs.declared.ports.Stretch.{Stretch}
use Rattle.flow_filter.specs.Filed.{IsAtMost}

-- the first place from `start` up to `end` at which a test holds, if it does at one
pub record IsFirstFit (test : ℕ → Bool) (start end : ℕ) (found : Option ℕ) : Type 0 where
  pub there : IfSome found (λ k. (start ≤ k) × (k < end) × (test k ≡ true))
  pub first : (k : ℕ) → start ≤ k → k < end → test k ≡ true → IsAtMost found k

-- a filter of a port stands at a place
abbrev pub is_at : List Filed → (port k : ℕ) → Bool
is_at filed port k = option_map_or (λ (one : Filed). one.port == port) (slice_get filed k) false

-- the lesser ports stand before a place, and the others from it on
pub record BeginsAt (filed : List Filed) (port start : ℕ) : Type 0 where
  pub within : start ≤ length filed
  pub lesser : (k : ℕ) (d : Filed) → k < start → (slice_index_or filed k d).port < port
  pub others : (k : ℕ) (d : Filed) → start ≤ k → k < length filed → port ≤ (slice_index_or filed k d).port

-- the places of a port
pub record IsStretch (filed : List Filed) (port start end : ℕ) : Type 0 where
  pub within : end ≤ length filed
  pub its : (k : ℕ) (d : Filed) → start ≤ k → k < end → (slice_index_or filed k d).port ≡ port
  pub all : (k : ℕ) (d : Filed) → k < length filed → (slice_index_or filed k d).port ≡ port → (start ≤ k) × (k < end)

-- each of these is the stretch of its port
abbrev pub AreStretches : List Filed → List Stretch → Type 0
AreStretches filed kept = All (λ (one : Stretch). IsStretch filed one.port one.start one.end) kept

-- a number that passes a test, if one is found, and no later than each that passes and is filed under a port
pub record IsFirstUnder (filed : List Filed) (port : ℕ) (test : ℕ → Bool) (found : Option ℕ) : Type 0 where
  pub agrees : IfSome found (λ rank. test rank ≡ true)
  pub first : (rank : ℕ) → Contains filed (record { port = port; rank = rank }) → test rank ≡ true → IsAtMost found rank

-- the first number that passes a test, if one does
pub record IsFirst (test : ℕ → Bool) (found : Option ℕ) : Type 0 where
  pub agrees : IfSome found (λ rank. test rank ≡ true)
  pub first : (rank : ℕ) → test rank ≡ true → IsAtMost found rank
