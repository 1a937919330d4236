-- The packets of a capture as they arrive at the interface.
use Rattle.std.specs.Prelude.{ℕ, ◌-◌, max, nat_lt, Bool, false, List, [], ◌∷◌, length, slice_get, unwrap_or}
use Rattle.altq_model.specs.declared.Placed.{Placed}
use Rattle.capture_model.specs.Capture.{Record}
use Rattle.altq_model.specs.History.{Arrival}

-- a packet that arrives; its number is its place in the capture, from 1
pub record Captured : Type 0 where
  -- the greatest of all stamps up to its own record, in nanoseconds
  pub at : ℕ
  -- the greater of its original and its captured length, in bytes
  pub len : ℕ
  -- its class, and its precedence in a queue with several
  pub class : ℕ
  pub prec : ℕ
  -- the captured bytes
  pub bytes : List ℕ
  -- its own stamp is less than `at`
  pub raised : Bool

-- the arrivals of records, where `latest` is the greatest stamp before them; `mark` places each by its captured bytes
abbrev pub arrivals_from : (List ℕ → Placed) → (latest : ℕ) → List Record → List Captured
arrivals_from mark latest [] = []
arrivals_from mark latest (r ∷ rs) =
    record {
      at = max latest r.stamp;
      len = max r.original (length r.captured);
      class = (mark r.captured).class;
      prec = (mark r.captured).prec;
      bytes = r.captured;
      raised = nat_lt r.stamp latest;
    } ∷ arrivals_from mark (max latest r.stamp) rs

-- the arrivals of a capture's records
abbrev pub arrivals_of : (List ℕ → Placed) → List Record → List Captured
arrivals_of mark records = arrivals_from mark 0 records

-- what a play sees of an arrival
abbrev pub bare_arrival : Captured → Arrival
bare_arrival a = record { class = a.class; len = a.len; prec = a.prec; at = a.at }

abbrev pub bare_arrivals : List Captured → List Arrival
bare_arrivals [] = []
bare_arrivals (a ∷ rest) = bare_arrival a ∷ bare_arrivals rest

abbrev pub no_arrival : Captured
no_arrival = record { at = 0; len = 0; class = 0; prec = 0; bytes = []; raised = false }

-- the arrival of a number
abbrev pub arrival : List Captured → ℕ → Captured
arrival arrived n = unwrap_or (slice_get arrived (n - 1)) no_arrival
