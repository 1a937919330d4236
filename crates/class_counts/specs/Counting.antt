-- The counts of the statistics while a play goes on.
use Rattle.std.specs.Prelude.{◌≡◌, ◌+◌, ◌==◌, ℕ, List, [], ◌∷◌, length, map, All, if◌then◌else◌}
use Rattle.altq_model.specs.declared.Counts.{Counts}
use Rattle.altq_model.specs.declared.Reason.{Reason}
use Rattle.altq_model.specs.declared.Reason.TheVariants.{Full, Early, Forced}
use Rattle.altq_model.specs.Arrivals.{Captured}
use Rattle.altq_model.specs.Counts.{counts_of}
use Rattle.altq_model.specs.History.{Decision}
use Rattle.play_text.specs.Names.{AreNames, NameList}
use Rattle.play_text.specs.Statistics.{IsCountable}
use Rattle.class_counts.specs.declared.counting.Counted.{Counted}
use Rattle.class_counts.specs.declared.counting.Counted.TheVariants.{Arrived, Sent, Dropped}

-- counts with one more drop for this reason
abbrev pub with_drop : Counts → Reason → Counts
with_drop k Full = record k { full = k.full + 1 }
with_drop k Early = record k { early = k.early + 1 }
with_drop k Forced = record k { forced = k.forced + 1 }

-- counts with one more of what is counted
abbrev pub with_one : Counts → Counted → Counts
with_one k (Arrived len raised) =
    record k { arrived = k.arrived + 1; arrived_bytes = k.arrived_bytes + len; raised = k.raised + (if raised then 1 else 0) }
with_one k (Sent len) = record k { sent = k.sent + 1; sent_bytes = k.sent_bytes + len }
with_one k (Dropped reason) = with_drop k reason

-- the counts of each class, where one more is counted of a class
abbrev pub count_at : NameList → (class : ℕ) → Counted → List Counts → List Counts
count_at [] class what ks = ks
count_at (n ∷ ns) class what [] = []
count_at (n ∷ ns) class what (k ∷ ks) = if n.0 == class then with_one k what ∷ ks else k ∷ count_at ns class what ks

-- the counts of each class of what arrived and what was decided
abbrev pub tallied : NameList → List Captured → List Decision → List Counts
tallied names arrived js = map (λ n. counts_of n.0 arrived js) names

-- `counts` are those counts, and the numbers of the classes rise
pub record HasCounted (names : NameList) (arrived : List Captured) (js : List Decision) (counts : List Counts) : Type 0 where
  pub names_are : AreNames names
  pub counts_are : counts ≡ tallied names arrived js

-- there is one for each class, and none of their numbers is above 2^41
pub record AreCountable (names : NameList) (counts : List Counts) : Type 0 where
  pub each : length counts ≡ length names
  pub bound : All IsCountable counts
