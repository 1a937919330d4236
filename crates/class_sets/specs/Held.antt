-- Classes that are held back, each till a moment of its own.
use Rattle.std.specs.Prelude.{◌≡◌, ◌≤◌, ◌<◌, ◌*◌, ◌/◌, ℕ, List, length, get_or}
use Rattle.class_sets.specs.Marked.{marked}

-- the set of those classes, and of each class the moment till which it is held back if it is in the set
pub record HeldBack : Type 0 where
  pub set : List ℕ
  pub moments : List ℕ

-- no class of the set is held back till an earlier moment than its group of 16, and no group than `until`
pub record AreNoSooner (set moments groups : List ℕ) (until : ℕ) : Type 0 where
  pub each : length moments ≡ 256
  pub each_group : length groups ≡ 16
  pub few : (c : ℕ) → marked set c ≡ 1 → c < 256
  pub no_sooner : (c : ℕ) → marked set c ≡ 1 → get_or groups (c / 16) 0 ≤ get_or moments c 0
  pub least : (k : ℕ) → k < 16 → until ≤ get_or groups k 0

-- of the classes of a group before `from` those whose moment has come are taken out, and `until` is no later than a moment of the others
pub record AreTaken (old set moments : List ℕ) (now group from until : ℕ) : Type 0 where
  pub fewer : (c : ℕ) → marked set c ≡ 1 → marked old c ≡ 1
  pub late : (c : ℕ) → 16 * group ≤ c → c < from → marked set c ≡ 1 → now < get_or moments c 0
  pub stay : (c : ℕ) → marked old c ≡ 1 → now < get_or moments c 0 → marked set c ≡ 1
  pub no_sooner : (c : ℕ) → 16 * group ≤ c → c < from → marked set c ≡ 1 → until ≤ get_or moments c 0

-- so are those of the groups before one
pub record AreWoken (old set moments groups : List ℕ) (now group until : ℕ) : Type 0 where
  pub fewer : (c : ℕ) → marked set c ≡ 1 → marked old c ≡ 1
  pub late : (c : ℕ) → c / 16 < group → marked set c ≡ 1 → now < get_or moments c 0
  pub stay : (c : ℕ) → marked old c ≡ 1 → now < get_or moments c 0 → marked set c ≡ 1
  pub no_sooner : (c : ℕ) → marked set c ≡ 1 → get_or groups (c / 16) 0 ≤ get_or moments c 0
  pub least : (k : ℕ) → k < group → until ≤ get_or groups k 0
