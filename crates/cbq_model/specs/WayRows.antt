-- Situations of the worked examples.
use Rattle.std.specs.Prelude.{ℕ, zero, suc, false, List, [], ◌∷◌, None, Some, replicate}
use Rattle.altq_model.specs.Link.{idle_link}
use Rattle.cbq_model.specs.declared.CbqClass.{CbqClass}
use Rattle.cbq_model.specs.Choice.{Situation}
use Rattle.cbq_model.specs.Rounds.{estimates}
use Rattle.cbq_model.specs.Rows.{root, thirds}

-- a packet of 1,500 bytes in each of the three leaves, with these credits; the ring begins at a class
abbrev pub waiting_thirds : (credits : List ℕ) → (start : ℕ) → Situation
waiting_thirds credits start = record {
  estimates = estimates thirds [];
  heads = None ∷ Some 1500 ∷ Some 1500 ∷ Some 1500 ∷ [];
  credits = credits;
  cursors = start ∷ replicate 7 0;
  link = idle_link;
}

-- a class below the root, one below it and so on, n of them
abbrev pub chain_from : (n parent : ℕ) → List CbqClass
chain_from zero parent = []
chain_from (suc n) parent =
    record { parent = Some parent; rate = 1000; priority = 0; borrow = false; maxburst = 1; packetsize = 1500 } ∷ chain_from n (suc parent)

abbrev pub chain : (below : ℕ) → List CbqClass
chain below = root 8000000 0 ∷ chain_from below 0
