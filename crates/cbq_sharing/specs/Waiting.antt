-- Which classes wait, and with what packets.
use Rattle.std.specs.Prelude.{◌≡◌, ◌≤◌, ℕ, List, [], ◌∷◌}
use Rattle.leaf_queue.specs.declared.node.Entry.{Entry}
use Rattle.class_sets.specs.Marked.{marked}

-- 1 where a packet waits, else 0
abbrev pub waits : List Entry → ℕ
waits [] = 0
waits (x ∷ xs) = 1

-- marked are exactly the classes in which a packet waits
abbrev pub AreWaiting : List ℕ → (ℕ → List Entry) → Type 0
AreWaiting words lists = (c : ℕ) → marked words c ≡ waits (lists c)

-- every waiting packet is 1 to 262,144 bytes long
abbrev pub AreSized : List Entry → Type 0
AreSized [] = Unit {0}
AreSized (x ∷ xs) = (1 ≤ x.len) × (x.len ≤ 262144) × AreSized xs
