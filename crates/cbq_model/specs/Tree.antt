-- The tree of the classes. Exactly the first class has no parent: it is the root. Every other parent stands earlier in the file.
use Rattle.std.specs.Prelude.{◌==◌, ◌+◌, ◌*◌, ℕ, zero, suc, max, Bool, false, is_none, List, [], ◌∷◌, get_or, Option, None, Some, if◌then◌else◌}
use Rattle.std.specs.List.{list_any}
use Rattle.play_base.specs.Units.{ceil_div}
use Rattle.cbq_estimator.specs.Average.{Pace, cap_of}
use Rattle.cbq_model.specs.declared.CbqClass.{CbqClass}

abbrev pub no_class : CbqClass
no_class = record { parent = None; rate = 0; priority = 0; borrow = false; maxburst = 0; packetsize = 0 }

abbrev pub class_of : List CbqClass → ℕ → CbqClass
class_of cs c = get_or cs c no_class

-- f of the number and of the class itself, for each of a list whose first class has the number c
abbrev pub each_from : {X : Type 0} → (ℕ → CbqClass → X) → (c : ℕ) → List CbqClass → List X
each_from f c [] = []
each_from f c (k ∷ ks) = f c k ∷ each_from f (c + 1) ks

abbrev pub each : {X : Type 0} → (ℕ → CbqClass → X) → List CbqClass → List X
each f cs = each_from f 0 cs

-- the numbers of the classes
abbrev pub numbers : List CbqClass → List ℕ
numbers cs = each (λ c k. c) cs

abbrev pub is_root : List CbqClass → ℕ → Bool
is_root cs c = is_none (class_of cs c).parent

-- a class, its parent and so on up to the root, over at most `levels` levels
abbrev pub path_up : (levels : ℕ) → List CbqClass → Option ℕ → List ℕ
path_up zero cs o = []
path_up (suc levels) cs None = []
path_up (suc levels) cs (Some c) = c ∷ path_up levels cs (class_of cs c).parent

-- a tree has at most 8 levels
abbrev pub path : List CbqClass → ℕ → List ℕ
path cs c = path_up 8 cs (Some c)

-- d is c or stands below it
abbrev pub is_under : List CbqClass → (c d : ℕ) → Bool
is_under cs c d = list_any (λ x. x == c) (path cs d)

-- whom a class may ask for a loan: its parent, where it is marked to borrow
abbrev pub lender_of : CbqClass → Option ℕ
lender_of k = if k.borrow then k.parent else None

abbrev pub lenders_up : (levels : ℕ) → List CbqClass → Option ℕ → List ℕ
lenders_up zero cs o = []
lenders_up (suc levels) cs None = []
lenders_up (suc levels) cs (Some p) = p ∷ lenders_up levels cs (lender_of (class_of cs p))

-- the classes that may lend to a class, the nearest first: its parent, where it is marked to borrow, and those that may lend to that
abbrev pub lenders : List CbqClass → ℕ → List ℕ
lenders cs c = lenders_up 8 cs (lender_of (class_of cs c))

-- a class's rate and the greatest value of its average
abbrev pub pace_of : CbqClass → Pace
pace_of k = record { rate = k.rate; cap = cap_of k.rate k.maxburst k.packetsize }

-- what a class gains in a round, in bytes: its part of 1,500 of them, rounded up
abbrev pub quantum_of : (rate : ℕ) → CbqClass → ℕ
quantum_of rate k = max 1 (ceil_div (1500 * k.rate) rate)
