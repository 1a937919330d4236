-- A CONFIGURATION IS ACCEPTED EXACTLY WHERE ITS STATEMENTS ARE IN THE GRAMMAR OF THE TREE.
use Rattle.std.specs.Prelude.{◌≡◌, List, [], ◌∷◌, Some, Ok}
use Rattle.conf_lines.specs.declared.statement.Statement.{Statement}
use Rattle.conf_tree.specs.declared.interface.Interface.{Interface}
use Rattle.conf_tree.specs.Reading.{reading}
use Rattle.conf_tree_grammar.specs.Grammar.{IsTree}
use Rattle.conf_tree_grammar.specs.Sayings.{Saying, saying}

-- each statement says this
abbrev pub Say : List Statement → List Saying → Type 0
Say [] [] = Unit {0}
Say [] (y ∷ sayings) = ⊥
Say (s ∷ statements) [] = ⊥
Say (s ∷ statements) (y ∷ sayings) = (saying s ≡ Some y) × Say statements sayings

-- statements that are accepted say a tree, and those that say one are accepted
pub record Accepted (statements : List Statement) : Type 0 where
  pub sayings : List Saying
  pub said : Say statements sayings
  pub tree : IsTree sayings

abbrev pub AcceptedIsTree : Type 0
AcceptedIsTree = (statements : List Statement) (interfaces : List Interface) → reading statements ≡ Ok interfaces → Accepted statements

abbrev pub TreeIsAccepted : Type 0
TreeIsAccepted = (statements : List Statement) → Accepted statements → (interfaces : List Interface) × (reading statements ≡ Ok interfaces)
