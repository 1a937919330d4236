-- A class fits an interface: it has the name of its statement, which no class has, and there is room for it.
use Rattle.std.specs.Prelude.{◌≡◌, ◌<◌, length, Some, None}
use Rattle.conf_lines.specs.declared.statement.Statement.{Statement}
use Rattle.conf_tree.specs.declared.branch.Branch.{Branch}
use Rattle.conf_tree.specs.Items.{name_at}
use Rattle.conf_tree.specs.Tree.{Begun, class_number}

pub record Fits (b : Begun) (s : Statement) (c : Branch) : Type 0 where
  pub named : name_at s.items 1 ≡ Some c.class.name
  pub new : class_number c.class.name b.classes ≡ None
  pub room : length b.classes < 256
