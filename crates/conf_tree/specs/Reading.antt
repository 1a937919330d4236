-- The reading of a list of statements: each goes on from the interfaces that stand before it, or has the first fault.
use Rattle.std.specs.Prelude.{◌≡◌, ℕ, List, [], ◌∷◌, Result, Ok, Err}
use Rattle.conf_lines.specs.declared.fault.ConfPlace.{ConfPlace}
use Rattle.conf_lines.specs.declared.statement.Form.{Form}
use Rattle.conf_lines.specs.declared.statement.Form.TheVariants as form
use Rattle.conf_lines.specs.declared.statement.Statement.{Statement}
use Rattle.conf_lines.specs.Texts.{statements_of}
use Rattle.conf_tree.specs.declared.interface.Interface.{Interface}
use Rattle.conf_tree.specs.declared.interface.Kind.TheVariants.{Hfsc, Cbq}
use Rattle.conf_tree.specs.Classes.{read_class}
use Rattle.conf_tree.specs.Conditioners.{read_conditioner}
use Rattle.conf_tree.specs.FilterStatements.{read_filter}
use Rattle.conf_tree.specs.Interfaces.{read_interface}
use Rattle.conf_tree.specs.Places.{own_fault}
use Rattle.conf_tree.specs.Tree.{Begun}
use Rattle.conf_tree.specs.Whole.{finished}

-- a statement
abbrev pub read_form : Form → List Begun → Statement → Result (List Begun) ConfPlace
read_form form.Interface before s = read_interface before s
read_form form.ClassHfsc before s = read_class before Hfsc s
read_form form.ClassCbq before s = read_class before Cbq s
read_form form.Filter before s = read_filter before s
read_form form.Filter6 before s = read_filter before s
read_form form.Conditioner before s = read_conditioner before s
read_form form.Unread before s = Err (own_fault s)

abbrev pub read_statement : List Begun → Statement → Result (List Begun) ConfPlace
read_statement before s = read_form s.form before s

-- all of them, and then the end of the text
abbrev pub reading_from : List Begun → List Statement → Result (List Interface) ConfPlace
reading_from before [] = finished before
reading_from before (s ∷ statements) =
    elim (read_statement before s) [ Ok after ↦ reading_from after statements | Err fault ↦ Err fault ]

abbrev pub reading : List Statement → Result (List Interface) ConfPlace
reading statements = reading_from [] statements

-- the interfaces of a text, and its first fault: a text has one of them
abbrev pub IsConfiguration : List ℕ → List Interface → Type 0
IsConfiguration text interfaces = reading (statements_of text) ≡ Ok interfaces

abbrev pub HasFirstFault : List ℕ → ConfPlace → Type 0
HasFirstFault text fault = reading (statements_of text) ≡ Err fault
