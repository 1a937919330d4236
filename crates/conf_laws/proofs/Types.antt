-- Types of the reading that the crate below keeps to itself, named by what its definitions take.
use Rattle.std.proofs.Common.{[]}
use Rattle.conf_tree.specs.declared.interface.Kind.TheVariants.{Hfsc}
use Rattle.conf_tree.specs.Classes.{rate_given, branch_of}
use Rattle.conf_tree.specs.Options.{set_options}
use Rattle.conf_tree.specs.Settings.{of_kind}
use Rattle.conf_tree.specs.Tree.{begun, class_name, add_conditioner}

-- what a function takes
abbrev takes : {A B : Type 0} → (A → B) → Type 0
takes {A} f = A

-- what the options of a class are read under, and what they set
abbrev pub ReadContext : Type 0
ReadContext = takes set_options

abbrev pub Settings : Type 0
Settings = takes (of_kind Hfsc)

-- where a class stands, its shape, a class as far as the statements say, and what a conditioner gives it
abbrev pub TreePosition : Type 0
TreePosition = takes (rate_given 0)

abbrev pub ClassDraft : Type 0
ClassDraft = takes (branch_of Hfsc [])

abbrev pub Branch : Type 0
Branch = takes class_name

abbrev pub Conditioner : Type 0
Conditioner = takes (add_conditioner (begun 0 [] 0 Hfsc))
