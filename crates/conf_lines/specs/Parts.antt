-- The parts that a statement has in a fixed order, as one table. See altq.conf(5).
use Rattle.std.specs.Prelude.{ℕ, ◌&&◌, Bool, true, false, List, [], ◌∷◌, if◌then◌else◌}
use Rattle.conf_lines.specs.declared.options.Key.TheVariants as key
use Rattle.conf_lines.specs.declared.part.Part.{Part}
use Rattle.conf_lines.specs.declared.part.Part.TheVariants.{Must, Either, May, Behind}
use Rattle.conf_lines.specs.declared.part.Slot.TheVariants.{Name, Parent, Address, Address6, Port, Protocol, Af}
use Rattle.conf_lines.specs.declared.statement.Form.{Form}
use Rattle.conf_lines.specs.declared.statement.Form.TheVariants as form
use Rattle.conf_lines.specs.Options.{word_of_key}
use Rattle.conf_lines.specs.Slots.{is_text}

-- THE TABLE: each statement has the NAME of its interface first. A part is a slot, which one word fills, `Either` of two options, one
-- of which must stand there, or an option, which may; an option `Behind` another part may stand only where that part does and is not
-- the address `0`.
abbrev pub behind_interface : Form → List Part
behind_interface form.ClassHfsc = Must Name ∷ Must Parent ∷ []
behind_interface form.ClassCbq = Must Name ∷ Must Parent ∷ []
behind_interface form.Filter =
    Must Name ∷ May key.Name ∷ May key.Ruleno ∷ Must Address ∷ Behind key.Netmask ∷ Must Port ∷ Must Address ∷ Behind key.Netmask ∷ Must Port
    ∷ Must Protocol ∷ May key.Tos ∷ Behind key.Tosmask ∷ []
behind_interface form.Filter6 =
    Must Name ∷ May key.Name ∷ May key.Ruleno ∷ Must Address6 ∷ Must Port ∷ Must Address6 ∷ Must Port
    ∷ Must Protocol ∷ May key.Tclass ∷ Behind key.Tclassmask ∷ []
behind_interface form.Conditioner = Must Name ∷ Either key.Srtcm key.Trtcm ∷ Must Af ∷ []
behind_interface _ = []

abbrev pub parts_of : Form → List Part
parts_of form = Must Name ∷ behind_interface form

-- a word is read as this part; `stands` says that the part before stands and is not the address `0`
abbrev pub takes : Bool → Part → List ℕ → Bool
takes stands (Must slot) word = true
takes stands (Either first second) word = true
takes stands (May key) word = is_text (word_of_key key) word
takes stands (Behind key) word = stands && is_text (word_of_key key) word

-- the parts from the one on that a word is read as: options with other words are past
abbrev pub reach : Bool → List Part → List ℕ → List Part
reach stands [] word = []
reach stands (part ∷ parts) word = if takes stands part word then part ∷ parts else reach false parts word

-- a statement may end where options alone are left
abbrev pub may_end : List Part → Bool
may_end [] = true
may_end (Must slot ∷ parts) = false
may_end (Either first second ∷ parts) = false
may_end (part ∷ parts) = may_end parts
