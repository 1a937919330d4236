-- The options of the statements, as one table: the word of each, what stands behind it, and whether a statement has by it
-- what it must have at its end. See altq.conf(5).
use Rattle.std.specs.Prelude.{ℕ, ◌-◌, ◌^◌, Bool, true, false, List, [], ◌∷◌, find, Option, codes}
use Rattle.conf_lines.specs.declared.options.Key.{Key}
use Rattle.conf_lines.specs.declared.options.Key.TheVariants as key
use Rattle.conf_lines.specs.declared.options.Slots.{Slots}
use Rattle.conf_lines.specs.declared.options.Slots.TheVariants.{Nothing, Word, Rate, Whole, Curve, Mask, Single, Two}
use Rattle.conf_lines.specs.declared.statement.Form.{Form}
use Rattle.conf_lines.specs.declared.statement.Form.TheVariants as form
use Rattle.conf_lines.specs.Slots.{is_text}

-- the greatest rate, 10^12 bits per second; the greatest bend of a curve, in milliseconds
abbrev pub most_rate : ℕ
most_rate = 10 ^ 12

abbrev pub most_bend : ℕ
most_bend = 1000000

-- the greatest numbers of a filter
abbrev pub most_ruleno : ℕ
most_ruleno = 2 ^ 32 - 1

abbrev pub most_port : ℕ
most_port = 65535

abbrev pub most_protocol : ℕ
most_protocol = 255

abbrev pub most_tos : ℕ
most_tos = 255

-- the greatest burst of a conditioner, in bytes, and its greatest class of assured forwarding
abbrev pub most_burst : ℕ
most_burst = 2 ^ 30

abbrev pub most_af : ℕ
most_af = 4

-- one option
pub record Row : Type 0 where
  pub word : List ℕ
  pub slots : Slots
  pub completes : Bool

abbrev pub row : List ℕ → Slots → Bool → Row
row word slots completes = record { word = word; slots = slots; completes = completes }

-- THE TABLE: RATE and WHOLE with their least and greatest numbers; a curve, RATE WHOLE RATE, with the least of its first and of
-- its second slope; a meter of one rate, RATE WHOLE WHOLE, and one of two, RATE WHOLE RATE WHOLE
abbrev pub row_of : Key → Row
-- of an interface
row_of key.Bandwidth = row (codes "bandwidth") (Rate 1000 most_rate) false
row_of key.Tbrsize = row (codes "tbrsize") Word false
row_of key.Hfsc = row (codes "hfsc") Nothing true
row_of key.Cbq = row (codes "cbq") Nothing true
row_of key.Efficient = row (codes "efficient") Nothing false
row_of key.CbqWrr = row (codes "cbq-wrr") Nothing false
-- of a class of HFSC
row_of key.Sc = row (codes "sc") (Curve 0 1) true
row_of key.Rt = row (codes "rt") (Curve 0 0) false
row_of key.Ls = row (codes "ls") (Curve 0 1) true
row_of key.Ul = row (codes "ul") (Curve 1000 1000) false
row_of key.Pshare = row (codes "pshare") (Whole 1 100) true
row_of key.Grate = row (codes "grate") (Rate 0 most_rate) false
-- of a class of CBQ
row_of key.Priority = row (codes "priority") (Whole 0 7) false
row_of key.Pbandwidth = row (codes "pbandwidth") (Whole 0 100) true
row_of key.Exactbandwidth = row (codes "exactbandwidth") (Rate 1000 most_rate) true
row_of key.Borrow = row (codes "borrow") Nothing false
row_of key.Control = row (codes "control") Nothing false
row_of key.Maxburst = row (codes "maxburst") (Whole 1 1000) false
row_of key.Packetsize = row (codes "packetsize") (Whole 1 262144) false
-- of both kinds of classes
row_of key.Qlimit = row (codes "qlimit") (Whole 1 10000) false
row_of key.Red = row (codes "red") Nothing false
row_of key.Ecn = row (codes "ecn") Nothing false
row_of key.Rio = row (codes "rio") Nothing false
row_of key.Cleardscp = row (codes "cleardscp") Nothing false
row_of key.Admission = row (codes "admission") Word false
row_of key.Default = row (codes "default") Nothing false
-- of a filter
row_of key.Name = row (codes "name") Word false
row_of key.Ruleno = row (codes "ruleno") (Whole 0 most_ruleno) false
row_of key.Netmask = row (codes "netmask") Mask false
row_of key.Tos = row (codes "tos") (Whole 0 most_tos) false
row_of key.Tosmask = row (codes "tosmask") (Whole 0 most_tos) false
row_of key.Tclass = row (codes "tclass") (Whole 0 most_tos) false
row_of key.Tclassmask = row (codes "tclassmask") (Whole 0 most_tos) false
-- of a conditioner
row_of key.Srtcm = row (codes "srtcm") Single false
row_of key.Trtcm = row (codes "trtcm") Two false

abbrev pub word_of_key : Key → List ℕ
word_of_key key = (row_of key).word

abbrev pub slots_of : Key → Slots
slots_of key = (row_of key).slots

abbrev pub completes : Key → Bool
completes key = (row_of key).completes

-- the options of a statement, in any order; a filter and a conditioner have their parts in one order
abbrev pub class_options : List Key
class_options = key.Qlimit ∷ key.Red ∷ key.Ecn ∷ key.Rio ∷ key.Cleardscp ∷ key.Admission ∷ key.Default ∷ []

abbrev pub options_of : Form → List Key
options_of form.Interface = key.Bandwidth ∷ key.Tbrsize ∷ key.Hfsc ∷ key.Cbq ∷ key.Efficient ∷ key.CbqWrr ∷ []
options_of form.ClassHfsc = key.Sc ∷ key.Rt ∷ key.Ls ∷ key.Ul ∷ key.Pshare ∷ key.Grate ∷ class_options
options_of form.ClassCbq =
    key.Priority ∷ key.Pbandwidth ∷ key.Exactbandwidth ∷ key.Borrow ∷ key.Control ∷ key.Maxburst ∷ key.Packetsize ∷ class_options
options_of _ = []

-- the option that a word names, of these, and of a statement
abbrev pub one_of : List Key → List ℕ → Option Key
one_of keys word = find (λ key. is_text (word_of_key key) word) keys

abbrev pub option_of : Form → List ℕ → Option Key
option_of form word = one_of (options_of form) word
