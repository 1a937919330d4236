-- The options of a statement, one after the other: where two set the same thing, the later one holds.
use Rattle.std.specs.Prelude.{ℕ, List, [], ◌∷◌, Option, Some, Result, Ok, Err, unwrap_or}
use Rattle.conf_lines.specs.declared.fault.ConfPlace.{ConfPlace}
use Rattle.conf_lines.specs.declared.item.Item.{Item}
use Rattle.conf_lines.specs.declared.options.Key.{Key}
use Rattle.conf_lines.specs.declared.options.Key.TheVariants as key
use Rattle.conf_lines.specs.declared.item.What.{What}
use Rattle.conf_lines.specs.declared.item.What.TheVariants as what
use Rattle.conf_tree.specs.declared.interface.Kind.{Kind}
use Rattle.conf_tree.specs.declared.interface.Kind.TheVariants.{Hfsc, Cbq}
use Rattle.conf_tree.specs.declared.settings.ReadContext.{ReadContext}
use Rattle.conf_tree.specs.declared.settings.Settings.{Settings}
use Rattle.conf_tree.specs.Items.{number_behind}
use Rattle.conf_tree.specs.Settings.{set_option}

-- class: what one word sets, and what all of them do
abbrev pub set_by_word : ReadContext → Settings → ℕ → What → List Item → Result Settings ConfPlace
set_by_word scope s word (what.Key key) items = set_option scope s word key items
set_by_word scope s word _ items = Ok s

abbrev pub set_options : ReadContext → Settings → List Item → Result Settings ConfPlace
set_options scope s [] = Ok s
set_options scope s (item ∷ items) =
    elim (set_by_word scope s item.word item.what items) [ Ok t ↦ set_options scope t items | Err fault ↦ Err fault ]

-- interface: the bandwidth, of 1,000 to 10^12
abbrev pub rate_by_key : ℕ → Key → List Item → ℕ
rate_by_key rate key.Bandwidth items = unwrap_or (number_behind key.Bandwidth items) rate
rate_by_key rate _ items = rate

abbrev pub rate_by_word : ℕ → What → List Item → ℕ
rate_by_word rate (what.Key key) items = rate_by_key rate key items
rate_by_word rate _ items = rate

abbrev pub rate_by_options : ℕ → List Item → ℕ
rate_by_options rate [] = rate
rate_by_options rate (item ∷ items) = rate_by_options (rate_by_word rate item.what items) items

-- interface: hfsc or cbq
abbrev pub kind_by_key : Option Kind → Key → Option Kind
kind_by_key kind key.Hfsc = Some Hfsc
kind_by_key kind key.Cbq = Some Cbq
kind_by_key kind _ = kind

abbrev pub kind_by_word : Option Kind → What → Option Kind
kind_by_word kind (what.Key key) = kind_by_key kind key
kind_by_word kind _ = kind

abbrev pub kind_by_options : Option Kind → List Item → Option Kind
kind_by_options kind [] = kind
kind_by_options kind (item ∷ items) = kind_by_options (kind_by_word kind item.what) items
