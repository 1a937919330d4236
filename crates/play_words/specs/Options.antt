-- The options of each command, as a command of clap, and what clap's stated reading makes of the words.
use Rattle.std.specs.Prelude.{ℕ, Bool, true, List, [], ◌∷◌, map, string_bytes, codes, if◌then◌else◌, Option, None, Some, String}
use Rattle.std.specs.Option.{unwrap_or}
use Rattle.std.specs.declared.alloc.Global.{Global}
use Rattle.clap.specs.Walk.{is_empty}
use Rattle.clap.specs.Words.{App, Row, Rule, Text, fault_of, first_of, matches_of, new_app, new_rule, with_rule}
use Rattle.clap.specs.declared.builder.action.ArgAction.TheVariants.{Set}
use Rattle.play_words.specs.declared.options.OptionsOf.{OptionsOf}
use Rattle.play_words.specs.declared.options.OptionsOf.TheVariants.{Play, Check, Make, Verify, Chain, Condition, Bound}

abbrev pub Arguments : Type 0
Arguments = List (String Global)

-- `--name VALUE`: it has to be given, with one value
abbrev pub required_option : Text → Rule
required_option name = record (new_rule name) { long = Some name; required = true; action = Some Set }

-- the command with these options more
abbrev pub with_options : App → List Text → App
with_options app [] = app
with_options app (name ∷ names) = with_options (with_rule app (required_option name)) names

unfoldable pub play_app : App
play_app = with_options (new_app (codes "play"))
    (codes "config" ∷ codes "interface" ∷ codes "arrivals" ∷ codes "departures" ∷ codes "fates" ∷ codes "stats" ∷ codes "seed" ∷ [])

unfoldable pub make_app : App
make_app = with_options (new_app (codes "make"))
    (codes "count" ∷ codes "config" ∷ codes "interface" ∷ codes "arrivals" ∷ codes "departures" ∷ codes "fates" ∷ codes "stats" ∷ codes "seed" ∷ [])

unfoldable pub check_app : App
check_app = with_options (new_app (codes "check")) (codes "config" ∷ codes "interface" ∷ [])

unfoldable pub verify_app : App
verify_app = with_options (new_app (codes "verify"))
    (codes "config" ∷ codes "interface" ∷ codes "arrivals" ∷ codes "departures" ∷ codes "fates" ∷ [])

unfoldable pub chain_app : App
chain_app = with_options (new_app (codes "chain"))
    (codes "config" ∷ codes "interface" ∷ codes "arrivals" ∷ codes "departures" ∷ codes "fates" ∷ codes "stats" ∷ codes "seed"
    ∷ codes "next" ∷ codes "departures2" ∷ codes "fates2" ∷ codes "stats2" ∷ codes "path" ∷ [])

unfoldable pub condition_app : App
condition_app = with_options (new_app (codes "condition")) (codes "config" ∷ codes "interface" ∷ codes "arrivals" ∷ codes "marked" ∷ [])

unfoldable pub bound_app : App
bound_app = with_options (new_app (codes "bound")) (codes "config" ∷ codes "interface" ∷ codes "longest" ∷ codes "burst" ∷ [])

-- the command of clap that reads these options
abbrev pub app_by : OptionsOf → App
app_by Play = play_app
app_by Check = check_app
app_by Make = make_app
app_by Verify = verify_app
app_by Chain = chain_app
app_by Condition = condition_app
app_by Bound = bound_app

-- the words as texts; clap takes the first as the program's name, and reads those behind it
abbrev pub texts_of : Arguments → List Text
texts_of words = map string_bytes words

-- clap's reading refuses nothing of the words
abbrev pub takes_options : App → Arguments → Bool
takes_options app words = is_empty (fault_of app (texts_of words))

-- the kind of options that are refused
abbrev pub options_refusal : App → Arguments → Option ℕ
options_refusal app words = if takes_options app words then None else Some 2

-- what clap reads of the words
abbrev pub options_of : App → Arguments → List Row
options_of app words = matches_of app (texts_of words)

-- the value of an option, or no text where it was not read
abbrev pub value_of : Text → List Row → Text
value_of name options = unwrap_or (first_of name options) []
