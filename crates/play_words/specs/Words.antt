-- The words behind the program's name: a command, `play`, `check`, `make`, `verify`, `shares`, `chain`, `condition` or `bound`, and its
-- options, as clap reads them.
use Rattle.std.specs.Prelude.{◌≡◌, ◌≢◌, ◌&&◌, ℕ, Bool, true, nat_le, not, is_none, List, [], ◌∷◌, map, slice_get, string_bytes, codes, if◌then◌else◌, None, Some}
use Rattle.std.specs.List.{list_any}
use Rattle.std.specs.Option.{option_map_or}
use Rattle.std.specs.Str.{bytes_eq}
use Rattle.std.specs.declared.option.Option.{Option}
use Rattle.clap.specs.Words.{Row}
use Rattle.line_text.specs.Numbers.{number}
use Rattle.play_words.specs.Options.{chain_app, check_app, make_app, options_of, options_refusal, play_app, takes_options, value_of, verify_app, condition_app, bound_app}
pub use Rattle.play_words.specs.Options.{Arguments}

-- a word, or no text where there are fewer
abbrev pub word_at : Arguments → ℕ → List ℕ
word_at words i = option_map_or string_bytes (slice_get words i) []

abbrev pub is_word : Arguments → ℕ → List ℕ → Bool
is_word words i text = bytes_eq (word_at words i) text

-- the command that the first word names
pub data Named : Type 0 where
  Play : Named
  Check : Named
  Make : Named
  Verify : Named
  Shares : Named
  Chain : Named
  Condition : Named
  Bound : Named
  NoCommand : Named

abbrev pub named : Arguments → Named
named words =
    if is_word words 0 (codes "play") then Play
    else if is_word words 0 (codes "check") then Check
    else if is_word words 0 (codes "make") then Make
    else if is_word words 0 (codes "verify") then Verify
    else if is_word words 0 (codes "shares") then Shares
    else if is_word words 0 (codes "chain") then Chain
    else if is_word words 0 (codes "condition") then Condition
    else if is_word words 0 (codes "bound") then Bound
    else NoCommand

abbrev pub IsPlay : Arguments → Type 0
IsPlay words = named words ≡ Play

abbrev pub IsCheck : Arguments → Type 0
IsCheck words = named words ≡ Check

abbrev pub IsMake : Arguments → Type 0
IsMake words = named words ≡ Make

abbrev pub IsVerify : Arguments → Type 0
IsVerify words = named words ≡ Verify

abbrev pub IsShares : Arguments → Type 0
IsShares words = named words ≡ Shares

abbrev pub IsChain : Arguments → Type 0
IsChain words = named words ≡ Chain

abbrev pub IsCondition : Arguments → Type 0
IsCondition words = named words ≡ Condition

abbrev pub IsBound : Arguments → Type 0
IsBound words = named words ≡ Bound

-- the options that are read of the words behind the command; `shares` takes those of `play`
abbrev pub options_by : Named → Arguments → List Row
options_by Play words = options_of play_app words
options_by Check words = options_of check_app words
options_by Make words = options_of make_app words
options_by Verify words = options_of verify_app words
options_by Shares words = options_of play_app words
options_by Chain words = options_of chain_app words
options_by Condition words = options_of condition_app words
options_by Bound words = options_of bound_app words
options_by NoCommand words = []

abbrev pub rows_read : Arguments → List Row
rows_read words = options_by (named words) words

-- the options are read as those of `play`
abbrev pub TakesPlayed : Arguments → Type 0
TakesPlayed words = rows_read words ≡ options_of play_app words

abbrev pub option_of : List ℕ → Arguments → List ℕ
option_of name words = value_of name (rows_read words)

abbrev pub config_name : Arguments → List ℕ
config_name = option_of (codes "config")

abbrev pub interface_name : Arguments → List ℕ
interface_name = option_of (codes "interface")

abbrev pub arrivals_name : Arguments → List ℕ
arrivals_name = option_of (codes "arrivals")

abbrev pub departures_name : Arguments → List ℕ
departures_name = option_of (codes "departures")

abbrev pub fates_name : Arguments → List ℕ
fates_name = option_of (codes "fates")

abbrev pub stats_name : Arguments → List ℕ
stats_name = option_of (codes "stats")

abbrev pub marked_name : Arguments → List ℕ
marked_name = option_of (codes "marked")

-- the seed: one or more decimal digits and nothing else, below 2^64
abbrev pub seed_in : List Row → Option ℕ
seed_in rows = number 10 (value_of (codes "seed") rows)

abbrev pub seed_of : Arguments → Option ℕ
seed_of words = seed_in (rows_read words)

-- the count of packets to make: such digits, 1 to 1,000,000
abbrev pub most_packets : ℕ
most_packets = 1000000

abbrev pub number_to : (most : ℕ) → Option ℕ → Option ℕ
number_to most None = None
number_to most (Some n) = if nat_le 1 n && nat_le n most then Some n else None

abbrev pub count_in : Option ℕ → Option ℕ
count_in = number_to most_packets

abbrev pub count_of : Arguments → Option ℕ
count_of words = count_in (number 10 (option_of (codes "count") words))

-- the bytes of the longest packet, 1 to 2^18, and of a burst, 1 to 2^30
abbrev pub longest_of : Arguments → Option ℕ
longest_of words = number_to 262144 (number 10 (option_of (codes "longest") words))

abbrev pub burst_of : Arguments → Option ℕ
burst_of words = number_to 1073741824 (number 10 (option_of (codes "burst") words))

abbrev pub differ : List ℕ → List ℕ → Bool
differ a b = not (bytes_eq a b)

-- no two file names are equal as texts
abbrev pub differ_from : List ℕ → List ℕ → List ℕ → List ℕ → Bool
differ_from a b c d = differ a b && (differ a c && differ a d)

abbrev pub are_distinct_names : (config arrivals departures fates stats : List ℕ) → Bool
are_distinct_names config arrivals departures fates stats =
    differ config arrivals && (differ_from config departures fates stats && (differ_from arrivals departures fates stats
    && (differ departures fates && (differ departures stats && differ fates stats))))

abbrev pub are_distinct_in : List Row → Bool
are_distinct_in rows =
    are_distinct_names (value_of (codes "config") rows) (value_of (codes "arrivals") rows) (value_of (codes "departures") rows)
    (value_of (codes "fates") rows) (value_of (codes "stats") rows)

-- what is wrong with options that were read: a bad seed (4), or two names equal (3)
abbrev pub rows_refusal : List Row → Option ℕ
rows_refusal rows =
    if is_none (seed_in rows) then Some 4
    else if not (are_distinct_in rows) then Some 3
    else None

-- the kind of the first test that the words fail: no such command (1), options (2), a bad number (4), two names equal (3); None where
-- they are accepted
abbrev pub play_refusal : Arguments → Option ℕ
play_refusal words = if not (takes_options play_app words) then Some 2 else rows_refusal (rows_read words)

abbrev pub make_refusal : Arguments → Option ℕ
make_refusal words =
    if not (takes_options make_app words) then Some 2
    else if is_none (count_of words) then Some 4
    else rows_refusal (rows_read words)

abbrev pub check_refusal : Arguments → Option ℕ
check_refusal = options_refusal check_app

-- no two names of files that are checked are equal as texts
abbrev pub are_distinct_inputs : (config arrivals departures fates : List ℕ) → Bool
are_distinct_inputs config arrivals departures fates =
    differ_from config arrivals departures fates && (differ arrivals departures && (differ arrivals fates && differ departures fates))

abbrev pub inputs_refusal : List Row → Option ℕ
inputs_refusal rows =
    if not (are_distinct_inputs (value_of (codes "config") rows) (value_of (codes "arrivals") rows) (value_of (codes "departures") rows)
    (value_of (codes "fates") rows)) then Some 3
    else None

abbrev pub verify_refusal : Arguments → Option ℕ
verify_refusal words = if not (takes_options verify_app words) then Some 2 else inputs_refusal (rows_read words)

-- no two of these texts are equal
abbrev pub are_all_distinct : List (List ℕ) → Bool
are_all_distinct [] = true
are_all_distinct (x ∷ others) = not (list_any (λ y. bytes_eq y x) others) && are_all_distinct others

-- the options of `chain` that name files
abbrev pub chain_files : List (List ℕ)
chain_files =
    codes "config" ∷ codes "arrivals" ∷ codes "departures" ∷ codes "fates" ∷ codes "stats"
    ∷ codes "departures2" ∷ codes "fates2" ∷ codes "stats2" ∷ codes "path" ∷ []

abbrev pub links_refusal : List Row → Option ℕ
links_refusal rows =
    if is_none (seed_in rows) then Some 4
    else if not (are_all_distinct (map (λ name. value_of name rows) chain_files)) then Some 3
    else None

abbrev pub chain_refusal : Arguments → Option ℕ
chain_refusal words = if not (takes_options chain_app words) then Some 2 else links_refusal (rows_read words)

-- no two names of files of a marking are equal as texts
abbrev pub are_distinct_marks : (config arrivals marked : List ℕ) → Bool
are_distinct_marks config arrivals marked = differ config arrivals && (differ config marked && differ arrivals marked)

abbrev pub marking_refusal : List Row → Option ℕ
marking_refusal rows =
    if not (are_distinct_marks (value_of (codes "config") rows) (value_of (codes "arrivals") rows) (value_of (codes "marked") rows)) then Some 3
    else None

abbrev pub condition_refusal : Arguments → Option ℕ
condition_refusal words = if not (takes_options condition_app words) then Some 2 else marking_refusal (rows_read words)

abbrev pub bound_refusal : Arguments → Option ℕ
bound_refusal words =
    if not (takes_options bound_app words) then Some 2
    else if is_none (longest_of words) then Some 4
    else if is_none (burst_of words) then Some 4
    else None

abbrev pub refusal_by : Named → Arguments → Option ℕ
refusal_by Play words = play_refusal words
refusal_by Check words = check_refusal words
refusal_by Make words = make_refusal words
refusal_by Verify words = verify_refusal words
refusal_by Shares words = play_refusal words
refusal_by Chain words = chain_refusal words
refusal_by Condition words = condition_refusal words
refusal_by Bound words = bound_refusal words
refusal_by NoCommand words = Some 1

abbrev pub refusal : Arguments → Option ℕ
refusal words = refusal_by (named words) words

-- the same in facts
pub record AreDistinct (config arrivals departures fates stats : List ℕ) : Type 0 where
  pub config_arrivals : config ≢ arrivals
  pub config_departures : config ≢ departures
  pub config_fates : config ≢ fates
  pub config_stats : config ≢ stats
  pub arrivals_departures : arrivals ≢ departures
  pub arrivals_fates : arrivals ≢ fates
  pub arrivals_stats : arrivals ≢ stats
  pub departures_fates : departures ≢ fates
  pub departures_stats : departures ≢ stats
  pub fates_stats : fates ≢ stats

pub record AreDistinctInputs (config arrivals departures fates : List ℕ) : Type 0 where
  pub config_arrivals : config ≢ arrivals
  pub config_departures : config ≢ departures
  pub config_fates : config ≢ fates
  pub arrivals_departures : arrivals ≢ departures
  pub arrivals_fates : arrivals ≢ fates
  pub departures_fates : departures ≢ fates

abbrev pub DiffersFrom : List ℕ → List (List ℕ) → Type 0
DiffersFrom x [] = Unit {0}
DiffersFrom x (y ∷ others) = (x ≢ y) × DiffersFrom x others

abbrev pub AreAllDistinct : List (List ℕ) → Type 0
AreAllDistinct [] = Unit {0}
AreAllDistinct (x ∷ others) = DiffersFrom x others × AreAllDistinct others

pub record AreDistinctMarks (config arrivals marked : List ℕ) : Type 0 where
  pub config_arrivals : config ≢ arrivals
  pub config_marked : config ≢ marked
  pub arrivals_marked : arrivals ≢ marked
