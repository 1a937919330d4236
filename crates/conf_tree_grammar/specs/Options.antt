-- What the options of a class statement say of the tree. Where two set the same thing, the later one holds.
use Rattle.std.specs.Prelude.{◌≤◌, ◌+◌, ◌||◌, ℕ, Bool, true, false, List, [], ◌∷◌, Option, Some, None, is_some}
use Rattle.conf_lines.specs.declared.item.Item.{Item}
use Rattle.conf_lines.specs.declared.item.What.{What}
use Rattle.conf_lines.specs.declared.item.What.TheVariants as what
use Rattle.conf_lines.specs.declared.options.Key.{Key}
use Rattle.conf_lines.specs.declared.options.Key.TheVariants as key
use Rattle.conf_lines.specs.Options.{most_rate}
use Rattle.conf_tree.specs.Items.{number_behind}
use Rattle.conf_tree.specs.Settings.{curve_behind, percent}

-- how many times `default` stands there
abbrev pub defaults_of_key : Key → ℕ
defaults_of_key key.Default = 1
defaults_of_key _ = 0

abbrev pub defaults_of_word : What → ℕ
defaults_of_word (what.Key key) = defaults_of_key key
defaults_of_word _ = 0

abbrev pub defaults : List Item → ℕ
defaults [] = 0
defaults (item ∷ items) = defaults_of_word item.what + defaults items

-- whether the last of `sc`, `rt` and `grate` is not `sc`: then the real-time curve stays, and the class can have no children
abbrev pub stays_by_key : Bool → Key → Bool
stays_by_key stays key.Sc = false
stays_by_key stays key.Rt = true
stays_by_key stays key.Grate = true
stays_by_key stays _ = stays

abbrev pub stays_by_word : Bool → What → Bool
stays_by_word stays (what.Key key) = stays_by_key stays key
stays_by_word stays _ = stays

abbrev pub stays_after : Bool → List Item → Bool
stays_after stays [] = stays
stays_after stays (item ∷ items) = stays_after (stays_by_word stays item.what) items

abbrev pub real_time_stays : List Item → Bool
real_time_stays items = stays_after false items

-- whether one of them gives a link-sharing curve: `sc`, `ls` or `pshare`
abbrev pub key_shares : Key → List Item → Bool
key_shares key.Sc items = is_some (curve_behind key.Sc items)
key_shares key.Ls items = is_some (curve_behind key.Ls items)
key_shares key.Pshare items = is_some (number_behind key.Pshare items)
key_shares _ items = false

abbrev pub word_shares : What → List Item → Bool
word_shares (what.Key key) items = key_shares key items
word_shares _ items = false

abbrev pub has_share : List Item → Bool
has_share [] = false
has_share (item ∷ items) = word_shares item.what items || has_share items

-- whether one of them gives a rate: `pbandwidth` or `exactbandwidth`
abbrev pub key_rates : Key → List Item → Bool
key_rates key.Pbandwidth items = is_some (number_behind key.Pbandwidth items)
key_rates key.Exactbandwidth items = is_some (number_behind key.Exactbandwidth items)
key_rates _ items = false

abbrev pub word_rates : What → List Item → Bool
word_rates (what.Key key) items = key_rates key items
word_rates _ items = false

abbrev pub has_rate : List Item → Bool
has_rate [] = false
has_rate (item ∷ items) = word_rates item.what items || has_rate items

-- the rate of each `pbandwidth`, a part of the bandwidth in percent, is 1,000 to 10^12
abbrev pub IsRateIfAny : ℕ → Option ℕ → Type 0
IsRateIfAny bandwidth None = Unit {0}
IsRateIfAny bandwidth (Some n) = (1000 ≤ percent bandwidth n) × (percent bandwidth n ≤ most_rate)

abbrev pub IsRateOfKey : ℕ → Key → List Item → Type 0
IsRateOfKey bandwidth key.Pbandwidth items = IsRateIfAny bandwidth (number_behind key.Pbandwidth items)
IsRateOfKey bandwidth _ items = Unit {0}

abbrev pub IsRateOfWord : ℕ → What → List Item → Type 0
IsRateOfWord bandwidth (what.Key key) items = IsRateOfKey bandwidth key items
IsRateOfWord bandwidth _ items = Unit {0}

abbrev pub AreRates : ℕ → List Item → Type 0
AreRates bandwidth [] = Unit {0}
AreRates bandwidth (item ∷ items) = IsRateOfWord bandwidth item.what items × AreRates bandwidth items
