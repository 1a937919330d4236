-- What is read of the words.
use Rattle.std.specs.Prelude.{◌≡◌, ℕ, List, [], ◌∷◌, Some, codes}
use Rattle.clap.specs.Words.{Row}
use Rattle.play_words.specs.declared.words.BoundWords.{BoundWords}
use Rattle.play_words.specs.declared.words.ChainWords.{ChainWords}
use Rattle.play_words.specs.declared.words.CheckWords.{CheckWords}
use Rattle.play_words.specs.declared.words.Command.{Command}
use Rattle.play_words.specs.declared.words.Command.TheVariants.{Play, Check, Make, Verify, Shares, Chain, Condition, Bound}
use Rattle.play_words.specs.declared.words.ConditionWords.{ConditionWords}
use Rattle.play_words.specs.declared.words.MakeWords.{MakeWords}
use Rattle.play_words.specs.declared.words.PlayWords.{PlayWords}
use Rattle.play_words.specs.declared.words.VerifyWords.{VerifyWords}
use Rattle.play_words.specs.Options.{value_of}
use Rattle.play_words.specs.Words.{Arguments, IsPlay, IsChain, IsCheck, IsMake, IsShares, IsVerify, AreAllDistinct, AreDistinct, AreDistinctInputs, rows_read, seed_in, count_of, config_name, interface_name, AreDistinctMarks, IsCondition, IsBound, longest_of, burst_of}

-- the names and the seed are those of the options
pub record ReadsNames (rows : List Row) (w : PlayWords) : Type 0 where
  pub config : w.config.now ≡ value_of (codes "config") rows
  pub interface : w.interface.now ≡ value_of (codes "interface") rows
  pub arrivals : w.arrivals.now ≡ value_of (codes "arrivals") rows
  pub departures : w.departures.now ≡ value_of (codes "departures") rows
  pub fates : w.fates.now ≡ value_of (codes "fates") rows
  pub stats : w.stats.now ≡ value_of (codes "stats") rows
  pub seed : seed_in rows ≡ Some w.seed

-- and no two of the file names are equal
pub record ReadsRows (rows : List Row) (w : PlayWords) : Type 0 where
  pub names : ReadsNames rows w
  pub distinct : AreDistinct w.config.now w.arrivals.now w.departures.now w.fates.now w.stats.now

pub record ReadsPlay (words : Arguments) (w : PlayWords) : Type 0 where
  pub command : IsPlay words
  pub read : ReadsRows (rows_read words) w

pub record ReadsShares (words : Arguments) (w : PlayWords) : Type 0 where
  pub command : IsShares words
  pub read : ReadsRows (rows_read words) w

pub record ReadsMake (words : Arguments) (w : MakeWords) : Type 0 where
  pub command : IsMake words
  pub read : ReadsRows (rows_read words) w.play
  pub count : count_of words ≡ Some w.count

pub record ReadsCheck (words : Arguments) (w : CheckWords) : Type 0 where
  pub command : IsCheck words
  pub config : w.config.now ≡ config_name words
  pub interface : w.interface.now ≡ interface_name words

-- the names are those of the options, and no two of the file names are equal
pub record ReadsInputs (rows : List Row) (w : VerifyWords) : Type 0 where
  pub config : w.config.now ≡ value_of (codes "config") rows
  pub interface : w.interface.now ≡ value_of (codes "interface") rows
  pub arrivals : w.arrivals.now ≡ value_of (codes "arrivals") rows
  pub departures : w.departures.now ≡ value_of (codes "departures") rows
  pub fates : w.fates.now ≡ value_of (codes "fates") rows
  pub distinct : AreDistinctInputs w.config.now w.arrivals.now w.departures.now w.fates.now

pub record ReadsVerify (words : Arguments) (w : VerifyWords) : Type 0 where
  pub command : IsVerify words
  pub read : ReadsInputs (rows_read words) w

-- the names of all files of a chain
abbrev pub files_of : ChainWords → List (List ℕ)
files_of w =
    w.play.config.now ∷ w.play.arrivals.now ∷ w.play.departures.now ∷ w.play.fates.now ∷ w.play.stats.now
    ∷ w.departures2.now ∷ w.fates2.now ∷ w.stats2.now ∷ w.path.now ∷ []

-- the names and the seed are those of the options, and no two of the file names are equal
pub record ReadsLinks (rows : List Row) (w : ChainWords) : Type 0 where
  pub names : ReadsNames rows w.play
  pub next : w.next.now ≡ value_of (codes "next") rows
  pub departures2 : w.departures2.now ≡ value_of (codes "departures2") rows
  pub fates2 : w.fates2.now ≡ value_of (codes "fates2") rows
  pub stats2 : w.stats2.now ≡ value_of (codes "stats2") rows
  pub path : w.path.now ≡ value_of (codes "path") rows
  pub distinct : AreAllDistinct (files_of w)

pub record ReadsChain (words : Arguments) (w : ChainWords) : Type 0 where
  pub command : IsChain words
  pub read : ReadsLinks (rows_read words) w

-- the names are those of the options, and no two of the file names are equal
pub record ReadsMarking (rows : List Row) (w : ConditionWords) : Type 0 where
  pub config : w.config.now ≡ value_of (codes "config") rows
  pub interface : w.interface.now ≡ value_of (codes "interface") rows
  pub arrivals : w.arrivals.now ≡ value_of (codes "arrivals") rows
  pub marked : w.marked.now ≡ value_of (codes "marked") rows
  pub distinct : AreDistinctMarks w.config.now w.arrivals.now w.marked.now

pub record ReadsCondition (words : Arguments) (w : ConditionWords) : Type 0 where
  pub command : IsCondition words
  pub read : ReadsMarking (rows_read words) w

pub record ReadsBound (words : Arguments) (w : BoundWords) : Type 0 where
  pub command : IsBound words
  pub config : w.config.now ≡ config_name words
  pub interface : w.interface.now ≡ interface_name words
  pub longest : longest_of words ≡ Some w.longest
  pub burst : burst_of words ≡ Some w.burst

abbrev pub Reads : Arguments → Command → Type 0
Reads words (Play w) = ReadsPlay words w
Reads words (Check w) = ReadsCheck words w
Reads words (Make w) = ReadsMake words w
Reads words (Verify w) = ReadsVerify words w
Reads words (Shares w) = ReadsShares words w
Reads words (Chain w) = ReadsChain words w
Reads words (Condition w) = ReadsCondition words w
Reads words (Bound w) = ReadsBound words w
