-- The names of the words, as they stand and as they were read.
use Rattle.std.specs.Prelude.{ℕ, List, codes}
use Rattle.play_words.specs.Words.{Arguments, arrivals_name, config_name, departures_name, fates_name, interface_name, marked_name, option_of, stats_name}
use Rattle.play_words.specs.declared.words.ChainWords.{ChainWords}
use Rattle.play_words.specs.declared.words.ConditionWords.{ConditionWords}
use Rattle.play_words.specs.declared.words.PlayWords.{PlayWords}
use Rattle.play_words.specs.declared.words.VerifyWords.{VerifyWords}

-- of a play
pub record Names : Type 0 where
  pub config : List ℕ
  pub interface : List ℕ
  pub arrivals : List ℕ
  pub departures : List ℕ
  pub fates : List ℕ
  pub stats : List ℕ

abbrev pub names_of : Arguments → Names
names_of words = record {
  config = config_name words;
  interface = interface_name words;
  arrivals = arrivals_name words;
  departures = departures_name words;
  fates = fates_name words;
  stats = stats_name words;
}

abbrev pub names_read : PlayWords → Names
names_read words = record {
  config = words.config.now;
  interface = words.interface.now;
  arrivals = words.arrivals.now;
  departures = words.departures.now;
  fates = words.fates.now;
  stats = words.stats.now;
}

-- of a marking
pub record MarkNames : Type 0 where
  pub config : List ℕ
  pub interface : List ℕ
  pub arrivals : List ℕ
  pub marked : List ℕ

abbrev pub mark_names : Arguments → MarkNames
mark_names words = record {
  config = config_name words;
  interface = interface_name words;
  arrivals = arrivals_name words;
  marked = marked_name words;
}

abbrev pub mark_names_read : ConditionWords → MarkNames
mark_names_read w = record { config = w.config.now; interface = w.interface.now; arrivals = w.arrivals.now; marked = w.marked.now }

-- of files that are given to be verified
pub record GivenNames : Type 0 where
  pub config : List ℕ
  pub interface : List ℕ
  pub arrivals : List ℕ
  pub departures : List ℕ
  pub fates : List ℕ

abbrev pub given_names : Arguments → GivenNames
given_names words = record {
  config = config_name words;
  interface = interface_name words;
  arrivals = arrivals_name words;
  departures = departures_name words;
  fates = fates_name words;
}

abbrev pub given_names_read : VerifyWords → GivenNames
given_names_read w = record {
  config = w.config.now;
  interface = w.interface.now;
  arrivals = w.arrivals.now;
  departures = w.departures.now;
  fates = w.fates.now;
}

-- of two links in a row: those of the play on the first; the next interface, the outputs of the play on it, and the paths
pub record Links : Type 0 where
  pub first : Names
  pub next : List ℕ
  pub departures : List ℕ
  pub fates : List ℕ
  pub stats : List ℕ
  pub path : List ℕ

abbrev pub links_of : Arguments → Links
links_of words = record {
  first = names_of words;
  next = option_of (codes "next") words;
  departures = option_of (codes "departures2") words;
  fates = option_of (codes "fates2") words;
  stats = option_of (codes "stats2") words;
  path = option_of (codes "path") words;
}

abbrev pub links_read : ChainWords → Links
links_read words = record {
  first = names_read words.play;
  next = words.next.now;
  departures = words.departures2.now;
  fates = words.fates2.now;
  stats = words.stats2.now;
  path = words.path.now;
}
