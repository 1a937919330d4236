-- How a run ends: by the refusal of its words, and then by the command that they name.
use Rattle.std.specs.Prelude.{◌≡◌, ◌≢◌, ◌≤◌, ℕ, List, [], Option, None, Some, Result, Ok, Err, IsSomeAnd}
use Rattle.file_plans.specs.Plan.{Place}
use Rattle.memory_files.specs.declared.steady.SteadyFiles.{SteadyFiles}
use Rattle.memory_files.specs.Steady.{steady_view}
use Rattle.play_base.specs.View.{View}
use Rattle.play_words.specs.declared.words.Command.{Command}
use Rattle.play_words.specs.declared.words.Command.TheVariants as asks
use Rattle.play_words.specs.declared.words.Unread.{Unread}
use Rattle.play_words.specs.declared.words.Unread.TheVariants as why
use Rattle.play_words.specs.Read.{files_of}
use Rattle.play_words.specs.Words.{AreAllDistinct, AreDistinct, AreDistinctMarks, Arguments, Bound, Chain, Check, Condition, Make, Named, NoCommand, Play, Shares, Verify, burst_of, config_name, count_of, interface_name, longest_of, most_packets, named, refusal, seed_of}
use Rattle.run_outcomes.specs.Outcome.{Outcome}
use Rattle.run_outcomes.specs.Truth.{TellsTruly}
use Rattle.run_outcomes.specs.declared.outcome.Failure.{Failure}
use Rattle.run_outcomes.specs.declared.outcome.Failure.TheVariants as failure
use Rattle.run_outcomes.specs.declared.status.Status.{Status}
use Rattle.command_form.specs.Ends.{IsRefused}
use Rattle.command_form.specs.Names.{given_names, given_names_read, links_of, links_read, mark_names, mark_names_read, names_of, names_read}
use Rattle.command_form.specs.Plans.{chain_plan, check_plan, condition_plan, make_plan, play_plan, verify_plan}
use Rattle.bound_command.specs.Bounding.{BoundEnds}
use Rattle.chain_command.specs.Chaining.{ChainEnds}
use Rattle.check_command.specs.Checking.{CheckEnds}
use Rattle.condition_command.specs.Conditioning.{ConditionEnds}
use Rattle.make_command.specs.Ending.{MakeEnds}
use Rattle.play_command.specs.Ending.{PlayEnds}
use Rattle.shares_command.specs.Ending.{SharesEnds}
use Rattle.verify_command.specs.Verifying.{VerifyEnds}

-- the plan of the words of a command line
abbrev pub plan_by : Named → Arguments → List Place
plan_by Play words = play_plan (names_of words)
plan_by Shares words = play_plan (names_of words)
plan_by Check words = check_plan (config_name words)
plan_by Bound words = check_plan (config_name words)
plan_by Make words = make_plan (names_of words)
plan_by Verify words = verify_plan (given_names words)
plan_by Chain words = chain_plan (links_of words)
plan_by Condition words = condition_plan (mark_names words)
plan_by NoCommand words = []

abbrev pub plan_as : Option ℕ → Arguments → List Place
plan_as (Some kind) words = []
plan_as None words = plan_by (named words) words

abbrev pub plan_of : Arguments → List Place
plan_of words = plan_as (refusal words) words

abbrev pub EndsBy : Named → View → View → Arguments → Outcome → Type 0
EndsBy Play old new words o = IsSomeAnd (seed_of words) (λ seed. PlayEnds old new (names_of words) seed o)
EndsBy Shares old new words o = IsSomeAnd (seed_of words) (λ seed. SharesEnds old new (names_of words) seed o)
EndsBy Check old new words o = CheckEnds old new (config_name words) (interface_name words) o
EndsBy Bound old new words o =
    IsSomeAnd (longest_of words) (λ longest. IsSomeAnd (burst_of words)
    (λ burst. BoundEnds old new (config_name words) (interface_name words) (record { longest = longest; burst = burst }) o))
EndsBy Make old new words o =
    IsSomeAnd (seed_of words) (λ seed. IsSomeAnd (count_of words) (λ count. MakeEnds old new (names_of words) seed count o))
EndsBy Verify old new words o = VerifyEnds old new (given_names words) o
EndsBy Chain old new words o = IsSomeAnd (seed_of words) (λ seed. ChainEnds old new (links_of words) seed o)
EndsBy Condition old new words o = ConditionEnds old new (mark_names words) o
EndsBy NoCommand old new words o = ⊥

abbrev pub EndsAs : Option ℕ → View → View → Arguments → Outcome → Type 0
EndsAs (Some kind) old new words o = IsRefused kind old new o
EndsAs None old new words o = EndsBy (named words) old new words o

-- HOW A RUN ENDS
abbrev pub RunEnds : View → Arguments → View → Outcome → Type 0
RunEnds old words new o = EndsAs (refusal words) old new words o

-- the same of the words as they were read
abbrev pub EndsRead : View → View → Command → Outcome → Type 0
EndsRead old new (asks.Play w) o = PlayEnds old new (names_read w) w.seed o
EndsRead old new (asks.Shares w) o = SharesEnds old new (names_read w) w.seed o
EndsRead old new (asks.Check w) o = CheckEnds old new w.config.now w.interface.now o
EndsRead old new (asks.Bound w) o = BoundEnds old new w.config.now w.interface.now (record { longest = w.longest; burst = w.burst }) o
EndsRead old new (asks.Make w) o = MakeEnds old new (names_read w.play) w.play.seed w.count o
EndsRead old new (asks.Verify w) o = VerifyEnds old new (given_names_read w) o
EndsRead old new (asks.Chain w) o = ChainEnds old new (links_read w) w.play.seed o
EndsRead old new (asks.Condition w) o = ConditionEnds old new (mark_names_read w) o

abbrev pub Follows : View → View → Result Command Unread → Outcome → Type 0
Follows old new (Ok command) o = EndsRead old new command o
Follows old new (Err (why.Refused fault)) o = (o ≡ Err (failure.Words fault)) × (new ≡ old)
Follows old new (Err why.NoMemory) o = (o ≡ Err failure.NoMemory) × (new ≡ old)

-- what a command asks of its words
abbrev pub AreFit : Command → Type 0
AreFit (asks.Play w) = AreDistinct w.config.now w.arrivals.now w.departures.now w.fates.now w.stats.now
AreFit (asks.Shares w) = AreDistinct w.config.now w.arrivals.now w.departures.now w.fates.now w.stats.now
AreFit (asks.Check w) = Unit {0}
AreFit (asks.Bound w) = Unit {0}
AreFit (asks.Make w) = AreDistinct w.play.config.now w.play.arrivals.now w.play.departures.now w.play.fates.now w.play.stats.now × (w.count ≤ most_packets)
AreFit (asks.Verify w) = Unit {0}
AreFit (asks.Chain w) = AreAllDistinct (files_of w)
AreFit (asks.Condition w) = AreDistinctMarks w.config.now w.arrivals.now w.marked.now

-- over files that never fail and have every name, no fault of reading or writing is told
abbrev pub SteadyRunsMeetNoFault : Type 0
SteadyRunsMeetNoFault = (plan : List Place) (old new : SteadyFiles) (s : Status) → TellsTruly plan (steady_view old) (steady_view new) s
    → (s.code ≢ 5) × (s.code ≢ 6)

-- a run may end as want of memory where it ends as any failure
abbrev pub MayEndAsMemory : Type 0
MayEndAsMemory = (old new : View) (words : Arguments) (f : Failure) → RunEnds old words new (Err f) → RunEnds old words new (Err failure.NoMemory)
