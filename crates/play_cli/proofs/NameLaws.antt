-- The names of the words are those that were read.
use Rattle.std.proofs.Common.{◌≡◌, ◌≤◌, ◌∙◌, ℕ, Bool, true, false, List, Option, None, Some, Ok, Err, ap, refl, sym, subst, arith}
use Rattle.std.specs.Prelude.{◌&&◌, IfOk, IsSomeAnd, Result, codes, if◌then◌else◌, is_none, nat_le, not}
use Rattle.file_plans.specs.Plan.{Place}
use Rattle.line_text.specs.Numbers.{number}
use Rattle.play_base.specs.View.{View}
use Rattle.play_words.specs.Options.{bound_app, chain_app, make_app, play_app, takes_options}
use Rattle.play_words.specs.Read.{Reads, ReadsChain, ReadsCondition, ReadsNames, ReadsVerify}
use Rattle.play_words.specs.Words.{Arguments, Bound, Chain, Check, Condition, Make, Named, NoCommand, Play, Shares, Verify, burst_of, config_name, interface_name, longest_of, count_in, count_of, most_packets, named, option_of, refusal, refusal_by, rows_read, rows_refusal, seed_in, seed_of}
use Rattle.play_words.specs.declared.words.ChainWords.{ChainWords}
use Rattle.play_words.specs.declared.words.Command.{Command}
use Rattle.play_words.specs.declared.words.Command.TheVariants as asks
use Rattle.play_words.specs.declared.words.ConditionWords.{ConditionWords}
use Rattle.play_words.specs.declared.words.PlayWords.{PlayWords}
use Rattle.play_words.specs.declared.words.Unread.{Unread}
use Rattle.play_words.specs.declared.words.VerifyWords.{VerifyWords}
use Rattle.run_outcomes.specs.declared.outcome.Failure.TheVariants as failure
use Rattle.run_outcomes.specs.Outcome.{Outcome}
use Rattle.command_form.specs.Names.{GivenNames, Links, MarkNames, Names, given_names, given_names_read, links_of, links_read, mark_names, mark_names_read, names_of, names_read}
use Rattle.command_form.specs.Plans.{chain_plan, check_plan, condition_plan, make_plan, play_plan, verify_plan}
use Rattle.play_cli.specs.Run.{AreFit, EndsBy, EndsRead, plan_as, plan_by, plan_of}
use Rattle.bound_command.specs.Bounding.{BoundEnds}
use Rattle.chain_command.specs.Chaining.{ChainEnds}
use Rattle.check_command.specs.Checking.{CheckEnds}
use Rattle.condition_command.specs.Conditioning.{ConditionEnds}
use Rattle.make_command.specs.Ending.{MakeEnds}
use Rattle.play_command.specs.Ending.{PlayEnds}
use Rattle.shares_command.specs.Ending.{SharesEnds}
use Rattle.verify_command.specs.Verifying.{VerifyEnds}
use Rattle.bound_command.proofs.BoundLaws.{bound_unread}
use Rattle.chain_command.proofs.TruthLemmas.{chain_unread}
use Rattle.check_command.proofs.CheckLaws.{check_unread}
use Rattle.condition_command.proofs.RunLaws.{condition_unread}
use Rattle.make_command.proofs.MakeLemmas.{make_unread}
use Rattle.play_command.proofs.PlayedLaws.{play_unread}
use Rattle.shares_command.proofs.SharesLemmas.{shares_unread}
use Rattle.verify_command.proofs.EndLemmas.{verify_unread}

names_same : (x y : Names) → x.config ≡ y.config → x.interface ≡ y.interface → x.arrivals ≡ y.arrivals → x.departures ≡ y.departures
    → x.fates ≡ y.fates → x.stats ≡ y.stats → x ≡ y
names_same x y c i a d f s =
    ap {B = Names} (λ (v : List ℕ). record { config = v; interface = x.interface; arrivals = x.arrivals; departures = x.departures; fates = x.fates; stats = x.stats }) c
    ∙ ap {B = Names} (λ (v : List ℕ). record { config = y.config; interface = v; arrivals = x.arrivals; departures = x.departures; fates = x.fates; stats = x.stats }) i
    ∙ ap {B = Names} (λ (v : List ℕ). record { config = y.config; interface = y.interface; arrivals = v; departures = x.departures; fates = x.fates; stats = x.stats }) a
    ∙ ap {B = Names} (λ (v : List ℕ). record { config = y.config; interface = y.interface; arrivals = y.arrivals; departures = v; fates = x.fates; stats = x.stats }) d
    ∙ ap {B = Names} (λ (v : List ℕ). record { config = y.config; interface = y.interface; arrivals = y.arrivals; departures = y.departures; fates = v; stats = x.stats }) f
    ∙ ap {B = Names} (λ (v : List ℕ). record { config = y.config; interface = y.interface; arrivals = y.arrivals; departures = y.departures; fates = y.fates; stats = v }) s

-- the names that were read are those of the words
names_known : (words : Arguments) (w : PlayWords) → ReadsNames (rows_read words) w → names_read w ≡ names_of words
names_known words w r = names_same (names_read w) (names_of words) r.config r.interface r.arrivals r.departures r.fates r.stats

links_same : (x y : Links) → x.first ≡ y.first → x.next ≡ y.next → x.departures ≡ y.departures → x.fates ≡ y.fates → x.stats ≡ y.stats → x.path ≡ y.path
    → x ≡ y
links_same x y n j d f s p =
    ap {B = Links} (λ (v : Names). record { first = v; next = x.next; departures = x.departures; fates = x.fates; stats = x.stats; path = x.path }) n
    ∙ ap {B = Links} (λ (v : List ℕ). record { first = y.first; next = v; departures = x.departures; fates = x.fates; stats = x.stats; path = x.path }) j
    ∙ ap {B = Links} (λ (v : List ℕ). record { first = y.first; next = y.next; departures = v; fates = x.fates; stats = x.stats; path = x.path }) d
    ∙ ap {B = Links} (λ (v : List ℕ). record { first = y.first; next = y.next; departures = y.departures; fates = v; stats = x.stats; path = x.path }) f
    ∙ ap {B = Links} (λ (v : List ℕ). record { first = y.first; next = y.next; departures = y.departures; fates = y.fates; stats = v; path = x.path }) s
    ∙ ap {B = Links} (λ (v : List ℕ). record { first = y.first; next = y.next; departures = y.departures; fates = y.fates; stats = y.stats; path = v }) p

links_known : (words : Arguments) (w : ChainWords) → ReadsChain words w → links_read w ≡ links_of words
links_known words w r =
    links_same (links_read w) (links_of words) (names_known words w.play r.read.names) r.read.next r.read.departures2 r.read.fates2 r.read.stats2 r.read.path

marks_same : (x y : MarkNames) → x.config ≡ y.config → x.interface ≡ y.interface → x.arrivals ≡ y.arrivals → x.marked ≡ y.marked → x ≡ y
marks_same x y c i a m =
    ap {B = MarkNames} (λ (v : List ℕ). record { config = v; interface = x.interface; arrivals = x.arrivals; marked = x.marked }) c
    ∙ ap {B = MarkNames} (λ (v : List ℕ). record { config = y.config; interface = v; arrivals = x.arrivals; marked = x.marked }) i
    ∙ ap {B = MarkNames} (λ (v : List ℕ). record { config = y.config; interface = y.interface; arrivals = v; marked = x.marked }) a
    ∙ ap {B = MarkNames} (λ (v : List ℕ). record { config = y.config; interface = y.interface; arrivals = y.arrivals; marked = v }) m

marks_known : (words : Arguments) (w : ConditionWords) → ReadsCondition words w → mark_names_read w ≡ mark_names words
marks_known words w r = marks_same (mark_names_read w) (mark_names words) r.read.config r.read.interface r.read.arrivals r.read.marked

given_same : (x y : GivenNames) → x.config ≡ y.config → x.interface ≡ y.interface → x.arrivals ≡ y.arrivals → x.departures ≡ y.departures → x.fates ≡ y.fates
    → x ≡ y
given_same x y c i a d f =
    ap {B = GivenNames} (λ (v : List ℕ). record { config = v; interface = x.interface; arrivals = x.arrivals; departures = x.departures; fates = x.fates }) c
    ∙ ap {B = GivenNames} (λ (v : List ℕ). record { config = y.config; interface = v; arrivals = x.arrivals; departures = x.departures; fates = x.fates }) i
    ∙ ap {B = GivenNames} (λ (v : List ℕ). record { config = y.config; interface = y.interface; arrivals = v; departures = x.departures; fates = x.fates }) a
    ∙ ap {B = GivenNames} (λ (v : List ℕ). record { config = y.config; interface = y.interface; arrivals = y.arrivals; departures = v; fates = x.fates }) d
    ∙ ap {B = GivenNames} (λ (v : List ℕ). record { config = y.config; interface = y.interface; arrivals = y.arrivals; departures = y.departures; fates = v }) f

given_known : (words : Arguments) (w : VerifyWords) → ReadsVerify words w → given_names_read w ≡ given_names words
given_known words w r =
    given_same (given_names_read w) (given_names words) r.read.config r.read.interface r.read.arrivals r.read.departures r.read.fates

-- at most 1,000,000 packets are made
same_count : (m k : ℕ) → Some m ≡ Some k → m ≡ k
same_count m k e = cc

none_count : (k : ℕ) → None ≡ Some k → ⊥
none_count k e = cc

by_bounds : (a b : Bool) (m k : ℕ) → nat_le m most_packets ≡ b → (if a && b then Some m else None) ≡ Some k → k ≤ most_packets
by_bounds true true m k h e = let same = same_count m k e in grind (arith, h, same)
by_bounds true false m k h e = absurd (none_count k e)
by_bounds false b m k h e = absurd (none_count k e)

within : (o : Option ℕ) (k : ℕ) → count_in o ≡ Some k → k ≤ most_packets
within None k e = absurd (none_count k e)
within (Some m) k e = by_bounds (nat_le 1 m) (nat_le m most_packets) m k refl e

-- words that were read are fit for their command
fit_of : (words : Arguments) (command : Command) → Reads words command → AreFit command
fit_of words (asks.Play w) r = r.read.distinct
fit_of words (asks.Shares w) r = r.read.distinct
fit_of words (asks.Check w) r = tt
fit_of words (asks.Bound w) r = tt
fit_of words (asks.Make w) r = (r.read.distinct, within (number 10 (option_of (codes "count") words)) w.count r.count)
fit_of words (asks.Verify w) r = tt
fit_of words (asks.Chain w) r = r.read.distinct
fit_of words (asks.Condition w) r = r.read.distinct

pub are_fit : (words : Arguments) (read : Result Command Unread) → IfOk read (λ command. Reads words command) → IfOk read AreFit
are_fit words (Ok command) r = fit_of words command r
are_fit words (Err why) r = tt

-- a value that was read is the one of the words
some_and : (o : Option ℕ) (n : ℕ) (P : ℕ → Type 0) → o ≡ Some n → P n → IsSomeAnd o P
some_and o n P e x = subst (λ (z : Option ℕ). IsSomeAnd z P) (sym e) x

-- what holds of words as they were read holds of the words
pub by_words : (u v : View) (words : Arguments) (command : Command) (o : Outcome) → Reads words command → EndsRead u v command o
    → EndsBy (named words) u v words o
by_words u v words (asks.Play w) o r x =
    let P : Names → Type 0 = λ n. PlayEnds u v n w.seed o in
    let N : Named → Type 0 = λ n. EndsBy n u v words o in
    subst N (sym r.command) (some_and (seed_of words) w.seed _ r.read.names.seed (subst P (names_known words w r.read.names) x))
by_words u v words (asks.Shares w) o r x =
    let P : Names → Type 0 = λ n. SharesEnds u v n w.seed o in
    let N : Named → Type 0 = λ n. EndsBy n u v words o in
    subst N (sym r.command) (some_and (seed_of words) w.seed _ r.read.names.seed (subst P (names_known words w r.read.names) x))
by_words u v words (asks.Check w) o r x =
    let P : List ℕ → Type 0 = λ c. CheckEnds u v c w.interface.now o in
    let Q : List ℕ → Type 0 = λ i. CheckEnds u v (config_name words) i o in
    let N : Named → Type 0 = λ n. EndsBy n u v words o in
    subst N (sym r.command) (subst Q r.interface (subst P r.config x))
by_words u v words (asks.Bound w) o r x =
    let P : List ℕ → Type 0 = λ c. BoundEnds u v c w.interface.now (record { longest = w.longest; burst = w.burst }) o in
    let Q : List ℕ → Type 0 = λ i. BoundEnds u v (config_name words) i (record { longest = w.longest; burst = w.burst }) o in
    let N : Named → Type 0 = λ n. EndsBy n u v words o in
    subst N (sym r.command)
    (some_and (longest_of words) w.longest _ r.longest (some_and (burst_of words) w.burst _ r.burst (subst Q r.interface (subst P r.config x))))
by_words u v words (asks.Make w) o r x =
    let P : Names → Type 0 = λ n. MakeEnds u v n w.play.seed w.count o in
    let N : Named → Type 0 = λ n. EndsBy n u v words o in
    subst N (sym r.command)
    (some_and (seed_of words) w.play.seed _ r.read.names.seed (some_and (count_of words) w.count _ r.count (subst P (names_known words w.play r.read.names) x)))
by_words u v words (asks.Verify w) o r x =
    let P : GivenNames → Type 0 = λ n. VerifyEnds u v n o in
    let N : Named → Type 0 = λ n. EndsBy n u v words o in
    subst N (sym r.command) (subst P (given_known words w r) x)
by_words u v words (asks.Chain w) o r x =
    let P : Links → Type 0 = λ n. ChainEnds u v n w.play.seed o in
    let N : Named → Type 0 = λ n. EndsBy n u v words o in
    subst N (sym r.command) (some_and (seed_of words) w.play.seed _ r.read.names.seed (subst P (links_known words w r) x))
by_words u v words (asks.Condition w) o r x =
    let P : MarkNames → Type 0 = λ n. ConditionEnds u v n o in
    let N : Named → Type 0 = λ n. EndsBy n u v words o in
    subst N (sym r.command) (subst P (marks_known words w r) x)

-- the plan of a command as it was read
abbrev pub plan_read : Command → List Place
plan_read (asks.Play w) = play_plan (names_read w)
plan_read (asks.Shares w) = play_plan (names_read w)
plan_read (asks.Check w) = check_plan w.config.now
plan_read (asks.Bound w) = check_plan w.config.now
plan_read (asks.Make w) = make_plan (names_read w.play)
plan_read (asks.Verify w) = verify_plan (given_names_read w)
plan_read (asks.Chain w) = chain_plan (links_read w)
plan_read (asks.Condition w) = condition_plan (mark_names_read w)

plan_named : (words : Arguments) (command : Command) → Reads words command → plan_read command ≡ plan_by (named words) words
plan_named words (asks.Play w) r = ap play_plan (names_known words w r.read.names) ∙ ap (λ (n : Named). plan_by n words) (sym r.command)
plan_named words (asks.Shares w) r = ap play_plan (names_known words w r.read.names) ∙ ap (λ (n : Named). plan_by n words) (sym r.command)
plan_named words (asks.Check w) r = ap check_plan r.config ∙ ap (λ (n : Named). plan_by n words) (sym r.command)
plan_named words (asks.Bound w) r = ap check_plan r.config ∙ ap (λ (n : Named). plan_by n words) (sym r.command)
plan_named words (asks.Make w) r = ap make_plan (names_known words w.play r.read.names) ∙ ap (λ (n : Named). plan_by n words) (sym r.command)
plan_named words (asks.Verify w) r = ap verify_plan (given_known words w r) ∙ ap (λ (n : Named). plan_by n words) (sym r.command)
plan_named words (asks.Chain w) r = ap chain_plan (links_known words w r) ∙ ap (λ (n : Named). plan_by n words) (sym r.command)
plan_named words (asks.Condition w) r = ap condition_plan (marks_known words w r) ∙ ap (λ (n : Named). plan_by n words) (sym r.command)

pub plan_known : (words : Arguments) (command : Command) → refusal words ≡ None → Reads words command → plan_read command ≡ plan_of words
plan_known words command a r = plan_named words command r ∙ ap (λ (o : Option ℕ). plan_as o words) (sym a)

-- words that are accepted have their numbers
some_none : (k : ℕ) → Some k ≡ None → ⊥
some_none k e = cc

accepted_rest : (b : Bool) (k : ℕ) (rest : Option ℕ) → (if b then Some k else rest) ≡ None → (b ≡ false) × (rest ≡ None)
accepted_rest true k rest h = absurd (some_none k h)
accepted_rest false k rest h = (refl, h)

number_there : (o : Option ℕ) (P : ℕ → Type 0) → is_none o ≡ false → ((n : ℕ) → P n) → IsSomeAnd o P
number_there None P h x = absurd (cc)
number_there (Some n) P h x = x n

seed_there : (words : Arguments) (P : ℕ → Type 0) → rows_refusal (rows_read words) ≡ None → ((n : ℕ) → P n) → IsSomeAnd (seed_of words) P
seed_there words P h x = number_there (seed_of words) P (accepted_rest (is_none (seed_in (rows_read words))) 4 _ h).0 x

-- memory ran out before accepted words were read
pub unread_by : (n : Named) (u : View) (words : Arguments) → refusal_by n words ≡ None → EndsBy n u u words (Err failure.NoMemory)
unread_by Play u words h =
    seed_there words _ (accepted_rest (not (takes_options play_app words)) 2 _ h).1 (λ seed. play_unread u (names_of words) seed)
unread_by Shares u words h =
    seed_there words _ (accepted_rest (not (takes_options play_app words)) 2 _ h).1 (λ seed. shares_unread u (names_of words) seed)
unread_by Check u words h = check_unread u (config_name words) (interface_name words)
unread_by Bound u words h =
    let options = accepted_rest (not (takes_options bound_app words)) 2 _ h in
    let longest = accepted_rest (is_none (longest_of words)) 4 _ options.1 in
    let burst = accepted_rest (is_none (burst_of words)) 4 _ longest.1 in
    number_there (longest_of words) _ longest.0
    (λ l. number_there (burst_of words) _ burst.0 (λ b. bound_unread u (config_name words) (interface_name words) (record { longest = l; burst = b })))
unread_by Make u words h =
    let options = accepted_rest (not (takes_options make_app words)) 2 _ h in
    let count = accepted_rest (is_none (count_of words)) 4 _ options.1 in
    seed_there words _ count.1 (λ seed. number_there (count_of words) _ count.0 (λ k. make_unread u (names_of words) seed k))
unread_by Verify u words h = verify_unread u (given_names words)
unread_by Chain u words h =
    let options = accepted_rest (not (takes_options chain_app words)) 2 _ h in
    number_there (seed_of words) _ (accepted_rest (is_none (seed_in (rows_read words))) 4 _ options.1).0 (λ seed. chain_unread u (links_of words) seed)
unread_by Condition u words h = condition_unread u (mark_names words)
unread_by NoCommand u words h = absurd (some_none 1 h)
