-- The options as they are built, and what is read of them.
use Rattle.std.proofs.Common.{◌≡◌, ◌∙◌, ◌⊎◌, ◌&&◌, ◌++◌, ◌+◌, ◌<◌, List, [], ◌∷◌, length, take, get_or, Option, Some, None, Bool, true, false, Result, Ok, Err, IfErr, IfOk, ◌≢◌, refl, sym, ap, ap₂, inl, inr, cond, arith, subst, ℕ}
use Rattle.std.proofs.lemmas.Bool.{ne_eqb}
use Rattle.std.proofs.lemmas.List.{map-append, take_more}
use Rattle.clap.specs.Simple.{is_simple}
use Rattle.clap.specs.Faults.{is_free_app}
use Rattle.std.specs.Prelude.{codes, map, is_none, option_map, unwrap_or}
use Rattle.std.specs.Borrow.{Bor}
use Rattle.clap.specs.Kinds.{FailsBy, IsAmong, Kinds}
use Rattle.clap.specs.Walk.{is_empty}
use Rattle.clap.specs.Words.{AddsArg, App, HasMatchesOf, Row, Text, app_of, built, found_of, is_simple_and_free, kind_of, matches_of, new_app, rows_of, rule_of, with_rule}
use Rattle.clap.specs.declared.error.Error.{Error}
use Rattle.clap.specs.declared.parser.matches.ArgMatches.{ArgMatches}
use Rattle.clap.specs.declared.builder.arg.Arg.{Arg}
use Rattle.clap.specs.declared.builder.command.Command.{Command}
use Rattle.clap.specs.declared.error.kind.ErrorKind.{ErrorKind}
use Rattle.clap.specs.declared.error.kind.ErrorKind.TheVariants.{OutOfMemory}
use Rattle.clap.proofs.OnLiterals.{clap_on_literals}
use Rattle.play_words.specs.declared.words.Unread.{Unread}
use Rattle.play_words.specs.declared.words.Unread.TheVariants.{Refused, NoMemory}
use Rattle.play_words.specs.declared.words.WordsFault.TheVariants.{Options}
use Rattle.play_words.specs.Causes.{Explains, cause_of, is_memory}
use Rattle.play_words.specs.declared.options.OptionsOf.{OptionsOf}
use Rattle.play_words.specs.declared.options.OptionsOf.TheVariants.{Play, Check, Make, Verify, Chain, Condition, Bound}
use Rattle.play_words.specs.Options.{app_by, options_refusal, chain_app, check_app, make_app, play_app, takes_options, required_option, verify_app, with_options, options_of, value_of, condition_app, bound_app}
use Rattle.line_text.specs.Numbers.{number}
use Rattle.play_words.specs.Words.{IsMake, IsPlay, Named, Arguments, count_in, count_of, make_refusal, options_by, play_refusal, rows_read, rows_refusal}

-- one more option
pub added : (old new : Command) (a : Arg) (app : App) (name : Text) → AddsArg old a new → a.global ≡ false → app_of old ≡ app
    → rule_of a ≡ required_option name → app_of new ≡ with_rule app (required_option name)
added old new a app name adds local is rule = adds.shape local ∙ ap₂ with_rule is rule

-- one more option at the end
with_last : (app : App) (names : List Text) (name : Text) → with_options app (names ++ name ∷ []) ≡ with_rule (with_options app names) (required_option name)
with_last app [] name = refl
with_last app (x ∷ xs) name = with_last (with_rule app (required_option x)) xs name

pub one_more : (app : App) (options : List (Bor Text)) (i : ℕ) (d : Bor Text) → i < length options
    → with_options app (map (λ option. option.now) (take (i + 1) options))
    ≡ with_rule (with_options app (map (λ option. option.now) (take i options))) (required_option (get_or options i d).now)
one_more app options i d inside =
    ap (λ (os : List (Bor Text)). with_options app (map (λ option. option.now) os)) (take_more options i d inside)
    ∙ ap (with_options app) (map-append (λ option. option.now) (take i options) (get_or options i d ∷ []))
    ∙ with_last app (map (λ option. option.now) (take i options)) (get_or options i d).now

pub check_built : with_options (new_app (codes "check")) (codes "config" ∷ codes "interface" ∷ []) ≡ check_app
unfolding check_app
check_built = refl

pub play_built : with_options (new_app (codes "play"))
    (codes "config" ∷ codes "interface" ∷ codes "arrivals" ∷ codes "departures" ∷ codes "fates" ∷ codes "stats" ∷ codes "seed" ∷ []) ≡ play_app
unfolding play_app
play_built = refl

pub make_built : with_options (new_app (codes "make"))
    (codes "count" ∷ codes "config" ∷ codes "interface" ∷ codes "arrivals" ∷ codes "departures" ∷ codes "fates" ∷ codes "stats" ∷ codes "seed" ∷ []) ≡ make_app
unfolding make_app
make_built = refl

pub make_is_simple : is_simple_and_free make_app ≡ true
unfolding make_app clap_on_literals
make_is_simple = refl

pub check_is_simple : is_simple_and_free check_app ≡ true
unfolding check_app clap_on_literals
check_is_simple = refl

pub play_is_simple : is_simple_and_free play_app ≡ true
unfolding play_app clap_on_literals
play_is_simple = refl

pub verify_built : with_options (new_app (codes "verify"))
    (codes "config" ∷ codes "interface" ∷ codes "arrivals" ∷ codes "departures" ∷ codes "fates" ∷ []) ≡ verify_app
unfolding verify_app
verify_built = refl

pub verify_is_simple : is_simple_and_free verify_app ≡ true
unfolding verify_app clap_on_literals
verify_is_simple = refl

pub chain_built : with_options (new_app (codes "chain"))
    (codes "config" ∷ codes "interface" ∷ codes "arrivals" ∷ codes "departures" ∷ codes "fates" ∷ codes "stats" ∷ codes "seed"
    ∷ codes "next" ∷ codes "departures2" ∷ codes "fates2" ∷ codes "stats2" ∷ codes "path" ∷ []) ≡ chain_app
unfolding chain_app
chain_built = refl

pub chain_is_simple : is_simple_and_free chain_app ≡ true
unfolding chain_app clap_on_literals
chain_is_simple = refl

pub condition_built : with_options (new_app (codes "condition"))
    (codes "config" ∷ codes "interface" ∷ codes "arrivals" ∷ codes "marked" ∷ []) ≡ condition_app
unfolding condition_app
condition_built = refl

pub condition_is_simple : is_simple_and_free condition_app ≡ true
unfolding condition_app clap_on_literals
condition_is_simple = refl

pub bound_built : with_options (new_app (codes "bound")) (codes "config" ∷ codes "interface" ∷ codes "longest" ∷ codes "burst" ∷ []) ≡ bound_app
unfolding bound_app
bound_built = refl

pub bound_is_simple : is_simple_and_free bound_app ≡ true
unfolding bound_app clap_on_literals
bound_is_simple = refl

pub simple_of : (app : App) → is_simple_and_free app ≡ true → is_simple app ≡ true
simple_of app h = go (is_simple app) (is_free_app (built app)) h
  where
    go : (a b : Bool) → (a && b) ≡ true → a ≡ true
    go true b e = refl
    go false b e = e

-- the text of a value that was read, or of what stands in its place
pub text_or : (o : Option (Bor Text)) (t : Option Text) (d : Bor Text) → option_map (λ s. s.now) o ≡ t → d.now ≡ []
    → (unwrap_or o d).now ≡ unwrap_or t []
text_or None t d is empty = empty ∙ ap (λ (x : Option Text). unwrap_or x []) is
text_or (Some x) t d is empty = ap (λ (y : Option Text). unwrap_or y []) is

-- the cause that clap's error gives is that of its reading, or want of memory
pub told_why : (app : App) (words : Arguments) (kind : ErrorKind) (cause : Unread) → (kind ≢ OutOfMemory → takes_options app words ≡ false)
    → cause ≡ cause_of kind → Explains (options_refusal app words) cause
told_why app words kind cause refused is = rw is (known (is_memory kind) refl)
  where
    no : (b : Bool) → b ≡ true → b ≡ false → ⊥
    no b t f = let e : true ≡ false = sym t ∙ f in cc

    known : (b : Bool) → is_memory kind ≡ b → Explains (options_refusal app words) (cond b NoMemory (Refused Options))
    known true e = tt
    known false e = ap (λ (b : Bool). cond b None (Some 2)) (refused (λ k. no (is_memory kind) (ap is_memory k) e))

-- what clap reads, or its own error
pub matches_read : (app : App) (texts : List Text) (r : Result ArgMatches Error) → is_simple app ≡ true → IfOk r (HasMatchesOf app texts)
    → IfOk r (λ m. rows_of (found_of m) ≡ matches_of app texts)
matches_read app texts (Ok m) simple h = (h simple).0
matches_read app texts (Err e) simple h = tt

pub matches_refused : (kinds : Kinds) (r : Result ArgMatches Error) → FailsBy kinds r
    → IfErr r (λ e. kind_of e ≢ OutOfMemory → is_empty kinds ≡ false)
matches_refused kinds (Ok m) h = tt
matches_refused kinds (Err e) h = λ other. go kinds (kind_of e) h other
  where
    go : (kinds : Kinds) (kind : ErrorKind) → (kind ≡ OutOfMemory) ⊎ IsAmong kind kinds → kind ≢ OutOfMemory → is_empty kinds ≡ false
    go [] kind (inl e) other = absurd (other e)
    go [] kind (inr among) other = absurd among
    go (x ∷ xs) kind h other = ne_eqb _ _ (λ e. omega arith)

-- the options of a command are those of the words
pub play_rows : (words : Arguments) (rows : List Row) → IsPlay words → rows ≡ options_of play_app words → rows ≡ rows_read words
play_rows words rows play is = is ∙ sym (ap (λ (n : Named). options_by n words) play)

pub make_rows : (words : Arguments) (rows : List Row) → IsMake words → rows ≡ options_of make_app words → rows ≡ rows_read words
make_rows words rows make is = is ∙ sym (ap (λ (n : Named). options_by n words) make)

-- what is refused of options that clap takes
pub play_kind : (words : Arguments) (rows : List Row) (kind : Option ℕ) → IsPlay words → takes_options play_app words ≡ true → rows ≡ options_of play_app words
    → rows_refusal rows ≡ kind → play_refusal words ≡ kind
play_kind words rows kind play taken is refused =
    let P : List Row → Type 0 = λ r. rows_refusal r ≡ kind in
    let there : rows_refusal (rows_read words) ≡ kind = subst P (play_rows words rows play is) refused in
    rw taken there

pub make_kind : (words : Arguments) (rows : List Row) (kind : Option ℕ) → IsMake words → takes_options make_app words ≡ true → rows ≡ options_of make_app words
    → is_none (count_of words) ≡ false → rows_refusal rows ≡ kind → make_refusal words ≡ kind
make_kind words rows kind make taken is counted refused =
    let P : List Row → Type 0 = λ r. rows_refusal r ≡ kind in
    let there : rows_refusal (rows_read words) ≡ kind = subst P (make_rows words rows make is) refused in
    rw (taken, counted) there

pub make_uncounted : (words : Arguments) → takes_options make_app words ≡ true → count_of words ≡ None → make_refusal words ≡ Some 4
make_uncounted words taken none = rw (taken, none) refl

-- the count that was read is that of the words
pub count_read : (words : Arguments) (rows : List Row) (text : Text) (o : Option ℕ) → IsMake words → rows ≡ options_of make_app words
    → text ≡ value_of (codes "count") rows → o ≡ count_in (number 10 text) → o ≡ count_of words
count_read words rows text o make is at read =
    let P : List Row → Type 0 = λ r. text ≡ value_of (codes "count") r in
    read ∙ ap (λ (t : Text). count_in (number 10 t)) (subst P (make_rows words rows make is) at)

-- each command's options are simple
pub simple_by : (options : OptionsOf) → is_simple_and_free (app_by options) ≡ true
simple_by Play = play_is_simple
simple_by Check = check_is_simple
simple_by Make = make_is_simple
simple_by Verify = verify_is_simple
simple_by Chain = chain_is_simple
simple_by Condition = condition_is_simple
simple_by Bound = bound_is_simple
