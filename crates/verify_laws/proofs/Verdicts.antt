-- What the queue of a class can answer: a drop for a reason of its drop rule, and a mark only where it marks a packet of precedence 1.
use Rattle.std.proofs.Common.{◌≡◌, ◌-◌, ℕ, Bool, true, false, ℤ, negsuc, List, [], ◌∷◌, Some, refl, ap, sym, subst, arith, ◌∙◌}
use Rattle.std.specs.Prelude.{◌==◌, ◌*◌, ◌^◌, if◌then◌else◌, map, nat_le, nat_lt, pos, slice_get, unwrap_or}
use Rattle.std.specs.declared.option.Option.{Option}
use Rattle.altq_model.specs.declared.Reason.{Reason}
use Rattle.altq_model.specs.declared.Reason.TheVariants.{Full, Early, Forced}
use Rattle.altq_model.specs.declared.Verdict.{Verdict}
use Rattle.altq_model.specs.declared.Verdict.TheVariants.{Keep, Mark, Drop}
use Rattle.altq_model.specs.History.{Arrival, DrawnWords, Event, is_mark, waiting}
use Rattle.conf_laws.proofs.ListPlaces.{map_on}
use Rattle.conf_tree.specs.declared.class.Class.{Class}
use Rattle.conf_tree.specs.declared.class.DropRule.{DropRule}
use Rattle.conf_tree.specs.declared.class.DropRule.TheVariants as rule
use Rattle.conf_tree.specs.declared.interface.Interface.{Interface}
use Rattle.frame_classes.specs.Handlings.{is_ecn}
use Rattle.given_play.specs.Rights.{drops_early}
use Rattle.interface_policy.specs.Policy.{answering_of, queue_says, rule_says, step_of}
use Rattle.leaf_queue.specs.declared.rule.Waiting.{Waiting}
use Rattle.leaf_queue.specs.Queue.{QueueEvent, Saying, precs_of, queue_at, told_of, waiting_of}
use Rattle.red_average.specs.declared.ruling.Thresholds.{Thresholds}
use Rattle.leaf_queue.specs.Words.{word}
use Rattle.red_average.specs.Average.{moved}
use Rattle.red_average.specs.Red.{red_says, thresholds}
use Rattle.red_average.specs.Red as red
use Rattle.red_average.specs.Ruling.{Ruled, between, by_spacing, by_word, dropped, kept, next_count, ruled, spacing}
use Rattle.rio_precedence.specs.Any.{ecn_verdict, without_early_drop}
use Rattle.rio_precedence.specs.Precedence.{thresholds_of}
use Rattle.rio_precedence.specs.Rio.{average_after, rio_says}
use Rattle.rio_precedence.specs.Rio as rio

-- RED and RIO themselves never mark
record IsUnmarked (r : Ruled) : Type 0 where
  is : is_mark r.ruling.verdict ≡ false

dropped_unmarked : (r : Reason) (took : ℕ) → IsUnmarked (dropped r took)
dropped_unmarked r took = record { is = refl }

kept_unmarked : (count : ℤ) (took : ℕ) → IsUnmarked (kept count took)
kept_unmarked count took = record { is = refl }

either : (b : Bool) (x y : Ruled) → IsUnmarked x → IsUnmarked y → IsUnmarked (if b then x else y)
either true x y p q = p
either false x y p q = q

word_unmarked : (room over word count : ℕ) → IsUnmarked (by_word room over word count)
word_unmarked room over word count =
    either (nat_lt (word * room) (2 ^ 32 * over)) (dropped Early 1) (kept (pos count) 1) (dropped_unmarked Early 1) (kept_unmarked (pos count) 1)

spacing_unmarked : (room over word count : ℕ) → IsUnmarked (by_spacing room over word count)
spacing_unmarked room over word count =
    either (room == 0) (dropped Early 0) (by_word room over word count) (dropped_unmarked Early 0) (word_unmarked room over word count)

between_unmarked : (t : Thresholds) (average : ℕ) (c : ℤ) (word : ℕ) → IsUnmarked (between t average c word)
between_unmarked t average c word =
    spacing_unmarked (spacing (t.high - t.low) - next_count c * (average - t.low)) (average - t.low) word (next_count c)

ruled_unmarked : (t : Thresholds) (full : Bool) (average : ℕ) (c : ℤ) (word : ℕ) → IsUnmarked (ruled t full average c word)
ruled_unmarked t full average c word =
    let over : Ruled = if nat_le t.high average then dropped Forced 0 else between t average c word in
    let room : Ruled = if nat_lt average t.low then kept (negsuc 0) 0 else over in
    either full (dropped Full 0) room (dropped_unmarked Full 0)
    (either (nat_lt average t.low) (kept (negsuc 0) 0) over (kept_unmarked (negsuc 0) 0)
    (either (nat_le t.high average) (dropped Forced 0) (between t average c word) (dropped_unmarked Forced 0) (between_unmarked t average c word)))

-- a queue that does not drop early has one reason
abbrev pub MayDrop : (early : Bool) → Verdict → Type 0
MayDrop early Keep = Unit {0}
MayDrop early Mark = Unit {0}
MayDrop early (Drop Full) = Unit {0}
MayDrop early (Drop Early) = early ≡ true
MayDrop early (Drop Forced) = early ≡ true

any_drop : (v : Verdict) → MayDrop true v
any_drop Keep = tt
any_drop Mark = tt
any_drop (Drop Full) = tt
any_drop (Drop Early) = refl
any_drop (Drop Forced) = refl

-- only a packet of precedence 1 is marked, and only in a class with `ecn`
pub record MayMark (r : DropRule) (prec : ℕ) : Type 0 where
  pub ecn : is_ecn r ≡ true
  pub capable : (prec == 1) ≡ true

pub record CanAnswer (r : DropRule) (prec : ℕ) (v : Verdict) : Type 0 where
  pub drops : MayDrop (drops_early r) v
  pub marks : is_mark v ≡ true → MayMark r prec

never : (r : DropRule) (prec : ℕ) (v : Verdict) → is_mark v ≡ false → is_mark v ≡ true → MayMark r prec
never r prec v e f = let bad : false ≡ true = sym e ∙ f in absurd cc

tail_can : (prec : ℕ) (b : Bool) → CanAnswer rule.Tail prec (if b then Drop Full else Keep)
tail_can prec true = record { drops = tt; marks = never rule.Tail prec (Drop Full) refl }
tail_can prec false = record { drops = tt; marks = never rule.Tail prec Keep refl }

capable_if : (b : Bool) (v : Verdict) → is_mark v ≡ false → is_mark (if b then without_early_drop v else v) ≡ true → b ≡ true
capable_if true v e f = refl
capable_if false v e f = let bad : false ≡ true = sym e ∙ f in absurd cc

ecn_can : (prec : ℕ) (v : Verdict) → is_mark v ≡ false → CanAnswer rule.Ecn prec (ecn_verdict prec v)
ecn_can prec v e =
    record { drops = any_drop (ecn_verdict prec v); marks = λ f. record { ecn = refl; capable = capable_if (prec == 1) v e f } }

red_unmarked : (step limit : ℕ) (q : List QueueEvent) (now : ℕ) (waits : Waiting) (prec : ℕ) (w : DrawnWords)
    → is_mark (red_says step limit q now waits prec w).verdict ≡ false
red_unmarked step limit q now waits prec w =
    (ruled_unmarked thresholds (waits.all == limit) (moved step (red.idle_of q) now waits.all (red.average_of step q)) (red.count_of step limit q)
    (word w.seed w.drawn)).is

rio_unmarked : (step limit : ℕ) (q : List QueueEvent) (now : ℕ) (waits : Waiting) (prec : ℕ) (w : DrawnWords)
    → is_mark (rio_says step limit q now waits prec w).verdict ≡ false
rio_unmarked step limit q now waits prec w =
    (ruled_unmarked (thresholds_of prec) (waits.all == limit) (average_after step prec prec now waits (rio.idle_of prec q) (rio.average_of step prec q))
    (rio.count_of step limit prec q) (word w.seed w.drawn)).is

rule_can : (rate : ℕ) (r : DropRule) (limit : ℕ) (q : List QueueEvent) (now : ℕ) (waits : Waiting) (prec : ℕ) (w : DrawnWords)
    → CanAnswer r prec (rule_says rate r limit q now waits prec w).verdict
rule_can rate rule.Tail limit q now waits prec w = tail_can prec (waits.all == limit)
rule_can rate rule.Red limit q now waits prec w =
    let v = (red_says (step_of rate) limit q now waits prec w).verdict in
    record { drops = any_drop v; marks = never rule.Red prec v (red_unmarked (step_of rate) limit q now waits prec w) }
rule_can rate rule.Ecn limit q now waits prec w =
    ecn_can prec (red_says (step_of rate) limit q now waits prec w).verdict (red_unmarked (step_of rate) limit q now waits prec w)
rule_can rate rule.Rio limit q now waits prec w =
    let v = (rio_says (step_of rate) limit q now waits prec w).verdict in
    record { drops = any_drop v; marks = never rule.Rio prec v (rio_unmarked (step_of rate) limit q now waits prec w) }

-- the queue of a class answers its packets
says_at : (says : List Saying) (k : ℕ) (s : Saying) → slice_get says k ≡ Some s → queue_at says k ≡ s
says_at [] k s e = absurd cc
says_at (x ∷ says) k s e = ap (λ (o : Option Saying). unwrap_or o x) e

pub answer_can : (i : Interface) (h : List Event) (w : DrawnWords) (a : Arrival) (k : Class) → slice_get i.classes a.class ≡ Some k
    → CanAnswer k.drop a.prec (answering_of i h w a).verdict
answer_can i h w a k at =
    let all : List Saying = map (queue_says i.rate) i.classes in
    let place : a.class - 0 ≡ a.class = omega arith in
    let its : queue_at all (a.class - 0) ≡ queue_says i.rate k =
    ap (queue_at all) place ∙ says_at all a.class (queue_says i.rate k) (map_on (queue_says i.rate) i.classes a.class k at) in
    let waits = waiting_of (precs_of (waiting a.class h)) in
    let P : Saying → Type 0 = λ s. CanAnswer k.drop a.prec (s (told_of a.class h) a.at waits a.prec w).verdict in
    subst P (sym its) (rule_can i.rate k.drop k.limit (told_of a.class h) a.at waits a.prec w)
