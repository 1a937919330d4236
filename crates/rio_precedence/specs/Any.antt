-- What the rule of a queue says, whichever of the four it is.
use Rattle.std.specs.Prelude.{ℕ, ◌==◌, if◌then◌else◌, List}
use Rattle.altq_model.specs.declared.Reason.TheVariants.{Full, Early, Forced}
use Rattle.altq_model.specs.declared.Verdict.{Verdict}
use Rattle.altq_model.specs.declared.Verdict.TheVariants.{Keep, Mark, Drop}
use Rattle.altq_model.specs.History.{Answer}
use Rattle.leaf_queue.specs.Queue.{QueueEvent, Saying, tail_says}
use Rattle.red_average.specs.Red as red
use Rattle.rio_precedence.specs.Rio as rio
use Rattle.rio_precedence.specs.declared.any.AnyQueue.{AnyQueue}
use Rattle.rio_precedence.specs.declared.any.AnyQueue.TheVariants.{Tail, Red, Ecn, Rio}

-- an early drop becomes a mark; every other verdict stays
abbrev pub without_early_drop : Verdict → Verdict
without_early_drop (Drop Early) = Mark
without_early_drop (Drop Full) = Drop Full
without_early_drop (Drop Forced) = Drop Forced
without_early_drop Keep = Keep
without_early_drop Mark = Mark

-- so it is for a packet of precedence 1, whose transport can be told of congestion (RFC 3168)
abbrev pub ecn_verdict : (prec : ℕ) → Verdict → Verdict
ecn_verdict prec verdict = if prec == 1 then without_early_drop verdict else verdict

abbrev pub ecn_answer : (prec : ℕ) → Answer → Answer
ecn_answer prec answer = record { verdict = ecn_verdict prec answer.verdict; took = answer.took }

-- a queue that marks where another one drops early
abbrev pub marking : Saying → Saying
marking says q now waiting prec w = ecn_answer prec (says q now waiting prec w)

abbrev pub most_of : AnyQueue → ℕ
most_of (Tail t) = t.limit
most_of (Red r) = r.limit
most_of (Ecn r) = r.limit
most_of (Rio r) = r.limit

abbrev pub stands_of : AnyQueue → List QueueEvent → Type 0
stands_of (Tail t) q = Unit {0}
stands_of (Red r) q = red.Represents r.step r.limit r.average r.count r.idle q
stands_of (Ecn r) q = red.Represents r.step r.limit r.average r.count r.idle q
stands_of (Rio r) q = rio.Represents r.step r.limit r.average r.count r.idle q

abbrev pub says_of : AnyQueue → Saying
says_of (Tail t) = tail_says t.limit
says_of (Red r) = red.red_says r.step r.limit
says_of (Ecn r) = marking (red.red_says r.step r.limit)
says_of (Rio r) = rio.rio_says r.step r.limit
