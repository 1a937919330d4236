use Rattle.std.proofs.Common.{◌≡◌, ◌∙◌, ◌-◌, ℕ, zero, suc, cond, List, [], ◌∷◌, length, refl, ap, arith, eqb}
use mathlib.Core.Path.{fun_ext}
use Rattle.altq_model.specs.declared.Reason.TheVariants.{Full}
use Rattle.altq_model.specs.declared.Rule.TheVariants.{Share}
use Rattle.altq_model.specs.declared.Verdict.TheVariants.{Keep, Drop}
use Rattle.altq_model.specs.History.{Answer, Arrival, Event, DrawnWords, waiting}
use Rattle.altq_model.specs.Policies.{Answering, strict, tail}
use Rattle.leaf_queue.specs.Queue.{Saying, by_queue, by_queues, precs_of, queue_at, tail_says}
use Rattle.plain_disciplines.specs.Strict.{classes_from}
use Rattle.plain_disciplines.proofs.one_queue.one_class_is_one_queue.Goals as goal

precs_length : (ws : List Arrival) → length (precs_of ws) ≡ length ws
precs_length [] = refl
precs_length (a ∷ ws) = omega (arith, precs_length ws)

one_queue_at : (s : Saying) (k : ℕ) → queue_at (s ∷ []) k ≡ s
one_queue_at s zero = refl
one_queue_at s (suc k) = refl

abbrev answer_of : (count limit : ℕ) → Answer
answer_of count limit = record { verdict = cond (eqb count limit) (Drop Full) Keep; took = 0 }

same_answer : (limit : ℕ) (h : List Event) (w : DrawnWords) (a : Arrival) → by_queues 1 (tail_says limit ∷ []) h w a ≡ tail limit h w a
same_answer limit h w a =
    ap (λ (s : Saying). by_queue s h w a) (one_queue_at (tail_says limit) (a.class - 1))
    ∙ ap (λ (n : ℕ). answer_of n limit) (precs_length (waiting a.class h))

pub returns : goal.returns
returns c = λ limit.
    let same : by_queues 1 (tail_says limit ∷ []) ≡ tail limit = fun_ext (λ h. fun_ext (λ w. fun_ext (λ a. same_answer limit h w a))) in
    ap (λ (answer : Answering). strict (classes_from 1 1) Share answer) same
