-- Policies: queue rules and disciplines.
use Rattle.std.specs.Prelude.{◌==◌, ℕ, List, [], ◌∷◌, length, if◌then◌else◌}
use Rattle.altq_model.specs.declared.Rule.{Rule}
use Rattle.altq_model.specs.declared.Rule.TheVariants.{Share}
use Rattle.altq_model.specs.declared.Reason.TheVariants.{Full}
use Rattle.altq_model.specs.declared.Verdict.TheVariants.{Keep, Drop}
use Rattle.altq_model.specs.History.{Arrival, Answer, DrawnWords, Event, waiting}
use Rattle.altq_model.specs.Play.{Policy}

-- how the queues of an interface answer an offer, after a history and by the seed's words
abbrev pub Answering : Type 0
Answering = List Event → DrawnWords → Arrival → Answer

-- a queue that drops exactly what comes when its waiting packets equal its limit
abbrev pub tail : (limit : ℕ) → Answering
tail limit h w a = record { verdict = if length (waiting a.class h) == limit then Drop Full else Keep; took = 0 }

-- the first class of a list in which something waits
abbrev pub first_waiting : List ℕ → List Event → ℕ
first_waiting [] h = 0
first_waiting (c ∷ cs) h = elim (waiting c h) [ [] ↦ first_waiting cs h | a ∷ ws ↦ c ]

-- strict order: the first class of the list that is not empty sends, by one rule, and any class may send at any moment
abbrev pub strict : List ℕ → Rule → Answering → Policy
strict classes rule answer = record {
  classes = classes;
  answer = answer;
  start_from = λ h c t. t;
  pick = λ h t. record { class = first_waiting classes h; rule = rule };
}

-- one queue, which is always sent by share: an interface without classes
abbrev pub one_queue : (limit : ℕ) → Policy
one_queue limit = strict (1 ∷ []) Share (tail limit)
