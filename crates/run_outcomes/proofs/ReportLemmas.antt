-- What was printed of a failure, by how its message was said.
use Rattle.std.proofs.Common.{◌≡◌, ◌++◌, ◌∙◌, ◌⊎◌, ℕ, List, Err, ap, inl, inr}
use Rattle.play_base.specs.View.{View, Rose, Said, Unchanged}
use Rattle.play_base.proofs.ViewLaws.{keeps_trans}
use Rattle.run_outcomes.specs.Message.{message_of, out_of_memory}
use Rattle.run_outcomes.specs.Reported.{HasMessage, IsReported, OnlySays, SaysOrFails, SaysOrNot}
use Rattle.run_outcomes.specs.declared.outcome.Failure.{Failure}
use Rattle.run_outcomes.specs.declared.outcome.Failure.TheVariants as failure

or_not : (u v : View) (text : List ℕ) → (v.said ≡ u.said ++ text) ⊎ ((v.said ≡ u.said) × Rose (u.write_faults 0) (v.write_faults 0))
    → (v.said ≡ u.said ++ text) ⊎ (v.said ≡ u.said)
or_not u v text (inl x) = inl x
or_not u v text (inr x) = inr x.0

has_message : (u v : View) (f : Failure) → SaysOrFails u v (message_of f) → HasMessage u v f
has_message u v failure.NoMemory x = λ t. or_not u v out_of_memory (x t)
has_message u v other x = x

pub said_reported : (u v : View) (f : Failure) → Said u v (message_of f) → IsReported u v (Err f)
said_reported u v f x = (record { keeps = x.keeps; none = x.none }, has_message u v f (λ t. inl (x.grown t)))

pub unsaid_reported : (u v : View) (f : Failure) → Unchanged u v → Rose (u.write_faults 0) (v.write_faults 0) → IsReported u v (Err f)
unsaid_reported u v f x r = (record { keeps = x.keeps; none = x.none }, has_message u v f (λ t. inr (x.said, r)))

-- memory ran out for the message, and then that of this was said, or not
unsaid_or_not : (u v w : View) (text : List ℕ) → v.said ≡ u.said → (w.said ≡ v.said ++ text) ⊎ (w.said ≡ v.said) → (w.said ≡ u.said ++ text) ⊎ (w.said ≡ u.said)
unsaid_or_not u v w text e (inl x) = inl (x ∙ ap (λ (said : List ℕ). said ++ text) e)
unsaid_or_not u v w text e (inr x) = inr (x ∙ e)

pub memory_reported : (u v w : View) → Unchanged u v → OnlySays v w → SaysOrNot v w out_of_memory → IsReported u w (Err failure.NoMemory)
memory_reported u v w x o y = (
  record { keeps = keeps_trans _ _ u v w x.keeps o.keeps; none = λ g h. o.none g (x.none g h) },
  λ t. unsaid_or_not u v w out_of_memory x.said (y (x.keeps.tells ∙ t)),
)
