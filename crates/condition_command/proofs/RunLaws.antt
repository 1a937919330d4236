-- What a run asks of a marking: how it ends where nothing was read, and that its failures tell the truth.
use Rattle.std.proofs.Common.{◌∙◌, inl, sym, refl, Err}
use Rattle.file_plans.specs.declared.part.Part.{Part}
use Rattle.file_plans.specs.declared.part.Part.TheVariants as part
use Rattle.file_plans.specs.End.{Untouched}
use Rattle.file_plans.specs.Parts.{part_number}
use Rattle.file_plans.proofs.CameLaws.{none_some}
use Rattle.play_base.specs.View.{View}
use Rattle.run_outcomes.specs.declared.outcome.Failure.TheVariants as failure
use Rattle.run_outcomes.specs.Faults.{ReadFailed, WriteFailed}
use Rattle.command_form.specs.Names.{MarkNames}
use Rattle.command_form.proofs.EndsLaws.{unread_ends}
use Rattle.command_form.proofs.TruthLaws.{OwnAreTrue}
use Rattle.condition_command.specs.Conditioning.{ConditionDone, ConditionEnds, ConditionExpected, ConditionLeaves, ConditionOwn, condition_command}
use Rattle.condition_command.proofs.InputLemmas.{condition_reads}

pub condition_unread : (u : View) (n : MarkNames) → ConditionEnds u u n (Err failure.NoMemory)
condition_unread u n =
    let none : Untouched u u 6 = λ f fresh at. none_some 6 (sym fresh ∙ at) in
    unread_ends (condition_command n) (ConditionDone u u n) (ConditionOwn u u n) (ConditionExpected u n) (ConditionLeaves u u n) (condition_reads n) u
    (record { front = λ t i g a e. inl (none, refl); streams = λ t i g a e classic f k ff fp kf kp. absurd (none k kf kp) })

pub condition_own_true : (u v : View) (n : MarkNames) → OwnAreTrue (condition_command n).plan (ConditionOwn u v n) u v
condition_own_true u v n = record {
  read = λ p x. inl (read p x);
  write = λ p x. write p x;
  unsaid = λ x. absurd x;
  words = λ fault x. x;
}
  where
    read : (p : Part) → ConditionOwn u v n (failure.Read p) → ReadFailed u v (part_number p)
    read part.Arrivals x = x.0
    read other x = absurd x

    write : (p : Part) → ConditionOwn u v n (failure.Write p) → WriteFailed u v (part_number p)
    write part.Marked x = x
    write other x = absurd x
