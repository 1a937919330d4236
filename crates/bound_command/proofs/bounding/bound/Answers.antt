use Rattle.std.proofs.Common.{◌∙◌, ◌++◌, ℕ, List, Err, ap, sym, subst}
use Rattle.std.specs.Prelude.{string_bytes}
use Rattle.check_command.proofs.AnswerLaws.{answer_done, answer_fails, check_reads, had_said}
use Rattle.check_command.proofs.CheckLaws.{found_same}
use Rattle.check_command.specs.Checking.{CheckOwn, check_command}
use Rattle.command_form.proofs.EndsLaws.{unready_ends}
use Rattle.command_form.proofs.FitLemmas.{accepted_fits}
use Rattle.command_form.proofs.HadLaws.{accepted_says}
use Rattle.conf_laws.specs.Fit.{IsInterface}
use Rattle.conf_tree.specs.declared.interface.Interface.{Interface}
use Rattle.play_base.proofs.ViewLaws.{same_trans}
use Rattle.run_outcomes.specs.declared.outcome.Done.TheVariants as done
use Rattle.run_outcomes.specs.declared.outcome.Failure.{Failure}
use Rattle.bound_command.specs.Bounding.{BoundDone, BoundEnds, BoundExpected}
use Rattle.bound_command.specs.Lines.{Burst, IsBoundText}
use Rattle.bound_command.proofs.BoundLaws.{bound_is_done, bound_must, bound_ready}
use Rattle.bound_command.proofs.bounding.bound.Goals as goal

pub returns-in-Err : goal.returns-in-Err
returns-in-Err g c =
    let u = g.F.Files.view c.args.files.now in
    let v = g.F.Files.view c.read_configuration.new.files in
    let n = c.args.words.now.config.now in
    let i = c.args.words.now.interface.now in
    let b : Burst = record { longest = c.args.words.now.longest; burst = c.args.words.now.burst } in
    let P : Failure → Type 0 = λ f. BoundEnds u v n i b (Err f) in
    subst P (sym c.unready_failure.ensures)
    (unready_ends (check_command n i) (BoundDone u v n i b) (CheckOwn u v) (BoundExpected u n i) (Unit {0}) (check_reads n i) u v c.in-Err.unready
    (bound_ready u n i) c.in-Err.ensures.came c.in-Err.ensures.unready tt)

pub answer_of-requires : goal.answer_of-requires
answer_of-requires g c =
    let h = c.in-Ok.ensures.had in
    let a = (check_command c.args.words.now.config.now c.args.words.now.interface.now).asked in
    let P : Interface → Type 0 = λ j. IsInterface j in
    subst P (sym (found_same _ _ _ c.found-interface.ensures h.accepted.found))
    (accepted_fits c.configurations_fit.ensures (g.F.Files.view c.args.files.now) a c.in-Ok.read.conf h.configured h.accepted)

pub returns-in-Ok-say_answer : goal.returns-in-Ok-say_answer
returns-in-Ok-say_answer g c =
    let u = g.F.Files.view c.args.files.now in
    let v = g.F.Files.view c.read_configuration.new.files in
    let w = g.F.Files.view c.say_answer.new.files in
    let n = c.args.words.now.config.now in
    let i = c.args.words.now.interface.now in
    let b : Burst = record { longest = c.args.words.now.longest; burst = c.args.words.now.burst } in
    let h = c.in-Ok.ensures.had in
    let s = c.in-Ok-say_answer.ensures in
    let text = string_bytes c.in-Ok-answer_of.text in
    let P : Interface → Type 0 = λ j. IsBoundText j b text in
    answer_done n i (BoundDone u w n i b) (CheckOwn u w) (BoundExpected u n i) u v w c.in-Ok.read done.Done
    (had_said n i u v w c.in-Ok.read _ c.in-Ok.ensures.came h s.said)
    (λ t. record {
      configured = h.configured;
      configuration = accepted_says u (check_command n i).asked c.in-Ok.read.conf h.configured t h.accepted;
      text = text;
      bounded = subst P (found_same _ _ _ c.found-interface.ensures h.accepted.found) c.in-Ok-answer_of.ensures;
      said = s.said.grown (c.in-Ok.ensures.came.keeps.tells ∙ t) ∙ ap (λ (m : List ℕ). v.said ++ m) c.as_bytes.ensures.value
          ∙ ap (λ (m : List ℕ). m ++ text) c.in-Ok.ensures.came.said;
    })
    (same_trans u v w c.in-Ok.ensures.counts s.counts) (λ t p e. bound_must u n i p e)

pub returns : goal.returns
returns g c =
    let u = g.F.Files.view c.args.files.now in
    let w = g.F.Files.view c.say_answer.new.files in
    let n = c.args.words.now.config.now in
    let i = c.args.words.now.interface.now in
    let b : Burst = record { longest = c.args.words.now.longest; burst = c.args.words.now.burst } in
    answer_fails n i (BoundDone u w n i b) (BoundExpected u n i) u (g.F.Files.view c.read_configuration.new.files) w c.in-Ok.read
    c.in-Err-say_answer.failure c.in-Ok.ensures.came c.in-Ok.ensures.had c.in-Err-say_answer.ensures.refused (bound_is_done u n i)
    c.in-Err-say_answer.ensures.why
