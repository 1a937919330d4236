-- It ends at its inputs, or as what comes behind them.
use Rattle.std.proofs.Common.{◌≡◌, ◌∙◌, Some, Err, refl, sym, subst}
use Rattle.std.specs.Prelude.{if◌then◌else◌, []}
use Rattle.conf_laws.specs.Fit.{IsInterface}
use Rattle.conf_tree.specs.declared.interface.Interface.{Interface}
use Rattle.interface_marks.specs.Conditioners.{Begins}
use Rattle.play_base.specs.View.{Everything}
use Rattle.play_base.proofs.ViewLaws.{keeps_refl}
use Rattle.run_outcomes.specs.declared.outcome.Failure.{Failure}
use Rattle.command_form.specs.Names.{mark_names_read}
use Rattle.command_form.proofs.FitLemmas.{accepted_fits}
use Rattle.condition_command.specs.Conditioning.{ConditionEnds, condition_command}
use Rattle.condition_command.specs.Starting.{HasInputs}
use Rattle.condition_command.proofs.EndLemmas.{uncreated_starved, unready_condition}
use Rattle.condition_command.proofs.conditioning.condition.Given.{Over}
use Rattle.condition_command.proofs.conditioning.condition.Goals.{In-Ok}
use Rattle.condition_command.proofs.conditioning.condition.Goals as goal

same_interface : (i j : Interface) → Some i ≡ Some j → i ≡ j
same_interface i j h = cc

abbrev inputs : (g : Over) (c : In-Ok g)
    → HasInputs (g.F.Files.view c.args.files.now) (g.F.Files.view c.read_inputs.new.files) (mark_names_read c.args.words.now) c.in-Ok.had.0 c.in-Ok.had.1
inputs g c = record { come = c.in-Ok.ensures.came; had = c.in-Ok.ensures.had }

pub returns-in-Err : goal.returns-in-Err
returns-in-Err g c =
    let u = g.F.Files.view c.args.files.now in
    let v = g.F.Files.view c.read_inputs.new.files in
    let n = mark_names_read c.args.words.now in
    let P : Failure → Type 0 = λ f. ConditionEnds u v n (Err f) in
    subst P (sym c.unready_failure.ensures) (unready_condition u v n c.in-Err.unready c.in-Err.ensures.came c.in-Err.ensures.unready)

pub marker_for-requires-clause-fits : goal.marker_for-requires-clause-fits
marker_for-requires-clause-fits g c =
    let a = c.in-Ok.ensures.had.accepted in
    let i = c.in-Ok.ensures.had.configured.found in
    let same = same_interface i c.found-interface.result.now (sym a.found ∙ c.found-interface.ensures) in
    subst (λ (j : Interface). IsInterface j) same
    (accepted_fits c.configurations_fit.ensures (g.F.Files.view c.args.files.now) (condition_command (mark_names_read c.args.words.now)).asked c.in-Ok.had.0.conf
    c.in-Ok.ensures.had.configured a)

pub returns-in_default : goal.returns-in_default
returns-in_default g c =
    let v = g.F.Files.view c.read_inputs.new.files in
    uncreated_starved (g.F.Files.view c.args.files.now) v v (mark_names_read c.args.words.now) c.in-Ok.had.0 c.in-Ok.had.1
    (inputs g (goal.at.returns-in_default g c).In-Ok)
    (record { keeps = keeps_refl Everything Everything v; none = λ f h. h; said = refl })

pub mark_had-requires-clause-part : goal.mark_had-requires-clause-part
mark_had-requires-clause-part g c = c.in-Ok.ensures.had.came.are.1.0.part

pub mark_had-requires-clause-named : goal.mark_had-requires-clause-named
mark_had-requires-clause-named g c = λ t. c.in-Ok.ensures.had.came.are.1.0.name (sym c.in-Ok.ensures.came.keeps.tells ∙ t)

pub mark_had-requires-clause-given : goal.mark_had-requires-clause-given
mark_had-requires-clause-given g c = c.in-Ok-marker_for.ensures.begins.given

pub returns : goal.returns
returns g c =
    let h = inputs g (goal.at.returns g c).In-Ok in
    let i = c.in-Ok.ensures.had.configured.found in
    let same = same_interface c.found-interface.result.now i (sym c.found-interface.ensures ∙ c.in-Ok.ensures.had.accepted.found) in
    let x = c.in-Ok.had.1 in
    let P : Interface → Type 0 = λ j. Begins j (if x.given.rest then x.given.front.items else []) c.in-Ok-marker_for.marker in
    c.mark_had.ensures (g.F.Files.view c.args.files.now) c.in-Ok.had.0 h (subst P same c.in-Ok-marker_for.ensures.begins) c.in-Ok.ensures.counts
