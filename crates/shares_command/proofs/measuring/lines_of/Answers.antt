use Rattle.std.proofs.Common.{◌∙◌, List, ap}
use Rattle.std.specs.Prelude.{string_bytes}
use Rattle.std.proofs.lemmas.Result.{IfOk-weaker}
use Rattle.altq_model.specs.History.{unlabelled}
use Rattle.conf_tree.specs.declared.class.Class.{Class}
use Rattle.share_gaps.specs.declared.gap.Gap.{Gap}
use Rattle.share_report.specs.Watched.{classes_in}
use Rattle.shares_command.specs.Lines.{gap_lines}
use Rattle.shares_command.proofs.LineLemmas.{lines_of}
use Rattle.shares_command.proofs.measuring.lines_of.Goals as goal

pub returns : goal.returns
returns c =
    let i = c.args.interface.now in
    IfOk-weaker c.gap_lines.result _ _
    (λ text p h stood. lines_of i (classes_in c.args.watched.now) (unlabelled h) (string_bytes text) c.requires.fit c.requires.kind c.requires.classes
    (p ∙ ap (λ (ks : List Class). gap_lines ks c.as_slice-2.result.now) c.as_slice.ensures
    ∙ ap (λ (gs : List Gap). gap_lines i.classes gs) (c.as_slice-2.ensures.value ∙ c.in_ok-gaps.ensures h stood))
    c.gaps_are_greatest.ensures (λ slopes. c.keeps_bounds.ensures h stood slopes))
    c.gap_lines.ensures
