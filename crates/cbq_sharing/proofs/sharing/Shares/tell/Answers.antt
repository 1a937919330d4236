use Rattle.std.proofs.Common.{◌≡◌, ◌∙◌, List, Some, ap, get_or, sym}
use Rattle.cbq_estimator.specs.Average.{Ended}
use Rattle.cbq_model.specs.declared.CbqClass.{CbqClass}
use Rattle.cbq_sharing.specs.Sent.{told_up}
use Rattle.cbq_sharing.specs.Shared.{Shared, no_estimate}
use Rattle.cbq_sharing.proofs.sharing.Shares.tell.Goals as goal

pub returns-then-not-is_empty-clause-others : goal.returns-then-not-is_empty-clause-others
returns-then-not-is_empty-clause-others c = λ k m.
    let d : Shared = c.args.self.now in
    let x : Ended = record { end = d.ended; len = c.args.len } in
    let u = c.free_up.ensures.others k m x d.estimates in
    let tree : c.tell_up.new.self.tree ≡ d.tree = ap (λ (s : Shared). s.tree) c.tell_up.ensures in
    record {
      was = u.was;
      same = ap (λ (s : Shared). get_or s.estimates k no_estimate) c.tell_up.ensures
          ∙ ap (λ (cs : List CbqClass). get_or (told_up 8 cs (Some c.args.class) x d.estimates) k no_estimate) (sym tree) ∙ u.same;
    }
