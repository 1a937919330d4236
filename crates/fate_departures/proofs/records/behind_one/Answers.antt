use Rattle.std.proofs.Common.{◌≡◌, ◌∙◌, ◌++◌, ℕ, List, MatchOption, subst}
use Rattle.fate_departures.specs.Frames.{frames_in}
use Rattle.fate_departures.proofs.Lookup.{text_is}
use Rattle.fate_departures.proofs.records.behind_one.Goals as goal

pub returns : goal.returns
returns g c =
    let P : List ℕ → Type 0 = λ text. MatchOption c.behind_both.result ((more : List ℕ) → c.args.rest.now ≡ text ++ more → ⊥) (λ more. c.args.rest.now ≡ text ++ more.now) in
    subst P (text_is (g.C.Classify.dressed c.args.classify.now) (frames_in c.args.frames.now) c.args.row.now c.args.end c.args.marked
    c.frame-frame.result.now c.record_head-head.result c.deref.result.now c.frame-frame.ensures.value
    (g.met.C.Classify.lengths c.args.classify.now c.args.row.now.class c.args.marked c.frame-frame.result.now)
    c.record_head-head.ensures (c.deref.ensures.value ∙ c.in_ok-dress.ensures)) c.behind_both.ensures
