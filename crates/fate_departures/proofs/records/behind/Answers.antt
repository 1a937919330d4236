use Rattle.std.proofs.Common.{◌∙◌, true, sym}
use Rattle.std.proofs.lemmas.Result.{IfOk-weaker}
use Rattle.fate_departures.specs.Frames.{frames_in}
use Rattle.fate_departures.proofs.Fronts.{Front_at, Record_at, front_marked, front_plain, none_plain}
use Rattle.fate_departures.proofs.records.behind.Goals as goal

pub returns-then-is_some : goal.returns-then-is_some
returns-then-is_some g c =
    front_plain (g.C.Classify.dressed c.args.classify.now) (frames_in c.args.frames.now) c.args.row.now c.in-Sent.start c.in-Sent.end c.in-Sent.rule c.args.rest.now
    c.in_ok-plain.plain c.in-Sent.is c.if-end-ge-CLOCK_END.false c.in_ok-plain.ensures (sym c.is_some.ensures ∙ c.if-is_some.true)

pub returns-then-not-is_markable : goal.returns-then-not-is_markable
returns-then-not-is_markable g c =
    none_plain (g.C.Classify.dressed c.args.classify.now) (frames_in c.args.frames.now) c.args.row.now c.in-Sent.start c.in-Sent.end c.in-Sent.rule c.args.rest.now
    c.in_ok-plain.plain c.in-Sent.is c.in_ok-plain.ensures (sym c.is_some.ensures ∙ c.if-is_some.false) (sym c.is_markable.ensures ∙ c.if-not-is_markable.true)

pub returns : goal.returns
returns g c =
    IfOk-weaker c.behind_one-2.result
    (Record_at (g.C.Classify.dressed c.args.classify.now) (frames_in c.args.frames.now) c.args.row.now c.in-Sent.end true c.args.rest.now)
    (Front_at (g.C.Classify.dressed c.args.classify.now) (frames_in c.args.frames.now) c.args.row.now c.args.rest.now)
    (λ o at. front_marked (g.C.Classify.dressed c.args.classify.now) (frames_in c.args.frames.now) c.args.row.now c.in-Sent.start c.in-Sent.end c.in-Sent.rule c.args.rest.now
    c.in_ok-plain.plain o c.in-Sent.is c.if-end-ge-CLOCK_END.false c.in_ok-plain.ensures (sym c.is_some.ensures ∙ c.if-is_some.false)
    (sym c.is_markable.ensures ∙ c.if-not-is_markable.false) at) c.behind_one-2.ensures
