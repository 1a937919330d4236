use Rattle.std.proofs.Common.{◌≡◌, ◌<◌, ◌∙◌, length, get_or, arith}
use Rattle.std.proofs.lemmas.List.{get_or_default}
use Rattle.fate_judge.proofs.Aboves.{needs_drop, needs_sent, passes_drop, passes_sent}
use Rattle.fate_judge.proofs.order.Order.passes.Goals as goal
use Rattle.fate_judge.proofs.order.Order.passes.Goals.{then-index-number-via-then-index-number, then-index-number-via-else-index-number+then-self-after, then-index-number-via-else-index-number+else-self-after+then-self-after-2, then-self-number-via-then-self-number, then-self-number-via-else-self-number+then-self-at}

pub returns-then-index-number-clause-fails : goal.returns-then-index-number-clause-fails
returns-then-index-number-clause-fails c = λ _ classes arrived before is o so.
    let self = c.args.self.now in let row = c.args.row.now in
    let lt : row.class < length self.sent.items = omega (arith, c.requires.class, self.sent.ok.0) in
    let may = needs_sent classes arrived before row c.in-Sent.start c.in-Sent.end c.in-Sent.rule self c.in-Sent.is is o lt so in
    let here : c.index.result.now ≡ get_or self.sent.items row.class 0 = c.index.ensures ∙ get_or_default self.sent.items row.class c.index.result.now 0 lt in
    let less = may.number in let start = may.start in let moment = may.moment in
    elim c.then-index-number.branch [
      | then-index-number-via-then-index-number w ↦ omega (arith, here, less, c.from-number.ensures, w.if-index-number.true)
      | then-index-number-via-else-index-number+then-self-after w ↦ omega (arith, start, c.from-after.ensures, w.if-self-after.true)
      | then-index-number-via-else-index-number+else-self-after+then-self-after-2 w ↦ omega (arith, moment, c.from-after.ensures, w.if-self-after-2.true)
    ]

pub returns-then-self-number-clause-fails : goal.returns-then-self-number-clause-fails
returns-then-self-number-clause-fails c = λ _ classes arrived before is o so.
    let self = c.args.self.now in let row = c.args.row.now in
    let may = needs_drop classes arrived before row c.in-Dropped.field-0 self c.in-Dropped.is is o so in
    let less = may.number in let at = may.at in
    elim c.then-self-number.branch [
      | then-self-number-via-then-self-number w ↦ omega (arith, less, c.from-number.ensures, w.if-self-number.true)
      | then-self-number-via-else-self-number+then-self-at w ↦ omega (arith, at, c.from-at.ensures, w.if-self-at.true)
    ]

pub returns-else-self-after-2-clause-passes : goal.returns-else-self-after-2-clause-passes
returns-else-self-after-2-clause-passes c = λ _ classes arrived before is o.
    let self = c.args.self.now in let row = c.args.row.now in
    let lt : row.class < length self.sent.items = omega (arith, c.requires.class, self.sent.ok.0) in
    let here : c.index.result.now ≡ get_or self.sent.items row.class 0 = c.index.ensures ∙ get_or_default self.sent.items row.class c.index.result.now 0 lt in
    passes_sent classes arrived before row c.in-Sent.start c.in-Sent.end c.in-Sent.rule self c.in-Sent.is is o lt
    (record {
      number = omega (arith, here, c.from-number.ensures, c.if-index-number.false);
      start = omega (arith, c.from-after.ensures, c.if-self-after.false);
      moment = omega (arith, c.from-after.ensures, c.if-self-after-2.false);
    })

pub returns-else-self-at-clause-passes : goal.returns-else-self-at-clause-passes
returns-else-self-at-clause-passes c = λ _ classes arrived before is o.
    let self = c.args.self.now in let row = c.args.row.now in
    passes_drop classes arrived before row c.in-Dropped.field-0 self c.in-Dropped.is is o
    (record {
      number = omega (arith, c.from-number.ensures, c.if-self-number.false);
      at = omega (arith, c.from-at.ensures, c.if-self-at.false);
    })
