use Rattle.std.proofs.Common.{◌≡◌, ◌∙◌, ◌<◌, ◌≤◌, ℕ, true, length, Option, sym, subst, arith}
use Rattle.std.specs.Prelude.{IfSome}
use Rattle.altq_model.specs.declared.Fate.{Fate}
use Rattle.journal_laws.specs.Journal.{IfSent, NoneAbove, starts}
use Rattle.fate_judge.specs.Given.{decisions}
use Rattle.fate_timely.specs.Timely.{is_in_time, sent_rows}
use Rattle.fate_timely.proofs.Telling.{dues_sent, fails_sent, held, last_before, leaf_there, passes_sent, units_set}
use Rattle.fate_timely.proofs.dues.Dues.passes.Goals as goal

pub sent-due-requires-clause-after_last : goal.sent-due-requires-clause-after_last
sent-due-requires-clause-after_last c =
    let class = c.args.row.now.class in let k = c.requires.known in let before = k.1 in
    let lt : class < length c.args.self.now.leaves.items = omega (arith, c.if-class-len.false, c.len.ensures, c.args.self.now.leaves.ok.0) in
    let e = leaf_there c.args.self.now.leaves.items c.index_mut.result.now class c.in-Some.leaf lt c.index_mut.ensures.value c.in-Some.is in
    let h = held k.0 before c.args.self.now.leaves.items class c.in-Some.leaf k.2 e in
    let F : Fate → Type 0 = λ t. IfSent t (λ start end. (c.args.row.now.at ≤ start) × NoneAbove start (starts (decisions before))) in
    let P : Option ℕ → Type 0 = λ o. IfSome o (λ last. last ≤ c.in-Sent.start) in
    subst P (sym h.leaf_is.last) (last_before class before c.in-Sent.start (subst F c.in-Sent.is k.3.1).1)

pub sent-due-requires-clause-known : goal.sent-due-requires-clause-known
sent-due-requires-clause-known c =
    let class = c.args.row.now.class in let k = c.requires.known in
    let lt : class < length c.args.self.now.leaves.items = omega (arith, c.if-class-len.false, c.len.ensures, c.args.self.now.leaves.ok.0) in
    let e = leaf_there c.args.self.now.leaves.items c.index_mut.result.now class c.in-Some.leaf lt c.index_mut.ensures.value c.in-Some.is in
    let h = held k.0 k.1 c.args.self.now.leaves.items class c.in-Some.leaf k.2 e in
    (h.curve, sent_rows class k.1, h.leaf_is)

pub returns-clause-few : goal.returns-clause-few
returns-clause-few c = λ n few.
    let class = c.args.row.now.class in
    let lt : class < length c.args.self.now.leaves.items = omega (arith, c.if-class-len.false, c.len.ensures, c.args.self.now.leaves.ok.0) in
    let e = leaf_there c.args.self.now.leaves.items c.index_mut.result.now class c.in-Some.leaf lt c.index_mut.ensures.value c.in-Some.is in
    units_set n c.args.self.now.leaves.items class c.in-Some.leaf c.sent-due.new.self few e lt (omega (arith, c.sent-due.ensures.units))

pub returns-clause-passes : goal.returns-clause-passes
returns-clause-passes c = λ test curves before d turn m bound.
    let class = c.args.row.now.class in
    let M : Option ℕ → Type 0 = λ o. is_in_time c.in-Sent.end c.sent-due.result o ≡ true in
    let lt : class < length c.args.self.now.leaves.items = omega (arith, c.if-class-len.false, c.len.ensures, c.args.self.now.leaves.ok.0) in
    let e = leaf_there c.args.self.now.leaves.items c.index_mut.result.now class c.in-Some.leaf lt c.index_mut.ensures.value c.in-Some.is in
    passes_sent curves before c.args.self.now.leaves.items c.args.row.now c.in-Some.leaf c.in-Sent.start c.in-Sent.end m c.in-Sent.rule c.sent-due.result
    c.in-Sent.is d e c.sent-due.ensures.due (subst M bound (sym c.is_in_time.ensures ∙ test))

pub returns-clause-stands : goal.returns-clause-stands
returns-clause-stands c = λ curves before d turn.
    let class = c.args.row.now.class in
    let lt : class < length c.args.self.now.leaves.items = omega (arith, c.if-class-len.false, c.len.ensures, c.args.self.now.leaves.ok.0) in
    let e = leaf_there c.args.self.now.leaves.items c.index_mut.result.now class c.in-Some.leaf lt c.index_mut.ensures.value c.in-Some.is in
    dues_sent curves before c.args.self.now.leaves.items c.args.row.now c.in-Some.leaf c.sent-due.new.self c.in-Sent.start c.in-Sent.end c.in-Sent.rule
    c.in-Sent.is d e lt c.sent-due.ensures.stands

pub returns-clause-fails : goal.returns-clause-fails
returns-clause-fails c = λ test curves before d turn.
    let class = c.args.row.now.class in
    let lt : class < length c.args.self.now.leaves.items = omega (arith, c.if-class-len.false, c.len.ensures, c.args.self.now.leaves.ok.0) in
    let e = leaf_there c.args.self.now.leaves.items c.index_mut.result.now class c.in-Some.leaf lt c.index_mut.ensures.value c.in-Some.is in
    fails_sent curves before c.args.self.now.leaves.items c.args.row.now c.in-Some.leaf c.in-Sent.start c.in-Sent.end c.in-Sent.rule c.sent-due.result c.args.most
    c.in-Sent.is d e c.sent-due.ensures.due (sym c.is_in_time.ensures ∙ test)
