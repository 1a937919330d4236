use Rattle.std.proofs.Common.{◌≡◌, ◌∙◌, ℕ, List, ◌∷◌, ap, arith, get_or, length, max, refl, subst, sym}
use Rattle.std.specs.Prelude.{is_none}
use Rattle.std.specs.declared.option.Option.{Option}
use Rattle.altq_model.specs.History.{LabelledEvent, unlabelled}
use Rattle.altq_model.specs.Link.{end_of}
use Rattle.leaf_queue.specs.declared.node.Entry.{Entry}
use Rattle.class_rows.specs.Rows.{list_in}
use Rattle.discipline.specs.Laws.{sent_of}
use Rattle.discipline.specs.Moments.{IsChoice}
use Rattle.cbq_rounds.specs.Due.{due_in}
use Rattle.cbq_estimator.specs.Estimate.{Estimate}
use Rattle.cbq_sharing.specs.Shared.{Shared, no_estimate}
use Rattle.cbq_rounds.specs.Stands.{Ruling, Represents}
use Rattle.cbq_rounds.proofs.DueLemmas.{SendsPicked, sends_picked}
use Rattle.cbq_rounds.proofs.StandsLemmas.{IsDueSending, after_steps, kept_end, none_of, ruling_after, sent_stands}
use Rattle.cbq_sharing.proofs.WaitLemmas.{first_sized, sent_waiting}
use Rattle.cbq_rounds.proofs.cbq.CbqDiscipline.sent.Given as given
use Rattle.cbq_rounds.proofs.cbq.CbqDiscipline.sent.Goals as goal
use Rattle.cbq_rounds.proofs.cbq.CbqDiscipline.sent.Goals.{After-gain_awake}

-- what is sent is what is due
picked : (g : given.Over) (c : After-gain_awake g)
    → SendsPicked c.self.inside.shares (list_in c.self.inside.rows) c.args.clock.now c.args.sending.start c.args.sending.class c.args.sending.len c.args.sending.ticket c.args.sending.rule
picked g c =
    let rate : c.args.clock.now.rate ≡ c.self.inside.shares.rate = c.requires.rate ∙ ap (λ (v : Ruling g.row.Q.Denot). v.shares.rate) (sym c.self.view_is) in
    let due = ap (λ (v : Ruling g.row.Q.Denot). due_in v.shares (list_in v.rows) c.args.clock.now c.args.sending.start) c.self.view_is ∙ c.requires.due in
    sends_picked c.self.inside.shares (list_in c.self.inside.rows) c.args.clock.now c.args.sending.start c.args.sending.class c.args.sending.len c.args.sending.ticket c.args.sending.rule
    c.requires.free rate due

pub gain_awake-requires-clause-due : goal.gain_awake-requires-clause-due
gain_awake-requires-clause-due g c =
    ap (λ (d : Ruling g.row.Q.Denot). due_in d.shares (list_in d.rows) c.args.clock.now c.args.sending.start) c.self.view_is ∙ c.requires.due

pub pay-requires : goal.pay-requires
pay-requires g c =
    let sends = picked g (goal.at.pay-requires g c).After-gain_awake in
    let tree : length c.gain_awake.new.shares.tree ≡ length c.self.inside.shares.tree = ap (λ (s : Shared). length s.tree) c.gain_awake.ensures.gains in
    record { class = omega (arith, sends.place, tree) }

pub set_last-requires-clause-class : goal.set_last-requires-clause-class
set_last-requires-clause-class g c =
    let sends = picked g (goal.at.set_last-requires-clause-class g c).After-gain_awake in
    let tree : length c.pay.new.self.tree ≡ length c.self.inside.shares.tree = ap (λ (s : Shared). length s.tree) c.pay.ensures ∙ ap (λ (s : Shared). length s.tree) c.gain_awake.ensures.gains in
    omega (arith, sends.place, tree)

pub tell-requires-clause-class : goal.tell-requires-clause-class
tell-requires-clause-class g c =
    let sends = picked g (goal.at.tell-requires-clause-class g c).After-gain_awake in
    let tree : length c.set_last.new.self.tree ≡ length c.self.inside.shares.tree =
    ap (λ (s : Shared). length s.tree) c.set_last.ensures ∙ ap (λ (s : Shared). length s.tree) c.pay.ensures ∙ ap (λ (s : Shared). length s.tree) c.gain_awake.ensures.gains in
    omega (arith, sends.place, tree)

pub tell-requires-clause-some_bytes : goal.tell-requires-clause-some_bytes
tell-requires-clause-some_bytes g c =
    let sends = picked g (goal.at.tell-requires-clause-some_bytes g c).After-gain_awake in
    let sized = first_sized (list_in c.self.inside.rows c.args.sending.class) sends.entry (c.self.invariant.sized c.args.sending.class) sends.front in
    omega (arith, sized.0, sends.of_len)

pub tell-requires-clause-few_bytes : goal.tell-requires-clause-few_bytes
tell-requires-clause-few_bytes g c =
    let sends = picked g (goal.at.tell-requires-clause-few_bytes g c).After-gain_awake in
    let sized = first_sized (list_in c.self.inside.rows c.args.sending.class) sends.entry (c.self.invariant.sized c.args.sending.class) sends.front in
    omega (arith, sized.1, sends.of_len)

pub invariant_of-self : goal.invariant_of-self
invariant_of-self g c =
    let d : Ruling g.row.Q.Denot = record { shares = c.self.inside.shares; rows = c.self.inside.rows } in
    let sends = picked g (goal.at.invariant_of-self g c).After-gain_awake in
    let steps = after_steps d.shares (list_in d.rows) c.args.clock.now c.args.sending c.is_none-emptied.result c.max-end.result c.gain_awake.new.shares c.pay.new.self
    c.set_last.new.self c.tell.new.self sends.place c.gain_awake.ensures.gains c.pay.ensures c.set_last.ensures c.tell.ensures.told in
    ruling_after g.Q.QueueRule.says d c.take.new.self c.args.sending c.tell.new.self
    (record { waiting = c.self.inside.waiting; held = c.self.inside.held; sets = c.self.inside.rings.sets.items; tops = c.self.inside.rings.tops.items })
    c.take-2.new.self c.tell.new.held c.self.invariant
    (record {
      clock = c.args.clock.now;
      end = c.max-end.result;
      emptied = c.is_none-emptied.result;
      most = g.Q.QueueRule.most;
      kept = steps;
      same = c.take.ensures.same;
      lists = c.take.ensures.lists;
    })
    (sent_waiting c.args.sending.class c.is_none-emptied.result c.self.inside.waiting c.take-2.new.self (list_in c.self.inside.rows) (list_in c.take.new.self)
    c.self.invariant.waiting c.take.ensures.lists
    (none_of c.head.result c.is_none-emptied.result c.is_none-emptied.ensures ∙ ap (λ (e : Option Entry). is_none e) c.head.ensures)
    c.take-2.ensures.here c.take-2.ensures.others)
    c.tell.ensures.here
    (λ k e.
    let z = c.tell.ensures.others k e in
    let before = ap (λ (s : Shared). s.estimates) c.set_last.ensures ∙ ap (λ (s : Shared). s.estimates) c.pay.ensures ∙ ap (λ (s : Shared). s.estimates) c.gain_awake.ensures.gains in
    record { was = c.gain_awake.ensures.fewer k z.was; same = z.same ∙ ap (λ (es : List Estimate). get_or es k no_estimate) before })
    (c.tell.ensures.moments ∙ c.gain_awake.ensures.moments)

pub returns-clause-history : goal.returns-clause-history
returns-clause-history g c =
    let d : Ruling g.row.Q.Denot = record { shares = c.self.inside.shares; rows = c.self.inside.rows } in
    let rate : c.args.clock.now.rate ≡ d.shares.rate = c.requires.rate ∙ ap (λ (v : Ruling g.row.Q.Denot). v.shares.rate) (sym c.self.view_is) in
    let due = ap (λ (v : Ruling g.row.Q.Denot). due_in v.shares (list_in v.rows) c.args.clock.now c.args.sending.start) c.self.view_is ∙ c.requires.due in
    let sends = sends_picked d.shares (list_in d.rows) c.args.clock.now c.args.sending.start c.args.sending.class c.args.sending.len c.args.sending.ticket c.args.sending.rule
    c.requires.free rate due in
    let steps = after_steps d.shares (list_in d.rows) c.args.clock.now c.args.sending c.is_none-emptied.result c.max-end.result c.gain_awake.new.shares c.pay.new.self
    c.set_last.new.self c.tell.new.self sends.place c.gain_awake.ensures.gains c.pay.ensures c.set_last.ensures c.tell.ensures.told in
    let P : Ruling g.row.Q.Denot → Type 0 = λ v. (h : List LabelledEvent) → Represents g.Q.QueueRule.stands g.Q.QueueRule.says v h
    → IsChoice c.args.sending.start c.args.clock.now (unlabelled h)
    → Represents g.Q.QueueRule.stands g.Q.QueueRule.says (record { shares = c.tell.new.self; rows = c.take.new.self }) (sent_of c.args.sending ∷ h) in
    subst P c.self.view_is (λ h s o.
    let w : IsDueSending g.Q.QueueRule.stands g.Q.QueueRule.says = record {
      from = record { ruling = d; history = h; stood = s };
      clock = c.args.clock.now;
      sending = c.args.sending;
      tree = c.last_end.ensures.tree;
      choice = o;
      free = c.requires.free;
      same_rate = rate;
      ends = c.requires.end;
      due = due;
    } in
    sent_stands g.Q.QueueRule.stands g.Q.QueueRule.says w g.Q.QueueRule.most c.take.new.self c.tell.new.self c.max-end.result c.is_none-emptied.result c.take.ensures.same
    (c.take.ensures.recorded h s.recorded _ _ refl refl)
    (none_of c.head.result c.is_none-emptied.result c.is_none-emptied.ensures ∙ ap (λ (e : Option Entry). is_none e) c.head.ensures)
    (c.max-end.ensures ∙ ap (λ (n : ℕ). max n c.last_end.result) c.requires.end
    ∙ ap (λ (n : ℕ). max (end_of c.args.clock.now.rate c.args.clock.now.link c.args.sending.start c.args.sending.len) n) c.last_end.ensures.end
    ∙ kept_end g.Q.QueueRule.stands g.Q.QueueRule.says w)
    steps)
