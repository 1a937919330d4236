use Rattle.std.proofs.Common.{◌∙◌, ap, sym, arith, List, Bool, [], refl, length, map, Some}
use Rattle.class_rows.specs.Rows.{holding, limit_at, limits_of, list_in}
use Rattle.hfsc_model.specs.declared.HfscClass.{HfscClass}
use Rattle.hfsc_model.specs.Tree.{is_leaf, numbers}
use Rattle.hfsc_policy.specs.Classes.{leaves}
use Rattle.std.specs.List.{filter, range_with_len}
use Rattle.hfsc_core.proofs.Building.{flags_are, holding_is}
use Rattle.hfsc_core.proofs.Standing.{seen_lens}
use Rattle.hfsc_core.proofs.hfsc.Hfsc.build.Goals as goal

pub invariant_of-result : goal.invariant_of-result
invariant_of-result g c =
    let cs = c.args.classes.now in
    let hs = c.in_ok-holds.holds.items in
    let rows = c.in_ok-rows.rows in
    let count = c.in_ok-holds.ensures.count in
    let all = holding_is (is_leaf cs) 0 hs (λ k l. c.in_ok-holds.ensures.each k (omega (arith, l, count)) ∙ ap (λ n. Some (is_leaf cs n)) (omega arith)) in
    record {
      first = c.in_ok-rows.ensures.first;
      count = ap (λ (qs : List _). length qs) c.in_ok-rows.ensures.queues ∙ c.requires.one_each ∙ sym (ap (λ (ks : List HfscClass). length ks) c.in_ok-chooser.ensures.classes);
      holds = ap (λ n. holding n rows.holds) c.in_ok-rows.ensures.first ∙ ap (λ (bs : List Bool). holding 0 bs) c.in_ok-rows.ensures.holds ∙ all
          ∙ ap (λ n. filter (is_leaf cs) (range_with_len 0 n)) count ∙ sym (ap leaves c.in_ok-chooser.ensures.classes);
      known = (
        [],
        record {
          stands = c.in_ok-chooser.ensures.stands;
          shown = λ class. seen_lens (list_in rows class) [] (c.in_ok-rows.ensures.recorded.shown class).packets;
          count = refl;
        },
      );
    }

pub returns-clause-limits : goal.returns-clause-limits
returns-clause-limits g c =
    let cs = c.args.classes.now in
    let hs = c.in_ok-holds.holds.items in
    let rows = c.in_ok-rows.rows in
    let count = c.in_ok-holds.ensures.count in
    let all = flags_are (is_leaf cs) 0 hs (λ k l. c.in_ok-holds.ensures.each k (omega (arith, l, count)) ∙ ap (λ n. Some (is_leaf cs n)) (omega arith)) in
    ap (λ n. limit_at n (limits_of g.Q.QueueRule.most rows.queues rows.holds)) c.in_ok-rows.ensures.first
    ∙ ap (λ (bs : List Bool). limit_at 0 (limits_of g.Q.QueueRule.most rows.queues bs)) (c.in_ok-rows.ensures.holds ∙ all ∙ ap (λ n. map (is_leaf cs) (range_with_len 0 n)) count)
    ∙ ap (λ (qs : List g.row.Q.Denot). limit_at 0 (limits_of g.Q.QueueRule.most qs (map (is_leaf cs) (numbers cs)))) c.in_ok-rows.ensures.queues
