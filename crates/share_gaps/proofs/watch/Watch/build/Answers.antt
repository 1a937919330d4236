use Rattle.std.proofs.Common.{◌≡◌, ◌∙◌, List, length, arith, ap, map, subst, sym}
use Rattle.std.specs.Prelude.{replicate}
use Rattle.hfsc_model.specs.declared.HfscClass.{HfscClass}
use Rattle.hfsc_model.specs.Tree.{IsTree}
use Rattle.share_gaps.specs.declared.lead.Lead.{Lead}
use Rattle.share_gaps.specs.declared.siblings.Siblings.{Siblings}
use Rattle.share_gaps.specs.Bounds.{shares_alone}
use Rattle.share_gaps.specs.Rows.{rows}
use Rattle.share_gaps.specs.Watching.{Stand}
use Rattle.share_gaps.specs.Within.{ArePlaces, AreWithin, rate_of}
use Rattle.share_gaps.proofs.New.{length_rates, length_same, new_stands, rows_most}
use Rattle.share_gaps.proofs.Pairs.{rows_within}
use Rattle.share_gaps.proofs.watch.Watch.build.Goals as goal

pub places_of-requires-clause-rows : goal.places_of-requires-clause-rows
places_of-requires-clause-rows c =
    let most = rows_most c.args.classes.now c.requires.count in
    let same = ap length (c.deref.ensures.value ∙ c.in_ok-siblings.ensures) in
    omega (arith, most, same)

pub invariant_of-result : goal.invariant_of-result
invariant_of-result c =
    let cs = c.args.classes.now in
    let ks = c.in_ok-classes.classes.items in
    let ss = c.in_ok-siblings.siblings.items in
    let same : ks ≡ cs = c.in_ok-classes.ensures in
    let counted : length ss ≡ c.len.result = sym (ap length c.deref.ensures.value) ∙ c.deref.ensures.len ∙ sym c.len.ensures in
    record {
      alone_is = c.are_alone-alone.ensures ∙ ap shares_alone (sym same);
      is_tree = subst (λ (xs : List HfscClass). IsTree xs) (sym same) c.requires.tree.tree;
      pairs_are = c.in_ok-siblings.ensures ∙ ap rows (sym same);
      pairs_within = subst (λ (xs : List HfscClass). AreWithin (length xs) ss) (sym same) (rows_within cs ss c.in_ok-siblings.ensures);
      places_are = subst (λ (xs : List HfscClass). ArePlaces xs ss c.in_ok-places.places.items) (sym same)
          (subst (λ (xs : List Siblings). ArePlaces cs xs c.in_ok-places.places.items) c.deref.ensures.value c.in_ok-places.ensures);
      rates_are = c.in_ok-rates.ensures ∙ ap (λ (xs : List HfscClass). map rate_of xs) (sym same);
      rate_count = ap length c.in_ok-rates.ensures ∙ length_rates cs ∙ ap length (sym same);
      count = ap length c.in_ok-waiting.ensures ∙ length_same _ 0 ∙ ap length (sym same);
      lead_count = ap length c.in_ok-leads.ensures ∙ length_same _ _ ∙ sym counted;
    }

pub returns-clause-stands : goal.returns-clause-stands
returns-clause-stands c =
    let cs = c.args.classes.now in
    let ss = c.in_ok-siblings.siblings.items in
    let counted : length ss ≡ c.len.result = sym (ap length c.deref.ensures.value) ∙ c.deref.ensures.len ∙ sym c.len.ensures in
    let none : Lead = record { first = 0; second = 0; most = 0 } in
    subst (λ (xs : List HfscClass). Stand xs ss c.in_ok-waiting.waiting.items c.in_ok-leads.leads.items 0 _) (sym c.in_ok-classes.ensures)
    (new_stands cs ss c.in_ok-waiting.waiting.items c.in_ok-leads.leads.items c.requires.tree c.in_ok-waiting.ensures
    (c.in_ok-leads.ensures ∙ ap (λ n. replicate n none) (sym counted)))
