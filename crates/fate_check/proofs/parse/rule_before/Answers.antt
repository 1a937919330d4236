use Rattle.std.proofs.Common.{◌∙◌, ◌++◌, ℕ, List, Some, ap}
use Rattle.std.proofs.lemmas.Bool.Decides.{Decides-eqb}
use Rattle.std.proofs.lemmas.Slice.Eq.{strip_prefix_is}
use Rattle.altq_model.specs.declared.Rule.TheVariants.{RealTime, Share, Own, Borrow}
use Rattle.play_text.specs.Texts.{rule_word}
use Rattle.fate_check.proofs.WordLemmas.{rule_stands}
use Rattle.fate_check.proofs.parse.rule_before.Goals as goal

pub returns-then-eq : goal.returns-then-eq
returns-then-eq c =
    let behind = c.in_ok-behind.behind.now in
    let rest = c.in_ok-rest.rest.now in
    let word = strip_prefix_is Decides-eqb c.args.text.now c.as_slice.result.now (Some c.in_ok-behind.behind) c.in_ok-behind.ensures.cases in
    let comma = strip_prefix_is Decides-eqb behind c.as_slice-then-eq.result.now (Some c.in_ok-rest.rest) c.in_ok-rest.ensures.cases in
    rule_stands RealTime c.args.text.now rest
    (word
    ∙ ap (λ (front : List ℕ). front ++ behind) c.as_slice.ensures
    ∙ ap (λ (r : List ℕ). rule_word RealTime ++ r) (comma ∙ ap (λ (front : List ℕ). front ++ rest) c.as_slice-then-eq.ensures))

pub returns-in-Some : goal.returns-in-Some
returns-in-Some c =
    rule_stands Share c.args.text.now c.in-Some.rest.now
    (strip_prefix_is Decides-eqb c.args.text.now c.as_slice-2.result.now (Some c.in-Some.rest) c.in-Some.ensures.cases
    ∙ ap (λ (front : List ℕ). front ++ c.in-Some.rest.now) c.as_slice-2.ensures)

pub returns-in-Some-strip_prefix : goal.returns-in-Some-strip_prefix
returns-in-Some-strip_prefix c =
    rule_stands Own c.args.text.now c.in-Some-strip_prefix.rest.now
    (strip_prefix_is Decides-eqb c.args.text.now c.as_slice-3.result.now (Some c.in-Some-strip_prefix.rest) c.in-Some-strip_prefix.ensures.cases
    ∙ ap (λ (front : List ℕ). front ++ c.in-Some-strip_prefix.rest.now) c.as_slice-3.ensures)

pub returns-in-Some-strip_prefix-2 : goal.returns-in-Some-strip_prefix-2
returns-in-Some-strip_prefix-2 c =
    rule_stands Borrow c.args.text.now c.in-Some-strip_prefix-2.rest.now
    (strip_prefix_is Decides-eqb c.args.text.now c.as_slice-4.result.now (Some c.in-Some-strip_prefix-2.rest) c.in-Some-strip_prefix-2.ensures.cases
    ∙ ap (λ (front : List ℕ). front ++ c.in-Some-strip_prefix-2.rest.now) c.as_slice-4.ensures)
