use Rattle.std.proofs.Common.{◌≡◌, ◌+◌, ℕ, List, Some, length, ap, sym, ◌∙◌}
use Rattle.std.specs.Prelude.{◌-◌, ◌/◌, slice_get}
use Rattle.std.specs.Option.{option_copied}
use Rattle.hfsc_groups.specs.Node.{time_in}
use Rattle.hfsc_share.specs.Walk.{start_among}
use Rattle.ranking.specs.Order.{is_in}
use Rattle.hfsc_groups.proofs.Lists.{got_in}
use Rattle.hfsc_share.proofs.Starting.{start_got}
use Rattle.hfsc_share.proofs.Shares.start_in.Goals as goal

pub time_of-requires : goal.time_of-requires
time_of-requires c =
    let at : slice_get c.ranked-ranked.result.now 0 ≡ Some c.in-Some-Some.first.now = sym c.first.ensures.value ∙ ap (λ o. option_copied o) c.in-Some-Some.is-0 in
    c.requires c.in-Some-Some.first.now
    (ap (λ (xs : List ℕ). is_in c.in-Some-Some.first.now xs) (sym c.ranked-ranked.ensures) ∙ got_in c.ranked-ranked.result.now 0 c.in-Some-Some.first.now at)

pub time_of-requires-in-Some-Some : goal.time_of-requires-in-Some-Some
time_of-requires-in-Some-Some c =
    let at : slice_get c.ranked-ranked.result.now (length c.ranked-ranked.result.now - 1) ≡ Some c.in-Some-Some.last.now
    = sym c.last.ensures.value ∙ ap (λ o. option_copied o) c.in-Some-Some.is-1 in
    c.requires c.in-Some-Some.last.now
    (ap (λ (xs : List ℕ). is_in c.in-Some-Some.last.now xs) (sym c.ranked-ranked.ensures)
    ∙ got_in c.ranked-ranked.result.now (length c.ranked-ranked.result.now - 1) c.in-Some-Some.last.now at)

pub returns-in-Some-Some : goal.returns-in-Some-Some
returns-in-Some-Some c =
    let first : slice_get c.ranked-ranked.result.now 0 ≡ Some c.in-Some-Some.first.now = sym c.first.ensures.value ∙ ap (λ o. option_copied o) c.in-Some-Some.is-0 in
    let last : slice_get c.ranked-ranked.result.now (length c.ranked-ranked.result.now - 1) ≡ Some c.in-Some-Some.last.now
    = sym c.last.ensures.value ∙ ap (λ o. option_copied o) c.in-Some-Some.is-1 in
    ap (λ n. (n + c.time_of-in-Some-Some.result) / 2) c.time_of.ensures.is
    ∙ ap (λ n. (time_in (slice_get c.args.self.now.nodes.items c.in-Some-Some.first.now) + n) / 2) c.time_of-in-Some-Some.ensures.is
    ∙ start_got c.args.self.now.nodes.items c.args.group.now c.ranked-ranked.result.now c.in-Some-Some.first.now c.in-Some-Some.last.now first last
    ∙ ap (λ (xs : List ℕ). start_among c.args.self.now.nodes.items c.args.group.now xs) c.ranked-ranked.ensures
