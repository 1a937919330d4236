use Rattle.std.proofs.Common.{◌≡◌, ◌∙◌, ◌+◌, ℕ, List, get_or, ap, sym, arith, drop, Some, None}
use Rattle.std.specs.Prelude.{Option, slice_set}
use Rattle.std.proofs.lemmas.List.{length-set}
use Rattle.std.proofs.lemmas.Option.{slice_get-get_or}
use Rattle.share_gaps.specs.declared.lead.Lead.{Lead}
use Rattle.share_gaps.specs.declared.siblings.Siblings.{Siblings}
use Rattle.share_gaps.specs.Serve.{second_served, after_gains, both_active, gain_of, rate_at, update_all}
use Rattle.share_gaps.proofs.Updates.{update_here, update_next}
use Rattle.share_gaps.proofs.serve.serve_seconds.Goals as goal

pub loop-row-preserved : goal.loop-row-preserved
loop-row-preserved c =
    let k = c.loop-row.row-index in
    let path = c.args.rows.now in
    let i = get_or path k 0 in
    let xs = c.loop-row.leads in
    let count = c.loop-row.invariant.count in
    let below = c.requires.rows k (omega (arith, c.loop-row-test.true)) in
    let f = λ (j : ℕ) (x : Lead). second_served c.args.siblings.now c.args.waiting.now c.args.rates.now c.args.amount j x in
    let none : Lead = record { first = 0; second = 0; most = 0 } in
    let is : c.second_served.result ≡ second_served c.args.siblings.now c.args.waiting.now c.args.rates.now c.args.amount i (get_or xs i none) =
    c.second_served.ensures
    ∙ sym (ap (λ (o : Option Siblings). elim o [ None ↦ get_or xs i none | Some s ↦ after_gains (get_or xs i none) (both_active c.args.waiting.now s) 0 (gain_of c.args.amount (rate_at c.args.rates.now s.first)) ])
    (slice_get-get_or c.args.siblings.now i (record { first = 0; second = 0 }) (let both = c.requires.leads in omega (arith, below, both)))) in
    record {
      rest = ap (λ (x : Lead). update_all f (drop (k + 1) path) (slice_set xs i x)) is
          ∙ sym (ap (λ (ys : List Lead). update_all f (drop (k + 1) path) ys) (update_here f i xs none (omega (arith, below, count))))
          ∙ sym (update_next f path k xs (omega (arith, c.loop-row-test.true)))
          ∙ c.loop-row.invariant.rest;
      count = length-set xs i c.second_served.result ∙ count;
    }
