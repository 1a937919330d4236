use Rattle.std.proofs.Common.{◌∙◌, ℕ, ap}
use Rattle.fate_judge.proofs.Walking.{row_at}
use Rattle.fate_timely.specs.Timely.{longest_then}
use Rattle.fate_timely.proofs.Listing.{longest_more}
use Rattle.fate_timely.proofs.dues.longest_time.Goals as goal

pub loop-row-preserved : goal.loop-row-preserved
loop-row-preserved c =
    let rows = c.args.rows.now in let i = c.loop-row.row-index in
    record {
      value = c.longer-longest.ensures ∙ ap (λ (n : ℕ). longest_then (row_at rows i).len (row_at rows i).fate n) c.loop-row.invariant.value
          ∙ longest_more rows i c.loop-row-test.true;
      fits = c.longer-longest.type_inv;
    }
