-- In a history of HFSC no gap passes its bound.
use Rattle.std.proofs.Common.{ℕ, List, refl, subst}
use Rattle.std.specs.Prelude.{option_map, slice_get}
use Rattle.altq_model.specs.History.{Event}
use Rattle.altq_model.specs.Play.{Policy}
use Rattle.discipline.specs.Moments.{IsOrderly}
use Rattle.hfsc_model.specs.declared.HfscClass.{HfscClass}
use Rattle.hfsc_order.specs.Order.{HaveSlopes}
use Rattle.hfsc_policy.specs.Classes.{IsClassTree}
use Rattle.hfsc_policy.specs.Events.{hfsc_history}
use Rattle.fair_shares.specs.Sharing.{AreChoices}
use Rattle.fair_shares.proofs.Chosen.{orderly_choices}
use Rattle.share_gaps.specs.Rows.{rows}
use Rattle.share_gaps.specs.Watching.{gap_after}
use Rattle.share_report.specs.Report.{IsWithinBound}
use Rattle.share_report.specs.Watched.{IsHfscOver}
use Rattle.share_report.proofs.Gaps.{fair_row}

pub orderly_seen : (cs : List HfscClass) (p : Policy) (h : List Event) → IsClassTree cs → IsHfscOver cs p → IsOrderly p h → AreChoices cs (hfsc_history h)
orderly_seen cs p h tree x o = orderly_choices cs x.answer h tree (subst (λ (q : Policy). IsOrderly q h) x.is o)

pub within_bounds : (cs : List HfscClass) (p : Policy) (h : List Event) → IsClassTree cs → HaveSlopes cs → IsHfscOver cs p → IsOrderly p h
    → (row : ℕ) → IsWithinBound (option_map (gap_after cs (hfsc_history h)) (slice_get (rows cs) row))
within_bounds cs p h tree slopes x orderly row =
    fair_row cs (hfsc_history h) row (option_map (gap_after cs (hfsc_history h)) (slice_get (rows cs) row)) tree slopes (orderly_seen cs p h tree x orderly) refl
