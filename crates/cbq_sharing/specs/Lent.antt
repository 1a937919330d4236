-- What lenders answered last.
use Rattle.std.specs.Prelude.{◌≡◌, ◌<◌, ℕ, List}
use Rattle.std.specs.List.{list_any}
use Rattle.altq_model.specs.Link.{end_of}
use Rattle.link_clock.specs.Clock.{Clock}
use Rattle.cbq_estimator.specs.Estimate.{Estimate}
use Rattle.cbq_model.specs.declared.CbqClass.{CbqClass}
use Rattle.cbq_model.specs.Tree.{lenders_up}
use Rattle.cbq_sharing.specs.declared.lent.Lent.{Lent}
use Rattle.cbq_sharing.specs.Shared.{allows_end}

-- where it has a length, the end is that of a packet of it that starts at t, and the answer is that of the lender and of those above it
pub record IsLent (cs : List CbqClass) (es : List Estimate) (clock : Clock) (t : ℕ) (last : Lent) : Type 0 where
  pub end_is : 0 < last.len → last.end ≡ end_of clock.rate clock.link t last.len
  pub lends_is : 0 < last.len → last.lends ≡ list_any (allows_end cs es last.end last.len) (lenders_up 8 cs last.lender)
