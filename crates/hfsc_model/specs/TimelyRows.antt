-- A packet of 1,000 bytes on a link of 8,000,000 bits per second, on which it takes 1,000,000 nanoseconds, of a class whose real-time
-- curve is that rate. It arrives at 0, so that 1,000,000 is its due moment.
use Rattle.std.specs.Prelude.{ℕ, true, List, [], ◌∷◌, Option, Some, None}
use Rattle.service_curve.specs.declared.Curve.{Curve}
use Rattle.hfsc_model.specs.Event.{HfscHistory, Enqueued, Sent}

abbrev pub link_rate : ℕ
link_rate = 8000000

abbrev pub curves_of_one : List (Option Curve)
curves_of_one = None ∷ Some (record { m1 = link_rate; d = 0; m2 = link_rate }) ∷ []

abbrev pub sent_from : (start : ℕ) → HfscHistory
sent_from start = Sent 1 1000 true start ∷ Enqueued 1 0 1000 ∷ []
