-- What the worked plans say.
use Rattle.std.proofs.Common.{◌≢◌}
use Rattle.std.specs.Prelude.{codes}
use Rattle.play_base.specs.View.{Everything, View}
use Rattle.play_base.proofs.ViewLaws.{keeps_fewer}
use Rattle.file_plans.specs.Plan.{IsOther}
use Rattle.file_plans.specs.Rows.{ChecksKeepAll, KeepsUncreated, MadeInOrder, checked}

pub made_in_order : (old new : View) → MadeInOrder old new
made_in_order old new x = record { arrivals = λ u. (x.order.0 u).0; departures = λ u. (x.order.1.0 u).1.0 }

other_name : codes "in" ≢ codes "out"
other_name h = cc

pub keeps_uncreated : (old new : View) → KeepsUncreated old new
keeps_uncreated old new x t u = (x.uncreated t (tt, ((tt, (other_name, tt)), (tt, (tt, tt))))).1.1.1.0 u

pub checks_keep_all : (old new : View) → ChecksKeepAll old new
checks_keep_all old new x =
    keeps_fewer (IsOther old checked) Everything (λ f. IsOther old checked (old.name f)) Everything old new (λ n _. (tt, tt)) (λ f _. (tt, tt)) x.others
