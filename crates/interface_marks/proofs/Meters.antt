-- The meters of a configured interface mark with one of the four classes of assured forwarding.
use Rattle.std.proofs.Common.{◌≡◌, ◌≤◌, ◌∙◌, ap, ℕ, suc, zero, List, [], ◌∷◌, Bool, true, false, refl, arith, Some, None}
use Rattle.std.specs.Prelude.{◌&&◌, IsTrue, nat_le, Option, slice_get}
use Rattle.std.specs.List.{list_all}
use Rattle.std.proofs.lemmas.Bool.{le-leb}
use Rattle.conf_tree.specs.Conditioners.{meters}
use Rattle.conf_tree.specs.Meters.{IsMeterIfAny}
use Rattle.conf_tree.specs.declared.class.Class.{Class}
use Rattle.traffic_meter.specs.declared.rule.MeterRule.{MeterRule}
use Rattle.traffic_meter.specs.declared.rule.MeterRule.TheVariants.{Single, Two}
use Rattle.marked_files.specs.Metering.{AreAssured, is_assured}

one : (o : Option MeterRule) → IsMeterIfAny o → is_assured o ≡ true
one None h = refl
one (Some (Single cir cbs ebs af)) h = le-leb af 4 h.af_most
one (Some (Two pir pbs cir cbs af)) h = le-leb af 4 h.af_most

both : (a b : Bool) → a ≡ true → b ≡ true → (a && b) ≡ true
both true b e h = h
both false b e h = absurd (cc)

pub assured : (classes : List Class) → ((k : ℕ) (c : Class) → slice_get classes k ≡ Some c → IsMeterIfAny c.meter) → AreAssured (meters classes)
assured [] h = refl
assured (c ∷ classes) h =
    both (is_assured c.meter) (list_all is_assured (meters classes)) (one c.meter (h 0 c refl)) (assured classes (λ k d at. h (suc k) d at))
