-- A red packet leaves the buckets as they would be without it.
use Rattle.std.proofs.Common.{◌≡◌, ◌≤◌, ◌+◌, ◌-◌, ◌*◌, ℕ, refl, ap, sym, ◌∙◌, subst, List, [], ◌∷◌, ◌++◌, min, arith}
use Rattle.play_base.specs.Units.{units}
use Rattle.traffic_meter.specs.declared.rule.MeterRule.{MeterRule}
use Rattle.traffic_meter.specs.declared.rule.MeterRule.TheVariants.{Single, Two}
use Rattle.traffic_meter.specs.declared.rule.Colour.TheVariants.{Red}
use Rattle.traffic_meter.specs.Buckets.{Buckets, filled, judged, paid}
use Rattle.traffic_meter.specs.History.{Metered, buckets, colour_after, colours, latest, ArrivalsAreInOrder}
use Rattle.traffic_meter.specs.Conforming.{RedChangesNone}
use Rattle.traffic_meter.proofs.Buckets.{given_on}
use Rattle.traffic_meter.proofs.Conforming.{after_moment}

abbrev holding : (t c o : ℕ) → Buckets
holding t c o = record { moment = t; committed = c; other = o }

same_buckets : (t c d o p : ℕ) → c ≡ d → o ≡ p → holding t c o ≡ holding t d p
same_buckets t c d o p e f = ap (λ n. holding t n o) e ∙ ap (λ n. holding t d n) f

-- what one bucket holds where it is filled in two times, and what the first of them leaves over
twice : (held full x y z : ℕ) → y + x ≡ z → min full (min full (held + x) + y) ≡ min full (held + z)
twice held full x y z e = omega arith

over_twice : (held full other most x y z : ℕ) → y + x ≡ z
    → min most (min most (other + (held + x - full)) + (min full (held + x) + y - full)) ≡ min most (other + (held + z - full))
over_twice held full other most x y z e = omega arith

-- a moment in between changes nothing
pub refilled : (rule : MeterRule) (b : Buckets) (s t : ℕ) → b.moment ≤ s → s ≤ t
    → filled rule (filled rule b s) t ≡ filled rule b t
refilled (Single cir cbs ebs af) b s t h k =
    let sum = given_on cir b.moment s t h k in
    same_buckets t _ _ _ _
    (twice b.committed (units cbs) (cir * (s - b.moment)) (cir * (t - s)) (cir * (t - b.moment)) sum)
    (over_twice b.committed (units cbs) b.other (units ebs) (cir * (s - b.moment)) (cir * (t - s)) (cir * (t - b.moment)) sum)
refilled (Two pir pbs cir cbs af) b s t h k =
    same_buckets t _ _ _ _
    (twice b.committed (units cbs) (cir * (s - b.moment)) (cir * (t - s)) (cir * (t - b.moment)) (given_on cir b.moment s t h k))
    (twice b.other (units pbs) (pir * (s - b.moment)) (pir * (t - s)) (pir * (t - b.moment)) (given_on pir b.moment s t h k))

after_red : (rule : MeterRule) (a : Metered) (h : List Metered) → colour_after rule h a ≡ Red
    → buckets rule (a ∷ h) ≡ filled rule (buckets rule h) a.moment
after_red rule a h red = ap (λ k. paid rule k (filled rule (buckets rule h) a.moment) (units a.len)) red

-- from the red packet on, the buckets are the same at each moment
same_filled : (rule : MeterRule) (newer : List Metered) (a : Metered) (h : List Metered) (t : ℕ) → ArrivalsAreInOrder (newer ++ a ∷ h)
    → latest (newer ++ a ∷ h) ≤ t → colour_after rule h a ≡ Red
    → filled rule (buckets rule (newer ++ a ∷ h)) t ≡ filled rule (buckets rule (newer ++ h)) t
same_filled rule [] a h t order late red =
    let P : ℕ → Type 0 = λ m. m ≤ a.moment in
    let before : (buckets rule h).moment ≤ a.moment = subst P (sym (after_moment rule h)) order.0 in
    ap (λ b. filled rule b t) (after_red rule a h red) ∙ refilled rule (buckets rule h) a.moment t before late
same_filled rule (e ∷ newer) a h t order late red =
    let same = same_filled rule newer a h e.moment order.1 order.0 red in
    ap (λ f. filled rule (paid rule (judged rule f (units e.len)) f (units e.len)) t) same

pub changes_none : (rule : MeterRule) (newer : List Metered) (a : Metered) (older : List Metered) → ArrivalsAreInOrder (newer ++ a ∷ older)
    → RedChangesNone rule newer a older
changes_none rule [] a h order = λ red. refl
changes_none rule (e ∷ newer) a h order = λ red.
    let same = same_filled rule newer a h e.moment order.1 order.0 red in
    let first = ap (λ f. judged rule f (units e.len)) same in
    let rest : colours rule newer (a ∷ h) ≡ colours rule newer h = changes_none rule newer a h order.1 red in
    cc
