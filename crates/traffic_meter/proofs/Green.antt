-- All packets are green where each stretch conforms, and nowhere else.
use Rattle.std.proofs.Common.{◌≡◌, ◌≤◌, ◌+◌, ◌-◌, ◌*◌, ℕ, Bool, true, false, refl, ap, subst, List, [], ◌∷◌, ◌++◌, min, arith}
use Rattle.std.specs.Prelude.{nat_le, if◌then◌else◌}
use Rattle.std.proofs.lemmas.Bool.Decides.{nat_tests}
use Rattle.play_base.specs.Units.{units}
use Rattle.traffic_meter.specs.declared.rule.MeterRule.{MeterRule}
use Rattle.traffic_meter.specs.declared.rule.MeterRule.TheVariants.{Single, Two}
use Rattle.traffic_meter.specs.declared.rule.Colour.TheVariants.{Green}
use Rattle.traffic_meter.specs.Buckets.{Buckets, filled, paid}
use Rattle.traffic_meter.specs.History.{Metered, buckets, latest, ArrivalsAreInOrder}
use Rattle.traffic_meter.specs.Conforming.{AreGreen, Conforms, GreenWhereConforming, allowed, amount, coloured, earliest, is_green}
use Rattle.traffic_meter.proofs.Buckets.{given_on, single_colour, two_colour}
use Rattle.traffic_meter.proofs.Conforming.{after_moment, earliest_first, green, passed}

-- a bucket's level after packets that all paid: what the newest stretch that began with a full bucket left of it
pub record Stretch (rate burst level : ℕ) (h : List Metered) : Type 0 where
  pub newest : Metered
  pub others : List Metered
  pub older : List Metered
  pub is : h ≡ newest ∷ others ++ older
  pub told : level + amount (newest ∷ others) ≡ allowed rate burst (newest ∷ others)

abbrev LevelStands : (rate burst level : ℕ) → List Metered → Type 0
LevelStands rate burst level [] = level ≡ units burst
LevelStands rate burst level (a ∷ h) = Stretch rate burst level (a ∷ h)

-- the level at a moment
abbrev level_at : (rate burst level : ℕ) → List Metered → (t : ℕ) → ℕ
level_at rate burst level h t = min (units burst) (level + rate * (t - latest h))

-- one packet alone takes no time
one_alone : (rate burst : ℕ) (a : Metered) → allowed rate burst (a ∷ []) ≡ units burst
one_alone rate burst a =
    let none : a.moment - a.moment ≡ 0 = omega arith in
    let product = ap (λ n. rate * n) none in
    omega arith

-- a stretch that begins with the newest packet
alone : (rate burst level : ℕ) (a : Metered) (h : List Metered) → level + units a.len ≡ units burst
    → Stretch rate burst level (a ∷ h)
alone rate burst level a h e =
    let time = one_alone rate burst a in
    record { newest = a; others = []; older = h; is = refl; told = omega (arith, e, time) }

-- the stretch before, and one packet more
longer : (rate burst level next : ℕ) (a : Metered) (h : List Metered) → ArrivalsAreInOrder (a ∷ h) → Stretch rate burst level h
    → next + units a.len ≡ level + rate * (a.moment - latest h) → Stretch rate burst next (a ∷ h)
longer rate burst level next a h order s e =
    let P : List Metered → Type 0 = ArrivalsAreInOrder in
    let ordered : ArrivalsAreInOrder (s.newest ∷ s.others ++ s.older) = subst P s.is order.1 in
    let last : latest h ≡ s.newest.moment = ap latest s.is in
    let gap = ap (λ t. rate * (a.moment - t)) last in
    let first = earliest_first s.newest s.others s.older ordered in
    let sum = given_on rate (earliest (s.newest ∷ s.others)) s.newest.moment a.moment first (omega (arith, order.0, last)) in
    let told = s.told in
    record {
      newest = a;
      others = s.newest ∷ s.others;
      older = s.older;
      is = ap (λ x. a ∷ x) s.is;
      told = omega (arith, e, told, gap, sum);
    }

told_by : (rate burst level next : ℕ) (a : Metered) (h : List Metered) (capped : Bool)
    → nat_le (units burst) (level + rate * (a.moment - latest h)) ≡ capped → ArrivalsAreInOrder (a ∷ h) → LevelStands rate burst level h
    → next + units a.len ≡ level_at rate burst level h a.moment → Stretch rate burst next (a ∷ h)
told_by rate burst level next a h true e order told is =
    let above : units burst ≤ level + rate * (a.moment - latest h) = grind (arith, nat_tests) in
    alone rate burst next a h (omega arith)
told_by rate burst level next a [] false e order told is = alone rate burst next a [] (omega (arith, told))
told_by rate burst level next a (b ∷ h) false e order told is =
    let below : level + rate * (a.moment - b.moment) ≤ units burst = grind (arith, nat_tests) in
    longer rate burst level next a (b ∷ h) order told (omega arith)

-- after one more packet that paid
told_after : (rate burst level next : ℕ) (a : Metered) (h : List Metered) → ArrivalsAreInOrder (a ∷ h) → LevelStands rate burst level h
    → next + units a.len ≡ level_at rate burst level h a.moment → LevelStands rate burst next (a ∷ h)
told_after rate burst level next a h =
    told_by rate burst level next a h (nat_le (units burst) (level + rate * (a.moment - latest h))) refl

enough_by : (rate burst level : ℕ) (a : Metered) (h : List Metered) → ArrivalsAreInOrder (a ∷ h) → LevelStands rate burst level h
    → Conforms rate burst (a ∷ h) → units a.len ≤ level + rate * (a.moment - latest h)
enough_by rate burst level a [] order told all =
    let one = all [] (a ∷ []) [] refl in
    omega (arith, told, one, one_alone rate burst a)
enough_by rate burst level a (b ∷ h) order told all =
    let P : List Metered → Type 0 = ArrivalsAreInOrder in
    let ordered : ArrivalsAreInOrder (told.newest ∷ told.others ++ told.older) = subst P told.is order.1 in
    let last : b.moment ≡ told.newest.moment = ap latest told.is in
    let gap = ap (λ t. rate * (a.moment - t)) last in
    let first = earliest_first told.newest told.others told.older ordered in
    let sum = given_on rate (earliest (told.newest ∷ told.others)) told.newest.moment a.moment first (omega (arith, order.0, last)) in
    let stretch = all [] (a ∷ told.newest ∷ told.others) told.older (ap (λ x. a ∷ x) told.is) in
    let before = told.told in
    omega (arith, stretch, before, gap, sum)

-- a packet finds enough where each stretch conforms
enough : (rate burst level : ℕ) (a : Metered) (h : List Metered) → ArrivalsAreInOrder (a ∷ h) → LevelStands rate burst level h
    → Conforms rate burst (a ∷ h) → units a.len ≤ level_at rate burst level h a.moment
enough rate burst level a h order told all =
    let one = all [] (a ∷ []) h refl in
    let before = enough_by rate burst level a h order told all in
    omega (arith, one, before, one_alone rate burst a)

older_conforms : (rate burst : ℕ) (a : Metered) (h : List Metered) → Conforms rate burst (a ∷ h) → Conforms rate burst h
older_conforms rate burst a h all = λ newer s older e. all (a ∷ newer) s older (ap (λ x. a ∷ x) e)

single_needs : (U committed : ℕ) (c o : Bool) → nat_le U committed ≡ c → single_colour c o ≡ Green → U ≤ committed
single_needs U committed true o e k = grind (arith, nat_tests)
single_needs U committed false true e k = absurd cc
single_needs U committed false false e k = absurd cc

single_gets : (U committed : ℕ) (c o : Bool) → nat_le U committed ≡ c → U ≤ committed → single_colour c o ≡ Green
single_gets U committed true o e k = refl
single_gets U committed false o e k = absurd (grind (arith, nat_tests))

-- a packet is green of two rates where both buckets are enough
record Enough (U held also : ℕ) : Type 0 where
  pub committed : U ≤ held
  pub other : U ≤ also

two_needs : (U committed other : ℕ) (c o : Bool) → nat_le U committed ≡ c → nat_le U other ≡ o → two_colour c o ≡ Green
    → Enough U committed other
two_needs U committed other true true e f k = record { committed = grind (arith, nat_tests); other = grind (arith, nat_tests) }
two_needs U committed other false true e f k = absurd cc
two_needs U committed other c false e f k = absurd cc

two_gets : (U committed other : ℕ) (c o : Bool) → nat_le U committed ≡ c → nat_le U other ≡ o → Enough U committed other
    → two_colour c o ≡ Green
two_gets U committed other true true e f k = refl
two_gets U committed other false true e f k = absurd (grind (arith, nat_tests, k.committed))
two_gets U committed other c false e f k = absurd (grind (arith, nat_tests, k.other))

-- the level of the committed bucket of one rate, while all are green
single_told : (cir cbs ebs af : ℕ) (h : List Metered) → ArrivalsAreInOrder h → AreGreen (Single cir cbs ebs af) h
    → LevelStands cir cbs (buckets (Single cir cbs ebs af) h).committed h
single_told cir cbs ebs af [] order all = refl
single_told cir cbs ebs af (a ∷ h) order all =
    let rule : MeterRule = Single cir cbs ebs af in
    let before : Buckets = buckets rule h in
    let f : Buckets = filled rule before a.moment in
    let U : ℕ = units a.len in
    let gap = ap (λ t. cir * (a.moment - t)) (after_moment rule h) in
    let some = single_needs U f.committed (nat_le U f.committed) (nat_le U f.other) refl all.0 in
    let left = ap (λ k. (paid rule k f U).committed) all.0 in
    told_after cir cbs before.committed (buckets rule (a ∷ h)).committed a h order (single_told cir cbs ebs af h order.1 all.1)
    (omega (arith, gap, some, left))

single_green : (cir cbs ebs af : ℕ) (h : List Metered) → ArrivalsAreInOrder h → Conforms cir cbs h → AreGreen (Single cir cbs ebs af) h
single_green cir cbs ebs af [] order all = tt
single_green cir cbs ebs af (a ∷ h) order all =
    let rule : MeterRule = Single cir cbs ebs af in
    let before : Buckets = buckets rule h in
    let f : Buckets = filled rule before a.moment in
    let U : ℕ = units a.len in
    let gap = ap (λ t. cir * (a.moment - t)) (after_moment rule h) in
    let rest : AreGreen rule h = single_green cir cbs ebs af h order.1 (older_conforms cir cbs a h all) in
    let some = enough cir cbs before.committed a h order (single_told cir cbs ebs af h order.1 rest) all in
    (single_gets U f.committed (nat_le U f.committed) (nat_le U f.other) refl (omega (arith, gap, some)), rest)

-- the levels of both buckets of two rates, while all are green
record BothTold (pir pbs cir cbs : ℕ) (b : Buckets) (h : List Metered) : Type 0 where
  pub committed : LevelStands cir cbs b.committed h
  pub other : LevelStands pir pbs b.other h

two_told : (pir pbs cir cbs af : ℕ) (h : List Metered) → ArrivalsAreInOrder h → AreGreen (Two pir pbs cir cbs af) h
    → BothTold pir pbs cir cbs (buckets (Two pir pbs cir cbs af) h) h
two_told pir pbs cir cbs af [] order all = record { committed = refl; other = refl }
two_told pir pbs cir cbs af (a ∷ h) order all =
    let rule : MeterRule = Two pir pbs cir cbs af in
    let before : Buckets = buckets rule h in
    let f : Buckets = filled rule before a.moment in
    let U : ℕ = units a.len in
    let told = two_told pir pbs cir cbs af h order.1 all.1 in
    let gap = ap (λ t. cir * (a.moment - t)) (after_moment rule h) in
    let peak_gap = ap (λ t. pir * (a.moment - t)) (after_moment rule h) in
    let some = two_needs U f.committed f.other (nat_le U f.committed) (nat_le U f.other) refl refl all.0 in
    let left = ap (λ k. (paid rule k f U).committed) all.0 in
    let peak_left = ap (λ k. (paid rule k f U).other) all.0 in
    record {
      committed = told_after cir cbs before.committed (buckets rule (a ∷ h)).committed a h order told.committed
          (omega (arith, gap, some.committed, left));
      other = told_after pir pbs before.other (buckets rule (a ∷ h)).other a h order told.other
          (omega (arith, peak_gap, some.other, peak_left));
    }

two_green : (pir pbs cir cbs af : ℕ) (h : List Metered) → ArrivalsAreInOrder h → Conforms cir cbs h → Conforms pir pbs h
    → AreGreen (Two pir pbs cir cbs af) h
two_green pir pbs cir cbs af [] order all peak = tt
two_green pir pbs cir cbs af (a ∷ h) order all peak =
    let rule : MeterRule = Two pir pbs cir cbs af in
    let before : Buckets = buckets rule h in
    let f : Buckets = filled rule before a.moment in
    let U : ℕ = units a.len in
    let rest : AreGreen rule h
    = two_green pir pbs cir cbs af h order.1 (older_conforms cir cbs a h all) (older_conforms pir pbs a h peak) in
    let told = two_told pir pbs cir cbs af h order.1 rest in
    let gap = ap (λ t. cir * (a.moment - t)) (after_moment rule h) in
    let peak_gap = ap (λ t. pir * (a.moment - t)) (after_moment rule h) in
    let some = enough cir cbs before.committed a h order told.committed all in
    let peak_some = enough pir pbs before.other a h order told.other peak in (
      two_gets U f.committed f.other (nat_le U f.committed) (nat_le U f.other) refl refl
          (record { committed = omega (arith, gap, some); other = omega (arith, peak_gap, peak_some) }),
      rest,
    )

older_green : (rule : MeterRule) (newer h : List Metered) → AreGreen rule (newer ++ h) → AreGreen rule h
older_green rule [] h all = all
older_green rule (a ∷ newer) h all = older_green rule newer h all.1

older_in_order : (newer h : List Metered) → ArrivalsAreInOrder (newer ++ h) → ArrivalsAreInOrder h
older_in_order [] h order = order
older_in_order (a ∷ newer) h order = older_in_order newer h order.1

-- the units of a stretch that is green are those of its green packets
green_amount : (rule : MeterRule) (s older : List Metered) → AreGreen rule (s ++ older) → coloured is_green rule s older ≡ amount s
green_amount rule [] h all = refl
green_amount rule (a ∷ s) h all =
    let rest = green_amount rule s h all.1 in
    let mine = ap (λ k. if is_green k then units a.len else 0) all.0 in
    omega (arith, rest, mine)

-- a stretch of green packets conforms where the green packets of each stretch do
stretches : (rule : MeterRule) (rate burst : ℕ)
    → ((s older : List Metered) → ArrivalsAreInOrder (s ++ older) → coloured is_green rule s older ≤ allowed rate burst s)
    → (h : List Metered) → ArrivalsAreInOrder h → AreGreen rule h → Conforms rate burst h
stretches rule rate burst each h order all = λ newer s older e.
    let P : List Metered → Type 0 = ArrivalsAreInOrder in
    let Q : List Metered → Type 0 = AreGreen rule in
    let ordered = older_in_order newer (s ++ older) (subst P e order) in
    let are_green = older_green rule newer (s ++ older) (subst Q e all) in
    let bound = each s older ordered in
    omega (arith, bound, green_amount rule s older are_green)

pub where_conforming : (rule : MeterRule) (h : List Metered) → ArrivalsAreInOrder h → GreenWhereConforming rule h
where_conforming (Single cir cbs ebs af) h order =
    (stretches (Single cir cbs ebs af) cir cbs (green (Single cir cbs ebs af)) h order, single_green cir cbs ebs af h order)
where_conforming (Two pir pbs cir cbs af) h order =
    let rule : MeterRule = Two pir pbs cir cbs af in (
      λ all. (
        stretches rule cir cbs (green rule) h order all,
        stretches rule pir pbs (λ s older ordered. (passed rule s older ordered).1) h order all,
      ),
      λ both. two_green pir pbs cir cbs af h order both.0 both.1,
    )
