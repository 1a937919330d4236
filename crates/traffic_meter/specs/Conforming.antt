-- Traffic that conforms to a rate and a burst: what a rate of R bits per second gives in the time of the traffic, and the burst.
use Rattle.std.specs.Prelude.{ℕ, ◌≡◌, ◌≤◌, ◌+◌, ◌-◌, ◌*◌, ◌↔◌, Bool, true, false, if◌then◌else◌, List, [], ◌∷◌, ◌++◌}
use Rattle.play_base.specs.Units.{units}
use Rattle.traffic_meter.specs.declared.rule.MeterRule.{MeterRule}
use Rattle.traffic_meter.specs.declared.rule.MeterRule.TheVariants.{Single, Two}
use Rattle.traffic_meter.specs.declared.rule.Colour.{Colour}
use Rattle.traffic_meter.specs.declared.rule.Colour.TheVariants.{Green, Yellow, Red}
use Rattle.traffic_meter.specs.Buckets.{committed_rate, committed_burst}
use Rattle.traffic_meter.specs.History.{Metered, colour_after, colours, latest}

-- the moment of the oldest packet of a stretch
abbrev pub earliest : List Metered → ℕ
earliest [] = 0
earliest (a ∷ []) = a.moment
earliest (a ∷ b ∷ s) = earliest (b ∷ s)

-- what a rate gives from a stretch's oldest packet to its newest, and the units of a burst
abbrev pub allowed : (rate burst : ℕ) → List Metered → ℕ
allowed rate burst s = units burst + rate * (latest s - earliest s)

abbrev pub is_green : Colour → Bool
is_green Green = true
is_green Yellow = false
is_green Red = false

abbrev pub is_passed : Colour → Bool
is_passed Green = true
is_passed Yellow = true
is_passed Red = false

-- the units of those packets of a stretch, after older ones, whose colour meets a test
abbrev pub coloured : (Colour → Bool) → MeterRule → (s older : List Metered) → ℕ
coloured test rule [] h = 0
coloured test rule (a ∷ s) h =
    (if test (colour_after rule (s ++ h) a) then units a.len else 0) + coloured test rule s h

-- the units of a stretch
abbrev pub amount : List Metered → ℕ
amount [] = 0
amount (a ∷ s) = units a.len + amount s

-- the green packets of each stretch conform to the committed rate and burst
abbrev pub GreenConforms : MeterRule → (s older : List Metered) → Type 0
GreenConforms rule s h = coloured is_green rule s h ≤ allowed (committed_rate rule) (committed_burst rule) s

-- Green and yellow ones together conform to the committed rate and both bursts; with two rates, to the peak rate and burst, to
-- which the green ones conform too.
abbrev pub PassedConforms : MeterRule → (s older : List Metered) → Type 0
PassedConforms (Single cir cbs ebs af) s h = coloured is_passed (Single cir cbs ebs af) s h ≤ allowed cir (cbs + ebs) s
PassedConforms (Two pir pbs cir cbs af) s h =
    (coloured is_passed (Two pir pbs cir cbs af) s h ≤ allowed pir pbs s)
    × (coloured is_green (Two pir pbs cir cbs af) s h ≤ allowed pir pbs s)

-- without a red packet the others have the colours that they have with it
abbrev pub RedChangesNone : MeterRule → (newer : List Metered) (a : Metered) (older : List Metered) → Type 0
RedChangesNone rule newer a h =
    colour_after rule h a ≡ Red → colours rule newer (a ∷ h) ≡ colours rule newer h

abbrev pub AreGreen : MeterRule → List Metered → Type 0
AreGreen rule [] = Unit {0}
AreGreen rule (a ∷ h) = (colour_after rule h a ≡ Green) × AreGreen rule h

-- each stretch of a history conforms to a rate and a burst
abbrev pub Conforms : (rate burst : ℕ) → List Metered → Type 0
Conforms rate burst h = (newer s older : List Metered) → h ≡ newer ++ (s ++ older) → amount s ≤ allowed rate burst s

abbrev pub ConformsTo : MeterRule → List Metered → Type 0
ConformsTo (Single cir cbs ebs af) h = Conforms cir cbs h
ConformsTo (Two pir pbs cir cbs af) h = Conforms cir cbs h × Conforms pir pbs h

-- all packets are green exactly where each stretch conforms to each rate and its burst
abbrev pub GreenWhereConforming : MeterRule → List Metered → Type 0
GreenWhereConforming rule h = AreGreen rule h ↔ ConformsTo rule h
