-- The meters of classes stand for the packets of their classes.
use Rattle.std.proofs.Common.{◌≡◌, ◌≤◌, ◌<◌, ◌+◌, ◌∙◌, ap, ℕ, zero, suc, List, [], ◌∷◌, refl, arith, sym, length, slice_index_or, slice_set}
use Rattle.std.specs.Prelude.{◌==◌, ◌&&◌, nat_le, Bool, true, false, if◌then◌else◌, Option, Some, None}
use Rattle.std.specs.List.{list_all}
use Rattle.std.proofs.lemmas.Bool.{le-leb, leb-true}
use Rattle.altq_model.specs.Arrivals.{Captured}
use Rattle.traffic_meter.specs.declared.rule.MeterRule.{MeterRule}
use Rattle.traffic_meter.specs.Buckets.{Buckets}
use Rattle.traffic_meter.specs.History.{Metered, Metering, after, buckets}
use Rattle.traffic_marks.proofs.Lengths.{length-retagged}
use Rattle.traffic_marks.specs.Marked.{assured_class, history, marked_frame, metered, rule_of}
use Rattle.marked_files.specs.Metering.{AreAssured, AreReady, conditioners_from, frame_by, is_assured, is_ready, meter_after, meter_of, meters_after, new_meter, new_meters}

-- the meter of a class after packets, the newest first
abbrev pub meter_at : (class : ℕ) → Option MeterRule → List Captured → Option Metering
meter_at class None earlier = None
meter_at class (Some rule) earlier = Some (record { rule = rule; buckets = buckets rule (history class earlier) })

-- the meters of classes after packets, of which the first has this number
abbrev pub meters_at : (class : ℕ) → List (Option MeterRule) → List Captured → List (Option Metering)
meters_at class [] earlier = []
meters_at class (rule ∷ rules) earlier = meter_at class rule earlier ∷ meters_at (class + 1) rules earlier

first_new : (class : ℕ) (rule : Option MeterRule) → new_meter rule ≡ meter_at class rule []
first_new class None = refl
first_new class (Some rule) = refl

pub new_at : (class : ℕ) (rules : List (Option MeterRule)) → new_meters rules ≡ meters_at class rules []
new_at class [] = refl
new_at class (rule ∷ rules) =
    ap (λ (m : Option Metering). m ∷ new_meters rules) (first_new class rule)
    ∙ ap (λ (ms : List (Option Metering)). meter_at class rule [] ∷ ms) (new_at (class + 1) rules)

-- a packet of another class
other_history : (class : ℕ) (a : Captured) (earlier : List Captured) → (a.class == class) ≡ false → history class (a ∷ earlier) ≡ history class earlier
other_history class a earlier h = ap (λ (b : Bool). if b then metered a ∷ history class earlier else history class earlier) h

own_history : (class : ℕ) (a : Captured) (earlier : List Captured) → (a.class == class) ≡ true → history class (a ∷ earlier) ≡ metered a ∷ history class earlier
own_history class a earlier h = ap (λ (b : Bool). if b then metered a ∷ history class earlier else history class earlier) h

other_meter : (class : ℕ) (rule : Option MeterRule) (a : Captured) (earlier : List Captured) → (a.class == class) ≡ false
    → meter_at class rule earlier ≡ meter_at class rule (a ∷ earlier)
other_meter class None a earlier h = refl
other_meter class (Some rule) a earlier h =
    ap (λ (l : List Metered). Some (record { rule = rule; buckets = buckets rule l })) (sym (other_history class a earlier h))

own_meter : (class : ℕ) (rule : Option MeterRule) (a : Captured) (earlier : List Captured) → (a.class == class) ≡ true
    → meter_after (meter_at class rule earlier) (metered a) ≡ meter_at class rule (a ∷ earlier)
own_meter class None a earlier h = refl
own_meter class (Some rule) a earlier h =
    ap (λ (l : List Metered). Some (record { rule = rule; buckets = buckets rule l })) (sym (own_history class a earlier h))

others : (class : ℕ) (rules : List (Option MeterRule)) (a : Captured) (earlier : List Captured) → a.class < class
    → meters_at class rules earlier ≡ meters_at class rules (a ∷ earlier)
others class [] a earlier h = refl
others class (rule ∷ rules) a earlier h =
    let not_it : (a.class == class) ≡ false = grind (arith, h) in
    ap (λ (m : Option Metering). m ∷ meters_at (class + 1) rules earlier) (other_meter class rule a earlier not_it)
    ∙ ap (λ (ms : List (Option Metering)). meter_at class rule (a ∷ earlier) ∷ ms) (others (class + 1) rules a earlier (omega (arith, h)))

-- the meters after one more packet
pub one_more : (class at : ℕ) (rules : List (Option MeterRule)) (a : Captured) (earlier : List Captured) → a.class ≡ class + at
    → meters_after (meters_at class rules earlier) at (metered a) ≡ meters_at class rules (a ∷ earlier)
one_more class at [] a earlier h = refl
one_more class zero (rule ∷ rules) a earlier h =
    let is_it : (a.class == class) ≡ true = grind (arith, h) in
    ap (λ (m : Option Metering). m ∷ meters_at (class + 1) rules earlier) (own_meter class rule a earlier is_it)
    ∙ ap (λ (ms : List (Option Metering)). meter_at class rule (a ∷ earlier) ∷ ms) (others (class + 1) rules a earlier (omega (arith, h)))
one_more class (suc at) (rule ∷ rules) a earlier h =
    let not_it : (a.class == class) ≡ false = grind (arith, h) in
    ap (λ (m : Option Metering). m ∷ meters_after (meters_at (class + 1) rules earlier) at (metered a)) (other_meter class rule a earlier not_it)
    ∙ ap (λ (ms : List (Option Metering)). meter_at class rule (a ∷ earlier) ∷ ms) (one_more (class + 1) at rules a earlier (omega (arith, h)))

-- a class before those of the list has no conditioner there
before : (class : ℕ) (rules : List (Option MeterRule)) (n : ℕ) → n < class → rule_of (conditioners_from class rules) n ≡ None
before class [] n h = refl
before class (None ∷ rules) n h = before (class + 1) rules n (omega (arith, h))
before class (Some rule ∷ rules) n h =
    let not_it : (class == n) ≡ false = grind (arith, h) in
    ap (λ (b : Bool). if b then Some rule else rule_of (conditioners_from (class + 1) rules) n) not_it
    ∙ before (class + 1) rules n (omega (arith, h))

-- the frame that the meter of its class marks
pub frame_at : (class at : ℕ) (rules : List (Option MeterRule)) (a : Captured) (earlier : List Captured) → a.class ≡ class + at
    → frame_by (meter_of (meters_at class rules earlier) at) (metered a) a.bytes ≡ marked_frame (rule_of (conditioners_from class rules) a.class) earlier a
frame_at class at [] a earlier h = refl
frame_at class zero (None ∷ rules) a earlier h =
    ap (λ (o : Option MeterRule). marked_frame o earlier a) (sym (before (class + 1) rules a.class (omega (arith, h))))
frame_at class zero (Some rule ∷ rules) a earlier h =
    let is_it : (class == a.class) ≡ true = grind (arith, h) in
    let same : a.class ≡ class = omega (arith, h) in
    ap (λ (n : ℕ). frame_by (Some (record { rule = rule; buckets = buckets rule (history n earlier) })) (metered a) a.bytes) (sym same)
    ∙ ap (λ (b : Bool). marked_frame (if b then Some rule else rule_of (conditioners_from (class + 1) rules) a.class) earlier a) (sym is_it)
frame_at class (suc at) (None ∷ rules) a earlier h = frame_at (class + 1) at rules a earlier (omega (arith, h))
frame_at class (suc at) (Some rule ∷ rules) a earlier h =
    let not_it : (class == a.class) ≡ false = grind (arith, h) in
    frame_at (class + 1) at rules a earlier (omega (arith, h))
    ∙ ap (λ (b : Bool). marked_frame (if b then Some rule else rule_of (conditioners_from (class + 1) rules) a.class) earlier a) (sym not_it)

-- a meter's own part of what is ready
both : (a b : Bool) → (a && b) ≡ true → (a ≡ true) × (b ≡ true)
both true b h = (refl, h)
both false b h = absurd (cc)

join : (a b : Bool) → a ≡ true → b ≡ true → (a && b) ≡ true
join true b x y = y
join false b x y = absurd (cc)

-- the meter of a class is ready where all are
pub ready_at : (moment : ℕ) (ms : List (Option Metering)) (at : ℕ) → AreReady moment ms → is_ready moment (meter_of ms at) ≡ true
ready_at moment [] at h = refl
ready_at moment (m ∷ ms) zero h = (both (is_ready moment m) (list_all (is_ready moment) ms) h).0
ready_at moment (m ∷ ms) (suc at) h = ready_at moment ms at (both (is_ready moment m) (list_all (is_ready moment) ms) h).1

-- and stays so at a later moment
later_one : (n m : ℕ) (o : Option Metering) → n ≤ m → is_ready n o ≡ true → is_ready m o ≡ true
later_one n m None le h = refl
later_one n m (Some x) le h =
    let p = both (nat_le (assured_class x.rule) 4) (nat_le x.buckets.moment n) h in
    join (nat_le (assured_class x.rule) 4) (nat_le x.buckets.moment m) p.0
    (le-leb x.buckets.moment m (omega (arith, le, leb-true x.buckets.moment n p.1)))

pub ready_later : (n m : ℕ) (ms : List (Option Metering)) → n ≤ m → AreReady n ms → AreReady m ms
ready_later n m [] le h = h
ready_later n m (x ∷ xs) le h =
    let p = both (is_ready n x) (list_all (is_ready n) xs) h in
    join (is_ready m x) (list_all (is_ready m) xs) (later_one n m x le p.0) (ready_later n m xs le p.1)

-- new meters are ready
new_ready : (rule : Option MeterRule) → is_assured rule ≡ true → is_ready 0 (new_meter rule) ≡ true
new_ready None h = refl
new_ready (Some rule) h = join (nat_le (assured_class rule) 4) true h refl

pub new_are_ready : (rules : List (Option MeterRule)) → AreAssured rules → AreReady 0 (new_meters rules)
new_are_ready [] h = h
new_are_ready (rule ∷ rules) h =
    let p = both (is_assured rule) (list_all is_assured rules) h in
    join (is_ready 0 (new_meter rule)) (list_all (is_ready 0) (new_meters rules)) (new_ready rule p.0) (new_are_ready rules p.1)

-- past the list there is no meter
pub past_meter : (ms : List (Option Metering)) (class : ℕ) → length ms ≤ class → meter_of ms class ≡ None
past_meter [] class h = refl
past_meter (m ∷ ms) zero h = absurd (omega (arith, h))
past_meter (m ∷ ms) (suc class) h = past_meter ms class (omega (arith, h))

pub past_meters : (ms : List (Option Metering)) (class : ℕ) (a : Metered) → length ms ≤ class → ms ≡ meters_after ms class a
past_meters [] class a h = refl
past_meters (m ∷ ms) zero a h = absurd (omega (arith, h))
past_meters (m ∷ ms) (suc class) a h = ap (λ (l : List (Option Metering)). m ∷ l) (past_meters ms class a (omega (arith, h)))

-- the meter at a place of the list
pub at_place : (ms : List (Option Metering)) (class : ℕ) (d : Option Metering) → class < length ms → slice_index_or ms class d ≡ meter_of ms class
at_place [] class d h = absurd (omega (arith, h))
at_place (m ∷ ms) zero d h = refl
at_place (m ∷ ms) (suc class) d h = at_place ms class d (omega (arith, h))

set_is : (ms : List (Option Metering)) (class : ℕ) (a : Metered) → slice_set ms class (meter_after (meter_of ms class) a) ≡ meters_after ms class a
set_is [] class a = refl
set_is (m ∷ ms) zero a = refl
set_is (m ∷ ms) (suc class) a = ap (λ (l : List (Option Metering)). m ∷ l) (set_is ms class a)

pub set_some : (ms : List (Option Metering)) (class : ℕ) (a : Metered) (m n : Metering) → meter_of ms class ≡ Some m → n.rule ≡ m.rule
    → n.buckets ≡ after m.rule m.buckets a → slice_set ms class (Some n) ≡ meters_after ms class a
set_some ms class a m n at rule filled =
    let same : Some n ≡ meter_after (Some m) a =
    ap (λ (r : MeterRule). Some (record { rule = r; buckets = n.buckets })) rule
    ∙ ap (λ (b : Buckets). Some (record { rule = m.rule; buckets = b })) filled in
    ap (λ (o : Option Metering). slice_set ms class o) (same ∙ ap (λ (o : Option Metering). meter_after o a) (sym at)) ∙ set_is ms class a

pub set_none : (ms : List (Option Metering)) (class : ℕ) (a : Metered) (o : Option Metering) → meter_of ms class ≡ None → o ≡ None
    → slice_set ms class o ≡ meters_after ms class a
set_none ms class a o at none =
    ap (λ (p : Option Metering). slice_set ms class p) (none ∙ ap (λ (p : Option Metering). meter_after p a) (sym at)) ∙ set_is ms class a

-- what a meter makes of a frame, where it is known
pub frame_some : (ms : List (Option Metering)) (class : ℕ) (a : Metered) (frame : List ℕ) (o : Option Metering) → meter_of ms class ≡ o
    → frame_by o a frame ≡ frame_by (meter_of ms class) a frame
frame_some ms class a frame o at = ap (λ (p : Option Metering). frame_by p a frame) (sym at)

ready_set : (moment : ℕ) (ms : List (Option Metering)) (class : ℕ) (o : Option Metering) → AreReady moment ms → is_ready moment o ≡ true
    → AreReady moment (slice_set ms class o)
ready_set moment [] class o h is = h
ready_set moment (m ∷ ms) zero o h is =
    join (is_ready moment o) (list_all (is_ready moment) ms) is (both (is_ready moment m) (list_all (is_ready moment) ms) h).1
ready_set moment (m ∷ ms) (suc class) o h is =
    let p = both (is_ready moment m) (list_all (is_ready moment) ms) h in
    join (is_ready moment m) (list_all (is_ready moment) (slice_set ms class o)) p.0 (ready_set moment ms class o p.1 is)

-- the meters are ready again once one of them coloured a packet at that moment
pub ready_again : (moment : ℕ) (ms : List (Option Metering)) (class : ℕ) (m n : Metering) → AreReady moment ms → meter_of ms class ≡ Some m
    → n.rule ≡ m.rule → n.buckets.moment ≡ moment → AreReady moment (slice_set ms class (Some n))
ready_again moment ms class m n h at rule last =
    let was : is_ready moment (Some m) ≡ true = ap (is_ready moment) (sym at) ∙ ready_at moment ms class h in
    let p = both (nat_le (assured_class m.rule) 4) (nat_le m.buckets.moment moment) was in
    ready_set moment ms class (Some n) h
    (join (nat_le (assured_class n.rule) 4) (nat_le n.buckets.moment moment)
    (ap (λ (r : MeterRule). nat_le (assured_class r) 4) rule ∙ p.0)
    (le-leb n.buckets.moment moment (omega (arith, last))))

-- no meter changes how long a frame is
pub length-frame_by : (o : Option Metering) (a : Metered) (frame : List ℕ) → length (frame_by o a frame) ≡ length frame
length-frame_by None a frame = refl
length-frame_by (Some m) a frame = length-retagged frame _
