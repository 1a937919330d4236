-- What a slot keeps of its openings.
use Rattle.std.proofs.Common.{◌≡◌, ◌≤◌, ◌<◌, ◌+◌, ℕ, Bool, true, false, List, [], ◌∷◌, None, Some, refl, sym, ap, arith, ◌∙◌}
use Rattle.std.specs.Prelude.{Option, is_some, IsSome, IsSomeAnd, if◌then◌else◌}
use Rattle.play_base.specs.Units.{units}
use Rattle.runtime_curve.specs.declared.Opening.{Opening}
use Rattle.runtime_curve.specs.declared.Running.{Running}
use Rattle.runtime_curve.specs.Opening.{opening}
use Rattle.runtime_curve.specs.Running.{last_of}
use Rattle.runtime_curve.specs.Running.{Represents}
use Rattle.runtime_curve.specs.Deadline.{deadline, soonest}
use Rattle.runtime_curve.proofs.Answered.{deadline_stands, soonest_stands}
use Rattle.service_curve.specs.declared.Curve.{Curve}
use Rattle.hfsc_model.specs.Leaf.{Leaf, Waiting, head_len, is_waiting}
use Rattle.hfsc_model.specs.RealTime.{deadline_of, head_deadline, soonest_of, has_head}
use Rattle.hfsc_eligible.specs.declared.slot.Slot.{Slot}
use Rattle.hfsc_eligible.specs.Real.{last_in, UpTo, IsOpen, RealStands, holds_head, deadline_in, soonest_in}
use Rattle.hfsc_eligible.specs.Slot.{SlotStands, slot_has_head, slot_deadline, slot_soonest}

past_last : (o : Option Opening) (count more : ℕ) → IsSome o → ((last : Opening) → o ≡ Some last → last.count ≤ count) → 0 < more
    → IsSomeAnd o (λ last. last.count < count + more)
past_last None count more i f h = absurd cc
past_last (Some last) count more i f h = let one = f last refl in omega arith

-- with a head the count passes the last opening's
pub head_passes : (real : Option Running) (r : Running) (count more len : ℕ) → real ≡ Some r → IsSome (last_of r) → UpTo count real → 1 ≤ len → more ≡ units len
    → IsSomeAnd (last_of r) (λ last. last.count < count + more)
head_passes real r count more len e i f h m = past_last (last_of r) count more i (λ last g. f last (ap last_in e ∙ g)) (omega arith)

pub begun_up_to : (b : Bool) (o : Option Opening) (at count : ℕ) → o ≡ (if b then Some (opening at count) else None) → (last : Opening) → o ≡ Some last → last.count ≤ count
begun_up_to true o at count e last f =
    let same : opening at count ≡ last = cc in
    let equal = ap (λ (x : Opening). x.count) same in
    omega arith
begun_up_to false o at count e last f = absurd cc

pub begun_open : (b : Bool) (o : Option Opening) (at count : ℕ) → o ≡ (if b then Some (opening at count) else None) → b ≡ true → is_some o ≡ true
begun_open true o at count e f = ap is_some e
begun_open false o at count e f = absurd cc

-- what a slot answers is what the definitions say of the class that it stands for
len_of : (n m : ℕ) → Some n ≡ Some m → n ≡ m
len_of n m e = cc

waiting_deadline : (r : Running) (s : Curve) (l : Leaf) (count : ℕ) (head : Option ℕ) (ws : List Waiting) → Represents r s l.openings → l.count ≡ count → head ≡ head_len ws
    → UpTo count (Some r) → ((n : ℕ) → head ≡ Some n → 1 ≤ n) → ((n : ℕ) → head ≡ Some n → IsOpen (Some r)) → deadline_in (Some r) count head ≡ deadline_of s l ws
waiting_deadline r s l count None [] stands e f up long opens = refl
waiting_deadline r s l count None (w ∷ ws) stands e f up long opens = absurd cc
waiting_deadline r s l count (Some n) [] stands e f up long opens = absurd cc
waiting_deadline r s l count (Some n) (w ∷ ws) stands e f up long opens =
    deadline_stands r s l.openings (count + units n) stands
    (head_passes (Some r) r count (units n) n refl (opens n refl r refl) up (long n refl) refl)
    ∙ ap (λ x. deadline s l.openings (x + units n)) (sym e)
    ∙ ap (λ x. deadline s l.openings (l.count + units x)) (len_of n w.len f)

pub deadline_is : (real : Option Running) (o : Option Curve) (l : Leaf) (count : ℕ) (head : Option ℕ) → RealStands real o l.openings → l.count ≡ count → head ≡ head_len l.waiting
    → UpTo count real → ((n : ℕ) → head ≡ Some n → 1 ≤ n) → ((n : ℕ) → head ≡ Some n → IsOpen real) → deadline_in real count head ≡ head_deadline o l
deadline_is None None l count head stands e f up long opens = refl
deadline_is None (Some s) l count head stands e f up long opens = absurd stands
deadline_is (Some r) None l count head stands e f up long opens = absurd stands
deadline_is (Some r) (Some s) l count head stands e f up long opens = waiting_deadline r s l count head l.waiting stands e f up long opens

waiting_soonest : (r : Running) (s : Curve) (l : Leaf) (count : ℕ) (head : Option ℕ) (ws : List Waiting) → Represents r s l.openings → l.count ≡ count → head ≡ head_len ws
    → ((n : ℕ) → head ≡ Some n → IsOpen (Some r)) → soonest_in (Some r) count head ≡ (if is_waiting ws then soonest s l.openings l.count else None)
waiting_soonest r s l count None [] stands e f opens = refl
waiting_soonest r s l count None (w ∷ ws) stands e f opens = absurd cc
waiting_soonest r s l count (Some n) [] stands e f opens = absurd cc
waiting_soonest r s l count (Some n) (w ∷ ws) stands e f opens =
    soonest_stands r s l.openings count stands (opens n refl r refl) ∙ ap (λ x. soonest s l.openings x) (sym e)

pub soonest_is : (real : Option Running) (o : Option Curve) (l : Leaf) (count : ℕ) (head : Option ℕ) → RealStands real o l.openings → l.count ≡ count → head ≡ head_len l.waiting
    → ((n : ℕ) → head ≡ Some n → IsOpen real) → soonest_in real count head ≡ soonest_of o l
soonest_is None None l count head stands e f opens = refl
soonest_is None (Some s) l count head stands e f opens = absurd stands
soonest_is (Some r) None l count head stands e f opens = absurd stands
soonest_is (Some r) (Some s) l count head stands e f opens = waiting_soonest r s l count head l.waiting stands e f opens

waiting_head : (r : Running) (head : Option ℕ) (ws : List Waiting) → head ≡ head_len ws → holds_head (Some r) head ≡ is_waiting ws
waiting_head r None [] f = refl
waiting_head r None (w ∷ ws) f = absurd cc
waiting_head r (Some n) [] f = absurd cc
waiting_head r (Some n) (w ∷ ws) f = refl

pub head_is : (real : Option Running) (o : Option Curve) (l : Leaf) (head : Option ℕ) → RealStands real o l.openings → head ≡ head_len l.waiting → holds_head real head ≡ has_head o l
head_is None None l head stands f = refl
head_is None (Some s) l head stands f = absurd stands
head_is (Some r) None l head stands f = absurd stands
head_is (Some r) (Some s) l head stands f = waiting_head r head l.waiting f

pub slot_deadline_is : (x : Slot) (o : Option Curve) (l : Leaf) → SlotStands x o l → slot_deadline x ≡ head_deadline o l
slot_deadline_is x o l y = deadline_is x.real o l x.count x.head y.real y.count y.head x.last x.head_long x.open

pub slot_soonest_is : (x : Slot) (o : Option Curve) (l : Leaf) → SlotStands x o l → slot_soonest x ≡ soonest_of o l
slot_soonest_is x o l y = soonest_is x.real o l x.count x.head y.real y.count y.head x.open

pub slot_head_is : (x : Slot) (o : Option Curve) (l : Leaf) → SlotStands x o l → slot_has_head x ≡ has_head o l
slot_head_is x o l y = head_is x.real o l x.head y.real y.head
