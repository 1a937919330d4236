-- The lower of two lines, and the openings that stand for all after one more.
use Rattle.std.proofs.Common.{◌≡◌, ◌≤◌, ◌<◌, ◌+◌, ◌-◌, ◌*◌, inl, inr, ℕ, List, [], ◌∷◌, Some, refl, ap, sym, subst, arith}
use Rattle.std.proofs.lemmas.Nat.{mul-le}
use Rattle.service_curve.specs.declared.Curve.{Curve}
use Rattle.runtime_curve.specs.declared.Opening.{Opening}
use Rattle.runtime_curve.specs.declared.held.HeldOpenings.{HeldOpenings}
use Rattle.runtime_curve.specs.Held.{Lower, LowerThanAll, IsOneOf, IsUpTo, AreUpTo, StandFor, held_one}

lower_trans : (m : ℕ) (a b c : Opening) → Lower m a b → Lower m b c → Lower m a c
lower_trans m a b c x y = omega arith

lower_all : (m : ℕ) (a b : Opening) (os : List Opening) → Lower m a b → LowerThanAll m b os → LowerThanAll m a os
lower_all m a b [] x y = tt
lower_all m a b (o ∷ os) x y = (lower_trans m a b o x y.0, lower_all m a b os x y.1)

-- of two openings the lower one, r, is lower than all
pub lower_low : (m : ℕ) (old new r : Opening) (os : List Opening) → Lower m r old → Lower m r new → LowerThanAll m old os → LowerThanAll m r (new ∷ os)
lower_low m old new r os x y z = (y, lower_all m r old os x z)

pub lower_in : (old new : Opening) (os : List Opening) → IsOneOf old os → IsOneOf old (new ∷ os)
lower_in old new os x = inr x

-- up to one that is up to another
pub up_to_next : (o a b : Opening) → IsUpTo a o → IsUpTo b a → IsUpTo b o
up_to_next o a b x y =
    let one : o.at ≤ a.at = x.at in
    let two : o.count ≤ a.count = x.count in
    let three : a.at ≤ b.at = y.at in
    let four : a.count ≤ b.count = y.count in
    record { at = omega arith; count = omega arith }

up_to_more : (a b : Opening) (os : List Opening) → IsUpTo b a → AreUpTo a os → AreUpTo b os
up_to_more a b [] h x = tt
up_to_more a b (o ∷ os) h x = (up_to_next o a b x.0 h, up_to_more a b os h x.1)

pub up_to_itself : (o : Opening) → IsUpTo o o
up_to_itself o = record { at = omega arith; count = omega arith }

pub first_stands : (s : Curve) (o : Opening) (os : List Opening) → os ≡ [] → StandFor s (held_one o) (o ∷ os)
first_stands s o os e = subst (λ (l : List Opening). StandFor s (held_one o) (o ∷ l)) (sym e)
    (record { steep_in = inl refl; flat_in = inl refl; steep_low = λ e. (omega arith, tt); flat_low = (omega arith, tt); last = refl; up_to = (up_to_itself o, tt) })

-- a line that has risen by less than the slope gives in the time between two openings is lower from the second on
pub gained : (m : ℕ) (old new : Opening) → IsUpTo new old → m * (new.at - old.at) + m * old.at ≡ m * new.at
gained m old new h =
    let one : old.at ≤ new.at = h.at in
    let two : (new.at - old.at) + old.at ≡ new.at = omega arith in
    let three = ap (λ n. m * n) two in
    omega arith

pub new_lower : (m : ℕ) (old new : Opening) → IsUpTo new old → new.count - old.count ≤ m * (new.at - old.at) → Lower m new old
new_lower m old new h less = let rise = gained m old new h in let more : old.count ≤ new.count = h.count in omega arith

pub old_lower : (m : ℕ) (old new : Opening) → IsUpTo new old → m * (new.at - old.at) < new.count - old.count → Lower m old new
old_lower m old new h less = let rise = gained m old new h in let more : old.count ≤ new.count = h.count in omega arith

-- what the choice of the lower of an old opening and a new one keeps
pub record IsLower (m : ℕ) (old new r : Opening) : Type 0 where
  pub low : (os : List Opening) → LowerThanAll m old os → LowerThanAll m r (new ∷ os)
  pub one : (os : List Opening) → IsOneOf old os → IsOneOf r (new ∷ os)

-- the openings that are held stand for one opening more, by the lower of two by each slope
more_up_to : (h r : HeldOpenings) (new : Opening) (os : List Opening) → IsUpTo new h.last → r.last ≡ new → AreUpTo h.last os → AreUpTo r.last (new ∷ os)
more_up_to h r new os k e x = subst (λ (y : Opening). AreUpTo y (new ∷ os)) (sym e) (up_to_itself new, up_to_more h.last new os k x)

new_last : (r : HeldOpenings) (new : Opening) → r.last ≡ new → Some new ≡ Some r.last
new_last r new e = subst (λ (y : Opening). Some new ≡ Some y) (sym e) refl

pub more_stand : (s : Curve) (h r : HeldOpenings) (new : Opening) (os : List Opening) → StandFor s h os → IsUpTo new h.last → r.last ≡ new
    → IsLower s.m1 h.steep new r.steep → IsLower s.m2 h.flat new r.flat → StandFor s r (new ∷ os)
more_stand s h r new os x k e f g = record {
  steep_in = f.one os x.steep_in;
  flat_in = g.one os x.flat_in;
  steep_low = λ falls. f.low os (x.steep_low falls);
  flat_low = g.low os x.flat_low;
  last = new_last r new e;
  up_to = more_up_to h r new os k e x.up_to;
}

-- where the slope does not fall, by that of the second slope alone
pub one_stands : (s : Curve) (h r : HeldOpenings) (new : Opening) (os : List Opening) → StandFor s h os → IsUpTo new h.last → r.last ≡ new
    → s.m1 ≤ s.m2 → r.steep ≡ r.flat → IsLower s.m2 h.flat new r.flat → StandFor s r (new ∷ os)
one_stands s h r new os x k e rises same g = record {
  steep_in = subst (λ (y : Opening). IsOneOf y (new ∷ os)) (sym same) (g.one os x.flat_in);
  flat_in = g.one os x.flat_in;
  steep_low = λ falls. subst (λ (y : Opening). LowerThanAll s.m1 y (new ∷ os)) (sym same)
      (subst (λ m. LowerThanAll m r.flat (new ∷ os)) (equal falls) (g.low os x.flat_low));
  flat_low = g.low os x.flat_low;
  last = new_last r new e;
  up_to = more_up_to h r new os k e x.up_to;
}
  where
    equal : s.m2 ≤ s.m1 → s.m2 ≡ s.m1
    equal falls = omega arith

-- of an old opening and a new one each may be the lower
pub old_kept : (m : ℕ) (old new : Opening) → Lower m old new → IsLower m old new old
old_kept m old new low = record { low = λ os x. (low, x); one = λ os x. lower_in old new os x }

pub new_kept : (m : ℕ) (old new : Opening) → Lower m new old → IsLower m old new new
new_kept m old new low = record { low = λ os x. lower_low m old new new os low (omega arith) x; one = λ os x. inl refl }

-- an opening that is lower than an earlier one by a slope is so by a steeper one
steeper : (m n : ℕ) (a b : Opening) → m ≤ n → IsUpTo a b → Lower m a b → Lower n a b
steeper m n a b h k low =
    let one = gained m b a k in
    let two = gained n b a k in
    let three = mul-le m (a.at - b.at) n (a.at - b.at) h (omega arith) in
    omega (arith, one, two, three, low)

steeper_all : (m n : ℕ) (a : Opening) (os : List Opening) → m ≤ n → AreUpTo a os → LowerThanAll m a os → LowerThanAll n a os
steeper_all m n a [] h k low = tt
steeper_all m n a (o ∷ os) h k low = (steeper m n a o h k.0 low.0, steeper_all m n a os h k.1 low.1)

-- a new opening whose line of the second slope is the lowest stands for all
pub new_stands : (s : Curve) (h : HeldOpenings) (new : Opening) (os : List Opening) → StandFor s h os → IsUpTo new h.last → Lower s.m2 new h.flat
    → StandFor s (held_one new) (new ∷ os)
new_stands s h new os x k low =
    let lower = lower_all s.m2 new h.flat os low x.flat_low in
    let up = up_to_more h.last new os k x.up_to in
    record {
      steep_in = inl refl;
      flat_in = inl refl;
      steep_low = λ falls. (omega arith, steeper_all s.m2 s.m1 new os falls up lower);
      flat_low = (omega arith, lower);
      last = refl;
      up_to = (up_to_itself new, up);
    }
