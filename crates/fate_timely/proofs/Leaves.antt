-- What is held of a class, from packet to packet.
use Rattle.std.proofs.Common.{◌≡◌, ◌∙◌, ◌+◌, ◌-◌, ◌*◌, ◌<◌, ◌≤◌, ◌^◌, ℕ, ℤ, Bool, true, false, List, [], ◌∷◌, Option, None, Some, MatchOption, ◌⊎◌, inl, inr, refl, ap, sym, subst, arith}
use Rattle.std.specs.Prelude.{nat_le, nat_lt, ◌==◌, if◌then◌else◌, IsSomeAnd, IfSome}
use Rattle.std.proofs.lemmas.Bool.{cases_lt}
use Rattle.std.proofs.lemmas.Nat.{mul-le}
use Rattle.play_base.specs.Units.{units}
use Rattle.service_curve.specs.declared.Curve.{Curve}
use Rattle.service_curve.specs.Curve.{first, time_at}
use Rattle.service_curve.proofs.Firsts.{time_comes}
use Rattle.runtime_curve.specs.declared.Opening.{Opening}
use Rattle.runtime_curve.specs.declared.Running.{Running}
use Rattle.runtime_curve.specs.Deadline.{deadline, later_of, reached_at, shifted}
use Rattle.runtime_curve.specs.Opening.{opening}
use Rattle.runtime_curve.specs.Running.{Represents, last_of}
use Rattle.hfsc_model.specs.RealTime.{IsOpenBy}
use Rattle.hfsc_model.specs.Timely.{opens, units_of, Row as SentRow}
use Rattle.fate_timely.specs.declared.leaf.Leaf.{Leaf}
use Rattle.fate_timely.specs.Leaf.{IsLeaf, OpenBy, opens_with}
use Rattle.fate_timely.specs.Timely.{late, later, worst as worst'}

-- a moment that comes is at most this
abbrev pub Below : ℕ → Option ℕ → Type 0
Below most None = Unit {0}
Below most (Some t) = t ≤ most

later_below : (most : ℕ) (a b : Option ℕ) → Below most a → Below most b → Below most (later_of a b)
later_below most None b x y = tt
later_below most (Some a) None x y = tt
later_below most (Some a) (Some b) x y = omega arith

shifted_below : (at most : ℕ) (o : Option ℕ) → Below most o → Below (at + most) (shifted at o)
shifted_below at most None x = tt
shifted_below at most (Some t) x = omega arith

weaker_below : (a b : ℕ) (o : Option ℕ) → a ≤ b → Below a o → Below b o
weaker_below a b None le x = tt
weaker_below a b (Some t) le x = omega arith

-- what a curve ever gives it gives in its bend and a nanosecond for each unit
first_below : (s : Curve) (x : ℕ) → Below (s.d + x) (first s x)
first_below s x = go (nat_le x (s.m1 * s.d)) (s.m2 == 0) refl refl
  where
    slow : x ≤ s.m1 * s.d → (0 < s.m1) ⊎ (s.m1 ≤ 0) → time_at s.m1 x ≤ s.d + x
    slow h (inl some) = let one = time_comes s.m1 x s.d some h in omega arith
    slow h (inr none) =
        let flat : s.m1 ≡ 0 = omega arith in
        let one = ap (λ (n : ℕ). n * s.d) flat in
        let nothing : x ≡ 0 = omega arith in
        let two : time_at s.m1 x ≡ time_at 0 0 = ap (λ (n : ℕ). time_at s.m1 n) nothing ∙ ap (λ (n : ℕ). time_at n 0) flat in
        omega arith

    go : (a b : Bool) → nat_le x (s.m1 * s.d) ≡ a → (s.m2 == 0) ≡ b
        → Below (s.d + x) (if a then Some (time_at s.m1 x) else if b then None else Some (s.d + time_at s.m2 (x - s.m1 * s.d)))
    go true b e f = slow (grind (arith, e)) (cases_lt 0 s.m1)
    go false true e f = tt
    go false false e f =
        let some : 0 < s.m2 = grind (arith, f) in
        let wanted = x - s.m1 * s.d in
        let more = mul-le 1 wanted s.m2 wanted (omega (arith, some)) (omega arith) in
        let one = time_comes s.m2 wanted wanted some (omega (arith, more)) in
        omega (arith, one)

reached_below : (s : Curve) (o : Opening) (count most : ℕ) → o.at ≤ most → Below (most + (s.d + count)) (reached_at s o count)
reached_below s o count most h = go (nat_le count o.count)
  where
    go : (b : Bool) → Below (most + (s.d + count)) (if b then Some 0 else shifted o.at (first s (count - o.count)))
    go true = omega arith
    go false = weaker_below (o.at + (s.d + (count - o.count))) (most + (s.d + count)) (shifted o.at (first s (count - o.count))) (omega arith)
        (shifted_below o.at (s.d + (count - o.count)) (first s (count - o.count)) (first_below s (count - o.count)))

-- so there is a bound for each due moment
deadline_below : (s : Curve) (os : List Opening) (count most : ℕ) → IsOpenBy os most → Below (most + (s.d + count)) (deadline s os count)
deadline_below s [] count most h = omega arith
deadline_below s (o ∷ os) count most h =
    later_below (most + (s.d + count)) (reached_at s o count) (deadline s os count) (reached_below s o count most h.0) (deadline_below s os count most h.1)

some_below : (a b : ℕ) (o : Option ℕ) → a < b → Below a o → IfSome o (λ t. t < b)
some_below a b None lt x = tt
some_below a b (Some t) lt x = omega arith

-- the openings with the next packet that is sent
pub opens_next : (r : SentRow) (rs : List SentRow) → opens_with r.at rs ≡ opens (r ∷ rs)
opens_next r [] = refl
opens_next r (q ∷ rs) = refl

early_if : (b : Bool) (xs ys : List Opening) (most : ℕ) → IsOpenBy xs most → IsOpenBy ys most → IsOpenBy (if b then xs else ys) most
early_if true xs ys most x y = x
early_if false xs ys most x y = y

early_next : (at most : ℕ) (rs : List SentRow) → at ≤ most → IsOpenBy (opens rs) most → IsOpenBy (opens_with at rs) most
early_next at most [] le h = (le, tt)
early_next at most (q ∷ rs) le h =
    early_if (nat_lt q.start at) (opening at (units_of (q ∷ rs)) ∷ opens (q ∷ rs)) (opens (q ∷ rs)) most (le, h) h

pub due_bounded : (s : Curve) (rs : List SentRow) (leaf : Leaf) (at count : ℕ) (due : Option ℕ) → IsLeaf s rs leaf → at < 2 ^ 64 → count < 2 ^ 100
    → due ≡ deadline s (opens_with at rs) count → IfSome due (λ t. t < 2 ^ 120)
due_bounded s rs leaf at count due l few less e =
    let P : Option ℕ → Type 0 = λ o. Below (2 ^ 64 + (s.d + count)) o in
    let bend = l.range.bend in
    some_below (2 ^ 64 + (s.d + count)) (2 ^ 120) due (omega (arith, bend, less))
    (subst P (sym e) (deadline_below s (opens_with at rs) count (2 ^ 64) (early_next at (2 ^ 64) rs (omega (arith, few)) l.early)))

some_and : (o : Option Opening) (P Q : Opening → Type 0) → ((x : Opening) → P x → Q x) → IsSomeAnd o P → IsSomeAnd o Q
some_and None P Q h x = x
some_and (Some o) P Q h x = h o x

pub next_leaf : (s : Curve) (rs : List SentRow) (old opened new : Leaf) (r : SentRow) (due : Option ℕ) → IsLeaf s rs old
    → Represents new.running s (opens_with r.at rs) → OpenBy opened r.start → opened.running ≡ new.running → opened.units ≡ old.units
    → new.units ≡ old.units + units r.len → new.last ≡ Some r.start → r.at < 2 ^ 64
    → due ≡ deadline s (opens (r ∷ rs)) (units_of (r ∷ rs)) → new.worst ≡ later (late r.end due) old.worst → IsLeaf s (r ∷ rs) new
next_leaf s rs old opened new r due l running by same before units last early is worst =
    let P : List Opening → Type 0 = λ os. Represents new.running s os in
    let Q : List Opening → Type 0 = λ os. IsOpenBy os (2 ^ 64) in
    let R : Option ℕ → Type 0 = λ o. MatchOption o (last_of new.running ≡ None) (OpenBy new) in
    let N : Running → Type 0 = λ x. IsSomeAnd (last_of x) (λ o. (o.at ≤ r.start) × (o.count ≤ opened.units)) in
    let wider : OpenBy new r.start
    = some_and (last_of new.running) (λ o. (o.at ≤ r.start) × (o.count ≤ opened.units)) (λ o. (o.at ≤ r.start) × (o.count ≤ new.units))
    (λ o x. (x.0, omega (arith, x.1, units, before))) (subst N same by) in
    record {
      range = l.range;
      running = subst P (opens_next r rs) running;
      units = omega (arith, units, l.units);
      last = last;
      sound = subst R (sym last) wider;
      early = subst Q (opens_next r rs) (early_next r.at (2 ^ 64) rs (omega (arith, early)) l.early);
      worst = worst ∙ ap (λ (o : Option ℤ). later (late r.end due) o) l.worst ∙ ap (λ (o : Option ℕ). later (late r.end o) (worst' s rs)) is;
    }

-- the due moment of the next packet
pub due_next : (s : Curve) (rs : List SentRow) (leaf : Leaf) (r : SentRow) (count : ℕ) (due : Option ℕ) → IsLeaf s rs leaf → count ≡ leaf.units + units r.len
    → due ≡ deadline s (opens_with r.at rs) count → due ≡ deadline s (opens (r ∷ rs)) (units_of (r ∷ rs))
due_next s rs leaf r count due l n e =
    let same : count ≡ units_of (r ∷ rs) = omega (arith, n, l.units) in
    e ∙ ap (λ (os : List Opening). deadline s os count) (opens_next r rs) ∙ ap (λ (m : ℕ). deadline s (opens (r ∷ rs)) m) same
