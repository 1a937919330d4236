-- The moment from which a limit lets a class be served, and the first of several moments.
use Rattle.std.proofs.Common.{◌≡◌, ◌≤◌, ◌<◌, ◌+◌, ◌⊎◌, inl, inr, ℕ, Bool, true, false, List, [], ◌∷◌, None, Some, refl, ap, sym, subst, arith, ◌∙◌}
use Rattle.std.specs.Prelude.{Option, ◌==◌, ◌&&◌, nat_lt, nat_le, max, ◌*◌, ◌-◌, is_some, if◌then◌else◌}
use Rattle.std.proofs.lemmas.Bool.Decides.{nat_tests}
use Rattle.service_curve.specs.declared.Curve.{Curve}
use Rattle.service_curve.specs.Curve.{first, time_at}
use Rattle.runtime_curve.specs.declared.Opening.{Opening}
use Rattle.runtime_curve.specs.Opening.{eligible_curve, newest}
use Rattle.runtime_curve.specs.Deadline.{deadline, later_of, reached_at, reaches, shifted, from_last}
use Rattle.ranking.specs.Order.{is_in, key_of, is_before}
use Rattle.ranking.specs.Search.{IsBeforeAll, IsRanked}
use Rattle.hfsc_model.specs.RealTime.{has_come, goes_first, IsOpenBy}
use Rattle.hfsc_model.specs.Limit.{within}
use Rattle.hfsc_model.proofs.Soonest.{eligible_from_soonest}
use Rattle.hfsc_groups.specs.Curves.{limit_opens}
use Rattle.hfsc_groups.specs.Classes.{IsLimit}
use Rattle.hfsc_groups.specs.Late.{first_key}

-- a limit's curve makes eligible by itself
own_curve : (s : Curve) → IsLimit s → eligible_curve s ≡ s
own_curve s l = go (nat_le s.m2 s.m1) refl
  where
    go : (b : Bool) → nat_le s.m2 s.m1 ≡ b → eligible_curve s ≡ s
    go true e = rw e refl
    go false e =
        let rises : s.m1 < s.m2 = grind (arith, nat_tests, e) in
        let zero = l.curve.slopes rises in
        let more = l.first in
        absurd (omega arith)

pub within_from : (o : Option Curve) (os : List Opening) (now u : ℕ) → ((s : Curve) → o ≡ Some s → IsLimit s) → IsOpenBy os now
    → within o os now u ≡ has_come (limit_opens o os u) now
within_from None os now u l by = grind (arith, nat_tests)
within_from (Some s) os now u l by =
    ap (λ (k : Curve). reaches k os now u) (sym (own_curve s (l s refl)))
    ∙ eligible_from_soonest (Some s) (record { waiting = record { at = 0; len = 0 } ∷ []; count = u; openings = os }) now by

-- a curve that never ends reaches everything
first_some : (s : Curve) (wanted : ℕ) → 1 ≤ s.m2 → is_some (first s wanted) ≡ true
first_some s wanted h = go (nat_le wanted (s.m1 * s.d)) (s.m2 == 0) refl
  where
    go : (a b : Bool) → (s.m2 == 0) ≡ b → is_some (if a then Some (time_at s.m1 wanted) else if b then None else Some (s.d + time_at s.m2 (wanted - s.m1 * s.d))) ≡ true
    go true b e = refl
    go false true e = absurd (grind (arith, nat_tests, e))
    go false false e = refl

shifted_some : (at : ℕ) (o : Option ℕ) → is_some o ≡ true → is_some (shifted at o) ≡ true
shifted_some at None e = absurd cc
shifted_some at (Some t) e = refl

pub later_some : (a b : Option ℕ) → is_some a ≡ true → is_some b ≡ true → is_some (later_of a b) ≡ true
later_some None b e f = absurd cc
later_some (Some x) None e f = absurd cc
later_some (Some x) (Some y) e f = refl

reached_some : (s : Curve) (o : Opening) (count : ℕ) → 1 ≤ s.m2 → is_some (reached_at s o count) ≡ true
reached_some s o count h = go (nat_le count o.count)
  where
    go : (b : Bool) → is_some (if b then Some 0 else shifted o.at (first s (count - o.count))) ≡ true
    go true = refl
    go false = shifted_some o.at (first s (count - o.count)) (first_some s (count - o.count) h)

pub deadline_some : (s : Curve) (os : List Opening) (count : ℕ) → 1 ≤ s.m2 → is_some (deadline s os count) ≡ true
deadline_some s [] count h = refl
deadline_some s (o ∷ os) count h = later_some (reached_at s o count) (deadline s os count) (reached_some s o count h) (deadline_some s os count h)

last_some : (last : Option Opening) (t : Option ℕ) → is_some t ≡ true → is_some (from_last last t) ≡ true
last_some None t e = e
last_some (Some o) t e = later_some t (Some o.at) e refl

pub limit_some : (o : Option Curve) (os : List Opening) (u : ℕ) → ((s : Curve) → o ≡ Some s → IsLimit s) → is_some (limit_opens o os u) ≡ true
limit_some None os u l = refl
limit_some (Some s) os u l =
    let limit = l s refl in
    let second = limit.second in
    last_some (newest os) (deadline (eligible_curve s) os u)
    (ap (λ (k : Curve). is_some (deadline k os u)) (own_curve s limit) ∙ deadline_some s os u (omega arith))

-- the later of two moments has come where both have
pub later_come : (a b : Option ℕ) (now : ℕ) → has_come (later_of a b) now ≡ (has_come a now && has_come b now)
later_come None b now = refl
later_come (Some x) None now = go (nat_le x now)
  where
    go : (b : Bool) → false ≡ (b && false)
    go true = refl
    go false = refl
later_come (Some x) (Some y) now = go (nat_le x now) (nat_le y now) refl refl
  where
    go : (a b : Bool) → nat_le x now ≡ a → nat_le y now ≡ b → nat_le (max x y) now ≡ (a && b)
    go true true e f = grind (arith, nat_tests, e, f)
    go true false e f = grind (arith, nat_tests, e, f)
    go false b e f = grind (arith, nat_tests, e)

-- what goes first comes first
pub goes_come : (a b : Option ℕ) (c d now : ℕ) → goes_first a c b d ≡ true → has_come b now ≡ true → has_come a now ≡ true
goes_come a None c d now g e = absurd cc
goes_come None (Some y) c d now g e = absurd cc
goes_come (Some x) (Some y) c d now g e = go (nat_lt x y) (nat_lt y x) refl refl g
  where
    go : (p q : Bool) → nat_lt x y ≡ p → nat_lt y x ≡ q → (if p then true else if q then false else nat_lt c d) ≡ true → nat_le x now ≡ true
    go true q f k r = grind (arith, nat_tests, e, f)
    go false true f k r = absurd cc
    go false false f k r = grind (arith, nat_tests, e, k)

-- the first key of a list in order
before_in : (keys : List (Option ℕ)) (c d : ℕ) (cs : List ℕ) → IsBeforeAll keys c cs → is_in d cs ≡ true → is_before keys c d ≡ true
before_in keys c d [] r i = absurd cc
before_in keys c d (x ∷ xs) r i = go (x == d) refl i (before_in keys c d xs r.1)
  where
    go : (b : Bool) → (x == d) ≡ b → (if b then true else is_in d xs) ≡ true → (is_in d xs ≡ true → is_before keys c d ≡ true) → is_before keys c d ≡ true
    go true e i rest = subst (λ m. is_before keys c m ≡ true) (grind (arith, nat_tests, e)) r.0
    go false e i rest = rest i

-- the first of a list in order goes before each other
pub first_before : (keys : List (Option ℕ)) (c d : ℕ) (cs : List ℕ) → IsRanked keys (c ∷ cs) → is_in d (c ∷ cs) ≡ true → (c ≡ d) ⊎ (is_before keys c d ≡ true)
first_before keys c d cs r i = go (c == d) refl i
  where
    go : (b : Bool) → (c == d) ≡ b → (if b then true else is_in d cs) ≡ true → (c ≡ d) ⊎ (is_before keys c d ≡ true)
    go true e i = inl (grind (arith, nat_tests, e))
    go false e i = inr (before_in keys c d cs r.0 i)

pub first_come_of : (keys : List (Option ℕ)) (xs : List ℕ) (d now : ℕ) → IsRanked keys xs → is_in d xs ≡ true → has_come (key_of keys d) now ≡ true
    → has_come (first_key keys xs) now ≡ true
first_come_of keys [] d now r i e = absurd cc
first_come_of keys (c ∷ cs) d now r i e = go (first_before keys c d cs r i)
  where
    go : (c ≡ d) ⊎ (is_before keys c d ≡ true) → has_come (key_of keys c) now ≡ true
    go (inl s) = subst (λ m. has_come (key_of keys m) now ≡ true) (sym s) e
    go (inr b) = goes_come (key_of keys c) (key_of keys d) c d now b e

-- no opening is later than a later moment
pub open_later : (os : List Opening) (t now : ℕ) → IsOpenBy os t → t ≤ now → IsOpenBy os now
open_later [] t now by h = tt
open_later (o ∷ os) t now by h = (let one = by.0 in omega arith, open_later os t now by.1 h)
