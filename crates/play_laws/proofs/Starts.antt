-- The least moment at which a class may send.
use Rattle.std.proofs.Common.{◌≡◌, ◌≤◌, ◌∙◌, ◌⊎◌, inl, inr, ℕ, min, max, List, [], ◌∷◌, None, Some, refl, ap, sym, arith}
use Rattle.std.specs.declared.option.Option.{Option}
use Rattle.altq_model.specs.History.{Arrival, Event, head}
use Rattle.altq_model.specs.Play.{Policy, class_start, first_start, lesser}
use Rattle.altq_model.specs.Lawful.{IsOneOf}

-- of two, one is the lesser
lesser_is : (o q : Option ℕ) (s : ℕ) → lesser o q ≡ Some s → (o ≡ Some s) ⊎ (q ≡ Some s)
lesser_is None q s e = inr e
lesser_is (Some x) None s e = inl e
lesser_is (Some x) (Some y) s e =
    let m : min x y ≡ s = cc in
    let f : (x ≡ s) ⊎ (y ≡ s) = grind arith in
    elim f as (λ _. (Some x ≡ Some s) ⊎ (Some y ≡ Some s)) [ inl h ↦ inl (ap (λ (n : ℕ). Some n) h) | inr h ↦ inr (ap (λ (n : ℕ). Some n) h) ]

lesser_left : (o q : Option ℕ) (s t : ℕ) → lesser o q ≡ Some s → o ≡ Some t → s ≤ t
lesser_left None q s t e f = absurd (cc)
lesser_left (Some x) None s t e f = let m : x ≡ s = cc in let n : x ≡ t = cc in omega arith
lesser_left (Some x) (Some y) s t e f = let m : min x y ≡ s = cc in let n : x ≡ t = cc in omega arith

-- the second is there, and not below what is the lesser
lesser_right : (o q : Option ℕ) (s t : ℕ) → lesser o q ≡ Some s → q ≡ Some t → s ≤ t
lesser_right None q s t e f = let m : s ≡ t = cc in omega arith
lesser_right (Some x) None s t e f = absurd (cc)
lesser_right (Some x) (Some y) s t e f = let m : min x y ≡ s = cc in let n : y ≡ t = cc in omega arith

lesser_none : (o q : Option ℕ) → lesser o q ≡ None → (o ≡ None) × (q ≡ None)
lesser_none None q e = (refl, e)
lesser_none (Some x) None e = absurd (cc)
lesser_none (Some x) (Some y) e = absurd (cc)

-- a class that may send at the least moment
pub record First (p : Policy) (free : ℕ) (h : List Event) (cs : List ℕ) (s : ℕ) : Type 0 where
  pub class : ℕ
  pub one : IsOneOf class cs
  pub start : class_start p free h class ≡ Some s

first_case : (p : Policy) (free : ℕ) (h : List Event) (c : ℕ) (cs : List ℕ) (s : ℕ) → (first_start p free h cs ≡ Some s → First p free h cs s)
    → (class_start p free h c ≡ Some s) ⊎ (first_start p free h cs ≡ Some s) → First p free h (c ∷ cs) s
first_case p free h c cs s f (inl e) = record { class = c; one = inl refl; start = e }
first_case p free h c cs s f (inr e) = let x = f e in record { class = x.class; one = inr x.one; start = x.start }

pub first_of : (p : Policy) (free : ℕ) (h : List Event) (cs : List ℕ) (s : ℕ) → first_start p free h cs ≡ Some s → First p free h cs s
first_of p free h [] s e = absurd (cc)
first_of p free h (c ∷ cs) s e = first_case p free h c cs s (first_of p free h cs s) (lesser_is (class_start p free h c) (first_start p free h cs) s e)

-- where a class may send, there is a least moment
pub record Least (p : Policy) (free : ℕ) (h : List Event) (cs : List ℕ) (t : ℕ) : Type 0 where
  pub start : ℕ
  pub is : first_start p free h cs ≡ Some start
  pub least : start ≤ t

least_here : (o q : Option ℕ) (t : ℕ) → o ≡ Some t → (s : ℕ) × ((lesser o q ≡ Some s) × (s ≤ t))
least_here None q t e = absurd (cc)
least_here (Some x) None t e = let n : x ≡ t = cc in (x, (refl, omega arith))
least_here (Some x) (Some y) t e = let n : x ≡ t = cc in (min x y, (refl, omega arith))

least_there : (o q : Option ℕ) (t : ℕ) → q ≡ Some t → (s : ℕ) × ((lesser o q ≡ Some s) × (s ≤ t))
least_there None q t e = (t, (e, omega arith))
least_there (Some x) None t e = absurd (cc)
least_there (Some x) (Some y) t e = let n : y ≡ t = cc in (min x y, (refl, omega arith))

least_case : (p : Policy) (free : ℕ) (h : List Event) (d : ℕ) (cs : List ℕ) (c t : ℕ) → class_start p free h c ≡ Some t
    → (IsOneOf c cs → Least p free h cs t) → (d ≡ c) ⊎ IsOneOf c cs → Least p free h (d ∷ cs) t
least_case p free h d cs c t e f (inl q) =
    let x = least_here (class_start p free h d) (first_start p free h cs) t (ap (class_start p free h) q ∙ e) in
    record { start = x.0; is = x.1.0; least = x.1.1 }
least_case p free h d cs c t e f (inr i) =
    let y = f i in
    let x = least_there (class_start p free h d) (first_start p free h cs) y.start y.is in
    record { start = x.0; is = x.1.0; least = omega (arith, x.1.1, y.least) }

pub least_of : (p : Policy) (free : ℕ) (h : List Event) (cs : List ℕ) (c t : ℕ) → IsOneOf c cs → class_start p free h c ≡ Some t → Least p free h cs t
least_of p free h [] c t i e = absurd i
least_of p free h (d ∷ cs) c t i e = least_case p free h d cs c t e (λ x. least_of p free h cs c t x e) i

pub least_is : (p : Policy) (free : ℕ) (h : List Event) (cs : List ℕ) (c s t : ℕ) → first_start p free h cs ≡ Some s → IsOneOf c cs → class_start p free h c ≡ Some t → s ≤ t
least_is p free h cs c s t e i f = let x = least_of p free h cs c t i f in let same : Some s ≡ Some x.start = sym e ∙ x.is in let q : s ≡ x.start = cc in omega (arith, x.least, q)

-- the start of a class is its head's
pub record Head (p : Policy) (free : ℕ) (h : List Event) (c s : ℕ) : Type 0 where
  pub packet : Arrival
  pub front : head c h ≡ Some packet
  pub start : p.start_from h c (max free packet.at) ≡ s

head_case : (p : Policy) (free : ℕ) (h : List Event) (c s : ℕ) (o : Option Arrival) → head c h ≡ o → class_start p free h c ≡ Some s → Head p free h c s
head_case p free h c s None e f = let q : class_start p free h c ≡ None = rw e refl in absurd (cc)
head_case p free h c s (Some a) e f =
    let q : class_start p free h c ≡ Some (p.start_from h c (max free a.at)) = rw e refl in
    record { packet = a; front = e; start = let r : Some (p.start_from h c (max free a.at)) ≡ Some s = sym q ∙ f in cc }

pub head_of : (p : Policy) (free : ℕ) (h : List Event) (c s : ℕ) → class_start p free h c ≡ Some s → Head p free h c s
head_of p free h c s e = head_case p free h c s (head c h) refl e

pub start_of : (p : Policy) (free : ℕ) (h : List Event) (c : ℕ) (a : Arrival) → head c h ≡ Some a → class_start p free h c ≡ Some (p.start_from h c (max free a.at))
start_of p free h c a e = rw e refl

none_case : (p : Policy) (free : ℕ) (h : List Event) (c : ℕ) (o : Option Arrival) → head c h ≡ o → class_start p free h c ≡ None → head c h ≡ None
none_case p free h c None e f = e
none_case p free h c (Some a) e f = let q = start_of p free h c a e in absurd (cc)

none_step : (p : Policy) (free : ℕ) (h : List Event) (d : ℕ) (cs : List ℕ) (c : ℕ) → class_start p free h d ≡ None
    → (IsOneOf c cs → head c h ≡ None) → (d ≡ c) ⊎ IsOneOf c cs → head c h ≡ None
none_step p free h d cs c e f (inl q) = none_case p free h c (head c h) refl (ap (class_start p free h) (sym q) ∙ e)
none_step p free h d cs c e f (inr i) = f i

-- where no class may ever send, nothing waits
pub none_waits : (p : Policy) (free : ℕ) (h : List Event) (cs : List ℕ) (c : ℕ) → first_start p free h cs ≡ None → IsOneOf c cs → head c h ≡ None
none_waits p free h [] c e i = absurd i
none_waits p free h (d ∷ cs) c e i =
    let x = lesser_none (class_start p free h d) (first_start p free h cs) e in
    none_step p free h d cs c x.0 (none_waits p free h cs c x.1) i
