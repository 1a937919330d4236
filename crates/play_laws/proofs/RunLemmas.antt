-- The link's ends are those of the runs.
use Rattle.std.proofs.Common.{◌≡◌, ◌+◌, ◌∙◌, ℕ, Bool, true, false, cond, List, [], ◌∷◌, refl, ap, sym, subst, arith}
use Rattle.std.specs.Prelude.{◌==◌}
use Rattle.std.proofs.lemmas.Bool.{eqb-true}
use Rattle.altq_model.specs.History.{Event, Offered, Sent, Sending}
use Rattle.play_base.specs.Units.{units, ceil_div, time_of}
use Rattle.altq_model.specs.Link.{Link, link, run_on, after_sending, HasLinkEnds}
use Rattle.play_laws.specs.Runs.{sendings, last_end, run_start, run_bytes, AreRunEnds}

-- the link after some sendings
abbrev LinkIs : (rate : ℕ) → Link → List Sending → Type 0
LinkIs rate l [] = (l.free ≡ 0) × (l.run ≡ 0) × (l.sent ≡ 0)
LinkIs rate l (s ∷ before) = (l.free ≡ s.end) × (l.run ≡ run_start s before) × (l.sent ≡ units (run_bytes s before))

units_add : (a b : ℕ) → units (a + b) ≡ units a + units b
units_add a b = omega arith

-- what the link comes to, by a test
record Comes (rate : ℕ) (l : Link) (start bytes : ℕ) : Type 0 where
  run : l.run ≡ start
  sent : l.sent ≡ units bytes
  free : l.free ≡ start + time_of bytes rate

comes : (rate : ℕ) (l : Link) (start bytes len : ℕ) → l.run ≡ start → l.sent ≡ units bytes → Comes rate (run_on rate l.run l.sent (units len)) start (bytes + len)
comes rate l start bytes len r u =
    let s : l.sent + units len ≡ units (bytes + len) = omega (arith, u, units_add bytes len) in
    record { run = r; sent = s; free = ap (λ (n : ℕ). l.run + ceil_div n rate) s ∙ ap (λ (n : ℕ). n + time_of (bytes + len) rate) r }

begins : (rate start len : ℕ) → Comes rate (run_on rate start 0 (units len)) start len
begins rate start len =
    let s : 0 + units len ≡ units len = omega arith in
    record { run = refl; sent = s; free = ap (λ (n : ℕ). start + ceil_div n rate) s }

first_test : (rate : ℕ) (l : Link) (s : Sending) (b : Bool) → (s.start == l.free) ≡ b → LinkIs rate l []
    → Comes rate (cond b (run_on rate l.run l.sent (units s.len)) (run_on rate s.start 0 (units s.len))) s.start s.len
first_test rate l s true t i =
    let e : s.start ≡ l.free = eqb-true s.start l.free t in
    let x = comes rate l s.start 0 s.len (omega (arith, e, i.0, i.1)) (omega (arith, i.2)) in
    let z : 0 + s.len ≡ s.len = omega arith in
    let P : ℕ → Type 0 = λ n. Comes rate (run_on rate l.run l.sent (units s.len)) s.start n in
    subst P z x
first_test rate l s false t i = begins rate s.start s.len

next_test : (rate : ℕ) (l : Link) (s b : Sending) (before : List Sending) (k : Bool) → (s.start == l.free) ≡ k → LinkIs rate l (b ∷ before)
    → Comes rate (cond k (run_on rate l.run l.sent (units s.len)) (run_on rate s.start 0 (units s.len)))
    (cond k (run_start b before) s.start) (cond k (run_bytes b before + s.len) s.len)
next_test rate l s b before true t i = comes rate l (run_start b before) (run_bytes b before) s.len i.1 i.2
next_test rate l s b before false t i = begins rate s.start s.len

link_comes : (rate : ℕ) (l : Link) (s : Sending) (before : List Sending) → LinkIs rate l before
    → Comes rate (after_sending rate l s.start s.len) (run_start s before) (run_bytes s before)
link_comes rate l s [] i = first_test rate l s (s.start == l.free) refl i
link_comes rate l s (b ∷ before) i =
    let P : ℕ → Type 0 = λ n. Comes rate (after_sending rate l s.start s.len) (cond (s.start == n) (run_start b before) s.start)
    (cond (s.start == n) (run_bytes b before + s.len) s.len) in
    subst P i.0 (next_test rate l s b before (s.start == l.free) refl i)

free_last : (rate : ℕ) (l : Link) (before : List Sending) → LinkIs rate l before → l.free ≡ last_end before
free_last rate l [] i = i.0
free_last rate l (s ∷ before) i = i.0

link_is : (rate : ℕ) (h : List Event) → HasLinkEnds rate h → LinkIs rate (link rate h) (sendings h)
link_is rate [] e = (refl, refl, refl)
link_is rate (Offered a w v ∷ h) e = link_is rate h e
link_is rate (Sent s ∷ h) e =
    let x = link_comes rate (link rate h) s (sendings h) (link_is rate h e.2) in
    (sym e.1, x.run, x.sent)

pub run_ends : (rate : ℕ) (h : List Event) → HasLinkEnds rate h → AreRunEnds rate (sendings h)
run_ends rate [] e = tt
run_ends rate (Offered a w v ∷ h) e = run_ends rate h e
run_ends rate (Sent s ∷ h) e =
    let i = link_is rate h e.2 in
    let x = link_comes rate (link rate h) s (sendings h) i in
    (omega (arith, e.0, free_last rate (link rate h) (sendings h) i), e.1 ∙ x.free, run_ends rate h e.2)
