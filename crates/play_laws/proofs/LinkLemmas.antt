-- The link never goes back.
use Rattle.std.proofs.Common.{◌≡◌, ◌≤◌, ◌<◌, ◌+◌, ◌-◌, ◌*◌, ◌/◌, ℕ, Bool, true, false, cond, List, [], ◌∷◌, refl, arith}
use Rattle.std.specs.Prelude.{◌==◌}
use Rattle.std.proofs.lemmas.Bool.{eqb-true}
use Rattle.std.proofs.lemmas.Nat.{le-div}
use Rattle.std.proofs.Math.Nat.{div-mul-le_self, div-eq_of_lt}
use Rattle.altq_model.specs.History.{Event, Offered, Sent}
use Rattle.play_base.specs.Units.{units, ceil_div}
use Rattle.altq_model.specs.Link.{Link, link, end_of, run_on}

pub ceil_grows : (a b rate : ℕ) → 0 < rate → a ≤ b → ceil_div a rate ≤ ceil_div b rate
ceil_grows a b rate pos l =
    let m : (a + (rate - 1)) / rate * rate ≤ a + (rate - 1) = div-mul-le_self (a + (rate - 1)) rate in
    le-div ((a + (rate - 1)) / rate) (b + (rate - 1)) rate pos (omega arith)

-- the link is free at the end of its run
abbrev IsRun : (rate : ℕ) → Link → Type 0
IsRun rate l = l.free ≡ l.run + ceil_div l.sent rate

run_test : (rate : ℕ) (l : Link) (start more : ℕ) (b : Bool) → IsRun rate (cond b (run_on rate l.run l.sent more) (run_on rate start 0 more))
run_test rate l start more true = refl
run_test rate l start more false = refl

is_run : (rate : ℕ) (h : List Event) → 0 < rate → IsRun rate (link rate h)
is_run rate [] pos = let z : (0 + (rate - 1)) / rate ≡ 0 = div-eq_of_lt (omega arith) in omega (arith, z)
is_run rate (Offered a w v ∷ h) pos = is_run rate h pos
is_run rate (Sent s ∷ h) pos = run_test rate (link rate h) s.start (units s.len) (s.start == (link rate h).free)

end_test : (rate : ℕ) (l : Link) (start more : ℕ) (b : Bool) → (start == l.free) ≡ b → 0 < rate → IsRun rate l
    → start ≤ (cond b (run_on rate l.run l.sent more) (run_on rate start 0 more)).free
end_test rate l start more true e pos r =
    let m = ceil_grows l.sent (l.sent + more) rate pos (omega arith) in
    let q : start ≡ l.free = eqb-true start l.free e in
    omega (arith, m, q, r)
end_test rate l start more false e pos r = omega arith

-- no end is before its start
pub end_later : (rate : ℕ) (h : List Event) (start len : ℕ) → 0 < rate → start ≤ end_of rate (link rate h) start len
end_later rate h start len pos = end_test rate (link rate h) start (units len) (start == (link rate h).free) refl pos (is_run rate h pos)
