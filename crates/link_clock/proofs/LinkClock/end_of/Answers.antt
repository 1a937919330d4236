-- One packet more takes a run's end less than 2^62 further.
use Rattle.std.proofs.Common.{◌≡◌, ◌≤◌, ◌<◌, ◌+◌, ◌^◌, ℕ, arith, subst, sym}
use Rattle.play_base.specs.Units.{ceil_div, units}
use Rattle.link_clock.proofs.Rounded.{goes_on}
use Rattle.link_clock.proofs.LinkClock.end_of.Goals as goal

bounded : (rate free run sent len bytes : ℕ) → 1000 ≤ rate → free ≡ run + ceil_div sent rate → len < 2 ^ 32 → free ≤ 2 ^ 63 → bytes ≡ len
    → run + ceil_div (sent + units bytes) rate < 2 ^ 63 + 2 ^ 62
bounded rate free run sent len bytes h e k f same =
    let P : ℕ → Type 0 = λ n. run + ceil_div (sent + units n) rate < 2 ^ 63 + 2 ^ 62 in
    subst P (sym same) (goes_on rate free run sent len h e k f)

pub run_end-requires-clause-fits : goal.run_end-requires-clause-fits
run_end-requires-clause-fits c =
    let most = bounded c.self.inside.rate c.self.inside.free c.self.inside.run c.self.inside.sent c.args.len c.from-more.result
    c.self.invariant.least c.self.invariant.ends (omega arith) (omega arith) c.from-more.ensures in
    omega (arith, most)

pub returns-then-now-self-clause-bound : goal.returns-then-now-self-clause-bound
returns-then-now-self-clause-bound c =
    let most = bounded c.self.inside.rate c.self.inside.free c.self.inside.run c.self.inside.sent c.args.len c.from-more.result
    c.self.invariant.least c.self.invariant.ends (omega arith) (omega arith) c.from-more.ensures in
    omega (arith, most, c.run_end.ensures)
