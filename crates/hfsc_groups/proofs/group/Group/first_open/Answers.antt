use Rattle.std.proofs.Common.{◌≡◌, ◌∙◌, List, ℕ, Some, true, false, length, get_or, ap, sym, arith}
use Rattle.std.specs.Prelude.{Option, slice_get}
use Rattle.ranking.specs.Order.{key_of}
use Rattle.ranking.specs.Ranking.{order_of}
use Rattle.ranking.proofs.Orders.{find_more, find_hit}
use Rattle.hfsc_model.specs.RealTime.{has_come}
use Rattle.hfsc_groups.specs.Late.{late_keys}
use Rattle.hfsc_groups.proofs.NeverLimited.{never_limited_open}
use Rattle.hfsc_groups.proofs.group.Group.first_open.Goals as goal

pub returns-then-is_never_limited : goal.returns-then-is_never_limited
returns-then-is_never_limited c =
    c.front.ensures ∙ ap (λ (xs : List ℕ). slice_get xs 0) c.as_slice.ensures
    ∙ never_limited_open c.args.self.now c.args.now (c.is_never_limited.ensures c.if-is_never_limited.true) c.requires

pub returns-then-has_come : goal.returns-then-has_come
returns-then-has_come c =
    let len = ap (λ (xs : List ℕ). length xs) c.as_slice-class-items.ensures in
    let item = ap (λ (xs : List ℕ). get_or xs c.loop-class.class-index 0) c.as_slice-class-items.ensures in
    let here : has_come (key_of (late_keys c.args.self.now.moments) (get_or c.as_slice-class-items.result.now c.loop-class.class-index 0)) c.args.now ≡ true
    = ap (λ (k : Option ℕ). has_come k c.args.now) (sym c.key.ensures) ∙ sym c.has_come.ensures ∙ c.if-has_come.true in
    ap (λ n. Some n) item
    ∙ find_hit (λ d. has_come (key_of (late_keys c.args.self.now.moments) d) c.args.now) (order_of c.args.self.now.times) c.loop-class.class-index c.loop-class.invariant (omega arith)
    (ap (λ n. has_come (key_of (late_keys c.args.self.now.moments) n) c.args.now) (sym item) ∙ here)

pub loop-class-preserved : goal.loop-class-preserved
loop-class-preserved c =
    let len = ap (λ (xs : List ℕ). length xs) c.as_slice-class-items.ensures in
    let item = ap (λ (xs : List ℕ). get_or xs c.loop-class.class-index 0) c.as_slice-class-items.ensures in
    let here : has_come (key_of (late_keys c.args.self.now.moments) (get_or c.as_slice-class-items.result.now c.loop-class.class-index 0)) c.args.now ≡ false
    = ap (λ (k : Option ℕ). has_come k c.args.now) (sym c.key.ensures) ∙ sym c.has_come.ensures ∙ c.if-has_come.false in
    find_more (λ d. has_come (key_of (late_keys c.args.self.now.moments) d) c.args.now) (order_of c.args.self.now.times) c.loop-class.class-index c.loop-class.invariant (omega arith)
    (ap (λ n. has_come (key_of (late_keys c.args.self.now.moments) n) c.args.now) (sym item) ∙ here)
