-- Where nothing but the type of service counts.
use Rattle.std.proofs.Common.{◌≡◌, ◌∙◌, ap, sym, refl, ℕ, Bool, true, false}
use Rattle.altq_model.specs.declared.Placed.{Placed}
use Rattle.flow_filter.specs.Winner.{class_of}
use Rattle.packet_heads.specs.Departing.{tos_of}
use Rattle.packet_heads.specs.Flow.{Flow, V4, V6, Other}
use Rattle.frame_classes.specs.Frames.{Classes, placed_flow, precedence_by, precedence_in}
use Rattle.frame_classes.specs.Handlings.{handling_at}

-- the type of service tells the precedence
by_tos : (marks : Bool) (f : Flow) → precedence_by marks (tos_of f) ≡ precedence_in marks f
by_tos true (V4 heads) = refl
by_tos false (V4 heads) = refl
by_tos true (V6 heads) = refl
by_tos false (V6 heads) = refl
by_tos true Other = refl
by_tos false Other = refl

pub placed_plain : (c : Classes) (f : Flow) (class tos : ℕ) (placed : Placed) → class_of c.rules f ≡ class → tos ≡ tos_of f
    → placed ≡ record { class = class; prec = precedence_by (handling_at c.handlings class).marks tos } → placed ≡ placed_flow c f
placed_plain c f class tos placed only read made =
    let at : ℕ → ℕ → Placed = λ k p. record { class = k; prec = p } in
    let marks : Bool = (handling_at c.handlings class).marks in
    made ∙ ap (λ (t : ℕ). at class (precedence_by marks t)) read
    ∙ ap (λ (p : ℕ). at class p) (by_tos marks f)
    ∙ ap (λ (k : ℕ). at k (precedence_in (handling_at c.handlings k).marks f)) (sym only)
