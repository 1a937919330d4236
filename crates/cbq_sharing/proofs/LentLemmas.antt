-- Who may send, by what a class and its lenders answer.
use Rattle.std.proofs.Common.{◌≡◌, ◌≤◌, ◌<◌, ◌∙◌, ℕ, Bool, true, false, List, [], ap, arith, eqb, get_or, refl, sym}
use Rattle.std.specs.declared.option.Option.{Option}
use Rattle.std.specs.Prelude.{◌||◌, int_le, int_lt, pos}
use Rattle.std.specs.List.{list_any}
use Rattle.altq_model.specs.Link.{end_of}
use Rattle.cbq_estimator.specs.Estimate.{Estimate}
use Rattle.cbq_estimator.specs.Now.{idle_now}
use Rattle.cbq_estimator.specs.Starts.{enough}
use Rattle.cbq_model.specs.declared.CbqClass.{CbqClass}
use Rattle.cbq_model.specs.Tree.{class_of, is_root, lender_of, lenders, lenders_up}
use Rattle.link_clock.specs.Clock.{Clock}
use Rattle.cbq_sharing.specs.declared.lent.Lent.{Lent}
use Rattle.cbq_sharing.specs.Lent.{IsLent}
use Rattle.cbq_sharing.specs.Shared.{allows_end, is_free, may_end, no_estimate, own_now}
use Rattle.cbq_sharing.proofs.Moments.{own_where}

module _ (cs : List CbqClass) (es : List Estimate) (clock : Clock) (t len class : ℕ) where
  abbrev end : ℕ
  end = end_of clock.rate clock.link t len

  end_by : (last : Lent) → 0 < len → IsLent cs es clock t last → last.len ≡ len → last.end ≡ end
  end_by last some x same = x.end_is (omega (arith, some, same)) ∙ ap (λ (n : ℕ). end_of clock.rate clock.link t n) same

  own_by : (last : Lent) (b : Bool) → 0 < len → IsLent cs es clock t last → last.len ≡ len → b ≡ allows_end cs es last.end len class
      → b ≡ allows_end cs es end len class
  own_by last b some x same e = e ∙ ap (λ (n : ℕ). allows_end cs es n len class) (end_by last some x same)

  any_end : (a b c : Bool) → (a || b) ≡ true → (a || (b || c)) ≡ true
  any_end true b c e = refl
  any_end false true c e = refl
  any_end false false c e = absurd (cc)

  -- a class that holds back no packet allows each
  free_allows : (b : Bool) → b ≡ is_free cs es class → b ≡ true → allows_end cs es end len class ≡ true
  free_allows b e f =
      let x : Estimate = get_or es class no_estimate in
      any_end (is_root cs class) (int_lt (pos 0) x.average) (int_le (pos (enough x.average)) (idle_now x end len)) (sym e ∙ f)

  -- a class allows a packet now exactly where its own moment is now
  pub own_is_now : clock.link.free ≤ t → allows_end cs es end len class ≡ eqb (own_now cs es clock.rate clock.link t len class) t
  own_is_now free =
      own_where (record { rate = clock.rate; tree = cs; estimates = es; credits = []; cursors = []; ended = 0 }) (λ k. []) clock.link class t len free

  pub free_is_now : clock.link.free ≤ t → (b : Bool) → b ≡ is_free cs es class → b ≡ true → b ≡ eqb (own_now cs es clock.rate clock.link t len class) t
  free_is_now free b e f = f ∙ sym (free_allows b e f) ∙ own_is_now free

  -- where the class holds back no packet
  pub free_may : (b : Bool) → b ≡ is_free cs es class → b ≡ true → true ≡ may_end cs es end len class
  free_may b e f =
      sym (ap (λ (o : Bool). o || list_any (allows_end cs es end len) (lenders cs class)) (free_allows b e f))

  -- where the class itself allows it
  pub own_allows : (last : Lent) (b : Bool) → 0 < len → IsLent cs es clock t last → last.len ≡ len → b ≡ allows_end cs es last.end len class → b ≡ true
      → true ≡ may_end cs es end len class
  own_allows last b some x same e f =
      ap (λ (o : Bool). o || list_any (allows_end cs es end len) (lenders cs class)) (sym f ∙ own_by last b some x same e)

  -- or a lender of it, and those above it, answered
  pub lender_allows : (last next : Lent) (b : Bool) → 0 < len → IsLent cs es clock t last → last.len ≡ len → b ≡ allows_end cs es last.end len class → b ≡ false
      → IsLent cs es clock t next → next.len ≡ last.len → next.lender ≡ lender_of (class_of cs class) → next.lends ≡ may_end cs es end len class
  lender_allows last next b some x same e f y size lender =
      y.lends_is (omega (arith, some, size, same))
      ∙ ap (λ (n : ℕ). list_any (allows_end cs es n next.len) (lenders_up 8 cs next.lender)) (end_by next some y (size ∙ same))
      ∙ ap (λ (n : ℕ). list_any (allows_end cs es end n) (lenders_up 8 cs next.lender)) (size ∙ same)
      ∙ ap (λ (o : Option ℕ). list_any (allows_end cs es end len) (lenders_up 8 cs o)) lender
      ∙ ap (λ (o : Bool). o || list_any (allows_end cs es end len) (lenders cs class)) (sym f ∙ own_by last b some x same e)
