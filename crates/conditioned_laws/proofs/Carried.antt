-- The frames of a class carry the colours of its meter.
use Rattle.std.proofs.Common.{◌≡◌, ◌∙◌, ap, sym, subst, refl, ℕ, Bool, true, false, List, [], ◌∷◌, ◌++◌, append-nil, max, arith}
use Rattle.std.specs.Prelude.{◌==◌, if◌then◌else◌, Some, Option}
use Rattle.std.proofs.lemmas.Bool.Decides.{nat_tests}
use mathlib.Core.List.{reverse_aux}
use Rattle.altq_model.specs.declared.Placed.{Placed}
use Rattle.altq_model.specs.Arrivals.{Captured, arrivals_from, arrivals_of}
use Rattle.capture_model.specs.Capture.{Record}
use Rattle.traffic_meter.specs.declared.rule.Colour.{Colour}
use Rattle.traffic_meter.specs.declared.rule.MeterRule.{MeterRule}
use Rattle.traffic_meter.specs.History.{ArrivalsAreInOrder, Metered, colour_after, colours}
use Rattle.traffic_meter.proofs.Conforming as conforming
use Rattle.traffic_marks.specs.Laws.{recaptured}
use Rattle.traffic_marks.specs.Marked.{Conditioner, Conditioning, coloured_frame, frames, history, marked_frame, marked_frames, metered, rule_of}
use Rattle.conditioned_laws.specs.Metered.{IsMetered, asked, coloured_frames, frames_of}
use Rattle.conditioned_laws.proofs.Order.{arrival_of, in_order, stretch_in_order}

-- the colours of the packets of a class, in the order in which they come, behind earlier ones
abbrev colours_on : (class : ℕ) → MeterRule → (earlier arrived : List Captured) → List Colour
colours_on class rule earlier [] = []
colours_on class rule earlier (a ∷ rest) =
    if a.class == class then colour_after rule (history class earlier) (metered a) ∷ colours_on class rule (a ∷ earlier) rest
    else colours_on class rule (a ∷ earlier) rest

as_they_come : (class : ℕ) (rule : MeterRule) (arrived earlier : List Captured)
    → reverse_aux (colours rule (history class (reverse_aux arrived earlier)) []) []
    ≡ reverse_aux (colours rule (history class earlier) []) (colours_on class rule earlier arrived)
as_they_come class rule [] earlier = refl
as_they_come class rule (a ∷ rest) earlier = as_they_come class rule rest (a ∷ earlier) ∙ go (a.class == class)
  where
    older : List Metered
    older = history class earlier

    later : List Colour
    later = colours_on class rule (a ∷ earlier) rest

    go : (b : Bool) → reverse_aux (colours rule (if b then metered a ∷ older else older) []) later
        ≡ reverse_aux (colours rule older []) (if b then colour_after rule older (metered a) ∷ later else later)
    go true = ap (λ (h : List Metered). reverse_aux (colours rule older []) (colour_after rule h (metered a) ∷ later)) (append-nil older)
    go false = refl

carried_on : (place : List ℕ → Placed) (class m : ℕ) (cs : List Conditioner) (rule : MeterRule) (rs : List Record) (earlier : List Captured)
    → rule_of cs class ≡ Some rule
    → frames_of place class rs (recaptured rs (marked_frames cs earlier (arrivals_from place m rs)))
    ≡ coloured_frames rule (colours_on class rule earlier (arrivals_from place m rs)) (frames_of place class rs rs)
carried_on place class m cs rule [] earlier e = refl
carried_on place class m cs rule (r ∷ rs) earlier e =
    go ((place r.captured).class == class) refl (carried_on place class (max m r.stamp) cs rule rs (a ∷ earlier) e)
  where
    a : Captured
    a = arrival_of place m r

    rest : List Captured
    rest = arrivals_from place (max m r.stamp) rs

    made : List (List ℕ)
    made = frames_of place class rs (recaptured rs (marked_frames cs (a ∷ earlier) rest))

    came : List (List ℕ)
    came = frames_of place class rs rs

    later : List Colour
    later = colours_on class rule (a ∷ earlier) rest

    own : ((place r.captured).class == class) ≡ true
        → marked_frame (rule_of cs a.class) earlier a ≡ coloured_frame rule (colour_after rule (history class earlier) (metered a)) r.captured
    own t =
        let same : (place r.captured).class ≡ class = grind (arith, nat_tests, t) in
        ap (λ (k : ℕ). marked_frame (rule_of cs k) earlier a) same
        ∙ ap (λ (o : Option MeterRule). marked_frame o earlier a) e
        ∙ ap (λ (k : ℕ). coloured_frame rule (colour_after rule (history k earlier) (metered a)) r.captured) same

    go : (b : Bool) → ((place r.captured).class == class) ≡ b → made ≡ coloured_frames rule later came
        → (if b then marked_frame (rule_of cs a.class) earlier a ∷ made else made)
        ≡ coloured_frames rule (if b then colour_after rule (history class earlier) (metered a) ∷ later else later) (if b then r.captured ∷ came else came)
    go true t ih =
        ap (λ (f : List ℕ). f ∷ made) (own t)
        ∙ ap (λ (fs : List (List ℕ)). coloured_frame rule (colour_after rule (history class earlier) (metered a)) r.captured ∷ fs) ih
    go false t ih = ih

pub is_metered : (c : Conditioning) (came : List Record) (class : ℕ) (rule : MeterRule) → rule_of c.conditioners class ≡ Some rule
    → IsMetered c came (recaptured came (frames c came)) class rule
is_metered c came class rule e = record {
  in_order = in_order c class came;
  green = λ newer s older is. conforming.green rule s older (behind newer (s ++ older) is);
  passed = λ newer s older is. conforming.passed rule s older (behind newer (s ++ older) is);
  carried =
      carried_on c.place class 0 c.conditioners rule came [] e
      ∙ ap (λ (ks : List Colour). coloured_frames rule ks (frames_of c.place class came came))
      (sym (as_they_come class rule (arrivals_of c.place came) []));
}
  where
    behind : (newer h : List Metered) → asked c class came ≡ newer ++ h → ArrivalsAreInOrder h
    behind newer h is = stretch_in_order newer h (subst (λ (l : List Metered). ArrivalsAreInOrder l) is (in_order c class came))
