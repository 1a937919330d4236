-- What a marked file has left is the marked capture, and so is what is read of it.
use Rattle.std.proofs.Common.{◌≡◌, ◌∙◌, ap, ℕ, List, [], ◌++◌, sym, append-nil}
use Rattle.std.specs.Prelude.{Option, Some}
use Rattle.std.proofs.lemmas.List.{nil_from_length}
use Rattle.altq_model.specs.declared.Placed.{Placed}
use Rattle.play_base.specs.View.{View, IsAtEnd, Took}
use Rattle.traffic_marks.specs.Marked.{marked}
use Rattle.traffic_meter.specs.declared.rule.MeterRule.{MeterRule}
use Rattle.marked_files.specs.Courses.{Course, begun, conditioning, made}
use Rattle.marked_files.specs.Markings.{IsUnused, Marking, given}
use Rattle.marked_files.specs.Through.{ReadsMarked, marked_view}
use Rattle.marked_files.specs.declared.stage.Stage.{Stage}
use Rattle.marked_files.specs.declared.stage.Stage.TheVariants.{Start}
use Rattle.marked_files.proofs.ViewLaws.{left_self, told_is}
use Rattle.marked_files.proofs.Whole.{makes_marked}

-- what an unused marker gives of a capture of which it holds the first bytes
pub given_marked : {C : Type 0} (placed : C → List ℕ → Placed) (m : Marking C) (rules : List (Option MeterRule)) (first bytes : List ℕ)
    → IsUnused m.classes rules first m → given placed m bytes ≡ marked (conditioning (placed m.classes) rules) (first ++ bytes)
given_marked placed m rules first bytes n =
    let place = placed m.classes in
    ap (λ (l : List ℕ). l ++ made m.stage place m.course (m.held.pending ++ bytes)) n.ready
    ∙ ap (λ (l : List ℕ). made m.stage place m.course (l ++ bytes)) n.pending
    ∙ ap (λ (s : Stage). made s place m.course (first ++ bytes)) n.stage
    ∙ ap (λ (c : Course). made Start place c (first ++ bytes)) n.course
    ∙ makes_marked place rules (first ++ bytes)

some_is : (a b : List ℕ) → Some a ≡ Some b → a ≡ b
some_is a b h = cc

-- what is taken of a file up to its end is all of it
pub all_read : (v w : View) (file : ℕ) (all bytes : List ℕ) → v.left file ≡ Some all → Took v w file bytes → IsAtEnd w file → bytes ≡ all
all_read v w file all bytes left took ended =
    let t = took.left all left in
    let none : t.0 ≡ [] = nil_from_length t.0 (ended t.0 t.2) in
    sym (t.1 ∙ ap (λ (l : List ℕ). bytes ++ l) none ∙ append-nil bytes)

pub reads_marked : (v w : View) (g file k : ℕ) (place : List ℕ → Placed) (rules : List (Option MeterRule)) (capture bytes : List ℕ)
    → ReadsMarked v w g file k place rules capture bytes
reads_marked v w g file k place rules capture bytes tells left took ended =
    let become : List ℕ → List ℕ = made Start place (begun rules) in
    let has : (marked_view v g file k become).left file ≡ Some (marked (conditioning place rules) capture) =
    left_self file v.tells become (v.left file) ∙ told_is v.tells become (v.left file) capture tells left ∙ ap Some (makes_marked place rules capture) in
    all_read (marked_view v g file k become) w file (marked (conditioning place rules) capture) bytes has took ended
