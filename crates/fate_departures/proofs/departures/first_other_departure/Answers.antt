use Rattle.std.proofs.Common.{◌∙◌, ◌++◌, ℕ, List, Option, Some, Bor, inl, inr, ap, subst}
use Rattle.std.proofs.lemmas.Bool.Decides.{Decides-eqb}
use Rattle.std.proofs.lemmas.Slice.Eq.{strip_prefix_is}
use Rattle.fate_departures.specs.Frames.{frames_in}
use Rattle.fate_judge.proofs.Walking.{row_at}
use Rattle.fate_departures.proofs.Fronts.{Front_at}
use Rattle.fate_departures.proofs.Standing.{stands_first, stands_more, stops}
use Rattle.fate_departures.proofs.departures.first_other_departure.Goals as goal

pub loop-i-init : goal.loop-i-init
loop-i-init g c =
    stands_first (g.C.Classify.dressed c.args.classify.now) (frames_in c.args.frames.now) c.args.rows.now c.args.departures.now c.in-Some.rest.now
    (strip_prefix_is Decides-eqb c.args.departures.now c.head_bytes-header.result (Some c.in-Some.rest) c.in-Some.ensures.cases ∙ ap (λ (xs : List ℕ). xs ++ c.in-Some.rest.now) c.head_bytes-header.ensures)

pub returns-in-None : goal.returns-in-None
returns-in-None g c =
    let dress = g.C.Classify.dressed c.args.classify.now in let p = frames_in c.args.frames.now in
    let P : Option (Bor (List ℕ)) → Type 0 = λ o. Front_at dress p (row_at c.args.rows.now c.loop-i.i) c.loop-i.rest.now o in
    inr (inl (stops dress p c.args.rows.now c.loop-i.i c.args.departures.now c.loop-i.rest.now c.loop-i-test.true c.loop-i.invariant
    (subst P c.in-None.is c.in_ok-more.ensures)))

pub loop-i-preserved : goal.loop-i-preserved
loop-i-preserved g c =
    let dress = g.C.Classify.dressed c.args.classify.now in let p = frames_in c.args.frames.now in
    let P : Option (Bor (List ℕ)) → Type 0 = λ o. Front_at dress p (row_at c.args.rows.now c.loop-i.i) c.loop-i.rest.now o in
    stands_more dress p c.args.rows.now c.loop-i.i c.args.departures.now c.loop-i.rest.now c.in-Some-2.more.now c.loop-i-test.true c.loop-i.invariant
    (subst P c.in-Some-2.is c.in_ok-more.ensures)
