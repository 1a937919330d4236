use Rattle.std.proofs.Common.{◌≡◌, ◌∙◌, ◌++◌, ℕ, List, length, take, drop, sym, ap, arith}
use Rattle.std.proofs.Math.Seq.{take-append_seam}
use Rattle.std.proofs.lemmas.Bool.Decides.{Decides-eqb}
use Rattle.std.proofs.lemmas.List.{length-append, take-append-drop}
use Rattle.std.proofs.lemmas.Slice.Eq.{slice_eq-Decides}
use Rattle.fate_departures.proofs.records.behind_head.Goals as goal

pub returns-in_default : goal.returns-in_default
returns-in_default c = λ more e. omega (arith, ap length e, length-append c.args.head.now more, c.in_default.ensures.cases, c.fits-head)

pub returns-then-eq : goal.returns-then-eq
returns-then-eq c =
    let rest = c.args.rest.now in
    let head = c.args.head.now in
    let at = c.in-Some.ensures.cases in
    let same : c.in-Some.front.now ≡ head = (slice_eq-Decides Decides-eqb c.in-Some.front.now head c.eq.result c.eq.ensures).0 c.if-eq.true in
    sym (take-append-drop 16 rest) ∙ ap (λ (front : List ℕ). front ++ drop 16 rest) (sym at.0 ∙ same) ∙ ap (λ (r : List ℕ). head ++ r) (sym at.1)

pub returns-else-eq : goal.returns-else-eq
returns-else-eq c = λ more e.
    let head = c.args.head.now in
    let at = c.in-Some.ensures.cases in
    let long : 16 ≡ length head = omega (arith, c.fits-head) in
    let same : c.in-Some.front.now ≡ head =
    at.0 ∙ ap (take 16) e ∙ ap (λ (n : ℕ). take n (head ++ more)) long ∙ take-append_seam head more in
    let equal = (slice_eq-Decides Decides-eqb c.in-Some.front.now head c.eq.result c.eq.ensures).1 same in
    let unequal = c.if-eq.false in
    absurd (cc)
