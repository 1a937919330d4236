use Rattle.std.proofs.Common.{◌≡◌, ◌≤◌, ◌++◌, ◌∙◌, ℕ, List, length, take, drop, ap, sym, subst, arith}
use Rattle.std.proofs.lemmas.List.{length-append, length-drop, length-take}
use Rattle.fate_check.specs.declared.reading.Row.{Row}
use Rattle.fate_check.specs.Text.{Reads}
use Rattle.play_text.specs.Texts.{fates_header}
use Rattle.given_fates.specs.Fates.{IsReadTo}
use Rattle.given_fates.proofs.ReadLemmas.{front_read, passes_on}
use Rattle.given_fates.proofs.reading.take_rows.Goals as goal

pub returns-in-Ok-clause-read : goal.returns-in-Ok-clause-read
returns-in-Ok-clause-read c = λ text x.
    let names = c.args.names.now in
    let left = c.args.taken.now in
    let end = c.end_of_lines-end.result in
    let a = c.in-Ok.ensures.read in
    let read : Reads names (take end left) a.more = subst (λ (l : List ℕ). Reads names (take end l) a.more) c.as_slice-2.ensures a.added in
    let passed : c.leave_out.new.self ≡ take (length fates_header) left ++ drop end left =
    c.leave_out.ensures ∙ ap (λ (h : List ℕ). take (length h) left ++ drop end left) c.fates_header.ensures in
    subst (λ (rs : List Row). IsReadTo names rs c.leave_out.new.self text) (sym a.all_are)
    (subst (λ (l : List ℕ). IsReadTo names (c.args.found.now.items ++ a.more) l text) (sym passed)
    (passes_on names c.args.found.now.items a.more end left text x read))

pub returns-in-Ok-clause-fewer : goal.returns-in-Ok-clause-fewer
returns-in-Ok-clause-fewer c =
    let names = c.args.names.now in
    let left = c.args.taken.now in
    let end = c.end_of_lines-end.result in
    let a = c.in-Ok.ensures.read in
    let read : Reads names (take end left) a.more = subst (λ (l : List ℕ). Reads names (take end l) a.more) c.as_slice-2.ensures a.added in
    let inside : end ≤ length left = omega (arith, c.end_of_lines-end.ensures, ap length c.as_slice.ensures) in
    let long : length fates_header ≤ end = (front_read names end left a.more read).long inside in
    let passed : c.leave_out.new.self ≡ take (length fates_header) left ++ drop end left =
    c.leave_out.ensures ∙ ap (λ (h : List ℕ). take (length h) left ++ drop end left) c.fates_header.ensures in
    omega (arith, inside, long, ap length passed, length-append (take (length fates_header) left) (drop end left), length-take (length fates_header) left, length-drop end left)
