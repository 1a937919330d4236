use Rattle.std.proofs.Common.{◌≡◌, ◌∙◌, ◌-◌, ◌+◌, ℕ, Some, ap, arith, inl, inr, length, refl, subst, sym}
use Rattle.std.specs.Prelude.{nat_le, nat_lt, slice_get}
use Rattle.std.proofs.lemmas.Bool.{cases_eq}
use Rattle.discipline.specs.declared.pick.Pick.TheVariants.{Send}
use Rattle.class_rows.specs.Rows.{list_in}
use Rattle.plain_disciplines.specs.Strict.{first_pick}
use Rattle.plain_disciplines.proofs.StrictLemmas.{classes_are, no_front, no_head, pick_found, pick_none, within_or}
use Rattle.plain_disciplines.proofs.strict.pick_from.Goals as goal

pub returns-in-Some-clause-due : goal.returns-in-Some-clause-due
returns-in-Some-clause-due g c =
    let d = c.args.rows.now in
    let k : ℕ = c.loop-class.class - d.first in
    let place : d.first + k ≡ c.loop-class.class = omega (arith, c.loop-class.auto.class, c.first-first.ensures.first) in
    let front : slice_get (list_in d c.loop-class.class) 0 ≡ Some c.in-Some.head = sym c.head.ensures ∙ c.in-Some.is in
    let P : ℕ → Type 0 = λ n. slice_get (list_in d n) 0 ≡ Some c.in-Some.head in
    sym (ap (first_pick c.args.rule (list_in d)) (classes_are d c.requires.strict)
    ∙ pick_found c.args.rule (list_in d) d.first (length d.queues) k c.in-Some.head
    (omega (arith, place, c.loop-class-test.true, c.first-first.ensures.first, c.count.ensures))
    (λ j l m. c.loop-class.invariant j l (omega (arith, place, m))) (subst P (sym place) front)
    ∙ ap (λ (n : ℕ). Send c.in-Some.head.ticket n c.in-Some.head.len c.args.rule) place)

pub loop-class-preserved : goal.loop-class-preserved
loop-class-preserved g c = λ j l m. elim (cases_eq j c.loop-class.class) [
  | inl e ↦ ap (list_in c.args.rows.now) e ∙ no_head _ (sym c.head.ensures ∙ c.in_default.is)
  | inr n ↦ c.loop-class.invariant j l (omega (arith, m, n))
]

pub returns-clause-due : goal.returns-clause-due
returns-clause-due g c =
    let d = c.args.rows.now in
    sym (ap (first_pick c.args.rule (list_in d)) (classes_are d c.requires.strict)
    ∙ pick_none c.args.rule (list_in d) d.first (length d.queues)
    (λ j l m. c.loop-class.invariant j l (omega (arith, m, c.loop-class-test.false, c.first-first.ensures.first, c.count.ensures))))

pub returns-in-Some-clause-empty : goal.returns-in-Some-clause-empty
returns-in-Some-clause-empty g c =
    let front : slice_get (list_in c.args.rows.now c.loop-class.class) 0 ≡ Some c.in-Some.head = sym c.head.ensures ∙ c.in-Some.is in
    (λ e. absurd (cc), λ f. absurd (no_front _ c.in-Some.head front (f c.loop-class.class)))

pub returns-clause-empty : goal.returns-clause-empty
returns-clause-empty g c =
    let d = c.args.rows.now in (
      λ e j. within_or (list_in d) d.first (length d.queues) j (nat_le d.first j) (nat_lt j (d.first + length d.queues)) refl refl
          (λ i l m. c.loop-class.invariant i l (omega (arith, m, c.loop-class-test.false, c.first-first.ensures.first, c.count.ensures)))
          c.first-first.ensures.others,
      λ f. refl,
    )
