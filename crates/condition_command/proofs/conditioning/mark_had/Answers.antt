-- It ends where the marked file cannot be created, or as what is written there.
use Rattle.std.proofs.Common.{◌≡◌, ◌∙◌, ◌∷◌, [], ℕ, List, Option, Some, Ok, Err, ap, refl, subst, sym}
use Rattle.std.specs.Prelude.{◌≢◌, IsSome, IsTrue, Result, ⊤}
use Rattle.file_plans.specs.declared.part.Part.TheVariants as part
use Rattle.file_plans.specs.Came.{Came}
use Rattle.file_plans.specs.Plan.{written_place}
use Rattle.play_base.proofs.ViewLaws.{same_trans}
use Rattle.play_base.specs.View.{View}
use Rattle.play_base.specs.declared.trouble.Trouble.{Trouble}
use Rattle.run_outcomes.specs.declared.outcome.Failure.{Failure}
use Rattle.command_form.specs.Names.{mark_names_read}
use Rattle.condition_command.specs.Conditioning.{ConditionEnds}
use Rattle.condition_command.specs.Moving.{AreApart}
use Rattle.condition_command.specs.declared.marking.Unmarked.{Unmarked}
use Rattle.condition_command.proofs.EndLemmas.{conditioned, uncreated_fails, uncreated_starved, unmarked_ends}
use Rattle.condition_command.proofs.conditioning.mark_had.Goals as goal

-- a name that a file got is the other's only where both are one
apart : (b w : View) (from to : ℕ) (arrivals marked : List ℕ) → (IsTrue b.tells → b.name from ≡ arrivals) → b.part from ≡ Some 2 → arrivals ≢ marked
    → Came (written_place part.Marked marked ∷ []) (to ∷ []) b w → AreApart w from to
apart b w from to arrivals marked named part differ made = record {
  from_there = subst (λ (o : Option ℕ). IsSome o) (sym (made.keeps.part from 2 part)) refl;
  to_there = subst (λ (o : Option ℕ). IsSome o) (sym made.are.0.part) refl;
  names = λ t e.
      let s : IsTrue b.tells = sym made.keeps.tells ∙ t in
      differ (sym (made.keeps.name from 2 part ∙ named s) ∙ e ∙ made.are.0.name s);
}

pub write_marked-requires-clause-apart : goal.write_marked-requires-clause-apart
write_marked-requires-clause-apart g c =
    apart (g.F.Files.view c.args.files.now) (g.F.Files.view c.open_next.new.files) c.args.arrivals.now.file c.in-Ok.file c.args.words.now.arrivals.now
    c.args.words.now.marked.now c.requires.named c.requires.part c.requires.distinct.arrivals_marked c.in-Ok.ensures.came

pub returns-in-Err-Failed : goal.returns-in-Err-Failed
returns-in-Err-Failed g c = λ u r h begins q.
    uncreated_fails u (g.F.Files.view c.args.files.now) (g.F.Files.view c.open_next.new.files) (mark_names_read c.args.words.now) r c.args.arrivals.now h
    c.in-Err-Failed.ensures.refused (c.in-Err-Failed.ensures.failed (ap {B = Result ℕ Trouble} (λ (x : Trouble). Err x) c.in-Err-Failed.field-0-is))

pub returns-in-Err-NoMemory : goal.returns-in-Err-NoMemory
returns-in-Err-NoMemory g c = λ u r h begins q.
    uncreated_starved u (g.F.Files.view c.args.files.now) (g.F.Files.view c.open_next.new.files) (mark_names_read c.args.words.now) r c.args.arrivals.now h
    c.in-Err-NoMemory.ensures.refused

pub returns-in-Ok-write_marked : goal.returns-in-Ok-write_marked
returns-in-Ok-write_marked g c = λ u r h begins q.
    let v = g.F.Files.view c.args.files.now in
    let d = g.F.Files.view c.open_next.new.files in
    let e = g.F.Files.view c.write_marked.new.files in
    let y = c.in-Ok.ensures in
    let z = c.in-Ok-write_marked.ensures in
    conditioned u v d e (mark_names_read c.args.words.now) r c.args.arrivals.now c.in-Ok.file c.args.marker.now (Ok _)
    (record {
      has = h;
      created = y.came;
      empty = λ t. (y.empty t).0;
      said = y.said;
      stays = z.stays;
      shrinks = z.shrinks;
      begins = begins;
      marks = z.marks;
      distinct = c.requires.distinct;
    })
    _ refl (same_trans u v e q (same_trans v d e y.counts z.no_fault))

pub returns-in-Err : goal.returns-in-Err
returns-in-Err g c = λ u r h begins q.
    let v = g.F.Files.view c.args.files.now in
    let d = g.F.Files.view c.open_next.new.files in
    let e = g.F.Files.view c.write_marked.new.files in
    let n = mark_names_read c.args.words.now in
    let y = c.in-Ok.ensures in
    let z = c.in-Err.ensures in
    let P : Failure → Type 0 = λ f. ConditionEnds u e n (Err f) in
    subst P (sym c.unmarked_failure.ensures)
    (unmarked_ends u v d e n r c.args.arrivals.now c.in-Ok.file c.args.marker.now (Err c.in-Err.why)
    (record {
      has = h;
      created = y.came;
      empty = λ t. (y.empty t).0;
      said = y.said;
      stays = z.stays;
      shrinks = z.shrinks;
      begins = begins;
      marks = z.marks;
      distinct = c.requires.distinct;
    })
    c.in-Err.why refl
    (record {
      read = λ is. z.read (ap {B = Result ⊤ Unmarked} (λ (w : Unmarked). Err w) is);
      write = λ is. z.write (ap {B = Result ⊤ Unmarked} (λ (w : Unmarked). Err w) is);
    }))
