use Rattle.std.proofs.Common.{◌∙◌, ap, length, refl, arith, sym, subst, length-append}
use Rattle.std.proofs.lemmas.List.{nil_from_length}
use Rattle.marked_files.specs.Markings.{Marking}
use Rattle.marked_files.specs.Standing.{HasTakenOn, Waits}
use Rattle.marked_files.proofs.Advancing.{said_by, with_more}
use Rattle.marked_files.proofs.StandingLemmas.{more_taken, none_taken, reach_by, same_still}
use Rattle.marked_files.proofs.marker.Marker.take_piece.Goals as goal

pub returns-clause-taken : goal.returns-clause-taken
returns-clause-taken g c =
    let t = c.in-Ok.ensures.took in
    said_by (HasTakenOn g.C.Classify.placed _ _ c.args.file) _ _ _ (λ m. with_more m t.0) c.self.view_is
    (record { stage = refl; course = refl; ready = c.fill.ensures.ready; pending = t.2; classes = refl })
    (more_taken g.C.Classify.placed _ _ c.args.file _ t.0 t.1 (ap (λ (m : Marking _). length m.held.ready) c.self.view_is ∙ c.requires.given))

pub returns-clause-far : goal.returns-clause-far
returns-clause-far g c =
    let t = c.in-Ok.ensures.took in
    reach_by _ _ _ t.0 _ c.self.view_is (record { stage = refl; course = refl; ready = c.fill.ensures.ready; pending = t.2; classes = refl })
    (omega (arith, ap length t.2, length-append c.self.inside.window.pending t.0, c.in-Ok.ensures.count))

pub returns-clause-waits : goal.returns-clause-waits
returns-clause-waits g c = λ none.
    let t = c.in-Ok.ensures.took in
    let given = ap (λ (m : Marking _). length m.held.ready) c.self.view_is ∙ c.requires.given in
    said_by (λ a b. Waits b) _ _ _ (λ m. m) c.self.view_is
    (same_still _ _ t.0 (record { stage = refl; course = refl; ready = c.fill.ensures.ready; pending = t.2; classes = refl }) given
    (omega (arith, none, ap length t.2, length-append c.self.inside.window.pending t.0, c.in-Ok.ensures.count)))
    (subst Waits (sym c.self.view_is) c.requires.waits)

pub returns-in-Err-clause-taken : goal.returns-in-Err-clause-taken
returns-in-Err-clause-taken g c =
    let given = ap (λ (m : Marking _). length m.held.ready) c.self.view_is ∙ c.requires.given in
    said_by (HasTakenOn g.C.Classify.placed _ _ c.args.file) _ _ _ (λ m. m) c.self.view_is
    (record { stage = refl; course = refl; ready = c.fill.ensures.ready ∙ sym (nil_from_length _ given); pending = c.in-Err.ensures.stays; classes = refl })
    (none_taken g.C.Classify.placed _ _ c.args.file _ c.requires.there c.in-Err.ensures.refused)

pub returns-in-Err-clause-stays : goal.returns-in-Err-clause-stays
returns-in-Err-clause-stays g c =
    let given = ap (λ (m : Marking _). length m.held.ready) c.self.view_is ∙ c.requires.given in
    said_by (λ a b. Waits b) _ _ _ (λ m. m) c.self.view_is
    (record { stage = refl; course = refl; ready = c.fill.ensures.ready ∙ sym (nil_from_length _ given); pending = c.in-Err.ensures.stays; classes = refl })
    (subst Waits (sym c.self.view_is) c.requires.waits)
