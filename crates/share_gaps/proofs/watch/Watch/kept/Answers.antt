use Rattle.std.proofs.Common.{◌≡◌, ◌∷◌, ◌∙◌, ℕ, List, length, ap, arith, subst, sym}
use Rattle.std.specs.Prelude.{if◌then◌else◌}
use Rattle.hfsc_model.specs.Event.{Enqueued}
use Rattle.hfsc_groups.proofs.Places.{get_read}
use Rattle.share_gaps.specs.Serve.{one_more, update_all}
use Rattle.share_gaps.specs.Watching.{Stand}
use Rattle.share_gaps.proofs.Steps.{kept_beyond, kept_stands, way_below}
use Rattle.share_gaps.proofs.Updates.{length_if, taken}
use Rattle.share_gaps.proofs.watch.Watch.kept.Goals as goal

pub returns-then-class-len-clause-stands : goal.returns-then-class-len-clause-stands
returns-then-class-len-clause-stands c = λ h at len s few sized.
    let count = c.args.self.now.places_are.count in
    kept_beyond c.args.self.now.classes.items c.args.self.now.siblings.items c.args.self.now.waiting.items c.args.self.now.leads.items c.args.self.now.longest c.args.class at len h
    (omega (arith, c.if-class-len.true, c.len.ensures, count)) s few sized

pub keep-requires : goal.keep-requires
keep-requires c =
    let w = c.args.self.now in
    let count = w.places_are.count in
    let low = get_read w.places.items c.args.class c.index.result.now (omega (arith, c.if-class-len.false, c.len.ensures)) c.index.ensures in
    let place = w.places_are.each c.args.class c.index.result.now low in
    let same : length c.deref_mut.result.now ≡ length w.classes.items = ap length c.deref_mut.ensures.value ∙ w.count in
    λ k under.
    let below = way_below w.classes.items w.siblings.items c.args.class c.index.result.now w.is_tree (omega (arith, c.if-class-len.false, c.len.ensures, count)) place k under in
    omega (arith, below, same)

pub returns-clause-stands : goal.returns-clause-stands
returns-clause-stands c = λ h at len s few sized.
    let w = c.args.self.now in
    let x = c.index.result.now in
    let low = get_read w.places.items c.args.class x (omega (arith, c.if-class-len.false, c.len.ensures)) c.index.ensures in
    let place = w.places_are.each c.args.class x low in
    let is : c.keep.new.waiting ≡ (if x.leaf then update_all one_more x.path.items w.waiting.items else w.waiting.items) =
    c.keep.ensures ∙ ap (λ (ws : List ℕ). if x.leaf then update_all one_more x.path.items ws else ws) c.deref_mut.ensures.value in
    let count = ap length c.keep.ensures ∙ length_if one_more x.leaf x.path.items c.deref_mut.result.now ∙ c.deref_mut.ensures.len in
    subst (λ (ws : List ℕ). Stand w.classes.items w.siblings.items ws w.leads.items w.longest (Enqueued c.args.class at len ∷ h)) (sym (taken w.waiting.len c.keep.new.waiting _ count ∙ is))
    (kept_stands w.classes.items w.siblings.items x w.waiting.items w.leads.items w.longest c.args.class at len h place s few sized)
