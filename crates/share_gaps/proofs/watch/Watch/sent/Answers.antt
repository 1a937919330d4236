use Rattle.std.proofs.Common.{◌≡◌, ◌<◌, ◌∷◌, ◌∙◌, ℕ, List, length, max, ap, arith, subst, sym}
use Rattle.std.specs.List.{slice_index}
use Rattle.play_base.specs.Units.{units}
use Rattle.hfsc_model.specs.Event.{Sent}
use Rattle.hfsc_groups.proofs.Places.{get_read}
use Rattle.share_gaps.specs.Serve.{first_served, one_less, update_all}
use Rattle.share_gaps.specs.Watching.{Stand}
use Rattle.share_gaps.proofs.Serving.{same_firsts, same_seconds, stand_same}
use Rattle.share_gaps.proofs.Steps.{firsts_low, left_of, seconds_low, sent_beyond, sent_stands, served, way_below}
use Rattle.share_gaps.proofs.Updates.{length_all, length_if, taken}
use Rattle.share_gaps.proofs.watch.Watch.sent.Goals as goal

pub returns-then-class-len-clause-stands : goal.returns-then-class-len-clause-stands
returns-then-class-len-clause-stands c = λ h real start s head.
    let w = c.args.self.now in
    let count = w.places_are.count in
    subst (λ (n : ℕ). Stand w.classes.items w.siblings.items w.waiting.items w.leads.items n (Sent c.args.class c.args.len real start ∷ h)) (sym c.max-self.ensures)
    (sent_beyond w.classes.items w.siblings.items w.waiting.items w.leads.items w.longest c.args.class c.args.len real start h
    (omega (arith, c.if-class-len.true, c.len.ensures, count)) w.pairs_are s head)

pub leave-requires : goal.leave-requires
leave-requires c =
    let w = c.args.self.now in
    let count = w.places_are.count in
    let low = get_read w.places.items c.args.class c.index-place.result.now (omega (arith, c.if-class-len.false, c.len.ensures)) c.index-place.ensures in
    let place = w.places_are.each c.args.class c.index-place.result.now low in
    let same : length c.deref_mut.result.now ≡ length w.classes.items = ap length c.deref_mut.ensures.value ∙ w.count in
    λ k under.
    let below = way_below w.classes.items w.siblings.items c.args.class c.index-place.result.now w.is_tree (omega (arith, c.if-class-len.false, c.len.ensures, count)) place k under in
    omega (arith, below, same)

pub serve_firsts-requires-clause-rows : goal.serve_firsts-requires-clause-rows
serve_firsts-requires-clause-rows c =
    let w = c.args.self.now in
    let low = get_read w.places.items c.args.class c.index-place.result.now (omega (arith, c.if-class-len.false, c.len.ensures)) c.index-place.ensures in
    let place = w.places_are.each c.args.class c.index-place.result.now low in
    let same : length c.deref_mut-2.result.now ≡ length w.siblings.items = ap length c.deref_mut-2.ensures.value ∙ w.lead_count in
    subst (λ (is : List ℕ). (k : ℕ) → k < length is → slice_index is k < length c.deref_mut-2.result.now) (sym c.deref.ensures.value)
    (λ k under. let below = firsts_low w.classes.items w.siblings.items c.args.class c.index-place.result.now place k under in omega (arith, below, same))

pub serve_seconds-requires-clause-rows : goal.serve_seconds-requires-clause-rows
serve_seconds-requires-clause-rows c =
    let w = c.args.self.now in
    let low = get_read w.places.items c.args.class c.index-place.result.now (omega (arith, c.if-class-len.false, c.len.ensures)) c.index-place.ensures in
    let place = w.places_are.each c.args.class c.index-place.result.now low in
    let first_count = ap length c.serve_firsts.ensures ∙ length_all _ c.deref.result.now c.deref_mut-2.result.now in
    let back = taken w.leads.len c.serve_firsts.new.leads _ (first_count ∙ c.deref_mut-2.ensures.len) in
    let same : length c.deref_mut-3.result.now ≡ length w.siblings.items =
    ap length (c.deref_mut-3.ensures.value ∙ back) ∙ first_count ∙ ap length c.deref_mut-2.ensures.value ∙ w.lead_count in
    subst (λ (is : List ℕ). (k : ℕ) → k < length is → slice_index is k < length c.deref_mut-3.result.now) (sym c.deref-5.ensures.value)
    (λ k under. let below = seconds_low w.classes.items w.siblings.items c.args.class c.index-place.result.now place k under in omega (arith, below, same))

pub returns-clause-stands : goal.returns-clause-stands
returns-clause-stands c = λ h real start s head.
    let w = c.args.self.now in
    let x = c.index-place.result.now in
    let u = units c.args.len in
    let low = get_read w.places.items c.args.class x (omega (arith, c.if-class-len.false, c.len.ensures)) c.index-place.ensures in
    let place = w.places_are.each c.args.class x low in
    let left_is : c.leave.new.waiting ≡ left_of x w.waiting.items = c.leave.ensures ∙ ap (λ (ws : List ℕ). left_of x ws) c.deref_mut.ensures.value in
    let left_count = ap length c.leave.ensures ∙ length_if one_less x.leaf x.path.items c.deref_mut.result.now ∙ c.deref_mut.ensures.len in
    let waits = taken w.waiting.len c.leave.new.waiting _ left_count ∙ left_is in
    let amount : c.units-amount.result ≡ units c.args.len = c.units-amount.ensures ∙ ap (λ (n : ℕ). units n) c.from.ensures in
    let firsts : c.serve_firsts.new.leads ≡ update_all (first_served w.siblings.items (left_of x w.waiting.items) w.rates.items u) x.firsts.items w.leads.items =
    c.serve_firsts.ensures
    ∙ same_firsts
    (record {
      siblings = c.deref-2.result.now;
      waiting = c.deref-3.result.now;
      rates = c.deref-4.result.now;
      amount = c.units-amount.result;
      rows = c.deref.result.now;
      leads = c.deref_mut-2.result.now;
    })
    (record { siblings = w.siblings.items; waiting = left_of x w.waiting.items; rates = w.rates.items; amount = u; rows = x.firsts.items; leads = w.leads.items })
    (record {
      siblings = c.deref-2.ensures.value;
      waiting = c.deref-3.ensures.value ∙ waits;
      rates = c.deref-4.ensures.value;
      amount = amount;
      rows = c.deref.ensures.value;
      leads = c.deref_mut-2.ensures.value;
    }) in
    let lead_len : length w.leads.items ≡ w.leads.len = sym (ap length c.deref_mut-2.ensures.value) ∙ c.deref_mut-2.ensures.len in
    let firsts_count = ap length firsts ∙ length_all _ x.firsts.items w.leads.items ∙ lead_len in
    let back = taken w.leads.len c.serve_firsts.new.leads _ firsts_count ∙ firsts in
    let seconds : c.serve_seconds.new.leads ≡ served w.siblings.items x w.rates.items u (left_of x w.waiting.items) w.leads.items =
    c.serve_seconds.ensures
    ∙ same_seconds
    (record {
      siblings = c.deref-6.result.now;
      waiting = c.deref-7.result.now;
      rates = c.deref-8.result.now;
      amount = c.units-amount.result;
      rows = c.deref-5.result.now;
      leads = c.deref_mut-3.result.now;
    })
    (record {
      siblings = w.siblings.items;
      waiting = left_of x w.waiting.items;
      rates = w.rates.items;
      amount = u;
      rows = x.seconds.items;
      leads = update_all (first_served w.siblings.items (left_of x w.waiting.items) w.rates.items u) x.firsts.items w.leads.items;
    })
    (record {
      siblings = c.deref-6.ensures.value;
      waiting = c.deref-7.ensures.value ∙ waits;
      rates = c.deref-8.ensures.value;
      amount = amount;
      rows = c.deref-5.ensures.value;
      leads = c.deref_mut-3.ensures.value ∙ back;
    }) in
    let seconds_count = ap length seconds ∙ length_all _ x.seconds.items (update_all (first_served w.siblings.items (left_of x w.waiting.items) w.rates.items u) x.firsts.items w.leads.items)
    ∙ length_all _ x.firsts.items w.leads.items ∙ lead_len in
    stand_same w.classes.items w.siblings.items _ (left_of x w.waiting.items) _ (served w.siblings.items x w.rates.items u (left_of x w.waiting.items) w.leads.items)
    c.max-self.result (max w.longest c.args.len) (Sent c.args.class c.args.len real start ∷ h) waits (taken w.leads.len c.serve_seconds.new.leads _ seconds_count ∙ seconds) c.max-self.ensures
    (sent_stands w x c.args.class c.args.len real start h place s head)
