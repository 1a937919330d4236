use Rattle.std.proofs.Common.{◌≡◌, ◌+◌, ◌-◌, ◌++◌, ◌≤◌, ◌∙◌, ap, ℕ, List, length, take, drop, true, false, refl, sym, arith, length-take, length-drop}
use Rattle.altq_model.specs.declared.Placed.{Placed}
use Rattle.pcap_files.specs.Forms.{form}
use Rattle.traffic_meter.specs.History.{Metered}
use Rattle.marked_files.specs.Heads.{headed}
use Rattle.marked_files.specs.Markings.{Marking}
use Rattle.marked_files.specs.Metering.{frame_by, meter_of}
use Rattle.marked_files.proofs.Advancing.{IsPacket, at_rest, metered_course, metered_record, past_record, said_by}
use Rattle.marked_files.proofs.FrameLaws.{length-record}
use Rattle.marked_files.proofs.Meters.{length-frame_by, ready_later}
use Rattle.marked_files.proofs.StandingLemmas.{HasTurned, part_stops, record_stops, record_turns, stays_by}
use Rattle.marked_files.proofs.marker.Marker.pass_record.Goals as goal

pub returns-in_default : goal.returns-in_default
returns-in_default g c =
    let i = c.self.inside in
    let held = c.pending-pending.ensures in
    let old : Marking _ = record { classes = i.classes; stage = i.stage; course = record { count = i.count; at = i.place; latest = i.latest; meters = i.meters.items }; held = i.window } in
    let t = said_by (HasTurned g.C.Classify.placed false) old _ (at_rest old) at_rest c.self.view_is
    (record { stage = refl; course = refl; ready = refl; pending = refl; classes = refl })
    (record_stops g.C.Classify.placed old c.args.head (record {
      records = ap (λ (m : Marking _). m.stage) c.self.view_is ∙ c.requires.records;
      long = omega (arith, ap length held);
      none = ap (headed (form c.args.head) i.count i.place) (sym held) ∙ sym c.headed.ensures.value ∙ c.in_default.is;
    })) in
    record { next = t.next; stands = t.stands; halts = t.halts }

pub returns-then-pending-whole : goal.returns-then-pending-whole
returns-then-pending-whole g c =
    let i = c.self.inside in
    let held = c.pending-pending.ensures in
    let old : Marking _ = record { classes = i.classes; stage = i.stage; course = record { count = i.count; at = i.place; latest = i.latest; meters = i.meters.items }; held = i.window } in
    let t = stays_by (HasTurned g.C.Classify.placed false) old _ c.self.view_is
    (part_stops g.C.Classify.placed old c.args.head c.in-Some.record (record {
      records = ap (λ (m : Marking _). m.stage) c.self.view_is ∙ c.requires.records;
      found = ap (headed (form c.args.head) i.count i.place) (sym held) ∙ sym c.headed.ensures.value ∙ c.in-Some.is;
      cut = omega (arith, ap length held);
      short = c.in-Some.ensures.short;
    })) in
    record { next = t.next; stands = t.stands; halts = t.halts }

pub mark_record-requires-clause-sound : goal.mark_record-requires-clause-sound
mark_record-requires-clause-sound g c =
    ready_later c.self.inside.latest c.max-self-inside.result c.self.inside.meters.items (omega (arith, c.max-self-inside.ensures)) c.self.invariant.2

pub returns : goal.returns
returns g c =
    let i = c.self.inside in
    let r = c.in-Some.record in
    let xs = i.window.pending in
    let place : List ℕ → Placed = g.C.Classify.placed i.classes in
    let held = c.pending-pending.ensures in
    let old : Marking _ = record { classes = i.classes; stage = i.stage; course = record { count = i.count; at = i.place; latest = i.latest; meters = i.meters.items }; held = i.window } in
    let a : Metered = record { moment = c.max-self-inside.result; len = c.max-len.result } in
    let meters = c.mark_record.new.meters.items in
    let new : Marking _ = record old { course = record { count = i.count + 1; at = i.place + (16 + r.captured); latest = a.moment; meters = meters }; held = c.mark_record.new.self } in
    let many : 16 + r.captured - 16 ≡ r.captured = omega arith in
    let packet : IsPacket place old.course r xs c.class-class.result.class a = record {
      class_is =
          ap (λ (p : Placed). p.class) c.class-class.ensures
          ∙ ap (λ (n : ℕ). (place (take n (drop 16 c.pending-pending.result.now))).class) many
          ∙ ap (λ (l : List ℕ). (place (take r.captured (drop 16 l))).class) held;
      moment_is = c.max-self-inside.ensures;
      len_is = c.max-len.ensures;
    } in
    let t = said_by (HasTurned g.C.Classify.placed true) old _ new (λ m. past_record g.C.Classify.placed m r) c.self.view_is
    (record {
      stage = refl;
      course = metered_course place old.course r xs c.class-class.result.class a meters packet c.mark_record.ensures.meters;
      ready = c.mark_record.ensures.ready ∙ ap (λ (l : List ℕ). i.window.ready ++ l) (metered_record place old.course r xs c.class-class.result.class a packet);
      pending = c.mark_record.ensures.pending;
      classes = refl;
    })
    (record_turns g.C.Classify.placed old c.args.head r (record {
      records = ap (λ (m : Marking _). m.stage) c.self.view_is ∙ c.requires.records;
      less = c.in-Some.ensures.fits.0;
      found = ap (headed (form c.args.head) i.count i.place) (sym held) ∙ sym c.headed.ensures.value ∙ c.in-Some.is;
      long = omega (arith, ap length held);
    })) in
    record { next = t.next; stands = t.stands; halts = t.halts }

pub invariant_of-self-2 : goal.invariant_of-self-2
invariant_of-self-2 g c =
    let i = c.self.inside in
    let n = c.in-Some.record.captured in
    let xs = i.window.pending in
    let fits : 16 + n ≤ length xs = omega (arith, ap length c.pending-pending.ensures) in
    let a : Metered = record { moment = c.max-self-inside.result; len = c.max-len.result } in
    let meter = meter_of i.meters.items c.class-class.result.class in
    let frame = take n (drop 16 xs) in
    let long : length (frame_by meter a frame) ≡ n =
    length-frame_by meter a frame ∙ omega (arith, fits, length-take n (drop 16 xs), length-drop 16 xs) in (
      omega (arith, c.in-Some.ensures.fits.0),
      omega (arith, c.in-Some.ensures.fits.1),
      c.mark_record.ensures.sound,
      omega (
        arith,
        c.self.invariant.3,
        ap length c.mark_record.ensures.ready,
        ap length c.mark_record.ensures.pending,
        length-record i.window.ready xs (frame_by meter a frame) n fits long,
      ),
    )
