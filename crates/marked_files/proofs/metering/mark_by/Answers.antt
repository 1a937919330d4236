use Rattle.std.proofs.Common.{rules, ◌≡◌, ◌≤◌, ◌<◌, ◌∙◌, length, Some, None}
use Rattle.marked_files.specs.Metering.{meter_of}
use Rattle.marked_files.proofs.Meters.{at_place, frame_some, past_meter, past_meters, ready_again, set_none, set_some}
use Rattle.marked_files.proofs.metering.mark_by.Goals as goal

pub returns-then-place-len-clause-frame : goal.returns-then-place-len-clause-frame
returns-then-place-len-clause-frame c =
    let past : length c.args.meters.now.items ≤ c.args.class = search rules in
    frame_some c.args.meters.now.items c.args.class _ c.args.frame.now None (past_meter c.args.meters.now.items c.args.class past)

pub returns-then-place-len-clause-meters : goal.returns-then-place-len-clause-meters
returns-then-place-len-clause-meters c =
    let past : length c.args.meters.now.items ≤ c.args.class = search rules in
    past_meters c.args.meters.now.items c.args.class _ past

pub returns-in-Some-clause-frame : goal.returns-in-Some-clause-frame
returns-in-Some-clause-frame c =
    let fits : c.args.class < length c.args.meters.now.items = search rules in
    let place = at_place c.args.meters.now.items c.args.class c.index_mut.result.now fits in
    let at : meter_of c.args.meters.now.items c.args.class ≡ Some c.in-Some.meter = search rules in
    c.mark.ensures.frame ∙ frame_some c.args.meters.now.items c.args.class _ c.args.frame.now (Some c.in-Some.meter) at

pub returns-in-Some-clause-meters : goal.returns-in-Some-clause-meters
returns-in-Some-clause-meters c =
    let fits : c.args.class < length c.args.meters.now.items = search rules in
    let place = at_place c.args.meters.now.items c.args.class c.index_mut.result.now fits in
    let at : meter_of c.args.meters.now.items c.args.class ≡ Some c.in-Some.meter = search rules in
    set_some c.args.meters.now.items c.args.class _ c.in-Some.meter c.mark.new.meter at c.mark.ensures.rule c.mark.ensures.buckets

pub returns-in-Some-clause-ready : goal.returns-in-Some-clause-ready
returns-in-Some-clause-ready c =
    let fits : c.args.class < length c.args.meters.now.items = search rules in
    let place = at_place c.args.meters.now.items c.args.class c.index_mut.result.now fits in
    let at : meter_of c.args.meters.now.items c.args.class ≡ Some c.in-Some.meter = search rules in
    ready_again c.args.moment c.args.meters.now.items c.args.class c.in-Some.meter c.mark.new.meter c.requires.ready at c.mark.ensures.rule
    c.mark.ensures.moment

pub returns-in-None-clause-frame : goal.returns-in-None-clause-frame
returns-in-None-clause-frame c =
    let fits : c.args.class < length c.args.meters.now.items = search rules in
    let place = at_place c.args.meters.now.items c.args.class None fits in
    let at : meter_of c.args.meters.now.items c.args.class ≡ None = search rules in
    frame_some c.args.meters.now.items c.args.class _ c.args.frame.now None at

pub returns-in-None-clause-meters : goal.returns-in-None-clause-meters
returns-in-None-clause-meters c =
    let fits : c.args.class < length c.args.meters.now.items = search rules in
    let place = at_place c.args.meters.now.items c.args.class None fits in
    let at : meter_of c.args.meters.now.items c.args.class ≡ None = search rules in
    let none : c.index_mut.result.now ≡ None = search rules in
    set_none c.args.meters.now.items c.args.class _ c.index_mut.result.now at none
