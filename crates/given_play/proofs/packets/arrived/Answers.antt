use Rattle.std.proofs.Common.{◌≡◌, ◌<◌, Some, sym, arith, ap}
use Rattle.std.specs.Prelude.{slice_get}
use Rattle.std.proofs.lemmas.List.{map_push}
use Rattle.std.proofs.lemmas.List.Elements.{All-push}
use Rattle.std.proofs.lemmas.Option.{slice_get_within}
use Rattle.altq_model.specs.History.{Arrival}
use Rattle.fate_judge.specs.Given.{bare_arrival, bare_arrivals}
use Rattle.input_files.specs.Held.{shown_in}
use Rattle.given_play.proofs.PacketLemmas.{all_bare_arrivals, all_rise, none_past, one_more}
use Rattle.given_play.proofs.packets.arrived.Goals as goal

pub loop-found-smaller : goal.loop-found-smaller
loop-found-smaller g c =
    let inside = slice_get_within c.args.records.now c.loop-found.place (shown_in c.in-Some.found) (sym c.in-Some.ensures.value) in
    omega (arith, inside)

pub loop-found-preserved : goal.loop-found-preserved
loop-found-preserved g c =
    let s = shown_in c.in-Some.found in
    let found : slice_get c.args.records.now c.loop-found.place ≡ Some s = sym c.in-Some.ensures.value in
    let inside = slice_get_within c.args.records.now c.loop-found.place s found in
    let pushed = c.in_ok-push.ensures.items in
    let one : 0 < c.arrived_at.result.len = omega (arith, ap (λ (x : Arrival). x.len) c.arrived_at.ensures, c.in-Some.ensures.some) in
    record {
      shown = rw pushed (one_more (g.C.Classify.placed c.args.classify.now) c.loop-found.latest c.max-latest.result c.args.records.now c.loop-found.place s c.loop-found.all.items
          c.arrived_at.result found c.max-latest.ensures c.arrived_at.ensures c.loop-found.invariant.shown);
      count = omega (arith, c.in_ok-push.ensures.len, c.push.new.self.ok.0, c.loop-found.all.ok.0, c.loop-found.invariant.count);
      within = omega (arith, inside);
      some = rw (pushed, map_push bare_arrival c.loop-found.all.items c.arrived_at.result) (All-push (λ (a : Arrival). 0 < a.len) (bare_arrivals c.loop-found.all.items) (bare_arrival c.arrived_at.result) c.loop-found.invariant.some one);
    }

pub returns-clause-count : goal.returns-clause-count
returns-clause-count g c =
    let end = none_past c.args.records.now c.loop-found.place (sym c.in_default.ensures.value) in
    omega (arith, end, c.loop-found.invariant.count, c.loop-found.invariant.within)

pub returns-clause-packets : goal.returns-clause-packets
returns-clause-packets g c = λ capture shown.
    let end = none_past c.args.records.now c.loop-found.place (sym c.in_default.ensures.value) in
    all_bare_arrivals (g.C.Classify.placed c.args.classify.now) c.loop-found.latest c.args.records.now c.loop-found.place c.loop-found.all.items capture end c.loop-found.invariant.shown shown

pub returns-clause-rising : goal.returns-clause-rising
returns-clause-rising g c =
    let end = none_past c.args.records.now c.loop-found.place (sym c.in_default.ensures.value) in
    all_rise (g.C.Classify.placed c.args.classify.now) c.loop-found.latest c.args.records.now c.loop-found.place c.loop-found.all.items end c.loop-found.invariant.shown
