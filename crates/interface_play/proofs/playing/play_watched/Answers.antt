-- The outputs are not all there, there is no memory for a marker, or it was played.
use Rattle.std.proofs.Common.{◌∙◌, ap, arith, refl, rules, subst, sym}
use Rattle.std.specs.Prelude.{IfOk}
use Rattle.std.specs.declared.result.Result.{Result}
use Rattle.arrivals_source.specs.Chosen.{first_of}
use Rattle.arrivals_source.proofs.CountedLaws.{no_longer}
use Rattle.play_base.specs.View.{View}
use Rattle.play_base.proofs.ViewLaws.{is_some_of}
use Rattle.play_core.specs.declared.totals.Totals.{Totals}
use Rattle.play_loop.specs.declared.fault.PlayFault.{PlayFault}
use Rattle.play_loop.specs.declared.fault.PlayFault.TheVariants.{NoMemory}
use Rattle.play_loop.specs.Told.{HasDecided}
use Rattle.play_loop.specs.declared.fault.Opened.{Opened}
use Rattle.interface_play.specs.Ended.{HasEnded, OnlyPlays}
use Rattle.interface_play.specs.Setup.{setup_of}
use Rattle.interface_play.proofs.Cited.{is_interface}
use Rattle.interface_play.proofs.EndedLemmas.{decided_as, ended, few_first, no_longer_since, only_created, only_plays, ready_of, still_left, uncreated}
use Rattle.interface_play.proofs.PassageLemmas.{came_behind, stays_behind}
use Rattle.interface_play.proofs.SeeingLemmas.{CameIn, Run}
use Rattle.interface_play.proofs.StepLemmas.{Steps}
use Rattle.interface_play.proofs.ThroughLemmas.{came, ready_seen}
use Rattle.interface_play.proofs.playing.play_watched.Goals as goal

pub returns-in-Err-clause-ended : goal.returns-in-Err-clause-ended
returns-in-Err-clause-ended g c = λ before places opened b.
    let y = c.in-Err.ensures in
    uncreated before _ _ places opened c.args.play.now b (record { separate = c.requires.separate; there = c.requires.there; named = c.requires.named; few = c.requires.few }) y.along y.bare _ _ c.in-Err.fault
    c.laws_hold.ensures c.requires.configured y.why

pub returns-in-Err-clause-only : goal.returns-in-Err-clause-only
returns-in-Err-clause-only g c =
    only_created (g.F.Files.view c.args.files.now) (g.F.Files.view c.create_outputs.new.files) c.args.play.now
    (record { separate = c.requires.separate; there = c.requires.there; named = c.requires.named; few = c.requires.few }) c.in-Err.ensures.along c.in-Err.ensures.said

pub way_of-requires-clause-fits : goal.way_of-requires-clause-fits
way_of-requires-clause-fits g c = is_interface c.laws_hold.ensures c.args.play.now.interface.now c.requires.configured

pub way_of-requires-clause-few : goal.way_of-requires-clause-few
way_of-requires-clause-few g c = λ e. (let few = c.requires.few e in omega (arith, few))

pub returns-in_default-clause-ended : goal.returns-in_default-clause-ended
returns-in_default-clause-ended g c = λ before places opened b.
    let y = c.in-Ok.ensures in
    uncreated before _ _ places opened c.args.play.now b (record { separate = c.requires.separate; there = c.requires.there; named = c.requires.named; few = c.requires.few }) y.along y.bare _ _ NoMemory
    c.laws_hold.ensures c.requires.configured tt

pub returns-in_default-clause-only : goal.returns-in_default-clause-only
returns-in_default-clause-only g c =
    only_created (g.F.Files.view c.args.files.now) (g.F.Files.view c.create_outputs.new.files) c.args.play.now
    (record { separate = c.requires.separate; there = c.requires.there; named = c.requires.named; few = c.requires.few }) c.in-Ok.ensures.along c.in-Ok.ensures.said

pub play_through-played-requires-clause-ready : goal.play_through-played-requires-clause-ready
play_through-played-requires-clause-ready g c =
    let p = c.args.play.now in
    let created = g.F.Files.view c.create_outputs.new.files in
    let o : Opened = record {
      arrivals = p.file;
      first = c.first.result;
      departures = c.in-Ok.outputs.departures;
      fates = c.in-Ok.outputs.fates;
      stats = c.in-Ok.outputs.stats;
    } in
    let way = c.in-Ok-way_of.way in
    ready_seen created created.left _ o
    (ready_of (g.F.Files.view c.args.files.now) created p o (record { separate = c.requires.separate; there = c.requires.there; named = c.requires.named; few = c.requires.few }) c.in-Ok.ensures.came c.in-Ok.ensures.empty refl
    (few_first way p.given.now.rest p.given.now.front.items c.first.result.now c.in-Ok-way_of.ensures.streams c.requires.few
    (c.first.ensures ∙ ap (first_of way) c.as_slice.ensures.value)))

pub play_through-played-requires-clause-first : goal.play_through-played-requires-clause-first
play_through-played-requires-clause-first g c = c.first.ensures ∙ ap (first_of c.in-Ok-way_of.way) c.as_slice.ensures.value

pub returns-clause-ended : goal.returns-clause-ended
returns-clause-ended g c = λ before places opened b.
    let p = c.args.play.now in
    let old = g.F.Files.view c.args.files.now in
    let created = g.F.Files.view c.create_outputs.new.files in
    let f = c.play_through-played.new.files in
    let w = g.F.Files.view f.files.now in
    let o : Opened = record {
      arrivals = p.file;
      first = c.first.result;
      departures = c.in-Ok.outputs.departures;
      fates = c.in-Ok.outputs.fates;
      stats = c.in-Ok.outputs.stats;
    } in
    let y = c.play_through-played.ensures in
    let made = c.in-Ok.ensures in
    let stood = (g.D.Discipline.view c.play_through-played.new.discipline).represents in
    let kept = g.K.Keeper.told c.play_through-played.new.keeper in
    let o_result = c.play_through-played.result in
    let stays = stays_behind o o_result created w _ f.files.ghost_name p.file f.file f.taken y.stays in
    let r : Run = record { old = old; created = created; after = w; play = p; opened = o } in
    let s : Steps r = record {
      separate = c.requires.separate;
      came = made.came;
      arrivals = refl;
      there = c.requires.there;
      played = stays.keeps;
      none = stays.none;
      said = stays.said ∙ made.said;
      laws = c.laws_hold.ensures;
      configured = c.requires.configured;
    } in
    let left = still_left old created p (record { separate = c.requires.separate; there = c.requires.there; named = c.requires.named; few = c.requires.few }) made.along in
    let few = few_first c.in-Ok-way_of.way p.given.now.rest p.given.now.front.items c.first.result.now c.in-Ok-way_of.ensures.streams c.requires.few
    (c.first.ensures ∙ ap (first_of c.in-Ok-way_of.way) c.as_slice.ensures.value) in
    let seen : CameIn r stood kept o_result =
    came r stood kept o_result made.came.keeps.tells left few (came_behind _ stood kept p o o_result created w _ f.files.ghost_name p.file f.file f.taken y.came) in
    subst (λ (u : View). HasEnded stood kept before old u places opened p c.told_as.result) (search rules)
    (subst (λ (q : Result Totals PlayFault). HasEnded stood kept before old w places opened p q) (sym c.told_as.ensures)
    (ended r s before places opened b stood kept p.given.now.rest o_result refl made.counts stays.no_fault seen))

pub returns-clause-only : goal.returns-clause-only
returns-clause-only g c =
    let p = c.args.play.now in
    let old = g.F.Files.view c.args.files.now in
    let created = g.F.Files.view c.create_outputs.new.files in
    let f = c.play_through-played.new.files in
    let w = g.F.Files.view f.files.now in
    let o : Opened = record {
      arrivals = p.file;
      first = c.first.result;
      departures = c.in-Ok.outputs.departures;
      fates = c.in-Ok.outputs.fates;
      stats = c.in-Ok.outputs.stats;
    } in
    let y = c.play_through-played.ensures in
    let made = c.in-Ok.ensures in
    let stood = (g.D.Discipline.view c.play_through-played.new.discipline).represents in
    let kept = g.K.Keeper.told c.play_through-played.new.keeper in
    let o_result = c.play_through-played.result in
    let stays = stays_behind o o_result created w _ f.files.ghost_name p.file f.file f.taken y.stays in
    let r : Run = record { old = old; created = created; after = w; play = p; opened = o } in
    let s : Steps r = record {
      separate = c.requires.separate;
      came = made.came;
      arrivals = refl;
      there = c.requires.there;
      played = stays.keeps;
      none = stays.none;
      said = stays.said ∙ made.said;
      laws = c.laws_hold.ensures;
      configured = c.requires.configured;
    } in
    let left = still_left old created p (record { separate = c.requires.separate; there = c.requires.there; named = c.requires.named; few = c.requires.few }) made.along in
    let here = is_some_of _ _ (made.came.keeps.part p.file _ c.requires.there) in
    let less = no_longer created w _ f.files.ghost_name p.file f.file f.taken _ _ y.stays.keeps (g.F.Files.told f.files.now) here in
    subst (λ (u : View). OnlyPlays old u p) (search rules) (only_plays r s (no_longer_since old created w p.file made.came.keeps.tells left less))

pub returns-clause-decided : goal.returns-clause-decided
returns-clause-decided g c =
    let p = c.args.play.now in
    let kept = g.K.Keeper.told c.play_through-played.new.keeper in
    subst (λ (q : Result Totals PlayFault). IfOk q (HasDecided (setup_of p.interface.now p.seed) kept)) (sym c.told_as.ensures)
    (decided_as p.given.now.rest c.play_through-played.result c.play_through-played.ensures.came)
