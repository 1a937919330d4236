-- The play of a source is one of the files behind it.
use Rattle.std.proofs.Common.{◌∙◌, rules, subst}
use Rattle.arrivals_source.proofs.SourceLaws.{still_fixed}
use Rattle.frame_classes.specs.Frames.{placed_by}
use Rattle.play_base.specs.View.{View}
use Rattle.interface_play.specs.Setup.{setup_of}
use Rattle.interface_play.specs.Steps.{CameThrough, Stays}
use Rattle.interface_play.proofs.PassageLemmas.{Sourced, came_back, stays_back}
use Rattle.interface_play.proofs.playing.play_through.Goals as goal

pub returns-clause-came : goal.returns-clause-came
returns-clause-came g c =
    let v = g.F.Files.view c.args.files.now in
    let f = c.play_by.new.files in
    let w = g.F.Files.view f.files.now in
    let p = c.args.play.now in
    let o = c.args.opened.now in
    let y = c.play_by.ensures in
    let fixed = still_fixed placed_by v w _ f.files.ghost_name o.arrivals f.file c.new.result f.front c.args.way f.way.now _ _ y.stays.keeps in
    let s : Sourced p o = record {
      way = c.args.way;
      later = f.way.now;
      front = c.new.result;
      ahead = f.front;
      next = f.file;
      is_way = c.requires.is_way;
      rest = c.new.ensures.rest;
      bytes = c.new.ensures.bytes ∙ c.as_slice.ensures.value;
      first = c.requires.first;
      next_is = fixed.file_is;
      number = fixed.number;
      few = f.few;
    } in
    subst (λ (u : View). CameThrough (setup_of p.interface.now p.seed) (g.D.Discipline.view c.play_by.new.discipline).represents
    (g.K.Keeper.told c.play_by.new.keeper) p o c.play_by.result v u) (search rules)
    (came_back p o v w _ f.files.ghost_name s c.play_by.result _ _ _ y.came)

pub returns-clause-stays : goal.returns-clause-stays
returns-clause-stays g c =
    let v = g.F.Files.view c.args.files.now in
    let f = c.play_by.new.files in
    let w = g.F.Files.view f.files.now in
    let p = c.args.play.now in
    let o = c.args.opened.now in
    let y = c.play_by.ensures in
    let fixed = still_fixed placed_by v w _ f.files.ghost_name o.arrivals f.file c.new.result f.front c.args.way f.way.now _ _ y.stays.keeps in
    let s : Sourced p o = record {
      way = c.args.way;
      later = f.way.now;
      front = c.new.result;
      ahead = f.front;
      next = f.file;
      is_way = c.requires.is_way;
      rest = c.new.ensures.rest;
      bytes = c.new.ensures.bytes ∙ c.as_slice.ensures.value;
      first = c.requires.first;
      next_is = fixed.file_is;
      number = fixed.number;
      few = f.few;
    } in
    subst (λ (u : View). Stays o c.play_by.result v u) (search rules) (stays_back p o v w _ f.files.ghost_name s c.play_by.result y.stays)
