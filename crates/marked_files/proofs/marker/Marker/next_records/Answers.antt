use Rattle.std.proofs.Common.{◌∙◌, refl, sym}
use Rattle.marked_files.proofs.BehindLemmas.{last_not_more, same_ok, tells_as, tells_last}
use Rattle.marked_files.proofs.StandingLemmas.{passed_on}
use Rattle.marked_files.proofs.marker.Marker.next_records.Goals as goal

pub returns-in-Ok-eq0-clause-tells : goal.returns-in-Ok-eq0-clause-tells
returns-in-Ok-eq0-clause-tells g c = λ left at.
    tells_as g.C.Classify.placed _ left _ _ c.told_last.ensures.value
    (tells_last g.C.Classify.placed _ left (c.in-Ok-eq0.ensures.waits c.in-Ok-eq0.field-0-test) (c.in-Ok-eq0.ensures.end c.in-Ok-eq0.field-0-test left at))

pub returns-in-Ok-eq0-clause-waits : goal.returns-in-Ok-eq0-clause-waits
returns-in-Ok-eq0-clause-waits g c = λ e. last_not_more _ _ (sym c.told_last.ensures.value ∙ same_ok _ _ _ refl e)

pub returns-in-Ok-eq0-clause-on : goal.returns-in-Ok-eq0-clause-on
returns-in-Ok-eq0-clause-on g c = λ e. last_not_more _ _ (sym c.told_last.ensures.value ∙ same_ok _ _ _ refl e)

pub returns-in-Ok-clause-tells : goal.returns-in-Ok-clause-tells
returns-in-Ok-clause-tells g c = λ left at. c.pass_on.ensures.tells left

pub returns-in-Ok-clause-taken : goal.returns-in-Ok-clause-taken
returns-in-Ok-clause-taken g c = passed_on g.C.Classify.placed _ _ c.args.file _ _ _ c.take_piece.ensures.taken c.pass_on.ensures.stands
