use Rattle.std.proofs.Common.{◌∙◌, sym}
use Rattle.marked_files.proofs.BehindLemmas.{tells_as, tells_there}
use Rattle.marked_files.proofs.marker.Marker.pass_on.Goals as goal

pub returns-clause-tells : goal.returns-clause-tells
returns-clause-tells g c = λ left.
    tells_as g.C.Classify.placed _ left _ _ c.told.ensures.value
    (tells_there g.C.Classify.placed _ left (sym c.has_header.ensures.value ∙ c.if-not-has_header.false))
