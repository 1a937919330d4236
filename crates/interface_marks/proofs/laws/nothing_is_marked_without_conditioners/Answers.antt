use Rattle.frame_classes.specs.Frames.{place_in}
use Rattle.interface_marks.proofs.Unmarked.{none_from, unmarked}
use Rattle.interface_marks.proofs.laws.nothing_is_marked_without_conditioners.Goals as goal

pub returns : goal.returns
returns c = λ i capture none. unmarked (place_in i) _ capture (none_from 0 i.classes none)
