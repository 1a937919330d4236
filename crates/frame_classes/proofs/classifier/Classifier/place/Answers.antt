use Rattle.std.proofs.Common.{◌∙◌, ap, sym}
use Rattle.packet_heads.specs.Heads.{flow_of}
use Rattle.flow_filter.specs.Winner.{class_of}
use Rattle.frame_classes.specs.Frames.{Classes}
use Rattle.frame_classes.proofs.Plain.{placed_plain}
use Rattle.frame_classes.proofs.classifier.Classifier.place.Goals as goal

pub returns : goal.returns
returns c =
    let f = flow_of c.args.heads.now in
    placed_plain c.args.self.now f c.class-class.result c.tos_in.result c.place_plain.result
    (ap (λ (k : Classes). class_of k.rules f) (sym c.self.view_is) ∙ sym c.class-class.ensures) c.tos_in.ensures c.place_plain.ensures
