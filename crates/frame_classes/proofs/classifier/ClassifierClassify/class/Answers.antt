use Rattle.std.proofs.Common.{◌∙◌, ap, sym}
use Rattle.packet_heads.specs.Flow.{flow}
use Rattle.flow_filter.specs.Winner.{class_of}
use Rattle.frame_classes.specs.Frames.{Classes}
use Rattle.frame_classes.proofs.Plain.{placed_plain}
use Rattle.frame_classes.proofs.classifier.ClassifierClassify.class.Goals as goal

pub returns-in-Some : goal.returns-in-Some
returns-in-Some c =
    let f = flow c.args.frame.now in
    placed_plain c.args.self.now f c.in-Some.class c.tos.result c.place_plain.result
    (ap (λ (k : Classes). class_of k.rules f) (sym c.self.view_is) ∙ c.in-Some.ensures.class f) c.tos.ensures c.place_plain.ensures
