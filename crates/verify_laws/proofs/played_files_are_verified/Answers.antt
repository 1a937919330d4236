use Rattle.interface_play.proofs.Cited.{have_laws}
use Rattle.verify_laws.proofs.Views.{is_verified, left_there, played_status, played_verified}
use Rattle.verify_laws.proofs.played_files_are_verified.Goals as goal

pub returns : goal.returns
returns c =
    let laws = have_laws c.configurations_fit.ensures c.frames_have_classes.ensures.class c.interfaces_keep_their_promises.ensures.lawful
    c.interfaces_keep_their_promises.ensures.held c.interfaces_keep_their_promises.ensures.named c.interfaces_keep_their_promises.ensures.promises in
    record { files = is_verified laws; ends = played_verified laws; statuses = played_status laws; left = left_there }
