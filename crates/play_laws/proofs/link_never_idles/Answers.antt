use Rattle.play_laws.proofs.IdleLemmas.{never_idles}
use Rattle.play_laws.proofs.link_never_idles.Goals as goal

pub returns : goal.returns
returns c = record { never_idles = never_idles }
