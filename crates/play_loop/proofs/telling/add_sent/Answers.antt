use Rattle.play_loop.proofs.OutputLemmas.{fronts_files, fronts_of_texts}
use Rattle.play_loop.proofs.telling.add_sent.Goals as goal

pub returns-in-Err-keep-clause-stopped : goal.returns-in-Err-keep-clause-stopped
returns-in-Err-keep-clause-stopped g c = λ ds ts h.
    let same = c.in-Ok.ensures.only.same in
    fronts_files same.departures same.fates (fronts_of_texts (c.in-Ok.ensures.added.wrote ds ts h))
