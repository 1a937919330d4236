use Rattle.std.proofs.Common.{◌++◌, ◌∷◌, [], List, subst, sym}
use Rattle.std.specs.Prelude.{OnOk}
use Rattle.play_loop.specs.declared.kept.KeptFate.{KeptFate}
use Rattle.play_chain.specs.declared.keeping.Tables.{Tables}
use Rattle.play_chain.specs.Keeping.{Holds}
use Rattle.play_chain.specs.Tables.{HoldsFirsts, HoldsSeconds}
use Rattle.play_chain.proofs.FirstLemmas.{firsts_more}
use Rattle.play_chain.proofs.PathLemmas.{on_ok}
use Rattle.play_chain.proofs.SecondLemmas.{seconds_more}
use Rattle.play_chain.proofs.keeping.TablesKeeper.keep.Goals as goal

pub returns-in-Firsts-clause-told : goal.returns-in-Firsts-clause-told
returns-in-Firsts-clause-told c =
    let H : Tables → Type 0 = λ s. OnOk c.add.result ((ks : List KeptFate) → Holds s ks → HoldsFirsts c.add.new.self (ks ++ c.args.fate ∷ [])) in
    subst H (sym c.in-Firsts.is) (on_ok c.add.result _ _ (firsts_more c.in-Firsts.table c.add.new.self c.args.fate) c.add.ensures.added)

pub returns-in-Seconds-clause-told : goal.returns-in-Seconds-clause-told
returns-in-Seconds-clause-told c =
    let H : Tables → Type 0 = λ s. OnOk c.add-in-Seconds.result ((ks : List KeptFate) → Holds s ks → HoldsSeconds c.add-in-Seconds.new.self (ks ++ c.args.fate ∷ [])) in
    subst H (sym c.in-Seconds.is) (on_ok c.add-in-Seconds.result _ _ (seconds_more c.in-Seconds.table c.add-in-Seconds.new.self c.args.fate) c.add-in-Seconds.ensures)
