use Rattle.std.proofs.Common.{◌∙◌, ap, sym}
use Rattle.std.specs.Prelude.{slice_set}
use Rattle.altq_model.specs.declared.Counts.{Counts}
use Rattle.class_counts.specs.Counting.{with_one}
use Rattle.class_counts.proofs.CountingLemmas.{set_counts}
use Rattle.class_counts.proofs.counting.count.Goals as goal

pub returns-in-Some : goal.returns-in-Some
returns-in-Some c =
    ap (λ (k : Counts). slice_set c.args.counts.now.items c.in-Some.place k) (c.add_one.ensures ∙ ap (λ (k : Counts). with_one k c.args.what) c.index_mut.ensures.value)
    ∙ set_counts c.args.names.now c.args.class c.in-Some.place c.args.what c.args.counts.now.items c.index_mut.result.now c.requires.countable.each (sym c.in-Some.ensures)
