use Rattle.std.proofs.Common.{◌∙◌, ℕ, leb, rules, sym}
use Rattle.std.proofs.lemmas.List.Sorted.{IsPartitionPoint-from_clause, IsPartitionedBy-leb}
use Rattle.flow_filter.specs.declared.ports.Filed.{Filed}
use Rattle.flow_filter.proofs.Stretches.{no_stretch, one_alone, stretch_of}
use Rattle.flow_filter.proofs.ports.end_of.Goals as goal

pub returns-then-not-is_at : goal.returns-then-not-is_at
returns-then-not-is_at c = λ order begins.
    no_stretch c.args.filed.now c.args.port c.args.start order begins (sym c.is_at.ensures.value ∙ c.if-not-is_at.true)

pub returns-then-not-is_at-2 : goal.returns-then-not-is_at-2
returns-then-not-is_at-2 c = λ order begins.
    one_alone c.args.filed.now c.args.port c.args.start order begins (sym c.is_at.ensures.value ∙ c.if-not-is_at.false) (sym c.is_at-2.ensures.value ∙ c.if-not-is_at-2.true)

pub returns : goal.returns
returns c = λ order begins.
    let filed = c.args.filed.now in
    let port : Filed → ℕ = λ e. e.port in
    let upper = IsPartitionPoint-from_clause (λ e. leb e.port c.args.port) filed c.partition_point.result c.partition_point.ensures.partitioned
    (IsPartitionedBy-leb port filed c.args.port order.ports_rise) (λ a r f' k. search rules) in
    stretch_of filed c.args.port c.args.start c.partition_point.result c.partition_point.ensures.bound begins upper
