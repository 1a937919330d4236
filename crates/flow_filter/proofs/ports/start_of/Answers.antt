use Rattle.std.proofs.Common.{ℕ, ltb, rules}
use Rattle.std.proofs.lemmas.List.Sorted.{IsPartitionPoint-from_clause, IsPartitionedBy-ltb}
use Rattle.flow_filter.specs.declared.ports.Filed.{Filed}
use Rattle.flow_filter.proofs.Stretches.{begins_at}
use Rattle.flow_filter.proofs.ports.start_of.Goals as goal

pub returns : goal.returns
returns c = λ order.
    let filed = c.args.filed.now in
    let port : Filed → ℕ = λ e. e.port in
    let lower = IsPartitionPoint-from_clause (λ e. ltb e.port c.args.port) filed c.partition_point.result c.partition_point.ensures.partitioned
    (IsPartitionedBy-ltb port filed c.args.port order.ports_rise) (λ a r f' k. search rules) in
    begins_at filed c.args.port c.partition_point.result c.partition_point.ensures.bound lower
