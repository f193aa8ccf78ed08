use Rattle.std.proofs.Common.{leb, rules}
use Rattle.std.proofs.lemmas.List.Sorted.{IsPartitionPoint-from_clause, IsPartitionedBy-leb}
use Rattle.flow_table.specs.declared.TimeWait.{TimeWait}
use Rattle.flow_table.proofs.Finding.{first_after_is}
use Rattle.flow_table.proofs.time_waits.first_after.Goals as goal

pub returns : goal.returns
returns c =
    let time_waits = c.args.time_waits.now in
    let since = c.args.since in
    let parted = IsPartitionedBy-leb (λ (r : TimeWait). r.since) time_waits since c.requires in
    first_after_is time_waits since c.partition_point.result c.partition_point.ensures.bound
    (IsPartitionPoint-from_clause (λ (r : TimeWait). leb r.since since) _ _ c.partition_point.ensures.partitioned parted (λ a r q k. search rules))
