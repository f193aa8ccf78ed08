use Rattle.std.proofs.Common.{rules, ltb}
use Rattle.std.proofs.lemmas.List.Sorted.{IsPartitionPoint-from_clause, IsPartitionedBy-ltb}
use Rattle.poll_list.specs.declared.Want.{Want}
use Rattle.tcp_flows.specs.Standing.{number_in}
use Rattle.tcp_flows.proofs.Placing.{never_fall}
use Rattle.tcp_flows.proofs.waiting.place_of.Goals as goal

pub returns-clause-place : goal.returns-clause-place
returns-clause-place c =
    let wants = c.args.wants.now in
    let n = c.args.number in
    let parted = IsPartitionedBy-ltb number_in wants n (never_fall wants c.requires) in
    IsPartitionPoint-from_clause (λ (w : Want). ltb (number_in w) n) _ _ c.partition_point.ensures.partitioned parted (λ a r q k. search rules)
