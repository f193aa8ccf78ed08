use Rattle.std.proofs.Common.{◌∙◌, leb, rules}
use Rattle.std.proofs.lemmas.List.Sorted.{IsPartitionPoint-from_clause, IsPartitionedBy-leb}
use Rattle.tcp_flows.specs.declared.sockets.Numbered.{Numbered}
use Rattle.tcp_flows.proofs.Finding.{first_is, read_at}
use Rattle.tcp_flows.proofs.Rising.{never_fall}
use Rattle.tcp_flows.proofs.sockets.first_above.Goals as goal

pub returns : goal.returns
returns c =
    let place = c.partition_point-place.result in
    let rows = c.args.rows.now in
    let n = c.args.number in
    let parted = IsPartitionedBy-leb (λ (r : Numbered). r.number) rows n (never_fall rows c.requires) in
    let point = IsPartitionPoint-from_clause (λ (r : Numbered). leb r.number n) _ _ c.partition_point-place.ensures.partitioned parted (λ a r q k. search rules) in
    c.copied.ensures ∙ read_at rows place c.get.result c.get.ensures.lookup.0 c.get.ensures.lookup.1 ∙ first_is n rows place c.partition_point-place.ensures.bound point
