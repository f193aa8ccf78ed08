use Rattle.std.proofs.Common.{leb, rules}
use Rattle.std.proofs.lemmas.List.Sorted.{IsPartitionPoint-from_clause, IsPartitionedBy-leb}
use Rattle.ipv4_head.specs.declared.holes.Hole.{Hole}
use Rattle.ipv4_reasm.proofs.Holing.{none_falls}
use Rattle.ipv4_reasm.proofs.holes.begun_by.Goals as goal

pub returns-clause-point : goal.returns-clause-point
returns-clause-point c =
    let holes = c.args.holes.now in
    let place = c.args.place in
    let parted = IsPartitionedBy-leb (λ (h : Hole). h.from) holes place (none_falls holes c.requires) in
    IsPartitionPoint-from_clause (λ (h : Hole). leb h.from place) _ _ c.partition_point.ensures.partitioned parted (λ a r q k. search rules)
