use Rattle.std.proofs.Common.{◌≡◌, ◌+◌, ◌≤◌, take}
use Rattle.indexmap.specs.IndexMap.{index_map_len, spare}
use Rattle.port_forward.proofs.ports.refill.Given as goal

abbrev pub invariant-loop-port : goal.invariant-loop-port
invariant-loop-port l =
    (l.ports.entries ≡ take l.port-index l.kept)
    × (index_map_len l.fn.ports + spare l.fn.ports ≤ index_map_len l.ports + spare l.ports)
