use Rattle.std.proofs.Common.{◌≡◌, ◌++◌, map, take, drop}
use Rattle.rules_dhcp.specs.Leases.{freed}
use Rattle.dhcp_server.proofs.serving.without.Given as goal

-- the entries so far are changed
abbrev pub invariant-loop-lease : goal.invariant-loop-lease
invariant-loop-lease l = l.lease-items ≡ map (freed l.mac) (take l.lease-index l.fn.leases) ++ drop l.lease-index l.fn.leases
