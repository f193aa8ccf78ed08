use Rattle.std.proofs.Common.{◌≡◌, ◌++◌, map, take, drop}
use Rattle.rules_dhcp.specs.Leases.{at_moment}
use Rattle.dhcp_server.proofs.serving.leases_at.Given as goal

-- the entries so far are changed
abbrev pub invariant-loop-lease : goal.invariant-loop-lease
invariant-loop-lease l = l.lease-items ≡ map (at_moment l.now) (take l.lease-index l.fn.leases) ++ drop l.lease-index l.fn.leases
