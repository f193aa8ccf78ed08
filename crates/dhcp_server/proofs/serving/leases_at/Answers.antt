-- One entry more is changed.
use Rattle.std.proofs.Common.{◌<◌, length, arith}
use Rattle.rules_dhcp.specs.declared.Lease.TheVariants.{Free}
use Rattle.rules_dhcp.specs.Leases.{at_moment}
use Rattle.dhcp_server.proofs.Mapping.{goes_on}
use Rattle.dhcp_server.proofs.serving.leases_at.Goals as goal

pub loop-lease-preserved : goal.loop-lease-preserved
loop-lease-preserved c =
    let within : c.loop-lease.lease-index < length c.args.leases = omega (arith, c.loop-lease-test.true) in
    goes_on (at_moment c.args.now) Free c.args.leases c.loop-lease.lease-items c.loop-lease.lease-index _ within c.loop-lease.invariant c.at_moment.ensures
