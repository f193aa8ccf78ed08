-- One entry more is changed.
use Rattle.std.proofs.Common.{◌<◌, length, arith}
use Rattle.rules_dhcp.specs.declared.Lease.TheVariants.{Free}
use Rattle.rules_dhcp.specs.Leases.{not_reserved}
use Rattle.dhcp_server.proofs.Mapping.{goes_on}
use Rattle.dhcp_server.proofs.serving.without_offers.Goals as goal

pub loop-lease-preserved : goal.loop-lease-preserved
loop-lease-preserved c =
    let within : c.loop-lease.lease-index < length c.args.leases = omega (arith, c.loop-lease-test.true) in
    goes_on (not_reserved c.args.mac) Free c.args.leases c.loop-lease.lease-items c.loop-lease.lease-index _ within c.loop-lease.invariant c.not_reserved.ensures
