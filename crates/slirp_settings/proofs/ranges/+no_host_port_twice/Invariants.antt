use Rattle.std.proofs.Common.{length}
use Rattle.slirp_settings.proofs.ranges.+no_host_port_twice.Given as goal

abbrev pub decreases-no_host_port_twice : goal.decreases-no_host_port_twice
decreases-no_host_port_twice l = length l.forwards.now
