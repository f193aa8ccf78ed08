-- One behind the other.
use Rattle.slirp_settings.specs.Settings.{settings}
use Rattle.rules_dhcp.specs.Messages.{form}
use Rattle.rules_dhcp.specs.Replies.{lease_option, network_options}
use Rattle.dhcp_server.proofs.Adding.{then_options}
use Rattle.dhcp_server.proofs.reply.put_lease.Goals as goal

pub returns-clause-written : goal.returns-clause-written
returns-clause-written c = then_options form _ _ _ lease_option (network_options (settings c.args.config.now)) _ _ _ c.put_number-at.ensures.written c.put_network.ensures.written
