-- The options one after another.
use Rattle.std.proofs.Common.{ℕ, List, [], ◌∷◌, ◌++◌}
use Rattle.net_octets.specs.Octets.{four}
use Rattle.slirp_settings.specs.Settings.{settings}
use Rattle.rules_dhcp.specs.Messages.{form}
use Rattle.rules_dhcp.specs.Replies.{router, name_server, text_option}
use Rattle.dhcp_server.proofs.Adding.{then_options}
use Rattle.dhcp_server.proofs.reply.put_network.Goals as goal

pub returns-clause-written : goal.returns-clause-written
returns-clause-written c =
    let config = settings c.args.config.now in
    let mask : List (ℕ × List ℕ) = (1, four config.mask) ∷ [] in
    let routed = mask ++ router config in
    let served = routed ++ name_server config in
    let named = served ++ text_option 12 config.hostname in
    let placed = named ++ text_option 15 config.domainname in
    let booted = placed ++ text_option 66 config.tftp_server_name in
    let to_router = then_options form _ _ _ mask (router config) _ _ _ c.put_number-at.ensures.written c.put_router-at.ensures.written in
    let to_server = then_options form _ _ _ routed (name_server config) _ _ _ to_router c.put_name_server-at.ensures.written in
    let to_name = then_options form _ _ _ served (text_option 12 config.hostname) _ _ _ to_server c.put_text-at.ensures.written in
    let to_domain = then_options form _ _ _ named (text_option 15 config.domainname) _ _ _ to_name c.put_text-at-2.ensures.written in
    let to_tftp = then_options form _ _ _ placed (text_option 66 config.tftp_server_name) _ _ _ to_domain c.put_text-at-3.ensures.written in
    then_options form _ _ _ booted (text_option 67 config.bootfile) _ _ _ to_tftp c.put_text.ensures.written
