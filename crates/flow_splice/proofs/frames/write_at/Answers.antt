use Rattle.std.proofs.Common.{◌≡◌, ℕ, ◌+◌, ◌-◌, ◌++◌, List, [], length, refl, arith, ap, length-append, ◌∙◌}
use Rattle.net_octets.proofs.Writing.{written}
use Rattle.net_octets.specs.Kinds.{ipv4_kind, tcp_proto}
use Rattle.net_octets.specs.Octets.{two, our_mac}
use Rattle.ether_frame.specs.Ether.{ether_octets}
use Rattle.ipv4_head.specs.Ip.{summed_head}
use Rattle.tcp_segment.specs.Tcp.{Tcp, tcp_octets, tcp_of}
use Rattle.sim_connection.specs.Sending.{carried}
use Rattle.flow_splice.proofs.frames.write_at.Goals as goal

pub returns-clause-written : goal.returns-clause-written
returns-clause-written c =
    let route = c.args.route.now in
    let into : List ℕ = c.args.into.now in
    let size : ℕ = c.args.size in
    let ether : List ℕ = ether_octets route.mac.0 (our_mac route.vhost.0) ipv4_kind [] in
    let ip : List ℕ = summed_head 64 route.ident 0 tcp_proto route.other.addr.0 route.guest.addr.0 size in
    let tcp : Tcp = record (tcp_of c.args.v.now) { body = carried c.args.down.now c.args.what.now } in
    let six = c.put_ether.ensures.six in
    let ours = our_mac route.vhost.0 in
    let kind = two ipv4_kind in
    let long : length ether ≡ 14 = omega (arith, length-append (route.mac.0 ++ ours ++ kind) [], length-append (route.mac.0 ++ ours) kind, length-append route.mac.0 ours, six) in
    let first = written ether ip into _ _ 14 20 34 c.put_ether.ensures.written (c.copy_from_slice.ensures.after ∙ c.ip_header.ensures) long refl in
    written (ether ++ ip) (tcp_octets route.other.addr.0 route.guest.addr.0 tcp) into _ _ 34 (34 + size - 34) (34 + size) first c.write_segment.ensures
    (length-append ether ip ∙ ap (λ (n : ℕ). n + 20) long) (omega arith)
