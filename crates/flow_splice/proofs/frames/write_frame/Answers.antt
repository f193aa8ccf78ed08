use Rattle.std.proofs.Common.{◌≡◌, ℕ, ◌+◌, ◌++◌, List, [], length, take, drop, arith, ap, append_assoc, length-append, sym, ◌∙◌}
use Rattle.std.proofs.lemmas.List.{take_at}
use Rattle.net_octets.specs.Octets.{checksum, two, our_mac}
use Rattle.net_octets.specs.Kinds.{ipv4_kind, tcp_proto}
use Rattle.ether_frame.specs.Ether.{ether_octets}
use Rattle.ipv4_head.specs.Ip.{ip_octets, summed_head}
use Rattle.tcp_segment.specs.Tcp.{Tcp, mss_octets, options_octets, scale_octets, summed, tcp_length, tcp_octets, tcp_of, tcp_with, words_of}
use Rattle.tcp_segment.proofs.Encoding.{length-segment}
use Rattle.sock_buffers.specs.Downward.{Downward}
use Rattle.sim_connection.specs.Sending.{carried, with_head}
use Rattle.flow_splice.specs.Frames.{tcp_out}
use Rattle.flow_splice.specs.Splice.{Face}
use Rattle.flow_splice.proofs.Sizing.{carries_few, mss_fits}
use Rattle.flow_splice.proofs.frames.write_frame.Goals as goal

-- how long a segment is
long_is : (from to : ℕ) (tcp : Tcp) → length (tcp_octets from to tcp) ≡ tcp_length tcp
long_is from to tcp =
    length-segment (words_of tcp) 0 (checksum (summed from to (tcp_with 0 tcp))) 0 (options_octets tcp) tcp
    ∙ omega (arith, length-append (mss_octets tcp.mss) (scale_octets tcp.scale))

-- header by header
front_is : (ether ip tcp : List ℕ) → ((ether ++ []) ++ ip) ++ tcp ≡ ether ++ (ip ++ tcp)
front_is ether ip tcp = ap (λ (xs : List ℕ). xs ++ tcp) (append_assoc ether [] ip) ∙ append_assoc ether ip tcp

pub returns-clause-frame : goal.returns-clause-frame
returns-clause-frame c number =
    let route = c.args.route.now in
    let down : Downward = c.args.down.now in
    let size : ℕ = c.segment_size-size.result in
    let face : Face = record { guest = route.guest; other = route.other; number = number; vhost = route.vhost } in
    let seg = with_head c.args.head.now c.args.mru down c.args.what.now in
    let tcp : Tcp = record (tcp_of c.outline-v.result) { body = carried down c.args.what.now } in
    let is : tcp ≡ tcp_out face seg = c.outline-v.ensures down number c.requires.held in
    let octets : List ℕ = tcp_octets route.other.addr.0 route.guest.addr.0 tcp in
    let ether : List ℕ = ether_octets route.mac.0 (our_mac route.vhost.0) ipv4_kind [] in
    let ip : List ℕ = summed_head 64 route.ident 0 tcp_proto route.other.addr.0 route.guest.addr.0 size in
    let size_is : size ≡ tcp_length tcp = c.segment_size-size.ensures down c.requires.held in
    let long : length octets ≡ size = long_is route.other.addr.0 route.guest.addr.0 tcp ∙ sym size_is in
    let six = c.write_at.ensures.six in
    let ours = our_mac route.vhost.0 in
    let kind = two ipv4_kind in
    let whole : length ((ether ++ ip) ++ octets) ≡ 34 + size =
    omega (
      arith,
      length-append (ether ++ ip) octets,
      length-append ether ip,
      length-append (route.mac.0 ++ ours ++ kind) [],
      length-append (route.mac.0 ++ ours) kind,
      length-append route.mac.0 ours,
      six,
      long,
    ) in
    ap (take (34 + size)) c.write_at.ensures.written ∙ take_at ((ether ++ ip) ++ octets) (drop (34 + size) c.args.into.now) (34 + size) whole
    ∙ front_is (route.mac.0 ++ ours ++ kind) ip octets
    ∙ ap (λ (n : ℕ). route.mac.0 ++ ours ++ kind ++ (summed_head 64 route.ident 0 tcp_proto route.other.addr.0 route.guest.addr.0 n ++ octets)) (sym long)
    ∙ ap (λ (t : Tcp). route.mac.0 ++ ours ++ kind ++ ip_octets route.ident 0 tcp_proto route.other.addr.0 route.guest.addr.0 (tcp_octets route.other.addr.0 route.guest.addr.0 t)) is

few : (tcp other : Tcp) → tcp ≡ other → tcp_length tcp ≡ tcp_length other
few tcp other is = ap tcp_length is

pub write_at-requires-clause-fits : goal.write_at-requires-clause-fits
write_at-requires-clause-fits c =
    let route = c.args.route.now in
    let down : Downward = c.args.down.now in
    let face : Face = record { guest = route.guest; other = route.other; number = 0; vhost = route.vhost } in
    let tcp : Tcp = record (tcp_of c.outline-v.result) { body = carried down c.args.what.now } in
    let size_is : c.segment_size-size.result ≡ tcp_length tcp = c.segment_size-size.ensures down c.requires.held in
    let same = few tcp (tcp_out face (with_head c.args.head.now c.args.mru down c.args.what.now)) (c.outline-v.ensures down 0 c.requires.held) in
    let fits = c.requires.fits in
    omega (arith, size_is, same, fits)

pub returns-clause-short : goal.returns-clause-short
returns-clause-short c =
    let route = c.args.route.now in
    let down : Downward = c.args.down.now in
    let face : Face = record { guest = route.guest; other = route.other; number = 0; vhost = route.vhost } in
    let tcp : Tcp = record (tcp_of c.outline-v.result) { body = carried down c.args.what.now } in
    let size_is : c.segment_size-size.result ≡ tcp_length tcp = c.segment_size-size.ensures down c.requires.held in
    let same = few tcp (tcp_out face (with_head c.args.head.now c.args.mru down c.args.what.now)) (c.outline-v.ensures down 0 c.requires.held) in
    let fits = c.requires.fits in
    omega (arith, size_is, same, fits)

pub returns-clause-sized : goal.returns-clause-sized
returns-clause-sized c number = record {
  guest = omega arith;
  guest_port = omega arith;
  other = omega arith;
  other_port = omega arith;
  to_six = c.write_at.ensures.six;
  ident_fits = omega arith;
  number = omega arith;
  acknowledgement = omega arith;
  window = omega arith;
  mss = mss_fits c.args.mru c.args.what.now (omega arith);
  few = carries_few c.args.down.now c.args.what.now c.requires.held;
}
