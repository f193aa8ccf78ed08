-- What a whole datagram asks for, by what it carries, and what is owed.
use Rattle.std.proofs.Common.{◌≡◌, ℕ, ◌+◌, ◌≤◌, ◌==◌, ◌&&◌, ◌||◌, Bool, true, false, List, [], ◌∷◌, ◌++◌, length, take, Option, Some, None, option_map, if◌then◌else◌, refl, sym, ◌∙◌, ap, subst, arith, append-nil}
use Rattle.std.proofs.lemmas.Bool.Decides.{nat_tests}
use Rattle.std.proofs.lemmas.List.{take_at}
use Rattle.net_octets.specs.Kinds.{icmp_proto, tcp_proto, udp_proto}
use Rattle.net_octets.specs.declared.Endpoint.{Endpoint}
use Rattle.net_octets.specs.declared.Mac.{Mac}
use Rattle.net_octets.specs.Octets.{our_mac}
use Rattle.world_face.specs.Journal.{Entry}
use Rattle.slirp_settings.specs.Addresses.{Config, address, endpoint, is_ours, is_guest}
use Rattle.host_policy.specs.Targets.{shown, is_hidden}
use Rattle.ipv4_head.specs.Ip.{Ip}
use Rattle.icmp_echo.specs.Icmp.{Icmp, IsIcmp, echo_octets, icmp_octets, icmp_of, read_icmp, unreachable_octets}
use Rattle.icmp_echo.specs.declared.IcmpView.{IcmpView}
use Rattle.icmp_echo.specs.declared.IcmpView.TheVariants.{Echo, Unreachable, Other}
use Rattle.udp_assoc.specs.Relays.{FitsRoom}
use Rattle.udp_datagram.specs.Udp.{Udp, summed, udp_octets, udp_with, written_sum}
use Rattle.udp_datagram.proofs.Encoding.{length-udp}
use Rattle.rules_dhcp.specs.declared.Lease.{Lease}
use Rattle.rules_dhcp.specs.declared.Message.{Message as ClientMessage}
use Rattle.rules_dhcp.specs.Replies.{everybody, goes_to_all, is_silence, replied_octets, reply_octets, reply_to as lease_reply_to}
use Rattle.rules_dhcp.specs.Serving.{served}
use Rattle.rules_tftp.specs.Saying.{IsFromServer, said_by}
use Rattle.rules_udp.specs.declared.Reply.{Reply}
use Rattle.rules_udp.specs.declared.Reply.TheVariants.{Nothing as ReplyNothing, Datagram as ADatagram, Unreachable as ReplyUnreachable}
use Rattle.spec_run.specs.Leasing.{leases_by_verdict, sending_of}
use Rattle.spec_run.specs.Datagrams.{DatagramVerdict, Ignored, Refused, ForLeases, ForFiles, GoesTo, datagram_verdict}
use Rattle.spec_run.specs.Answers.{ArpAnswer, IpAnswer, answer_of, answers_of, datagram_frames, fits_datagram, is_untold, told_about, told_of_files, reply_at, frames_of, owed_for_icmp, request, reset_for}
use Rattle.arp_table.specs.Arp.{everyone}
use Rattle.tcp_segment.specs.Tcp.{Tcp, read_tcp, tcp_length, tcp_octets}
use Rattle.spec_flows.specs.declared.Tuple.{Tuple}
use Rattle.spec_flow.specs.Event.{Segment}
use Rattle.spec_flows.specs.SegmentVerdicts.{reset_to}
use Rattle.spec_flows.specs.Segments.{OnTuple}
use Rattle.spec_trace.specs.Packets.{Datagram}
use Rattle.owed_frames.specs.Outgoing.{segment_octets}
use Rattle.owed_frames.specs.declared.outgoing.Course.{Course}
use Rattle.stream_netdev.specs.State.{LinkState}
use Rattle.slirp_core.specs.Came.{DatagramCame}
use Rattle.slirp_core.specs.Fragments.{after_ip}
use Rattle.slirp_core.specs.Holds.{WorkLeft, AsksFile, RequestLeft, Comes, Holds, HoldsAt, Standing, asked_by, flowing}
use Rattle.slirp_core.specs.Leases.{after_message, after_udp}
use Rattle.slirp_core.specs.Packets.{Request, owed_at_once, owed_at_once_by, request_by, request_for_udp, request_of, is_message_to_us, is_segment, leases_with, owed_for, reply_to, udp_of}
use Rattle.slirp_core.specs.Replies.{owed_at, replied_by}
use Rattle.slirp_core.specs.Segments.{Coming, coming, segment_of_ip}
use Rattle.slirp_core.specs.State.{SlirpState, serving_of}
use Rattle.slirp_core.proofs.Datagramming.{none_of_others}

message_proto : (a b : Bool) (proto : ℕ) → (a && b && (proto == 1)) ≡ true → proto ≡ 1
message_proto a b proto is = grind (arith, nat_tests)

pub no_udp : (config : Config) (ip : Ip) → is_message_to_us config ip ≡ true → ip.proto ≡ 17 → ⊥
no_udp config ip asked udp =
    let one : ip.proto ≡ 1 = message_proto (is_guest config ip.from) (is_ours config ip.to) ip.proto asked in
    omega arith

segment_proto : (a : Bool) (proto : ℕ) → (a && (proto == 6)) ≡ true → proto ≡ 6
segment_proto a proto is = grind (arith, nat_tests)

pub no_udp_in_segment : (config : Config) (ip : Ip) → is_segment config ip ≡ true → ip.proto ≡ 17 → ⊥
no_udp_in_segment config ip asked udp =
    let six : ip.proto ≡ 6 = segment_proto (is_guest config ip.from) ip.proto asked in
    omega arith

-- what is asked for of a network as it is then
asks_as : (config : Config) (at : Standing) (link : LinkState) (past : List Entry) {s t : SlirpState} {r q : Option Request} {c d : Option Coming} → s ≡ t → r ≡ q → c ≡ d
    → WorkLeft config at t link q d past → WorkLeft config at s link r c past
asks_as config at link past {s} {t} {r} {q} {c} {d} state request segment asks =
    subst (λ (s : SlirpState). WorkLeft config at s link r c past) (sym state)
    (subst (λ (r : Option Request). WorkLeft config at t link r c past) (sym request) (subst (λ (c : Option Coming). WorkLeft config at t link q c past) (sym segment) asks))

-- what a whole datagram asks for, by what it carries
module _ (s : SlirpState) (mac : List ℕ) (ip : Ip) where
  -- by its tests, with these answers, and the datagram of UDP that it holds
  abbrev by_tests : (message segment : Bool) (udp : Option Datagram) → SlirpState
  by_tests message segment udp = record s {
    pending = frames_of s.config s.sent
        (if message then owed_for (owed_for_icmp mac ip) (read_icmp ip.body)
        else (if segment then [] else owed_for (owed_at_once s.config (serving_of s)) udp));
    leases = leases_with s.config s.moment udp s.leases;
  }

  tests_are : (message segment : Bool) (udp : Option Datagram) → is_message_to_us s.config ip ≡ message → is_segment s.config ip ≡ segment → udp ≡ udp_of s.config mac ip
      → by_tests message segment udp ≡ after_ip s mac ip
  tests_are message segment udp asked carries is = sym (λ i. by_tests (asked i) (carries i) (sym is i))

  no_segment : is_segment s.config ip ≡ false → ◌≡◌ {A = Option Coming} None (segment_of_ip s.config mac ip)
  no_segment carries = sym (ap (λ (b : Bool). if b then option_map (coming mac ip) (read_tcp ip.from ip.to ip.body) else None) carries)

  no_six : (g : Bool) (proto : ℕ) → proto ≡ 1 → (g && (proto == 6)) ≡ false
  no_six g proto one = grind (arith, nat_tests, one)

  module _ (config : Config) (at : Standing) (link : LinkState) (none : s.pending ≡ []) (past : List Entry) (came : DatagramCame config at s link mac ip past) where
    as_it_was : Holds config at (record s { pending = [] }) (flowing false s.flows) link past → Holds config at s (flowing false s.flows) link past
    as_it_was holds = subst (λ p. Holds config at (record s { pending = p }) (flowing false s.flows) link past) (sym none) holds

    -- a message
    pub message_comes : is_message_to_us s.config ip ≡ true
        → Holds config at (record s { pending = frames_of s.config s.sent (owed_for (owed_for_icmp mac ip) (read_icmp ip.body)) }) (flowing false s.flows) link past
    message_comes asked =
        let udp = none_of_others s.config mac ip (no_udp s.config ip asked) in
        let other = no_six (is_guest s.config ip.from) ip.proto (message_proto (is_guest s.config ip.from) (is_ours s.config ip.to) ip.proto asked) in
        asks_as config at link past (tests_are true false None asked other udp) (ap (request_for_udp s.config) udp) (no_segment other) came

    -- a segment, or what is none
    segment_by : (c : Option Coming) → is_message_to_us s.config ip ≡ false → is_segment s.config ip ≡ true → c ≡ option_map (coming mac ip) (read_tcp ip.from ip.to ip.body)
        → WorkLeft config at (record s { pending = [] }) link None c past
    segment_by c asked carries is =
        let udp = none_of_others s.config mac ip (no_udp_in_segment s.config ip carries) in
        asks_as config at link past (tests_are false true None asked carries udp) (ap (request_for_udp s.config) udp)
        (is ∙ sym (ap (λ (b : Bool). if b then option_map (coming mac ip) (read_tcp ip.from ip.to ip.body) else None) carries)) came

    pub segment_comes : (c : Coming) → is_message_to_us s.config ip ≡ false → is_segment s.config ip ≡ true → Some c ≡ option_map (coming mac ip) (read_tcp ip.from ip.to ip.body)
        → Comes config at s s.flows link c past
    segment_comes c asked carries is =
        subst (λ p. Comes config at (record s { pending = p }) s.flows link c past) (sym none) (segment_by (Some c) asked carries is)

    pub no_segment_comes : is_message_to_us s.config ip ≡ false → is_segment s.config ip ≡ true → None ≡ option_map (coming mac ip) (read_tcp ip.from ip.to ip.body)
        → Holds config at s (flowing false s.flows) link past
    no_segment_comes asked carries is = as_it_was (segment_by None asked carries is)

    -- a datagram of UDP, or what is none
    udp_by : (d : Option Datagram) → is_message_to_us s.config ip ≡ false → is_segment s.config ip ≡ false → d ≡ udp_of s.config mac ip
        → RequestLeft config at (by_tests false false d) link (request_for_udp s.config d) past
    udp_by d asked carries is = asks_as config at link past (tests_are false false d asked carries is) (ap (request_for_udp s.config) is) (no_segment carries) came

    pub udp_comes : (d : Datagram) → is_message_to_us s.config ip ≡ false → is_segment s.config ip ≡ false → Some d ≡ udp_of s.config mac ip
        → RequestLeft config at (after_udp s d) link (request_of s.config d) past
    udp_comes d asked carries is = udp_by (Some d) asked carries is

    pub no_udp_comes : is_message_to_us s.config ip ≡ false → is_segment s.config ip ≡ false → None ≡ udp_of s.config mac ip → Holds config at s (flowing false s.flows) link past
    no_udp_comes asked carries is = as_it_was (udp_by None asked carries is)

-- what a datagram of UDP asks for, by what becomes of it
module _ (s : SlirpState) (d : Datagram) (config : Config) (at : Standing) (link : LinkState) (none : s.pending ≡ []) (past : List Entry)
    (came : RequestLeft config at (after_udp s d) link (request_of s.config d) past) where
  abbrev AsksBy : DatagramVerdict → Type 0
  AsksBy f = RequestLeft config at (record s {
    pending = frames_of s.config s.sent (owed_at_once_by s.config (serving_of s) d f);
    leases = leases_by_verdict s.config s.moment d f s.leases;
  }) link (request_by d f) past

  by_datagram_verdict : (f : DatagramVerdict) → f ≡ datagram_verdict s.config d → AsksBy f
  by_datagram_verdict f is = subst AsksBy (sym is) came

  pub ignored : Ignored ≡ datagram_verdict s.config d → Holds config at s (flowing false s.flows) link past
  ignored is = subst (λ p. Holds config at (record s { pending = p }) (flowing false s.flows) link past) (sym none) (by_datagram_verdict Ignored is)

  pub refused : Refused ≡ datagram_verdict s.config d → Holds config at (record s { pending = frames_of s.config s.sent (told_about s.config 10 d) }) (flowing false s.flows) link past
  refused is = by_datagram_verdict Refused is

  pub is_for_leases : ForLeases ≡ datagram_verdict s.config d → Holds config at (after_message s d) (flowing false s.flows) link past
  is_for_leases is = by_datagram_verdict ForLeases is

  pub is_for_files : ForFiles ≡ datagram_verdict s.config d → AsksFile config at s s.flows link d past
  is_for_files is = subst (λ p. AsksFile config at (record s { pending = p }) s.flows link d past) (sym none) (by_datagram_verdict ForFiles is)

  pub goes_out : (to : Endpoint) → GoesTo to ≡ datagram_verdict s.config d
      → HoldsAt config at (asked_by config s (Some (record { datagram = d; to = to }))) s (flowing false s.flows) link past
  goes_out to is =
      subst (λ p. HoldsAt config at (asked_by config s (Some (record { datagram = d; to = to }))) (record s { pending = p }) (flowing false s.flows) link past) (sym none) (by_datagram_verdict (GoesTo to) is)

-- the frames of an answer that a datagram can carry
pub frames_whole : (config : Config) (ident : ℕ) (to : List ℕ) (proto from guest : ℕ) (body : List ℕ) → length body ≤ 65515
    → datagram_frames config.mtu to (our_mac config.vhost) ident proto from guest body ≡ frames_of config ident (IpAnswer to proto from guest body ∷ [])
frames_whole config ident to proto from guest body short =
    let fits : fits_datagram body ≡ true = grind (arith, nat_tests) in
    sym (append-nil (if fits_datagram body then datagram_frames config.mtu to (our_mac config.vhost) ident proto from guest body else [])
    ∙ ap (λ (b : Bool). if b then datagram_frames config.mtu to (our_mac config.vhost) ident proto from guest body else []) fits)

-- an echo request is answered
pub echoed : (config : Config) (ident : ℕ) (mac : List ℕ) (ip : Ip) (message reply : IcmpView) → Some reply ≡ reply_to message → IsIcmp ip.body (icmp_of message) →
    length ip.body ≤ 65515 → read_icmp ip.body ≡ Some (icmp_of message)
    → datagram_frames config.mtu mac (our_mac config.vhost) ident icmp_proto ip.to ip.from (icmp_octets (icmp_of reply)) ≡ frames_of config ident (owed_for (owed_for_icmp mac ip) (read_icmp ip.body))
echoed config ident mac ip (Echo true number count body) reply is g short read = absurd cc
echoed config ident mac ip (Echo false number count body) reply is g short read =
    let this : reply ≡ Echo true number count body = cc in
    let octets = echo_octets true number count body.now in
    let long : length octets ≡ 8 + length body.now = omega arith in
    let came : length ip.body ≡ 8 + length body.now = ap length g.is ∙ omega arith in
    ap (λ (r : IcmpView). datagram_frames config.mtu mac (our_mac config.vhost) ident icmp_proto ip.to ip.from (icmp_octets (icmp_of r))) this
    ∙ frames_whole config ident mac icmp_proto ip.to ip.from octets (omega (arith, long, came))
    ∙ sym (ap (λ (o : Option Icmp). frames_of config ident (owed_for (owed_for_icmp mac ip) o)) read)
echoed config ident mac ip (Unreachable code quoted) reply is g short read = absurd cc
echoed config ident mac ip (Other kind code) reply is g short read = absurd cc

-- a guest that may be told is told
pub told : (config : Config) (ident code : ℕ) (d : Datagram) → is_untold config d ≡ false → length d.quote ≤ 68
    → datagram_frames config.mtu d.mac (our_mac config.vhost) ident icmp_proto config.vhost (address d.from) (unreachable_octets code d.quote) ≡ frames_of config ident (told_about config code d)
told config ident code d may few =
    let long : length (unreachable_octets code d.quote) ≡ 8 + length d.quote = omega arith in
    frames_whole config ident d.mac icmp_proto config.vhost (address d.from) (unreachable_octets code d.quote) (omega (arith, long))
    ∙ sym (ap (λ (b : Bool). frames_of config ident (if b then [] else IpAnswer d.mac icmp_proto config.vhost (address d.from) (unreachable_octets code d.quote) ∷ [])) may)

-- a reset has a header alone
reset_short : (from to : ℕ) (tuple : Tuple) (seg : Segment) → length (tcp_octets from to (reset_to tuple seg)) ≡ 20
reset_short from to tuple seg = by seg.ack refl
  where
    by : (b : Bool) → seg.ack ≡ b → length (tcp_octets from to (reset_to tuple seg)) ≡ 20
    by true is = ap (λ (b : Bool). length (tcp_octets from to (reset_to tuple (record seg { ack = b })))) is ∙ omega arith
    by false is = ap (λ (b : Bool). length (tcp_octets from to (reset_to tuple (record seg { ack = b })))) is ∙ omega arith

pub reset_small : (tuple : Tuple) (seg : Segment) (reset : Tcp) → reset ≡ reset_to tuple seg → tcp_length reset ≤ 65515
reset_small tuple seg reset is = let few : tcp_length reset ≡ 20 = ap tcp_length is ∙ small tuple seg in omega (arith, few)
  where
    small : (tuple : Tuple) (seg : Segment) → tcp_length (reset_to tuple seg) ≡ 20
    small tuple seg = by seg.ack refl
      where
        by : (b : Bool) → seg.ack ≡ b → tcp_length (reset_to tuple seg) ≡ 20
        by true is = ap (λ (b : Bool). tcp_length (reset_to tuple (record seg { ack = b }))) is
        by false is = ap (λ (b : Bool). tcp_length (reset_to tuple (record seg { ack = b }))) is

octets_of : (from to : ℕ) (tcp : Tcp) → segment_octets from to tcp ≡ tcp_octets from to tcp
unfolding segment_octets
octets_of from to tcp = refl

-- the reset that answers a segment
pub reset_frames : (config : Config) (ident : ℕ) (on : OnTuple) (reset : Tcp) (course : Course) (frames : List (List ℕ)) → reset ≡ reset_to on.tuple on.segment
    → course ≡ record { to_mac = record { 0 = on.mac }; from_mac = record { 0 = our_mac config.vhost }; ident = ident; from = on.tuple.other.addr; to = on.tuple.guest.addr; mtu = config.mtu }
    → frames ≡ datagram_frames course.mtu course.to_mac.0 course.from_mac.0 course.ident tcp_proto course.from.0 course.to.0 (segment_octets course.from.0 course.to.0 reset)
    → frames ≡ frames_of config ident (reset_for on ∷ [])
reset_frames config ident on reset course frames is by put =
    put ∙ ap (λ (k : Course). datagram_frames k.mtu k.to_mac.0 k.from_mac.0 k.ident tcp_proto k.from.0 k.to.0 (segment_octets k.from.0 k.to.0 reset)) by
    ∙ by_octets (segment_octets other guest reset) (octets_of other guest reset ∙ ap (λ (r : Tcp). tcp_octets other guest r) is)
  where
    other : ℕ
    other = address on.tuple.other

    guest : ℕ
    guest = address on.tuple.guest

    by_octets : (octets : List ℕ) → octets ≡ tcp_octets other guest (reset_to on.tuple on.segment)
        → datagram_frames config.mtu on.mac (our_mac config.vhost) ident tcp_proto other guest octets ≡ frames_of config ident (reset_for on ∷ [])
    by_octets octets same =
        let few : length octets ≡ 20 = ap length same ∙ reset_short other guest on.tuple on.segment in
        frames_whole config ident on.mac tcp_proto other guest octets (omega (arith, few))
        ∙ ap (λ o. frames_of config ident (IpAnswer on.mac tcp_proto other guest o ∷ [])) same

pub both_false : (a b c : Bool) → a ≡ false → (b || c) ≡ false → ((a || b) || c) ≡ false
both_false a b c p q = ap (λ (x : Bool). (x || b) || c) p ∙ q

-- a peer that is shown is heard
shown_parts : (b : Bool) (from peer : Endpoint) → Some from ≡ (if b then None else Some peer) → (b ≡ false) × (from ≡ peer)
shown_parts true from peer is = absurd cc
shown_parts false from peer is = (refl, cc)

-- a datagram of ours goes out whole
pub datagram_sent : (config : Config) (ident : ℕ) (from to : Endpoint) (mac octets : List ℕ) → length octets ≤ 65507
    → datagram_frames config.mtu mac (our_mac config.vhost) ident udp_proto (address from) (address to)
    (udp_octets (address from) (address to) (record { from_port = from.port; to_port = to.port; body = octets }))
    ≡ frames_of config ident (answer_of (record { mac = mac; from = from; to = to; body = octets }) ∷ [])
datagram_sent config ident from to mac octets short =
    let udp : Udp = record { from_port = from.port; to_port = to.port; body = octets } in
    let long : length (udp_octets (address from) (address to) udp) ≡ 8 + length octets = length-udp (written_sum (summed (address from) (address to) (udp_with 0 udp))) udp in
    frames_whole config ident mac udp_proto (address from) (address to) (udp_octets (address from) (address to) udp) (omega (arith, long, short))

-- that of a peer, as it is shown
pub shown_sent : (config : Config) (ident : ℕ) (peer from : Endpoint) (octets : List ℕ) (guest : Endpoint) (mac : List ℕ) → Some from ≡
    (if is_hidden config peer then None else Some (shown config peer))
    → frames_of config ident (answer_of (record { mac = mac; from = from; to = guest; body = octets }) ∷ []) ≡ frames_of config ident (reply_at config peer octets guest mac)
shown_sent config ident peer from octets guest mac is =
    let p = shown_parts (is_hidden config peer) from (shown config peer) is in
    ap (λ (e : Endpoint). frames_of config ident (answer_of (record { mac = mac; from = e; to = guest; body = octets }) ∷ [])) p.1
    ∙ sym (ap (λ (b : Bool). frames_of config ident (if b then [] else answer_of (record { mac = mac; from = shown config peer; to = guest; body = octets }) ∷ [])) p.0)

-- what is owed where a peer spoke to a guest: nothing where it isn't shown
hidden_parts : (b : Bool) (peer : Endpoint) → None ≡ (if b then None else Some peer) → b ≡ true
hidden_parts true peer is = refl
hidden_parts false peer is = absurd cc

pub hidden_owed : (s : SlirpState) (peer : Endpoint) (octets : List ℕ) (guest : Endpoint) (mac : Option Mac) → s.pending ≡ []
    → None ≡ (if is_hidden s.config peer then None else Some (shown s.config peer)) → s.pending ≡ owed_at s peer octets guest mac
hidden_owed s peer octets guest None none is =
    let hidden = hidden_parts (is_hidden s.config peer) (shown s.config peer) is in
    none ∙ sym (ap (λ (b : Bool). frames_of s.config s.sent (if b then [] else ArpAnswer everyone (request s.config (address guest)) ∷ [])) hidden)
hidden_owed s peer octets guest (Some mac) none is =
    let hidden = hidden_parts (is_hidden s.config peer) (shown s.config peer) is in
    none
    ∙ sym (ap (λ (b : Bool). frames_of s.config s.sent (if b then [] else answer_of (record { mac = mac.0; from = shown s.config peer; to = guest; body = octets }) ∷ [])) hidden)

-- a request for the hardware address of the guest
pub sought_owed : (s : SlirpState) (peer from : Endpoint) (octets : List ℕ) (guest : Endpoint) → Some from ≡ (if is_hidden s.config peer then None else Some (shown s.config peer))
    → frames_of s.config s.sent (ArpAnswer everyone (request s.config (address guest)) ∷ []) ≡ owed_at s peer octets guest None
sought_owed s peer from octets guest is =
    let p = shown_parts (is_hidden s.config peer) from (shown s.config peer) is in
    sym (ap (λ (b : Bool). frames_of s.config s.sent (if b then [] else ArpAnswer everyone (request s.config (address guest)) ∷ [])) p.0)

-- its octets are as many as it says
pub lease_count : (config : Config) (now : ℕ) (leases : List Lease) (m : Option ClientMessage) (count : ℕ) (from to : Endpoint) (mac : Option Mac)
    → lease_reply_to config now leases m ≡ ADatagram count from to mac → count ≡ length (replied_octets config now leases m)
lease_count config now leases None count from to mac is = cc
lease_count config now leases (Some m) count from to mac is =
    by (is_silence (served config now leases (Some m)).answer) (goes_to_all m (served config now leases (Some m)).answer) (reply_octets config m (served config now leases (Some m)).answer) is
  where
    by : (silent all : Bool) (octets : List ℕ)
        → (if silent then ReplyNothing else (if all then ADatagram (length octets) (endpoint config.vhost 67) (endpoint 0xffffffff 68) (Some everybody) else ADatagram
        (length octets) (endpoint config.vhost 67) (endpoint m.client.0 68) (Some m.mac))) ≡ ADatagram count from to mac
        → count ≡ length (if silent then [] else octets)
    by true all octets is = cc
    by false true octets is = cc
    by false false octets is = cc

-- so they fit the room where they stand
pub lease_fits : (config : Config) (now : ℕ) (leases : List Lease) (m : Option ClientMessage) (reply : Reply) (room : ℕ) → reply ≡ lease_reply_to config now leases m
    → length (replied_octets config now leases m) ≤ room → FitsRoom reply room
lease_fits config now leases m ReplyNothing room is few = tt
lease_fits config now leases m (ADatagram count from to mac) room is few = let many = lease_count config now leases m count from to mac (sym is) in omega (arith, many, few)
lease_fits config now leases m (ReplyUnreachable code) room is few = tt

-- and what is owed for it is what it says
pub lease_replied : (config : Config) (ident now : ℕ) (leases : List Lease) (m : Option ClientMessage) (reply : Reply) (left : List (List ℕ)) (octets rest : List ℕ) → left ≡ []
    → octets ≡ replied_octets config now leases m → reply ≡ lease_reply_to config now leases m
    → replied_by config ident left reply (octets ++ rest) ≡ frames_of config ident (answers_of (sending_of reply octets))
lease_replied config ident now leases m ReplyNothing left octets rest none same is = none
lease_replied config ident now leases m (ADatagram count from to None) left octets rest none same is = none
lease_replied config ident now leases m (ReplyUnreachable code) left octets rest none same is = none
lease_replied config ident now leases m (ADatagram count from to (Some mac)) left octets rest none same is =
    let many : length octets ≡ count = ap length same ∙ sym (lease_count config now leases m count from to (Some mac) (sym is)) in
    ap (λ (o : List ℕ). frames_of config ident (answer_of (record { mac = mac.0; from = from; to = to; body = o }) ∷ [])) (take_at octets rest count many)

-- what the server of files answers
pub file_fits : (vhost : ℕ) (reply : Reply) (room : ℕ) → IsFromServer vhost reply → 1472 ≤ room → FitsRoom reply room
file_fits vhost ReplyNothing room from wide = tt
file_fits vhost (ADatagram count from to None) room is wide = absurd is
file_fits vhost (ADatagram count from to (Some mac)) room is wide = omega (arith, is.1, wide)
file_fits vhost (ReplyUnreachable code) room is wide = tt

pub file_replied : (config : Config) (ident : ℕ) (reply : Reply) (left : List (List ℕ)) (octets : List ℕ) → left ≡ [] → IsFromServer config.vhost reply
    → replied_by config ident left reply octets ≡ frames_of config ident (told_of_files config (said_by reply octets))
file_replied config ident ReplyNothing left octets none is = none
file_replied config ident (ADatagram count from to None) left octets none is = absurd is
file_replied config ident (ADatagram count from to (Some mac)) left octets none is =
    ap (λ (e : Endpoint). frames_of config ident (answer_of (record { mac = mac.0; from = e; to = to; body = take count octets }) ∷ [])) is.0
file_replied config ident (ReplyUnreachable code) left octets none is = absurd is

-- what is owed after a reply of the server of files, whose octets stand at the front of a buffer
pub file_told : (config : Config) (ident : ℕ) (reply : Reply) (left pending : List (List ℕ)) (octets room : List ℕ) → pending ≡ replied_by config ident left reply octets → left ≡ []
    → IsFromServer config.vhost reply → octets ≡ room → pending ≡ frames_of config ident (told_of_files config (said_by reply room))
file_told config ident reply left pending octets room is none from whole =
    is ∙ file_replied config ident reply left octets none from ∙ ap (λ (o : List ℕ). frames_of config ident (told_of_files config (said_by reply o))) whole
