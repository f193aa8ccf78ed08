-- A reply as it is read has what the peer sent, for the port that asked.
use Rattle.std.proofs.Common.{◌⊎◌, inl, inr, ◌≡◌, ℕ, ◌+◌, ◌*◌, ◌^◌, ◌<◌, ◌≤◌, ◌==◌, ◌&&◌, not, Bool, true, false, List, [], ◌∷◌, length, take, drop, Option, Some, if◌then◌else◌, refl, sym}
use Rattle.std.proofs.Common.{◌∙◌, ap, subst, arith, append-nil}
use Rattle.std.proofs.lemmas.Bool.Decides.{nat_tests}
use Rattle.std.proofs.lemmas.List.{take_all}
use Rattle.world_face.specs.Journal.{Entry, AreAllowed, IsEndpoint}
use Rattle.world_face.specs.Frames.{goes_out}
use Rattle.net_octets.specs.declared.Endpoint.{Endpoint}
use Rattle.net_octets.specs.Kinds.{udp_proto}
use Rattle.net_octets.specs.Octets.{our_mac}
use Rattle.slirp_settings.specs.Addresses.{Config, address, endpoint}
use Rattle.host_policy.specs.Targets.{shown}
use Rattle.slirp_settings.specs.Classes.{is_loopback}
use Rattle.ipv4_head.specs.Cuts.{cut_at, cut_start, is_before_last, units_in}
use Rattle.ipv4_head.specs.Ip.{Ip, ip_octets, is_unbroken, read_ip, summed_head}
use Rattle.ipv4_head.proofs.Plain.{written_is}
use Rattle.ipv4_head.proofs.Encoding.{reads as reads_datagram}
use Rattle.udp_datagram.specs.Udp.{Udp, read_udp, summed, udp_octets, udp_with, written_sum}
use Rattle.udp_datagram.proofs.Encoding.{length-udp, reads as reads_udp}
use Rattle.udp_datagram.proofs.Writing.{front_is}
use Rattle.spec_run.specs.Answers.{IpAnswer, frames_for, part_frame, uncut}
use Rattle.spec_run.specs.Laws.{Lawful}
use Rattle.spec_run.specs.Said.{AnswersQuestion, Carries, Heard, IsOfServer, IsReplyToItsPort, RepliesToItsPort, identification_with, HasPorts}
use Rattle.spec_run.proofs.Ranges.{RangePeer, RangePort, range_peer, range_port}
use Rattle.spec_run.proofs.Framing.{part_of_frames}
use Rattle.spec_run.proofs.Numbers.{ident_fits, reads_cut}
use Rattle.spec_run.proofs.Reading.{SixMac, carried_ip, six_mac_for}
use Rattle.spec_run.proofs.Replies.{replies}

same_some : {A : Type 0} (o : Option A) (one two : A) → o ≡ Some one → o ≡ Some two → one ≡ two
same_some o one two is was = let both : Some one ≡ Some two = sym is ∙ was in cc

-- a datagram of IPv4 that is written is read back
ip_back : (ident proto from to : ℕ) (body : List ℕ) → ident < 2 ^ 16 → from < 2 ^ 32 → to < 2 ^ 32 → 20 + length body < 2 ^ 16
    → read_ip (ip_octets ident 0 proto from to body) ≡ Some (record {
      ident = ident;
      more = false;
      place = 0;
      proto = proto;
      from = from;
      to = to;
      head = summed_head 64 ident 0 proto from to (length body);
      body = body;
    })
ip_back ident proto from to body i f t size =
    let now = ip_octets ident 0 proto from to body in
    let long : length now ≡ 20 + length body = omega arith in
    let all : take (20 + length body) now ≡ now = take_all (20 + length body) now (omega (arith, long)) in
    let written = written_is 64 ident 0 proto from to false body now [] i (omega arith) f t size (sym (append-nil now)) in
    ap read_ip (sym all) ∙ reads_datagram (take (20 + length body) now) _ written.0

-- and one of UDP
udp_back : (from to : ℕ) (udp : Udp) → udp.from_port < 2 ^ 16 → udp.to_port < 2 ^ 16 → 8 + length udp.body < 2 ^ 16 → read_udp from to (udp_octets from to udp) ≡ Some udp
udp_back from to udp f t size =
    let now = udp_octets from to udp in
    let long : length now ≡ 8 + length udp.body = length-udp (written_sum (summed from to (udp_with 0 udp))) udp in
    let all : take (8 + length udp.body) now ≡ now = take_all (8 + length udp.body) now (omega (arith, long)) in
    let written = front_is from to udp (8 + length udp.body) now [] f t size refl (sym (append-nil now)) in
    ap (read_udp from to) (sym all) ∙ reads_udp from to (take (8 + length udp.body) now) udp written.0

-- a part at the front of a datagram behind which none follows is all of it
pub unbroken_is : (more : Bool) (place : ℕ) → (not more && (place == 0)) ≡ true → (more ≡ false) × (place ≡ 0)
unbroken_is true place is = absurd cc
unbroken_is false place is = (refl, grind (arith, nat_tests, is))

whole_if : (n : ℕ) (b : Bool) (room : ℕ) (body : List ℕ) → n ≡ 0 → b ≡ false → (if b then take room (drop n body) else drop n body) ≡ body
whole_if n true room body none is = cc
whole_if n false room body none is = ap (λ n. drop n body) none

pub only_cut : (mtu : ℕ) (body : List ℕ) (k : ℕ) → 28 ≤ mtu → k * units_in mtu ≡ 0 → is_before_last mtu (length body) k ≡ false → cut_at mtu (uncut body) k ≡ uncut body
only_cut mtu body k room front last =
    let start : cut_start mtu k ≡ 0 = omega (arith, front) in
    ap (λ n. record (cut_at mtu (uncut body) k) { place = n }) front
    ∙ ap (λ b. record (cut_at mtu (uncut body) k) { place = 0; more = b }) last
    ∙ ap (λ o. record (uncut body) { body = o }) (whole_if (cut_start mtu k) (is_before_last mtu (length body) k) (8 * units_in mtu) body start last)

-- a peer as it is shown is in range
shown_range : (config : Config) (peer : Endpoint) → config.vhost < 2 ^ 32 → IsEndpoint peer → IsEndpoint (shown config peer)
shown_range config peer ours is = by (is_loopback (address peer))
  where
    by : (b : Bool) → IsEndpoint (if b then endpoint config.vhost peer.port else peer)
    by true = (ours, is.1)
    by false = is

-- a whole datagram of UDP is read as it was written
pub record IsReadAs (ip : Ip) (udp : Udp) (source target : ℕ) (sent : Udp) : Type 0 where
  pub from : ip.from ≡ source
  pub to : ip.to ≡ target
  pub whole : udp ≡ sent

pub datagram_back : (config : Config) (past : List Entry) (frame : List ℕ) (ip : Ip) (udp : Udp) (k : ℕ) (rest : List (List ℕ)) (mac : List ℕ) (from to : ℕ) (sent : Udp)
    → drop k (frames_for config (identification_with k past) (IpAnswer mac udp_proto from to (udp_octets from to sent))) ≡ frame ∷ rest → from < 2 ^ 32 → to < 2 ^ 32 →
    sent.from_port < 2 ^ 16 → sent.to_port < 2 ^ 16
    → 28 ≤ config.mtu → length mac ≡ 6 → Carries frame ip → is_unbroken ip ≡ true → read_udp ip.from ip.to ip.body ≡ Some udp → IsReadAs ip udp from to sent
datagram_back config past frame ip udp k rest mac from to sent frames one other from_port to_port room six c unbroken is =
    let body = udp_octets from to sent in
    let ident = identification_with k past in
    let long : length body ≡ 8 + length sent.body = length-udp (written_sum (summed from to (udp_with 0 sent))) sent in
    let p = part_of_frames config ident mac udp_proto from to body frame rest k frames in
    let fits : length body ≤ 65515 = p.short in
    let read_back = reads_cut config ident mac udp_proto from to body frame k ip room (ident_fits k past) six p c in
    let tests = unbroken_is ip.more ip.place unbroken in
    let only = only_cut config.mtu body k room (sym read_back.place ∙ tests.1) (sym read_back.more ∙ tests.0) in
    let held = carried_ip config ident mac udp_proto from to (uncut body) ip six (subst (λ f. Carries f ip) (p.is ∙ ap (part_frame mac (our_mac config.vhost) ident udp_proto from to) only) c) in
    let whole = same_some (read_ip (ip_octets ident 0 udp_proto from to body)) ip _ held
    (ip_back ident udp_proto from to body (ident_fits k past) one other (omega (arith, fits))) in
    let that : read_udp from to body ≡ Some udp = ap (λ (i : Ip). read_udp i.from i.to i.body) (sym whole) ∙ is in
    record {
      from = ap (λ (i : Ip). i.from) whole;
      to = ap (λ (i : Ip). i.to) whole;
      whole = same_some (read_udp from to body) udp sent that (udp_back from to sent from_port to_port (omega (arith, long, fits)));
    }

as_read : (config : Config) (past : List Entry) (frame : List ℕ) (ip : Ip) (udp : Udp) (r : RepliesToItsPort config past frame) → IsEndpoint (shown config r.peer) →
    IsEndpoint r.guest → 28 ≤ config.mtu → length r.mac ≡ 6 → Carries frame ip → is_unbroken ip ≡ true
    → read_udp ip.from ip.to ip.body ≡ Some udp → IsReplyToItsPort config past ip udp
as_read config past frame ip udp r peer_range guest_range room six c unbroken is =
    let reply : Udp = record { from_port = (shown config r.peer).port; to_port = r.guest.port; body = r.octets } in
    let back = datagram_back config past frame ip udp r.out r.rest r.mac (address (shown config r.peer))
    (address r.guest) reply r.is peer_range.0 guest_range.0 peer_range.1 guest_range.1 room six c unbroken is in
    let sent_to : r.guest ≡ endpoint ip.to udp.to_port = λ i. record { addr = record { 0 = sym back.to i }; port = (sym back.whole i).to_port } in
    let sent_from : shown config r.peer ≡ endpoint ip.from udp.from_port = λ i. record { addr = record { 0 = sym back.from i }; port = (sym back.whole i).from_port } in
    record {
      socket = r.socket;
      peer = r.peer;
      last = r.last ∙ ap (λ (u : Udp). Heard r.socket r.peer u.body) (sym back.whole);
      port = r.port ∙ ap Some sent_to;
      seen = r.seen;
      source = sent_from;
    }

pub reply_as_read : (config : Config) (e : Entry) (past : List Entry) (frame : List ℕ) (ip : Ip) (udp : Udp) → 28 ≤ config.mtu → Lawful config (e ∷ past) → AreAllowed past →
    config.vhost < 2 ^ 32 → HasPorts config → goes_out e past ≡ Some frame
    → Carries frame ip → is_unbroken ip ≡ true → ip.proto ≡ udp_proto → read_udp ip.from ip.to ip.body ≡ Some udp
    → IsReplyToItsPort config past ip udp ⊎ (AnswersQuestion config past frame ⊎ IsOfServer config past frame)
reply_as_read config e past frame ip udp room lawful allowed ours ports out c unbroken proto is = elim (replies config e past frame ip room lawful out c proto) [
  | inl r ↦ inl (as_read config past frame ip udp r (shown_range config r.peer ours (subst RangePeer r.last (range_peer config past allowed)))
      (subst RangePort r.port (range_port config r.socket past ports allowed)) room
      (subst SixMac r.at (six_mac_for config r.socket past)) c unbroken is)
  | inr other ↦ inr other
]
