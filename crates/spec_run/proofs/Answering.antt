-- What is read as a datagram from port 53 of the name server is the answer to a question, whole, for the port that asked.
use Rattle.std.proofs.Common.{inl, inr, ◌≡◌, ℕ, ◌^◌, ◌<◌, ◌≤◌, ◌==◌, ◌&&◌, not, Bool, true, false, List, [], ◌∷◌, length, drop, Option, Some, None, if◌then◌else◌, refl, sym, ◌∙◌, ap, subst, arith}
use Rattle.std.proofs.lemmas.Nat.{from_be_bytes-to_be_bytes_4}
use Rattle.world_face.specs.Journal.{Entry, AreAllowed}
use Rattle.world_face.specs.Frames.{goes_out}
use Rattle.net_octets.specs.Kinds.{udp_proto}
use Rattle.slirp_settings.specs.Addresses.{Config, address, endpoint, in_network}
use Rattle.host_policy.specs.Targets.{is_hidden, shown}
use Rattle.rules_udp.specs.declared.Reply.TheVariants.{Nothing, Datagram as ADatagram}
use Rattle.ipv4_head.specs.Cuts.{cut_at}
use Rattle.ipv4_head.specs.Ip.{Ip, fragment_of, ip_octets, is_unbroken, read_ip}
use Rattle.udp_datagram.specs.Udp.{Udp, read_udp}
use Rattle.rules_dhcp.specs.Messages.{read_message}
use Rattle.rules_dhcp.specs.Replies.{everybody, goes_to_all, is_silence, reply_to, replied_octets}
use Rattle.rules_dhcp.specs.Serving.{served as served_lease}
use Rattle.rules_dhcp.specs.declared.Lease.{Lease}
use Rattle.rules_dhcp.specs.declared.Message.{Message}
use Rattle.spec_trace.specs.Packets.{Datagram}
use Rattle.rules_tftp.specs.Transfers.{Said}
use Rattle.spec_run.specs.Answers.{Answer, ArpAnswer, IpAnswer, Serving, answers_of, frames_for, frames_of, identification, name_answer, name_reply, owed_for_verdict, served_file, told_of_files, uncut}
use Rattle.spec_run.specs.Datagrams.{DatagramVerdict, Ignored, Refused, ForLeases, ForFiles, GoesTo, datagram_verdict}
use Rattle.spec_run.specs.Laws.{Lawful}
use Rattle.spec_run.specs.Leasing.{sending_of}
use Rattle.spec_run.specs.Questions.{AnswerCame, HasNameServer}
use Rattle.spec_run.specs.Said.{AnswersQuestion, Carries, GoesAgain, HasPorts, IsOfServer, ForPacket, ByFile, Again, IsReplyToItsPort, identification_with, is_for_server, last_occasion, owed_for}
use Rattle.spec_run.proofs.Beside.{beside, no_request, no_udp}
use Rattle.spec_run.proofs.Bools.{same as one}
use Rattle.spec_run.proofs.Framing.{frames_one, part_of_frames}
use Rattle.spec_run.proofs.Hearing.{answer_written, asker_range}
use Rattle.spec_run.proofs.Numbers.{carries_no_arp}
use Rattle.spec_run.proofs.Owing.{Begins, Next, Beside, begins_with, first_answers, out_by, out_six}
use Rattle.spec_run.proofs.ReadBack.{datagram_back, reply_as_read}
use Rattle.spec_run.proofs.Reading.{AllAnswers, SixAnswer, SixOccasion, SixSaid, carried_ip, file_answer, six_again, six_occasion}
use Rattle.spec_run.proofs.Encoded.{encoded}

-- ---- an answer, as it is read

pub answer_read : (config : Config) (past : List Entry) (frame : List ℕ) (ip : Ip) (udp : Udp) → 28 ≤ config.mtu → Lawful config past → AreAllowed past → HasPorts config →
    config.vnameserver < 2 ^ 32 → Carries frame ip → is_unbroken ip ≡ true
    → read_udp ip.from ip.to ip.body ≡ Some udp → (a : AnswersQuestion config past frame) → (udp.from_port ≡ 53) × AnswerCame config past (endpoint ip.to udp.to_port) udp.body
answer_read config past frame ip udp room lawful allowed ports fits c unbroken is a =
    let q = a.question in
    let sent : Udp = record { from_port = 53; to_port = q.guest.port; body = a.octets } in
    let one : name_reply config q a.peer a.octets ≡ name_answer config q a.octets ∷ [] = ap (λ (b : Bool). if b then name_answer config q a.octets ∷ [] else []) a.counts in
    let ident = identification_with a.out past in
    let frames : drop a.out (frames_for config ident (name_answer config q a.octets)) ≡ frame ∷ a.rest =
    ap (drop a.out) (sym (ap (frames_of config ident) one ∙ frames_one config ident (name_answer config q a.octets))) ∙ a.is in
    let range = asker_range config past q a.peer a.octets lawful allowed ports a.last in
    let six : length q.mac.0 ≡ 6 = subst SixOccasion a.last (six_occasion config past) in
    let back = datagram_back config past frame ip udp a.out a.rest q.mac.0 config.vnameserver (address q.guest) sent frames fits range.0 (omega arith) range.1 room six c unbroken is in
    let to : q.guest ≡ endpoint ip.to udp.to_port = λ i. record { addr = record { 0 = sym back.to i }; port = (sym back.whole i).to_port } in (
      ap (λ (u : Udp). u.from_port) back.whole,
      subst (λ g. AnswerCame config past g udp.body) to (subst (AnswerCame config past q.guest) (ap (λ (u : Udp). u.body) (sym back.whole))
          (answer_written config past frame lawful a)),
    )

-- ---- a reply to what a peer sent is from no address of the network but the virtual host's

no_peer : (config : Config) (past : List Entry) (ip : Ip) (udp : Udp) → HasNameServer config → ip.from ≡ config.vnameserver → IsReplyToItsPort config past ip udp → ⊥
no_peer config past ip udp server from r =
    let same : address (shown config r.peer) ≡ config.vnameserver = ap address r.source ∙ from in
    let hidden : is_hidden config r.peer ≡ true = ap (λ a. in_network config a && not (a == config.vhost)) same ∙ ap
    (λ b. b && not (config.vnameserver == config.vhost)) server.inside ∙ ap not server.other in
    let never : true ≡ false = sym hidden ∙ r.seen in
    cc

-- ---- what a server of ours says is from the virtual host

-- the address from which a part is, as it is read
reads_from : (ident fragment proto from guest : ℕ) (body : List ℕ) (ip : Ip) → from < 2 ^ 32 → read_ip (ip_octets ident fragment proto from guest body) ≡ Some ip → ip.from ≡ from
reads_from ident fragment proto from guest body ip fits is =
    let octets = ip_octets ident fragment proto from guest body in
    let found = encoded octets ip is in
    ap (λ (i : Ip). i.from) (sym found) ∙ from_be_bytes-to_be_bytes_4 from fits

abbrev IsFromVhost : Config → Answer → Type 0
IsFromVhost config (ArpAnswer to arp) = Unit {0}
IsFromVhost config (IpAnswer to proto from guest body) = from ≡ config.vhost

from_vhost : (config : Config) (past : List Entry) (frame : List ℕ) (ip : Ip) (a : Answer) (k : ℕ) (rest : List (List ℕ)) → SixAnswer a → config.vhost < 2 ^ 32 → Carries frame ip →
    drop k (frames_for config (identification_with k past) a) ≡ frame ∷ rest → IsFromVhost config a → ip.from ≡ config.vhost
from_vhost config past frame ip (ArpAnswer to arp) k rest six fits c is of = absurd (carries_no_arp config (identification_with k past) k to arp frame rest ip six is c)
from_vhost config past frame ip (IpAnswer to proto from guest body) k rest six fits c is of =
    let p = part_of_frames config (identification_with k past) to proto from guest body frame rest k is in
    let cut = cut_at config.mtu (uncut body) k in
    let held = carried_ip config (identification_with k past) to proto from guest cut ip six (subst (λ f. Carries f ip) p.is c) in
    reads_from (identification_with k past) (fragment_of cut.more cut.place) proto from guest cut.body ip (subst (λ n. n < 2 ^ 32) (sym of) fits) held ∙ of

lease_from : (config : Config) (now : ℕ) (leases : List Lease) (o : Option Message) → AllAnswers (IsFromVhost config)
    (answers_of (sending_of (reply_to config now leases o) (replied_octets config now leases o)))
lease_from config now leases None = tt
lease_from config now leases (Some m) = by (is_silence (served_lease config now leases (Some m)).answer) (goes_to_all m (served_lease config now leases (Some m)).answer) _ _
  where
    by : (silent to_all : Bool) (count : ℕ) (octets : List ℕ)
        → AllAnswers (IsFromVhost config) (answers_of (sending_of (if silent then Nothing else (if to_all then ADatagram count (endpoint config.vhost 67) (endpoint 0xffffffff 68)
        (Some everybody) else ADatagram count (endpoint config.vhost 67) (endpoint m.client.0 68) (Some m.mac))) octets))
    by true to_all count octets = tt
    by false true count octets = (refl, tt)
    by false false count octets = (refl, tt)

files_from : (config : Config) (o : Option Said) → AllAnswers (IsFromVhost config) (told_of_files config o)
files_from config None = tt
files_from config (Some said) = (refl, tt)

datagram_verdict_from : (config : Config) (s : Serving) (d : Datagram) (what : DatagramVerdict) → is_for_server what ≡ true → AllAnswers (IsFromVhost config) (owed_for_verdict config s d what)
datagram_verdict_from config s d ForLeases is = lease_from config s.now s.leases (read_message d.body)
datagram_verdict_from config s d ForFiles is = files_from config (served_file config s d).told
datagram_verdict_from config s d Ignored is = absurd cc
datagram_verdict_from config s d Refused is = absurd cc
datagram_verdict_from config s d (GoesTo to) is = absurd cc

of_one : (config : Config) (answers : List Answer) (a : Answer) → answers ≡ a ∷ [] → AllAnswers (IsFromVhost config) answers → IsFromVhost config a
of_one config answers a is all = (subst (AllAnswers (IsFromVhost config)) is all).0

from_server : (config : Config) (e : Entry) (past : List Entry) (frame : List ℕ) (ip : Ip) → 28 ≤ config.mtu → Lawful config (e ∷ past) → config.vhost < 2 ^ 32 →
    goes_out e past ≡ Some frame → Carries frame ip → ip.proto ≡ udp_proto → IsOfServer config past frame → ip.from ≡ config.vhost
from_server config e past frame ip room lawful fits out c udp server = by_frame (out_by config e past frame lawful.0 out)
  where
    -- the first frame of a packet that goes again
    by_again : GoesAgain config past frame → ip.from ≡ config.vhost
    by_again g =
        let b = begins_with frame (frames_of config (identification past) (told_of_files config (Some g.said))) g.first in
        from_vhost config past frame ip (file_answer config g.said) 0 b.0 (subst SixSaid g.may (six_again config past)) fits c
        (sym (frames_one config (identification past) (file_answer config g.said)) ∙ b.1) refl

    -- a frame of the answer to what came last
    by_answer : (a : Answer) (k : ℕ) (rest : List (List ℕ)) → owed_for config past (last_occasion config past) ≡ a ∷ [] → drop k
        (frames_for config (identification_with k past) a) ≡ frame ∷ rest → IsOfServer config past frame → ip.from ≡ config.vhost
    by_answer a k rest owed is (ForPacket s stray d last served) =
        from_vhost config past frame ip a k rest (out_six config past a owed) fits c is
        (of_one config (owed_for_verdict config s d (datagram_verdict config d)) a (sym (ap (owed_for config past) last) ∙ owed) (datagram_verdict_from config s d (datagram_verdict config d) served))
    by_answer a k rest owed is (ByFile said last) =
        from_vhost config past frame ip a k rest (out_six config past a owed) fits c is (of_one config (told_of_files config (Some said)) a
        (sym (ap (owed_for config past) last) ∙ owed) (files_from config (Some said)))
    by_answer a k rest owed is (Again g) = by_again g

    by_frame : Begins config past frame → ip.from ≡ config.vhost
    by_frame (Next first) = let a = first_answers config past frame room lawful.1 first in by_answer a.answer a.out a.rest a.owed a.is server
    by_frame (Beside nothing is) = elim (beside config past frame nothing is) [
      | inl f ↦ absurd (no_udp config past frame ip f c udp)
      | inr other ↦ elim other [
        | inl r ↦ absurd (no_request config past frame ip r c)
        | inr g ↦ by_again g
      ]
    ]

no_server : (config : Config) (from : ℕ) → HasNameServer config → from ≡ config.vnameserver → from ≡ config.vhost → ⊥
no_server config from server is was =
    let same : (config.vnameserver == config.vhost) ≡ true = ap (λ n. n == config.vhost) (sym is ∙ was) ∙ one config.vhost in
    let never : true ≡ false = sym same ∙ server.other in
    cc

pub answer_as_read : (config : Config) (e : Entry) (past : List Entry) (frame : List ℕ) (ip : Ip) (udp : Udp) → 28 ≤ config.mtu → Lawful config (e ∷ past) → AreAllowed past →
    config.vhost < 2 ^ 32 → HasPorts config → HasNameServer config → goes_out e past ≡ Some frame
    → Carries frame ip → is_unbroken ip ≡ true → ip.proto ≡ udp_proto → read_udp ip.from ip.to ip.body ≡ Some udp → ip.from ≡ config.vnameserver →
    (udp.from_port ≡ 53) × AnswerCame config past (endpoint ip.to udp.to_port) udp.body
answer_as_read config e past frame ip udp room lawful allowed ours ports server out c unbroken proto is from =
    elim (reply_as_read config e past frame ip udp room lawful allowed ours ports out c unbroken proto is) [
      | inl r ↦ absurd (no_peer config past ip udp server from r)
      | inr other ↦ elim other [
        | inl a ↦ answer_read config past frame ip udp room lawful.1 allowed ports server.fits c unbroken is a
        | inr s ↦ absurd (no_server config ip.from server from (from_server config e past frame ip room lawful ours out c proto s))
      ]
    ]
