-- What is read as a datagram from port 69 of the virtual host is of the server of files, or a peer's.
use Rattle.std.proofs.Common.{◌⊎◌, inl, inr, ◌≡◌, ℕ, ◌+◌, ◌-◌, ◌^◌, ◌<◌, ◌≤◌, ◌&&◌, ◌||◌, not, Bool, true, false, List, [], ◌∷◌, drop, length, Option, Some, None, if◌then◌else◌, refl, sym}
use Rattle.std.proofs.Common.{◌∙◌, ap, subst, arith}
use Rattle.std.proofs.lemmas.Nat.{from_be_bytes-to_be_bytes_2}
use Rattle.std.proofs.lemmas.List.{take_all}
use Rattle.std.proofs.lemmas.Option.{cond_some}
use Rattle.net_octets.specs.Kinds.{udp_proto}
use Rattle.net_octets.specs.Octets.{part, two_at, our_mac}
use Rattle.world_face.specs.Journal.{AreAllowed, Connect, Entry, FileLen, FileRead, LinkWrite, UdpOpen, UdpRecv, UdpSend}
use Rattle.world_face.specs.Frames.{goes_out}
use Rattle.world_face.specs.declared.Made.{Made}
use Rattle.world_face.specs.declared.Made.TheVariants.{Done as MadeDone, Failed as MadeFailed}
use Rattle.world_face.specs.declared.Sent.{Sent}
use Rattle.world_face.specs.declared.Sent.TheVariants.{Done as SentDone, NotYet as SentNotYet, Failed as SentFailed}
use Rattle.world_face.specs.declared.Got.{Got}
use Rattle.world_face.specs.declared.Got.TheVariants.{From, NotYet as GotNotYet, Failed as GotFailed}
use Rattle.net_octets.specs.declared.Endpoint.{Endpoint}
use Rattle.slirp_settings.specs.Addresses.{Config, endpoint}
use Rattle.rules_udp.specs.declared.Reply.TheVariants.{Nothing, Datagram as ADatagram}
use Rattle.ipv4_head.specs.Ip.{Ip, head_length, ip_octets, is_unbroken, read_ip}
use Rattle.udp_datagram.specs.Udp.{Udp, is_udp, read_udp}
use Rattle.rules_dhcp.specs.Messages.{read_message}
use Rattle.rules_dhcp.specs.Replies.{everybody, goes_to_all, is_silence, reply_to, replied_octets}
use Rattle.rules_dhcp.specs.Serving.{served as served_lease}
use Rattle.rules_dhcp.specs.declared.Lease.{Lease}
use Rattle.rules_dhcp.specs.declared.Message.{Message}
use Rattle.rules_dns.specs.declared.Question.{Question}
use Rattle.rules_dns.specs.Questions.{numbered}
use Rattle.spec_flows.specs.Book.{book}
use Rattle.spec_flows.specs.Segments.{OnTuple, asked_in, segment_in}
use Rattle.spec_trace.specs.Happenings.{Arrival, happens}
use Rattle.spec_trace.specs.Packets.{Datagram, DatagramPacket, Packet}
use Rattle.rules_tftp.specs.Transfers.{Said}
use Rattle.spec_run.specs.Answers.{Answer, ArpAnswer, IpAnswer, Serving, again_frames, answers_of, begins_again, frames_for, frames_of, identification, is_first, is_flows, is_out}
use Rattle.spec_run.specs.Answers.{ledger, left, may_go_again, owed_for_verdict, part_frame, served_file, serving, starts, told_of_files, uncut}
use Rattle.spec_run.specs.Datagrams.{DatagramVerdict, Ignored, Refused, ForLeases, ForFiles, GoesTo, datagram_verdict}
use Rattle.spec_run.specs.Files.{Answers, TellsRead, GoesOn, GoesAgain as FileGoes, HasBegun, IsOfFiles, IsPartOf, WasTold, goes_by, told_at, told_by, told_by_verdict, told_by_packet}
use Rattle.spec_run.specs.Laws.{Lawful}
use Rattle.spec_run.specs.Leasing.{sending_of}
use Rattle.spec_run.specs.Names.{questions}
use Rattle.spec_run.specs.Ports.{last_datagram}
use Rattle.spec_run.specs.Said.{Carries, ForPacket, ByFile, Again, HasPorts, IsOfServer, IsReplyToItsPort, Occasion, NoOccasion, Came, Heard, HeardOfName, OfFile, Unsent, Unconnected}
use Rattle.spec_run.specs.Said.{by_call, by_joined, by_made, by_said, by_sent, by_got, heard_on, identification_with, is_for_server, last_occasion, occasion_after, owed_for, refused_or}
use Rattle.spec_run.specs.Said.{for_guest, unsent_or}
use Rattle.spec_run.specs.Sending.{is_beside, may_ask, sends_again, sends_segment}
use Rattle.spec_run.proofs.Answering.{answer_read}
use Rattle.spec_run.proofs.Beside.{by_request, by_segment, no_request, no_udp}
use Rattle.spec_run.proofs.Bools.{second_of}
use Rattle.spec_run.proofs.Framing.{frames_one, part_of_frames}
use Rattle.spec_run.proofs.Numbers.{carries_no_arp, ident_fits, reads_cut}
use Rattle.spec_run.proofs.Owing.{Begins, Next, Beside, begins_with, first_answers, out_by, out_six}
use Rattle.spec_run.proofs.ReadBack.{only_cut, reply_as_read, unbroken_is}
use Rattle.spec_run.proofs.Reading.{AllAnswers, SixAnswer, carried_ip}
use Rattle.spec_run.proofs.Encoded.{encoded}

-- ---- the payload of a datagram that is read whole

body_back : (ident proto from to : ℕ) (body : List ℕ) (ip : Ip) → length body ≤ 65515 → read_ip (ip_octets ident 0 proto from to body) ≡ Some ip → ip.body ≡ body
body_back ident proto from to body ip fits is =
    let octets = ip_octets ident 0 proto from to body in
    let found = encoded octets ip is in
    let head : head_length octets ≡ 20 = refl in
    let whole : two_at octets 2 ≡ 20 + length body = from_be_bytes-to_be_bytes_2 (20 + length body) (omega (arith, fits)) in
    let behind : two_at octets 2 - head_length octets ≡ length body = omega (arith, head, whole) in
    ap (λ (i : Ip). i.body) (sym found) ∙ ap (λ n. part octets 20 n) behind ∙ take_all (length body) body (omega arith)

-- the two octets in front of what an answer carries: the port from which it is
abbrev StartsWith : ℕ → Answer → Type 0
StartsWith port (ArpAnswer to arp) = Unit {0}
StartsWith port (IpAnswer to proto from guest body) = two_at body 0 ≡ port

port_read : (from to : ℕ) (octets : List ℕ) (udp : Udp) → read_udp from to octets ≡ Some udp → udp.from_port ≡ two_at octets 0
port_read from to octets udp is =
    sym (ap (λ (u : Udp). u.from_port) (cond_some (is_udp from to octets) (record { from_port = two_at octets 0; to_port = two_at octets 2; body = part octets 8 (two_at octets 4 - 8) }) udp is).1)

port_back : (config : Config) (past : List Entry) (frame : List ℕ) (ip : Ip) (udp : Udp) (a : Answer) (k : ℕ) (rest : List (List ℕ)) (port : ℕ) → 28 ≤ config.mtu → SixAnswer a →
    Carries frame ip → is_unbroken ip ≡ true → read_udp ip.from ip.to ip.body ≡ Some udp
    → drop k (frames_for config (identification_with k past) a) ≡ frame ∷ rest → StartsWith port a → udp.from_port ≡ port
port_back config past frame ip udp (ArpAnswer to arp) k rest port room six c unbroken read is starts = absurd (carries_no_arp config (identification_with k past) k to arp frame rest ip six is c)
port_back config past frame ip udp (IpAnswer mac proto from to body) k rest port room six c unbroken read is starts =
    let ident = identification_with k past in
    let p = part_of_frames config ident mac proto from to body frame rest k is in
    let fits : length body ≤ 65515 = p.short in
    let read_back = reads_cut config ident mac proto from to body frame k ip room (ident_fits k past) six p c in
    let tests = unbroken_is ip.more ip.place unbroken in
    let only = only_cut config.mtu body k room (sym read_back.place ∙ tests.1) (sym read_back.more ∙ tests.0) in
    let held = carried_ip config ident mac proto from to (uncut body) ip six (subst (λ f. Carries f ip) (p.is ∙ ap (part_frame mac (our_mac config.vhost) ident proto from to) only) c) in
    port_read ip.from ip.to ip.body udp read ∙ ap (λ (o : List ℕ). two_at o 0) (body_back ident proto from to body ip fits held) ∙ starts

-- ---- what the server of leases says is from port 67

lease_port : (config : Config) (now : ℕ) (leases : List Lease) (o : Option Message) → AllAnswers (StartsWith 67)
    (answers_of (sending_of (reply_to config now leases o) (replied_octets config now leases o)))
lease_port config now leases None = tt
lease_port config now leases (Some m) = by (is_silence (served_lease config now leases (Some m)).answer) (goes_to_all m (served_lease config now leases (Some m)).answer) _ _
  where
    by : (silent to_all : Bool) (count : ℕ) (octets : List ℕ)
        → AllAnswers (StartsWith 67) (answers_of (sending_of (if silent then Nothing else (if to_all then ADatagram count (endpoint config.vhost 67) (endpoint 0xffffffff 68)
        (Some everybody) else ADatagram count (endpoint config.vhost 67) (endpoint m.client.0 68) (Some m.mac))) octets))
    by true to_all count octets = tt
    by false true count octets = (refl, tt)
    by false false count octets = (refl, tt)

of_one : (port : ℕ) (answers : List Answer) (a : Answer) → answers ≡ a ∷ [] → AllAnswers (StartsWith port) answers → StartsWith port a
of_one port answers a is all = (subst (AllAnswers (StartsWith port)) is all).0

-- ---- what was told last, or began to go again, did so by an entry

abbrev IsFromEntry : Config → List Entry → Said → Type 0
IsFromEntry config past said = WasTold config past said ⊎ HasBegun config past said

-- what the server of files answers to a packet is told by the entry by which that came
abbrev IsToldFor : Config → List Entry → Serving → Packet → Type 0
IsToldFor config past s packet = (said : Said) → told_by_packet config s packet ≡ Some said → WasTold config past said

abbrev IsFrom : Config → List Entry → Occasion → Type 0
IsFrom config past (OfFile said) = IsFromEntry config past said
IsFrom config past (Came s stray packet) = IsToldFor config past s packet
IsFrom config past _ = Unit {0}

told_further : (config : Config) (e : Entry) (past : List Entry) (said : Said) → WasTold config past said → WasTold config (e ∷ past) said
told_further config e past said f = record { later = e ∷ f.later; teller = f.teller; before = f.before; record_is = ap (λ (l : List Entry). e ∷ l) f.record_is; told = f.told }

further : (config : Config) (e : Entry) (past : List Entry) (o : Occasion) → IsFrom config past o → IsFrom config (e ∷ past) o
further config e past (OfFile said) (inl f) = inl (told_further config e past said f)
further config e past (OfFile said) (inr f) = inr (record { later = e ∷ f.later; writer = f.writer; before = f.before; record_is = ap (λ (l : List Entry). e ∷ l) f.record_is; goes = f.goes })
further config e past (Came s stray packet) f = λ said told. told_further config e past said (f said told)
further config e past NoOccasion f = tt
further config e past (Heard socket peer octets) f = tt
further config e past (HeardOfName q peer octets) f = tt
further config e past (Unsent d) f = tt
further config e past (Unconnected on) f = tt

module _ (config : Config) (past : List Entry) where
  from_unsent : (last : Option Datagram) (o : Occasion) → IsFrom config past o → IsFrom config past (unsent_or last o)
  from_unsent None o before = before
  from_unsent (Some d) o before = tt

  from_made : (answer : Made) (last : Option Datagram) (o : Occasion) → IsFrom config past o → IsFrom config past (by_made answer last o)
  from_made MadeDone last o before = before
  from_made MadeFailed last o before = from_unsent last o before

  from_sent : (answer : Sent) (last : Option Datagram) (o : Occasion) → IsFrom config past o → IsFrom config past (by_sent answer last o)
  from_sent SentDone last o before = before
  from_sent SentNotYet last o before = before
  from_sent SentFailed last o before = from_unsent last o before

  from_refused : (on : Option OnTuple) (o : Occasion) → IsFrom config past o → IsFrom config past (refused_or on o)
  from_refused None o before = before
  from_refused (Some on) o before = tt

  from_joined : (answer : Made) (on : Option OnTuple) (o : Occasion) → IsFrom config past o → IsFrom config past (by_joined answer on o)
  from_joined MadeDone on o before = before
  from_joined MadeFailed on o before = from_refused on o before

  from_heard : (socket : ℕ) (peer : Endpoint) (octets : List ℕ) (q : Option Question) → IsFrom config past (heard_on socket peer octets q)
  from_heard socket peer octets None = tt
  from_heard socket peer octets (Some q) = tt

  from_got : (answer : Got) (socket : ℕ) (octets : List ℕ) (q : Option Question) (o : Occasion) → IsFrom config past o → IsFrom config past (by_got answer socket octets q o)
  from_got (From peer n) socket octets q o before = from_heard socket peer octets q
  from_got GotNotYet socket octets q o before = before
  from_got GotFailed socket octets q o before = before

  from_said : (said : Option Said) (o : Occasion) → ((s : Said) → said ≡ Some s → IsFromEntry config past s) → IsFrom config past o → IsFrom config past (by_said said o)
  from_said None o is before = before
  from_said (Some said) o is before = is said refl

told_here : (config : Config) (e : Entry) (past : List Entry) (said : Said) → told_by config past e ≡ Some said → WasTold config (e ∷ past) said
told_here config e past said told = record { later = []; teller = e; before = past; record_is = refl; told = told }

goes_here : (config : Config) (e : Entry) (past : List Entry) (said : Said) → goes_by config past e ≡ Some said → HasBegun config (e ∷ past) said
goes_here config e past said goes = record { later = []; writer = e; before = past; record_is = refl; goes = goes }

from_by : (config : Config) (e : Entry) (past : List Entry) (last : Option Datagram) (on : Option OnTuple) (o : Occasion) → IsFrom config (e ∷ past) o →
    (happens config past e).came ≡ None → IsFrom config (e ∷ past) (by_call config past e last on o)
from_by config (Connect socket to answer) past last on o before none = from_joined config (Connect socket to answer ∷ past) answer on o before
from_by config (UdpOpen socket at answer) past last on o before none = from_made config (UdpOpen socket at answer ∷ past) answer (for_guest at.port last) o before
from_by config (UdpSend socket to octets answer) past last on o before none = from_sent config (UdpSend socket to octets answer ∷ past) answer last o before
from_by config (UdpRecv socket asked answer octets) past last on o before none = from_got config (UdpRecv socket asked answer octets ∷ past) answer socket octets
    (numbered socket (questions config past)) o before
from_by config (LinkWrite octets answer) past last on o before none = by (begins_again config (identification past) (ledger config past) (goes_out (LinkWrite octets answer) past)) refl
  where
    by : (b : Bool) → begins_again config (identification past) (ledger config past) (goes_out (LinkWrite octets answer) past) ≡ b → IsFrom config (LinkWrite octets answer ∷ past)
        (if b then by_said (may_go_again (serving config past)) o else o)
    by true begins = from_said config (LinkWrite octets answer ∷ past) (may_go_again (serving config past)) o
        (λ said may. inr (goes_here config (LinkWrite octets answer) past said (ap (λ (b : Bool). if b then may_go_again (serving config past) else None) begins ∙ may))) before
    by false begins = before
from_by config (FileLen name answer) past last on o before none = from_said config (FileLen name answer ∷ past) (told_by config past (FileLen name answer)) o
    (λ said told. inl (told_here config (FileLen name answer) past said told)) before
from_by config (FileRead name place asked answer octets) past last on o before none =
    from_said config (FileRead name place asked answer octets ∷ past) (told_by config past (FileRead name place asked answer octets)) o
    (λ said told. inl (told_here config (FileRead name place asked answer octets) past said told)) before
from_by config _ past last on o before none = before

is_from : (config : Config) (past : List Entry) → IsFrom config past (last_occasion config past)
is_from config [] = tt
is_from config (e ∷ past) = by (happens config past e).came refl (further config e past (last_occasion config past) (is_from config past))
  where
    by : (o : Option Arrival) → (happens config past e).came ≡ o → IsFrom config (e ∷ past) (last_occasion config past) → IsFrom config (e ∷ past)
        (occasion_after config e past o (last_occasion config past))
    by None none before = from_by config e past (last_datagram config past) (book config past).came (last_occasion config past) before none
    by (Some arrival) came before = λ said told. told_here config e past said (ap (λ a. told_at config (serving config past) a e) came ∙ told)

-- ---- frames

module _ (config : Config) (e : Entry) (past : List Entry) (frame : List ℕ) (a : Answer) (k : ℕ) (rest : List (List ℕ))
    (frame_is : drop k (frames_for config (identification_with k past) a) ≡ frame ∷ rest) where
  -- it is one of a packet that is told
  part_told : (said : Said) → told_of_files config (Some said) ≡ a ∷ [] → IsPartOf config past frame said
  part_told said owed = record {
    out = k;
    rest = rest;
    is = ap (λ l. drop k (frames_of config (identification_with k past) l)) owed ∙ ap (drop k)
        (frames_one config (identification_with k past) a) ∙ frame_is;
  }

  of_file : (said : Said) → last_occasion config past ≡ OfFile said → told_of_files config (Some said) ≡ a ∷ [] → IsOfFiles config e past frame
  of_file said last owed = by (subst (IsFrom config past) last (is_from config past))
    where
      by : IsFromEntry config past said → IsOfFiles config e past frame
      by (inl told) = TellsRead said last told (part_told said owed)
      by (inr goes) = GoesOn said last goes (part_told said owed)

  of_answer : (s : Serving) (stray : Bool) (d : Datagram) (o : Option Said) → last_occasion config past ≡ Came s stray (DatagramPacket d) → datagram_verdict config d ≡ ForFiles →
      (served_file config s d).told ≡ o → told_of_files config o ≡ a ∷ [] → IsOfFiles config e past frame
  of_answer s stray d None last to told owed = cc
  of_answer s stray d (Some said) last to told owed =
      Answers s stray d said last to ((subst (IsFrom config past) last (is_from config past)) said (ap (told_by_verdict config s d) to ∙ told)) (part_told said owed)

  of_packet : (s : Serving) (stray : Bool) (d : Datagram) (what : DatagramVerdict) (ip : Ip) (udp : Udp) → datagram_verdict config d ≡ what → is_for_server what ≡ true →
      last_occasion config past ≡ Came s stray (DatagramPacket d) → owed_for_verdict config s d what ≡ a ∷ [] → 28 ≤ config.mtu → SixAnswer a
      → Carries frame ip → is_unbroken ip ≡ true → read_udp ip.from ip.to ip.body ≡ Some udp → udp.from_port ≡ 69 → IsOfFiles config e past frame
  of_packet s stray d ForFiles ip udp to server last owed room six c unbroken read port = of_answer s stray d (served_file config s d).told last to refl owed
  of_packet s stray d ForLeases ip udp to server last owed room six c unbroken read port =
      let from : udp.from_port ≡ 67 = port_back config past frame ip udp a k rest 67 room six c unbroken read frame_is (of_one 67 (owed_for_verdict config s d ForLeases) a owed
      (lease_port config s.now s.leases (read_message d.body))) in
      let never : 67 ≡ 69 = sym from ∙ port in
      absurd (omega (arith, never))
  of_packet s stray d Ignored ip udp to server last owed room six c unbroken read port = cc
  of_packet s stray d Refused ip udp to server last owed room six c unbroken read port = cc
  of_packet s stray d (GoesTo at) ip udp to server last owed room six c unbroken read port = cc

-- one that stands beside the answers, and carries a datagram of UDP, begins a packet that goes again
begins_again_by : (config : Config) (e : Entry) (past : List Entry) (frame : List ℕ) (ip : Ip) → goes_out e past ≡ Some frame → left config past ≡ [] →
    is_beside config past frame ≡ true → Carries frame ip → ip.proto ≡ udp_proto → IsOfFiles config e past frame
begins_again_by config e past frame ip out nothing is c proto = by (sends_segment config past frame (segment_in frame)) (may_ask config past frame (asked_in frame)) refl refl is
  where
    again : List (List ℕ)
    again = again_frames config (identification past) (serving config past)

    of_said : (o : Option Said) → may_go_again (serving config past) ≡ o → starts frame again ≡ true → is_first frame
        (frames_of config (identification past) (told_of_files config o)) ≡ true → IsOfFiles config e past frame
    of_said None may starts_it first = cc
    of_said (Some said) may starts_it first =
        let b = begins_with frame (frames_of config (identification past) (told_of_files config (Some said))) first in
        let begins : begins_again config (identification past) (ledger config past) (goes_out e past) ≡ true =
        ap (begins_again config (identification past) (ledger config past)) out ∙ ap (λ l. is_out l && starts frame again) nothing ∙ starts_it in
        FileGoes said (ap (λ (b : Bool). if b then may_go_again (serving config past) else None) begins ∙ may) (record { out = 0; rest = b.0; is = b.1 })

    by : (b c : Bool) → sends_segment config past frame (segment_in frame) ≡ b → may_ask config past frame (asked_in frame) ≡ c → (b || c || sends_again config past frame) ≡ true →
        IsOfFiles config e past frame
    by true d sends asks may = absurd (no_udp config past frame ip (by_segment config past frame (segment_in frame) nothing refl sends) c proto)
    by false true sends asks may = absurd (no_request config past frame ip (by_request config past frame (asked_in frame) nothing refl asks) c)
    by false false sends asks may = of_said (may_go_again (serving config past)) refl may (second_of (not (is_flows frame)) (is_first frame again) may)

of_server : (config : Config) (e : Entry) (past : List Entry) (frame : List ℕ) (ip : Ip) (udp : Udp) → 28 ≤ config.mtu → Lawful config (e ∷ past) → goes_out e past ≡ Some frame →
    Carries frame ip → is_unbroken ip ≡ true → ip.proto ≡ udp_proto
    → read_udp ip.from ip.to ip.body ≡ Some udp → udp.from_port ≡ 69 → IsOfServer config past frame → IsOfFiles config e past frame
of_server config e past frame ip udp room lawful out c unbroken proto read port server = by_frame (out_by config e past frame lawful.0 out)
  where
    by_answer : (a : Answer) (k : ℕ) (rest : List (List ℕ)) → is_first frame (left config past) ≡ true → owed_for config past (last_occasion config past) ≡ a ∷ [] → drop k
        (frames_for config (identification_with k past) a) ≡ frame ∷ rest → IsOfServer config past frame → IsOfFiles config e past frame
    by_answer a k rest first owed is (ForPacket s stray d last serves) =
        of_packet config e past frame a k rest is s stray d (datagram_verdict config d) ip udp refl serves last (sym (ap (owed_for config past) last) ∙ owed) room (out_six config past a owed) c unbroken read port
    by_answer a k rest first owed is (ByFile said last) = of_file config e past frame a k rest is said last (sym (ap (owed_for config past) last) ∙ owed)
    by_answer a k rest first owed is (Again g) = let never : false ≡ true = ap (is_first frame) (sym g.nothing) ∙ first in cc

    by_frame : Begins config past frame → IsOfFiles config e past frame
    by_frame (Next first) = let a = first_answers config past frame room lawful.1 first in by_answer a.answer a.out a.rest first a.owed a.is server
    by_frame (Beside nothing is) = begins_again_by config e past frame ip out nothing is c proto

pub from_port_of_files : (config : Config) (e : Entry) (past : List Entry) (frame : List ℕ) (ip : Ip) (udp : Udp) → 28 ≤ config.mtu → Lawful config (e ∷ past) → AreAllowed past →
    config.vhost < 2 ^ 32 → config.vnameserver < 2 ^ 32 → HasPorts config
    → goes_out e past ≡ Some frame → Carries frame ip → is_unbroken ip ≡ true → ip.proto ≡ udp_proto → read_udp ip.from ip.to ip.body ≡ Some udp → udp.from_port ≡ 69 →
    IsReplyToItsPort config past ip udp ⊎ IsOfFiles config e past frame
from_port_of_files config e past frame ip udp room lawful allowed ours names ports out c unbroken proto read port =
    elim (reply_as_read config e past frame ip udp room lawful allowed ours ports out c unbroken proto read) [
      | inl r ↦ inl r
      | inr other ↦ elim other [
        | inl a ↦ (let never : 53 ≡ 69 = sym (answer_read config past frame ip udp room lawful.1 allowed ports names c unbroken read a).0 ∙ port in absurd (omega (arith, never)))
        | inr s ↦ inr (of_server config e past frame ip udp room lawful out c unbroken proto read port s)
      ]
    ]
