-- A frame that carries a datagram of UDP is a reply to what a peer sent.
use Rattle.std.proofs.Common.{◌⊎◌, inl, inr, ◌≡◌, ℕ, ◌+◌, ◌≤◌, Bool, true, false, List, [], ◌∷◌, drop, length, Option, Some, None, if◌then◌else◌, refl, sym, ◌∙◌, ap, subst, arith}
use Rattle.world_face.specs.Journal.{Entry}
use Rattle.world_face.specs.Frames.{goes_out}
use Rattle.net_octets.specs.declared.Endpoint.{Endpoint}
use Rattle.net_octets.specs.Kinds.{udp_proto}
use Rattle.slirp_settings.specs.Addresses.{Config, address}
use Rattle.host_policy.specs.Targets.{is_hidden, shown}
use Rattle.ipv4_head.specs.Ip.{Ip}
use Rattle.udp_datagram.specs.Udp.{Udp, summed, udp_octets, udp_with, written_sum}
use Rattle.udp_datagram.proofs.Encoding.{length-udp}
use Rattle.spec_run.specs.Answers.{Answer, ArpAnswer, IpAnswer, Serving, name_answer, name_reply, frames_of, frames_for, no_network, owed_for_packet, reply_for, reset_for, told_about}
use Rattle.spec_run.specs.Answers.{request}
use Rattle.arp_table.specs.Arp.{everyone}
use Rattle.spec_run.specs.Laws.{Lawful}
use Rattle.spec_run.specs.Ports.{opened_for, mac_for}
use Rattle.spec_run.specs.Said.{Carries, AnswersQuestion, IsOfServer, ForPacket, ByFile, Again, is_for_server, Occasion, NoOccasion, Came, Heard, HeardOfName, OfFile, Unsent}
use Rattle.spec_run.specs.Said.{Unconnected, RepliesToItsPort, identification_with, last_occasion, owed_for}
use Rattle.spec_run.proofs.Framing.{frames_one, part_of_frames, our_six}
use Rattle.spec_run.specs.Datagrams.{datagram_verdict}
use Rattle.rules_dns.specs.declared.Question.{Question}
use Rattle.rules_dns.specs.Questions.{is_answered}
use Rattle.spec_trace.specs.Packets.{Packet, Unheard, ArpPacket, Message, DatagramPacket, Segment}
use Rattle.spec_run.proofs.Numbers.{carries_no_arp, ident_fits, reads_cut}
use Rattle.spec_run.proofs.Beside.{beside, no_request, no_udp}
use Rattle.spec_run.proofs.Owing.{Begins, Next, Beside, first_answers, out_by, out_six}
use Rattle.spec_run.proofs.Reading.{AllAnswers, IsOurs, SixAnswer, SixOccasion, is_for_service, no_segment, ours_packet, ours_told, six_occasion}

-- the datagram of which a frame of an answer is a part
answer_proto : (config : Config) (past : List Entry) (a : Answer) (k : ℕ) (frame : List ℕ) (rest : List (List ℕ)) (ip : Ip) → 28 ≤ config.mtu → SixAnswer a → IsOurs a → drop k
    (frames_for config (identification_with k past) a) ≡ frame ∷ rest → Carries frame ip → ip.proto ≡ udp_proto → ⊥
answer_proto config past (ArpAnswer to arp) k frame rest ip fits six ours is c udp = carries_no_arp config (identification_with k past) k to arp frame rest ip six is c
answer_proto config past (IpAnswer to proto from guest body) k frame rest ip fits six ours is c udp =
    let p = part_of_frames config (identification_with k past) to proto from guest body frame rest k is in
    let r = reads_cut config (identification_with k past) to proto from guest body frame k ip fits (ident_fits k past) six p c in
    ours.1 (sym r.proto ∙ udp)

one_ours : (answers : List Answer) (a : Answer) → answers ≡ a ∷ [] → AllAnswers IsOurs answers → IsOurs a
one_ours answers a is all = (subst (AllAnswers IsOurs) is all).0

module _ (config : Config) (past : List Entry) (frame : List ℕ) (a : Answer) (k : ℕ) (rest : List (List ℕ)) (frame_is : drop k (frames_for config (identification_with k past) a) ≡ frame ∷ rest) where
  -- the reply to what a peer sent
  abbrev reply : Endpoint → List ℕ → Endpoint → List ℕ → Answer
  reply peer octets guest mac =
      IpAnswer mac udp_proto (address (shown config peer)) (address guest) (udp_octets (address (shown config peer)) (address guest)
      (record { from_port = (shown config peer).port; to_port = guest.port; body = octets }))

  replied : (socket : ℕ) (peer : Endpoint) (octets : List ℕ) (guest : Endpoint) (mac : List ℕ) (b : Bool) → is_hidden config peer ≡ b
      → last_occasion config past ≡ Heard socket peer octets → opened_for config socket past ≡ Some guest → mac_for config socket past ≡ Some mac
      → (if b then [] else reply peer octets guest mac ∷ []) ≡ a ∷ []
      → RepliesToItsPort config past frame
  replied socket peer octets guest mac true hides last port at is = cc
  replied socket peer octets guest mac false hides last port at is =
      let this : reply peer octets guest mac ≡ a = cc in
      let of_this : drop k (frames_for config (identification_with k past) (reply peer octets guest mac)) ≡ frame ∷ rest = ap
      (λ a. drop k (frames_for config (identification_with k past) a)) this ∙ frame_is in
      let from = address (shown config peer) in
      let udp : Udp = record { from_port = (shown config peer).port; to_port = guest.port; body = octets } in
      let p = part_of_frames config (identification_with k past) mac udp_proto from (address guest) (udp_octets from (address guest) udp) frame rest k of_this in
      let long : length (udp_octets from (address guest) udp) ≡ 8 + length octets = length-udp (written_sum (summed from (address guest) (udp_with 0 udp))) udp in
      record {
        socket = socket;
        peer = peer;
        octets = octets;
        last = last;
        seen = hides;
        fits = omega (arith, long, p.short);
        guest = guest;
        port = port;
        mac = mac;
        at = at;
        out = k;
        rest = rest;
        is = of_this;
      }

  -- or the request for its guest, which carries none
  asked : (guest : ℕ) (ip : Ip) (b : Bool) → Carries frame ip → (if b then [] else ArpAnswer everyone (request config guest) ∷ []) ≡ a ∷ [] → ⊥
  asked guest ip true c is = cc
  asked guest ip false c is =
      let this : ArpAnswer everyone (request config guest) ≡ a = cc in
      carries_no_arp config (identification_with k past) k everyone (request config guest) frame rest ip (refl, our_six config.vhost)
      (ap (λ a. drop k (frames_for config (identification_with k past) a)) this ∙ frame_is) c

  heard : (socket : ℕ) (peer : Endpoint) (octets : List ℕ) (port : Option Endpoint) (mac : Option (List ℕ)) (ip : Ip) → Carries frame ip →
      last_occasion config past ≡ Heard socket peer octets → opened_for config socket past ≡ port
      → mac_for config socket past ≡ mac → reply_for config peer octets port mac ≡ a ∷ [] → RepliesToItsPort config past frame
  heard socket peer octets (Some guest) (Some mac) ip c last port at is = replied socket peer octets guest mac (is_hidden config peer) refl last port at is
  heard socket peer octets (Some guest) None ip c last port at is = absurd (asked (address guest) ip (is_hidden config peer) c is)
  heard socket peer octets None mac ip c last port at is = cc

  -- what a packet owes is no datagram of UDP, unless it is for a server of ours
  of_packet : (s : Serving) (stray : Bool) (packet : Packet) (ip : Ip) → is_for_service config packet ≡ false → 28 ≤ config.mtu → last_occasion config past ≡ Came s stray packet →
      owed_for_packet config s stray packet ≡ a ∷ [] → SixAnswer a → Carries frame ip
      → ip.proto ≡ udp_proto → ⊥
  of_packet s stray packet ip other fits last owed six c udp =
      answer_proto config past a k frame rest ip fits six (one_ours (owed_for_packet config s stray packet) a owed
      (ours_packet config s stray packet other (subst SixOccasion last (six_occasion config past)).1)) frame_is c udp

  came : (s : Serving) (stray : Bool) (packet : Packet) (ip : Ip) → 28 ≤ config.mtu → last_occasion config past ≡ Came s stray packet → owed_for_packet config s stray packet ≡ a
      ∷ [] → SixAnswer a → Carries frame ip → ip.proto ≡ udp_proto
      → RepliesToItsPort config past frame ⊎ (AnswersQuestion config past frame ⊎ IsOfServer config past frame)
  came s stray (DatagramPacket d) ip fits last owed six c udp = by (is_for_server (datagram_verdict config d)) refl
    where
      by : (b : Bool) → is_for_server (datagram_verdict config d) ≡ b → RepliesToItsPort config past frame ⊎ (AnswersQuestion config past frame ⊎ IsOfServer config past frame)
      by true is = inr (inr (ForPacket s stray d last is))
      by false is = absurd (of_packet s stray (DatagramPacket d) ip is fits last owed six c udp)
  came s stray Unheard ip fits last owed six c udp = absurd (of_packet s stray Unheard ip refl fits last owed six c udp)
  came s stray (ArpPacket arp) ip fits last owed six c udp = absurd (of_packet s stray (ArpPacket arp) ip refl fits last owed six c udp)
  came s stray (Message mac at message) ip fits last owed six c udp = absurd (of_packet s stray (Message mac at message) ip refl fits last owed six c udp)
  came s stray (Segment mac at tcp) ip fits last owed six c udp = absurd (of_packet s stray (Segment mac at tcp) ip refl fits last owed six c udp)

  of_question : (q : Question) (peer : Endpoint) (octets : List ℕ) (b : Bool) → is_answered config.resolver q peer octets ≡ b →
      last_occasion config past ≡ HeardOfName q peer octets → name_reply config q peer octets ≡ a ∷ [] → AnswersQuestion config past frame
  of_question q peer octets true counts last owed = record {
    question = q;
    peer = peer;
    octets = octets;
    last = last;
    counts = counts;
    out = k;
    rest = rest;
    is = ap (λ l. drop k (frames_of config (identification_with k past) l)) owed ∙ ap (drop k) (frames_one config (identification_with k past) a) ∙ frame_is;
  }
  of_question q peer octets false counts last owed =
      let none : name_reply config q peer octets ≡ [] = ap (λ (b : Bool). if b then name_answer config q octets ∷ [] else []) counts in
      let never : [] ≡ a ∷ [] = sym none ∙ owed in
      cc

  by_occasion : (o : Occasion) (ip : Ip) → 28 ≤ config.mtu → last_occasion config past ≡ o → owed_for config past o ≡ a ∷ [] → SixAnswer a → Carries frame ip →
      ip.proto ≡ udp_proto → RepliesToItsPort config past frame ⊎ (AnswersQuestion config past frame ⊎ IsOfServer config past frame)
  by_occasion NoOccasion ip fits last owed six c udp = cc
  by_occasion (Came s stray packet) ip fits last owed six c udp = came s stray packet ip fits last owed six c udp
  by_occasion (Heard socket peer octets) ip fits last owed six c udp = inl (heard socket peer octets (opened_for config socket past) (mac_for config socket past) ip c last refl refl owed)
  by_occasion (HeardOfName q peer octets) ip fits last owed six c udp = inr (inl (of_question q peer octets (is_answered config.resolver q peer octets) refl last owed))
  by_occasion (OfFile said) ip fits last owed six c udp = inr (inr (ByFile said last))
  by_occasion (Unconnected on) ip fits last owed six c udp = absurd (answer_proto config past a k frame rest ip fits six
      (one_ours (reset_for on ∷ []) a owed ((subst SixOccasion last (six_occasion config past), no_segment), tt)) frame_is c udp)
  by_occasion (Unsent d) ip fits last owed six c udp =
      absurd (answer_proto config past a k frame rest ip fits six (one_ours (told_about config no_network d) a owed
      (ours_told config no_network d (subst SixOccasion last (six_occasion config past)))) frame_is c udp)

pub replies : (config : Config) (e : Entry) (past : List Entry) (frame : List ℕ) (ip : Ip) → 28 ≤ config.mtu → Lawful config (e ∷ past) → goes_out e past ≡ Some frame →
    Carries frame ip → ip.proto ≡ udp_proto
    → RepliesToItsPort config past frame ⊎ (AnswersQuestion config past frame ⊎ IsOfServer config past frame)
replies config e past frame ip fits lawful out c udp =
    by_frame (out_by config e past frame lawful.0 out)
  where
    by_frame : Begins config past frame → RepliesToItsPort config past frame ⊎ (AnswersQuestion config past frame ⊎ IsOfServer config past frame)
    by_frame (Next first) =
        let a = first_answers config past frame fits lawful.1 first in
        by_occasion config past frame a.answer a.out a.rest a.is (last_occasion config past) ip fits refl a.owed (out_six config past a.answer a.owed) c udp
    by_frame (Beside nothing is) = elim (beside config past frame nothing is) [
      | inl f ↦ absurd (no_udp config past frame ip f c udp)
      | inr other ↦ elim other [
        | inl r ↦ absurd (no_request config past frame ip r c)
        | inr g ↦ inr (inr (Again g))
      ]
    ]
