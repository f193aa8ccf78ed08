-- What a frame asks for, against the trace.
use Rattle.std.proofs.Common.{◌≡◌, ℕ, ◌==◌, Bool, true, false, List, [], ◌∷◌, ◌++◌, Option, Some, None, if◌then◌else◌, refl, sym, ◌∙◌, ap, subst, arith}
use Rattle.std.proofs.lemmas.Bool.Decides.{nat_tests}
use Rattle.std.specs.Option.{option_and_then}
use Rattle.poll_list.specs.declared.Want.{Want}
use Rattle.poll_list.specs.declared.Who.TheVariants.{Link as TheLink}
use Rattle.world_face.specs.Journal.{Entry, AreAllowed, LinkRead}
use Rattle.net_octets.specs.Kinds.{arp_kind, ipv4_kind}
use Rattle.slirp_settings.specs.Addresses.{Config}
use Rattle.ether_frame.specs.Ether.{Ether, read_ether}
use Rattle.arp_table.specs.Arp.{read_arp}
use Rattle.ipv4_head.specs.Ip.{Ip, read_ip}
use Rattle.ipv4_head.specs.Sets.{PartSet, young}
use Rattle.ipv4_reasm.specs.Areas.{Gathered}
use Rattle.tcp_segment.specs.Tcp.{Tcp}
use Rattle.spec_flows.specs.Segments.{segment_by}
use Rattle.spec_trace.specs.Fragments.{fragment_by, fragment_in, fragment_of, waiting}
use Rattle.spec_trace.specs.Moments.{waits}
use Rattle.spec_trace.specs.Packets.{Packet, Unheard, ArpPacket, Message, DatagramPacket, Segment, Datagram, packet_in}
use Rattle.spec_run.specs.Agenda.{is_to_read, wanted_of}
use Rattle.spec_run.specs.Answers.{frames_of, owed_for_arp}
use Rattle.spec_run.specs.Datagrams.{errand_by_packet}
use Rattle.stream_netdev.specs.Frames.{Pieces, Reads}
use Rattle.stream_netdev.specs.Keeps.{Keeps, ReadsFrame, hands, ending_of}
use Rattle.stream_netdev.specs.State.{LinkState}
use Rattle.stream_netdev.specs.declared.Arrived.{Arrived}
use Rattle.stream_netdev.specs.declared.Arrived.TheVariants.{Frame}
use Rattle.slirp_core.specs.Came.{FrameCame, OctetsCame}
use Rattle.slirp_core.specs.Fragments.{HoldWith, after_frame}
use Rattle.slirp_core.specs.Holds.{WorkLeft, AsksFile, Standing, as_given, asked_by, standing, flowing, Comes, Holds, HoldsAt}
use Rattle.slirp_core.specs.Packets.{Request, ToSend, ToServe, errand_in, file_in, leases_with, owed_for, owed_for_arrived, owed_for_ether, request_by_packet, request_for_udp, udp_in}
use Rattle.slirp_core.specs.Packets.{udp_of_arrived, udp_of_ether, with_arp, with_ether, with_frame, with_ip}
use Rattle.slirp_core.specs.Segments.{Coming, coming, coming_by, segment_in, segment_of_arrived, segment_of_ether}
use Rattle.slirp_core.specs.State.{SlirpState, serving_of}
use Rattle.slirp_core.proofs.Bridging.{asks_same, brings_same, lends_same, owes_same}
use Rattle.slirp_core.proofs.Reading.{KeepsParts, after_packet, errand_is_in, packet_of, read_file, read_on, read_segment}
use Rattle.slirp_core.proofs.AsGiven.{frame_as, request_as}

-- a packet that holds a segment, or none
record IsSegment (c : Coming) (p : Packet) : Type 0 where
  mac : List ℕ
  ip : Ip
  tcp : Tcp
  packet : p ≡ Segment mac ip tcp
  is : coming mac ip tcp ≡ c

same_coming : {a b : Coming} → Some a ≡ Some b → a ≡ b
same_coming {a} {b} is = ap (λ (o : Option Coming). or_first o) is
  where
    or_first : Option Coming → Coming
    or_first None = a
    or_first (Some c) = c

is_segment : (c : Coming) (p : Packet) → coming_by p ≡ Some c → IsSegment c p
is_segment c Unheard is = cc
is_segment c (ArpPacket arp) is = cc
is_segment c (Message mac ip message) is = cc
is_segment c (DatagramPacket d) is = cc
is_segment c (Segment mac ip tcp) is = record { mac = mac; ip = ip; tcp = tcp; packet = refl; is = same_coming is }

no_segment : (p : Packet) → coming_by p ≡ None → segment_by p ≡ None
no_segment Unheard none = refl
no_segment (ArpPacket arp) none = refl
no_segment (Message mac ip message) none = refl
no_segment (DatagramPacket d) none = refl
no_segment (Segment mac ip tcp) none = cc

module _ (config : Config) (count : ℕ) (wants : List Want) (item : Want) (items : List Want) (reads_it : is_to_read TheLink (wanted_of wants item) ≡ true)
    (slirp : SlirpState) (old new : LinkState) (answer : Arrived) (no_packet : slirp.pending ≡ []) (out : old.tail ≡ [])
    (made past : List Entry) (allowed : AreAllowed made) (read : (past : List Entry) → Keeps old past → Keeps new (made ++ past) × ReadsFrame answer new made past)
    (holds : Holds config (standing count wants (item ∷ items)) slirp (flowing false slirp.flows) old past) where
  -- the sets of fragments that wait, as the core has them
  sets_wait : young slirp.moment holds.guests.fragments.held ≡ waiting config past
  sets_wait = ap (λ n. young n holds.guests.fragments.held) (sym holds.clock.moment) ∙ holds.guests.fragments.wait

  -- what a frame is said to bring, by the settings and the sets of the core, is what it brings by those of the trace
  of_frame : {A : Type 0} (of : Config → ℕ → List PartSet → List ℕ → A) (frame : List ℕ) → ((w : List PartSet) → of (as_given config) slirp.moment w frame ≡ of config slirp.moment w frame)
      → of slirp.config slirp.moment (young slirp.moment holds.guests.fragments.held) frame ≡ of config slirp.moment (waiting config past) frame
  of_frame of frame same =
      ap (λ k. of k slirp.moment (young slirp.moment holds.guests.fragments.held) frame) holds.guests.settings
      ∙ same (young slirp.moment holds.guests.fragments.held)
      ∙ ap (λ w. of config slirp.moment w frame) sets_wait

  module _ (parts : List Gathered) (frame : List ℕ) (came : hands answer new ≡ Some frame) (goes_on : ending_of answer ≡ None)
      (keeps : HoldWith slirp (fragment_in slirp.config frame) parts) where
    -- the network once it is taken in, with these areas
    abbrev done : SlirpState
    done = after_frame slirp.config slirp (young slirp.moment holds.guests.fragments.held) parts frame

    abbrev request : Option Request
    request = request_for_udp slirp.config (udp_in slirp.config slirp.moment (young slirp.moment holds.guests.fragments.held) frame)

    abbrev segment : Option Coming
    segment = segment_in slirp.config slirp.moment (young slirp.moment holds.guests.fragments.held) frame

    abbrev packet : Packet
    packet = packet_of config slirp.moment (waiting config past) (hands answer new)

    kept : KeepsParts config slirp done (hands answer new)
    kept = subst (λ o. KeepsParts config slirp done o) (sym came) (subst (λ (k : Config). HoldWith slirp (fragment_in k frame) parts) holds.guests.settings keeps)

    packet_is : packet ≡ packet_in config slirp.moment (waiting config past) frame
    packet_is = ap (packet_of config slirp.moment (waiting config past)) came

    -- what it owes, and what it makes of the leases
    done_is : done ≡ after_packet config slirp packet (hands answer new) parts
    done_is =
        of_frame (λ (k : Config) n w f. after_frame k slirp w parts f) frame (λ w. frame_as config slirp w parts frame)
        ∙ sym (λ i. record slirp {
          pending = frames_of config slirp.sent (owes_same config (serving_of slirp) (waiting config past) frame i);
          known = with_ether config (read_ether frame) slirp.known;
          fragments = parts;
          leases = lends_same config slirp.moment (waiting config past) frame slirp.leases i;
        })
        ∙ sym (ap (λ o. after_packet config slirp (packet_of config slirp.moment (waiting config past) o) o parts) came)

    -- what it asks for
    request_is : request_by_packet config packet ≡ request
    request_is =
        ap (request_by_packet config) packet_is ∙ asks_same config slirp.moment (waiting config past) frame
        ∙ sym (of_frame (λ k n w f. request_for_udp k (udp_in k n w f)) frame (λ w. request_as config (udp_in config slirp.moment w frame)))

    segment_is : coming_by packet ≡ segment
    segment_is = ap coming_by packet_is ∙ brings_same config slirp.moment (waiting config past) frame ∙ sym (of_frame segment_in frame (λ w. refl))

    -- a datagram for the server of files, which is still to be served
    file_came : (d : Datagram) → request ≡ Some (ToServe d) → AsksFile config (standing count wants items) done done.flows new d (made ++ past)
    file_came d is =
        read_file config count wants item items reads_it slirp slirp.flows old new answer no_packet out made past allowed read holds done d goes_on kept
        (ap file_in (request_is ∙ is)) done_is

    -- no segment, and nothing for the server of files: what it asks for is still to be done
    taken_in : (r : Option Request) → request ≡ r → file_in r ≡ None → segment ≡ None
        → HoldsAt config (standing count wants items) (asked_by config done (errand_in r)) done (flowing false done.flows) new (made ++ past)
    taken_in r is no_file none =
        let asks : errand_by_packet config packet ≡ errand_in r = errand_is_in config packet ∙ ap errand_in (request_is ∙ is) in
        subst (λ o. HoldsAt config (standing count wants items) (asked_by config done o) done (flowing false done.flows) new (made ++ past)) asks
        (read_on config count wants item items reads_it slirp slirp.flows old new answer no_packet out made past allowed read holds done goes_on kept
        (no_segment packet (segment_is ∙ none)) (ap file_in (request_is ∙ is) ∙ no_file) done_is)

    -- a segment, which is still to be heard
    segment_came : (c : Coming) → segment ≡ Some c → Comes config (standing count wants items) done done.flows new c (made ++ past)
    segment_came c is =
        let seg = is_segment c packet (segment_is ∙ is) in
        let unowed = done_is ∙ ap (λ (p : Packet). after_packet config slirp p (hands answer new) parts) seg.packet
        ∙ ap (λ (l : List (List ℕ)). record slirp { pending = l; known = with_frame config (hands answer new) slirp.known; fragments = parts }) (sym no_packet) in
        let h = read_segment config count wants item items reads_it slirp slirp.flows old new answer no_packet out made past allowed read holds done seg.mac seg.ip seg.tcp goes_on
        kept seg.packet unowed in
        subst (λ (other : Coming). Comes config (standing count wants items) done done.flows new other (made ++ past)) seg.is h

    -- so whatever came
    pub came_asks : WorkLeft config (standing count wants items) done new request segment (made ++ past)
    came_asks = by request segment refl refl
      where
        by : (r : Option Request) (s : Option Coming) → request ≡ r → segment ≡ s → WorkLeft config (standing count wants items) done new r s (made ++ past)
        by r (Some c) is_request is_segment = segment_came c is_segment
        by None None is_request is_segment = taken_in None is_request refl is_segment
        by (Some (ToSend errand)) None is_request is_segment = taken_in (Some (ToSend errand)) is_request refl is_segment
        by (Some (ToServe d)) None is_request is_segment = file_came d is_request

-- ---- what a frame asks for, by what is read of it

other_kind : (kind other : ℕ) → (kind ≡ other → ⊥) → (kind == other) ≡ false
other_kind kind other is_other = grind (arith, nat_tests)

module _ (config : Config) (count : ℕ) (wants : List Want) (item : Want) (items : List Want) (reads_it : is_to_read TheLink (wanted_of wants item) ≡ true)
    (slirp : SlirpState) (link : LinkState) (frame : List ℕ) (no_packet : slirp.pending ≡ []) (past : List Entry)
    (came : FrameCame config (standing count wants (item ∷ items)) slirp link frame past) where
  abbrev wait : List PartSet
  wait = young slirp.moment came.holds.guests.fragments.held

  abbrev left : Standing
  left = standing count wants items

  abbrev AsksRead : List Gathered → Option Ether → Type 0
  AsksRead parts o = WorkLeft config left (record slirp {
    pending = frames_of slirp.config slirp.sent (owed_for (owed_for_ether slirp.config (serving_of slirp) wait) o);
    known = with_ether slirp.config o slirp.known;
    fragments = parts;
    leases = leases_with slirp.config slirp.moment (option_and_then (udp_of_ether slirp.config slirp.moment wait) o) slirp.leases;
  }) link (request_for_udp slirp.config (option_and_then (udp_of_ether slirp.config slirp.moment wait) o)) (option_and_then (segment_of_ether slirp.config slirp.moment wait) o) past

  read_asks : (o : Option Ether) (parts : List Gathered) → read_ether frame ≡ o → HoldWith slirp (option_and_then (fragment_of slirp.config) o) parts → AsksRead parts o
  read_asks o parts read keeps =
      subst (AsksRead parts) read
      (subst (λ past. WorkLeft config left (after_frame slirp.config slirp wait parts frame) link (request_for_udp slirp.config (udp_in slirp.config slirp.moment wait frame))
      (segment_in slirp.config slirp.moment wait frame) past) came.is
      (came_asks config count wants item items reads_it slirp came.before link Frame no_packet came.out came.made came.past came.allowed came.reads came.holds parts frame came.came refl
      (subst (λ o. HoldWith slirp (option_and_then (fragment_of slirp.config) o) parts) (sym read) keeps)))

  -- where nothing was owed before and nothing is, all is as it was
  as_it_was : Holds config left (record slirp { pending = [] }) (flowing false slirp.flows) link past → Holds config left slirp (flowing false slirp.flows) link past
  as_it_was holds = subst (λ p. Holds config left (record slirp { pending = p }) (flowing false slirp.flows) link past) (sym no_packet) holds

  pub unread_came : read_ether frame ≡ None → Holds config left slirp (flowing false slirp.flows) link past
  unread_came read = as_it_was (read_asks None slirp.fragments read (λ held h. h))

  module _ (ether : Ether) (read : read_ether frame ≡ Some ether) where
    -- by the kind of what it carries
    abbrev AsksKinds : List Gathered → (arp ip : Bool) → Type 0
    AsksKinds parts arp ip = WorkLeft config left (record slirp {
      pending = frames_of slirp.config slirp.sent
          (if arp then owed_for (owed_for_arp slirp.config) (read_arp ether.body)
          else (if ip then owed_for (owed_for_arrived slirp.config (serving_of slirp) wait ether.from ether.body) (read_ip ether.body) else []));
      known = if arp then with_arp slirp.config (read_arp ether.body) slirp.known
          else (if ip then with_ip slirp.config ether.from (read_ip ether.body) slirp.known else slirp.known);
      fragments = parts;
      leases = leases_with slirp.config slirp.moment
          (if ip then option_and_then (udp_of_arrived slirp.config slirp.moment wait ether.from ether.body) (read_ip ether.body) else None) slirp.leases;
    }) link
        (request_for_udp slirp.config (if ip then option_and_then (udp_of_arrived slirp.config slirp.moment wait ether.from ether.body) (read_ip ether.body) else None))
        (if ip then option_and_then (segment_of_arrived slirp.config slirp.moment wait ether.from ether.body) (read_ip ether.body) else None) past

    kind_asks : (arp ip : Bool) (parts : List Gathered) → (ether.kind == arp_kind) ≡ arp → (ether.kind == ipv4_kind) ≡ ip
        → HoldWith slirp (if ip then option_and_then (fragment_by slirp.config ether.body) (read_ip ether.body) else None) parts → AsksKinds parts arp ip
    kind_asks arp ip parts is_arp is_ip keeps =
        subst (λ (b : Bool). AsksKinds parts b ip) is_arp
        (subst (λ (b : Bool). AsksKinds parts (ether.kind == arp_kind) b) is_ip
        (read_asks (Some ether) parts read
        (subst (λ (b : Bool). HoldWith slirp (if b then option_and_then (fragment_by slirp.config ether.body) (read_ip ether.body) else None) parts) (sym is_ip) keeps)))

    pub arp_came : ether.kind ≡ arp_kind → Holds config left (record slirp {
      pending = frames_of slirp.config slirp.sent (owed_for (owed_for_arp slirp.config) (read_arp ether.body));
      known = with_arp slirp.config (read_arp ether.body) slirp.known;
    }) (flowing false slirp.flows) link past
    arp_came kind = kind_asks true false slirp.fragments (ap (λ (k : ℕ). k == arp_kind) kind) (ap (λ (k : ℕ). k == ipv4_kind) kind) (λ held h. h)

    pub octets_came : ether.kind ≡ ipv4_kind → OctetsCame config left slirp link ether.from ether.body past
    octets_came kind = record {
      held = came.holds.guests.fragments.held;
      is_held = came.holds.guests.fragments.is_held;
      asks = λ parts keeps. kind_asks false true parts (ap (λ (k : ℕ). k == arp_kind) kind) (ap (λ (k : ℕ). k == ipv4_kind) kind) keeps;
    }

    pub other_came : (ether.kind ≡ arp_kind → ⊥) → (ether.kind ≡ ipv4_kind → ⊥) → Holds config left slirp (flowing false slirp.flows) link past
    other_came not_arp not_ip = as_it_was (kind_asks false false slirp.fragments (other_kind ether.kind arp_kind not_arp) (other_kind ether.kind ipv4_kind not_ip) (λ held h. h))

-- ---- and how often the run had waited

pieces_wait : (made past : List Entry) → Pieces made past → waits (made ++ past) ≡ waits past
pieces_wait [] past pieces = refl
pieces_wait (LinkRead asked answer octets ∷ made) past pieces = pieces_wait made past pieces.3
pieces_wait (_ ∷ made) past pieces = absurd pieces.0

-- reads of the link are no waits
pub reads_wait : (made past : List Entry) → Reads made past → waits (made ++ past) ≡ waits past
reads_wait [] past reads = absurd reads
reads_wait (LinkRead asked answer octets ∷ made) past reads = pieces_wait made past reads.1
reads_wait (_ ∷ made) past reads = absurd reads.0

pub came_waits : (config : Config) (at : Standing) (slirp : SlirpState) (link : LinkState) (frame : List ℕ) (now : List Entry) → FrameCame config at slirp link frame now → waits now ≡ at.count
came_waits config at slirp link frame now c = sym (ap waits c.is) ∙ reads_wait c.made c.past (c.reads c.past c.holds.keeps).1.reads ∙ c.holds.clock.counted
