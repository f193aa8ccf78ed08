-- Reads of the link, and what a frame brings.
use Rattle.slirp_core.specs.Forwards.{AreInForce}
use Rattle.rules_forward.specs.Opened.{Opened}
use Rattle.std.proofs.Common.{◌≡◌, ℕ, ◌<◌, ◌&&◌, not, Bool, true, false, List, [], ◌∷◌, ◌++◌, drop, Option, Some, None, option_map, if◌then◌else◌, refl, sym, ◌∙◌, ap, subst, arith}
use Rattle.spec_flow.specs.Guest.{is_empty}
use Rattle.poll_list.specs.declared.Want.{Want}
use Rattle.poll_list.specs.declared.Who.TheVariants.{Link as TheLink}
use Rattle.net_octets.specs.declared.Ip4.{Ip4}
use Rattle.net_octets.specs.declared.Mac.{Mac}
use Rattle.world_face.specs.Journal.{Entry, AreAllowed, Follows, LinkRead, CallLinkRead}
use Rattle.world_face.specs.declared.Io.TheVariants.{Done, End as IoEnd, NotYet as IoNotYet, Failed as IoFailed}
use Rattle.world_face.specs.Frames.{Ending, MayFrame, partial, arrives, arrived, ending, tail, is_whole}
use Rattle.world_face.proofs.Telling.{allowed_then}
use Rattle.slirp_settings.specs.Addresses.{Config}
use Rattle.ipv4_head.specs.Ip.{Ip}
use Rattle.ipv4_head.specs.Sets.{PartSet, young}
use Rattle.tcp_segment.specs.Tcp.{Tcp}
use Rattle.spec_flows.specs.Book.{book}
use Rattle.spec_flows.specs.Doings.{Nothing, Comes as ComesOn, comes, doing, doing_by}
use Rattle.spec_flows.specs.Segments.{OnTuple, from_guest, segment_by}
use Rattle.spec_trace.specs.Guests.{known, with_arrival}
use Rattle.spec_trace.specs.Happenings.{arrival_of, happens}
use Rattle.spec_trace.specs.Fragments.{fragment_in, sets, waiting, with_fragment, with_frame as waits_with}
use Rattle.spec_trace.specs.Moments.{moment, waits}
use Rattle.spec_trace.specs.Packets.{Packet, Unheard, ArpPacket, Message, DatagramPacket, Segment, Datagram, packet_in}
use Rattle.spec_trace.specs.Shape.{Phase, Working, Over, By, phase, phase_after, is_working}
use Rattle.spec_run.specs.Agenda.{agenda, all_wanted, behind, from, is_to_read, reads_on as goes_on_reading, wanted_of}
use Rattle.rules_dhcp.specs.declared.Lease.{Lease}
use Rattle.ipv4_reasm.specs.Areas.{Gathered}
use Rattle.spec_run.specs.Answers.{Serving, files_after, files_by_verdict, files_by_packet, frames_of, identification, is_out, ledger, left, left_after, owed_for_verdict, owed_for_packet, serving, strays}
use Rattle.spec_run.specs.Leasing.{leases, leases_by, leases_by_packet}
use Rattle.spec_run.specs.Asking.{step_of}
use Rattle.spec_run.specs.Errands.{errand_after, errand_left}
use Rattle.spec_run.specs.Datagrams.{DatagramVerdict, Ignored, Refused, ForLeases, ForFiles, GoesTo, NeedsNothing, errand_by, errand_by_packet, datagram_verdict}
use Rattle.rules_tftp.specs.Transfers.{Files, settled}
use Rattle.spec_run.specs.Laws.{Lawful, May, is_closing, joins}
use Rattle.spec_trace.specs.Sockets.{next_number}
use Rattle.sim_flows.specs.Stands.{InWork}
use Rattle.spec_run.specs.Relayed.{associations}
use Rattle.spec_run.proofs.Deeds.{reads_on}
use Rattle.stream_netdev.specs.Frames.{ended, Pieces, Reads}
use Rattle.stream_netdev.specs.Keeps.{Keeps, ReadsFrame, hands, ending_of}
use Rattle.stream_netdev.specs.State.{LinkState}
use Rattle.stream_netdev.specs.declared.Arrived.{Arrived}
use Rattle.slirp_core.specs.Fragments.{IsHeld}
use Rattle.slirp_core.specs.Holds.{AsksFile, holders_with, asked_by, InTurn, IsLast, standing, Comes, Ended, Holds, HoldsAt, OfFlows, OfSockets, Turns, flowing}
use Rattle.slirp_core.specs.Packets.{errand_in, file_in, owed_at_once_by, owed_with, request_by, request_by_packet, with_frame}
use Rattle.slirp_core.specs.Services.{OfServices}
use Rattle.slirp_core.specs.State.{SlirpState, serving_of}
use Rattle.slirp_core.specs.Waiting.{OfFragments}
use Rattle.slirp_core.specs.Segments.{coming}
use Rattle.slirp_core.proofs.Bridging.{teaches_same}
use Rattle.slirp_core.proofs.Learning.{teaches_sender}
use Rattle.spec_flows.specs.Taught.{taught, taught_by, taught_pair}
use Rattle.std.specs.Prelude.{Contains}
use Rattle.slirp_core.proofs.Guests.{guests_learn}
use Rattle.slirp_core.proofs.Parts.{behind_of, errand_for, from_of, reads_of, skipped, due_is, in_turn, two_in}
use Rattle.slirp_core.proofs.Waitings.{fragments_stay, fragments_take}
use Rattle.tcp_flows.specs.Kept.{Kept}
use Rattle.slirp_core.proofs.Flows.{flows_stay, flows_stay_open}
use Rattle.slirp_core.proofs.Owing.{nothing_left, of_left, owed_at}
use Rattle.slirp_core.proofs.Services.{none_due_for_services, serving_is}
use Rattle.spec_run.specs.Names.{answered, questions}
use Rattle.slirp_core.proofs.Given.{unmoved}
use Rattle.slirp_core.proofs.Open.{open_by}

-- reads of a frame, before the last
record Quiet (config : Config) (count : ℕ) (wants : List Want) (item : Want) (items : List Want) (slirp : SlirpState) (kept : Kept) (wait : List PartSet) (past : List Entry) : Type 0 where
  turn : InTurn config past
  reported : IsLast (all_wanted wants (item ∷ items)) (agenda past)
  open_yet : is_closing config past ≡ false
  sent_is : identification past ≡ slirp.sent
  none : left config past ≡ []
  out : tail past ≡ []
  known_is : known config past ≡ slirp.known
  counted : waits past ≡ count
  list : associations config past ≡ slirp.associations
  named : questions config past ≡ slirp.questions
  heard : answered config past ≡ None
  unasked : errand_left config past ≡ None
  clock : moment past ≡ slirp.moment
  fragments : OfFragments config slirp past
  waits : waiting config past ≡ wait
  serves : OfServices config slirp past
  idle : (serving config past).again ≡ None
  files : slirp.transfers ≡ (serving config past).files.transfers
  flows : OfFlows config (flowing false kept) slirp.moment past
  sockets : OfSockets slirp.number past

module _ (config : Config) (count : ℕ) (wants : List Want) (item : Want) (items : List Want) (slirp : SlirpState) (kept : Kept) (wait : List PartSet)
    (reads_it : is_to_read TheLink (wanted_of wants item) ≡ true) where
  -- a read may come, that asks for what is missing
  may_read : (asked : ℕ) (past : List Entry) → MayFrame past (CallLinkRead asked) → Quiet config count wants item items slirp kept wait past → May config past (CallLinkRead asked)
  may_read asked past framed q =
      reads_on config past asked framed (due_is config past NeedsNothing q.turn.working (none_due_for_services config past q.heard q.serves.quest) q.flows.holds.asked
      (ap (step_of config past) q.unasked)) (flows_stay_open config (flowing false kept) slirp.moment past q.flows) (ap is_working q.turn.working)
      (reads_of TheLink (wanted_of wants item) (all_wanted wants items) (agenda past) reads_it q.reported)
      (ap (λ t. is_empty t && is_out (left config past)) q.out ∙ ap is_out q.none) q.open_yet

  -- a frame that isn't handed over isn't whole
  not_whole : (octets : List ℕ) → (if is_whole octets then Some (drop 4 octets) else None) ≡ None → is_whole octets ≡ false
  not_whole octets = elim (is_whole octets) as (λ b. (if b then Some (drop 4 octets) else None) ≡ None → b ≡ false) [ true ↦ λ is. cc | false ↦ λ is. refl ]

  quiet : (made past : List Entry) → Pieces made past → Follows MayFrame (made ++ past) → Quiet config count wants item items slirp kept wait past → Lawful config past
      → Quiet config count wants item items slirp kept wait (made ++ past) × Lawful config (made ++ past)
  quiet [] past pieces framed q lawful = (q, lawful)
  quiet (LinkRead asked (Done n) octets ∷ made) past pieces framed q lawful =
      let (before, so_far) = quiet made past pieces.3 framed.1 q lawful in
      let e = LinkRead asked (Done n) octets in
      let frame = pieces.1 in
      let unsought : (serving config (e ∷ made ++ past)).files ≡ (serving config (made ++ past)).files =
      ap (λ o. files_after config (made ++ past) (happens config (made ++ past) e) (option_map (arrival_of config (moment (made ++ past)) (waiting config (made ++ past))) o)
      (ledger config (made ++ past))) frame in (
        record {
          turn = record { working = ap (λ o. phase_after e o (phase config (made ++ past))) pieces.2 ∙ before.turn.working; waited = before.turn.waited };
          reported = subst (λ (b : Bool). IsLast (all_wanted wants (item ∷ items)) (if not b then from TheLink (agenda (made ++ past)) else behind TheLink (agenda (made ++ past))))
              (sym (not_whole (partial (made ++ past) ++ octets) frame)) (from_of TheLink (wanted_of wants item) (all_wanted wants items) (agenda (made ++ past)) reads_it before.reported);
          open_yet = before.open_yet;
          sent_is = before.sent_is;
          none = ap (λ o. left_after config (made ++ past) (happens config (made ++ past) e)
              (option_map (arrival_of config (moment (made ++ past)) (waiting config (made ++ past))) o) (ledger config (made ++ past))) frame ∙ before.none;
          out = before.out;
          known_is = ap (λ o. with_arrival (option_map (arrival_of config (moment (made ++ past)) (waiting config (made ++ past))) o) (known config (made ++ past))) frame ∙ before.known_is;
          counted = before.counted;
          list = before.list;
          named = before.named;
          heard = refl;
          unasked = ap (λ o. errand_after config e (option_map (arrival_of config (moment (made ++ past)) (waiting config (made ++ past))) o)
              (errand_left config (made ++ past))) frame ∙ before.unasked;
          clock = before.clock;
          fragments = fragments_stay config slirp slirp e (made ++ past) frame refl before.fragments;
          serves = record {
            leases = ap (λ o. leases_by config (moment (made ++ past)) (option_map (arrival_of config (moment (made ++ past)) (waiting config (made ++ past))) o)
                (leases config (made ++ past))) frame ∙ before.serves.leases;
            quest = ap (λ (k : Files). k.quest) unsought ∙ before.serves.quest;
          };
          idle = before.idle;
          files = before.files ∙ sym (ap (λ (k : Files). k.transfers) unsought);
          waits = ap (λ o. young (moment (made ++ past)) (waits_with config (moment (made ++ past)) o (sets config (made ++ past)))) frame ∙ before.waits;
          flows = flows_stay config (flowing false kept) slirp.moment e (made ++ past)
              (ap (λ o. doing_by (option_map (arrival_of config (moment (made ++ past)) (waiting config (made ++ past))) o) None e) frame) refl (omega arith) refl before.flows;
          sockets = record { number = before.sockets.number; kinds = before.sockets.kinds };
        },
        (may_read asked (made ++ past) framed.0 before, so_far),
      )
  quiet (LinkRead asked IoEnd octets ∷ made) past pieces framed q lawful = absurd pieces.0
  quiet (LinkRead asked IoNotYet octets ∷ made) past pieces framed q lawful = absurd pieces.0
  quiet (LinkRead asked IoFailed octets ∷ made) past pieces framed q lawful = absurd pieces.0
  quiet (_ ∷ made) past pieces framed q lawful = absurd pieces.0

-- where a run stands after these endings
abbrev over_by : Option Ending → Phase
over_by None = Working
over_by (Some why) = Over (By why)

-- the packet in a frame
abbrev pub packet_of : Config → ℕ → List PartSet → Option (List ℕ) → Packet
packet_of config now wait None = Unheard
packet_of config now wait (Some frame) = packet_in config now wait frame

-- the network once that packet is taken in, with these areas of fragments; a segment is answered when it is heard
abbrev pub after_packet : Config → SlirpState → Packet → Option (List ℕ) → List Gathered → SlirpState
after_packet config s packet frame parts = record s {
  pending = frames_of config s.sent (owed_with config (serving_of s) packet);
  known = with_frame config frame s.known;
  fragments = parts;
  leases = leases_by_packet config s.moment packet s.leases;
}

-- where it is no segment, and no datagram for the server of files, it is answered at once, and nothing is sought
once_by : (config : Config) (s : Serving) (d : Datagram) (f : DatagramVerdict) → file_in (request_by d f) ≡ None → owed_for_verdict config s d f ≡ owed_at_once_by config s d f
once_by config s d Ignored none = refl
once_by config s d Refused none = refl
once_by config s d ForLeases none = refl
once_by config s d ForFiles none = cc
once_by config s d (GoesTo to) none = refl

pub owed_once : (config : Config) (s : Serving) (b : Bool) (p : Packet) → segment_by p ≡ None → file_in (request_by_packet config p) ≡ None → owed_for_packet config s b p ≡ owed_with config s p
owed_once config s b Unheard none unserved = refl
owed_once config s b (ArpPacket arp) none unserved = refl
owed_once config s b (Message mac ip message) none unserved = refl
owed_once config s b (DatagramPacket d) none unserved = once_by config s d (datagram_verdict config d) unserved
owed_once config s b (Segment mac ip tcp) none unserved = cc

unsought_by : (config : Config) (s : Serving) (d : Datagram) (f : DatagramVerdict) → file_in (request_by d f) ≡ None → files_by_verdict config s d f ≡ s.files
unsought_by config s d Ignored none = refl
unsought_by config s d Refused none = refl
unsought_by config s d ForLeases none = refl
unsought_by config s d ForFiles none = cc
unsought_by config s d (GoesTo to) none = refl

pub resolves_nothing : (config : Config) (s : Serving) (p : Packet) → file_in (request_by_packet config p) ≡ None → files_by_packet config s p ≡ s.files
resolves_nothing config s Unheard none = refl
resolves_nothing config s (ArpPacket arp) none = refl
resolves_nothing config s (Message mac ip message) none = refl
resolves_nothing config s (DatagramPacket d) none = unsought_by config s d (datagram_verdict config d) none
resolves_nothing config s (Segment mac ip tcp) none = refl

-- what goes out of what a packet asks for
errand_by_verdict : (d : Datagram) (f : DatagramVerdict) → errand_by d f ≡ errand_in (request_by d f)
errand_by_verdict d Ignored = refl
errand_by_verdict d Refused = refl
errand_by_verdict d ForLeases = refl
errand_by_verdict d ForFiles = refl
errand_by_verdict d (GoesTo to) = refl

pub errand_is_in : (config : Config) (p : Packet) → errand_by_packet config p ≡ errand_in (request_by_packet config p)
errand_is_in config Unheard = refl
errand_is_in config (ArpPacket arp) = refl
errand_is_in config (Message mac ip message) = refl
errand_is_in config (DatagramPacket d) = errand_by_verdict d (datagram_verdict config d)
errand_is_in config (Segment mac ip tcp) = refl

-- a packet is this datagram, which is for the server of files
pub record IsForFiles (config : Config) (d : Datagram) (p : Packet) : Type 0 where
  pub packet : p ≡ DatagramPacket d
  pub datagram_verdict : datagram_verdict config d ≡ ForFiles

for_files_by : (config : Config) (d e : Datagram) (f : DatagramVerdict) → datagram_verdict config e ≡ f → file_in (request_by e f) ≡ Some d → IsForFiles config d (DatagramPacket e)
for_files_by config d e Ignored is file = cc
for_files_by config d e Refused is file = cc
for_files_by config d e ForLeases is file = cc
for_files_by config d e (GoesTo to) is file = cc
for_files_by config d e ForFiles is file = let same : e ≡ d = the_same file in record { packet = ap DatagramPacket same; datagram_verdict = sym (ap (datagram_verdict config) same) ∙ is }
  where
    the_same : Some e ≡ Some d → e ≡ d
    the_same is = cc

pub for_files : (config : Config) (d : Datagram) (p : Packet) → file_in (request_by_packet config p) ≡ Some d → IsForFiles config d p
for_files config d Unheard is = cc
for_files config d (ArpPacket arp) is = cc
for_files config d (Message mac ip message) is = cc
for_files config d (DatagramPacket e) is = for_files_by config d e (datagram_verdict config e) refl is
for_files config d (Segment mac ip tcp) is = cc

-- and which fragments wait
abbrev pub KeepsParts : Config → SlirpState → SlirpState → Option (List ℕ) → Type 0
KeepsParts config slirp new None = new.fragments ≡ slirp.fragments
KeepsParts config slirp new (Some frame) = (held : List PartSet) → IsHeld slirp.fragments held → IsHeld new.fragments (with_fragment slirp.moment (fragment_in config frame) held)

-- reads of the link leave the ports of the host in force
pieces_in_force : (config : Config) (forwards : List Opened) (made past : List Entry) → Pieces made past → AreInForce config forwards past → AreInForce config forwards (made ++ past)
pieces_in_force config forwards [] past pieces has = has
pieces_in_force config forwards (LinkRead asked answer octets ∷ made) past pieces has =
    let before = pieces_in_force config forwards made past pieces.3 has in
    unmoved config forwards (LinkRead asked answer octets ∷ made ++ past) (made ++ past) (λ n among. refl) (λ n among given. among) (λ n among given. (among, given)) (omega arith) before
pieces_in_force config forwards (_ ∷ made) past pieces has = absurd pieces.0

read_in_force : (config : Config) (forwards : List Opened) (made past : List Entry) → Reads made past → AreInForce config forwards past → AreInForce config forwards (made ++ past)
read_in_force config forwards [] past reads has = absurd reads
read_in_force config forwards (LinkRead asked answer octets ∷ made) past reads has =
    let before = pieces_in_force config forwards made past reads.1 has in
    unmoved config forwards (LinkRead asked answer octets ∷ made ++ past) (made ++ past) (λ n among. refl) (λ n among given. among) (λ n among given. (among, given)) (omega arith) before
read_in_force config forwards (_ ∷ made) past reads has = absurd reads.0

-- the newest read, and what came before it
record Newest (config : Config) (count : ℕ) (wants : List Want) (item : Want) (items : List Want) (slirp : SlirpState) (kept : Kept) (wait : List PartSet) (all : List Entry) : Type 0 where
  e : Entry
  before : List Entry
  is : all ≡ e ∷ before
  quiet_is : Quiet config count wants item items slirp kept wait before
  lawful_before : Lawful config before
  lawful : Lawful config all
  phase_is : phase config all ≡ over_by (ended all)
  waited : 0 < waits all
  reported : IsLast (all_wanted wants items) (agenda all)
  open_yet : is_closing config all ≡ false
  sent_is : identification all ≡ slirp.sent
  left_is : left config all ≡ frames_of config slirp.sent (owed_for_packet config (serving_of slirp)
      (strays config (book config all) (packet_of config slirp.moment wait (arrived all))) (packet_of config slirp.moment wait (arrived all)))
  files_is : (serving config all).files ≡ files_by_packet config (serving_of slirp) (packet_of config slirp.moment wait (arrived all))
  idle : (serving config all).again ≡ None
  leased : leases config all ≡ leases_by_packet config slirp.moment (packet_of config slirp.moment wait (arrived all)) slirp.leases
  known_is : known config all ≡ with_frame config (arrived all) slirp.known
  counted : waits all ≡ count
  list : associations config all ≡ slirp.associations
  named : questions config all ≡ slirp.questions
  heard : answered config all ≡ None
  asks : errand_left config all ≡ errand_by_packet config (packet_of config slirp.moment wait (arrived all))
  clock : moment all ≡ slirp.moment
  fragments : (new : SlirpState) → KeepsParts config slirp new (arrived all) → OfFragments config new all
  quiet_flows : segment_by (packet_of config slirp.moment wait (arrived all)) ≡ None → OfFlows config (flowing false kept) slirp.moment all
  comes : (on : OnTuple) → segment_by (packet_of config slirp.moment wait (arrived all)) ≡ Some on → doing config before e ≡ ComesOn on
  sockets : OfSockets slirp.number all
  joins_same : (n : ℕ) → joins all n ≡ joins before n
  taught_it : (mac : List ℕ) (ip : Ip) (tcp : Tcp) → packet_of config slirp.moment wait (arrived all) ≡ Segment mac ip tcp → Contains (taught config all) (record { 0 = ip.from }, record { 0 = mac })

newest : (config : Config) (count : ℕ) (wants : List Want) (item : Want) (items : List Want) (slirp : SlirpState) (kept : Kept) (wait : List PartSet) → is_to_read TheLink (wanted_of wants item) ≡ true
    → (made past : List Entry) → Reads made past → Follows MayFrame (made ++ past) → Quiet config count wants item items slirp kept wait past → Lawful config past →
    Newest config count wants item items slirp kept wait (made ++ past)
newest config count wants item items slirp kept wait reads_it [] past reads framed q lawful = absurd reads
newest config count wants item items slirp kept wait reads_it (LinkRead asked answer octets ∷ made) past reads framed q lawful =
    let (quiet_before, so_far) = quiet config count wants item items slirp kept wait reads_it made past reads.1 framed.1 q lawful in
    record {
      e = LinkRead asked answer octets;
      before = made ++ past;
      is = refl;
      quiet_is = quiet_before;
      lawful_before = so_far;
      lawful = (may_read config count wants item items slirp kept wait reads_it asked (made ++ past) framed.0 quiet_before, so_far);
      phase_is = ap (phase_after (LinkRead asked answer octets) (ending (LinkRead asked answer octets) (partial (made ++ past)))) quiet_before.turn.working ∙ stands
          (ending (LinkRead asked answer octets) (partial (made ++ past)));
      waited = quiet_before.turn.waited;
      reported = passed (goes_on_reading answer (partial (made ++ past) ++ octets)) quiet_before.reported;
      open_yet = quiet_before.open_yet;
      sent_is = quiet_before.sent_is;
      left_is = owes (arrives (LinkRead asked answer octets) (made ++ past)) quiet_before.none
          ∙ (λ i. frames_of config (quiet_before.sent_is i) (owed_for_packet config
          (serving_is config slirp (made ++ past) quiet_before.clock quiet_before.serves quiet_before.idle quiet_before.files i)
          (strays config (book config ((LinkRead asked answer octets) ∷ (made ++ past))) (packet_of config (quiet_before.clock i) (quiet_before.waits i)
          (arrives (LinkRead asked answer octets) (made ++ past))))
          (packet_of config (quiet_before.clock i) (quiet_before.waits i) (arrives (LinkRead asked answer octets) (made ++ past)))));
      files_is = seeks (arrives (LinkRead asked answer octets) (made ++ past))
          ∙ (λ i. files_by_packet config (serving_is config slirp (made ++ past) quiet_before.clock quiet_before.serves quiet_before.idle quiet_before.files i)
          (packet_of config (quiet_before.clock i) (quiet_before.waits i) (arrives (LinkRead asked answer octets) (made ++ past))));
      idle = quiet_before.idle;
      leased = lends (arrives (LinkRead asked answer octets) (made ++ past)) (leases config (made ++ past))
          ∙ (λ i. leases_by_packet config (quiet_before.clock i) (packet_of config (quiet_before.clock i) (quiet_before.waits i)
          (arrives (LinkRead asked answer octets) (made ++ past))) (quiet_before.serves.leases i));
      known_is = teaches (arrives (LinkRead asked answer octets) (made ++ past)) (known config (made ++ past)) ∙ ap
          (with_frame config (arrives (LinkRead asked answer octets) (made ++ past))) quiet_before.known_is;
      counted = quiet_before.counted;
      list = quiet_before.list;
      named = quiet_before.named;
      heard = refl;
      asks = sets_out (arrives (LinkRead asked answer octets) (made ++ past)) quiet_before.unasked ∙
          (λ i. errand_by_packet config (packet_of config (quiet_before.clock i) (quiet_before.waits i) (arrives (LinkRead asked answer octets) (made ++ past))));
      clock = quiet_before.clock;
      fragments = λ new keeps. puts new (arrives (LinkRead asked answer octets) (made ++ past)) refl keeps quiet_before.clock quiet_before.fragments;
      quiet_flows = λ none. flows_stay config (flowing false kept) slirp.moment (LinkRead asked answer octets) (made ++ past)
          (nothing (arrives (LinkRead asked answer octets) (made ++ past))
          ((λ i. segment_by (packet_of config (quiet_before.clock i) (quiet_before.waits i)
          (arrives (LinkRead asked answer octets) (made ++ past)))) ∙ none)) refl (omega arith) refl quiet_before.flows;
      comes = λ on came. something (arrives (LinkRead asked answer octets) (made ++ past)) on
          ((λ i. segment_by (packet_of config (quiet_before.clock i) (quiet_before.waits i) (arrives (LinkRead asked answer octets) (made ++ past)))) ∙ came);
      sockets = record { number = quiet_before.sockets.number; kinds = quiet_before.sockets.kinds };
      joins_same = λ n. refl;
      taught_it = λ mac ip tcp is. teaches_all mac ip tcp (arrives (LinkRead asked answer octets) (made ++ past))
          ((λ i. packet_of config (quiet_before.clock i) (quiet_before.waits i) (arrives (LinkRead asked answer octets) (made ++ past))) ∙ is);
    }
  where
    passed : (on : Bool) → IsLast (all_wanted wants (item ∷ items)) (agenda (made ++ past)) → IsLast (all_wanted wants items)
        (if on then from TheLink (agenda (made ++ past)) else behind TheLink (agenda (made ++ past)))
    passed true last = skipped (wanted_of wants item) (all_wanted wants items) (from TheLink (agenda (made ++ past)))
        (from_of TheLink (wanted_of wants item) (all_wanted wants items) (agenda (made ++ past)) reads_it last)
    passed false last = behind_of TheLink (wanted_of wants item) (all_wanted wants items) (agenda (made ++ past)) reads_it last

    stands : (o : Option Ending) → phase_after (LinkRead asked answer octets) o Working ≡ over_by o
    stands None = refl
    stands (Some why) = refl

    teaches : (o : Option (List ℕ)) (pairs : List (Ip4 × Mac)) → with_arrival
        (option_map (arrival_of config (moment (made ++ past)) (waiting config (made ++ past))) o) pairs ≡ with_frame config o pairs
    teaches None pairs = refl
    teaches (Some frame) pairs = teaches_same config frame pairs

    sets_out : (o : Option (List ℕ)) → errand_left config (made ++ past) ≡ None
        → errand_after config (LinkRead asked answer octets) (option_map (arrival_of config (moment (made ++ past)) (waiting config (made ++ past))) o)
        (errand_left config (made ++ past)) ≡ errand_by_packet config (packet_of config (moment (made ++ past)) (waiting config (made ++ past)) o)
    sets_out None is = is
    sets_out (Some frame) is = refl

    owes : (o : Option (List ℕ)) → left config (made ++ past) ≡ []
        → left_after config (made ++ past) (happens config (made ++ past) (LinkRead asked answer octets))
        (option_map (arrival_of config (moment (made ++ past)) (waiting config (made ++ past))) o) (ledger config (made ++ past))
        ≡ frames_of config (identification (made ++ past)) (owed_for_packet config (serving config (made ++ past))
        (strays config (book config ((LinkRead asked answer octets) ∷ (made ++ past))) (packet_of config (moment (made ++ past)) (waiting config (made ++ past)) o))
        (packet_of config (moment (made ++ past)) (waiting config (made ++ past)) o))
    owes None is = is
    owes (Some frame) is = refl

    seeks : (o : Option (List ℕ)) → files_after config (made ++ past) (happens config (made ++ past) (LinkRead asked answer octets))
        (option_map (arrival_of config (moment (made ++ past)) (waiting config (made ++ past))) o) (ledger config (made ++ past))
        ≡ files_by_packet config (serving config (made ++ past)) (packet_of config (moment (made ++ past)) (waiting config (made ++ past)) o)
    seeks None = refl
    seeks (Some frame) = refl

    lends : (o : Option (List ℕ)) (l : List Lease) → leases_by config (moment (made ++ past)) (option_map (arrival_of config (moment (made ++ past)) (waiting config (made ++ past))) o) l
        ≡ leases_by_packet config (moment (made ++ past)) (packet_of config (moment (made ++ past)) (waiting config (made ++ past)) o) l
    lends None l = refl
    lends (Some frame) l = refl

    nothing : (o : Option (List ℕ)) → segment_by (packet_of config (moment (made ++ past)) (waiting config (made ++ past)) o) ≡ None → doing_by
        (option_map (arrival_of config (moment (made ++ past)) (waiting config (made ++ past))) o) None (LinkRead asked answer octets) ≡ Nothing
    nothing None none = refl
    nothing (Some frame) none = ap comes none

    something : (o : Option (List ℕ)) (on : OnTuple) → segment_by (packet_of config (moment (made ++ past)) (waiting config (made ++ past)) o) ≡ Some on → doing_by
        (option_map (arrival_of config (moment (made ++ past)) (waiting config (made ++ past))) o) None (LinkRead asked answer octets) ≡ ComesOn on
    something None on came = cc
    something (Some frame) on came = ap comes came

    teaches_all : (mac : List ℕ) (ip : Ip) (tcp : Tcp) (o : Option (List ℕ)) → packet_of config (moment (made ++ past)) (waiting config (made ++ past)) o ≡ Segment mac ip tcp
        → Contains (taught_by (option_map (arrival_of config (moment (made ++ past)) (waiting config (made ++ past))) o) (taught config (made ++ past))) (record { 0 = ip.from }, record { 0 = mac })
    teaches_all mac ip tcp None is = cc
    teaches_all mac ip tcp (Some frame) is =
        subst (λ p. Contains (taught_pair p (taught config (made ++ past))) (record { 0 = ip.from }, record { 0 = mac }))
        (sym (teaches_sender config (moment (made ++ past)) (waiting config (made ++ past)) mac ip tcp frame is)) (0, omega arith, refl)

    puts : (new : SlirpState) (o : Option (List ℕ)) → arrives (LinkRead asked answer octets) (made ++ past) ≡ o → KeepsParts config slirp new o → moment
        (made ++ past) ≡ slirp.moment → OfFragments config slirp (made ++ past) → OfFragments config new ((LinkRead asked answer octets) ∷ (made ++ past))
    puts new None came keeps at was = fragments_stay config slirp new (LinkRead asked answer octets) (made ++ past) came keeps was
    puts new (Some frame) came keeps at was = fragments_take config slirp new (LinkRead asked answer octets) (made ++ past) frame came refl (sym at) was (keeps was.held was.is_held)
newest config count wants item items slirp kept wait reads_it (_ ∷ made) past reads framed q lawful = absurd reads.0

module _ (config : Config) (count : ℕ) (wants : List Want) (item : Want) (items : List Want) (reads_it : is_to_read TheLink (wanted_of wants item) ≡ true)
    (slirp : SlirpState) (kept : Kept) (old new : LinkState) (answer : Arrived) (no_packet : slirp.pending ≡ []) (out : old.tail ≡ [])
    (made past : List Entry) (allowed : AreAllowed made) (read : (past : List Entry) → Keeps old past → Keeps new (made ++ past) × ReadsFrame answer new made past)
    (holds : Holds config (standing count wants (item ∷ items)) slirp (flowing false kept) old past) where
  reported_in_turn : InTurn config past
  reported_in_turn = in_turn holds.stands (λ u. nothing_last (agenda past) u.unreported holds.agenda)
    where
      nothing_last : (all : List Want) → all ≡ [] → IsLast (all_wanted wants (item ∷ items)) all → ⊥
      nothing_last all none ([], is) = cc (sym is ∙ none)
      nothing_last all none ((x ∷ before), is) = cc (sym is ∙ none)

  abbrev wait : List PartSet
  wait = waiting config past

  all : Newest config count wants item items slirp kept wait (made ++ past)
  all =
      let r = read past holds.keeps in
      newest config count wants item items slirp kept wait reads_it made past r.1.reads r.0.framed (record {
        turn = reported_in_turn;
        reported = holds.agenda;
        open_yet = holds.open_yet;
        sent_is = holds.answers.sent;
        none = nothing_left config false slirp past no_packet holds.answers.owed;
        out = holds.keeps.rest ∙ out;
        known_is = holds.guests.known;
        counted = holds.clock.counted;
        list = holds.relayed.list;
        named = holds.relayed.questions;
        heard = holds.relayed.heard;
        unasked = errand_for config NeedsNothing None slirp past holds.relayed;
        clock = holds.clock.moment;
        fragments = holds.guests.fragments;
        waits = refl;
        serves = holds.services;
        idle = (of_left config false slirp past no_packet holds.answers.owed).again;
        files = (of_left config false slirp past no_packet holds.answers.owed).files;
        flows = holds.flows;
        sockets = holds.sockets;
      }) holds.lawful

  -- the ports of the host that are given to guests are as they were
  forwards_then : AreInForce config slirp.forwards (made ++ past)
  forwards_then = read_in_force config slirp.forwards made past (read past holds.keeps).1.reads holds.forwards

  -- the packet that came, if one did
  abbrev pub packet : Packet
  packet = packet_of config slirp.moment wait (hands answer new)

  arrived_is : packet_of config slirp.moment wait (arrived (made ++ past)) ≡ packet
  arrived_is = ap (packet_of config slirp.moment wait) (read past holds.keeps).1.frame

  -- no segment of TCP, and nothing for the server of files: what it owes is owed from now on
  pub read_on : (new_slirp : SlirpState) → ending_of answer ≡ None → KeepsParts config slirp new_slirp (hands answer new) → segment_by packet ≡ None → file_in (request_by_packet config packet) ≡ None
      → new_slirp ≡ after_packet config slirp packet (hands answer new) new_slirp.fragments
      → HoldsAt config (standing count wants items) (asked_by config slirp (errand_by_packet config packet)) new_slirp (flowing false kept) new (made ++ past)
  read_on new_slirp goes_on keeps none unserved is =
      let r = read past holds.keeps in
      let then_is = after_packet config slirp packet (hands answer new) new_slirp.fragments in
      let was = all.quiet_flows (ap segment_by arrived_is ∙ none) in
      let unsought : (serving config (made ++ past)).files ≡ settled slirp.transfers = all.files_is ∙ ap (files_by_packet config (serving_of slirp)) arrived_is
      ∙ resolves_nothing config (serving_of slirp) packet unserved in
      subst (λ (s : SlirpState). HoldsAt config (standing count wants items) (asked_by config slirp (errand_by_packet config packet)) s (flowing false kept) new (made ++ past)) (sym is) (record {
        lawful = all.lawful;
        allowed = allowed_then made past allowed holds.allowed;
        keeps = r.0;
        answers = record {
          sent = all.sent_is;
          owed = owed_at (asked_by config slirp (errand_by_packet config packet)) config false then_is (made ++ past) (record {
            left = all.left_is ∙ ap (λ p. frames_of config slirp.sent (owed_for_packet config (serving_of slirp) (strays config (book config (made ++ past)) p) p)) arrived_is
                ∙ ap (frames_of config slirp.sent) (owed_once config (serving_of slirp) (strays config (book config (made ++ past)) packet) packet none unserved);
            again = all.idle;
            files = sym (ap (λ (k : Files). k.transfers) unsought);
          });
        };
        guests = guests_learn config slirp then_is (hands answer new) (made ++ past) holds.guests.settings
            (all.known_is ∙ ap (λ o. with_frame config o slirp.known) r.1.frame) refl refl
            (all.fragments then_is (subst (λ o. KeepsParts config slirp then_is o) (sym r.1.frame) (kept_as (hands answer new) new_slirp keeps)));
        relayed = record { list = all.list; questions = all.named; asks = ap (asked_by config slirp) (all.asks ∙ ap (errand_by_packet config) arrived_is); heard = all.heard };
        services = record { leases = all.leased ∙ ap (λ p. leases_by_packet config slirp.moment p slirp.leases) arrived_is; quest = ap (λ (k : Files). k.quest) unsought };
        forwards = forwards_then;
        flows = record { holds = was.holds; asked = was.asked; settings = was.settings; unit = was.unit };
        sockets = all.sockets;
        clock = record { moment = all.clock; counted = all.counted };
        stands = Turns (record { working = all.phase_is ∙ ap over_by (r.1.last ∙ goes_on); waited = all.waited });
        agenda = all.reported;
        open_yet = all.open_yet;
      })
    where
      kept_as : (o : Option (List ℕ)) (other : SlirpState) → KeepsParts config slirp other o
          → KeepsParts config slirp (after_packet config slirp packet (hands answer new) other.fragments) o
      kept_as None other keeps = keeps
      kept_as (Some frame) other keeps = keeps

  -- a segment of TCP, which is still to be heard
  pub read_segment : (new_slirp : SlirpState) (mac : List ℕ) (ip : Ip) (tcp : Tcp) → ending_of answer ≡ None → KeepsParts config slirp new_slirp (hands answer new) → packet ≡ Segment mac ip tcp
      → new_slirp ≡ record slirp { known = with_frame config (hands answer new) slirp.known; fragments = new_slirp.fragments }
      → Comes config (standing count wants items) new_slirp kept new (coming mac ip tcp) (made ++ past)
  read_segment new_slirp mac ip tcp goes_on keeps seg is =
      let r = read past holds.keeps in
      let then_is = record slirp { known = with_frame config (hands answer new) slirp.known; fragments = new_slirp.fragments } in
      let on = from_guest mac ip tcp in
      let q = all.quiet_is in
      let lawful_then = subst (Lawful config) all.is all.lawful in
      let work : phase config (made ++ past) ≡ Working = all.phase_is ∙ ap over_by (r.1.last ∙ goes_on) in
      let unasked : errand_left config (made ++ past) ≡ None = all.asks ∙ ap (errand_by_packet config) (arrived_is ∙ seg) in
      let unsought : (serving config (made ++ past)).files ≡ settled slirp.transfers = all.files_is ∙ ap (files_by_packet config (serving_of slirp)) (arrived_is ∙ seg) in
      subst (λ (s : SlirpState). Comes config (standing count wants items) s kept new (coming mac ip tcp) (made ++ past)) (sym is) (record {
        newest = all.e;
        before = all.before;
        is = all.is;
        brings = record {
          holds = q.flows.holds;
          asked = q.flows.asked;
          settings = q.flows.settings;
          lawful_before = all.lawful_before;
          lawful = lawful_then;
          work = subst (InWork config) all.is (record {
            working = work;
            errand = unasked;
            services = none_due_for_services config (made ++ past) all.heard
                (ap (λ (k : Files). k.quest) unsought);
            open_yet = all.open_yet;
          });
          at_before = q.clock;
          at = subst (λ l. moment l ≡ slirp.moment) all.is all.clock;
          comes = all.comes on (ap segment_by (arrived_is ∙ seg));
          tuple = refl;
          segment = refl;
          next = subst (λ l. next_number l ≡ slirp.number) all.is all.sockets.number ∙ sym q.sockets.number;
          sockets = subst (λ l. (n : ℕ) → joins l n ≡ joins all.before n) all.is all.joins_same;
        };
        allowed = allowed_then made past allowed holds.allowed;
        keeps = r.0;
        sent = all.sent_is;
        owed = all.left_is ∙ ap (λ p. frames_of config slirp.sent (owed_for_packet config (serving_of slirp) (strays config (book config (made ++ past)) p) p)) (arrived_is ∙ seg);
        none = no_packet;
        again = all.idle;
        files = sym (ap (λ (k : Files). k.transfers) unsought);
        guests = guests_learn config slirp then_is (hands answer new) (made ++ past) holds.guests.settings
            (all.known_is ∙ ap (λ o. with_frame config o slirp.known) r.1.frame) refl refl
            (all.fragments then_is (subst (λ o. KeepsParts config slirp then_is o) (sym r.1.frame) (kept_as (hands answer new) new_slirp keeps)));
        relayed = record { list = all.list; questions = all.named; asks = ap (asked_by config slirp) unasked; heard = all.heard };
        services = record { leases = all.leased ∙ ap (λ p. leases_by_packet config slirp.moment p slirp.leases) (arrived_is ∙ seg); quest = ap (λ (k : Files). k.quest) unsought };
        forwards = forwards_then;
        learnt = all.taught_it mac ip tcp (arrived_is ∙ seg);
        unit = holds.flows.unit;
        sockets = all.sockets;
        clock = record { moment = all.clock; counted = all.counted };
        turn = record { working = work; waited = all.waited };
        agenda = all.reported;
      })
    where
      kept_as : (o : Option (List ℕ)) (other : SlirpState) → KeepsParts config slirp other o
          → KeepsParts config slirp (record slirp { known = with_frame config (hands answer new) slirp.known; fragments = other.fragments }) o
      kept_as None other keeps = keeps
      kept_as (Some frame) other keeps = keeps

  -- a datagram for the server of files, which is still to be served
  pub read_file : (new_slirp : SlirpState) (d : Datagram) → ending_of answer ≡ None → KeepsParts config slirp new_slirp (hands answer new) → file_in (request_by_packet config packet) ≡ Some d
      → new_slirp ≡ after_packet config slirp packet (hands answer new) new_slirp.fragments
      → AsksFile config (standing count wants items) new_slirp kept new d (made ++ past)
  read_file new_slirp d goes_on keeps file is =
      let r = read past holds.keeps in
      let then_is = after_packet config slirp packet (hands answer new) new_slirp.fragments in
      let its = for_files config d packet file in
      let was = all.quiet_flows (ap segment_by (arrived_is ∙ its.packet)) in
      let unasked : errand_left config (made ++ past) ≡ None = all.asks ∙ ap (errand_by_packet config) (arrived_is ∙ its.packet) ∙ ap (errand_by d) its.datagram_verdict in
      subst (λ (s : SlirpState). AsksFile config (standing count wants items) s kept new d (made ++ past)) (sym is) (record {
        lawful = all.lawful;
        allowed = allowed_then made past allowed holds.allowed;
        keeps = r.0;
        sent = all.sent_is;
        outcome = all.files_is ∙ ap (files_by_packet config (serving_of slirp)) (arrived_is ∙ its.packet) ∙ ap (files_by_verdict config (serving_of slirp) d) its.datagram_verdict;
        owed = all.left_is ∙ ap (λ p. frames_of config slirp.sent (owed_for_packet config (serving_of slirp) (strays config (book config (made ++ past)) p) p)) (arrived_is ∙ its.packet)
            ∙ ap (λ f. frames_of config slirp.sent (owed_for_verdict config (serving_of slirp) d f)) its.datagram_verdict;
        none = ap (λ p. frames_of config slirp.sent (owed_with config (serving_of slirp) p)) its.packet ∙ ap
            (λ f. frames_of config slirp.sent (owed_at_once_by config (serving_of slirp) d f)) its.datagram_verdict;
        again = all.idle;
        guests = guests_learn config slirp then_is (hands answer new) (made ++ past) holds.guests.settings
            (all.known_is ∙ ap (λ o. with_frame config o slirp.known) r.1.frame) refl refl
            (all.fragments then_is (subst (λ o. KeepsParts config slirp then_is o) (sym r.1.frame) (kept_as (hands answer new) new_slirp keeps)));
        relayed = record { list = all.list; questions = all.named; asks = ap (asked_by config slirp) unasked; heard = all.heard };
        leases = all.leased ∙ ap (λ p. leases_by_packet config slirp.moment p slirp.leases) arrived_is;
        forwards = forwards_then;
        flows = record { holds = was.holds; asked = was.asked; settings = was.settings; unit = was.unit };
        sockets = all.sockets;
        clock = record { moment = all.clock; counted = all.counted };
        turn = record { working = all.phase_is ∙ ap over_by (r.1.last ∙ goes_on); waited = all.waited };
        agenda = all.reported;
        open_yet = all.open_yet;
      })
    where
      kept_as : (o : Option (List ℕ)) (other : SlirpState) → KeepsParts config slirp other o
          → KeepsParts config slirp (after_packet config slirp packet (hands answer new) other.fragments) o
      kept_as None other keeps = keeps
      kept_as (Some frame) other keeps = keeps

  -- the run has ended
  pub read_ends_it : (why : Ending) → ending_of answer ≡ Some why → hands answer new ≡ None
      → Ended config count why slirp.forwards (holders_with slirp kept) (made ++ past) × (next_number (made ++ past) ≡ slirp.number)
  read_ends_it why is none =
      let r = read past holds.keeps in
      let nothing : packet_of config slirp.moment wait (arrived (made ++ past)) ≡ Unheard = ap (packet_of config slirp.moment wait) (r.1.frame ∙ none) in
      let flows = all.quiet_flows (ap segment_by nothing) in (
        record {
          lawful = all.lawful;
          over = all.phase_is ∙ ap over_by (r.1.last ∙ is);
          waited = all.counted;
          errand = all.asks ∙ ap (errand_by_packet config) nothing;
          served = none_due_for_services config (made ++ past) all.heard (ap (λ (k : Files). k.quest) (all.files_is ∙ ap (files_by_packet config (serving_of slirp)) nothing));
          idle = flows.holds.asked;
          stay = flows_stay_open config (flowing false kept) slirp.moment (made ++ past) flows;
          sockets = open_by config slirp (flowing false kept) slirp.moment (made ++ past) all.lawful all.list all.named flows.holds all.sockets.kinds forwards_then;
          two = two_in config slirp (made ++ past) all.lawful all.list all.named;
        },
        all.sockets.number,
      )
