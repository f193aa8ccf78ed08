-- What is left to be sent is what is owed for what came last.
use Rattle.std.proofs.Common.{not, ◌≡◌, ℕ, zero, suc, ◌+◌, ◌-◌, ◌%◌, ◌^◌, ◌<◌, ◌≤◌, ◌==◌, ◌&&◌, ◌||◌, Bool, true, false, List, [], ◌∷◌, drop, length, bytes_eq, Option, Some, None}
use Rattle.std.specs.Option.{option_or}
use Rattle.std.proofs.Common.{cond, if◌then◌else◌, ◌⊎◌, inl, inr, refl, sym, ◌∙◌, ap, subst, arith, nat_lt, option_map}
use Rattle.std.proofs.lemmas.Bool.Decides.{nat_tests}
use Rattle.world_face.specs.Journal.{Entry, LinkRead, LinkWrite, Connect, UdpOpen, UdpSend, UdpRecv, FileLen, FileRead, call_of, Accept, Listen}
use Rattle.world_face.specs.Frames.{goes_out, opens, tail}
use Rattle.world_face.specs.declared.Io.{Io}
use Rattle.world_face.specs.declared.Io.TheVariants.{Done as IoDone, End, NotYet as IoNotYet, Failed as IoFailed}
use Rattle.world_face.specs.declared.Made.{Made}
use Rattle.world_face.specs.declared.Made.TheVariants.{Done as MadeDone, Failed as MadeFailed}
use Rattle.world_face.specs.declared.Sent.{Sent}
use Rattle.world_face.specs.declared.Sent.TheVariants.{Done as SentDone, NotYet as SentNotYet, Failed as SentFailed}
use Rattle.world_face.specs.declared.Got.{Got}
use Rattle.world_face.specs.declared.Got.TheVariants.{From, NotYet as GotNotYet, Failed as GotFailed}
use Rattle.net_octets.specs.declared.Endpoint.{Endpoint}
use Rattle.net_octets.specs.declared.Mac.{Mac}
use Rattle.arp_table.specs.Table.{mac_of as learnt_for}
use Rattle.slirp_settings.specs.Addresses.{Config}
use Rattle.ipv4_head.specs.Ip.{Ip}
use Rattle.icmp_echo.specs.Icmp.{Icmp, echo, unreachable, other}
use Rattle.spec_trace.specs.Happenings.{Arrival, happens, datagram_came}
use Rattle.spec_trace.specs.Moments.{waits}
use Rattle.spec_trace.specs.Packets.{Datagram, Packet, Unheard, ArpPacket, Message, DatagramPacket, Segment}
use Rattle.spec_trace.specs.Shape.{phase}
use Rattle.spec_trace.specs.Sockets.{next_number, Flow as OfFlow, Kind, Listener as OfListener, datagram_kind, is_forward, kind_of}
use Rattle.spec_trace.specs.Guests.{known, with_arrival}
use Rattle.spec_flows.specs.Book.{book}
use Rattle.spec_flows.specs.Segments.{OnTuple, from_guest}
use Rattle.spec_run.specs.Answers.{is_flows, starts, Answer, ArpAnswer, IpAnswer, Serving, again_frames, answers_of, begins_again, ledger, left_by_file, left_by_outcome, may_go_again}
use Rattle.spec_run.specs.Answers.{reply_on, served_file, serving, told_of_files, datagrams_in, datagrams_out, with_datagrams, frames_for, frames_of, identification, is_first, is_out}
use Rattle.spec_run.specs.Answers.{is_untold, left, left_after, no_network, owed_for_verdict, owed_for_icmp, owed_for_packet, reply_for, reset_for, taken, told_about, unconnected, unsent}
use Rattle.spec_run.specs.Datagrams.{Errand, DatagramVerdict, Ignored, Refused, ForLeases, ForFiles, GoesTo, datagram_verdict, Step, NeedsNothing, NeedsSocket, NeedsSending}
use Rattle.spec_run.specs.Asking.{step, step_of}
use Rattle.spec_run.specs.Errands.{errand_after, errand_by_call, errand_left}
use Rattle.spec_run.specs.Leasing.{sending_of}
use Rattle.spec_run.specs.Names.{questions}
use Rattle.rules_dns.specs.declared.Question.{Question}
use Rattle.rules_dns.specs.Questions.{is_answered, numbered as numbered_question}
use Rattle.rules_tftp.specs.Asking.{by_answer}
use Rattle.rules_tftp.specs.Transfers.{Outcome, Said}
use Rattle.rules_udp.specs.declared.Reply.{Reply}
use Rattle.rules_udp.specs.declared.Reply.TheVariants.{Nothing, Datagram as ADatagram, Unreachable}
use Rattle.spec_run.specs.Laws.{May, Lawful, may_begin}
use Rattle.spec_run.specs.Ports.{last_datagram, last_mac, mac_of, opened_for, mac_for, mac_known, port_for, given_port}
use Rattle.spec_run.specs.Said.{AnswersLast, IsRest, Occasion, NoOccasion, Came, Heard, HeardOfName, OfFile, Unsent, Unconnected, by_outcome, by_said, heard_on as heard_of}
use Rattle.spec_run.specs.Said.{for_guest, identification_with, last_occasion, occasion_after, owed_for, refused_or, unsent_or}
use Rattle.spec_run.specs.Sending.{is_beside}
use Rattle.spec_run.proofs.Bools.{equal_octets, second_of}
use Rattle.spec_run.proofs.Framing.{arp_frame, drop_next, drop_none, first_counts, frames_one, later_counts, part_of_frames}
use Rattle.spec_run.proofs.Joining.{none_early, settled_named}
use Rattle.spec_run.proofs.OpenSockets.{open_below, hears_on_open, peer_next}
use Rattle.spec_run.proofs.Phases.{asks_after_waits, comes_working, given_forward, has_waited, hears_settled, more_waits, opens as opened_where, sends, working_waited}
use Rattle.spec_run.proofs.Reading.{AllAnswers, SixAnswer, SixSaid, file_answer, six_again, six_occasion, six_owed}
use Rattle.spec_run.proofs.Steps.{Asks, errand_asks, errand_is, none_by_call}
use Rattle.spec_run.proofs.Uses.{drawn_on}

-- ---- one answer at most

one_if : (b : Bool) (a : Answer) → length (if b then a ∷ [] else []) ≤ 1
one_if true a = omega arith
one_if false a = omega arith

none_if : (b : Bool) (a : Answer) → length (if b then [] else a ∷ []) ≤ 1
none_if true a = omega arith
none_if false a = omega arith

list_if : (b : Bool) (answers : List Answer) → length answers ≤ 1 → length (if b then answers else []) ≤ 1
list_if true answers is = is
list_if false answers is = omega arith

one_echo : (mac : List ℕ) (ip : Ip) (message : Icmp) → length (owed_for_icmp mac ip message) ≤ 1
one_echo mac ip (echo true ident number body) = omega arith
one_echo mac ip (echo false ident number body) = omega arith
one_echo mac ip (unreachable code quoted) = omega arith
one_echo mac ip (other kind code) = omega arith

-- a reply is one datagram, and so is what is told of files
one_sending : (reply : Reply) (octets : List ℕ) → length (answers_of (sending_of reply octets)) ≤ 1
one_sending Nothing octets = omega arith
one_sending (ADatagram count from to None) octets = omega arith
one_sending (ADatagram count from to (Some mac)) octets = omega arith
one_sending (Unreachable code) octets = omega arith

one_told : (config : Config) (o : Option Said) → length (told_of_files config o) ≤ 1
one_told config None = omega arith
one_told config (Some said) = omega arith

one_verdict : (config : Config) (s : Serving) (d : Datagram) (what : DatagramVerdict) → length (owed_for_verdict config s d what) ≤ 1
one_verdict config s d Ignored = omega arith
one_verdict config s d Refused = none_if (is_untold config d) _
one_verdict config s d ForLeases = one_sending _ _
one_verdict config s d ForFiles = one_told config (served_file config s d).told
one_verdict config s d (GoesTo to) = omega arith

one_packet : (config : Config) (s : Serving) (stray : Bool) (packet : Packet) → length (owed_for_packet config s stray packet) ≤ 1
one_packet config s stray Unheard = omega arith
one_packet config s stray (ArpPacket arp) = one_if _ _
one_packet config s stray (Message mac ip message) = list_if _ (owed_for_icmp mac ip message) (one_echo mac ip message)
one_packet config s stray (DatagramPacket d) = one_verdict config s d (datagram_verdict config d)
one_packet config s stray (Segment mac ip tcp) = one_if stray (reset_for (from_guest mac ip tcp))

one_reply : (config : Config) (peer : Endpoint) (octets : List ℕ) (port : Option Endpoint) (mac : Option (List ℕ)) → length (reply_for config peer octets port mac) ≤ 1
one_reply config peer octets (Some guest) (Some mac) = none_if _ _
one_reply config peer octets (Some guest) None = none_if _ _
one_reply config peer octets None mac = omega arith

pub one_answer : (config : Config) (past : List Entry) (o : Occasion) → length (owed_for config past o) ≤ 1
one_answer config past NoOccasion = omega arith
one_answer config past (Came s stray packet) = one_packet config s stray packet
one_answer config past (HeardOfName q peer octets) = one_if (is_answered config.resolver q peer octets) _
one_answer config past (OfFile said) = one_told config (Some said)
one_answer config past (Heard socket peer octets) = one_reply config peer octets (opened_for config socket past) (mac_for config socket past)
one_answer config past (Unsent d) = none_if (is_untold config d) _
one_answer config past (Unconnected on) = omega arith

-- ---- nothing came before the first wait

came_by : (config : Config) (past : List Entry) (o : Option Arrival) (last : Option Datagram) → ((arrival : Arrival) → o ≡ Some arrival → 0 < waits past) → (last ≡ None) ⊎
    (0 < waits past) → (option_or (datagram_came o) last ≡ None) ⊎ (0 < waits past)
came_by config past None last waited before = before
came_by config past (Some arrival) last waited before = inr (waited arrival refl)

came_after_waits : (config : Config) (past : List Entry) → Lawful config past → (last_datagram config past ≡ None) ⊎ (0 < waits past)
came_after_waits config [] lawful = inl refl
came_after_waits config (e ∷ past) lawful =
    elim (came_by config past (happens config past e).came (last_datagram config past)
    (λ arrival is. working_waited (phase config past) (waits past) (comes_working config e past lawful.0 arrival is) (has_waited config past)) (came_after_waits config past lawful.1)) [
      | inl none ↦ inl none
      | inr waited ↦ inr (more_waits e past waited)
    ]

-- ---- what was received stays what it was

abbrev HeardWell : ℕ → Option Errand → Occasion → Type 0
HeardWell number errand (Heard socket peer octets) = (socket < number) × (errand ≡ None)
HeardWell number errand _ = Unit {0}

heard_on : (e : Entry) (past : List Entry) (errand : Option Errand) (o : Occasion) → HeardWell (next_number past) errand o → HeardWell (next_number (e ∷ past)) (errand_by_call e errand) o
heard_on e past errand NoOccasion is = tt
heard_on e past errand (Came s stray packet) is = tt
heard_on e past errand (HeardOfName q peer octets) is = tt
heard_on e past errand (OfFile said) is = tt
heard_on e past errand (Heard socket peer octets) is = (drawn_on e past socket is.0, ap (errand_by_call e) is.1 ∙ none_by_call e)
heard_on e past errand (Unsent d) is = tt
heard_on e past errand (Unconnected on) is = tt

not_new : (s socket number : ℕ) → (s == number) ≡ true → socket < number → (s == socket) ≡ false
not_new s socket number new drawn = grind (arith, nat_tests, new, drawn)

port_stays : (config : Config) (e : Entry) (past : List Entry) (socket : ℕ) → May config past (call_of e) → socket < next_number past → opened_for config socket
    (e ∷ past) ≡ opened_for config socket past
port_stays config (UdpOpen s at answer) past socket may drawn = ap (λ (b : Bool). if b then port_for config at.port socket past else opened_for config socket past)
    (not_new s socket (next_number past) may.socket drawn)
port_stays config _ past socket may drawn = refl

mac_stays : (config : Config) (e : Entry) (past : List Entry) (socket : ℕ) → May config past (call_of e) → socket < next_number past → errand_left config past ≡ None →
    mac_of config socket (e ∷ past) ≡ mac_of config socket past
mac_stays config (UdpOpen s at answer) past socket may drawn settled = ap (λ (b : Bool). if b then last_mac config past else mac_of config socket past)
    (not_new s socket (next_number past) may.socket drawn)
mac_stays config (UdpSend s to octets answer) past socket may drawn settled =
    let asked = sends config past s to octets may in
    let never : Some asked.errand ≡ None = sym (errand_is config past (NeedsSending s asked.errand) asked.asked) ∙ settled in
    cc
mac_stays config _ past socket may drawn settled = refl

kind_stays : (config : Config) (e : Entry) (past : List Entry) (socket : ℕ) → May config past (call_of e) → socket < next_number past → kind_of socket (e ∷ past) ≡ kind_of socket past
kind_stays config (Connect s to answer) past socket may drawn = ap (λ (b : Bool). if b then Some OfFlow else kind_of socket past) (not_new s socket (next_number past) may.socket drawn)
kind_stays config (Listen s at answer) past socket may drawn = ap (λ (b : Bool). if b then Some OfListener else kind_of socket past) (not_new s socket (next_number past) may.socket drawn)
kind_stays config (UdpOpen s at answer) past socket may drawn =
    ap (λ (b : Bool). if b then Some (datagram_kind (nat_lt 0 (waits past)) at.port) else kind_of socket past) (not_new s socket (next_number past) may.socket drawn)
kind_stays config (Accept listener s answer) past socket may drawn =
    ap (λ (b : Bool). if b then Some OfFlow else kind_of socket past) (not_new s socket (next_number past) (peer_next config past listener s answer may) drawn)
kind_stays config _ past socket may drawn = refl

known_stays : (config : Config) (e : Entry) (past : List Entry) (port : Option Endpoint) → known config (e ∷ past) ≡ known config past → mac_known config (e ∷ past) port ≡ mac_known config past port
known_stays config e past None same = refl
known_stays config e past (Some guest) same = ap (λ pairs. option_map (λ (m : Mac). m.0) (learnt_for guest.addr pairs)) same

reach_stays : (config : Config) (e : Entry) (past : List Entry) (socket : ℕ) → May config past (call_of e) → known config (e ∷ past) ≡ known config past →
    socket < next_number past → errand_left config past ≡ None
    → mac_for config socket (e ∷ past) ≡ mac_for config socket past
reach_stays config e past socket may same drawn settled =
    ap (λ (k : Option Kind). if is_forward k then mac_known config (e ∷ past) (opened_for config socket (e ∷ past)) else mac_of config socket (e ∷ past)) (kind_stays config e past socket may drawn)
    ∙ ap (λ (m : Option (List ℕ)). if is_forward (kind_of socket past) then m else mac_of config socket (e ∷ past))
    (known_stays config e past (opened_for config socket (e ∷ past)) same ∙ ap (mac_known config past) (port_stays config e past socket may drawn))
    ∙ ap (λ (m : Option (List ℕ)). if is_forward (kind_of socket past) then mac_known config past (opened_for config socket past) else m) (mac_stays config e past socket may drawn settled)

owed_stays : (config : Config) (e : Entry) (past : List Entry) (o : Occasion) → May config past (call_of e) → known config (e ∷ past) ≡ known config past → HeardWell
    (next_number past) (errand_left config past) o → owed_for config (e ∷ past) o ≡ owed_for config past o
owed_stays config e past NoOccasion may same well = refl
owed_stays config e past (Came s stray packet) may same well = refl
owed_stays config e past (HeardOfName q peer octets) may same well = refl
owed_stays config e past (OfFile said) may same well = refl
owed_stays config e past (Unsent d) may same well = refl
owed_stays config e past (Unconnected on) may same well = refl
owed_stays config e past (Heard socket peer octets) may same well =
    ap (λ port. reply_for config peer octets port (mac_for config socket (e ∷ past))) (port_stays config e past socket may well.0)
    ∙ ap (reply_for config peer octets (opened_for config socket past)) (reach_stays config e past socket may same well.0 well.1)

-- ---- what is left

-- the identification of an answer of which so many frames are out, where so many datagrams went out
abbrev pub ident_with : ℕ → ℕ → ℕ
ident_with zero out = out % 2 ^ 16
ident_with (suc k) out = (out - 1) % 2 ^ 16

-- nothing is left, or what is owed but for so many frames
abbrev pub IsOwed : Config → List Entry → List (List ℕ) → ℕ → Occasion → Type 0
IsOwed config past frames out o = (frames ≡ []) ⊎ ((k : ℕ) × (frames ≡ drop k (frames_of config (ident_with k out) (owed_for config past o))))

pub record Owing (config : Config) (past : List Entry) (frames : List (List ℕ)) (out : ℕ) (o : Occasion) (errand : Option Errand) : Type 0 where
  pub owed : IsOwed config past frames out o
  pub heard : HeardWell (next_number past) errand o

abbrev pub OwingAt : Config → List Entry → Type 0
OwingAt config past = Owing config past (left config past) (datagrams_out past) (last_occasion config past) (errand_left config past)

-- an entry that leaves it
unchanged : (config : Config) (e : Entry) (past : List Entry) → May config past (call_of e) → known config (e ∷ past) ≡ known config past → OwingAt config past
    → Owing config (e ∷ past) (left config past) (datagrams_out past) (last_occasion config past) (errand_by_call e (errand_left config past))
unchanged config e past may same is = record {
  owed = (elim is.owed [
    | inl none ↦ inl none
    | inr some ↦ inr (
      some.0,
      some.1 ∙ ap (λ a. drop some.0 (frames_of config (ident_with some.0 (datagrams_out past)) a))
          (sym (owed_stays config e past (last_occasion config past) may same is.heard)),
    )
  ]);
  heard = heard_on e past (errand_left config past) (last_occasion config past) is.heard;
}

by_read : (config : Config) (asked : ℕ) (answer : Io) (octets : List ℕ) (past : List Entry) (o : Option Arrival) → (happens config past (LinkRead asked answer octets)).came ≡ o →
    May config past (call_of (LinkRead asked answer octets)) → OwingAt config past
    → Owing config (LinkRead asked answer octets ∷ past) (left_after config past (happens config past (LinkRead asked answer octets)) o (ledger config past)) (datagrams_out past)
    (occasion_after config (LinkRead asked answer octets) past o (last_occasion config past)) (errand_after config (LinkRead asked answer octets) o (errand_left config past))
by_read config asked answer octets past None none may is = unchanged config (LinkRead asked answer octets) past may (ap (λ o. with_arrival o (known config past)) none) is
by_read config asked answer octets past (Some arrival) some may is = record { owed = inr (0, refl); heard = tt }

-- a frame went out
pub begins_with : (frame : List ℕ) (frames : List (List ℕ)) → is_first frame frames ≡ true → (rest : List (List ℕ)) × (frames ≡ frame ∷ rest)
begins_with frame [] is = cc
begins_with frame (first ∷ rest) is = (rest, ap (λ f. f ∷ rest) (sym (equal_octets frame first is)))

-- of one answer, so many of whose frames are out, this one went
one_went : (config : Config) (k out : ℕ) (a : Answer) (frame : List ℕ) (rest : List (List ℕ)) → 28 ≤ config.mtu → SixAnswer a → drop k (frames_for config (ident_with k out) a) ≡ frame ∷ rest
    → (rest ≡ []) ⊎ ((j : ℕ) × (rest ≡ drop j (frames_for config (ident_with j (datagrams_in frame + out)) a)))
one_went config k out (ArpAnswer to arp) frame rest fits six is = inl (arp_frame config (ident_with k out) to arp frame rest k is).0
one_went config zero out (IpAnswer to proto from guest body) frame rest fits six is =
    let one = first_counts config (out % 2 ^ 16) to proto from guest body frame fits six (part_of_frames config (out % 2 ^ 16) to proto from guest body frame rest 0 is) in
    let same : out % 2 ^ 16 ≡ (datagrams_in frame + out - 1) % 2 ^ 16 = ap (λ n. n % 2 ^ 16) (omega (arith, one)) in
    inr (1, sym (drop_next 0 (frames_for config (out % 2 ^ 16) (IpAnswer to proto from guest body)) rest frame is) ∙ ap (λ i. drop 1 (frames_for config i (IpAnswer to proto from guest body))) same)
one_went config (suc k) out (IpAnswer to proto from guest body) frame rest fits six is =
    let ident = (out - 1) % 2 ^ 16 in
    let none = later_counts config ident to proto from guest body frame k fits six (part_of_frames config ident to proto from guest body frame rest (suc k) is) in
    let same : ident ≡ (datagrams_in frame + out - 1) % 2 ^ 16 = ap (λ n. n % 2 ^ 16) (omega (arith, none)) in
    inr (
      suc (suc k),
      sym (drop_next (suc k) (frames_for config ident (IpAnswer to proto from guest body)) rest frame is) ∙ ap
          (λ i. drop (suc (suc k)) (frames_for config i (IpAnswer to proto from guest body))) same,
    )

-- what was owed is one answer, where a frame of it is left
pub record OfOne (config : Config) (answers : List Answer) (k ident : ℕ) (frame : List ℕ) (rest : List (List ℕ)) : Type 0 where
  pub answer : Answer
  pub only : answers ≡ answer ∷ []
  pub is : drop k (frames_for config ident answer) ≡ frame ∷ rest

of_one : (config : Config) (answers : List Answer) (k ident : ℕ) (frame : List ℕ) (rest : List (List ℕ)) → length answers ≤ 1 → drop k (frames_of config ident answers) ≡ frame
    ∷ rest → OfOne config answers k ident frame rest
of_one config [] k ident frame rest few is = let never : [] ≡ frame ∷ rest = sym (drop_none k) ∙ is in cc
of_one config (a ∷ []) k ident frame rest few is = record { answer = a; only = refl; is = ap (drop k) (sym (frames_one config ident a)) ∙ is }
of_one config (a ∷ b ∷ answers) k ident frame rest few is = absurd (omega (arith, few))

one_six : (answers : List Answer) (a : Answer) → answers ≡ a ∷ [] → AllAnswers SixAnswer answers → SixAnswer a
one_six answers a is all = (subst (AllAnswers SixAnswer) is all).0

pub out_six : (config : Config) (past : List Entry) (a : Answer) → owed_for config past (last_occasion config past) ≡ a ∷ [] → SixAnswer a
out_six config past a is = one_six (owed_for config past (last_occasion config past)) a is (six_owed config past (last_occasion config past) (six_occasion config past))

-- what went is of what was owed
went : (config : Config) (past : List Entry) (frames : List (List ℕ)) (frame : List ℕ) → 28 ≤ config.mtu → is_first frame frames ≡ true → IsOwed config past frames
    (datagrams_out past) (last_occasion config past)
    → IsOwed config past (drop 1 frames) (datagrams_in frame + datagrams_out past) (last_occasion config past)
went config past frames frame fits first is =
    let b = begins_with frame frames first in
    let out = datagrams_out past in
    let owed = owed_for config past (last_occasion config past) in
    elim is [
      | inl none ↦ (let never : is_first frame [] ≡ true = subst (λ l. is_first frame l ≡ true) none first in cc)
      | inr some ↦ (let o = of_one config owed some.0 (ident_with some.0 out) frame b.0 (one_answer config past (last_occasion config past)) (sym some.1 ∙ b.1) in
          elim (one_went config some.0 out o.answer frame b.0 fits (out_six config past o.answer o.only) o.is) [
            | inl over ↦ inl (ap (drop 1) b.1 ∙ over)
            | inr on ↦ (let as_one : frames_for config (ident_with on.0 (datagrams_in frame + out)) o.answer ≡ frames_of config (ident_with on.0 (datagrams_in frame + out)) owed =
                sym (frames_one config (ident_with on.0 (datagrams_in frame + out)) o.answer) ∙ ap (frames_of config (ident_with on.0 (datagrams_in frame + out))) (sym o.only) in
                inr (on.0, ap (drop 1) b.1 ∙ on.1 ∙ ap (drop on.0) as_one))
          ])
    ]

-- a frame begins that is the first that is left, or one beside the answer
pub data Begins (config : Config) (past : List Entry) (frame : List ℕ) : Type 0 where
  Next : is_first frame (left config past) ≡ true → Begins config past frame
  Beside : left config past ≡ [] → is_beside config past frame ≡ true → Begins config past frame

no_frame : (frames : List (List ℕ)) → is_out frames ≡ true → frames ≡ []
no_frame [] is = refl
no_frame (frame ∷ frames) is = cc

by_either : (config : Config) (past : List Entry) (frame : List ℕ) (first out beside : Bool) → is_first frame (left config past) ≡ first → is_out (left config past) ≡ out →
    is_beside config past frame ≡ beside
    → (first || (out && beside)) ≡ true → Begins config past frame
by_either config past frame true out beside is over why may = Next is
by_either config past frame false true true is over why may = Beside (no_frame (left config past) over) why
by_either config past frame false true false is over why may = cc
by_either config past frame false false beside is over why may = cc

begins_so : (config : Config) (past : List Entry) (octets : List ℕ) → tail past ≡ [] → may_begin config past (tail past) octets ≡ true → Begins config past (drop 4 octets)
begins_so config past octets clear may =
    by_either config past (drop 4 octets) (is_first (drop 4 octets) (left config past)) (is_out (left config past)) (is_beside config past (drop 4 octets)) refl refl refl
    (subst (λ t. may_begin config past t octets ≡ true) clear may)

owed_later : (config : Config) (e : Entry) (past : List Entry) (frames : List (List ℕ)) (out : ℕ) → May config past (call_of e) → known config (e ∷ past) ≡ known config past →
    HeardWell (next_number past) (errand_left config past) (last_occasion config past)
    → IsOwed config past frames out (last_occasion config past) → IsOwed config (e ∷ past) frames out (last_occasion config past)
owed_later config e past frames out may same heard is = elim is [
  | inl none ↦ inl none
  | inr some ↦ inr (some.0, some.1 ∙ ap (λ a. drop some.0 (frames_of config (ident_with some.0 out) a)) (sym (owed_stays config e past (last_occasion config past) may same heard)))
]

-- a packet of a file that goes again has one answer, of which this frame is the first
again_went : (config : Config) (later : List Entry) (out : ℕ) (frame : List ℕ) (o : Option Said) (before : Occasion) → 28 ≤ config.mtu → SixSaid o → is_first frame
    (frames_of config (out % 2 ^ 16) (told_of_files config o)) ≡ true
    → IsOwed config later (drop 1 (frames_of config (out % 2 ^ 16) (told_of_files config o))) (datagrams_in frame + out) (by_said o before)
again_went config later out frame None before fits six first = cc
again_went config later out frame (Some said) before fits six first =
    let answer : Answer = file_answer config said in
    let b = begins_with frame (frames_of config (out % 2 ^ 16) (told_of_files config (Some said))) first in
    elim (one_went config 0 out answer frame b.0 fits six (sym (frames_one config (out % 2 ^ 16) answer) ∙ b.1)) [
      | inl over ↦ inl (ap (drop 1) b.1 ∙ over)
      | inr on ↦ inr (on.0, ap (drop 1) b.1 ∙ on.1 ∙ ap (drop on.0) (sym (frames_one config (ident_with on.0 (datagrams_in frame + out)) answer)))
    ]

module _ (config : Config) (past : List Entry) (octets : List ℕ) (answer : Io) (fits : 28 ≤ config.mtu) (may : May config past (call_of (LinkWrite octets answer))) (is : OwingAt config past) where
  abbrev e : Entry
  e = LinkWrite octets answer

  abbrev again : List (List ℕ)
  again = again_frames config (identification past) (serving config past)

  -- what is left after a frame, and the occasion of it
  abbrev AfterFrame : List ℕ → List (List ℕ) → Type 0
  AfterFrame frame frames =
      IsOwed config (e ∷ past) (taken (Some frame) again frames) (datagrams_in frame + datagrams_out past)
      (if is_out frames && starts frame again then by_said (may_go_again (serving config past)) (last_occasion config past) else last_occasion config past)

  by_again : (frame : List ℕ) (b : Bool) → starts frame again ≡ b
      → IsOwed config (e ∷ past) (if b then drop 1 again else []) (datagrams_in frame + datagrams_out past) (if b then by_said (may_go_again (serving config past))
      (last_occasion config past) else last_occasion config past)
  by_again frame true first = again_went config (e ∷ past) (datagrams_out past) frame (may_go_again (serving config past)) (last_occasion config past) fits (six_again config past)
      (second_of (not (is_flows frame)) (is_first frame again) first)
  by_again frame false first = inl refl

  by_frame : (frame : List ℕ) (frames : List (List ℕ)) → left config past ≡ frames → Begins config past frame → AfterFrame frame frames
  by_frame frame [] nothing begins = by_again frame (starts frame again) refl
  by_frame frame (f ∷ rest) some (Beside none beside) = let never : [] ≡ f ∷ rest = sym none ∙ some in cc
  by_frame frame (f ∷ rest) some (Next first) =
      let here : is_first frame (f ∷ rest) ≡ true = subst (λ l. is_first frame l ≡ true) some first in
      let took : (if bytes_eq frame f then rest else f ∷ rest) ≡ rest = ap (λ (b : Bool). if b then rest else f ∷ rest) here in
      subst (λ l. IsOwed config (e ∷ past) l (datagrams_in frame + datagrams_out past) (last_occasion config past)) (sym took)
      (owed_later config e past rest (datagrams_in frame + datagrams_out past) may refl is.heard
      (went config past (f ∷ rest) frame fits here (subst (λ l. IsOwed config past l (datagrams_out past) (last_occasion config past)) some is.owed)))

  -- where none goes out
  by_none : IsOwed config (e ∷ past) (left config past) (datagrams_out past) (last_occasion config past)
  by_none = (unchanged config e past may refl is).owed

by_write : (config : Config) (past : List Entry) (octets : List ℕ) (answer : Io) (t : List ℕ) → 28 ≤ config.mtu → tail past ≡ t → May config past
    (call_of (LinkWrite octets answer)) → OwingAt config past
    → IsOwed config (LinkWrite octets answer ∷ past) (taken (opens (LinkWrite octets answer) t) (again_frames config (identification past) (serving config past)) (left config past))
    (with_datagrams (opens (LinkWrite octets answer) t) (datagrams_out past))
    (if begins_again config (identification past) (ledger config past) (opens (LinkWrite octets answer) t) then by_said (may_go_again (serving config past))
    (last_occasion config past) else last_occasion config past)
by_write config past octets answer (x ∷ rest) fits clear may is = by_none config past octets answer fits may is
by_write config past octets (IoDone n) [] fits clear may is = by_frame config past octets (IoDone n) fits may is (drop 4 octets) (left config past) refl
    (begins_so config past octets clear may.answered)
by_write config past octets End [] fits clear may is = by_none config past octets End fits may is
by_write config past octets IoNotYet [] fits clear may is = by_none config past octets IoNotYet fits may is
by_write config past octets IoFailed [] fits clear may is = by_none config past octets IoFailed fits may is

-- a datagram could get no socket, or couldn't be sent
told : (config : Config) (e : Entry) (past : List Entry) (step : Step) (frames : List (List ℕ)) (last : Option Datagram) (o : Occasion) (d : Datagram)
    → unsent config (identification past) step frames ≡ frames_of config (identification past) (told_about config no_network d)
    → last ≡ Some d → IsOwed config (e ∷ past) (unsent config (identification past) step frames) (datagrams_out past) (unsent_or last o)
told config e past step frames last o d is came =
    inr (0, is ∙ sym (ap (λ l. frames_of config (identification past) (owed_for config (e ∷ past) (unsent_or l o))) came))

unsent_well : (number : ℕ) (errand : Option Errand) (last : Option Datagram) (o : Occasion) → HeardWell number errand o → HeardWell number errand (unsent_or last o)
unsent_well number errand None o is = is
unsent_well number errand (Some d) o is = tt

by_open : (config : Config) (past : List Entry) (socket : ℕ) (at : Endpoint) (answer : Made) → May config past (call_of (UdpOpen socket at answer)) → Lawful config past →
    OwingAt config past → OwingAt config (UdpOpen socket at answer ∷ past)
by_open config past socket at MadeDone may lawful is = unchanged config (UdpOpen socket at MadeDone) past may refl is
by_open config past socket at MadeFailed may lawful is = record {
  owed = owed_then (at.port == 0) refl;
  heard = unsent_well (next_number (e ∷ past)) None (for_guest at.port (last_datagram config past)) (last_occasion config past) (unchanged config e past may refl is).heard;
}
  where
    e : Entry
    e = UdpOpen socket at MadeFailed

    asks : (errand : Errand) → errand_left config past ≡ Some errand → Asks config (last_datagram config past) errand
    asks errand is = errand_asks config past errand is

    none_yet : waits past ≡ 0 → last_datagram config past ≡ None
    none_yet early = elim (came_after_waits config past lawful) [ inl none ↦ none | inr waited ↦ absurd (omega (arith, early, waited)) ]

    Then : Option Datagram → Type 0
    Then last = IsOwed config (UdpOpen socket at MadeFailed ∷ past) (unsent config (identification past) (step config past) (left config past)) (datagrams_out past)
        (unsent_or last (last_occasion config past))

    quiet : step config past ≡ NeedsNothing → Then None
    quiet settled =
        subst (λ s. IsOwed config (UdpOpen socket at MadeFailed ∷ past) (unsent config (identification past) s (left config past)) (datagrams_out past) (last_occasion config past)) (sym settled)
        (unchanged config (UdpOpen socket at MadeFailed) past may refl is).owed

    clash : (b : Bool) → b ≡ true → b ≡ false → ⊥
    clash true one two = cc
    clash false one two = cc

    of_guest : (at.port == 0) ≡ true → Then (last_datagram config past)
    of_guest any = elim (opened_where config past socket at may) [
      | inl early ↦ subst Then (sym (none_yet early.0)) (quiet (ap (step_of config past) (none_early (waits past) (errand_left config past) early.0 (asks_after_waits config past lawful))))
      | inr later ↦ elim later [
        | inl o ↦ told config e past (step config past) (left config past) (last_datagram config past) (last_occasion config past) o.errand.datagram
            (ap (λ s. unsent config (identification past) s (left config past)) o.asked) (asks o.errand (errand_is config past (NeedsSocket o.errand) o.asked)).datagram
        | inr given ↦ absurd (clash (at.port == 0) any (given_forward config past socket at (given_port config socket) given.is).named)
      ]
    ]

    owed_then : (b : Bool) → (at.port == 0) ≡ b → Then (for_guest at.port (last_datagram config past))
    owed_then true any = subst (λ (b : Bool). Then (cond b (last_datagram config past) None)) (sym any) (of_guest any)
    owed_then false named = subst (λ (b : Bool). Then (cond b (last_datagram config past) None)) (sym named) (quiet (settled_named config past socket at lawful may named))

by_send : (config : Config) (past : List Entry) (socket : ℕ) (to : Endpoint) (octets : List ℕ) (answer : Sent) → May config past (call_of (UdpSend socket to octets answer)) →
    OwingAt config past → OwingAt config (UdpSend socket to octets answer ∷ past)
by_send config past socket to octets SentDone may is = unchanged config (UdpSend socket to octets SentDone) past may refl is
by_send config past socket to octets SentNotYet may is = unchanged config (UdpSend socket to octets SentNotYet) past may refl is
by_send config past socket to octets SentFailed may is =
    let s = sends config past socket to octets may in
    let asks : Asks config (last_datagram config past) s.errand = errand_asks config past s.errand (errand_is config past (NeedsSending socket s.errand) s.asked) in
    record {
      owed = told config (UdpSend socket to octets SentFailed) past (step config past) (left config past) (last_datagram config past) (last_occasion config past) s.errand.datagram
          (ap (λ step. unsent config (identification past) step (left config past)) s.asked) asks.datagram;
      heard = unsent_well (next_number past) None (last_datagram config past) (last_occasion config past) (unchanged config (UdpSend socket to octets SentFailed) past may refl is).heard;
    }

-- a peer's datagram was received
by_hearing : (config : Config) (past : List Entry) (socket asked : ℕ) (answer : Got) (octets : List ℕ) → May config past (call_of (UdpRecv socket asked answer octets)) →
    Lawful config past → OwingAt config past → OwingAt config (UdpRecv socket asked answer octets ∷ past)
by_hearing config past socket asked (From peer n) octets may lawful is = by (numbered_question socket (questions config past))
  where
    by : (o : Option Question) → Owing config (UdpRecv socket asked (From peer n) octets ∷ past)
        (frames_of config (identification past) (reply_on config past socket peer octets o)) (datagrams_out past) (heard_of socket peer octets o) (errand_left config past)
    by None = record {
      owed = inr (0, refl);
      heard = (open_below config past lawful socket (hears_on_open config past socket asked may.socket), errand_is config past NeedsNothing (hears_settled config past socket asked may));
    }
    by (Some q) = record { owed = inr (0, refl); heard = tt }
by_hearing config past socket asked GotNotYet octets may lawful is = unchanged config (UdpRecv socket asked GotNotYet octets) past may refl is
by_hearing config past socket asked GotFailed octets may lawful is = unchanged config (UdpRecv socket asked GotFailed octets) past may refl is

-- the host refused a connection at once
by_connecting : (config : Config) (past : List Entry) (socket : ℕ) (to : Endpoint) (answer : Made) → May config past (call_of (Connect socket to answer)) → OwingAt config past →
    OwingAt config (Connect socket to answer ∷ past)
by_connecting config past socket to MadeDone may is = unchanged config (Connect socket to MadeDone) past may refl is
by_connecting config past socket to MadeFailed may is = by_came (book config past).came
  where
    by_came : (o : Option OnTuple)
        → Owing config (Connect socket to MadeFailed ∷ past) (unconnected config (identification past) o (left config past)) (datagrams_out past)
        (refused_or o (last_occasion config past)) (errand_left config past)
    by_came None = unchanged config (Connect socket to MadeFailed) past may refl is
    by_came (Some on) = record { owed = inr (0, refl); heard = tt }

-- a file's answer made a packet, or none
said_well : (number : ℕ) (errand : Option Errand) (b : Bool) (o : Option Said) (before : Occasion) → HeardWell number errand before → HeardWell number errand (if b then by_said o before else before)
said_well number errand true None before is = is
said_well number errand true (Some said) before is = tt
said_well number errand false o before is = is

by_file : (config : Config) (e : Entry) (past : List Entry) (o : Option Outcome) → May config past (call_of e) → known config (e ∷ past) ≡ known config past → OwingAt config past
    → Owing config (e ∷ past) (left_by_outcome config (identification past) o (left config past)) (datagrams_out past) (by_outcome o (last_occasion config past))
    (errand_by_call e (errand_left config past))
by_file config e past None may same is = unchanged config e past may same is
by_file config e past (Some o) may same is = by o.told
  where
    by : (told : Option Said) → Owing config (e ∷ past) (left_by_file config (identification past) told (left config past)) (datagrams_out past)
        (by_said told (last_occasion config past)) (errand_by_call e (errand_left config past))
    by None = unchanged config e past may same is
    by (Some said) = record { owed = inr (0, refl); heard = tt }

owing_by : (config : Config) (e : Entry) (past : List Entry) → 28 ≤ config.mtu → May config past (call_of e) → Lawful config past → OwingAt config past → OwingAt config (e ∷ past)
owing_by config (LinkRead asked answer octets) past fits may lawful is = by_read config asked answer octets past (happens config past (LinkRead asked answer octets)).came refl may is
owing_by config (LinkWrite octets answer) past fits may lawful is = record {
  owed = by_write config past octets answer (tail past) fits refl may is;
  heard = said_well (next_number past) (errand_left config past) (begins_again config (identification past) (ledger config past) (goes_out (LinkWrite octets answer) past))
      (may_go_again (serving config past)) (last_occasion config past)
      (unchanged config (LinkWrite octets answer) past may refl is).heard;
}
owing_by config (FileLen name answer) past fits may lawful is = by_file config (FileLen name answer) past (by_answer (serving config past).now (FileLen name answer)
    (serving config past).files) may refl is
owing_by config (FileRead name place asked answer octets) past fits may lawful is =
    by_file config (FileRead name place asked answer octets) past (by_answer (serving config past).now (FileRead name place asked answer octets) (serving config past).files) may refl is
owing_by config (Connect socket to answer) past fits may lawful is = by_connecting config past socket to answer may is
owing_by config (UdpOpen socket at answer) past fits may lawful is = by_open config past socket at answer may lawful is
owing_by config (UdpSend socket to octets answer) past fits may lawful is = by_send config past socket to octets answer may is
owing_by config (UdpRecv socket asked answer octets) past fits may lawful is = by_hearing config past socket asked answer octets may lawful is
owing_by config e past fits may lawful is = unchanged config e past may refl is

pub owing : (config : Config) (past : List Entry) → 28 ≤ config.mtu → Lawful config past → OwingAt config past
owing config [] fits lawful = record { owed = inl refl; heard = tt }
owing config (e ∷ past) fits lawful = owing_by config e past fits lawful.0 lawful.1 (owing config past fits lawful.1)

-- what is left, as it is said
pub same_ident : (k : ℕ) (past : List Entry) → ident_with k (datagrams_out past) ≡ identification_with k past
same_ident zero past = refl
same_ident (suc k) past = refl

pub what_is_left : (config : Config) (past : List Entry) → 28 ≤ config.mtu → Lawful config past → (left config past ≡ []) ⊎ IsRest config past (left config past)
what_is_left config past fits lawful = elim (owing config past fits lawful).owed [
  | inl none ↦ inl none
  | inr some ↦ inr (record { out = some.0; is = some.1 ∙ ap (λ i. drop some.0 (frames_of config i (owed_for config past (last_occasion config past)))) (same_ident some.0 past) })
]

-- ---- a frame that goes out

begun : (config : Config) (past : List Entry) (octets : List ℕ) (answer : Io) (t : List ℕ) (frame : List ℕ) → tail past ≡ t → may_begin config past (tail past) octets ≡ true →
    opens (LinkWrite octets answer) t ≡ Some frame → Begins config past frame
begun config past octets answer (x ∷ rest) frame clear may is = cc
begun config past octets (IoDone n) [] frame clear may is = let this : drop 4 octets ≡ frame = cc in subst (Begins config past) this (begins_so config past octets clear may)
begun config past octets End [] frame clear may is = cc
begun config past octets IoNotYet [] frame clear may is = cc
begun config past octets IoFailed [] frame clear may is = cc

pub out_by : (config : Config) (e : Entry) (past : List Entry) (frame : List ℕ) → May config past (call_of e) → goes_out e past ≡ Some frame → Begins config past frame
out_by config (LinkWrite octets answer) past frame may is = begun config past octets answer (tail past) frame refl may.answered is
out_by config _ past frame may is = cc

-- a frame that is the first of those left is the next one of the answer
pub next_left : (config : Config) (past : List Entry) (frame : List ℕ) (rest : List (List ℕ)) → 28 ≤ config.mtu → Lawful config past → left config past ≡ frame ∷ rest → AnswersLast config past frame
next_left config past frame rest fits lawful is = elim (owing config past fits lawful).owed [
  | inl none ↦ (let never : [] ≡ frame ∷ rest = sym none ∙ is in cc)
  | inr some ↦ (let o = of_one config (owed_for config past (last_occasion config past)) some.0 (ident_with some.0 (datagrams_out past)) frame rest
      (one_answer config past (last_occasion config past)) (sym some.1 ∙ is) in
      record { answer = o.answer; owed = o.only; out = some.0; rest = rest; is = ap (λ i. drop some.0 (frames_for config i o.answer)) (sym (same_ident some.0 past)) ∙ o.is })
]

pub first_answers : (config : Config) (past : List Entry) (frame : List ℕ) → 28 ≤ config.mtu → Lawful config past → is_first frame (left config past) ≡ true → AnswersLast config past frame
first_answers config past frame fits lawful first =
    let b = begins_with frame (left config past) first in
    next_left config past frame b.0 fits lawful b.1

-- and what is left behind it stays
taken_first : (config : Config) (past : List Entry) (octets : List ℕ) (answer : Io) (t : List ℕ) (frame : List ℕ) (again : List (List ℕ)) → opens
    (LinkWrite octets answer) t ≡ Some frame → is_first frame (left config past) ≡ true
    → left config past ≡ frame ∷ taken (opens (LinkWrite octets answer) t) again (left config past)
taken_first config past octets answer t frame again out first =
    let b = begins_with frame (left config past) first in
    let here : bytes_eq frame frame ≡ true = subst (λ l. is_first frame l ≡ true) b.1 first in
    let after : taken (opens (LinkWrite octets answer) t) again (left config past) ≡ b.0 =
    ap (λ o. taken o again (left config past)) out ∙ ap (taken (Some frame) again) b.1 ∙ ap (λ (c : Bool). if c then b.0 else frame ∷ b.0) here in
    b.1 ∙ ap (λ l. frame ∷ l) (sym after)

pub others_stay : (config : Config) (e : Entry) (past : List Entry) (frame : List ℕ) → Lawful config (e ∷ past) → goes_out e past ≡ Some frame → is_first frame
    (left config past) ≡ true → left config past ≡ frame ∷ left config (e ∷ past)
others_stay config (LinkWrite octets answer) past frame lawful out first = taken_first config past octets answer (tail past) frame
    (again_frames config (identification past) (serving config past)) out first
others_stay config _ past frame lawful out first = cc

-- where nothing was left, the others of a packet that goes again are left
pub none_stays : (config : Config) (e : Entry) (past : List Entry) (frame : List ℕ) → goes_out e past ≡ Some frame → left config past ≡ [] → starts frame
    (again_frames config (identification past) (serving config past)) ≡ false → left config (e ∷ past) ≡ []
none_stays config (LinkWrite octets answer) past frame out none apart =
    let again = again_frames config (identification past) (serving config past) in
    ap (λ o. taken o again (left config past)) out ∙ ap (taken (Some frame) again) none ∙ ap (λ (b : Bool). if b then drop 1 again else []) apart
none_stays config _ past frame out none apart = cc
