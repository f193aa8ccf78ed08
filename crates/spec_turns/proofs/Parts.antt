-- What else is still due: the clock, the link, calls on files, and a connection of the host.
use Rattle.std.proofs.Common.{◌≡◌, ℕ, suc, ◌+◌, ◌≤◌, ◌==◌, nat_lt, nat_le, Bool, true, false, List, [], ◌∷◌, ◌++◌, length, drop, Option, Some, None, option_and_then, if◌then◌else◌, refl}
use Rattle.std.specs.Option.{option_or}
use Rattle.std.proofs.Common.{sym, ◌∙◌, ap, subst, arith, inl, inr}
use Rattle.std.proofs.lemmas.Bool.Decides.{nat_tests}
use Rattle.std.proofs.lemmas.List.{drop_all}
use Rattle.net_octets.specs.declared.Endpoint.{Endpoint}
use Rattle.world_face.specs.Frames.{Ending, MayOffer, goes_out, is_blocked, opens, rest_after, encoding, tail, wait_ending}
use Rattle.world_face.specs.Journal.{Call, Entry, MayWrite, count_of, Now, Wait, LinkWrite, Listen, UdpOpen, FileLen, FileRead, CallNow, CallClose, CallConnect, CallFileLen, CallFileRead}
use Rattle.world_face.specs.Journal.{CallLinkWrite, MayReadFile, CallListen, CallUdpOpen}
use Rattle.world_face.specs.declared.FileSize.{FileSize}
use Rattle.world_face.specs.declared.FileSize.TheVariants.{Length, Missing, Failed as SizeFailed}
use Rattle.world_face.specs.declared.Io.{Io}
use Rattle.world_face.specs.declared.Io.TheVariants.{Done, End, NotYet, Failed}
use Rattle.world_face.specs.declared.Made.{Made}
use Rattle.world_face.specs.declared.Made.TheVariants.{Done as MadeDone, Failed as MadeFailed}
use Rattle.slirp_settings.specs.Addresses.{Config}
use Rattle.spec_flows.specs.Book.{book, port_of}
use Rattle.spec_flows.specs.SegmentVerdicts.{asked_for, connects_to, due_by, segment_verdict}
use Rattle.spec_flows.specs.Segments.{OnTuple, segment_by, segment_came}
use Rattle.spec_flows.proofs.Newest.{is_newest}
use Rattle.spec_trace.specs.Happenings.{happens}
use Rattle.spec_trace.specs.Moments.{waits}
use Rattle.spec_trace.specs.Packets.{ArpPacket, Datagram, DatagramPacket, Message, Packet, Segment, Unheard}
use Rattle.spec_trace.specs.Shape.{Phase, Opening, Over, Started, Woken, Working, due_in, opened, phase, phase_after, opening_of, is_working}
use Rattle.spec_trace.specs.Sockets.{first, next_number, open_sockets}
use Rattle.spec_run.specs.Answers.{Serving, begins_again, begun_by, files_begun, files_by_verdict, files_by_packet, files_sent, identification, ledger, served_file, serving}
use Rattle.spec_run.specs.Asking.{step, step_of}
use Rattle.spec_run.specs.Datagrams.{DatagramVerdict, ForFiles, ForLeases, GoesTo, Ignored, Refused, Step, NeedsNothing, NeedsRoom, NeedsSending, NeedsSocket, due_for, errand_by, errand_by_packet, datagram_verdict, Errand}
use Rattle.spec_run.specs.Errands.{errand_by_call, errand_left}
use Rattle.spec_run.specs.Laws.{May, due, Lawful}
use Rattle.spec_run.proofs.FileCalls.{sought_length, sought_octets}
use Rattle.spec_run.proofs.Phases.{IsForOther, due_call, given_forward, given_turn, none_left, opening_call, for_others, others_due, OpensNone, asks_after_waits, opens as opens_for_it}
use Rattle.rules_tftp.specs.Asking.{call_for}
use Rattle.rules_tftp.specs.Packets.{Terms, terms_of, options_octets}
use Rattle.rules_tftp.specs.Transfers.{Quest, Said, SeeksLength, SeeksOctets, Settled as SeeksNothing, Sought, Transfer, begins, length_came, measured, next_again, octets_came}
use Rattle.rules_tftp.specs.Transfers.{octets_of, reads_on, seeks_block, seeks_next, told_length, told_octets, transfer, with_room, sends_block, sends}
use Rattle.spec_turns.specs.Tally.{frames_in, named}
use Rattle.poll_list.specs.declared.Want.{Want}
use Rattle.world_face.specs.declared.Waited.{Waited}
use Rattle.world_face.specs.declared.Waited.TheVariants.{Ready, Stop, Failed as WaitFails}
use Rattle.slirp_settings.specs.declared.Forward.{Forward}
use Rattle.slirp_settings.specs.declared.Proto.{Proto}
use Rattle.slirp_settings.specs.declared.Proto.TheVariants.{Tcp as ByTcp, Udp as ByUdp}
use Rattle.spec_run.proofs.Joining.{none_early}
use Rattle.spec_turns.proofs.Errands.{none_for, sent_next, calls_for, two_most}
use Rattle.std.specs.Prelude.{option_map}
use Rattle.spec_run.specs.Ports.{given_port}

-- ---- the clock

abbrev pub calls_on_clock : Phase → ℕ
calls_on_clock (Opening count forwards) = length forwards + 1
calls_on_clock Started = 0
calls_on_clock Woken = 1
calls_on_clock Working = 0
calls_on_clock (Over cause) = 0

abbrev pub NoWait : Entry → Type 0
NoWait (Wait wants timeout answer ready) = ⊥
NoWait _ = Unit {0}

opened_clock : (answer : Made) (p : Phase) → calls_on_clock (opened answer p) ≤ calls_on_clock p
opened_clock MadeDone (Opening count []) = omega arith
opened_clock MadeDone (Opening count (forward ∷ forwards)) = omega arith
opened_clock MadeFailed (Opening count forwards) = omega arith
opened_clock MadeDone Started = omega arith
opened_clock MadeFailed Started = omega arith
opened_clock MadeDone Woken = omega arith
opened_clock MadeFailed Woken = omega arith
opened_clock MadeDone Working = omega arith
opened_clock MadeFailed Working = omega arith
opened_clock MadeDone (Over cause) = omega arith
opened_clock MadeFailed (Over cause) = omega arith

clock_on : (e : Entry) (o : Option Ending) (p : Phase) → NoWait e → calls_on_clock (phase_after e o p) ≤ calls_on_clock p
clock_on e (Some why) (Opening count forwards) apart = omega arith
clock_on e (Some why) Started apart = omega arith
clock_on e (Some why) Woken apart = omega arith
clock_on e (Some why) Working apart = omega arith
clock_on e (Some why) (Over cause) apart = omega arith
clock_on (Wait wants timeout answer ready) None p apart = absurd apart
clock_on (Now told) None (Opening count forwards) apart = omega arith
clock_on (Now told) None Started apart = omega arith
clock_on (Now told) None Woken apart = omega arith
clock_on (Now told) None Working apart = omega arith
clock_on (Now told) None (Over cause) apart = omega arith
clock_on (Listen socket at answer) None p apart = opened_clock answer p
clock_on (UdpOpen socket at answer) None p apart = opened_clock answer p
clock_on _ None p apart = omega arith

pub clock_stays : (config : Config) (e : Entry) (past : List Entry) → NoWait e → calls_on_clock (phase config (e ∷ past)) ≤ calls_on_clock (phase config past)
clock_stays config e past apart = clock_on e _ (phase config past) apart

pub begun_clock : (config : Config) (past : List Entry) (wants : List Want) (timeout : Option ℕ) (answer : Waited) (ready : List Want) → calls_on_clock
    (phase config (Wait wants timeout answer ready ∷ past)) ≤ 1
begun_clock config past wants timeout answer ready = by answer (phase config past)
  where
    by : (answer : Waited) (p : Phase) → calls_on_clock (phase_after (Wait wants timeout answer ready) (wait_ending answer) p) ≤ 1
    by Ready p = omega arith
    by Stop (Opening count forwards) = omega arith
    by Stop Started = omega arith
    by Stop Woken = omega arith
    by Stop Working = omega arith
    by Stop (Over cause) = omega arith
    by WaitFails (Opening count forwards) = omega arith
    by WaitFails Started = omega arith
    by WaitFails Woken = omega arith
    by WaitFails Working = omega arith
    by WaitFails (Over cause) = omega arith

-- what is due where a run stands, if it is neither a close nor for anything else
no_clock : (config : Config) (s : Step) (other : Option Call) (number : ℕ) → IsForOther other → option_or (due_for config s number) other ≡ Some CallNow → ⊥
no_clock config NeedsNothing other number fit is = subst IsForOther is fit
no_clock config (NeedsRoom oldest errand) other number fit is = cc
no_clock config (NeedsSocket errand) other number fit is = cc
no_clock config (NeedsSending socket errand) other number fit is = cc

closed_first : (o : Option ℕ) (other : Option Call) (call : Call) → ((socket : ℕ) → CallClose socket ≡ call → ⊥) → (other ≡ Some call → ⊥) → option_or (option_map CallClose o) other ≡ Some call → ⊥
closed_first None other call apart never is = never is
closed_first (Some socket) other call apart never is = apart socket cc

opens_apart : (proto : Proto) (number : ℕ) (forward : Forward) → opening_of proto number forward ≡ CallNow → ⊥
opens_apart ByTcp number forward is = cc
opens_apart ByUdp number forward is = cc

some_same : (a b : Call) → Some a ≡ Some b → a ≡ b
some_same a b is = cc

asked_in : (p : Phase) (past : List Entry) (other : Option Call) (told : ℕ) → (other ≡ Some CallNow → ⊥) → option_or (due_in p past) other ≡ Some CallNow → calls_on_clock
    (phase_after (Now told) None p) + 1 ≤ calls_on_clock p
asked_in (Opening count []) past other told never is = omega arith
asked_in (Opening count (forward ∷ forwards)) past other told never is = absurd (opens_apart forward.proto (next_number past) forward
    (some_same (opening_of forward.proto (next_number past) forward) CallNow is))
asked_in Started past other told never is = absurd (never is)
asked_in Woken past other told never is = omega arith
asked_in Working past other told never is = absurd (never is)
asked_in (Over cause) past other told never is = absurd (closed_first (first (open_sockets past)) other CallNow (λ socket same. cc) never is)

pub asked_once : (config : Config) (past : List Entry) (told : ℕ) → May config past CallNow → calls_on_clock (phase config (Now told ∷ past)) + 1 ≤ calls_on_clock (phase config past)
asked_once config past told may =
    asked_in (phase config past) past (option_or (due_for config (step config past) (next_number past)) (others_due config past)) told
    (no_clock config (step config past) (others_due config past) (next_number past) (for_others config past)) (due_call (due config past) CallNow may.place may.due)

-- ---- ports of the host

opened_less : (answer : Made) (count : ℕ) (forward : Forward) (forwards : List Forward) → calls_on_clock (opened answer (Opening count (forward ∷ forwards))) + 1 ≤ calls_on_clock
    (Opening count (forward ∷ forwards))
opened_less MadeDone count forward forwards = omega arith
opened_less MadeFailed count forward forwards = omega arith

no_port : (config : Config) (s : Step) (other : Option Call) (number socket : ℕ) (at : Endpoint) → IsForOther other → option_or (due_for config s number) other ≡ Some (CallListen socket at) → ⊥
no_port config NeedsNothing other number socket at fit is = subst IsForOther is fit
no_port config (NeedsRoom oldest errand) other number socket at fit is = cc
no_port config (NeedsSocket errand) other number socket at fit is = cc
no_port config (NeedsSending s errand) other number socket at fit is = cc

listened_in : (p : Phase) (past : List Entry) (other : Option Call) (socket : ℕ) (at : Endpoint) (answer : Made) → (other ≡ Some (CallListen socket at) → ⊥) → option_or
    (due_in p past) other ≡ Some (CallListen socket at)
    → calls_on_clock (opened answer p) + 1 ≤ calls_on_clock p
listened_in (Opening count []) past other socket at answer never is = cc
listened_in (Opening count (forward ∷ forwards)) past other socket at answer never is = opened_less answer count forward forwards
listened_in Started past other socket at answer never is = absurd (never is)
listened_in Woken past other socket at answer never is = cc
listened_in Working past other socket at answer never is = absurd (never is)
listened_in (Over cause) past other socket at answer never is = absurd (closed_first (first (open_sockets past)) other (CallListen socket at) (λ s same. cc) never is)

-- in a turn
given_stays : (p : Phase) (answer : Made) → is_working p ≡ true → calls_on_clock (opened answer p) ≤ calls_on_clock p
given_stays Working MadeDone is = omega arith
given_stays Working MadeFailed is = omega arith
given_stays (Opening count forwards) answer is = cc
given_stays Started answer is = cc
given_stays Woken answer is = cc
given_stays (Over cause) answer is = cc

pub listened_once : (config : Config) (past : List Entry) (socket : ℕ) (at : Endpoint) (answer : Made) → May config past (CallListen socket at)
    → calls_on_clock (phase config (Listen socket at answer ∷ past)) ≤ calls_on_clock (phase config past)
listened_once config past socket at answer may = elim (opening_call config past socket at (port_of config socket) (CallListen socket at) may.place may.due) [
  | inl is ↦
      (let less = listened_in (phase config past) past (option_or (due_for config (step config past) (next_number past)) (others_due config past)) socket at answer
      (no_port config (step config past) (others_due config past) (next_number past) socket at (for_others config past)) is in omega (arith, less))
  | inr given ↦ given_stays (phase config past) answer (given_turn config past socket at (port_of config socket) given.is)
]

opens_some : (p : Phase) (answer : Made) → (OpensNone p → ⊥) → calls_on_clock (opened answer p) + 1 ≤ calls_on_clock p
opens_some (Opening count []) answer some = absurd (some refl)
opens_some (Opening count (forward ∷ forwards)) answer some = opened_less answer count forward forwards
opens_some Started answer some = absurd (some tt)
opens_some Woken answer some = absurd (some tt)
opens_some Working answer some = absurd (some tt)
opens_some (Over cause) answer some = absurd (some tt)

left_none : (socket : ℕ) (at : Endpoint) (o : Option Errand) (answer : Made) → o ≡ None → errand_by_call (UdpOpen socket at answer) o ≡ None
left_none socket at o MadeDone none = none
left_none socket at o MadeFailed none = refl

-- a socket for datagrams is one of the settings', or one that a guest's datagram asks for, or for a port of the host that is given to a guest later
pub opened_once : (config : Config) (past : List Entry) (socket : ℕ) (at : Endpoint) (answer : Made) → May config past (CallUdpOpen socket at) → Lawful config past
    → calls_on_clock (phase config (UdpOpen socket at answer ∷ past)) + calls_for (step config (UdpOpen socket at answer ∷ past)) + 1
    ≤ calls_on_clock (phase config past) + calls_for (step config past) + named at.port
opened_once config past socket at answer may lawful =
    elim (opens_for_it config past socket at may) [
      | inl early ↦ (let less = opens_some (phase config past) answer early.1 in
          let none = none_for config (UdpOpen socket at answer ∷ past) (left_none socket at (errand_left config past) answer (none_early (waits past) (errand_left config past) early.0
          (asks_after_waits config past lawful))) in omega (arith, less, none))
      | inr later ↦ elim later [
        | inl o ↦ (let less = sent_next config past socket at answer o may lawful in let same = clock_stays config (UdpOpen socket at answer) past tt in omega (arith, less, same))
        | inr given ↦ (let clock = given_stays (phase config past) answer (given_turn config past socket at (given_port config socket) given.is) in
            let none = none_for config (UdpOpen socket at answer ∷ past) (left_none socket at (errand_left config past) answer (none_left config past given.nothing)) in
            let one : named at.port ≡ 1 = ap (λ (z : Bool). if z then 0 else 1) (given_forward config past socket at (given_port config socket) given.is).named in omega (arith, clock, none, one))
      ]
    ]

-- ---- the link

abbrev pub calls_on_link : (blocked : Bool) (rest : List ℕ) → ℕ
calls_on_link true rest = 0
calls_on_link false [] = 1
calls_on_link false (x ∷ rest) = 2

pub two_on_link : (blocked : Bool) (rest : List ℕ) → calls_on_link blocked rest ≤ 2
two_on_link true rest = omega arith
two_on_link false [] = omega arith
two_on_link false (x ∷ rest) = omega arith

taken_link : (n : ℕ) (octets : List ℕ) → calls_on_link (nat_lt n (length octets)) (drop n octets) ≤ 1
taken_link n octets = by (nat_lt n (length octets)) refl
  where
    by : (b : Bool) → nat_lt n (length octets) ≡ b → calls_on_link b (drop n octets) ≤ 1
    by true is = omega arith
    by false is = let none = drop_all n octets (grind (arith, nat_tests, is)) in let one = ap (calls_on_link false) none in omega (arith, one)

refused_link : (octets rest : List ℕ) → (octets ≡ [] → ⊥) → calls_on_link (nat_lt 0 (length octets)) rest ≡ 0
refused_link [] rest some = absurd (some refl)
refused_link (x ∷ octets) rest some = ap (λ b. calls_on_link b rest) (positive (length octets))
  where
    positive : (n : ℕ) → nat_lt 0 (suc n) ≡ true
    positive n = grind (arith, nat_tests)

no_frame : (octets : List ℕ) → octets ≡ encoding (drop 4 octets) → octets ≡ [] → ⊥
unfolding encoding
no_frame [] is none = absurd cc
no_frame (x ∷ octets) is none = cc

link_by : (octets rest : List ℕ) (answer : Io) → MayOffer rest octets → MayWrite (length octets) answer
    → calls_on_link (nat_lt (count_of answer) (length octets)) (rest_after answer octets rest) + 1 ≤ calls_on_link false rest + frames_in (opens (LinkWrite octets answer) rest)
link_by octets [] (Done n) offered given = let most = taken_link n octets in omega (arith, most)
link_by octets [] End offered given = absurd given
link_by octets [] NotYet offered given = let none = refused_link octets [] (no_frame octets offered.0) in omega (arith, none)
link_by octets [] Failed offered given = let none = refused_link octets [] (no_frame octets offered.0) in omega (arith, none)
link_by octets (x ∷ rest) (Done n) offered given = let most = taken_link n octets in omega (arith, most)
link_by octets (x ∷ rest) End offered given = absurd given
link_by octets (x ∷ rest) NotYet offered given = let none = refused_link octets (x ∷ rest) (λ none. clash (sym offered ∙ none)) in omega (arith, none)
  where
    clash : x ∷ rest ≡ [] → ⊥
    clash is = cc
link_by octets (x ∷ rest) Failed offered given = let none = refused_link octets (x ∷ rest) (λ none. clash (sym offered ∙ none)) in omega (arith, none)
  where
    clash : x ∷ rest ≡ [] → ⊥
    clash is = cc

pub written_link : (config : Config) (past : List Entry) (octets : List ℕ) (answer : Io) → May config past (CallLinkWrite octets) → MayWrite (length octets) answer
    → calls_on_link (is_blocked (LinkWrite octets answer ∷ past)) (tail (LinkWrite octets answer ∷ past)) + 1 ≤ calls_on_link (is_blocked past) (tail past) + frames_in
    (goes_out (LinkWrite octets answer) past)
written_link config past octets answer may given = let free = ap (λ b. calls_on_link b (tail past)) may.framed.1 in let less = link_by octets
    (tail past) answer may.framed.0 given in omega (arith, free, less)

-- ---- files

abbrev pub calls_on_files : Quest → ℕ
calls_on_files SeeksNothing = 0
calls_on_files (SeeksLength s) = 2
calls_on_files (SeeksOctets t there) = 1

pub two_on_files : (q : Quest) → calls_on_files q ≤ 2
two_on_files SeeksNothing = omega arith
two_on_files (SeeksLength s) = omega arith
two_on_files (SeeksOctets t there) = omega arith

block_one : (now : ℕ) (t : Transfer) (others : List Transfer) → calls_on_files (seeks_block now t others).files.quest ≤ 1
block_one now t others = by (octets_of t == 0)
  where
    by : (b : Bool) → calls_on_files (if b then sends_block now [] t others else record { files = record { transfers = others; quest = SeeksOctets t [] }; told = None }).files.quest ≤ 1
    by true = omega arith
    by false = omega arith

next_one : (now : ℕ) (t : Transfer) (others : List Transfer) → calls_on_files (seeks_next now t others).files.quest ≤ 1
next_one now t others = block_one now (record t { block = t.block + 1 }) others

begins_one : (now file_length : ℕ) (s : Sought) (terms : Terms) (others : List Transfer) → calls_on_files (begins now file_length s terms others).files.quest ≤ 1
begins_one now file_length s terms others = by (length terms.answered == 0)
  where
    by : (b : Bool) → calls_on_files (if b then seeks_next now (transfer file_length s terms) others else sends now false (options_octets terms) (transfer file_length s terms) others).files.quest ≤ 1
    by true = next_one now (transfer file_length s terms) others
    by false = omega arith

measured_one : (now n : ℕ) (s : Sought) (o : Option Terms) (others : List Transfer) → calls_on_files (measured now n s o others).files.quest ≤ 1
measured_one now n s None others = omega arith
measured_one now n s (Some terms) others = begins_one now n s terms (with_room others)

length_one : (now : ℕ) (answer : FileSize) (s : Sought) (others : List Transfer) → calls_on_files (told_length now answer s others).files.quest ≤ 1
length_one now (Length n) s others = measured_one now n s (terms_of n s.options) others
length_one now Missing s others = omega arith
length_one now SizeFailed s others = omega arith

measured_less : (now : ℕ) (name : List ℕ) (answer : FileSize) (q : Quest) (others : List Transfer) → call_for q ≡ Some (CallFileLen name) → calls_on_files
    (length_came now answer q others).files.quest + 1 ≤ calls_on_files q
measured_less now name answer SeeksNothing others is = cc
measured_less now name answer (SeeksLength s) others is = let one = length_one now answer s others in omega (arith, one)
measured_less now name answer (SeeksOctets t there) others is = cc

pub measured_file : (config : Config) (past : List Entry) (name : List ℕ) (answer : FileSize) → May config past (CallFileLen name)
    → calls_on_files (serving config (FileLen name answer ∷ past)).files.quest + 1 ≤ calls_on_files (serving config past).files.quest
measured_file config past name answer may = measured_less (serving config past).now name answer (serving config past).files.quest (serving config past).files.transfers
    (sought_length config past name may)

reads_one : (now : ℕ) (there : List ℕ) (t : Transfer) (others : List Transfer) → calls_on_files (reads_on now there t others).files.quest ≤ 1
reads_one now there t others = by (nat_le (octets_of t) (length there))
  where
    by : (b : Bool) → calls_on_files (if b then sends_block now there t others else record { files = record { transfers = others; quest = SeeksOctets t there }; told = None }).files.quest ≤ 1
    by true = omega arith
    by false = omega arith

octets_less : (now asked : ℕ) (answer : Io) (octets there : List ℕ) (t : Transfer) (others : List Transfer) → MayReadFile asked answer → length octets ≡ count_of answer
    → calls_on_files (told_octets now answer octets there t others).files.quest ≤ length octets
octets_less now asked (Done n) octets there t others may many = let one = reads_one now (there ++ octets) t others in let some = may.0 in omega (arith, one, some, many)
octets_less now asked End octets there t others may many = omega arith
octets_less now asked NotYet octets there t others may many = omega arith
octets_less now asked Failed octets there t others may many = omega arith

taken_less : (now asked : ℕ) (name : List ℕ) (place : ℕ) (answer : Io) (octets : List ℕ) (q : Quest) (others : List Transfer) → MayReadFile asked answer →
    length octets ≡ count_of answer → call_for q ≡ Some (CallFileRead name place asked)
    → calls_on_files (octets_came now answer octets q others).files.quest + 1 ≤ calls_on_files q + length octets
taken_less now asked name place answer octets SeeksNothing others may many is = cc
taken_less now asked name place answer octets (SeeksLength s) others may many is = cc
taken_less now asked name place answer octets (SeeksOctets t there) others may many is = let less = octets_less now asked answer octets there t others may many in omega (arith, less)

pub taken_file : (config : Config) (past : List Entry) (name : List ℕ) (place asked : ℕ) (answer : Io) (octets : List ℕ) → May config past (CallFileRead name place asked) →
    MayReadFile asked answer → length octets ≡ count_of answer
    → calls_on_files (serving config (FileRead name place asked answer octets ∷ past)).files.quest + 1 ≤ calls_on_files (serving config past).files.quest + length octets
taken_file config past name place asked answer octets may given many =
    taken_less (serving config past).now asked name place answer octets (serving config past).files.quest (serving config past).files.transfers given many
    (sought_octets config past name place asked may)

sent_same : (b : Bool) (s : Serving) → (files_sent b s).quest ≡ s.files.quest
sent_same false s = refl
sent_same true s = by s.again
  where
    next : (o : Option Transfer) → (begun_by s.now o s.files).quest ≡ s.files.quest
    next None = refl
    next (Some t) = refl

    by : (o : Option Said) → (files_begun s.now o s.files).quest ≡ s.files.quest
    by None = next (next_again s.now s.files.transfers)
    by (Some said) = refl

pub written_files : (config : Config) (past : List Entry) (octets : List ℕ) (answer : Io) → calls_on_files
    (serving config (LinkWrite octets answer ∷ past)).files.quest ≡ calls_on_files (serving config past).files.quest
written_files config past octets answer = ap calls_on_files (sent_same (begins_again config (identification past) (ledger config past) (goes_out (LinkWrite octets answer) past)) (serving config past))

-- ---- connections

abbrev pub calls_to_connect : Option Endpoint → ℕ
calls_to_connect None = 0
calls_to_connect (Some to) = 1

pub one_to_connect : (o : Option Endpoint) → calls_to_connect o ≤ 1
one_to_connect None = omega arith
one_to_connect (Some to) = omega arith

pub none_to_connect : (config : Config) (e : Entry) (past : List Entry) → segment_came (happens config past e).came ≡ None → calls_to_connect (connects_to config (book config (e ∷ past))) ≡ 0
none_to_connect config e past none = by (book config (e ∷ past)).came refl
  where
    clash : (on : OnTuple) → Some on ≡ None → ⊥
    clash on is = cc

    by : (o : Option OnTuple) → (book config (e ∷ past)).came ≡ o → calls_to_connect (option_and_then (λ on. asked_for (segment_verdict config (book config (e ∷ past)) on)) o) ≡ 0
    by None is = refl
    by (Some on) is = absurd (clash on (sym (is_newest on config e past is) ∙ none))

pub connects_once : (config : Config) (past : List Entry) (socket : ℕ) (to : Endpoint) → May config past (CallConnect socket to) → calls_to_connect (connects_to config (book config past)) ≡ 1
connects_once config past socket to may = by (book config past).doomed (connects_to config (book config past)) may.flows.touches
  where
    by : (doomed : Option ℕ) (o : Option Endpoint) → due_by doomed o (next_number past) ≡ Some (CallConnect socket to) → calls_to_connect o ≡ 1
    by (Some n) o is = cc
    by None None is = cc
    by None (Some at) is = refl

-- ---- a frame that came asks for one of these

module _ (config : Config) (later : List Entry) (s : Serving) (links : ℕ) (one : links ≤ 1) where
  by_datagram_verdict : (d : Datagram) (f : DatagramVerdict) → links ≡ 0 → calls_for (step_of config later (errand_by d f)) + calls_on_files (files_by_verdict config s d f).quest + links ≤ 2 + calls_on_files s.files.quest
  by_datagram_verdict d Ignored none = omega (arith, none)
  by_datagram_verdict d Refused none = omega (arith, none)
  by_datagram_verdict d ForLeases none = omega (arith, none)
  by_datagram_verdict d ForFiles none = let most = two_on_files (served_file config s d).files.quest in omega (arith, none, most)
  by_datagram_verdict d (GoesTo to) none = let most = two_most (step_of config later (errand_by d (GoesTo to))) in omega (arith, none, most)

  pub by_packet : (packet : Packet) → (segment_by packet ≡ None → links ≡ 0) → calls_for (step_of config later (errand_by_packet config packet)) + calls_on_files
      (files_by_packet config s packet).quest + links ≤ 2 + calls_on_files s.files.quest
  by_packet Unheard none = let is = none refl in omega (arith, is)
  by_packet (ArpPacket arp) none = let is = none refl in omega (arith, is)
  by_packet (Message mac ip message) none = let is = none refl in omega (arith, is)
  by_packet (DatagramPacket d) none = by_datagram_verdict d (datagram_verdict config d) (none refl)
  by_packet (Segment mac ip tcp) none = omega (arith, one)
