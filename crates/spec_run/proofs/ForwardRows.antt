-- Runs with ports of the host that are given to guests, written out: those that are lawful, and those that break one sentence each.
use Rattle.std.proofs.Common.{◌≡◌, ℕ, Bool, true, false, List, [], ◌∷◌, ◌++◌, take, Some, None, refl}
use Rattle.poll_list.specs.declared.Who.TheVariants.{Link, Listener, Tcp, Udp}
use Rattle.world_face.specs.declared.Accepted.TheVariants.{From as FromPeer}
use Rattle.world_face.specs.declared.Got.TheVariants.{From}
use Rattle.world_face.specs.declared.Io.{Io}
use Rattle.world_face.specs.declared.Io.TheVariants.{Done}
use Rattle.world_face.specs.declared.Made.TheVariants.{Done as MadeDone, Failed as MadeFailed}
use Rattle.world_face.specs.declared.Sent.TheVariants.{Done as SentDone}
use Rattle.world_face.specs.declared.Waited.TheVariants.{Ready, Stop}
use Rattle.world_face.specs.Journal.{Entry, Accept, LinkRead, Close, Listen, Now, UdpOpen, UdpRecv, UdpSend, Wait, LinkWrite, CallAccept, CallClose, CallLinkWrite, CallListen, CallUdpOpen, CallUdpSend}
use Rattle.world_face.specs.Frames.{encoding, missing, is_too_long, encoded_length}
use Rattle.tlv_table.specs.Reading.{read_on}
use Rattle.slirp_settings.specs.declared.Proto.TheVariants.{Tcp as TcpProto, Udp as UdpProto}
use Rattle.slirp_settings.specs.Addresses.{Config, endpoint}
use Rattle.slirp_settings.specs.Settings.{usual}
use Rattle.host_policy.specs.Targets.{anywhere}
use Rattle.spec_flows.proofs.TcpForwards.{forwarding, visited, unshown}
use Rattle.spec_run.specs.Check.{may}
use Rattle.spec_run.specs.Laws.{Finished, Lawful, May}
use Rattle.spec_run.proofs.Checks.{is_sound}
use Rattle.spec_run.proofs.NameRows.{answer as name_answer, asked as asked_name, question, reply as name_reply, resolver}
use Rattle.spec_run.proofs.Rows.{comes, hex, reading, run}
use Rattle.spec_run.proofs.UdpRows.{answer, datagram, peer, target_of_row}

not_both : {b : Bool} → b ≡ false → b ≡ true → ⊥
not_both {b} off on = cc

-- the request for the hardware address of 10.0.2.15, with its length, and the reply to it
abbrev pub asked : List ℕ
asked = hex "0000002affffffffffff52550a0002020806000108000604000152550a0002020a0002020000000000000a00020f"

abbrev pub told : List ℕ
told = hex "52550a000202525400123456080600010800060400025254001234560a00020f52550a0002020a000202"

-- ---- connections

-- a peer comes, and its guest is never found
abbrev pub waits : ℕ → ℕ → List Entry
waits time moment = Wait (reading Link ∷ reading (Listener 0) ∷ reading (Tcp 1) ∷ []) (Some time) Ready [] ∷ Now moment ∷ []

abbrev pub resolves : ℕ → ℕ → List Entry
resolves time moment = waits time moment ++ LinkWrite asked (Done 46) ∷ []

abbrev pub sought : List Entry
sought =
    take 6 visited ++ resolves 1000 1005 ++ resolves 2000 3005 ++ resolves 4000 7005 ++ resolves 8000 15005 ++ resolves 16000 31005 ++ resolves 32000 63005 ++ resolves 60000 123005 ++ resolves 60000 183005
    ++ waits 60000 243005

unfound_lawful : Lawful forwarding (run (sought ++ Close 1 ∷ Wait (reading Link ∷ reading (Listener 0) ∷ []) None Stop [] ∷ Close 0 ∷ []))
unfolding missing encoding is_too_long encoded_length read_on
unfound_lawful = is_sound forwarding (run (sought ++ Close 1 ∷ Wait (reading Link ∷ reading (Listener 0) ∷ []) None Stop [] ∷ Close 0 ∷ [])) refl

unfound_finished : Finished forwarding (run (sought ++ Close 1 ∷ Wait (reading Link ∷ reading (Listener 0) ∷ []) None Stop [] ∷ Close 0 ∷ []))
unfolding missing encoding is_too_long encoded_length read_on
unfound_finished = record { ended = refl; none_due = refl; closed = refl }

-- the guest's own SYN crosses ours (RFC 9293, 3.5): it gets a SYN-ACK; an acknowledgement of another number is answered by a reset, and the guest's reset closes the flow
abbrev pub crossed : List Entry
crossed =
    Listen 0 (endpoint 2130706433 5555) MadeDone
    ∷ Now 0
    ∷ Wait (reading Link ∷ reading (Listener 0) ∷ []) None Ready (reading (Listener 0) ∷ [])
    ∷ Now 5
    ∷ Accept 0 1 (FromPeer (endpoint 2130706433 40000))
    ∷ LinkWrite (hex "0000002affffffffffff52550a0002020806000108000604000152550a0002020a0002020000000000000a00020f") (Done 46)
    ∷ Wait (reading Link ∷ reading (Listener 0) ∷ reading (Tcp 1) ∷ []) (Some 1000) Ready (reading Link ∷ [])
    ∷ Now 10
    ∷ LinkRead 4 (Done 4) (hex "0000002a")
    ∷ LinkRead 42 (Done 42) (hex "52550a000202525400123456080600010800060400025254001234560a00020f52550a0002020a000202")
    ∷ LinkWrite (hex "0000003e52540012345652550a00020208004500003000000000400662b80a0002020a00020f9c400016000004e2000000007002ffffcad60000020405b401030300") (Done 66)
    ∷ Wait (reading Link ∷ reading (Listener 0) ∷ reading (Tcp 1) ∷ []) (Some 1000) Ready (reading Link ∷ [])
    ∷ Now 11
    ∷ LinkRead 4 (Done 4) (hex "0000003a")
    ∷ LinkRead 58 (Done 58) (hex "52550a00020252540012345608004500002c00090000400662b30a00020f0a00020200169c400000004d000000006002ffffe3720000020405b4")
    ∷ LinkWrite (hex "0000003a52540012345652550a00020208004500002c00010000400662bb0a0002020a00020f9c400016000004e20000004e6012ffffde7f0000020405b4") (Done 62)
    ∷ Wait (reading Link ∷ reading (Listener 0) ∷ reading (Tcp 1) ∷ []) (Some 1000) Ready (reading Link ∷ [])
    ∷ Now 12
    ∷ LinkRead 4 (Done 4) (hex "00000036")
    ∷ LinkRead 54 (Done 54) (hex "52550a00020252540012345608004500002800090000400662b70a00020f0a00020200169c400000004e000000015010fffffb1e0000")
    ∷ LinkWrite (hex "0000003652540012345652550a00020208004500002800020000400662be0a0002020a00020f9c400016000000010000000050040000fb780000") (Done 58)
    ∷ Wait (reading Link ∷ reading (Listener 0) ∷ reading (Tcp 1) ∷ []) (Some 999) Ready (reading Link ∷ [])
    ∷ Now 13
    ∷ LinkRead 4 (Done 4) (hex "00000036")
    ∷ LinkRead 54 (Done 54) (hex "52550a00020252540012345608004500002800090000400662b70a00020f0a00020200169c400000004e000004e35014fffff6380000")
    ∷ Close 1
    ∷ Wait (reading Link ∷ reading (Listener 0) ∷ []) None Stop []
    ∷ Close 0
    ∷ []

crossed_lawful : Lawful forwarding (run crossed)
unfolding missing encoding is_too_long encoded_length read_on
crossed_lawful = is_sound forwarding (run crossed) refl

crossed_finished : Finished forwarding (run crossed)
unfolding missing encoding is_too_long encoded_length read_on
crossed_finished = record { ended = refl; none_due = refl; closed = refl }

-- the host refuses the forward
refused_finished : Finished forwarding (run (Listen 0 (endpoint 2130706433 5555) MadeFailed ∷ []))
refused_finished = record { ended = refl; none_due = refl; closed = refl }

refused_lawful : Lawful forwarding (run (Listen 0 (endpoint 2130706433 5555) MadeFailed ∷ []))
refused_lawful = is_sound forwarding (run (Listen 0 (endpoint 2130706433 5555) MadeFailed ∷ [])) refl

-- What may not come: the SYN before the address is known;
syn_too_early : (answer : Io)
    → Lawful forwarding (LinkWrite (hex "0000003e52540012345652550a00020208004500003000000000400662b80a0002020a00020f9c400016000004e2000000007002ffffcad60000020405b401030300")
    answer ∷ run (take 5 visited)) → ⊥
unfolding missing encoding is_too_long encoded_length read_on
syn_too_early reply lawful = not_both refl lawful.0.answered

-- a tenth request;
tenth_request : (answer : Io) → Lawful forwarding (LinkWrite asked answer ∷ run sought) → ⊥
unfolding missing encoding is_too_long encoded_length read_on
tenth_request reply lawful = not_both refl lawful.0.answered

-- the close before the last wait is over;
closed_too_soon : Lawful forwarding (Close 1 ∷ run (take 30 sought ++ waits 60000 243004)) → ⊥
unfolding missing encoding is_too_long encoded_length read_on
closed_too_soon lawful = not_both refl lawful.0.socket

-- a request for a guest that is known;
asked_though_known : (answer : Io) → Lawful forwarding (LinkWrite asked answer ∷ run (take 10 visited)) → ⊥
unfolding missing encoding is_too_long encoded_length read_on
asked_though_known reply lawful = not_both refl lawful.0.answered

-- a peer taken while there is room for no flow more;
abbrev pub narrow : Config
narrow = record forwarding { flows = 1 }

abbrev pub full : List Entry
full = take 6 visited ++ Wait (reading Link ∷ reading (Listener 0) ∷ reading (Tcp 1) ∷ []) (Some 1000) Ready (reading (Listener 0) ∷ []) ∷ Now 6 ∷ []

taken_without_room : May narrow (run full) (CallAccept 0 2) → ⊥
unfolding missing encoding is_too_long encoded_length read_on
taken_without_room may = not_both refl may.socket

taken_with_room : may forwarding (run full) (CallAccept 0 2) ≡ true
unfolding missing encoding is_too_long encoded_length read_on
taken_with_room = refl

-- a peer that would pass for a guest, and isn't refused at once;
passes_for_a_guest : May forwarding (run (take 5 unshown)) (CallLinkWrite asked) → ⊥
unfolding missing encoding is_too_long encoded_length read_on
passes_for_a_guest may = cc (may.due)

-- a peer that the last wait didn't report; a listener that is closed in the run.
taken_unreported : May forwarding (run (take 8 visited)) (CallAccept 0 2) → ⊥
unfolding missing encoding is_too_long encoded_length read_on
taken_unreported may = not_both refl may.served

listener_closed : May forwarding (run (take 8 visited)) (CallClose 0) → ⊥
unfolding missing encoding is_too_long encoded_length read_on
listener_closed may = not_both refl may.socket

-- ---- datagrams

-- a port of the host for datagrams that is given to port 4000 of 10.0.2.15
abbrev pub giving : Config
giving = record usual { forwards = record { proto = UdpProto; host = endpoint 2130706433 6000; guest = endpoint 167772687 4000 } ∷ [] }

abbrev pub link_comes : ℕ → List Entry
link_comes moment = Wait (reading Link ∷ reading (Udp 0) ∷ []) None Ready (reading Link ∷ []) ∷ Now moment ∷ []

abbrev pub peer_comes : ℕ → List Entry
peer_comes moment = Wait (reading Link ∷ reading (Udp 0) ∷ []) None Ready (reading (Udp 0) ∷ []) ∷ Now moment ∷ UdpRecv 0 65507 (From peer 2) (hex "6f6b") ∷ []

abbrev pub unknown : List Entry
unknown = UdpOpen 0 (endpoint 2130706433 6000) MadeDone ∷ Now 0 ∷ peer_comes 5

abbrev pub learnt : List Entry
learnt = unknown ++ LinkWrite asked (Done 46) ∷ link_comes 6 ++ comes told

-- a peer speaks first and its guest is asked for, a second time it is heard, and what that port says goes out on the same socket
abbrev pub given : List Entry
given = learnt ++ peer_comes 7 ++ LinkWrite answer (Done 48) ∷ link_comes 8 ++ comes datagram ++ UdpSend 0 target_of_row (hex "6869") SentDone ∷ []

abbrev pub given_run : List Entry
given_run = run (given ++ Wait (reading Link ∷ reading (Udp 0) ∷ []) None Stop [] ∷ Close 0 ∷ [])

given_lawful : Lawful giving given_run
unfolding missing encoding is_too_long encoded_length
given_lawful = is_sound giving given_run refl

given_finished : Finished giving given_run
unfolding missing encoding is_too_long encoded_length
given_finished = record { ended = refl; none_due = refl; closed = refl }

-- What may not come: the datagram, to a hardware address that wasn't learnt;
unlearnt : May giving (run unknown) (CallLinkWrite answer) → ⊥
unfolding missing encoding is_too_long encoded_length
unlearnt may = not_both refl may.answered

-- a second request for one datagram;
asked_twice : May giving (run (unknown ++ LinkWrite asked (Done 46) ∷ [])) (CallLinkWrite asked) → ⊥
unfolding missing encoding is_too_long encoded_length
asked_twice may = not_both refl may.answered

-- a datagram of a forward to another port, be it the one last used;
abbrev pub other_datagram : List ℕ
other_datagram = hex "52550a00020252540012345608004500001e000100004011acb80a00020fc00002070fa10009000a00006869"

abbrev pub used_last : List Entry
used_last = learnt ++ link_comes 7 ++ comes other_datagram ++ UdpOpen 1 anywhere MadeDone ∷ UdpSend 1 target_of_row (hex "6869") SentDone ∷ peer_comes 8

to_its_port : may giving (run used_last) (CallLinkWrite answer) ≡ true
unfolding missing encoding is_too_long encoded_length
to_its_port = refl

to_the_port_last_used : May giving (run used_last) (CallLinkWrite (hex "0000002c52540012345652550a00020208004500001e000000004011448cc63364010a00020f00070fa1000a4a836f6b")) → ⊥
unfolding missing encoding is_too_long encoded_length
to_the_port_last_used may = not_both refl may.answered

-- a socket of its own for a port to which a forward is given;
opened_beside : May giving (run (learnt ++ link_comes 7 ++ comes datagram)) (CallUdpOpen 1 anywhere) → ⊥
unfolding missing encoding is_too_long encoded_length
opened_beside may = cc (may.due)

-- a forward's socket that is closed, since it wasn't used for long.
closed_for_idleness : May giving (run (given ++ link_comes 240008)) (CallClose 0) → ⊥
unfolding missing encoding is_too_long encoded_length
closed_for_idleness may = not_both refl may.socket

-- ---- questions to the name server, from a port to which a forward is given

abbrev pub naming : Config
naming = record giving { resolver = Some resolver }

-- the question goes out on a socket of its own, and the answer comes back there; what the port says to others goes out on the forward's
abbrev pub named : List Entry
named = UdpOpen 0 (endpoint 2130706433 6000) MadeDone ∷ Now 0 ∷ link_comes 5 ++ comes question ++ UdpOpen 1 anywhere MadeDone ∷ UdpSend 1 resolver asked_name SentDone ∷ []

abbrev pub both_wait : List Entry
both_wait = Wait (reading Link ∷ reading (Udp 0) ∷ reading (Udp 1) ∷ []) (Some 10000) Ready (reading (Udp 1) ∷ []) ∷ Now 6 ∷ UdpRecv 1 65507 (From resolver 13) name_answer
    ∷ Close 1 ∷ LinkWrite name_reply (Done 59) ∷ []

abbrev pub named_run : List Entry
named_run = run (named ++ both_wait ++ link_comes 7 ++ comes datagram ++ UdpSend 0 target_of_row (hex "6869") SentDone ∷ Wait (reading Link ∷ reading (Udp 0) ∷ []) None Stop [] ∷ Close 0 ∷ [])

named_lawful : Lawful naming named_run
unfolding missing encoding is_too_long encoded_length
named_lawful = is_sound naming named_run refl

named_finished : Finished naming named_run
unfolding missing encoding is_too_long encoded_length
named_finished = record { ended = refl; none_due = refl; closed = refl }

-- What may not come: the question on the forward's socket, or the forward's socket closed as that of a question.
question_on_forward : May naming (run (UdpOpen 0 (endpoint 2130706433 6000) MadeDone ∷ Now 0 ∷ link_comes 5 ++ comes question)) (CallUdpSend 0 resolver asked_name) → ⊥
unfolding missing encoding is_too_long encoded_length
question_on_forward may = cc (may.due)

forward_closed : May naming (run named) (CallClose 0) → ⊥
unfolding missing encoding is_too_long encoded_length
forward_closed may = not_both refl may.socket

-- ---- ports that are given while the run goes on

-- port 5555 of the host is asked for with the number 0, and port 6000 for datagrams with 1, which is taken back
abbrev pub adding : Config
adding = record usual {
  added = (0, record { proto = TcpProto; host = endpoint 2130706433 5555; guest = endpoint 167772687 22 })
      ∷ (1, record { proto = UdpProto; host = endpoint 2130706433 6000; guest = endpoint 167772687 4000 }) ∷ [];
  removed = 1 ∷ [];
}

-- both are opened; a peer is taken at the one, and heard at the other, which is closed in the run
abbrev pub added : List Entry
added =
    Now 0 ∷ Wait (reading Link ∷ []) None Ready [] ∷ Now 4 ∷ Listen 0 (endpoint 2130706433 5555) MadeDone ∷ UdpOpen 1 (endpoint 2130706433 6000) MadeDone
    ∷ Wait (reading Link ∷ reading (Listener 0) ∷ reading (Udp 1) ∷ []) None Ready (reading (Listener 0) ∷ reading (Udp 1) ∷ []) ∷ Now 5
    ∷ Accept 0 2 (FromPeer (endpoint 2130706433 40000)) ∷ []

abbrev pub added_run : List Entry
added_run = run (added ++ Close 1 ∷ Wait (reading Link ∷ []) None Stop [] ∷ Close 0 ∷ Close 2 ∷ [])

added_lawful : Lawful adding added_run
unfolding missing encoding is_too_long encoded_length read_on
added_lawful = is_sound adding added_run refl

added_finished : Finished adding added_run
unfolding missing encoding is_too_long encoded_length read_on
added_finished = record { ended = refl; none_due = refl; closed = refl }

-- what comes at it goes to the port of the guest for which it was asked
added_leads : may adding (run (take 7 added ++ UdpRecv 1 65507 (From peer 2) (hex "6f6b") ∷ [])) (CallLinkWrite asked) ≡ true
unfolding missing encoding is_too_long encoded_length read_on
added_leads = refl

-- What may not come: one before the first turn, at another port, for another number, or by the other protocol; or a close of one that isn't taken back.
added_early : May adding (run (Now 0 ∷ [])) (CallListen 0 (endpoint 2130706433 5555)) → ⊥
unfolding missing encoding is_too_long encoded_length read_on
added_early may = not_both refl may.place

added_elsewhere : May adding (run (take 3 added)) (CallListen 0 (endpoint 2130706433 5557)) → ⊥
unfolding missing encoding is_too_long encoded_length read_on
added_elsewhere may = not_both refl may.place

added_unasked : May adding (run (take 5 added)) (CallListen 2 (endpoint 2130706433 5555)) → ⊥
unfolding missing encoding is_too_long encoded_length read_on
added_unasked may = not_both refl may.place

added_otherwise : May adding (run (take 3 added)) (CallUdpOpen 0 (endpoint 2130706433 5555)) → ⊥
unfolding missing encoding is_too_long encoded_length read_on
added_otherwise may = not_both refl may.place

kept_in_the_run : May adding (run added) (CallClose 0) → ⊥
unfolding missing encoding is_too_long encoded_length read_on
kept_in_the_run may = not_both refl may.socket
