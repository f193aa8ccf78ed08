-- Worked runs with TCP are lawful, and what breaks them is refused by the law.
use Rattle.std.proofs.Common.{◌≡◌, Bool, true, false, [], ◌∷◌, take, None, refl}
use Rattle.world_face.specs.declared.Io.{Io}
use Rattle.world_face.specs.declared.Io.TheVariants.{Done}
use Rattle.world_face.specs.declared.Made.{Made}
use Rattle.world_face.specs.declared.Waited.{Waited}
use Rattle.world_face.specs.Journal.{Wait, LinkWrite, Connect, TcpRead, TcpWrite}
use Rattle.world_face.specs.Frames.{encoding, missing, is_too_long, encoded_length}
use Rattle.tlv_table.specs.Reading.{read_on}
use Rattle.slirp_settings.specs.Addresses.{endpoint}
use Rattle.slirp_settings.specs.Settings.{usual}
use Rattle.spec_flows.proofs.Writing.{hex, run}
use Rattle.spec_flows.proofs.TcpFailures.{failed_read}
use Rattle.spec_flows.proofs.TcpForwards.{forwarding, visited, unshown}
use Rattle.spec_flows.proofs.TcpGivesUp.{given_up}
use Rattle.spec_flows.proofs.TcpPairs.{two_flows}
use Rattle.spec_flows.proofs.TcpRefused.{no_syn_ack, no_other_octets, no_other_port, no_wait}
use Rattle.spec_flows.proofs.TcpResets.{reset}
use Rattle.spec_flows.proofs.TcpRows.{late, unconnected}
use Rattle.spec_flows.proofs.TcpWraps.{wrapped}
use Rattle.spec_flows.proofs.TcpWrites.{short_writes}
use Rattle.spec_run.specs.Laws.{Finished, Lawful}
use Rattle.spec_run.proofs.Checks.{is_sound}

-- the host connects at the second question
late_lawful : Lawful usual (run late)
unfolding missing encoding is_too_long encoded_length read_on
late_lawful = is_sound usual (run late) refl

late_finished : Finished usual (run late)
unfolding missing encoding is_too_long encoded_length read_on
late_finished = record { ended = refl; none_due = refl; closed = refl }

-- the host does not connect
unconnected_lawful : Lawful usual (run unconnected)
unfolding missing encoding is_too_long encoded_length read_on
unconnected_lawful = is_sound usual (run unconnected) refl

unconnected_finished : Finished usual (run unconnected)
unfolding missing encoding is_too_long encoded_length read_on
unconnected_finished = record { ended = refl; none_due = refl; closed = refl }

-- the host takes octets in parts
short_writes_lawful : Lawful usual (run short_writes)
unfolding missing encoding is_too_long encoded_length read_on
short_writes_lawful = is_sound usual (run short_writes) refl

short_writes_finished : Finished usual (run short_writes)
unfolding missing encoding is_too_long encoded_length read_on
short_writes_finished = record { ended = refl; none_due = refl; closed = refl }

-- the guest's numbers pass 2^32
wrapped_lawful : Lawful usual (run wrapped)
unfolding missing encoding is_too_long encoded_length read_on
wrapped_lawful = is_sound usual (run wrapped) refl

wrapped_finished : Finished usual (run wrapped)
unfolding missing encoding is_too_long encoded_length read_on
wrapped_finished = record { ended = refl; none_due = refl; closed = refl }

-- the guest resets, and opens again
reset_lawful : Lawful usual (run reset)
unfolding missing encoding is_too_long encoded_length read_on
reset_lawful = is_sound usual (run reset) refl

reset_finished : Finished usual (run reset)
unfolding missing encoding is_too_long encoded_length read_on
reset_finished = record { ended = refl; none_due = refl; closed = refl }

-- a read on the socket fails
failed_read_lawful : Lawful usual (run failed_read)
unfolding missing encoding is_too_long encoded_length read_on
failed_read_lawful = is_sound usual (run failed_read) refl

failed_read_finished : Finished usual (run failed_read)
unfolding missing encoding is_too_long encoded_length read_on
failed_read_finished = record { ended = refl; none_due = refl; closed = refl }

-- a SYN-ACK goes out nine times
given_up_lawful : Lawful usual (run given_up)
unfolding missing encoding is_too_long encoded_length read_on
given_up_lawful = is_sound usual (run given_up) refl

given_up_finished : Finished usual (run given_up)
unfolding missing encoding is_too_long encoded_length read_on
given_up_finished = record { ended = refl; none_due = refl; closed = refl }

-- two flows
two_flows_lawful : Lawful usual (run two_flows)
unfolding missing encoding is_too_long encoded_length read_on
two_flows_lawful = is_sound usual (run two_flows) refl

two_flows_finished : Finished usual (run two_flows)
unfolding missing encoding is_too_long encoded_length read_on
two_flows_finished = record { ended = refl; none_due = refl; closed = refl }

-- a peer comes to a port of the host
visited_lawful : Lawful forwarding (run visited)
unfolding missing encoding is_too_long encoded_length read_on
visited_lawful = is_sound forwarding (run visited) refl

visited_finished : Finished forwarding (run visited)
unfolding missing encoding is_too_long encoded_length read_on
visited_finished = record { ended = refl; none_due = refl; closed = refl }

-- a peer would pass for a guest
unshown_lawful : Lawful forwarding (run unshown)
unfolding missing encoding is_too_long encoded_length read_on
unshown_lawful = is_sound forwarding (run unshown) refl

unshown_finished : Finished forwarding (run unshown)
unfolding missing encoding is_too_long encoded_length read_on
unshown_finished = record { ended = refl; none_due = refl; closed = refl }

-- ---- broken runs: no proof that they are lawful can be

-- the SYN-ACK before the host connected
syn_ack_too_early : (answer : Io) → Lawful usual (LinkWrite (hex
    "0000003a52540012345652550a00020208004500002c000000004006acb6c00002070a00020f00500fa00003d090000003e96012ffffe5930000020405b4") answer ∷ run (take 6 late)) → ⊥
syn_ack_too_early answer lawful = no_syn_ack lawful.0.flows

-- octets of a flow on the socket of another
octets_to_another : (answer : Io) → Lawful usual (TcpWrite 1 (hex "03040506070809") answer ∷ run (take 27 two_flows)) → ⊥
octets_to_another answer lawful = no_other_octets lawful.0.flows

-- a connection to another port of the host than the guest asked for
connect_elsewhere : (answer : Made) → Lawful usual (Connect 0 (endpoint 3221225991 81) answer ∷ run (take 5 late)) → ⊥
connect_elsewhere answer lawful = no_other_port lawful.0.flows

-- a wait in place of the connection
wait_in_its_place : (answer : Waited) → Lawful usual (Wait [] None answer [] ∷ run (take 5 late)) → ⊥
wait_in_its_place answer lawful = no_wait lawful.0.flows

not_both : {b : Bool} → b ≡ false → b ≡ true → ⊥
not_both {b} off on = cc

-- the reset that a flow owed, a second time
reset_again : (answer : Io) → Lawful usual (LinkWrite (hex "0000003652540012345652550a000202080045000028000200004006acb8c00002070a00020f00500fa00003d091000003e950140000fd4c0000")
    answer ∷ run (take 19 failed_read)) → ⊥
unfolding missing encoding is_too_long encoded_length read_on
reset_again answer lawful = not_both refl lawful.0.answered

-- a SYN-ACK with an option that isn't the segment's (SACK-permitted), and octets with timestamps, URG, ECE and CWR: a flow's frame is that of the segment and no other
foreign_option : (answer : Io) → Lawful usual (LinkWrite (hex
    "0000003e52540012345652550a000202080045000030000000004006acb2c00002070a00020f00500fa00003d090000003e97012ffffd08c0000020405b404020101") answer ∷ run (take 9 failed_read)) → ⊥
unfolding missing encoding is_too_long encoded_length read_on
foreign_option answer lawful = not_both refl lawful.0.answered

foreign_flags : (answer : Io)
    → Lawful usual (LinkWrite (hex "0000004752540012345652550a000202080045000039000100004006aca8c00002070a00020f00500fa00003d091000003e980f8ffff7f7600030101080a000000010000000068656c6c6f")
    answer ∷ TcpRead 0 16384 (Done 5) (hex "68656c6c6f") ∷ run (take 16 failed_read)) → ⊥
unfolding missing encoding is_too_long encoded_length read_on
foreign_flags answer lawful = not_both refl lawful.0.answered
