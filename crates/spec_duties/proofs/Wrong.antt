-- Runs in which a call is not as it must be: no proof of it can be.
use Rattle.std.specs.Fmt.{digits}
use Rattle.std.proofs.Common.{true, false, List, [], ◌∷◌, ◌++◌, take, ◌≤◌, ◌<◌, ◌⊎◌, inl, inr, Some, None, arith, refl}
use Rattle.poll_list.specs.declared.Who.TheVariants.{Link, Listener, Tcp, Udp}
use Rattle.world_face.specs.declared.Io.TheVariants.{Done, NotYet, End}
use Rattle.world_face.specs.declared.Made.TheVariants.{Done as MadeDone}
use Rattle.world_face.specs.declared.Accepted.TheVariants.{From as Peer}
use Rattle.world_face.specs.declared.Joined.TheVariants.{Yes}
use Rattle.world_face.specs.declared.Waited.TheVariants.{Ready}
use Rattle.world_face.specs.Journal.{Accept, Entry, Now, Wait, LinkRead, LinkWrite, Close, Connected, Listen, TcpEnd, TcpRead, TcpWrite, CallWait, CallLinkWrite, CallClose}
use Rattle.world_face.specs.Frames.{encoding, missing, is_too_long, encoded_length}
use Rattle.tlv_table.specs.Reading.{read_on}
use Rattle.slirp_settings.specs.Addresses.{Config, endpoint}
use Rattle.slirp_settings.specs.Settings.{usual}
use Rattle.spec_flows.proofs.Writing.{hex, run, want}
use Rattle.spec_run.specs.Laws.{May}
use Rattle.spec_duties.specs.Duties.{Must}
use Rattle.spec_flow.proofs.Refuting.{apart, never, never_false, pos_same}
use Rattle.spec_flows.proofs.Openings.{all_came, called, opened, ten_taken}
use Rattle.spec_flows.proofs.TcpForwards.{forwarding}
use Rattle.spec_flows.proofs.TcpGivesUp.{given_up}
use Rattle.spec_flows.proofs.TcpHeaders.{both_came}
use Rattle.spec_flows.proofs.TcpRows.{late}
use Rattle.spec_duties.proofs.Rows.{asked_and_answered, goes_again, taken_at_last, window_closed, with_files}

-- a ring of four octets
abbrev pub tiny : Config
tiny = record usual { ring = 4 }

-- A connection with a ring of four octets.
abbrev pub tiny_opened : List Entry
tiny_opened =
    called
    ++ Now 1010
    ∷ Connected 0 Yes
    ∷ LinkWrite (hex "0000003a52540012345652550a00020208004500002c000000004006acb6c00002070a00020f00500fa00003d090000003e960120004e58f0000020405b4") (Done 62)
    ∷ Wait (want Link true false ∷ want (Tcp 0) true false ∷ []) (Some 1000) Ready (want Link true false ∷ [])
    ∷ Now 1020
    ∷ []

-- an acknowledgement of the guest, with a window of two octets
abbrev pub window_came : List Entry
window_came =
    LinkRead 4 (Done 4) (hex "00000036")
    ∷ LinkRead 54 (Done 54) (hex "52550a000202525400123456080045000028000900004006acb10a00020fc00002070fa00050000003e90003d09150100002fd4e0000")
    ∷ []

-- ten octets came and are acknowledged, and the host takes octets
abbrev pub ten_acknowledged : List Entry
ten_acknowledged = run (opened ++ ten_taken ++ Wait (want Link true false ∷ want (Tcp 0) true true ∷ []) None Ready (want (Tcp 0) false true ∷ []) ∷ Now 1030 ∷ [])

-- The host takes nothing, and is not waited for.
forgets_a_host_that_took_nothing : Must usual (run (TcpWrite 0 (hex "00010203040506070809") NotYet ∷ []) ++ ten_acknowledged) (CallWait (want Link true false ∷ want (Tcp 0) true false ∷ []) None) → ⊥
unfolding missing encoding is_too_long encoded_length read_on
forgets_a_host_that_took_nothing must = never (must.waits_for.to_write (Tcp 0) refl)

-- three octets of the host were read, and the link took nothing of them; then it is free again
abbrev pub three_read : List Entry
three_read = opened ++ all_came ++ Wait (want Link true false ∷ want (Tcp 0) true false ∷ []) None Ready (want (Tcp 0) true false ∷ []) ∷ Now 1030 ∷ TcpRead 0 16384 (Done 3)
    (hex "010203") ∷ LinkWrite (hex "0000003952540012345652550a00020208004500002b000100004006acb6c00002070a00020f00500fa00003d091000003e95018fffff9430000010203") NotYet ∷ []

abbrev pub three_left : List Entry
three_left = run (three_read ++ Wait (want Link true true ∷ want (Tcp 0) true false ∷ []) (Some 1000) Ready (want Link false true ∷ []) ∷ Now 1040 ∷ [])

-- Octets that were not taken are counted as sent, and the run waits.
counts_as_sent_what_was_not_taken : Must usual (three_left) (CallWait (want Link true false ∷ want (Tcp 0) true false ∷ []) (Some 1000)) → ⊥
unfolding missing encoding is_too_long encoded_length read_on
counts_as_sent_what_was_not_taken must = too_few ((must.settled refl 0 _ refl).sends.octets refl)
  where
    too_few : 3 ≤ 0 → ⊥
    too_few is = absurd (omega (arith, is))

-- four octets of the host fill a ring of four, and are under way
abbrev pub four_sent : List Entry
four_sent = run (tiny_opened ++ all_came ++ Wait (want Link true false ∷ want (Tcp 0) true false ∷ []) None Ready (want (Tcp 0) true false ∷ []) ∷ Now 1030 ∷ TcpRead 0 4 (Done 4)
    (hex "01020304") ∷ LinkWrite (hex "0000003a52540012345652550a00020208004500002c000100004006acb5c00002070a00020f00500fa00003d091000003e950180004f93a000001020304") (Done 62) ∷ [])

-- A run waits for more of a host whose ring is full.
always_waits_to_read : Must tiny (four_sent) (CallWait (want Link true false ∷ want (Tcp 0) true false ∷ []) (Some 1000)) → ⊥
unfolding missing encoding is_too_long encoded_length read_on
always_waits_to_read must = never_false (must.waits_for.to_read (Tcp 0))

-- The link took two octets of an answer, and is not waited for.
forgets_a_blocked_link : Must usual (run (take 6 taken_at_last)) (CallWait [] None) → ⊥
unfolding missing encoding is_too_long encoded_length read_on
forgets_a_blocked_link must = never (must.waits_for.to_write Link refl)

-- Nothing of the answer went out, though the link is free.
leaves_an_answer : Must usual (run (take 5 taken_at_last)) (CallWait (want Link true false ∷ []) None) → ⊥
unfolding missing encoding is_too_long encoded_length read_on
leaves_an_answer must = never (must.out refl)

-- A peer spoke on a socket, and isn't heard.
leaves_a_peer_unheard : Must usual (run (take 9 asked_and_answered)) (CallWait (want Link true false ∷ want (Udp 0) true false ∷ []) (Some 239985)) → ⊥
unfolding missing encoding is_too_long encoded_length read_on
leaves_a_peer_unheard must = never_false ((must.served (Udp 0)).reading)

-- A host takes octets, and gets none.
leaves_a_host_without_octets : Must usual ten_acknowledged (CallWait (want Link true false ∷ want (Tcp 0) true true ∷ []) None) → ⊥
unfolding missing encoding is_too_long encoded_length read_on
leaves_a_host_without_octets must = never_false ((must.served (Tcp 0)).writing)

-- The length of a frame was read, and the frame isn't.
stops_within_a_frame : Must usual (run (take 4 asked_and_answered)) (CallWait (want Link true false ∷ []) None) → ⊥
unfolding missing encoding is_too_long encoded_length read_on
stops_within_a_frame must = never_false ((must.served Link).reading)

-- A run waits for no time, though nothing is to be done at any.
never_sleeps : Must usual (run (take 1 taken_at_last)) (CallWait (want Link true false ∷ []) (Some 0)) → ⊥
unfolding missing encoding is_too_long encoded_length read_on
never_sleeps must = must.from

-- A run waits for no time, though there is time for a host to connect.
hardly_sleeps : Must usual (run (take 6 late)) (CallWait (want Link true false ∷ want (Tcp 0) false true ∷ []) (Some 0)) → ⊥
unfolding missing encoding is_too_long encoded_length read_on
hardly_sleeps must = too_soon must.from
  where
    too_soon : (76000 ≤ 1000) ⊎ ⊥ → ⊥
    too_soon (inl is) = absurd (omega (arith, is))
    too_soon (inr none) = none

-- A SYN-ACK does not go out again in a minute.
never_sends_again : Must usual (run (take 11 given_up ++ Now 61010 ∷ [])) (CallWait (want Link true false ∷ want (Tcp 0) true false ∷ []) (Some 60000)) → ⊥
unfolding missing encoding is_too_long encoded_length read_on
never_sends_again must = too_late ((must.settled refl 0 _ refl).resends.0)
  where
    too_late : 61010 < 61010 → ⊥
    too_late is = absurd (omega (arith, is))

-- A run waits without end, though a SYN-ACK is under way.
sleeps_without_end : Must usual (run (take 10 given_up)) (CallWait (want Link true false ∷ want (Tcp 0) true false ∷ []) None) → ⊥
unfolding missing encoding is_too_long encoded_length read_on
sleeps_without_end must = must.until

-- A packet of a file goes again in 5,000 milliseconds, and the wait is shorter.
wakes_before_a_packet_is_due : Must with_files (run (take 8 goes_again)) (CallWait (want Link true false ∷ []) (Some 4999)) → ⊥
unfolding missing encoding is_too_long encoded_length read_on digits
wakes_before_a_packet_is_due must = too_soon must.from
  where
    too_soon : (5005 ≤ 5004) ⊎ ⊥ → ⊥
    too_soon (inl low) = absurd (omega (arith, low))
    too_soon (inr none) = none

-- A socket is open 240,000 milliseconds after its last use.
keeps_an_idle_socket : Must usual (run (take 8 asked_and_answered ++ Now 240005 ∷ [])) (CallWait (want Link true false ∷ want (Udp 0) true false ∷ []) (Some 0)) → ⊥
unfolding missing encoding is_too_long encoded_length read_on
keeps_an_idle_socket must = too_late (must.unused.0)
  where
    too_late : 240005 < 240005 → ⊥
    too_late is = absurd (omega (arith, is))

-- A host has not connected in 75,000 milliseconds.
connects_for_ever : Must usual (run (take 7 late ++ Now 76000 ∷ [])) (CallWait (want Link true false ∷ want (Tcp 0) false true ∷ []) (Some 0)) → ⊥
unfolding missing encoding is_too_long encoded_length read_on
connects_for_ever must = too_late ((must.closed 0 _ refl).connects.0)
  where
    too_late : 76000 < 76000 → ⊥
    too_late is = absurd (omega (arith, is))

-- A port that is given to a guest is closed in the run.
closes_a_listener : May forwarding (run (Listen 0 (endpoint 2130706433 5555) MadeDone ∷ Now 0 ∷ Wait (want Link true false ∷ want (Listener 0) true false ∷ []) None Ready
    (want (Listener 0) true false ∷ []) ∷ Now 5 ∷ [])) (CallClose 0) → ⊥
unfolding missing encoding is_too_long encoded_length read_on
closes_a_listener must = never must.socket

-- A flow is closed when its SYN-ACK was not answered in a second.
resets_at_the_first_expiry : May usual (run (take 12 given_up)) (CallClose 0) → ⊥
unfolding missing encoding is_too_long encoded_length read_on
resets_at_the_first_expiry must = never must.socket

-- of three octets two went out, as many as the guest takes, and the host ended
abbrev pub one_unsent : List Entry
one_unsent = run (opened ++ window_came ++ Wait (want Link true false ∷ want (Tcp 0) true false ∷ []) None Ready (want (Tcp 0) true false ∷ []) ∷ Now 1030 ∷ TcpRead 0 16384
    (Done 3) (hex "010203") ∷ LinkWrite (hex "0000003852540012345652550a00020208004500002a000100004006acb7c00002070a00020f00500fa00003d091000003e95018fffffc4400000102") (Done 60)
    ∷ Wait (want Link true false ∷ want (Tcp 0) true false ∷ []) (Some 1000) Ready (want (Tcp 0) true false ∷ []) ∷ Now 1040 ∷ TcpRead 0 16384 End [] ∷ [])

-- A flow's end goes out, though an octet of it did not.
ends_before_all_is_out : May usual (one_unsent) (CallLinkWrite (hex "0000003652540012345652550a000202080045000028000200004006acb8c00002070a00020f00500fa00003d093000003e95011fffffd4d0000")) → ⊥
unfolding missing encoding is_too_long encoded_length read_on
ends_before_all_is_out must = apart 2 3 refl (pos_same 2 3 (must.flows.touches.sends_end_after_all refl).1)

-- A block of a file isn't acknowledged, and the run waits without end.
sends_no_packet_again : Must with_files (run (take 8 goes_again)) (CallWait (want Link true false ∷ []) None) → ⊥
unfolding missing encoding is_too_long encoded_length read_on digits
sends_no_packet_again must = must.until

-- it is to go again, and the link takes nothing of it
abbrev pub packet_blocked : List Entry
packet_blocked = take 10 goes_again ++ LinkWrite (hex "0000003152540012345652550a00020208004500002300010000401162b90a0002020a00020f004507d0000f1b4400030001616263") NotYet ∷ []

-- A wait is cut short for it, though it waits for the link.
wakes_for_a_packet_that_waits_for_the_link : Must with_files (run packet_blocked) (CallWait (want Link false true ∷ []) (Some 0)) → ⊥
unfolding missing encoding is_too_long encoded_length read_on digits
wakes_for_a_packet_that_waits_for_the_link must = too_soon must.from
  where
    too_soon : (10005 ≤ 5005) ⊎ ⊥ → ⊥
    too_soon (inl is) = absurd (omega (arith, is))
    too_soon (inr never) = never

-- a peer's connection was accepted, and its guest's hardware address asked for
abbrev pub asked_once : List Entry
asked_once =
    Listen 0 (endpoint 2130706433 5555) MadeDone
    ∷ Now 0
    ∷ Wait (want Link true false ∷ want (Listener 0) true false ∷ []) None Ready (want (Listener 0) true false ∷ [])
    ∷ Now 5
    ∷ Accept 0 1 (Peer (endpoint 2130706433 40000))
    ∷ LinkWrite (hex "0000002affffffffffff52550a0002020806000108000604000152550a0002020a0002020000000000000a00020f") (Done 46)
    ∷ []

-- It isn't asked for again, and the run waits without end.
asks_a_guest_once : Must forwarding (run asked_once) (CallWait (want Link true false ∷ want (Listener 0) true false ∷ want (Tcp 1) true false ∷ []) None) → ⊥
unfolding missing encoding is_too_long encoded_length read_on
asks_a_guest_once must = must.until

-- A minute later it wasn't asked for again, and the run waits.
asks_no_more : Must forwarding (run (asked_once ++ Wait (want Link true false ∷ want (Listener 0) true false ∷ want (Tcp 1) true false ∷ []) (Some 1000) Ready [] ∷ Now 60005 ∷ []))
    (CallWait (want Link true false ∷ want (Listener 0) true false ∷ want (Tcp 1) true false ∷ []) (Some 0)) → ⊥
unfolding missing encoding is_too_long encoded_length read_on
asks_no_more must = too_late ((must.settled refl 1 _ refl).resends.0)
  where
    too_late : 60005 < 60005 → ⊥
    too_late is = absurd (omega (arith, is))

-- A flow is in TIME-WAIT, and the run waits without end.
rests_for_ever : Must usual (run (both_came ++ TcpEnd 0 MadeDone ∷ Close 0 ∷ [])) (CallWait (want Link true false ∷ []) None) → ⊥
unfolding missing encoding is_too_long encoded_length read_on
rests_for_ever must = must.until

-- Nothing asks whether it is open, and the run waits without end.
asks_about_no_window : Must usual (run window_closed) (CallWait (want Link true false ∷ want (Tcp 0) true false ∷ []) None) → ⊥
unfolding missing encoding is_too_long encoded_length read_on
asks_about_no_window must = must.until

-- A minute later it wasn't asked about, and the run waits.
asks_about_it_late : Must usual (run (window_closed ++ Wait (want Link true false ∷ want (Tcp 0) true false ∷ []) (Some 60000) Ready [] ∷ Now 61030 ∷ []))
    (CallWait (want Link true false ∷ want (Tcp 0) true false ∷ []) (Some 60000)) → ⊥
unfolding missing encoding is_too_long encoded_length read_on
asks_about_it_late must = too_late ((must.settled refl 0 _ refl).resends.0)
  where
    too_late : 61030 < 61030 → ⊥
    too_late is = absurd (omega (arith, is))

-- A guest that answers nothing is called a tenth time.
calls_a_tenth_time : Must usual (run (take 36 given_up ++ LinkWrite
    (hex "0000003a52540012345652550a00020208004500002c000900004006acadc00002070a00020f00500fa00003d090000003e96012ffffe5930000020405b4") (Done 62) ∷ []))
    (CallWait (want Link true false ∷ want (Tcp 0) true false ∷ []) (Some 60000)) → ⊥
unfolding missing encoding is_too_long encoded_length read_on
calls_a_tenth_time must = never (must.closed 0 _ refl).calls

-- A guest's hardware address is waited for, and the run waits for no time.
waits_for_no_time : Must forwarding (run (asked_once ++ Wait (want Link true false ∷ want (Listener 0) true false ∷ want (Tcp 1) true false ∷ []) (Some 1000) Ready [] ∷ Now 3005 ∷ []))
    (CallWait (want Link true false ∷ want (Listener 0) true false ∷ want (Tcp 1) true false ∷ []) (Some 0)) → ⊥
unfolding missing encoding is_too_long encoded_length read_on
waits_for_no_time must = must.some_time refl

-- A SYN-ACK went out for the third time, and the wait is cut short after a second.
wakes_too_often : Must usual (run (take 16 given_up)) (CallWait (want Link true false ∷ want (Tcp 0) true false ∷ []) (Some 1000)) → ⊥
unfolding missing encoding is_too_long encoded_length read_on
wakes_too_often must = too_soon must.from
  where
    too_soon : (8010 ≤ 5010) ⊎ ⊥ → ⊥
    too_soon (inl is) = absurd (omega (arith, is))
    too_soon (inr none) = none
