-- A test that says of a trace whether it is lawful, by computing.
use Rattle.std.specs.Prelude.{ℕ, ◌==◌, ◌&&◌, not, nat_le, Bool, true, false, List, [], ◌∷◌, drop, length, bytes_eq, Option, Some, None}
use Rattle.world_face.specs.Journal.{Entry, Call, call_of, CallNow, CallLinkRead, CallLinkWrite, CallConnect, CallListen, CallClose, CallUdpOpen, CallUdpSend, CallFileLen, CallFileRead}
use Rattle.world_face.specs.Frames.{missing, partial, encoding, tail, is_blocked}
use Rattle.world_face.specs.Limits.{most_to_link}
use Rattle.net_octets.specs.declared.Endpoint.{Endpoint}
use Rattle.slirp_settings.specs.Addresses.{Config}
use Rattle.slirp_settings.specs.Classes.{same_endpoint}
use Rattle.spec_flows.specs.Check.{is_close, is_connect, may_flow}
use Rattle.spec_run.specs.Laws.{due, has_place, has_socket, is_served, is_answered, goes_on}

-- framing
abbrev pub may_offer : List ℕ → List ℕ → Bool
may_offer [] octets = bytes_eq octets (encoding (drop 4 octets)) && nat_le (length octets) most_to_link
may_offer (x ∷ rest) octets = bytes_eq octets (x ∷ rest)

abbrev pub may_frame : List Entry → Call → Bool
may_frame past (CallLinkRead asked) = asked == missing (partial past)
may_frame past (CallLinkWrite octets) = may_offer (tail past) octets && not (is_blocked past)
may_frame past _ = true

-- the call that is due, if one is
abbrev pub is_now : Call → Bool
is_now CallNow = true
is_now _ = false

abbrev pub is_listen : ℕ → Endpoint → Call → Bool
is_listen socket at (CallListen s a) = (s == socket) && same_endpoint a at
is_listen socket at _ = false

abbrev pub is_udp_open : ℕ → Endpoint → Call → Bool
is_udp_open socket at (CallUdpOpen s a) = (s == socket) && same_endpoint a at
is_udp_open socket at _ = false

abbrev pub is_udp_send : ℕ → Endpoint → List ℕ → Call → Bool
is_udp_send socket to octets (CallUdpSend s t o) = (s == socket) && same_endpoint t to && bytes_eq o octets
is_udp_send socket to octets _ = false

abbrev pub is_file_len : List ℕ → Call → Bool
is_file_len name (CallFileLen n) = bytes_eq n name
is_file_len name _ = false

abbrev pub is_file_read : List ℕ → ℕ → ℕ → Call → Bool
is_file_read name place asked (CallFileRead n p a) = bytes_eq n name && (p == place) && (a == asked)
is_file_read name place asked _ = false

abbrev pub is_call : Call → Call → Bool
is_call CallNow call = is_now call
is_call (CallConnect socket to) call = is_connect socket to call
is_call (CallClose socket) call = is_close socket call
is_call (CallListen socket at) call = is_listen socket at call
is_call (CallUdpOpen socket at) call = is_udp_open socket at call
is_call (CallUdpSend socket to octets) call = is_udp_send socket to octets call
is_call (CallFileLen name) call = is_file_len name call
is_call (CallFileRead name place asked) call = is_file_read name place asked call
is_call _ call = false

abbrev pub may_due : Option Call → Call → Bool
may_due None call = true
may_due (Some d) call = is_call d call

-- the next call may come
abbrev pub may : Config → List Entry → Call → Bool
may config past call =
    may_frame past call && may_due (due config past) call && has_place config past call && has_socket config past call
    && is_served past call && is_answered config past call && goes_on config past call
    && may_flow config past call

-- every call could follow its past
abbrev pub is_lawful : Config → List Entry → Bool
is_lawful config [] = true
is_lawful config (e ∷ past) = may config past (call_of e) && is_lawful config past
