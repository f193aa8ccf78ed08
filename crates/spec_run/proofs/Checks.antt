-- What the test passes is lawful.
use Rattle.std.proofs.Common.{◌≡◌, ℕ, ◌≤◌, ◌==◌, ◌&&◌, not, nat_le, Bool, true, false, List, [], ◌∷◌, drop, length, bytes_eq, MatchOption, Option, Some, None, refl, arith}
use Rattle.std.proofs.lemmas.Bool.Decides.{nat_tests}
use Rattle.world_face.specs.Journal.{Entry, Call, call_of, CallNow, CallLinkRead, CallLinkWrite, CallConnect, CallListen, CallClose, CallUdpOpen, CallUdpSend, CallFileLen, CallFileRead}
use Rattle.world_face.specs.Frames.{missing, partial, encoding, tail, is_blocked, MayOffer, MayFrame}
use Rattle.world_face.specs.Limits.{most_to_link}
use Rattle.net_octets.specs.declared.Endpoint.{Endpoint}
use Rattle.slirp_settings.specs.Addresses.{Config}
use Rattle.slirp_settings.specs.Classes.{same_endpoint}
use Rattle.spec_flows.specs.Check.{may_flow}
use Rattle.spec_flows.proofs.Checks.{closes, connects, passes as passes_flows}
use Rattle.spec_run.specs.Check.{may_offer, may_frame, is_now, is_listen, is_udp_open, is_udp_send, is_file_len, is_file_read, is_call, may_due, may, is_lawful}
use Rattle.spec_run.specs.Laws.{due, has_place, has_socket, is_served, is_answered, goes_on, May, Lawful}
use Rattle.spec_run.proofs.Bools.{equal, equal_octets}
use Rattle.spec_run.proofs.Deeds.{gathered}

both : (a b : Bool) → (a && b) ≡ true → (a ≡ true) × (b ≡ true)
both true true is = (refl, refl)
both true false is = cc
both false b is = cc

at_most : (a b : ℕ) → nat_le a b ≡ true → a ≤ b
at_most a b is = grind (arith, nat_tests, is)

is_not : (b : Bool) → not b ≡ true → b ≡ false
is_not true is = cc
is_not false is = refl

equal_endpoints : (a b : Endpoint) → same_endpoint a b ≡ true → a ≡ b
equal_endpoints a b is =
    let parts = both (a.addr.0 == b.addr.0) (a.port == b.port) is in
    let addr : a.addr.0 ≡ b.addr.0 = equal a.addr.0 b.addr.0 parts.0 in
    let port : a.port ≡ b.port = equal a.port b.port parts.1 in
    λ i. record { addr = record { 0 = addr i }; port = port i }

offers : (rest octets : List ℕ) → may_offer rest octets ≡ true → MayOffer rest octets
offers [] octets is =
    let parts = both (bytes_eq octets (encoding (drop 4 octets))) (nat_le (length octets) most_to_link) is in
    (equal_octets octets (encoding (drop 4 octets)) parts.0, at_most (length octets) most_to_link parts.1)
offers (x ∷ rest) octets is = equal_octets octets (x ∷ rest) is

frames : (past : List Entry) (call : Call) → may_frame past call ≡ true → MayFrame past call
frames past (CallLinkRead asked) is = equal asked (missing (partial past)) is
frames past (CallLinkWrite octets) is =
    let parts = both (may_offer (tail past) octets) (not (is_blocked past)) is in
    (offers (tail past) octets parts.0, is_not (is_blocked past) parts.1)
frames past _ is = tt

this_now : (call : Call) → is_now call ≡ true → call ≡ CallNow
this_now CallNow is = refl
this_now _ is = cc

this_listen : (socket : ℕ) (at : Endpoint) (call : Call) → is_listen socket at call ≡ true → call ≡ CallListen socket at
this_listen socket at (CallListen s a) is =
    let parts = both (s == socket) (same_endpoint a at) is in
    λ i. CallListen (equal s socket parts.0 i) (equal_endpoints a at parts.1 i)
this_listen socket at _ is = cc

this_udp_open : (socket : ℕ) (at : Endpoint) (call : Call) → is_udp_open socket at call ≡ true → call ≡ CallUdpOpen socket at
this_udp_open socket at (CallUdpOpen s a) is =
    let parts = both (s == socket) (same_endpoint a at) is in
    λ i. CallUdpOpen (equal s socket parts.0 i) (equal_endpoints a at parts.1 i)
this_udp_open socket at _ is = cc

this_udp_send : (socket : ℕ) (to : Endpoint) (octets : List ℕ) (call : Call) → is_udp_send socket to octets call ≡ true → call ≡ CallUdpSend socket to octets
this_udp_send socket to octets (CallUdpSend s t o) is =
    let parts = both ((s == socket) && same_endpoint t to) (bytes_eq o octets) is in
    let more = both (s == socket) (same_endpoint t to) parts.0 in
    λ i. CallUdpSend (equal s socket more.0 i) (equal_endpoints t to more.1 i) (equal_octets o octets parts.1 i)
this_udp_send socket to octets _ is = cc

this_file_len : (name : List ℕ) (call : Call) → is_file_len name call ≡ true → call ≡ CallFileLen name
this_file_len name (CallFileLen n) is = λ i. CallFileLen (equal_octets n name is i)
this_file_len name _ is = cc

this_file_read : (name : List ℕ) (place asked : ℕ) (call : Call) → is_file_read name place asked call ≡ true → call ≡ CallFileRead name place asked
this_file_read name place asked (CallFileRead n p a) is =
    let parts = both (bytes_eq n name && (p == place)) (a == asked) is in
    let more = both (bytes_eq n name) (p == place) parts.0 in
    λ i. CallFileRead (equal_octets n name more.0 i) (equal p place more.1 i) (equal a asked parts.1 i)
this_file_read name place asked _ is = cc

this : (d call : Call) → is_call d call ≡ true → call ≡ d
this CallNow call is = this_now call is
this (CallConnect socket to) call is = connects socket to call is
this (CallClose socket) call is = closes socket call is
this (CallListen socket at) call is = this_listen socket at call is
this (CallUdpOpen socket at) call is = this_udp_open socket at call is
this (CallUdpSend socket to octets) call is = this_udp_send socket to octets call is
this (CallFileLen name) call is = this_file_len name call is
this (CallFileRead name place asked) call is = this_file_read name place asked call is
this _ call is = cc

dues : (o : Option Call) (call : Call) → may_due o call ≡ true → MatchOption o (Unit {0}) (λ d. call ≡ d)
dues None call is = tt
dues (Some d) call is = this d call is

eight : (a b c d e f g h : Bool) → (a && b && c && d && e && f && g && h) ≡ true → (a ≡ true) × (b ≡ true) × (c ≡ true) × (d ≡ true) × (e ≡ true) × (f ≡ true) × (g ≡ true) × (h ≡ true)
eight a b c d e f g h is =
    let h_is = both (a && b && c && d && e && f && g) h is in
    let g_is = both (a && b && c && d && e && f) g h_is.0 in
    let f_is = both (a && b && c && d && e) f g_is.0 in
    let e_is = both (a && b && c && d) e f_is.0 in
    let d_is = both (a && b && c) d e_is.0 in
    let c_is = both (a && b) c d_is.0 in
    let b_is = both a b c_is.0 in
    (b_is.0, b_is.1, c_is.1, d_is.1, e_is.1, f_is.1, g_is.1, h_is.1)

pub passes : (config : Config) (past : List Entry) (call : Call) → may config past call ≡ true → May config past call
passes config past call is =
    let p = eight (may_frame past call) (may_due (due config past) call) (has_place config past call) (has_socket config past call)
    (is_served past call) (is_answered config past call) (goes_on config past call) (may_flow config past call) is in
    gathered config past call (frames past call p.0) (dues (due config past) call p.1) p.2 p.3 p.4 p.5 p.6 (passes_flows config past call p.7)

-- a trace that passes is lawful
pub is_sound : (config : Config) (past : List Entry) → is_lawful config past ≡ true → Lawful config past
is_sound config [] is = tt
is_sound config (e ∷ past) is =
    let parts = both (may config past (call_of e)) (is_lawful config past) is in
    (passes config past (call_of e) parts.0, is_sound config past parts.1)
