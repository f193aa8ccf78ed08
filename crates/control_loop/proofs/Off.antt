-- As long as few numbers of sockets are drawn the network's calls and waits are on none of the control's, and there is room for the control's item.
use Rattle.std.proofs.Common.{◌≡◌, ℕ, ◌+◌, ◌<◌, ◌≤◌, ◌==◌, ◌&&◌, ◌||◌, nat_le, Bool, true, false, cond, List, [], ◌∷◌, ◌++◌, IsTrue, Option, Some, None, refl, sym, ◌∙◌, ap, arith}
use Rattle.std.proofs.lemmas.Bool.Decides.{nat_tests}
use Rattle.poll_list.specs.Listing.{are_wants, is_who, reads, same_who, writes}
use Rattle.poll_list.specs.declared.Want.{Want}
use Rattle.poll_list.specs.declared.Who.{Who}
use Rattle.poll_list.specs.declared.Who.TheVariants.{Link, Listener, Tcp, Udp}
use Rattle.world_face.specs.Journal.{Allowed, AreAllowed, Entry, call_of, Accept, Close, Connect, Connected, Listen, TcpEnd, TcpRead, TcpWrite, UdpOpen, UdpRecv, UdpSend, Wait}
use Rattle.world_face.specs.declared.Accepted.TheVariants.{From, NotYet as NoPeer, Failed as AcceptFailed}
use Rattle.slirp_settings.specs.Addresses.{Config}
use Rattle.spec_trace.specs.Sockets.{is_among, is_listener, kind_of, next_number, open_sockets}
use Rattle.spec_flows.specs.Book.{book}
use Rattle.spec_flows.specs.Flows.{Flow, flow_of, has_room_for_peer}
use Rattle.spec_run.specs.Laws.{Lawful, May}
use Rattle.spec_run.proofs.Bools.{first_of, second_of}
use Rattle.spec_run.proofs.OpenSockets.{closes_open, hears_on_open, joins_open, open_below, peers_open, sends_on_open}
use Rattle.sim_flows.proofs.Sockets.{open_is_young}
use Rattle.spec_duties.specs.Duties.{Dutiful, Must}
use Rattle.spec_duties.specs.Waiting.{MayBeWritten, MayWriteFlow, WaitsFor, is_for_datagrams, is_read, reads_flow, takes_datagrams, takes_in}
use Rattle.rules_control.specs.Apart.{controls, is_controls, is_of_control}
use Rattle.rules_control.specs.Talk.{listener}
use Rattle.control.proofs.Apartness.{AreFew, AreOff, IsFew, IsOff}

pub below_off : (l n : ℕ) → n < l → nat_le l n ≡ false
below_off l n less = grind (arith, nat_tests, less)

-- numbers of sockets are drawn upward
pub rises : (e : Entry) (past : List Entry) → next_number past ≤ next_number (e ∷ past)
rises (Connect socket to answer) past = omega arith
rises (Listen socket at answer) past = omega arith
rises (UdpOpen socket at answer) past = omega arith
rises (Accept from socket (From peer)) past = omega arith
rises (Accept from socket NoPeer) past = omega arith
rises (Accept from socket AcceptFailed) past = omega arith
rises _ past = omega arith

pub rise : (made past : List Entry) → next_number past ≤ next_number (made ++ past)
rise [] past = omega arith
rise (e ∷ made) past = omega (arith, rise made past, rises e (made ++ past))

module _ (config : Config) (past : List Entry) (lawful : Lawful config past) where
  -- a socket that is open, or opened next, of a run that drew few
  drawn_off : (socket : ℕ) → (socket == next_number past) ≡ true → next_number past + 1 ≤ listener → is_controls socket ≡ false
  drawn_off socket is few = below_off listener socket (grind (arith, nat_tests, is, few))

  open_off : (socket : ℕ) → is_among socket (open_sockets past) ≡ true → next_number past ≤ listener → is_controls socket ≡ false
  open_off socket among few = below_off listener socket (let less : socket < next_number past = open_below config past lawful socket among in omega (arith, less, few))

  flow_off : (socket : ℕ) (o : Option Flow) → flow_of socket (book config past).flows ≡ o → (f : Flow) → o ≡ Some f → next_number past ≤ listener → is_controls socket ≡ false
  flow_off socket o found f is few = below_off listener socket (let less = open_is_young config past socket f lawful (found ∙ is) in omega (arith, less, few))

  -- ---- what is waited for

  reads_off : (few : next_number past ≤ listener) (who : Who) → is_read config past who ≡ true → is_of_control who ≡ false
  reads_off few Link is = refl
  reads_off few (Listener socket) is =
      open_off socket (first_of (is_among socket (open_sockets past)) (is_listener (kind_of socket past))
      (first_of (is_among socket (open_sockets past) && is_listener (kind_of socket past)) (has_room_for_peer config.flows (book config past).flows) is)) few
  reads_off few (Udp socket) is =
      open_off socket (first_of (is_among socket (open_sockets past)) (is_for_datagrams (kind_of socket past)) (first_of (takes_datagrams past socket) (takes_in config past) is)) few
  reads_off few (Tcp socket) is = by (flow_of socket (book config past).flows) refl is
    where
      by : (o : Option Flow) → flow_of socket (book config past).flows ≡ o → reads_flow config o ≡ true → is_controls socket ≡ false
      by None found is = cc
      by (Some f) found is = flow_off socket (Some f) found f refl few

  writes_off : (few : next_number past ≤ listener) (who : Who) → MayBeWritten config past who → is_of_control who ≡ false
  writes_off few Link may = refl
  writes_off few (Listener socket) may = absurd may
  writes_off few (Udp socket) may = absurd may
  writes_off few (Tcp socket) may = by (flow_of socket (book config past).flows) refl may
    where
      by : (o : Option Flow) → flow_of socket (book config past).flows ≡ o → MayWriteFlow o → is_controls socket ≡ false
      by None found may = absurd may
      by (Some f) found may = flow_off socket (Some f) found f refl few

same_itself : (who : Who) → same_who who who ≡ true
same_itself Link = refl
same_itself (Listener socket) = grind (arith, nat_tests)
same_itself (Udp socket) = grind (arith, nat_tests)
same_itself (Tcp socket) = grind (arith, nat_tests)

-- a list that is waited for in no direction of the control's has nothing of it
none_of_control : (wants : List Want) → IsTrue (are_wants wants) → ((who : Who) → reads who wants ≡ true → is_of_control who ≡ false)
    → ((who : Who) → writes who wants ≡ true → is_of_control who ≡ false) → controls wants ≡ []
none_of_control [] all reads_it writes_it = refl
none_of_control (want ∷ wants) all reads_it writes_it =
    ap (λ b. cond b (want ∷ controls wants) (controls wants)) (by want.read want.write refl refl (first_of (want.read || want.write) (is_who want.of)
    (first_of ((want.read || want.write) && is_who want.of) (are_wants wants) all)))
    ∙ none_of_control wants (second_of ((want.read || want.write) && is_who want.of) (are_wants wants) all)
    (λ who is. reads_it who (later (same_who who want.of && want.read) (reads who wants) is)) (λ who is. writes_it who (later (same_who who want.of && want.write) (writes who wants) is))
  where
    later : (a b : Bool) → b ≡ true → (a || b) ≡ true
    later true b is = refl
    later false b is = is

    by : (r w : Bool) → want.read ≡ r → want.write ≡ w → (r || w) ≡ true → is_of_control want.of ≡ false
    by true w reads_is writes_is some =
        reads_it want.of (ap (λ s. (s && want.read) || reads want.of wants) (same_itself want.of) ∙ ap (λ r. r || reads want.of wants) reads_is)
    by false true reads_is writes_is some =
        writes_it want.of (ap (λ s. (s && want.write) || writes want.of wants) (same_itself want.of) ∙ ap (λ w. w || writes want.of wants) writes_is)
    by false false reads_is writes_is some = cc

waits_off : (config : Config) (past : List Entry) → Lawful config past → (wants : List Want) → IsTrue (are_wants wants) → WaitsFor config past wants → next_number past ≤ listener → controls wants ≡ []
waits_off config past lawful wants all waits few =
    none_of_control wants all (λ who is. reads_off config past lawful few who (sym (waits.to_read who) ∙ is)) (λ who is. writes_off config past lawful few who (waits.only_to_write who is))

-- ---- a call

off_by : (config : Config) (e : Entry) (past : List Entry) → Lawful config past → May config past (call_of e) → Must config past (call_of e) → Allowed e → next_number (e ∷ past) ≤ listener → IsOff e
off_by config (Wait wants timeout answer ready) past lawful may must allowed few = waits_off config past lawful wants allowed.1 must.waits_for few
off_by config (Connect socket to answer) past lawful may must allowed few = drawn_off config past lawful socket may.socket few
off_by config (Listen socket at answer) past lawful may must allowed few = drawn_off config past lawful socket may.socket few
off_by config (UdpOpen socket at answer) past lawful may must allowed few = drawn_off config past lawful socket may.socket few
off_by config (Connected socket answer) past lawful may must allowed few = open_off config past lawful socket (joins_open past socket may.socket) few
off_by config (TcpRead socket asked answer octets) past lawful may must allowed few = open_off config past lawful socket (joins_open past socket may.socket) few
off_by config (TcpWrite socket octets answer) past lawful may must allowed few = open_off config past lawful socket (joins_open past socket may.socket) few
off_by config (TcpEnd socket answer) past lawful may must allowed few = open_off config past lawful socket (joins_open past socket may.socket) few
off_by config (Close socket) past lawful may must allowed few = open_off config past lawful socket (closes_open config past socket may) few
off_by config (UdpSend socket to octets answer) past lawful may must allowed few = open_off config past lawful socket (sends_on_open config past socket may.socket) few
off_by config (UdpRecv socket asked answer octets) past lawful may must allowed few = open_off config past lawful socket (hears_on_open config past socket asked may.socket) few
off_by config (Accept from socket answer) past lawful may must allowed few =
    open_off config past lawful from (peers_open config past from socket answer may) (let up = rises (Accept from socket answer) past in omega (arith, up, few))
off_by config _ past lawful may must allowed few = refl

few_by : (config : Config) (e : Entry) (past : List Entry) → May config past (call_of e) → IsFew e
few_by config (Wait wants timeout answer ready) past may = grind (arith, nat_tests, may.socket)
few_by config _ past may = tt

pub keeps_off : (config : Config) (seen past : List Entry) → Lawful config (seen ++ past) → Dutiful config (seen ++ past) → AreAllowed seen → next_number (seen ++ past) ≤ listener → AreOff seen × AreFew seen
keeps_off config [] past lawful dutiful allowed few = (tt, tt)
keeps_off config (e ∷ seen) past lawful dutiful allowed few =
    let rest = keeps_off config seen past lawful.1 dutiful.1 allowed.1 (let up = rises e (seen ++ past) in omega (arith, up, few)) in
    ((off_by config e (seen ++ past) lawful.1 lawful.0 dutiful.0 allowed.0 few, rest.0), (few_by config e (seen ++ past) lawful.0, rest.1))
