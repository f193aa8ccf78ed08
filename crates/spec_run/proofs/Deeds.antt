-- A call may come: one lemma for each kind of call, which has what is to be shown of that kind. Only `gathered` builds the record of the sentences, so that one
-- more sentence is one more line there, and a premise of the kinds of which it speaks.
use Rattle.spec_run.specs.Ports.{given_port}
use Rattle.std.proofs.Common.{◌∷◌, ◌≡◌, ℕ, ◌==◌, ◌||◌, not, nat_le, nat_lt, Bool, true, false, List, length, is_some, MatchOption, Option, Some, None, refl, sym, ◌∙◌, ap, subst}
use Rattle.std.specs.Prelude.{option_map}
use Rattle.std.specs.Option.{option_or}
use Rattle.poll_list.specs.Listing.{reads}
use Rattle.poll_list.specs.declared.Want.{Want}
use Rattle.poll_list.specs.declared.Who.TheVariants.{Link, Udp, Listener as AListener}
use Rattle.world_face.specs.Journal.{Entry, LinkWrite, Call, CallNow, CallWait, CallLinkRead, CallLinkWrite, CallClose, CallUdpOpen, CallUdpSend, CallUdpRecv, CallFileLen, CallFileRead}
use Rattle.world_face.specs.Journal.{CallListen, CallAccept}
use Rattle.world_face.specs.Frames.{MayFrame, goes_out, tail}
use Rattle.world_face.specs.Limits.{most_to_udp}
use Rattle.net_octets.specs.declared.Endpoint.{Endpoint}
use Rattle.slirp_settings.specs.Addresses.{Config}
use Rattle.spec_trace.specs.Shape.{due_in, is_over, is_working, may_turn, phase}
use Rattle.spec_trace.specs.Sockets.{next_number}
use Rattle.spec_flows.specs.Book.{book, port_of}
use Rattle.spec_flows.specs.Laws.{MayFlow, MayTouch, MustTouch, NoneMustClose}
use Rattle.spec_flows.specs.SegmentVerdicts.{due_for_flows}
use Rattle.spec_trace.specs.Moments.{waits}
use Rattle.spec_run.specs.Agenda.{agenda}
use Rattle.spec_run.specs.Laws.{May, MayDue, due, due_for_services, goes_on, has_place, has_socket, is_all_out, is_answered, is_added, is_closing, is_served, may_begin}
use Rattle.spec_run.specs.Laws.{may_close, most_wanted, relays, takes_peers}
use Rattle.spec_run.specs.Asking.{step}
use Rattle.spec_run.specs.Datagrams.{due_for}
use Rattle.world_face.specs.declared.Io.{Io}
use Rattle.spec_run.specs.Answers.{Serving, begins_again, begun_by, files_begun, files_sent, identification, ledger, serving}
use Rattle.spec_run.specs.Names.{answered}
use Rattle.rules_tftp.specs.Asking.{call_for}
use Rattle.rules_tftp.specs.Transfers.{Said, Transfer, next_again}
use Rattle.spec_run.proofs.Bools.{and_both, same, equal, or_first}

pub gathered : (config : Config) (past : List Entry) (call : Call) → MayFrame past call → MayDue config past call → has_place config past call ≡ true →
    has_socket config past call ≡ true
    → is_served past call ≡ true → is_answered config past call ≡ true → goes_on config past call ≡ true → MayFlow config past call → May config past call
gathered config past call framed is_due has_place has_socket served answered on flows = record {
  framed = framed;
  due = is_due;
  place = has_place;
  socket = has_socket;
  served = served;
  answered = answered;
  goes_on = on;
  flows = flows;
}

-- ---- what flows say of it

-- no call is due for a flow, and none must be closed
pub record FlowsAskNothing (config : Config) (past : List Entry) : Type 0 where
  pub due : due_for_flows config (book config past) (next_number past) ≡ None
  pub stay : NoneMustClose config past

-- a write is one that flows allow, and as it must be for them
abbrev pub FlowsLetWrite : Config → List Entry → List ℕ → Type 0
FlowsLetWrite config past octets = MayTouch config past (CallLinkWrite octets) × MustTouch config past (CallLinkWrite octets)

-- flows ask for no call, allow this one, and it is as it must be for them
pub untouched : (config : Config) (past : List Entry) (call : Call) → FlowsAskNothing config past → MayTouch config past call → MustTouch config past call → MayFlow config past call
untouched config past call nothing touches must = record {
  due = subst (λ o. MatchOption o (Unit {0}) (λ d. call ≡ d)) (sym nothing.due) tt;
  touches = touches;
  must = must;
  at_once = λ number f found closes. absurd (nothing.stay number f found closes);
}

second_none : (first second : Option Call) → option_or first second ≡ None → second ≡ None
second_none None second is = is
second_none (Some call) second is = cc

-- where no call is due none is for a flow
pub ask_nothing : (config : Config) (past : List Entry) → due config past ≡ None → NoneMustClose config past → FlowsAskNothing config past
ask_nothing config past none stay =
    let flows = due_for_flows config (book config past) (next_number past) in
    let services = option_or (due_for_services config past) flows in
    let datagrams = option_or (due_for config (step config past) (next_number past)) services in
    record {
      due = second_none (due_for_services config past) flows
          (second_none (due_for config (step config past) (next_number past)) services (second_none (due_in (phase config past) past) datagrams none));
      stay = stay;
    }

-- where a call is due, and where none is
pub this_one : (config : Config) (past : List Entry) (call : Call) → due config past ≡ Some call → MayDue config past call
this_one config past call is = subst (λ o. MatchOption o (Unit {0}) (λ d. call ≡ d)) (sym is) refl

pub any_one : (config : Config) (past : List Entry) (call : Call) → due config past ≡ None → MayDue config past call
any_one config past call is = subst (λ o. MatchOption o (Unit {0}) (λ d. call ≡ d)) (sym is) tt

some_due : (config : Config) (past : List Entry) (call : Call) → due config past ≡ Some call → is_some (due config past) ≡ true
some_due config past call is = ap is_some is

-- where no service asks for a call, none asks for a file, and what is written changes none of it
pub quest_none : (config : Config) (past : List Entry) → due_for_services config past ≡ None → call_for (serving config past).files.quest ≡ None
quest_none config past none = second_none (option_map CallClose (answered config past)) (call_for (serving config past).files.quest) none

quest_sent : (b : Bool) (s : Serving) → (files_sent b s).quest ≡ s.files.quest
quest_sent false s = refl
quest_sent true s = by s.again
  where
    next : (o : Option Transfer) → (begun_by s.now o s.files).quest ≡ s.files.quest
    next None = refl
    next (Some t) = refl

    by : (o : Option Said) → (files_begun s.now o s.files).quest ≡ s.files.quest
    by None = next (next_again s.now s.files.transfers)
    by (Some said) = refl

pub services_written : (config : Config) (past : List Entry) (octets : List ℕ) (answer : Io) → due_for_services config past ≡ None → due_for_services config (LinkWrite octets answer ∷ past) ≡ None
services_written config past octets answer none =
    ap call_for (quest_sent (begins_again config (identification past) (ledger config past) (goes_out (LinkWrite octets answer) past)) (serving config past)) ∙ quest_none config past none

module _ (config : Config) (past : List Entry) where
  on_yet : is_closing config past ≡ false → not (is_closing config past) ≡ true
  on_yet open_yet = ap not open_yet

  -- the clock is asked where that is due
  pub asks : due config past ≡ Some CallNow → FlowsAskNothing config past → is_closing config past ≡ false → May config past CallNow
  asks is nothing open_yet = gathered config past CallNow tt (this_one config past CallNow is) (some_due config past CallNow is) refl refl refl (on_yet open_yet)
      (untouched config past CallNow nothing tt tt)

  -- a turn begins
  pub waits_now : (wants : List Want) (timeout : Option ℕ) → due config past ≡ None → NoneMustClose config past → may_turn (phase config past) ≡ true → nat_lt
      (waits past) config.turns ≡ true → nat_le (length wants) most_wanted ≡ true → is_closing config past ≡ false → May config past (CallWait wants timeout)
  waits_now wants timeout none stay turn few most open_yet =
      gathered config past (CallWait wants timeout) tt (any_one config past (CallWait wants timeout) none)
      (and_both (may_turn (phase config past)) (nat_lt (waits past) config.turns) turn few) most refl refl
      (on_yet open_yet) (untouched config past (CallWait wants timeout) (ask_nothing config past none stay) tt tt)

  -- the link is read where the last wait reported it and nothing is left to be sent
  pub reads_on : (asked : ℕ) → MayFrame past (CallLinkRead asked) → due config past ≡ None → NoneMustClose config past → is_working (phase config past) ≡ true → reads Link
      (agenda past) ≡ true → is_all_out config past ≡ true
      → is_closing config past ≡ false → May config past (CallLinkRead asked)
  reads_on asked framed none stay working reported out open_yet =
      gathered config past (CallLinkRead asked) framed (any_one config past (CallLinkRead asked) none) working refl reported out (on_yet open_yet)
      (untouched config past (CallLinkRead asked) (ask_nothing config past none stay) tt tt)

  -- a frame is written, or goes on
  pub writes : (octets : List ℕ) → MayFrame past (CallLinkWrite octets) → due config past ≡ None → NoneMustClose config past → is_working (phase config past) ≡ true →
      may_begin config past (tail past) octets ≡ true
      → is_closing config past ≡ false → FlowsLetWrite config past octets → May config past (CallLinkWrite octets)
  writes octets framed none stay working begins open_yet sent =
      gathered config past (CallLinkWrite octets) framed (any_one config past (CallLinkWrite octets) none) working refl refl begins (on_yet open_yet)
      (untouched config past (CallLinkWrite octets) (ask_nothing config past none stay) sent.0 sent.1)

  -- a socket is opened with the next number where that is due
  pub opens : (socket : ℕ) (at : Endpoint) → due config past ≡ Some (CallUdpOpen socket at) → (socket == next_number past) ≡ true → FlowsAskNothing config past →
      is_closing config past ≡ false → May config past (CallUdpOpen socket at)
  opens socket at is next nothing open_yet =
      gathered config past (CallUdpOpen socket at) tt (this_one config past (CallUdpOpen socket at) is) (or_first (is_some (due config past)) (is_added config past socket at (given_port config socket)) (some_due config past (CallUdpOpen socket at) is)) next refl refl
      (on_yet open_yet) (untouched config past (CallUdpOpen socket at) nothing tt tt)

  -- and so is a port of the host that takes connections
  pub listens : (socket : ℕ) (at : Endpoint) → due config past ≡ Some (CallListen socket at) → (socket == next_number past) ≡ true → FlowsAskNothing config past →
      is_closing config past ≡ false → May config past (CallListen socket at)
  listens socket at is next nothing open_yet =
      gathered config past (CallListen socket at) tt (this_one config past (CallListen socket at) is) (or_first (is_some (due config past)) (is_added config past socket at (port_of config socket)) (some_due config past (CallListen socket at) is)) next refl refl
      (on_yet open_yet) (untouched config past (CallListen socket at) nothing tt tt)

  -- a peer is taken where the last wait reported the port, while there is room for the flow of one more
  pub accepts : (listener socket : ℕ) → due config past ≡ None → NoneMustClose config past → is_working (phase config past) ≡ true → takes_peers config past listener ≡ true →
      (socket == next_number past) ≡ true → reads (AListener listener) (agenda past) ≡ true
      → is_closing config past ≡ false → May config past (CallAccept listener socket)
  accepts listener socket none stay working room next reported open_yet =
      gathered config past (CallAccept listener socket) tt (any_one config past (CallAccept listener socket) none) working
      (and_both (takes_peers config past listener) (socket == next_number past) room next) reported refl (on_yet open_yet)
      (untouched config past (CallAccept listener socket) (ask_nothing config past none stay) (equal socket (next_number past) next) tt)

  -- a datagram is sent where that is due
  pub sends : (socket : ℕ) (to : Endpoint) (octets : List ℕ) → due config past ≡ Some (CallUdpSend socket to octets) → relays past socket ≡ true → FlowsAskNothing config past →
      is_closing config past ≡ false
      → May config past (CallUdpSend socket to octets)
  sends socket to octets is on nothing open_yet =
      gathered config past (CallUdpSend socket to octets) tt (this_one config past (CallUdpSend socket to octets) is) (some_due config past (CallUdpSend socket to octets) is) on refl refl
      (on_yet open_yet) (untouched config past (CallUdpSend socket to octets) nothing tt tt)

  -- one is asked for where the last wait reported the socket and nothing is left to be sent
  pub hears : (socket asked : ℕ) → due config past ≡ None → NoneMustClose config past → is_working (phase config past) ≡ true → relays past socket ≡ true → asked ≡ most_to_udp →
      reads (Udp socket) (agenda past) ≡ true → is_all_out config past ≡ true
      → is_closing config past ≡ false → May config past (CallUdpRecv socket asked)
  hears socket asked none stay working on whole reported out open_yet =
      gathered config past (CallUdpRecv socket asked) tt (any_one config past (CallUdpRecv socket asked) none) working
      (and_both (relays past socket) (asked == most_to_udp) on (ap (λ n. n == most_to_udp) whole ∙ same most_to_udp)) reported out (on_yet open_yet)
      (untouched config past (CallUdpRecv socket asked) (ask_nothing config past none stay) tt tt)

  -- a socket is closed
  pub closes : (socket : ℕ) → MayDue config past (CallClose socket) → (is_working (phase config past) || is_over (phase config past)) ≡ true → may_close config past socket ≡ true →
      MayFlow config past (CallClose socket)
      → May config past (CallClose socket)
  closes socket is_due place may flows = gathered config past (CallClose socket) tt is_due place may refl refl refl flows

  -- the length of a file, or octets of it, are asked for where that is due
  pub measures : (name : List ℕ) → due config past ≡ Some (CallFileLen name) → FlowsAskNothing config past → is_closing config past ≡ false → May config past (CallFileLen name)
  measures name is nothing open_yet =
      gathered config past (CallFileLen name) tt (this_one config past (CallFileLen name) is) (some_due config past (CallFileLen name) is) refl refl refl (on_yet open_yet)
      (untouched config past (CallFileLen name) nothing tt tt)

  pub takes_octets : (name : List ℕ) (place asked : ℕ) → due config past ≡ Some (CallFileRead name place asked) → FlowsAskNothing config past → is_closing config past ≡ false →
      May config past (CallFileRead name place asked)
  takes_octets name place asked is nothing open_yet =
      gathered config past (CallFileRead name place asked) tt (this_one config past (CallFileRead name place asked) is) (some_due config past (CallFileRead name place asked) is) refl refl refl
      (on_yet open_yet) (untouched config past (CallFileRead name place asked) nothing tt tt)
