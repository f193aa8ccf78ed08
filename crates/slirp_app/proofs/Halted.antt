-- No call may follow a finished run that an entry ended or whose port the host refused, and none that ended is followed by a wait.
use Rattle.std.proofs.Common.{◌≡◌, ℕ, ◌&&◌, ◌||◌, Bool, true, false, cond, is_some, List, [], ◌∷◌, Option, refl, ◌∙◌, ap, subst}
use Rattle.net_octets.specs.declared.Endpoint.{Endpoint}
use Rattle.slirp_settings.specs.Addresses.{Config}
use Rattle.spec_duties.proofs.Ended.{ended_yet}
use Rattle.spec_trace.specs.Moments.{waits}
use Rattle.spec_trace.specs.Shape.{Phase, Opening, Started, Woken, Working, Over, is_ended, is_over, is_working, may_turn, phase}
use Rattle.spec_trace.specs.Sockets.{is_among, open_sockets, first}
use Rattle.spec_flows.specs.Book.{port_of}
use Rattle.spec_flows.specs.Flows.{is_it}
use Rattle.spec_run.specs.Laws.{Finished, Lawful, May}
use Rattle.spec_run.specs.Laws.{due, has_place, has_socket, is_added, is_closing, parts}
use Rattle.spec_run.specs.Ports.{given_port}
use Rattle.spec_run.proofs.Bools.{first_of}
use Rattle.spec_run.proofs.Phases.{given_turn}
use Rattle.slirp_app.proofs.Copied.{later_than, onto}
use Rattle.std.specs.Prelude.{nat_lt}
use Rattle.world_face.proofs.Following.{follows_before}
use Rattle.world_face.specs.Journal.{Call, Entry, call_of, CallNow, CallWait, CallLinkOpen, CallConnect, CallListen, CallClose, CallUdpOpen, CallUdpSend, CallFileLen, CallFileRead}

not_both : (b : Bool) → b ≡ false → b ≡ true → ⊥
not_both true is_not is = cc
not_both false is_not is = cc

turns_no_more : (p : Phase) → is_over p ≡ true → may_turn p ≡ false
turns_no_more (Opening opened forwards) over = cc
turns_no_more Started over = cc
turns_no_more Woken over = refl
turns_no_more Working over = cc
turns_no_more (Over cause) over = refl

works_no_more : (p : Phase) → is_over p ≡ true → is_working p ≡ false
works_no_more (Opening opened forwards) over = refl
works_no_more Started over = refl
works_no_more Woken over = refl
works_no_more Working over = cc
works_no_more (Over cause) over = refl

module _ (config : Config) (past : List Entry) (finished : Finished config past) (over : is_over (phase config past) ≡ true) where
  none_due : is_some (due config past) ≡ true → ⊥
  none_due some = not_both (is_some (due config past)) (ap is_some finished.none_due) some

  no_work : is_working (phase config past) ≡ true → ⊥
  no_work works = not_both (is_working (phase config past)) (works_no_more (phase config past) over) works

  no_turn : (may_turn (phase config past) && nat_lt (waits past) config.turns) ≡ true → ⊥
  no_turn turns = not_both (may_turn (phase config past)) (turns_no_more (phase config past) over) (first_of (may_turn (phase config past)) (nat_lt (waits past) config.turns) turns)

  none_open : (socket : ℕ) (b : Bool) → (is_among socket (open_sockets past) && b) ≡ true → ⊥
  none_open socket b may = not_both (is_among socket (open_sockets past)) (ap (is_among socket) finished.closed) (first_of (is_among socket (open_sockets past)) b may)

  none_opened : (socket : ℕ) (at : Endpoint) (guest : Option Endpoint) → (is_some (due config past) || is_added config past socket at guest) ≡ true → ⊥
  none_opened socket at guest place = by (is_some (due config past)) refl place
    where
      by : (b : Bool) → is_some (due config past) ≡ b → (b || is_added config past socket at guest) ≡ true → ⊥
      by true some place = none_due some
      by false none added = no_work (given_turn config past socket at guest added)

  no_call : (call : Call) → has_place config past call ≡ true → has_socket config past call ≡ true → ⊥
  no_call CallNow place socket_is = none_due place
  no_call (CallWait wants timeout) place socket_is = no_turn place
  no_call (CallLinkOpen at) place socket_is = cc
  no_call (CallConnect socket to) place socket_is = none_due place
  no_call (CallListen socket at) place socket_is = none_opened socket at (port_of config socket) place
  no_call (CallClose socket) place socket_is = none_open socket (cond (is_closing config past) (is_it socket (first (open_sockets past)))
      (parts config past socket || (is_ended config past && is_it socket (first (open_sockets past))))) socket_is
  no_call (CallUdpOpen socket at) place socket_is = none_opened socket at (given_port config socket) place
  no_call (CallUdpSend socket to octets) place socket_is = none_due place
  no_call (CallFileLen name) place socket_is = none_due place
  no_call (CallFileRead name place_in asked) place socket_is = none_due place
  no_call _ place socket_is = no_work place

  pub no_more : (call : Call) → May config past call → ⊥
  no_more call may = no_call call may.place may.socket

  pub nothing_later : (back : List Entry) → Lawful config (onto back past) → back ≡ []
  nothing_later [] lawful = refl
  nothing_later (e ∷ back) lawful = absurd (no_more (call_of e) (follows_before (May config) (onto back []) (e ∷ past) (subst (Lawful config) (later_than back (e ∷ past)) lawful)).0)

pub waits_no_more : (config : Config) (back past : List Entry) → Lawful config (onto back past) → is_ended config past ≡ true → waits (onto back past) ≡ waits past
waits_no_more config back past lawful ended = ap waits (later_than back past) ∙ (ended_yet config (onto back []) past (subst (Lawful config) (later_than back past) lawful) ended).1
