-- In a lawful trace a listener is for a port of the host that is given to a guest: each was opened for the next of the forwards of the settings.
use Rattle.std.proofs.Common.{◌≡◌, ℕ, zero, suc, ◌+◌, ◌==◌, nat_lt, Bool, true, false, List, [], ◌∷◌, drop, slice_get, is_some, MatchOption, Option, Some, None, option_and_then}
use Rattle.std.specs.Option.{option_or}
use Rattle.std.proofs.Common.{option_map, inl, inr, if◌then◌else◌, refl, sym, ◌∙◌, ap, subst, arith}
use Rattle.world_face.specs.Journal.{Entry, Call, Now, Wait, Connect, Listen, Accept, UdpOpen, CallNow, CallConnect, CallListen, CallAccept, CallClose, CallUdpOpen, call_of}
use Rattle.world_face.specs.Frames.{Ending, ending, partial}
use Rattle.world_face.specs.declared.Made.{Made}
use Rattle.world_face.specs.declared.Made.TheVariants.{Done, Failed}
use Rattle.net_octets.specs.declared.Endpoint.{Endpoint}
use Rattle.slirp_settings.specs.declared.Forward.{Forward}
use Rattle.slirp_settings.specs.declared.Proto.{Proto}
use Rattle.slirp_settings.specs.declared.Proto.TheVariants.{Tcp, Udp as ByUdp}
use Rattle.slirp_settings.specs.Addresses.{Config, forward_on}
use Rattle.spec_trace.specs.Moments.{waits}
use Rattle.spec_trace.specs.Shape.{Phase, Opening, Started, Woken, Working, Over, clocked, due_in, opened, opening_of, phase, phase_after, phase_by, unless_over, GivesNone}
use Rattle.spec_trace.specs.Sockets.{Kind, Association, Forward as OfForward, Listener, Flow, datagram_kind, first, kind_of, next_number, open_sockets}
use Rattle.spec_flows.specs.Book.{book, port_by, port_of}
use Rattle.spec_flows.specs.SegmentVerdicts.{connects_to, due_by, due_for_flows}
use Rattle.spec_run.specs.Asking.{step}
use Rattle.spec_run.specs.Names.{answered}
use Rattle.rules_tftp.specs.Asking.{call_for}
use Rattle.rules_tftp.specs.Transfers.{Quest, Settled as SeeksNothing, SeeksLength, SeeksOctets}
use Rattle.spec_run.specs.Datagrams.{Step, NeedsNothing, NeedsRoom, NeedsSocket, NeedsSending, due_for}
use Rattle.spec_run.specs.Laws.{Lawful, May, due_for_services}
use Rattle.spec_run.specs.Answers.{serving}
use Rattle.spec_run.proofs.Bools.{equal}
use Rattle.sim_flows.proofs.Options.{none_some, some_same, true_false}
use Rattle.spec_run.proofs.Given.{leads_nowhere, led_by_settings}
use Rattle.spec_run.proofs.Phases.{given_forward, opening_call}

-- ---- what asks for a listener

abbrev listens : Option Call → Bool
listens (Some (CallListen socket at)) = true
listens _ = false

neither_listens : (a b : Option Call) → listens a ≡ false → listens b ≡ false → listens (option_or a b) ≡ false
neither_listens None b one other = other
neither_listens (Some call) b one other = one

step_listens : (config : Config) (s : Step) (number : ℕ) → listens (due_for config s number) ≡ false
step_listens config NeedsNothing number = refl
step_listens config (NeedsRoom oldest errand) number = refl
step_listens config (NeedsSocket errand) number = refl
step_listens config (NeedsSending socket errand) number = refl

answer_listens : (o : Option ℕ) → listens (option_map CallClose o) ≡ false
answer_listens None = refl
answer_listens (Some socket) = refl

quest_listens : (q : Quest) → listens (call_for q) ≡ false
quest_listens SeeksNothing = refl
quest_listens (SeeksLength s) = refl
quest_listens (SeeksOctets t there) = refl

flow_listens : (doomed : Option ℕ) (to : Option Endpoint) (number : ℕ) → listens (due_by doomed to number) ≡ false
flow_listens (Some socket) to number = refl
flow_listens None None number = refl
flow_listens None (Some to) number = refl

close_listens : (o : Option ℕ) → listens (option_map CallClose o) ≡ false
close_listens None = refl
close_listens (Some socket) = refl

-- neither a guest's datagram does, nor a flow
abbrev asked : Config → List Entry → Option Call
asked config past = option_or (due_for config (step config past) (next_number past)) (option_or (due_for_services config past) (due_for_flows config (book config past) (next_number past)))

asked_listens : (config : Config) (past : List Entry) → listens (asked config past) ≡ false
asked_listens config past =
    neither_listens (due_for config (step config past) (next_number past)) (option_or (due_for_services config past) (due_for_flows config (book config past) (next_number past)))
    (step_listens config (step config past) (next_number past))
    (neither_listens (due_for_services config past) (due_for_flows config (book config past) (next_number past))
    (neither_listens (option_map CallClose (answered config past)) (call_for (serving config past).files.quest) (answer_listens (answered config past)) (quest_listens (serving config past).files.quest))
    (flow_listens (book config past).doomed (connects_to config (book config past)) (next_number past)))

never_listens : (o : Option Call) (socket : ℕ) (at : Endpoint) → listens o ≡ false → o ≡ Some (CallListen socket at) → ⊥
never_listens o socket at none is = true_false (sym (ap listens is) ∙ none)

-- ---- the forwards that are still to be opened

-- they are those behind as many as there are numbers
abbrev AreLeft : List Forward → (next : ℕ) → Phase → Type 0
AreLeft all next (Opening count forwards) = drop next all ≡ forwards
AreLeft all next _ = Unit {0}

first_left : (n : ℕ) (all : List Forward) (f : Forward) (forwards : List Forward) → drop n all ≡ f ∷ forwards → (slice_get all n ≡ Some f) × (drop (suc n) all ≡ forwards)
first_left zero [] f forwards is = cc
first_left zero (g ∷ all) f forwards is = (cc, cc)
first_left (suc n) [] f forwards is = cc
first_left (suc n) (g ∷ all) f forwards is = first_left n all f forwards is

-- the call that comes while they are opened
abbrev OpensIn : Phase → List Entry → Call → Type 0
OpensIn (Opening count []) past call = call ≡ CallNow
OpensIn (Opening count (f ∷ forwards)) past call = call ≡ opening_of f.proto (next_number past) f
OpensIn _ past call = Unit {0}

opens_in : (p : Phase) (past : List Entry) (other : Option Call) (call : Call) → MatchOption (option_or (due_in p past) other) (Unit {0}) (λ d. call ≡ d) → OpensIn p past call
opens_in (Opening count []) past other call is = is
opens_in (Opening count (f ∷ forwards)) past other call is = is
opens_in Started past other call is = tt
opens_in Woken past other call is = tt
opens_in Working past other call is = tt
opens_in (Over cause) past other call is = tt

-- it asks for the clock, or opens a socket for a port
abbrev opens_port : Call → Bool
opens_port CallNow = true
opens_port (CallListen socket at) = true
opens_port (CallUdpOpen socket at) = true
opens_port _ = false

port_opens : (proto : Proto) (number : ℕ) (f : Forward) → opens_port (opening_of proto number f) ≡ true
port_opens Tcp number f = refl
port_opens ByUdp number f = refl

module _ (all : List Forward) (past : List Entry) where
  -- another call comes when all are open
  none_left : (p : Phase) (call : Call) (n : ℕ) → opens_port call ≡ false → OpensIn p past call → AreLeft all n p
  none_left (Opening count []) call n none is = absurd (true_false (sym (ap opens_port is) ∙ none))
  none_left (Opening count (f ∷ forwards)) call n none is = absurd (true_false (sym (port_opens f.proto (next_number past) f) ∙ sym (ap opens_port is) ∙ none))
  none_left Started call n none is = tt
  none_left Woken call n none is = tt
  none_left Working call n none is = tt
  none_left (Over cause) call n none is = tt

  -- one is open, or was refused
  one_opened : (answer : Made) (p : Phase) (call : Call) → (call ≡ CallNow → ⊥) → OpensIn p past call → AreLeft all (next_number past) p → AreLeft all (next_number past + 1) (opened answer p)
  one_opened Done (Opening count []) call not_now is left = absurd (not_now is)
  one_opened Done (Opening count (f ∷ forwards)) call not_now is left = subst (λ n. drop n all ≡ forwards) (one_more (next_number past)) (first_left (next_number past) all f forwards left).1
    where
      one_more : (n : ℕ) → suc n ≡ n + 1
      one_more n = omega arith
  one_opened Failed (Opening count forwards) call not_now is left = tt
  one_opened Done Started call not_now is left = tt
  one_opened Failed Started call not_now is left = tt
  one_opened Done Woken call not_now is left = tt
  one_opened Failed Woken call not_now is left = tt
  one_opened Done Working call not_now is left = tt
  one_opened Failed Working call not_now is left = tt
  one_opened Done (Over cause) call not_now is left = tt
  one_opened Failed (Over cause) call not_now is left = tt

  clocked_left : (p : Phase) (n : ℕ) → AreLeft all n (clocked p)
  clocked_left (Opening count forwards) n = tt
  clocked_left Started n = tt
  clocked_left Woken n = tt
  clocked_left Working n = tt
  clocked_left (Over cause) n = tt

  ended_left : (p : Phase) (why : Ending) (n : ℕ) → AreLeft all n (unless_over p why)
  ended_left (Opening count forwards) why n = tt
  ended_left Started why n = tt
  ended_left Woken why n = tt
  ended_left Working why n = tt
  ended_left (Over cause) why n = tt

  left_by : (e : Entry) (p : Phase) → OpensIn p past (call_of e) → AreLeft all (next_number past) p → AreLeft all (next_number (e ∷ past)) (phase_by e p)
  left_by (Now told) p is left = clocked_left p (next_number past)
  left_by (Wait wants timeout answer ready) p is left = tt
  left_by (Connect socket to answer) p is left = none_left p (CallConnect socket to) (next_number past + 1) refl is
  left_by (Accept listener socket answer) p is left = none_left p (CallAccept listener socket) (next_number (Accept listener socket answer ∷ past)) refl is
  left_by (Listen socket at answer) p is left = one_opened answer p (CallListen socket at) (λ now. cc) is left
  left_by (UdpOpen socket at answer) p is left = one_opened answer p (CallUdpOpen socket at) (λ now. cc) is left
  left_by _ p is left = left

  left_after : (e : Entry) (o : Option Ending) (p : Phase) → OpensIn p past (call_of e) → AreLeft all (next_number past) p → AreLeft all (next_number (e ∷ past)) (phase_after e o p)
  left_after e None p is left = left_by e p is left
  left_after e (Some why) p is left = ended_left p why (next_number (e ∷ past))

are_left : (config : Config) (past : List Entry) → Lawful config past → AreLeft config.forwards (next_number past) (phase config past)
are_left config [] lawful = refl
are_left config (e ∷ past) lawful =
    left_after config.forwards past e (ending e (partial past)) (phase config past) (opens_in (phase config past) past (asked config past) (call_of e) lawful.0.due) (are_left config past lawful.1)

-- ---- a listener

-- it is for a guest's port
abbrev pub HasPort : Config → ℕ → Type 0
HasPort config n = is_some (port_of config n) ≡ true

-- so there are such ports
pub port_given : (config : Config) (n : ℕ) → HasPort config n → GivesNone config → ⊥
port_given config n has none = true_false (sym has ∙ ap (λ o. is_some (option_and_then (λ (f : Forward). port_by f.proto f.guest) o)) (leads_nowhere config n none))

module _ (config : Config) (past : List Entry) (socket : ℕ) (at : Endpoint) where
  for_port : (f : Forward) (proto : Proto) → f.proto ≡ proto → slice_get config.forwards (next_number past) ≡ Some f → opening_of proto
      (next_number past) f ≡ CallListen socket at → HasPort config socket
  for_port f Tcp tcp got is =
      let number : next_number past ≡ socket = cc in
      ap (λ o. is_some (option_and_then (λ (g : Forward). port_by g.proto g.guest) o)) (ap (forward_on config) (sym number) ∙ led_by_settings config (next_number past) f got)
      ∙ ap (λ proto. is_some (port_by proto f.guest)) tcp
  for_port f ByUdp udp got is = cc

  listens_for : (p : Phase) (other : Option Call) → listens other ≡ false → AreLeft config.forwards (next_number past) p → option_or (due_in p past) other ≡ Some
      (CallListen socket at) → HasPort config socket
  listens_for (Opening count []) other none left is = cc
  listens_for (Opening count (f ∷ forwards)) other none left is =
      for_port f f.proto refl (first_left (next_number past) config.forwards f forwards left).0 (some_same (opening_of f.proto (next_number past) f) (CallListen socket at) is)
  listens_for Started other none left is = absurd (never_listens other socket at none is)
  listens_for Woken other none left is = cc
  listens_for Working other none left is = absurd (never_listens other socket at none is)
  listens_for (Over cause) other none left is =
      absurd (never_listens (option_or (option_map CallClose (first (open_sockets past))) other) socket at
      (neither_listens (option_map CallClose (first (open_sockets past))) other (close_listens (first (open_sockets past))) none) is)

  new_listener : Lawful config past → May config past (CallListen socket at) → HasPort config socket
  new_listener lawful may = elim (opening_call config past socket at (port_of config socket) (CallListen socket at) may.place may.due) [
    | inl is ↦ listens_for (phase config past) (asked config past) (asked_listens config past) (are_left config past lawful) is
    | inr given ↦ (given_forward config past socket at (port_of config socket) given.is).leads
  ]

older_kind : (t : Bool) (k before : Option Kind) → (k ≡ Some Listener → ⊥) → (if t then k else before) ≡ Some Listener → before ≡ Some Listener
older_kind true k before other is = absurd (other is)
older_kind false k before other is = is

not_listener : (waited : Bool) (port : ℕ) → Some (datagram_kind waited port) ≡ Some Listener → ⊥
not_listener true port is = by (port == 0) is
  where
    by : (z : Bool) → Some (if z then Association else OfForward) ≡ Some Listener → ⊥
    by true is = cc
    by false is = cc
not_listener false port is = cc

module _ (config : Config) (past : List Entry) (lawful : Lawful config past) (n : ℕ) (before : kind_of n past ≡ Some Listener → HasPort config n) where
  has_port : (e : Entry) → May config past (call_of e) → kind_of n (e ∷ past) ≡ Some Listener → HasPort config n
  has_port (Connect socket to answer) may is = before (older_kind (socket == n) (Some Flow) (kind_of n past) (λ same. cc) is)
  has_port (Accept listener socket answer) may is = before (older_kind (socket == n) (Some Flow) (kind_of n past) (λ same. cc) is)
  has_port (UdpOpen socket at answer) may is = before (older_kind (socket == n) (Some (datagram_kind (nat_lt 0 (waits past)) at.port)) (kind_of n past) (not_listener (nat_lt 0 (waits past)) at.port) is)
  has_port (Listen socket at answer) may is = by (socket == n) refl is
    where
      by : (t : Bool) → (socket == n) ≡ t → (if t then Some Listener else kind_of n past) ≡ Some Listener → HasPort config n
      by true same is = subst (HasPort config) (equal socket n same) (new_listener config past socket at lawful may)
      by false other is = before is
  has_port _ may is = before is

pub listener_has_port : (config : Config) (past : List Entry) (n : ℕ) → Lawful config past → kind_of n past ≡ Some Listener → HasPort config n
listener_has_port config [] n lawful is = absurd (none_some is)
listener_has_port config (e ∷ past) n lawful is = has_port config past lawful.1 n (listener_has_port config past n lawful.1) e lawful.0 is
