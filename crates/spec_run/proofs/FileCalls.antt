-- Calls on files come where a file is sought, and what isn't due comes where none is.
use Rattle.std.proofs.Common.{◌≡◌, ℕ, List, [], ◌∷◌, MatchOption, Option, Some, None, option_map, refl, sym, subst}
use Rattle.std.specs.Option.{option_or}
use Rattle.world_face.specs.Journal.{Entry, Call, CallNow, CallWait, CallLinkRead, CallLinkWrite, CallConnect, CallListen, CallClose, CallUdpOpen, CallUdpSend, CallFileLen, CallFileRead}
use Rattle.net_octets.specs.declared.Endpoint.{Endpoint}
use Rattle.slirp_settings.specs.Addresses.{Config}
use Rattle.slirp_settings.specs.declared.Forward.{Forward}
use Rattle.slirp_settings.specs.declared.Proto.{Proto}
use Rattle.slirp_settings.specs.declared.Proto.TheVariants.{Tcp, Udp}
use Rattle.spec_flows.specs.Book.{book}
use Rattle.spec_flows.specs.SegmentVerdicts.{connects_to, due_by, due_for_flows}
use Rattle.spec_trace.specs.Shape.{Phase, Opening, Started, Woken, Working, Over, due_in, opening_of, phase}
use Rattle.spec_trace.specs.Sockets.{first, next_number, open_sockets}
use Rattle.rules_tftp.specs.Asking.{call_for}
use Rattle.rules_tftp.specs.Transfers.{Quest, SeeksLength, SeeksOctets, Settled as SeeksNothing}
use Rattle.spec_run.specs.Answers.{serving}
use Rattle.spec_run.specs.Asking.{step}
use Rattle.spec_run.specs.Datagrams.{Step, NeedsNothing, NeedsRoom, NeedsSocket, NeedsSending, due_for}
use Rattle.spec_run.specs.Laws.{May, due, due_for_services}
use Rattle.spec_run.specs.Names.{answered}
use Rattle.spec_run.proofs.Phases.{due_call}

-- no call that reads or writes the link, or waits
abbrev pub NoTurn : Option Call → Type 0
NoTurn (Some (CallWait wants timeout)) = ⊥
NoTurn (Some (CallLinkRead asked)) = ⊥
NoTurn (Some (CallLinkWrite octets)) = ⊥
NoTurn _ = Unit {0}

-- nor one on a file
abbrev NoFile : Option Call → Type 0
NoFile (Some (CallFileLen name)) = ⊥
NoFile (Some (CallFileRead name place asked)) = ⊥
NoFile o = NoTurn o

module _ (Q : Option Call → Type 0) (close : (socket : ℕ) → Q (Some (CallClose socket))) (connect : (socket : ℕ) (to : Endpoint) → Q (Some (CallConnect socket to)))
    (listen : (socket : ℕ) (at : Endpoint) → Q (Some (CallListen socket at)))
    (open_one : (socket : ℕ) (at : Endpoint) → Q (Some (CallUdpOpen socket at))) (send : (socket : ℕ) (to : Endpoint) (octets : List ℕ) → Q (Some (CallUdpSend socket to octets)))
    (clock : Q (Some CallNow)) (none : Q None) where
  opens : (proto : Proto) (number : ℕ) (forward : Forward) → Q (Some (opening_of proto number forward))
  opens Tcp number forward = listen number forward.host
  opens Udp number forward = open_one number forward.host

  closes : (o : Option ℕ) → Q (option_map CallClose o)
  closes None = none
  closes (Some socket) = close socket

  by_phase : (p : Phase) (past : List Entry) → Q (due_in p past)
  by_phase (Opening count []) past = clock
  by_phase (Opening count (forward ∷ forwards)) past = opens forward.proto (next_number past) forward
  by_phase Started past = none
  by_phase Woken past = clock
  by_phase Working past = none
  by_phase (Over cause) past = closes (first (open_sockets past))

  by_step : (config : Config) (s : Step) (number : ℕ) → Q (due_for config s number)
  by_step config NeedsNothing number = none
  by_step config (NeedsRoom oldest errand) number = close oldest
  by_step config (NeedsSocket errand) number = open_one number _
  by_step config (NeedsSending socket errand) number = send socket errand.to errand.datagram.body

  by_answer : (o : Option ℕ) → Q (option_map CallClose o)
  by_answer None = none
  by_answer (Some socket) = close socket

  by_flows : (doomed : Option ℕ) (to : Option Endpoint) (number : ℕ) → Q (due_by doomed to number)
  by_flows (Some socket) to number = close socket
  by_flows None None number = none
  by_flows None (Some to) number = connect number to

-- ---- where a call on a file comes

abbrev IsFile : Call → Type 0
IsFile (CallFileLen name) = Unit {0}
IsFile (CallFileRead name place asked) = Unit {0}
IsFile _ = ⊥

clash : (call : Call) → IsFile call → NoFile (Some call) → ⊥
clash (CallFileLen name) file never = never
clash (CallFileRead name place asked) file never = never
clash _ file never = file

passed : (one other : Option Call) (call : Call) → IsFile call → NoFile one → option_or one other ≡ Some call → other ≡ Some call
passed None other call file never is = is
passed (Some c) other call file never is = absurd (clash call file (subst (λ o. NoFile o) is never))

stops : (one other : Option Call) (call : Call) → IsFile call → NoFile other → option_or one other ≡ Some call → one ≡ Some call
stops None other call file never is = absurd (clash call file (subst (λ o. NoFile o) is never))
stops (Some c) other call file never is = is

pub is_sought : (config : Config) (past : List Entry) (call : Call) → IsFile call → due config past ≡ Some call → call_for (serving config past).files.quest ≡ Some call
is_sought config past call file is =
    let flows = due_for_flows config (book config past) (next_number past) in
    let quest = call_for (serving config past).files.quest in
    let services = option_or (due_for_services config past) flows in
    let datagrams = option_or (due_for config (step config past) (next_number past)) services in
    let one = passed (due_in (phase config past) past) datagrams call file (by_phase NoFile (λ s. tt) (λ s to. tt) (λ s at. tt) (λ s at. tt) (λ s to o. tt) tt tt (phase config past) past) is in
    let two = passed (due_for config (step config past) (next_number past)) services call file (by_step NoFile (λ s. tt) (λ s to. tt) (λ s at. tt) (λ s at. tt)
    (λ s to o. tt) tt tt config (step config past) (next_number past)) one in
    let three = stops (due_for_services config past) flows call file (by_flows NoFile (λ s. tt) (λ s to. tt) (λ s at. tt) (λ s at. tt) (λ s to o. tt) tt tt
    (book config past).doomed (connects_to config (book config past)) (next_number past)) two in
    passed (option_map CallClose (answered config past)) quest call file (by_answer NoFile (λ s. tt) (λ s to. tt) (λ s at. tt) (λ s at. tt) (λ s to o. tt) tt tt (answered config past)) three

pub sought_length : (config : Config) (past : List Entry) (name : List ℕ) → May config past (CallFileLen name) → call_for (serving config past).files.quest ≡ Some (CallFileLen name)
sought_length config past name may = is_sought config past (CallFileLen name) tt (due_call (due config past) (CallFileLen name) may.place may.due)

pub sought_octets : (config : Config) (past : List Entry) (name : List ℕ) (place asked : ℕ) → May config past (CallFileRead name place asked) → call_for
    (serving config past).files.quest ≡ Some (CallFileRead name place asked)
sought_octets config past name place asked may = is_sought config past (CallFileRead name place asked) tt (due_call (due config past) (CallFileRead name place asked) may.place may.due)

-- ---- where a turn goes on

no_turn_for_quest : (q : Quest) → NoTurn (call_for q)
no_turn_for_quest SeeksNothing = tt
no_turn_for_quest (SeeksLength s) = tt
no_turn_for_quest (SeeksOctets t there) = tt

both : (Q : Option Call → Type 0) (one other : Option Call) → Q one → Q other → Q (option_or one other)
both Q None other first second = second
both Q (Some call) other first second = first

no_turn_due : (config : Config) (past : List Entry) → NoTurn (due config past)
no_turn_due config past =
    let flows = due_for_flows config (book config past) (next_number past) in
    let services = option_or (due_for_services config past) flows in
    both NoTurn (due_in (phase config past) past) (option_or (due_for config (step config past) (next_number past)) services) (by_phase NoTurn (λ s. tt) (λ s to. tt) (λ s at. tt)
    (λ s at. tt) (λ s to o. tt) tt tt (phase config past) past)
    (both NoTurn (due_for config (step config past) (next_number past)) services (by_step NoTurn (λ s. tt) (λ s to. tt) (λ s at. tt) (λ s at. tt) (λ s to o. tt) tt tt config
    (step config past) (next_number past))
    (both NoTurn (due_for_services config past) flows
    (both NoTurn (option_map CallClose (answered config past)) (call_for (serving config past).files.quest) (by_answer NoTurn (λ s. tt) (λ s to. tt) (λ s at. tt) (λ s at. tt)
    (λ s to o. tt) tt tt (answered config past)) (no_turn_for_quest (serving config past).files.quest))
    (by_flows NoTurn (λ s. tt) (λ s to. tt) (λ s at. tt) (λ s at. tt) (λ s to o. tt) tt tt (book config past).doomed (connects_to config (book config past)) (next_number past))))

second_none : (one other : Option Call) → option_or one other ≡ None → other ≡ None
second_none None other is = is
second_none (Some call) other is = cc

none_sought : (q : Quest) → call_for q ≡ None → q ≡ SeeksNothing
none_sought SeeksNothing is = refl
none_sought (SeeksLength s) is = cc
none_sought (SeeksOctets t there) is = cc

none_due : (o : Option Call) (call : Call) → NoTurn o → (NoTurn (Some call) → ⊥) → MatchOption o (Unit {0}) (λ d. call ≡ d) → o ≡ None
none_due None call never turn is = refl
none_due (Some d) call never turn is = absurd (turn (subst (λ c. NoTurn (Some c)) (sym is) never))

pub settled : (config : Config) (past : List Entry) (call : Call) → (NoTurn (Some call) → ⊥) → May config past call → (serving config past).files.quest ≡ SeeksNothing
settled config past call turn may =
    let flows = due_for_flows config (book config past) (next_number past) in
    let quest = call_for (serving config past).files.quest in
    let services = option_or (due_for_services config past) flows in
    let none = none_due (due config past) call (no_turn_due config past) turn may.due in
    let answers = first_none (due_for_services config past) flows
    (second_none (due_for config (step config past) (next_number past)) services
    (second_none (due_in (phase config past) past) (option_or (due_for config (step config past) (next_number past)) services) none)) in
    none_sought (serving config past).files.quest (second_none (option_map CallClose (answered config past)) quest answers)
  where
    first_none : (one other : Option Call) → option_or one other ≡ None → one ≡ None
    first_none None other is = refl
    first_none (Some call) other is = cc
