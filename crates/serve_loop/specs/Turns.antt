-- What a turn, and each part of it, comes to.
use Rattle.std.specs.Prelude.{◌≡◌, ◌⊎◌, ℕ, ◌+◌, ◌≤◌, ◌&&◌, not, Bool, true, false, List, [], ◌∷◌, slice_get, All, None, Some}
use Rattle.poll_list.specs.Listing.{differ, reads, same_who, writes}
use Rattle.poll_list.specs.declared.Want.{Want}
use Rattle.poll_list.specs.declared.Who.{Who}
use Rattle.poll_list.specs.declared.Who.TheVariants.{Link, Tcp, Udp}
use Rattle.world_face.specs.Journal.{Entry}
use Rattle.world_face.specs.Frames.{Ending, Stopped, WaitFailed}
use Rattle.world_face.specs.Tells.{Counts}
use Rattle.slirp_settings.specs.Addresses.{Config}
use Rattle.spec_trace.specs.Moments.{waits}
use Rattle.spec_trace.specs.Shape.{phase}
use Rattle.spec_trace.specs.Sockets.{next_number}
use Rattle.flow_splice.specs.Splice.{Splice}
use Rattle.spec_run.specs.Agenda.{all_wanted, wanted_of}
use Rattle.spec_run.specs.Laws.{Finished, Lawful}
use Rattle.rules_udp.specs.Associations.{is_over as is_idle_association}
use Rattle.rules_dns.specs.Questions.{is_over as is_idle_question}
use Rattle.rules_tftp.specs.Transfers.{next_again}
use Rattle.stream_netdev.specs.Keeps.{ReadsOn}
use Rattle.stream_netdev.specs.State.{LinkState, under_way}
use Rattle.rules_forward.specs.Opened.{Opened}
use Rattle.rules_forward.specs.Opened.{forward_sockets}
use Rattle.slirp_core.specs.Holds.{Standing, after, standing, flowing, Holders, holders_of, Holds, Ended, Closing}
use Rattle.slirp_core.specs.Calm.{AreClear}
use Rattle.tcp_flows.specs.Settled.{HaveTime}
use Rattle.tcp_flows.specs.Settled.{IsInTime as HasNoneDue}
use Rattle.slirp_core.specs.Pumps.{is_settled}
use Rattle.slirp_core.specs.State.{SlirpState}
use Rattle.slirp_core.specs.Waiting.{AreFresh}
use Rattle.spec_duties.specs.Duties.{Dutiful}
use Rattle.spec_duties.specs.Serving.{AllServed, IsServed, is_left_to_read, is_left_to_write}
use Rattle.sim_flows.specs.Core.{number_of}
use Rattle.serve_loop.specs.Ends.{IsCounted, end_by, end_of}
use Rattle.serve_loop.specs.declared.service.End.{End}
use Rattle.serve_loop.specs.declared.service.Turn.{Turn}
use Rattle.serve_loop.specs.declared.service.Turn.TheVariants.{Again, Ended as TurnEnded}
use Rattle.serve_loop.specs.declared.service.Slept.{Slept}
use Rattle.serve_loop.specs.declared.service.Slept.TheVariants.{Ready, Stopped as SleptStopped, Failed as SleepFailed}

-- whether an item is the frame that is to be read, and whether one is still to be read after it
abbrev pub is_read_now : Bool → Want → Bool
is_read_now to_read item = to_read && same_who Link item.of && item.read

abbrev pub still : Bool → Want → Bool
still to_read item = to_read && not (same_who Link item.of && item.read)

-- What the network and its link have is what the calls made so far left; before a wait the TIME-WAITs of flows that are over have ended, too.
abbrev pub HoldsNow : Config → Standing → Bool → SlirpState → LinkState → List Entry → Type 0
HoldsNow config at aged slirp link past = Holds config at slirp (flowing aged slirp.flows) link past

-- where nothing is left to be sent, no packet of a file is due to go again
abbrev pub NoneGoesAgain : SlirpState → Type 0
NoneGoesAgain slirp = slirp.pending ≡ [] → next_again slirp.moment slirp.transfers ≡ None

-- all that is owed is out, unless the link is blocked
abbrev pub AllSent : SlirpState → LinkState → Type 0
AllSent slirp link = link.blocked ≡ false → is_settled slirp link ≡ true

-- no flow was told in this turn
abbrev pub NoneTold : SlirpState → Type 0
NoneTold slirp = (k : ℕ) → slice_get slirp.flows.served k ≡ Some slirp.flows.turn → ⊥

-- no socket of a guest's port is idle for long, and none of a question, and no fragments are to be dropped
abbrev pub AreYoung : SlirpState → Type 0
AreYoung slirp = All (λ a. is_idle_association slirp.moment a ≡ false) slirp.associations × All (λ q. is_idle_question slirp.moment q ≡ false) slirp.questions × AreFresh slirp.moment slirp.fragments

-- unless the link is blocked no flow owes a frame
abbrev pub IsCalm : SlirpState → LinkState → Type 0
IsCalm slirp link = link.blocked ≡ false → AreClear slirp.known slirp.flows.flows

-- the link was waited for to be written, and is among these items so: what is owed is sent when it is served
pub record IsFreed (wants items : List Want) : Type 0 where
  pub wanted : writes Link wants ≡ true
  pub reported : writes Link items ≡ true

-- no flow owes a frame, unless the link is blocked or one of these items frees it
abbrev pub IsCalmAfter : List Want → List Want → SlirpState → LinkState → Type 0
IsCalmAfter wants items slirp link = IsCalm slirp link ⊎ IsFreed wants items

-- so before an item is served, and so after it, where the turn goes on
abbrev pub StaysCalm : Turn → List Want → Want → SlirpState → LinkState → SlirpState → LinkState → Type 0
StaysCalm result wants item slirp link new_slirp new_link = (items : List Want) → IsCalmAfter wants (item ∷ items) slirp link → result ≡ Again → IsCalmAfter wants items new_slirp new_link

-- before a wait: time closes no flow, and unless the link is blocked no flow has a timer that is due
abbrev pub IsInTime : SlirpState → LinkState → Type 0
IsInTime slirp link = HaveTime slirp.moment slirp.flows.flows.slots × (link.blocked ≡ false → (n : ℕ) → HasNoneDue slirp.moment slirp.flows.flows.slots n)

-- ---- reports that are to be served

-- frames and datagrams are taken in only where nothing is left to be sent
abbrev pub comes_in : Who → Bool
comes_in Link = true
comes_in (Udp n) = true
comes_in _ = false

-- where one is left to be taken in, nothing is left to be sent
abbrev pub CanTake : Config → SlirpState → LinkState → List Entry → Type 0
CanTake config slirp link past = (who : Who) → comes_in who ≡ true → is_left_to_read config past who ≡ true → is_settled slirp link ≡ true

-- What is left of the reports of the last wait, which wanted these, is among these items, of which no two are of one socket.
pub record IsLeftAmong (config : Config) (wants items : List Want) (to_read : Bool) (slirp : SlirpState) (past : List Entry) : Type 0 where
  pub reading : (who : Who) → is_left_to_read config past who ≡ true → reads who (all_wanted wants items) ≡ true
  pub writing : (who : Who) → is_left_to_write config past who ≡ true → writes who (all_wanted wants items) ≡ true
  -- a frame is left only where one is still to be read, and a link that takes more is served by its report
  pub frame : to_read ≡ false → is_left_to_read config past Link ≡ false
  pub freed : is_left_to_write config past Link ≡ false
  -- nothing is left of a flow that was told in this turn
  pub told : (k : ℕ) (p : Splice) → slice_get slirp.flows.flows.slots k ≡ Some (Some p) → slice_get slirp.flows.served k ≡ Some slirp.flows.turn → IsServed config past (Tcp (number_of p))
  pub differ : differ items ≡ true

-- where a run stands within a turn, with these items to be served
pub record ServesNow (config : Config) (count : ℕ) (wants items : List Want) (to_read : Bool) (slirp : SlirpState) (link : LinkState) (past : List Entry) : Type 0 where
  pub holds : HoldsNow config (standing count wants items) false slirp link past
  pub left : IsLeftAmong config wants items to_read slirp past
  pub can_take : CanTake config slirp link past

-- whether a frame is to be read in a turn: the link was waited for, and reported
abbrev pub is_frame_due : List Want → List Want → Bool
is_frame_due wants ready = reads Link wants && reads Link ready

-- after a wait with these wants, and the call of the clock that follows it
abbrev pub AfterSleep : Slept → Config → ℕ → List Want → List Want → SlirpState → LinkState → List Entry → Type 0
AfterSleep Ready config count wants ready slirp link past = ServesNow config count wants ready (is_frame_due wants ready) slirp link past
AfterSleep SleptStopped config count wants ready slirp link past = Ended config count Stopped slirp.forwards (holders_of slirp) past × (next_number past ≡ slirp.number)
AfterSleep SleepFailed config count wants ready slirp link past = Ended config count WaitFailed slirp.forwards (holders_of slirp) past × (next_number past ≡ slirp.number)

-- after a turn, or a part of one, that ended the run: the next socket would have this number
pub record EndedAs (config : Config) (count : ℕ) (end : End) (forwards : List Opened) (o : Holders) (number : ℕ) (past : List Entry) : Type 0 where
  pub why : Ending
  pub ended : Ended config count why forwards o past
  pub is : end ≡ end_by why
  pub drawn : next_number past ≡ number

-- after a turn: the core stands for the trace yet, or the run has ended
abbrev pub AfterTurn : Turn → Config → Standing → Bool → SlirpState → LinkState → List Entry → Type 0
AfterTurn Again config at aged slirp link past = HoldsNow config at aged slirp link past
AfterTurn (TurnEnded end) config at aged slirp link past = EndedAs config at.count end slirp.forwards (holders_of slirp) slirp.number past

-- after an item was served
abbrev pub AfterItem : Turn → Config → ℕ → List Want → List Want → Bool → SlirpState → LinkState → List Entry → Type 0
AfterItem Again config count wants items to_read slirp link past = ServesNow config count wants items to_read slirp link past
AfterItem (TurnEnded end) config count wants items to_read slirp link past = EndedAs config count end slirp.forwards (holders_of slirp) slirp.number past

-- after all were
abbrev pub ServedAfter : Turn → Config → List Entry → Type 0
ServedAfter Again config past = AllServed config past
ServedAfter (TurnEnded end) config past = Unit {0}

-- after a turn, whose sockets are left open where it ended the run: that may have been before its wait, and it made no other
abbrev pub AfterTaking : Turn → Config → ℕ → SlirpState → LinkState → List Entry → Type 0
AfterTaking Again config count slirp link past = HoldsNow config (after (count + 1)) false slirp link past
AfterTaking (TurnEnded end) config count slirp link past = (waited : ℕ) × (waited ≤ count + 1) × EndedAs config waited end slirp.forwards (holders_of slirp) slirp.number past

-- and then the link can be read
abbrev pub GoesOnAfter : Turn → LinkState → Type 0
GoesOnAfter Again link = ReadsOn (under_way link)
GoesOnAfter (TurnEnded end) link = Unit {0}

-- how a step ends: where it ends the run a count of faults says why, and where the turn goes on the link can be read
pub record IsStep (result : Turn) (old new : Counts) (link : LinkState) : Type 0 where
  pub counted : IsCounted result old new
  pub on : GoesOnAfter result link

-- a run that has this end; only its sockets are to be closed
pub record Closes (config : Config) (end : End) (forwards : List Opened) (o : Holders) (past : List Entry) : Type 0 where
  pub closing : Closing config (phase config past) (forward_sockets forwards) o past
  pub is : end ≡ end_of config (phase config past)

-- the sockets of a run that has this end are closed, and it is the end of the whole
abbrev pub RanTo : Config → End → List Entry → Type 0
RanTo config end made = Lawful config made × Finished config made × (end ≡ end_of config (phase config made))

-- after a whole turn: where it ended the run all sockets are closed, and there were no more waits than these, and no more sockets than have a number
abbrev pub AfterWholeTurn : Turn → Config → Standing → SlirpState → LinkState → List Entry → Type 0
AfterWholeTurn Again config at slirp link past = HoldsNow config at false slirp link past
AfterWholeTurn (TurnEnded end) config at slirp link past = RanTo config end past × (waits past ≤ at.count) × (next_number past ≤ slirp.number)

-- ---- the same, where each wait so far was as it must be

-- and each report of the last one is served
abbrev pub IsAttended : Config → List Entry → Type 0
IsAttended config past = Dutiful config past × AllServed config past

-- a run that ended may leave some
abbrev pub IsAttendedAfter : Turn → Config → List Entry → Type 0
IsAttendedAfter Again config past = IsAttended config past
IsAttendedAfter (TurnEnded end) config past = Dutiful config past

-- between entries
abbrev pub AttendsNow : Config → Standing → Bool → SlirpState → LinkState → List Entry → Type 0
AttendsNow config at aged slirp link past = HoldsNow config at aged slirp link past × IsAttended config past

-- before a wait: all that is still to be done has its time after it
abbrev pub MayRest : Config → Standing → SlirpState → LinkState → List Entry → Type 0
MayRest config at slirp link past = AttendsNow config at true slirp link past × IsInTime slirp link

-- after a wait
abbrev pub AttendsAfterSleep : Slept → Config → ℕ → List Want → List Want → SlirpState → LinkState → List Entry → Type 0
AttendsAfterSleep slept config count wants ready slirp link past = AfterSleep slept config count wants ready slirp link past × Dutiful config past

-- after a turn, or a part of one
abbrev pub AttendsAfterTurn : Turn → Config → Standing → Bool → SlirpState → LinkState → List Entry → Type 0
AttendsAfterTurn turn config at aged slirp link past = AfterTurn turn config at aged slirp link past × IsAttendedAfter turn config past

-- after a turn whose sockets are left open where it ended the run
abbrev pub AttendsAfterTaking : Turn → Config → ℕ → SlirpState → LinkState → List Entry → Type 0
AttendsAfterTaking turn config count slirp link past = AfterTaking turn config count slirp link past × IsAttendedAfter turn config past

-- after a whole turn
abbrev pub AttendsAfterWholeTurn : Turn → Config → Standing → SlirpState → LinkState → List Entry → Type 0
AttendsAfterWholeTurn turn config at slirp link past = AfterWholeTurn turn config at slirp link past × IsAttendedAfter turn config past

-- a whole run with this end
abbrev pub AttendsTo : Config → End → List Entry → Type 0
AttendsTo config end made = RanTo config end made × Dutiful config made

-- ---- items

-- nothing of what was reported of an item was waited for
abbrev pub is_passed_over : List Want → Want → Bool
is_passed_over wants item = not (wanted_of wants item).read && not (wanted_of wants item).write

abbrev pub all_passed_over : List Want → List Want → Bool
all_passed_over wants [] = true
all_passed_over wants (item ∷ items) = is_passed_over wants item && all_passed_over wants items
