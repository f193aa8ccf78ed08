-- The shape of a run: the host's ports first, then the clock, then turns, each of which begins with a wait, and closing at the end.
use Rattle.std.specs.Prelude.{◌≡◌, ℕ, ◌+◌, ◌||◌, nat_le, Bool, true, false, List, [], ◌∷◌, Option, Some, None, option_map}
use Rattle.world_face.specs.Frames.{Ending, ending, partial}
use Rattle.world_face.specs.Journal.{Entry, Call, Now, Wait, Listen, UdpOpen, CallNow, CallListen, CallUdpOpen, CallClose}
use Rattle.world_face.specs.declared.Made.{Made}
use Rattle.world_face.specs.declared.Made.TheVariants.{Done as MadeDone, Failed as MadeFailed}
use Rattle.slirp_settings.specs.declared.Forward.{Forward}
use Rattle.slirp_settings.specs.declared.Proto.{Proto}
use Rattle.slirp_settings.specs.declared.Proto.TheVariants.{Tcp, Udp}
use Rattle.slirp_settings.specs.Addresses.{Config}
use Rattle.spec_trace.specs.Moments.{waits}
use Rattle.spec_trace.specs.Sockets.{first, next_number, open_sockets}

-- why a run is over: the link or a wait ended it, or the host refused a forward, counted from 0
pub data Cause : Type 0 where
  By : (ending : Ending) → Cause
  Refused : (forward : ℕ) → Cause

-- Where a run stands: with so many forwards open and these still to be opened; before its first wait; after a wait that is ready; in a turn; after an ending entry.
pub data Phase : Type 0 where
  Opening : (opened : ℕ) (forwards : List Forward) → Phase
  Started : Phase
  Woken : Phase
  Working : Phase
  Over : (cause : Cause) → Phase

-- the clock is asked when all forwards are open, and after each wait
abbrev pub clocked : Phase → Phase
clocked (Opening opened forwards) = Started
clocked Woken = Working
clocked phase = phase

-- a forward is open, or was refused
abbrev pub opened : Made → Phase → Phase
opened MadeDone (Opening count (forward ∷ forwards)) = Opening (count + 1) forwards
opened MadeFailed (Opening count forwards) = Over (Refused count)
opened answer phase = phase

-- what an entry makes of it
abbrev pub phase_by : Entry → Phase → Phase
phase_by (Now told) phase = clocked phase
phase_by (Wait wants timeout answer ready) phase = Woken
phase_by (Listen socket at answer) phase = opened answer phase
phase_by (UdpOpen socket at answer) phase = opened answer phase
phase_by _ phase = phase

-- an ending entry ends it, the first one tells the cause
abbrev pub unless_over : Phase → Ending → Phase
unless_over (Over cause) why = Over cause
unless_over _ why = Over (By why)

abbrev pub phase_after : Entry → Option Ending → Phase → Phase
phase_after e None phase = phase_by e phase
phase_after e (Some why) phase = unless_over phase why

abbrev pub phase : Config → List Entry → Phase
phase config [] = Opening 0 config.forwards
phase config (e ∷ past) = phase_after e (ending e (partial past)) (phase config past)

abbrev pub is_opening : Phase → Bool
is_opening (Opening opened forwards) = true
is_opening _ = false

-- a wait may begin a turn; the other calls of a turn come after its wait
abbrev pub may_turn : Phase → Bool
may_turn Started = true
may_turn Working = true
may_turn _ = false

abbrev pub is_working : Phase → Bool
is_working Working = true
is_working _ = false

abbrev pub is_over : Phase → Bool
is_over (Over cause) = true
is_over _ = false

-- an ending entry came, or the last wait that the run may make
abbrev pub is_ended : Config → List Entry → Bool
is_ended config past = is_over (phase config past) || nat_le config.turns (waits past)

-- no port of the host is given to a guest, by the settings or later
abbrev pub GivesNone : Config → Type 0
GivesNone config = (config.forwards ≡ []) × (config.added ≡ [])

-- the call that opens a forward
abbrev pub opening_of : Proto → ℕ → Forward → Call
opening_of Tcp number forward = CallListen number forward.host
opening_of Udp number forward = CallUdpOpen number forward.host

-- the call that must come next where the run stands so
abbrev pub due_in : Phase → List Entry → Option Call
due_in (Opening count []) past = Some CallNow
due_in (Opening count (forward ∷ forwards)) past = Some (opening_of forward.proto (next_number past) forward)
due_in Woken past = Some CallNow
due_in (Over cause) past = option_map CallClose (first (open_sockets past))
due_in _ past = None
