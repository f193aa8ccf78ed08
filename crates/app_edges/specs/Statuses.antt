-- The statuses of the program.
use Rattle.std.specs.Prelude.{ℕ, ◌==◌, ◌||◌, not, Bool}
use Rattle.app_edges.specs.declared.outcome.Outcome.{Outcome}
use Rattle.app_edges.specs.declared.outcome.Outcome.TheVariants.{Done, Usage, BadConfig, ScheduleRead, ScheduleTooLarge, ScheduleLine, Diverged, FrameTooLong, FrameCut, LinkFault}
use Rattle.app_edges.specs.declared.outcome.Outcome.TheVariants.{WaitFault, TurnsSpent, ListenRefused, SinkFault, NoMemory, ControlRefused}

abbrev pub code_of : Outcome → ℕ
code_of Done = 0
code_of (Usage stop) = 1
code_of (BadConfig field) = 2
code_of ScheduleRead = 3
code_of ScheduleTooLarge = 3
code_of (ScheduleLine line) = 4
code_of (Diverged divergence) = 5
code_of (FrameTooLong length) = 6
code_of (FrameCut octets) = 7
code_of LinkFault = 8
code_of WaitFault = 9
code_of (TurnsSpent turns) = 10
code_of (ListenRefused forward) = 11
code_of SinkFault = 12
code_of NoMemory = 13
code_of ControlRefused = 14

-- nothing was run: the words or the schedule have no reading, the settings aren't sound, or there was no memory
abbrev pub is_unrun : ℕ → Bool
is_unrun status = (status == 1) || (status == 2) || (status == 3) || (status == 4) || (status == 13)

-- a run was made and its trace put
abbrev pub is_run : ℕ → Bool
is_run status = not (is_unrun status || (status == 12))
