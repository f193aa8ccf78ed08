-- What the program comes to by the end of a run.
use Rattle.serve_loop.specs.declared.service.End.{End}
use Rattle.serve_loop.specs.declared.service.End.TheVariants.{Done as EndDone, TooLong, Cut, LinkFault as EndLink, WaitFault as EndWait, TurnsSpent as EndTurns, ListenRefused as EndRefused, ControlRefused as EndControl}
use Rattle.app_edges.specs.declared.outcome.Outcome.{Outcome}
use Rattle.app_edges.specs.declared.outcome.Outcome.TheVariants.{Done, FrameTooLong, FrameCut, LinkFault, WaitFault, TurnsSpent, ListenRefused, ControlRefused}

-- what a run comes to by its end
abbrev pub outcome_of : End → Outcome
outcome_of EndDone = Done
outcome_of (TooLong length) = FrameTooLong length
outcome_of (Cut octets) = FrameCut octets
outcome_of EndLink = LinkFault
outcome_of EndWait = WaitFault
outcome_of (EndTurns turns) = TurnsSpent turns
outcome_of (EndRefused forward) = ListenRefused forward
outcome_of EndControl = ControlRefused
