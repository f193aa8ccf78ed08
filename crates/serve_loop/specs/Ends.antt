-- The ends of a run.
use Rattle.world_face.specs.Tells.{Counts, Rose}
use Rattle.world_face.specs.Frames.{Ending, LinkEnded, LinkCut, LongFrame, LinkFailed, Stopped, WaitFailed}
use Rattle.slirp_settings.specs.Addresses.{Config}
use Rattle.spec_trace.specs.Shape.{By, Refused, Phase, Opening, Started, Woken, Working, Over}
use Rattle.slirp_core.specs.Counts.{AreGrown}
use Rattle.stream_netdev.specs.declared.Pumped.{Pumped}
use Rattle.stream_netdev.specs.declared.Pumped.TheVariants.{Clear, Blocked, Failed as PumpFailed}
use Rattle.serve_loop.specs.declared.service.Turn.{Turn}
use Rattle.serve_loop.specs.declared.service.Turn.TheVariants.{Again, Ended}
use Rattle.serve_loop.specs.declared.service.End.{End}
use Rattle.serve_loop.specs.declared.service.End.TheVariants.{Done, TooLong, Cut, LinkFault, WaitFault, TurnsSpent, ListenRefused, ControlRefused}

-- the end by an ending entry: the link ended between frames or a wait was told to stop; and so on
abbrev pub end_by : Ending → End
end_by LinkEnded = Done
end_by (LinkCut octets) = Cut octets
end_by (LongFrame length) = TooLong length
end_by LinkFailed = LinkFault
end_by Stopped = Done
end_by WaitFailed = WaitFault

-- a pump ends a turn where the link failed
abbrev pub turn_of : Pumped → Turn
turn_of Clear = Again
turn_of Blocked = Again
turn_of PumpFailed = Ended LinkFault

-- a forward was refused; where no entry ended a run that is finished, its turns are spent
abbrev pub end_of : Config → Phase → End
end_of config (Over (By why)) = end_by why
end_of config (Over (Refused forward)) = ListenRefused forward
end_of config (Opening opened forwards) = TurnsSpent config.turns
end_of config Started = TurnsSpent config.turns
end_of config Woken = TurnsSpent config.turns
end_of config Working = TurnsSpent config.turns

-- the fault by which a turn ended was counted
abbrev pub IsCountedEnd : End → Counts → Counts → Type 0
IsCountedEnd LinkFault old new = Rose old.link new.link
IsCountedEnd WaitFault old new = Rose old.wait new.wait
IsCountedEnd (ListenRefused forward) old new = Rose old.socket new.socket
IsCountedEnd ControlRefused old new = Rose old.socket new.socket
IsCountedEnd _ old new = Unit {0}

abbrev pub IsCounted : Turn → Counts → Counts → Type 0
IsCounted Again old new = AreGrown old new
IsCounted (Ended end) old new = IsCountedEnd end old new
