-- Counts of faults over the parts of a turn.
use Rattle.std.proofs.Common.{◌≡◌, refl, arith}
use Rattle.world_face.specs.Tells.{Counts, Rose}
use Rattle.world_face.proofs.Counting.{rose_after, rose_before}
use Rattle.serve_loop.specs.Ends.{IsCounted, IsCountedEnd, turn_of}
use Rattle.slirp_core.specs.Counts.{AreGrown}
use Rattle.serve_loop.specs.declared.service.End.{End}
use Rattle.serve_loop.specs.declared.service.End.TheVariants.{Done, TooLong, Cut, LinkFault, WaitFault, TurnsSpent, ListenRefused, ControlRefused}
use Rattle.serve_loop.specs.declared.service.Turn.{Turn}
use Rattle.serve_loop.specs.declared.service.Turn.TheVariants.{Again, Ended}
use Rattle.stream_netdev.specs.declared.Pumped.{Pumped}
use Rattle.stream_netdev.specs.declared.Pumped.TheVariants.{Clear, Blocked, Failed}

pub grown_then : (a b c : Counts) → AreGrown a b → AreGrown b c → AreGrown a c
grown_then a b c first second = (omega (arith, first.0, second.0), omega (arith, first.1, second.1), omega (arith, first.2, second.2))

pub end_after : (end : End) (a b c : Counts) → AreGrown a b → IsCountedEnd end b c → IsCountedEnd end a c
end_after Done a b c before counted = tt
end_after (TooLong n) a b c before counted = tt
end_after (Cut n) a b c before counted = tt
end_after LinkFault a b c before counted = rose_after a.link b.link c.link before.0 counted
end_after WaitFault a b c before counted = rose_after a.wait b.wait c.wait before.1 counted
end_after (TurnsSpent n) a b c before counted = tt
end_after (ListenRefused n) a b c before counted = rose_after a.socket b.socket c.socket before.2 counted
end_after ControlRefused a b c before counted = rose_after a.socket b.socket c.socket before.2 counted

pub end_before : (end : End) (a b c : Counts) → IsCountedEnd end a b → AreGrown b c → IsCountedEnd end a c
end_before Done a b c counted later = tt
end_before (TooLong n) a b c counted later = tt
end_before (Cut n) a b c counted later = tt
end_before LinkFault a b c counted later = rose_before a.link b.link c.link counted later.0
end_before WaitFault a b c counted later = rose_before a.wait b.wait c.wait counted later.1
end_before (TurnsSpent n) a b c counted later = tt
end_before (ListenRefused n) a b c counted later = rose_before a.socket b.socket c.socket counted later.2
end_before ControlRefused a b c counted later = rose_before a.socket b.socket c.socket counted later.2

pub counted_after : (turn : Turn) (a b c : Counts) → AreGrown a b → IsCounted turn b c → IsCounted turn a c
counted_after Again a b c before counted = grown_then a b c before counted
counted_after (Ended end) a b c before counted = end_after end a b c before counted

-- of a pump
pub pump_counted : (pumped : Pumped) (a b : Counts) → AreGrown a b → (pumped ≡ Failed → Rose a.link b.link) → IsCounted (turn_of pumped) a b
pump_counted Clear a b more failed = more
pump_counted Blocked a b more failed = more
pump_counted Failed a b more failed = failed refl
