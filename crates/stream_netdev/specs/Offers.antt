-- The answers of writes.
use Rattle.std.specs.Prelude.{ℕ, Bool, List, [], if◌then◌else◌}
use Rattle.world_face.specs.declared.Io.{Io}
use Rattle.world_face.specs.declared.Io.TheVariants.{Done, End, NotYet, Failed as IoFailed}
use Rattle.stream_netdev.specs.declared.Offered.{Offered}
use Rattle.stream_netdev.specs.declared.Offered.TheVariants.{Taken, Blocked, Failed}
use Rattle.stream_netdev.specs.declared.Pumped.{Pumped}
use Rattle.stream_netdev.specs.declared.Pumped.TheVariants.{Clear, Blocked as PumpBlocked, Failed as PumpFailed}

-- the answer of a write, seen by who offered
abbrev pub offered : Io → Offered
offered (Done n) = Taken
offered End = Blocked
offered NotYet = Blocked
offered IoFailed = Failed

-- what is left of a frame of which this was left, or nothing where none of it was taken
abbrev pub left : Offered → List ℕ → List ℕ
left Taken rest = rest
left Blocked rest = []
left Failed rest = []

-- what an offer comes to, where the link is then blocked or not
abbrev pub pumped_of : Offered → Bool → Pumped
pumped_of Taken blocked = if blocked then PumpBlocked else Clear
pumped_of Blocked blocked = if blocked then PumpBlocked else Clear
pumped_of Failed blocked = PumpFailed
