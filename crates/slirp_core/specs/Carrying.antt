-- The sockets of datagrams as one row.
use Rattle.std.specs.Prelude.{ℕ, ◌≤◌, List, length}
use Rattle.slirp_core.specs.Pumps.{merged}
use Rattle.slirp_core.specs.declared.wants.Carriers.{Carriers}

abbrev pub sockets_of : Carriers → List ℕ
sockets_of c = merged (merged c.forwards.now c.associations.now) c.questions.now

-- those of ports of the host are 32 at most, those of associations, and of questions, 512
abbrev pub HasRoom : Carriers → Type 0
HasRoom c = (length c.forwards.now ≤ 32) × (length c.associations.now ≤ 512) × (length c.questions.now ≤ 512)
