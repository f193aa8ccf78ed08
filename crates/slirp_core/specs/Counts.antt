-- Counts of faults that don't fall.
use Rattle.std.specs.Prelude.{◌≤◌}
use Rattle.world_face.specs.Tells.{Counts}

-- no count of the link's faults, of the waits' or of the sockets' fell
abbrev pub AreGrown : Counts → Counts → Type 0
AreGrown old new = (old.link ≤ new.link) × (old.wait ≤ new.wait) × (old.socket ≤ new.socket)
