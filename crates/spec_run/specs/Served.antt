-- What the main call says of a World that told of its calls.
use Rattle.std.specs.Prelude.{◌≡◌, true}
use Rattle.world_face.specs.Tells.{Telling}
use Rattle.world_face.specs.Heard.{Heard}
use Rattle.slirp_settings.specs.Addresses.{Config}
use Rattle.spec_run.specs.Laws.{Finished, May}

-- A World that told of its calls tells of a lawful run, finished if it still tells; where it ceased, of its beginning, and the call at which it ceased could
-- come too.
abbrev pub Served : Config → Telling → Telling → Type 0
Served config old new = old.live ≡ true → Heard (May config) (Finished config) old new
