-- Lawful runs.
use Rattle.world_face.specs.Tells.{Telling, Makes}
use Rattle.world_face.proofs.Following.{heard}
use Rattle.slirp_settings.specs.Addresses.{Config}
use Rattle.spec_run.specs.Laws.{Finished, May, Lawful}
use Rattle.spec_run.specs.Served.{Served}

-- what a World tells of a lawful and finished run
pub served : (config : Config) (old new : Telling) → Makes old new (λ made. Lawful config made × Finished config made) → Served config old new
served config old new makes live = heard {May = May config} {Finished = Finished config} makes live
