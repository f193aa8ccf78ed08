-- The flows of a lawful run.
use Rattle.std.proofs.Common.{List, [], ◌∷◌}
use Rattle.world_face.specs.Journal.{Entry}
use Rattle.slirp_settings.specs.Addresses.{Config}
use Rattle.spec_flows.specs.Laws.{KeepsFlows}
use Rattle.spec_run.specs.Laws.{Lawful}

pub keeps_flows : (config : Config) (past : List Entry) → Lawful config past → KeepsFlows config past
keeps_flows config [] lawful = tt
keeps_flows config (e ∷ past) lawful = (lawful.0.flows, keeps_flows config past lawful.1)
