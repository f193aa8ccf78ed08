use Rattle.spec_run.proofs.Peers.{peers_reach}
use Rattle.spec_run.proofs.flows.peers_reach_the_guest_that_the_settings_name.Goals as goal

pub returns : goal.returns
returns c = λ config past socket f lawful found accepted. peers_reach config past socket f found accepted
