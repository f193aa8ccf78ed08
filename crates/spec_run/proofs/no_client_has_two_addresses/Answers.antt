use Rattle.spec_run.proofs.Leased.{one_to_one}
use Rattle.spec_run.proofs.no_client_has_two_addresses.Goals as goal

pub returns : goal.returns
returns c = one_to_one
