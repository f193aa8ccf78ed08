use Rattle.spec_run.proofs.Sized.{fits_mtu}
use Rattle.spec_run.proofs.no_segment_of_a_flow_is_longer_than_the_mtu.Goals as goal

pub returns : goal.returns
returns c = fits_mtu
