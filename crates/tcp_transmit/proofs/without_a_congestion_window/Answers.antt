use Rattle.tcp_transmit.proofs.Single.{alone}
use Rattle.tcp_transmit.proofs.without_a_congestion_window.Goals as goal

pub returns : goal.returns
returns c = λ t none. alone t none
