use Rattle.spec_flow.proofs.Opening.{opens_after_host}
use Rattle.spec_flows.specs.Book.{story}
use Rattle.spec_flows.specs.Laws.{flow_settings}
use Rattle.spec_flows.proofs.Laws.{is_lawful}
use Rattle.spec_flows.proofs.nothing_goes_out_before_the_host_connected.Goals as goal

pub returns : goal.returns
returns c = λ config past socket keeps out. opens_after_host (flow_settings config) (story config past socket) (is_lawful config past socket keeps) out
