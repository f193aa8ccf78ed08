use Rattle.spec_flow.proofs.GuestLaws.{acknowledged_came}
use Rattle.spec_flows.specs.Book.{story}
use Rattle.spec_flows.specs.Laws.{flow_settings}
use Rattle.spec_flows.proofs.Laws.{is_lawful}
use Rattle.spec_run.proofs.KeepingFlows.{keeps_flows}
use Rattle.spec_run.proofs.flows.what_is_acknowledged_came.Goals as goal

pub returns : goal.returns
returns c = λ config past socket lawful conforming.
    acknowledged_came (flow_settings config) (story config past socket) (is_lawful config past socket (keeps_flows config past lawful)) conforming
