use Rattle.spec_flow.proofs.Opening.{resets_as_failed, resets_once}
use Rattle.spec_flows.specs.Book.{story}
use Rattle.spec_flows.specs.Laws.{flow_settings}
use Rattle.spec_flows.proofs.Laws.{is_lawful}
use Rattle.spec_run.proofs.KeepingFlows.{keeps_flows}
use Rattle.spec_run.proofs.flows.flows_reset_their_guest_for_a_cause.Goals as goal

pub returns-clause-cause : goal.returns-clause-cause
returns-clause-cause c = λ config past socket lawful out.
    resets_as_failed (flow_settings config) (story config past socket) (is_lawful config past socket (keeps_flows config past lawful)) out

pub returns-clause-once : goal.returns-clause-once
returns-clause-once c = λ config past socket lawful out.
    resets_once (flow_settings config) (story config past socket) (is_lawful config past socket (keeps_flows config past lawful)) out
