use Rattle.std.proofs.Common.{◌∙◌, ap}
use Rattle.std.specs.Prelude.{slice_get}
use Rattle.spec_flow.proofs.Carried.{written_came}
use Rattle.spec_flows.specs.Book.{story}
use Rattle.spec_flows.specs.Laws.{flow_settings}
use Rattle.spec_flows.proofs.Agreeing.{taken_is}
use Rattle.spec_flows.proofs.Laws.{is_lawful, is_story, taken_begins}
use Rattle.spec_run.proofs.KeepingFlows.{keeps_flows}
use Rattle.spec_run.proofs.flows.hosts_get_what_their_guests_sent.Goals as goal

pub returns-clause-prefix : goal.returns-clause-prefix
returns-clause-prefix c = λ config past socket lawful conforming. taken_begins config past socket (keeps_flows config past lawful) conforming

pub returns-clause-came : goal.returns-clause-came
returns-clause-came c = λ config past socket f lawful found i x at. let keeps = keeps_flows config past lawful in
    written_came (flow_settings config) (story config past socket) (is_story config past socket keeps f found) (is_lawful config past socket keeps) i x
    (ap (λ xs. slice_get xs i) (taken_is config socket past keeps) ∙ at)
