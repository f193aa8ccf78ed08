use Rattle.std.proofs.Common.{◌<◌, length, sym, ◌∙◌, ap, subst}
use Rattle.std.specs.Prelude.{slice_get}
use Rattle.spec_flow.proofs.HostLaws.{nothing_is_left_out, sent_was_read}
use Rattle.spec_flows.specs.Book.{story}
use Rattle.spec_flows.specs.Laws.{flow_settings}
use Rattle.spec_flows.proofs.Agreeing.{given_is}
use Rattle.spec_flows.proofs.Laws.{is_lawful}
use Rattle.spec_run.proofs.KeepingFlows.{keeps_flows}
use Rattle.spec_run.proofs.flows.guests_get_what_was_read_for_them.Goals as goal

pub returns-clause-read : goal.returns-clause-read
returns-clause-read c = λ config past socket lawful i x gave. let keeps = keeps_flows config past lawful in
    sym (ap (λ xs. slice_get xs i) (given_is config socket past keeps)) ∙ sent_was_read (flow_settings config) (story config past socket) (is_lawful config past socket keeps) i x gave

pub returns-clause-no_gap : goal.returns-clause-no_gap
returns-clause-no_gap c = λ config past socket lawful i below within. let keeps = keeps_flows config past lawful in
    nothing_is_left_out (flow_settings config) (story config past socket) (is_lawful config past socket keeps) i below
    (subst (λ xs. i < length xs) (sym (given_is config socket past keeps)) within)
