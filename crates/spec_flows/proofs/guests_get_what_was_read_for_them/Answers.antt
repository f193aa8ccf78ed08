use Rattle.std.proofs.Common.{sym, ◌∙◌, ap}
use Rattle.std.specs.Prelude.{slice_get}
use Rattle.spec_flow.proofs.HostLaws.{sent_was_read}
use Rattle.spec_flows.specs.Book.{story}
use Rattle.spec_flows.specs.Laws.{flow_settings}
use Rattle.spec_flows.proofs.Agreeing.{given_is}
use Rattle.spec_flows.proofs.Laws.{is_lawful}
use Rattle.spec_flows.proofs.guests_get_what_was_read_for_them.Goals as goal

pub returns : goal.returns
returns c = λ config past socket keeps i x gave.
    sym (ap (λ xs. slice_get xs i) (given_is config socket past keeps)) ∙ sent_was_read (flow_settings config) (story config past socket) (is_lawful config past socket keeps) i x gave
