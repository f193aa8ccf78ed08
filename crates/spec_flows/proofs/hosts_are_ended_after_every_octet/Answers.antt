use Rattle.std.proofs.Common.{sym, ◌∙◌}
use Rattle.spec_flow.proofs.AllCame.{host_has_all}
use Rattle.spec_flows.specs.Book.{story}
use Rattle.spec_flows.specs.Laws.{flow_settings}
use Rattle.spec_flows.proofs.Agreeing.{taken_is}
use Rattle.spec_flows.proofs.Laws.{is_lawful}
use Rattle.spec_flows.proofs.hosts_are_ended_after_every_octet.Goals as goal

pub returns : goal.returns
returns c = λ config past socket keeps conforming ended.
    sym (taken_is config socket past keeps) ∙ host_has_all (flow_settings config) (story config past socket) (is_lawful config past socket keeps) ended conforming
