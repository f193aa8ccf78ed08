use Rattle.std.proofs.Common.{◌<◌, length, sym, subst}
use Rattle.spec_flow.proofs.Laws.{our_end_comes_after_all}
use Rattle.spec_flows.specs.Book.{story}
use Rattle.spec_flows.specs.Laws.{flow_settings}
use Rattle.spec_flows.proofs.Agreeing.{given_is}
use Rattle.spec_flows.proofs.Laws.{is_lawful}
use Rattle.spec_flows.proofs.guests_are_ended_after_every_octet.Goals as goal

pub returns-clause-end : goal.returns-clause-end
returns-clause-end c = λ config past socket keeps ended. (our_end_comes_after_all (flow_settings config) (story config past socket) (is_lawful config past socket keeps) ended).0

pub returns-clause-all : goal.returns-clause-all
returns-clause-all c = λ config past socket keeps ended i below.
    (our_end_comes_after_all (flow_settings config) (story config past socket) (is_lawful config past socket keeps) ended).1 i
    (subst (λ xs. i < length xs) (sym (given_is config socket past keeps)) below)
