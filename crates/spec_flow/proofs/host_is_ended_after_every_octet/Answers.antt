use Rattle.spec_flow.proofs.GuestLaws.{end_comes_after_all}
use Rattle.spec_flow.proofs.AllCame.{host_has_all}
use Rattle.spec_flow.proofs.host_is_ended_after_every_octet.Goals as goal

pub returns-clause-end : goal.returns-clause-end
returns-clause-end c = λ s story lawful conforming ended. end_comes_after_all s story lawful ended conforming

pub returns-clause-all : goal.returns-clause-all
returns-clause-all c = λ s story lawful conforming ended. host_has_all s story lawful ended conforming
