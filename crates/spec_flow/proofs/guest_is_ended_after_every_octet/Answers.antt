use Rattle.spec_flow.proofs.Laws.{our_end_comes_after_all}
use Rattle.spec_flow.proofs.guest_is_ended_after_every_octet.Goals as goal

pub returns-clause-end : goal.returns-clause-end
returns-clause-end c = λ s story lawful ended. (our_end_comes_after_all s story lawful ended).0

pub returns-clause-all : goal.returns-clause-all
returns-clause-all c = λ s story lawful ended. (our_end_comes_after_all s story lawful ended).1
