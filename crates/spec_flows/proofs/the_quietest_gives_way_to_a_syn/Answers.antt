use Rattle.std.proofs.Common.{ap}
use Rattle.spec_flows.specs.Book.{book, scene, turned}
use Rattle.spec_flows.proofs.Quietest.{quietest_gives, to_a_syn}
use Rattle.spec_flows.proofs.the_quietest_gives_way_to_a_syn.Goals as goal

pub returns-clause-syn : goal.returns-clause-syn
returns-clause-syn c = to_a_syn

pub returns-clause-quietest : goal.returns-clause-quietest
returns-clause-quietest c = quietest_gives

pub returns-clause-doomed : goal.returns-clause-doomed
returns-clause-doomed c config past e on comes = ap (λ d. (turned config (scene config past) d (book config past)).doomed) comes
