use Rattle.flow_splice.proofs.Promises.{place_is, rest_is, rest_none}
use Rattle.flow_splice.proofs.laws.a_place_is_in_use_as_long_as_its_flow_has_its_tuple.Goals as goal

pub returns-clause-in_use : goal.returns-clause-in_use
returns-clause-in_use c s f past now h = place_is s f past now h

pub returns-clause-time_waits : goal.returns-clause-time_waits
returns-clause-time_waits c s f past now since h at = rest_is s f past now since h at

pub returns-clause-rests_none : goal.returns-clause-rests_none
returns-clause-rests_none c s f past now h awake = rest_none s f past now h awake
