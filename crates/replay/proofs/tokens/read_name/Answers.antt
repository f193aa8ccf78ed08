use Rattle.replay.proofs.Naming.{all_names, found_named, none_named}
use Rattle.replay.proofs.tokens.read_name.Goals as goal

pub returns-in-Some-clause-name : goal.returns-in-Some-clause-name
returns-in-Some-clause-name c = found_named c.args.text.now all_names c.in-Some.name.now c.in-Some.ensures

pub returns-in-None-clause-refused : goal.returns-in-None-clause-refused
returns-in-None-clause-refused c = none_named c.args.text.now c.in-None.ensures
