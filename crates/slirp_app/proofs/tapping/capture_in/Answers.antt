use Rattle.slirp_app.proofs.tapping.capture_in.Goals as goal

pub returns-clause-captures : goal.returns-clause-captures
returns-clause-captures g c = c.replace_with-world.ensures.0

pub returns-clause-counted : goal.returns-clause-counted
returns-clause-counted g c = c.replace_with-world.ensures.1.0

pub returns-clause-refused : goal.returns-clause-refused
returns-clause-refused g c = c.replace_with-world.ensures.1.1
