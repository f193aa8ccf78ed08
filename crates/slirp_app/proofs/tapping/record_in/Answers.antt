use Rattle.slirp_app.proofs.tapping.record_in.Goals as goal

pub returns-clause-recorded : goal.returns-clause-recorded
returns-clause-recorded g c = c.replace_with-world.ensures.0

pub returns-clause-counted : goal.returns-clause-counted
returns-clause-counted g c = c.replace_with-world.ensures.1.0

pub returns-clause-refused : goal.returns-clause-refused
returns-clause-refused g c = c.replace_with-world.ensures.1.1
