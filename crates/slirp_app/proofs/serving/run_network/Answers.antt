use Rattle.slirp_app.proofs.Opened.{runs}
use Rattle.slirp_app.proofs.Risen.{counted_end}
use Rattle.slirp_app.proofs.serving.run_network.Goals as goal

pub returns-clause-runs : goal.returns-clause-runs
returns-clause-runs g c = runs _ _ c.args.network c.serve-end.result c.outcome_of.result c.serve-end.ensures.makes c.outcome_of.ensures

pub returns-clause-counted : goal.returns-clause-counted
returns-clause-counted g c = counted_end c.serve-end.result c.outcome_of.result _ _ c.outcome_of.ensures c.serve-end.ensures.faults
