use Rattle.slirp_app.proofs.Following.{is_at_end, is_served}
use Rattle.slirp_app.proofs.laws.an_untroubled_run_is_made_to_its_end.Goals as goal

pub returns-clause-run : goal.returns-clause-run
returns-clause-run c = is_at_end

pub returns-clause-served : goal.returns-clause-served
returns-clause-served c = is_served
