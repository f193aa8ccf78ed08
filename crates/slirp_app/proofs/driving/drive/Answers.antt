use Rattle.std.proofs.Common.{◌∙◌, ap}
use Rattle.std.specs.Result.{is_ok, is_err}
use Rattle.drive_world.specs.Runs.{Run}
use Rattle.slirp_app.proofs.driving.drive.Goals as goal

pub returns-in-Ok-run_on-clause-summary : goal.returns-in-Ok-run_on-clause-summary
returns-in-Ok-run_on-clause-summary g c is = let ran = c.run_on.ensures in (ran.0, ran.1 ∙ ap (λ (r : Run). r.number) c.in-Ok.ensures, ran.2.ok (ap is_ok c.in-Ok-run_on.is))

pub returns-in-Err-clause-refused : goal.returns-in-Err-clause-refused
returns-in-Err-clause-refused g c is = let ran = c.run_on.ensures in ran.2.err (ap is_err c.in-Err.is)
