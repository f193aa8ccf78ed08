use Rattle.spec_run.proofs.Giving.{leads}
use Rattle.spec_run.proofs.forwards_lead_where_the_settings_say.Goals as goal

pub returns : goal.returns
returns c = λ config past socket is. leads config socket past is
