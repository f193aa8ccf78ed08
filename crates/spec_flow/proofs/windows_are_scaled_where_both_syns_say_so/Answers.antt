use Rattle.spec_flow.proofs.Scaled.{both_scale, opens_once}
use Rattle.spec_flow.proofs.windows_are_scaled_where_both_syns_say_so.Goals as goal

pub returns : goal.returns
returns c = λ s story is lawful scaled out. both_scale s story (opens_once story is) lawful scaled out
