use Rattle.std.proofs.Common.{sym}
use Rattle.slirp_core.proofs.Least.{none_under, under_all}
use Rattle.slirp_core.proofs.network.is_under.Goals as goal

pub returns-in-Some-clause-yes : goal.returns-in-Some-clause-yes
returns-in-Some-clause-yes c less = under_all c.args.number c.args.rising.now c.requires c.in-Some.field-0.now (sym c.in-Some.ensures.value) less

pub returns-in-None-clause-yes : goal.returns-in-None-clause-yes
returns-in-None-clause-yes c is = none_under c.args.number c.args.rising.now (sym c.in-None.ensures.value)
