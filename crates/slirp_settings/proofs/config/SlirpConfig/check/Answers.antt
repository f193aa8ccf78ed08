-- That none is the first to break its range says that each is in it, and the other way.
use Rattle.std.proofs.Common.{sym, ◌∙◌}
use Rattle.slirp_settings.specs.Settings.{settings}
use Rattle.slirp_settings.proofs.Soundness.{each_in_range, none_broken}
use Rattle.slirp_settings.proofs.config.SlirpConfig.check.Goals as goal

pub returns-in-Some-clause-err : goal.returns-in-Some-clause-err
returns-in-Some-clause-err c sound = let is = c.in-Some.ensures ∙ none_broken (settings c.args.self.now) sound in cc

pub returns-in-None-clause-ok : goal.returns-in-None-clause-ok
returns-in-None-clause-ok c = record { each = each_in_range (settings c.args.self.now) (sym c.in-None.ensures) }
