use Rattle.spec_run.proofs.Parting.{parts_for}
use Rattle.spec_run.proofs.the_longest_unused_gives_way.Goals as goal

pub returns : goal.returns
returns c = λ config past socket lawful running guests. parts_for config past socket lawful.0 lawful.1 running guests
