use Rattle.net_world.proofs.Telling.{not_among}
use Rattle.net_world.proofs.gathering.place_among.Goals as goal

pub returns-in-Err-clause-none : goal.returns-in-Err-clause-none
returns-in-Err-clause-none c rise is want h same =
    not_among c.args.wants.now want c.args.of c.in-Err.field-0 c.in-Err.ensures.range rise c.in-Err.ensures.position h same
