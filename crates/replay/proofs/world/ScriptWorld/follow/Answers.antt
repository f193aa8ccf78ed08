use Rattle.std.proofs.Common.{length}
use Rattle.replay.proofs.Telling.{few_octets, told_ceased, told_on}
use Rattle.replay.proofs.world.ScriptWorld.follow.Goals as goal

pub advance-requires-clause-fits : goal.advance-requires-clause-fits
advance-requires-clause-fits c = c.fits_next.ensures.found c.if-fits_next.true

pub cease-requires-clause-octets : goal.cease-requires-clause-octets
cease-requires-clause-octets c = few_octets c.args.given (length c.args.octets.now) c.requires.few.0

pub cease-requires-clause-fits_none : goal.cease-requires-clause-fits_none
cease-requires-clause-fits_none c = c.fits_next.ensures.none c.if-fits_next.false

pub returns-then-fits_next : goal.returns-then-fits_next
returns-then-fits_next c =
    let found = c.fits_next.ensures.found c.if-fits_next.true in
    told_on c.args.self.now c.advance.new.self _ found.0 found.1 found.2 (c.advance.ensures found.0 found.1 found.2)

pub returns-else-fits_next : goal.returns-else-fits_next
returns-else-fits_next c = told_ceased c.args.self.now c.cease.new.self c.args.given c.args.octets.now c.args.wants.now c.fits_next.ensures.readable c.requires.asked c.requires.few.0 c.cease.ensures
