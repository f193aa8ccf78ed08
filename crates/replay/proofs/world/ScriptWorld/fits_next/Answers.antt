use Rattle.replay.specs.Lines.{call_at, row_of}
use Rattle.replay.proofs.Rowing.{readable_at, refuses_next, served_next}
use Rattle.replay.proofs.world.ScriptWorld.fits_next.Goals as goal

pub fits-requires-clause-answer : goal.fits-requires-clause-answer
fits-requires-clause-answer c = (readable_at c.args.self.now.lines c.args.self.now.used (row_of c.in-Some.row.now) c.next.ensures.readable c.in-Some.ensures.row).range.1

pub returns-in-Some-clause-found : goal.returns-in-Some-clause-found
returns-in-Some-clause-found c = λ is. served_next c.args.self.now (row_of c.in-Some.row.now)
    (call_at c.args.given c.args.octets.now c.args.wants.now) c.in-Some.ensures.live c.in-Some.ensures.row (c.fits.ensures.found is)

pub returns-in-Some-clause-none : goal.returns-in-Some-clause-none
returns-in-Some-clause-none c = λ is live. refuses_next c.args.self.now.lines c.args.self.now.used (row_of c.in-Some.row.now)
    (call_at c.args.given c.args.octets.now c.args.wants.now) c.in-Some.ensures.row (c.fits.ensures.none is)
