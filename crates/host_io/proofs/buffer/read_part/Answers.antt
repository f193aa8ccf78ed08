use Rattle.std.proofs.Common.{take, sym}
use Rattle.host_io.proofs.Windows.{read_on}
use Rattle.host_io.proofs.buffer.read_part.Goals as goal

pub returns-in-Ok-clause-came : goal.returns-in-Ok-clause-came
returns-in-Ok-clause-came g c = (
  take c.in-Ok.count c.read.new.into,
  sym c.in-Ok.ensures.fits.1,
  read_on c.args.from c.in-Ok.count c.args.into.now c.read.new.into _ c.requires c.in-Ok.ensures.fits.0,
  c.in-Ok.ensures.came.0,
)
