use Rattle.spec_run.proofs.FileLaws.{block_told}
use Rattle.spec_run.proofs.files.blocks_have_the_octets_that_were_read.Goals as goal

pub returns : goal.returns
returns c = block_told
