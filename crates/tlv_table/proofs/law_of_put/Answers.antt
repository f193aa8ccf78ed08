-- Options that are put are read again.
use Rattle.tlv_table.proofs.Puts.{read_again}
use Rattle.tlv_table.proofs.law_of_put.Goals as goal

pub returns : goal.returns
returns c pairs rest all = read_again c.args.form.now c.args.rows.now pairs rest c.requires all
