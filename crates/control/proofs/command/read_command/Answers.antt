use Rattle.control.proofs.Encoding.{both, no_removal}
use Rattle.control.proofs.command.read_command.Goals as goal

pub returns : goal.returns
returns c = record {
  no_add = c.in_default.ensures.refused;
  no_remove = no_removal c.args.line.now c.in_default-read_remove.ensures.refused c.in_default-read_remove-2.ensures.refused;
  no_list = λ is. both c.is_list.result (c.is_list.ensures.1 is) c.if-is_list.false;
}
