use Rattle.control.proofs.Encoding.{one_command}
use Rattle.control.proofs.command.a_line_asks_for_one_thing.Goals as goal

pub returns : goal.returns
returns c = one_command
