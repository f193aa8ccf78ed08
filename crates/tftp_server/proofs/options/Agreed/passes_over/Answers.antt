use Rattle.tftp_server.proofs.Knowing.{passed_over}
use Rattle.tftp_server.proofs.options.Agreed.passes_over.Goals as goal

pub returns-clause-known : goal.returns-clause-known
returns-clause-known c = let s = c.self.inside in passed_over s.size s.timeout s.answered.items c.args.self.now c.self.view_is
