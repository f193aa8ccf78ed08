use Rattle.std.proofs.Common.{List, ◌∙◌, ap}
use Rattle.rules_forward.specs.Opened.{Opened, socket_at}
use Rattle.port_forward.proofs.by_proto.Ports.remove_hostfwd.Goals as goal

pub returns-clause-there : goal.returns-clause-there
returns-clause-there g c number at = c.remove_hostfwd-removed.ensures.there number (ap (λ (l : List Opened). socket_at c.args.proto c.args.host l) c.self.view_is ∙ at)
