use Rattle.std.proofs.Common.{sym, ◌∙◌}
use Rattle.icmp_echo.proofs.Plain.{plain}
use Rattle.icmp_echo.proofs.same_fields_same_octets.Goals as goal

pub returns : goal.returns
returns c = λ first second icmp g h p q. plain first icmp g p ∙ sym (plain second icmp h q)
