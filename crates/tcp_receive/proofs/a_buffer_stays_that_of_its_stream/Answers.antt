use Rattle.std.proofs.Common.{refl, arith, length-drop}
use Rattle.tcp_receive.proofs.a_buffer_stays_that_of_its_stream.Goals as goal

pub returns-clause-first : goal.returns-clause-first
returns-clause-first c = λ first size. record { taken = refl; next = refl }

pub returns-clause-written : goal.returns-clause-written
returns-clause-written c = λ r up n few fills. record { taken = omega (arith, fills.taken, length-drop n up.held); next = fills.next }
