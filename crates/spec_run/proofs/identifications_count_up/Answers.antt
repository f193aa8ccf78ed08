use Rattle.spec_run.proofs.Numbers.{out_counted, out_numbered, out_uncounted}
use Rattle.spec_run.proofs.identifications_count_up.Goals as goal

pub returns-clause-next : goal.returns-clause-next
returns-clause-next c = λ config e past frame ip fits lawful out is at. ((out_numbered config e past frame ip fits lawful out is).first at).0

pub returns-clause-later : goal.returns-clause-later
returns-clause-later c = λ config e past frame ip fits lawful out is behind. ((out_numbered config e past frame ip fits lawful out is).later behind).0

pub returns-clause-counted : goal.returns-clause-counted
returns-clause-counted c = out_counted

pub returns-clause-uncounted : goal.returns-clause-uncounted
returns-clause-uncounted c = out_uncounted
