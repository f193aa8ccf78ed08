use Rattle.spec_run.proofs.Beside.{first_or_none, why_out}
use Rattle.spec_run.proofs.Owing.{none_stays, others_stay, what_is_left}
use Rattle.spec_run.proofs.each_frame_out_answers_the_last_arrival.Goals as goal

pub returns-clause-answers : goal.returns-clause-answers
returns-clause-answers c = why_out

pub returns-clause-first : goal.returns-clause-first
returns-clause-first c = first_or_none

pub returns-clause-others : goal.returns-clause-others
returns-clause-others c = others_stay

pub returns-clause-none : goal.returns-clause-none
returns-clause-none c = λ config e past frame lawful out nothing other. none_stays config e past frame out nothing other

pub returns-clause-left : goal.returns-clause-left
returns-clause-left c = what_is_left
