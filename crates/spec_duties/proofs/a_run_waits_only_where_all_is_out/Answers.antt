use Rattle.spec_duties.proofs.Laws.{all_out, at_wait}
use Rattle.spec_duties.proofs.a_run_waits_only_where_all_is_out.Goals as goal

pub returns-clause-answer : goal.returns-clause-answer
returns-clause-answer c = λ config later past wants timeout answer ready dutiful free. (all_out config past ((at_wait config later past wants timeout answer ready dutiful).out free)).0

pub returns-clause-files : goal.returns-clause-files
returns-clause-files c = λ config later past wants timeout answer ready dutiful free. (all_out config past ((at_wait config later past wants timeout answer ready dutiful).out free)).1

pub returns-clause-octets : goal.returns-clause-octets
returns-clause-octets c = λ config later past wants timeout answer ready socket f dutiful free found open_yet.
    ((at_wait config later past wants timeout answer ready dutiful).settled free socket f found).sends.octets open_yet

pub returns-clause-acknowledged : goal.returns-clause-acknowledged
returns-clause-acknowledged c = λ config later past wants timeout answer ready socket f dutiful free found open_yet conforming a asks.
    ((at_wait config later past wants timeout answer ready dutiful).settled free socket f found).acknowledges.all open_yet conforming a asks

pub returns-clause-reset : goal.returns-clause-reset
returns-clause-reset c = λ config later past wants timeout answer ready socket f dutiful free found.
    ((at_wait config later past wants timeout answer ready dutiful).settled free socket f found).sends.reset

pub returns-clause-opens : goal.returns-clause-opens
returns-clause-opens c = λ config later past wants timeout answer ready socket f dutiful free found open_yet.
    ((at_wait config later past wants timeout answer ready dutiful).settled free socket f found).sends.syn_ack open_yet

pub returns-clause-calls : goal.returns-clause-calls
returns-clause-calls c = λ config later past wants timeout answer ready socket f dutiful free found open_yet.
    ((at_wait config later past wants timeout answer ready dutiful).settled free socket f found).sends.syn open_yet

pub returns-clause-answered : goal.returns-clause-answered
returns-clause-answered c = λ config later past wants timeout answer ready socket f dutiful free found open_yet due.
    ((at_wait config later past wants timeout answer ready dutiful).settled free socket f found).acknowledges.each open_yet due

pub returns-clause-told : goal.returns-clause-told
returns-clause-told c = λ config later past wants timeout answer ready socket f dutiful free found. ((at_wait config later past wants timeout answer ready dutiful).settled free socket f found).window

pub returns-clause-time_waits : goal.returns-clause-time_waits
returns-clause-time_waits c = λ config later past wants timeout answer ready socket f dutiful free found time_waits.
    ((at_wait config later past wants timeout answer ready dutiful).settled free socket f found).acknowledges.in_time_wait time_waits
