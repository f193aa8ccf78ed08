use Rattle.std.proofs.Common.{sym, ◌∙◌}
use Rattle.spec_duties.proofs.Laws.{at_wait, datagrams_wanted, frames_wanted, full_unwanted, gives_wanted, link_wanted, peers_wanted, takes_wanted}
use Rattle.spec_duties.proofs.a_run_waits_for_all_that_it_can_take.Goals as goal

pub returns-clause-link : goal.returns-clause-link
returns-clause-link c = λ config later past wants timeout answer ready dutiful. link_wanted config past wants timeout (at_wait config later past wants timeout answer ready dutiful)

pub returns-clause-frames : goal.returns-clause-frames
returns-clause-frames c = λ config later past wants timeout answer ready dutiful. frames_wanted config past wants timeout (at_wait config later past wants timeout answer ready dutiful)

pub returns-clause-datagrams : goal.returns-clause-datagrams
returns-clause-datagrams c = λ config later past wants timeout answer ready socket dutiful. datagrams_wanted config past wants timeout socket
    (at_wait config later past wants timeout answer ready dutiful)

pub returns-clause-full : goal.returns-clause-full
returns-clause-full c = λ config later past wants timeout answer ready socket f dutiful. full_unwanted config past wants timeout socket f (at_wait config later past wants timeout answer ready dutiful)

pub returns-clause-gives : goal.returns-clause-gives
returns-clause-gives c = λ config later past wants timeout answer ready socket f dutiful. gives_wanted config past wants timeout socket f (at_wait config later past wants timeout answer ready dutiful)

pub returns-clause-peers : goal.returns-clause-peers
returns-clause-peers c = λ config later past wants timeout answer ready socket dutiful. peers_wanted config past wants timeout socket (at_wait config later past wants timeout answer ready dutiful)

pub returns-clause-takes : goal.returns-clause-takes
returns-clause-takes c = λ config later past wants timeout answer ready socket f dutiful. takes_wanted config past wants timeout socket f (at_wait config later past wants timeout answer ready dutiful)

pub returns-clause-nothing_else_read : goal.returns-clause-nothing_else_read
returns-clause-nothing_else_read c = λ config later past wants timeout answer ready who dutiful waited. sym
    ((at_wait config later past wants timeout answer ready dutiful).waits_for.to_read who) ∙ waited

pub returns-clause-nothing_else_written : goal.returns-clause-nothing_else_written
returns-clause-nothing_else_written c = λ config later past wants timeout answer ready who dutiful waited.
    (at_wait config later past wants timeout answer ready dutiful).waits_for.only_to_write who waited
