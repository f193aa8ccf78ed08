use Rattle.spec_duties.proofs.Serving.{is_read_then, is_written_then}
use Rattle.spec_duties.proofs.each_report_is_served.Goals as goal

pub returns-clause-reading : goal.returns-clause-reading
returns-clause-reading c = λ config past made who wants later timeout next answer after ready items dutiful same wanted reported asked.
    is_read_then config who wants timeout answer ready past made dutiful.0.served same wanted reported asked

pub returns-clause-writing : goal.returns-clause-writing
returns-clause-writing c = λ config past made who wants later timeout next answer after ready items dutiful same wanted reported asked.
    is_written_then config who wants timeout answer ready past made dutiful.0.served same wanted reported asked
