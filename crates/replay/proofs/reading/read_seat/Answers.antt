use Rattle.std.proofs.Common.{sym, ◌∙◌}
use Rattle.replay.proofs.Refusing.{place_kind}
use Rattle.replay.proofs.reading.read_seat.Goals as goal

pub returns-clause-refused : goal.returns-clause-refused
returns-clause-refused c = λ unread place h is. place_kind _ _ _ c.in_ok-kind.ensures.parts c.in_ok-kind.ensures.first
    (λ unix. absurd (cc (sym (c.same.ensures.1 unix) ∙ c.if-same.false))) (λ tcp. absurd (cc (sym (c.same-2.ensures.1 tcp) ∙ c.if-same-2.false))) place is
