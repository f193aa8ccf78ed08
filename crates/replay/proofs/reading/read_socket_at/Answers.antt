use Rattle.std.proofs.Common.{decimal}
use Rattle.std.proofs.lemmas.Result.{err_from_is_err_and}
use Rattle.address_text.specs.Texts.{endpoint_text}
use Rattle.replay.proofs.Parting.{decimal_word}
use Rattle.replay.proofs.Refusing.{spaced_parts}
use Rattle.replay.proofs.reading.read_socket_at.Goals as goal

pub returns-in_err-socket-clause-refused : goal.returns-in_err-socket-clause-refused
returns-in_err-socket-clause-refused c = let p = err_from_is_err_and c.from_residual-in_err-socket.result c.from_residual-in_err-socket.ensures.1 in rw (p.1)
    (λ socket at hs ha is. c.in_err-socket.ensures.refused socket hs (spaced_parts _ _ _ (decimal socket) (endpoint_text at) c.in_ok-first.ensures.parts c.in_ok-first.ensures.first
    (decimal_word socket hs) is).0)

pub returns-in_err-at-clause-refused : goal.returns-in_err-at-clause-refused
returns-in_err-at-clause-refused c = let p = err_from_is_err_and c.from_residual-in_err-at.result c.from_residual-in_err-at.ensures.1 in rw (p.1)
    (λ socket at hs ha is. c.in_err-at.ensures.refused at ha (spaced_parts _ _ _ (decimal socket) (endpoint_text at) c.in_ok-first.ensures.parts c.in_ok-first.ensures.first
    (decimal_word socket hs) is).1)
