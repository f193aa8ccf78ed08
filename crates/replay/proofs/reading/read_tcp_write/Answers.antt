use Rattle.std.proofs.Common.{decimal}
use Rattle.std.proofs.lemmas.Result.{err_from_is_err_and}
use Rattle.replay.specs.Text.{hexadecimal}
use Rattle.replay.proofs.Parting.{decimal_word}
use Rattle.replay.proofs.Refusing.{same_fault, spaced_parts, says_tcp_write}
use Rattle.replay.proofs.reading.read_tcp_write.Goals as goal

pub returns-in_err-socket-clause-refused : goal.returns-in_err-socket-clause-refused
returns-in_err-socket-clause-refused c = let p = err_from_is_err_and c.from_residual-in_err-socket.result c.from_residual-in_err-socket.ensures.1 in rw (p.1, p.2)
    (λ unread. says_tcp_write c.args.args.now c.args.answer.now (λ socket octets hs ho is. c.in_err-socket.ensures.refused socket hs
    (spaced_parts _ _ _ (decimal socket) (hexadecimal octets) c.in_ok-first.ensures.parts c.in_ok-first.ensures.first (decimal_word socket hs) is).0))

pub returns-in_err-octets-clause-refused : goal.returns-in_err-octets-clause-refused
returns-in_err-octets-clause-refused c = let p = err_from_is_err_and c.from_residual-in_err-octets.result c.from_residual-in_err-octets.ensures.1 in rw (p.1, p.2)
    (λ unread. says_tcp_write c.args.args.now c.args.answer.now (λ socket octets hs ho is. c.in_err-octets.ensures.refused (same_fault unread) octets ho
    (spaced_parts _ _ _ (decimal socket) (hexadecimal octets) c.in_ok-first.ensures.parts c.in_ok-first.ensures.first (decimal_word socket hs) is).1))
