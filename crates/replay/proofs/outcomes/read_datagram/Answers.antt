use Rattle.std.proofs.lemmas.Result.{err_from_is_err_and}
use Rattle.address_text.specs.Texts.{endpoint_text}
use Rattle.replay.specs.Text.{hexadecimal}
use Rattle.replay.proofs.Words.{endpoint_word}
use Rattle.replay.proofs.Refusing.{same_fault, spaced_parts}
use Rattle.replay.proofs.outcomes.read_datagram.Goals as goal

pub returns-in_err-peer-clause-refused : goal.returns-in_err-peer-clause-refused
returns-in_err-peer-clause-refused c = let p = err_from_is_err_and c.from_residual-in_err-peer.result c.from_residual-in_err-peer.ensures.1 in rw (p.1, p.2)
    (λ unread peer octets hp ho is. c.in_err-peer.ensures.refused peer hp
    (spaced_parts _ _ _ (endpoint_text peer) (hexadecimal octets) c.in_ok-first.ensures.parts c.in_ok-first.ensures.first (endpoint_word peer hp) is).0)

pub returns-in_err-octets-clause-refused : goal.returns-in_err-octets-clause-refused
returns-in_err-octets-clause-refused c = let p = err_from_is_err_and c.from_residual-in_err-octets.result c.from_residual-in_err-octets.ensures.1 in rw (p.1, p.2)
    (λ unread peer octets hp ho is. c.in_err-octets.ensures.refused (same_fault unread) octets ho
    (spaced_parts _ _ _ (endpoint_text peer) (hexadecimal octets) c.in_ok-first.ensures.parts c.in_ok-first.ensures.first (endpoint_word peer hp) is).1)
