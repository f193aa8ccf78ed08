use Rattle.std.proofs.Common.{decimal, ◌++◌, ◌∷◌}
use Rattle.std.proofs.lemmas.Result.{err_from_is_err_and}
use Rattle.address_text.specs.Texts.{endpoint_text}
use Rattle.address_text.proofs.Parting.{no_part}
use Rattle.replay.specs.Text.{hexadecimal}
use Rattle.replay.proofs.Parting.{decimal_word}
use Rattle.replay.proofs.Words.{endpoint_word}
use Rattle.replay.proofs.Refusing.{same_fault, spaced_parts, says_udp_send}
use Rattle.replay.proofs.reading.read_udp_send.Goals as goal

pub returns-in_err-second-clause-refused : goal.returns-in_err-second-clause-refused
returns-in_err-second-clause-refused c = let p = err_from_is_err_and c.from_residual-in_err-second.result c.from_residual-in_err-second.ensures.1 in rw (p.1, p.2)
    (λ unread. says_udp_send c.args.args.now c.args.answer.now (λ socket to octets hs ht ho is. no_part 32 _ (endpoint_text to) (hexadecimal octets) c.in_err-second.ensures.refused
    (spaced_parts _ _ _ (decimal socket) (endpoint_text to ++ 32 ∷ hexadecimal octets) c.in_ok-first.ensures.parts c.in_ok-first.ensures.first (decimal_word socket hs) is).1))

pub returns-in_err-socket-clause-refused : goal.returns-in_err-socket-clause-refused
returns-in_err-socket-clause-refused c = let p = err_from_is_err_and c.from_residual-in_err-socket.result c.from_residual-in_err-socket.ensures.1 in rw (p.1, p.2)
    (λ unread. says_udp_send c.args.args.now c.args.answer.now (λ socket to octets hs ht ho is. c.in_err-socket.ensures.refused socket hs
    (spaced_parts _ _ _ (decimal socket) (endpoint_text to ++ 32 ∷ hexadecimal octets) c.in_ok-first.ensures.parts c.in_ok-first.ensures.first (decimal_word socket hs) is).0))

pub returns-in_err-to-clause-refused : goal.returns-in_err-to-clause-refused
returns-in_err-to-clause-refused c = let p = err_from_is_err_and c.from_residual-in_err-to.result c.from_residual-in_err-to.ensures.1 in rw (p.1, p.2)
    (λ unread. says_udp_send c.args.args.now c.args.answer.now (λ socket to octets hs ht ho is. c.in_err-to.ensures.refused to ht
    (spaced_parts _ _ _ (endpoint_text to) (hexadecimal octets) c.in_ok-second.ensures.parts c.in_ok-second.ensures.first (endpoint_word to ht)
    (spaced_parts _ _ _ (decimal socket) (endpoint_text to ++ 32 ∷ hexadecimal octets) c.in_ok-first.ensures.parts c.in_ok-first.ensures.first (decimal_word socket hs) is).1).0))

pub returns-in_err-octets-clause-refused : goal.returns-in_err-octets-clause-refused
returns-in_err-octets-clause-refused c = let p = err_from_is_err_and c.from_residual-in_err-octets.result c.from_residual-in_err-octets.ensures.1 in rw (p.1, p.2)
    (λ unread. says_udp_send c.args.args.now c.args.answer.now (λ socket to octets hs ht ho is. c.in_err-octets.ensures.refused (same_fault unread) octets ho
    (spaced_parts _ _ _ (endpoint_text to) (hexadecimal octets) c.in_ok-second.ensures.parts c.in_ok-second.ensures.first (endpoint_word to ht)
    (spaced_parts _ _ _ (decimal socket) (endpoint_text to ++ 32 ∷ hexadecimal octets) c.in_ok-first.ensures.parts c.in_ok-first.ensures.first (decimal_word socket hs) is).1).1))
