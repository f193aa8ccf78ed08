use Rattle.std.proofs.Common.{sym, ◌∙◌}
use Rattle.std.proofs.lemmas.Result.{err_from_is_err_and}
use Rattle.address_text.specs.Texts.{place_text}
use Rattle.replay.proofs.Words.{same_octets, place_octets}
use Rattle.replay.proofs.Refusing.{same_fault, says_link_open}
use Rattle.replay.proofs.reading.read_link_open.Goals as goal

pub returns-in_err-text-clause-refused : goal.returns-in_err-text-clause-refused
returns-in_err-text-clause-refused c = let p = err_from_is_err_and c.from_residual.result c.from_residual.ensures.1 in rw (p.1, p.2)
    (λ unread. says_link_open c.args.args.now c.args.answer.now (λ at h is. c.in_err-text.ensures.refused (same_fault unread) (place_text at) (place_octets at h) is))

pub returns-in_err-seat-clause-refused : goal.returns-in_err-seat-clause-refused
returns-in_err-seat-clause-refused c = let p = err_from_is_err_and c.from_residual-in_err-seat.result c.from_residual-in_err-seat.ensures.1 in rw (p.1, p.2)
    (λ unread. says_link_open c.args.args.now c.args.answer.now (λ at h is. c.in_err-seat.ensures.refused (same_fault unread) at h
    (c.deref.ensures.value ∙ same_octets c.in_ok-text.text.items (place_text at) c.in_ok-text.ensures.range (place_octets at h) (sym c.in_ok-text.ensures.octets ∙ is))))
