use Rattle.std.proofs.Common.{◌∙◌}
use Rattle.std.proofs.lemmas.Result.{err_from_is_err_and}
use Rattle.address_text.proofs.Addresses.{endpoint_form, endpoint_made, endpoint_parts}
use Rattle.address_text.proofs.Parting.{no_part}
use Rattle.address_text.proofs.read_endpoint.Goals as goal

pub returns-clause-endpoint : goal.returns-clause-endpoint
returns-clause-endpoint c = (
  endpoint_made _ _ _ _ _ c.in_ok-address.ensures.parts c.in_ok-addr.ensures.address.0 c.in_ok-port.ensures.number.0,
  (c.in_ok-addr.ensures.address.1, c.in_ok-port.ensures.number.1),
)

pub returns-in_err-address-clause-refused : goal.returns-in_err-address-clause-refused
returns-in_err-address-clause-refused c = let p = err_from_is_err_and c.from_residual.result c.from_residual.ensures.1 in rw (p.1)
    (λ at is. no_part 58 _ _ _ c.in_err-address.ensures.refused (is.0 ∙ endpoint_form at))

pub returns-in_err-addr-clause-refused : goal.returns-in_err-addr-clause-refused
returns-in_err-addr-clause-refused c = let p = err_from_is_err_and c.from_residual-in_err-addr.result c.from_residual-in_err-addr.ensures.1 in rw (p.1)
    (λ at is. c.in_err-addr.ensures.refused at.addr.0 ((endpoint_parts _ _ _ c.in_ok-address.ensures.parts c.in_ok-address.ensures.first at is.1 is.0).0, is.1.0))

pub returns-in_err-port-clause-refused : goal.returns-in_err-port-clause-refused
returns-in_err-port-clause-refused c = let p = err_from_is_err_and c.from_residual-in_err-port.result c.from_residual-in_err-port.ensures.1 in rw (p.1)
    (λ at is. c.in_err-port.ensures.refused at.port ((endpoint_parts _ _ _ c.in_ok-address.ensures.parts c.in_ok-address.ensures.first at is.1 is.0).1, is.1.1))
