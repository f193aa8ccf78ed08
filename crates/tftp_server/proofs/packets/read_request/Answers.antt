-- A request by its parts.
use Rattle.std.proofs.Common.{sym, ◌∙◌, ap}
use Rattle.std.specs.Option.{option_map}
use Rattle.tftp_server.specs.Reading.{request_of_view}
use Rattle.tftp_server.proofs.Cutting.{request_by, request_by_parts, request_none, request_whole, request_with}
use Rattle.tftp_server.proofs.packets.read_request.Goals as goal

pub returns-in_err-name-clause-request : goal.returns-in_err-name-clause-request
returns-in_err-name-clause-request c =
    ap (option_map request_of_view) c.from_residual.ensures ∙ ap request_by_parts c.in_err-name.ensures.parts ∙ sym (request_by c.args.octets.now)

pub returns-in_err-mode-clause-request : goal.returns-in_err-mode-clause-request
returns-in_err-mode-clause-request c =
    ap (option_map request_of_view) c.from_residual-in_err-mode.ensures
    ∙ ap (request_with c.in_ok-name.name.now) c.in_err-mode.ensures.parts
    ∙ ap request_by_parts c.in_ok-name.ensures.parts ∙ sym (request_by c.args.octets.now)

pub returns-then-not-are_pairs-clause-request : goal.returns-then-not-are_pairs-clause-request
returns-then-not-are_pairs-clause-request c =
    let name = c.in_ok-name.name.now in
    request_none name c.in_ok-mode.mode.now c.in_ok-mode.options.now (sym c.if-not-are_pairs.ensures)
    ∙ ap (request_with name) c.in_ok-mode.ensures.parts ∙ ap request_by_parts c.in_ok-name.ensures.parts ∙ sym (request_by c.args.octets.now)

pub returns-clause-request : goal.returns-clause-request
returns-clause-request c =
    let name = c.in_ok-name.name.now in
    request_whole name c.in_ok-mode.mode.now c.in_ok-mode.options.now (sym c.if-not-are_pairs.ensures)
    ∙ ap (request_with name) c.in_ok-mode.ensures.parts ∙ ap request_by_parts c.in_ok-name.ensures.parts ∙ sym (request_by c.args.octets.now)
