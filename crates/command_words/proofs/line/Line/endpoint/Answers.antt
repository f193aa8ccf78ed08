use Rattle.std.proofs.Common.{◌≡◌, ℕ, List, Some, None, sym, ◌∙◌, ap}
use Rattle.std.proofs.lemmas.Result.{err_from_is_err_and}
use Rattle.net_octets.specs.declared.Endpoint.{Endpoint}
use Rattle.address_text.specs.Texts.{IsEndpointText}
use Rattle.command_words.proofs.Finding.{match_some}
use Rattle.command_words.proofs.line.Line.endpoint.Goals as goal

pub returns-in_err-at-clause-refused : goal.returns-in_err-at-clause-refused
returns-in_err-at-clause-refused c =
    let p = err_from_is_err_and c.from_residual.result c.from_residual.ensures.1 in
    let is = sym c.in-Some.ensures ∙ ap (λ (t : List ℕ). Some t) (sym c.as_bytes.ensures.value) in
    rw (p.1) (λ read given.
    let text = match_some _ c.as_bytes.result.now (read ≡ None) (λ text. (at : Endpoint) × (read ≡ Some at) × IsEndpointText text at) is given in
    c.in_err-at.ensures.refused text.0 text.2)
