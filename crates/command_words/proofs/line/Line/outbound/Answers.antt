use Rattle.std.proofs.Common.{◌≡◌, ℕ, List, Some, None, sym, ◌∙◌, ap}
use Rattle.std.proofs.lemmas.Result.{err_from_is_err_and}
use Rattle.address_text.specs.Texts.{IsAddress}
use Rattle.command_words.proofs.Finding.{match_some}
use Rattle.command_words.proofs.line.Line.outbound.Goals as goal

pub returns-in_err-address-clause-refused : goal.returns-in_err-address-clause-refused
returns-in_err-address-clause-refused c =
    let p = err_from_is_err_and c.from_residual.result c.from_residual.ensures.1 in
    let is = sym c.in-Some.ensures ∙ ap (λ (t : List ℕ). Some t) (sym c.as_bytes.ensures.value) in
    rw (p.1) (λ read given.
    let text = match_some _ c.as_bytes.result.now (read ≡ None) (λ text. (a : ℕ) × (read ≡ Some a) × IsAddress text a) is given in
    c.in_err-address.ensures.refused text.0 text.2)
