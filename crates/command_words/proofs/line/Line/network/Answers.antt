use Rattle.std.proofs.Common.{◌≡◌, ℕ, List, Some, sym, ◌∙◌, ap}
use Rattle.command_words.specs.Texts.{IsNetwork}
use Rattle.command_words.proofs.Finding.{match_some, on_err}
use Rattle.command_words.proofs.line.Line.network.Goals as goal

pub returns-in-Some-clause-refused : goal.returns-in-Some-clause-refused
returns-in-Some-clause-refused c =
    let is = sym c.in-Some.ensures ∙ ap (λ (t : List ℕ). Some t) (sym c.as_bytes.ensures.value) in
    on_err c.read_network.result _ _ (λ none a m b n net. none a m (match_some _ c.as_bytes.result.now ((a ≡ b) × (m ≡ n)) (λ text. IsNetwork text a m) is net)) c.read_network.ensures.refused
