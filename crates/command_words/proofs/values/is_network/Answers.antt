use Rattle.std.proofs.Common.{ℕ, List, subst, sym}
use Rattle.command_words.specs.Texts.{IsNetwork}
use Rattle.command_words.proofs.values.is_network.Goals as goal

pub returns-in-Ok : goal.returns-in-Ok
returns-in-Ok c =
    let read = c.in-Ok.field-0 in
    (read.0.0, read.1.0, subst (λ (t : List ℕ). IsNetwork t read.0.0 read.1.0) c.as_bytes.ensures.value c.in-Ok.ensures.network)

pub returns-in-Err : goal.returns-in-Err
returns-in-Err c = λ is. c.in-Err.ensures.refused is.0 is.1 (subst (λ (t : List ℕ). IsNetwork t is.0 is.1) (sym c.as_bytes.ensures.value) is.2)
