use Rattle.std.proofs.Common.{ℕ, List, sym, subst}
use Rattle.std.proofs.lemmas.Result.{err_from_is_err_and}
use Rattle.address_text.specs.Rules.{IsAddressOr}
use Rattle.address_text.specs.Texts.{IsNumber}
use Rattle.command_words.proofs.Ruled.{port_parts}
use Rattle.command_words.proofs.rules.read_port_at.Goals as goal

pub returns-in_err-read_address_or-clause-refused : goal.returns-in_err-read_address_or-clause-refused
returns-in_err-read_address_or-clause-refused c = let p = err_from_is_err_and c.from_residual-in_err-read_address_or.result c.from_residual-in_err-read_address_or.ensures.1 in rw (p.1) (λ at is.
    let parts = port_parts c.args.usual.0 c.args.text.now _ _ c.in_ok-address.ensures.parts c.in_ok-address.ensures.first at is in
    c.in_err-read_address_or.ensures.refused at.addr.0 (subst (λ (t : List ℕ). IsAddressOr c.args.usual.0 t at.addr.0) (sym parts.0) is.address))

pub returns-in_err-read_short-clause-refused : goal.returns-in_err-read_short-clause-refused
returns-in_err-read_short-clause-refused c = let p = err_from_is_err_and c.from_residual-in_err-read_short.result c.from_residual-in_err-read_short.ensures.1 in rw (p.1) (λ at is.
    let parts = port_parts c.args.usual.0 c.args.text.now _ _ c.in_ok-address.ensures.parts c.in_ok-address.ensures.first at is in
    c.in_err-read_short.ensures.refused at.port (subst (λ (t : List ℕ). IsNumber 16 t at.port) (sym parts.1) is.port))
