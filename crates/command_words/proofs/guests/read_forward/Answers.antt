use Rattle.std.proofs.Common.{ℕ, List, sym, subst}
use Rattle.std.proofs.lemmas.Result.{err_from_is_err_and}
use Rattle.slirp_settings.specs.declared.Proto.TheVariants.{Tcp}
use Rattle.address_text.specs.Texts.{IsEndpointText}
use Rattle.address_text.proofs.Parting.{no_part}
use Rattle.address_text.specs.Rules.{IsType}
use Rattle.command_words.proofs.Guested.{guest_parts, guest_sides, encoded_guest}
use Rattle.command_words.proofs.guests.read_forward.Goals as goal

pub returns-in_err-read_type-clause-refused : goal.returns-in_err-read_type-clause-refused
returns-in_err-read_type-clause-refused c = let p = err_from_is_err_and c.from_residual-in_err-read_type.result c.from_residual-in_err-read_type.ensures.1 in rw (p.1) (λ f is.
    let parts = guest_parts c.args.text.now _ _ c.in_ok-kind.ensures.parts c.in_ok-kind.ensures.first f is in
    c.in_err-read_type.ensures.refused (subst (λ (t : List ℕ). IsType t Tcp) (sym parts.0) is.type))

pub returns-in_err-inside-clause-refused : goal.returns-in_err-inside-clause-refused
returns-in_err-inside-clause-refused c = let p = err_from_is_err_and c.from_residual-in_err-inside.result c.from_residual-in_err-inside.ensures.1 in rw (p.1) (λ f is.
    let parts = guest_parts c.args.text.now _ _ c.in_ok-kind.ensures.parts c.in_ok-kind.ensures.first f is in
    no_part 45 _ is.inside is.outside c.in_err-inside.ensures.refused parts.1)

pub returns-in_err-read_endpoint-clause-refused : goal.returns-in_err-read_endpoint-clause-refused
returns-in_err-read_endpoint-clause-refused c = let p = err_from_is_err_and c.from_residual-in_err-read_endpoint.result c.from_residual-in_err-read_endpoint.ensures.1 in rw (p.1) (λ f is.
    let parts = guest_parts c.args.text.now _ _ c.in_ok-kind.ensures.parts c.in_ok-kind.ensures.first f is in
    let sides = guest_sides c.args.text.now _ _ _ c.in_ok-inside.ensures.parts c.in_ok-inside.ensures.first f is parts.1 in
    c.in_err-read_endpoint.ensures.refused f.guest (subst (λ (t : List ℕ). IsEndpointText t f.guest) (sym sides.0) is.guest))

pub returns-in_err-read_endpoint-2-clause-refused : goal.returns-in_err-read_endpoint-2-clause-refused
returns-in_err-read_endpoint-2-clause-refused c = let p = err_from_is_err_and c.from_residual-in_err-read_endpoint-2.result c.from_residual-in_err-read_endpoint-2.ensures.1 in rw (p.1) (λ f is.
    let parts = guest_parts c.args.text.now _ _ c.in_ok-kind.ensures.parts c.in_ok-kind.ensures.first f is in
    let sides = guest_sides c.args.text.now _ _ _ c.in_ok-inside.ensures.parts c.in_ok-inside.ensures.first f is parts.1 in
    c.in_err-read_endpoint-2.ensures.refused f.host (subst (λ (t : List ℕ). IsEndpointText t f.host) (sym sides.1) is.host))

pub returns-clause-forward : goal.returns-clause-forward
returns-clause-forward c = record {
  kind = c.in_ok-kind.kind.now;
  inside = c.in_ok-inside.inside.now;
  outside = c.in_ok-inside.outside.now;
  encoded = encoded_guest _ _ _ _ _ c.in_ok-kind.ensures.parts c.in_ok-inside.ensures.parts;
  type = c.in_ok-read_type.ensures.tcp;
  guest = c.in_ok-read_endpoint.ensures.endpoint;
  host = c.in_ok-read_endpoint-2.ensures.endpoint;
}
