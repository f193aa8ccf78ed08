use Rattle.std.proofs.Common.{ℕ, List, sym, subst}
use Rattle.std.proofs.lemmas.Result.{err_from_is_err_and}
use Rattle.address_text.specs.Rules.{IsType, IsPortAt}
use Rattle.address_text.proofs.Parting.{no_part}
use Rattle.command_words.proofs.Ruled.{forward_parts, side_parts, encoded_forward}
use Rattle.command_words.proofs.rules.read_forward.Goals as goal

pub returns-in_err-proto-clause-refused : goal.returns-in_err-proto-clause-refused
returns-in_err-proto-clause-refused c = let p = err_from_is_err_and c.from_residual-in_err-proto.result c.from_residual-in_err-proto.ensures.1 in rw (p.1) (λ f is.
    let parts = forward_parts c.args.text.now c.args.dhcp_start.0 _ _ c.in_ok-kind.ensures.parts c.in_ok-kind.ensures.first f is in
    c.in_err-proto.ensures.refused f.proto (subst (λ (t : List ℕ). IsType t f.proto) (sym parts.0) is.type))

pub returns-in_err-outside-clause-refused : goal.returns-in_err-outside-clause-refused
returns-in_err-outside-clause-refused c = let p = err_from_is_err_and c.from_residual-in_err-outside.result c.from_residual-in_err-outside.ensures.1 in rw (p.1) (λ f is.
    let parts = forward_parts c.args.text.now c.args.dhcp_start.0 _ _ c.in_ok-kind.ensures.parts c.in_ok-kind.ensures.first f is in
    no_part 45 _ is.outside is.inside c.in_err-outside.ensures.refused parts.1)

pub returns-in_err-read_port_at-clause-refused : goal.returns-in_err-read_port_at-clause-refused
returns-in_err-read_port_at-clause-refused c = let p = err_from_is_err_and c.from_residual-in_err-read_port_at.result c.from_residual-in_err-read_port_at.ensures.1 in rw (p.1) (λ f is.
    let parts = forward_parts c.args.text.now c.args.dhcp_start.0 _ _ c.in_ok-kind.ensures.parts c.in_ok-kind.ensures.first f is in
    let sides = side_parts c.args.text.now c.args.dhcp_start.0 _ _ _ c.in_ok-outside.ensures.parts c.in_ok-outside.ensures.first f is parts.1 in
    c.in_err-read_port_at.ensures.refused f.host (subst (λ (t : List ℕ). IsPortAt 0 t f.host) (sym sides.0) is.host))

pub returns-in_err-read_port_at-2-clause-refused : goal.returns-in_err-read_port_at-2-clause-refused
returns-in_err-read_port_at-2-clause-refused c = let p = err_from_is_err_and c.from_residual-in_err-read_port_at-2.result c.from_residual-in_err-read_port_at-2.ensures.1 in rw (p.1) (λ f is.
    let parts = forward_parts c.args.text.now c.args.dhcp_start.0 _ _ c.in_ok-kind.ensures.parts c.in_ok-kind.ensures.first f is in
    let sides = side_parts c.args.text.now c.args.dhcp_start.0 _ _ _ c.in_ok-outside.ensures.parts c.in_ok-outside.ensures.first f is parts.1 in
    c.in_err-read_port_at-2.ensures.refused f.guest (subst (λ (t : List ℕ). IsPortAt c.args.dhcp_start.0 t f.guest) (sym sides.1) is.guest))

pub returns-clause-forward : goal.returns-clause-forward
returns-clause-forward c = record {
  kind = c.in_ok-kind.kind.now;
  outside = c.in_ok-outside.outside.now;
  inside = c.in_ok-outside.inside.now;
  encoded = encoded_forward _ _ _ _ _ c.in_ok-kind.ensures.parts c.in_ok-outside.ensures.parts;
  type = c.in_ok-proto.ensures.proto;
  host = c.in_ok-read_port_at.ensures.port;
  guest = c.in_ok-read_port_at-2.ensures.port;
}
