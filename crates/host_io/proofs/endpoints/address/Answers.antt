use Rattle.std.proofs.Common.{◌≡◌, ◌∙◌, ◌<◌, ◌^◌, ℕ, Some, ap}
use Rattle.std.specs.declared.option.Option.{Option}
use Rattle.std.specs.Net.Addr.{ipv4_bits}
use Rattle.std.specs.Net.Socket.{v4_ip, v4_port}
use Rattle.net_octets.specs.declared.Endpoint.{Endpoint}
use Rattle.host_io.proofs.Addresses.{bits_of}
use Rattle.host_io.proofs.endpoints.address.Goals as goal

pub returns : goal.returns
returns c =
    let made : ℕ → ℕ → Option Endpoint = λ bits port. Some (record { addr = record { 0 = bits }; port = port }) in
    let below : c.args.of.addr.0 < 2 ^ 32 = search in
    let bits : ipv4_bits (v4_ip c.new.result) ≡ c.args.of.addr.0 = ap ipv4_bits c.new.ensures.ip ∙ bits_of _ _ below c.from_bits.ensures in
    ap (λ n. made n (v4_port c.new.result)) bits ∙ ap (made c.args.of.addr.0) c.new.ensures.port
