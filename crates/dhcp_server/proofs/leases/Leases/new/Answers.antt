-- The first address and the 15 behind it have 32 bits, and none is leased.
use Rattle.std.proofs.Common.{◌≡◌, ℕ, ◌+◌, ◌^◌, ◌<◌, nat_lt, true, ap, sym, subst, arith}
use Rattle.std.specs.List.{list_all}
use Rattle.std.proofs.lemmas.Bool.{and_parts}
use Rattle.std.proofs.lemmas.Bool.Decides.{nat_tests}
use Rattle.slirp_settings.specs.Addresses.{Config, is_guest, pool}
use Rattle.slirp_settings.specs.Settings.{settings}
use Rattle.slirp_settings.specs.declared.fields.Field.TheVariants.{VdhcpStart}
use Rattle.rules_dhcp.proofs.Owning.{all_free}
use Rattle.dhcp_server.proofs.leases.Leases.new.Goals as goal

below : (a b : ℕ) → nat_lt a b ≡ true → a < b
below a b is = grind (arith, nat_tests)

pub invariant_of-result : goal.invariant_of-result
invariant_of-result c =
    let config = settings c.args.c.now in
    let start = (and_parts (nat_lt (config.dhcp_start + 15) (2 ^ 32)) (list_all (is_guest config) (pool config)) (c.requires.each VdhcpStart)).0 in
    let same : c.copied.result.vdhcp_start.0 ≡ config.dhcp_start = ap (λ (k : Config). k.dhcp_start) c.copied.ensures in
    (subst (λ n. n + 15 < 2 ^ 32) (sym same) (below (config.dhcp_start + 15) (2 ^ 32) start), all_free 16)
