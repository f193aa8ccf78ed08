-- The sizes of flows that the settings say.
use Rattle.std.proofs.Common.{ℕ, ◌*◌, ◌≤◌, nat_le, ◌&&◌, Bool, true, false, ◌≡◌, refl, arith}
use Rattle.std.proofs.lemmas.Bool.Decides.{nat_tests}
use Rattle.slirp_settings.specs.Addresses.{Config}
use Rattle.slirp_settings.specs.Ranges.{IsSound, is_between}
use Rattle.slirp_settings.specs.declared.fields.Field.TheVariants.{Flows, IfMru, IfMtu, Ring}
use Rattle.tcp_flows.specs.Rows.{AreSized}

between : (least n most : ℕ) → is_between least n most ≡ true → (least ≤ n) × (n ≤ most)
between least n most is = (grind (arith, nat_tests, is), grind (arith, nat_tests, is))

first_of : (a b : Bool) → (a && b) ≡ true → a ≡ true
first_of true b is = refl
first_of false b is = cc

pub flows_between : (config : Config) → IsSound config → (1 ≤ config.flows) × (config.flows ≤ 4096)
flows_between config sound = between 1 config.flows 4096 (sound.each Flows)

pub sizes_fit : (config : Config) → IsSound config → AreSized config.ring config.mtu config.mru
sizes_fit config sound =
    let ring = between 65535 config.ring 1048576 (first_of (is_between 65535 config.ring 1048576) (nat_le (config.flows * config.ring) 268435456) (sound.each Ring)) in
    let mtu = between 576 config.mtu 1500 (sound.each IfMtu) in
    let mru = between 576 config.mru 9216 (sound.each IfMru) in
    record { ring_least = omega (arith, ring.0); ring_most = ring.1; mtu_least = mtu.0; mtu_most = mtu.1; mru_least = mru.0; mru_most = mru.1 }
