-- A service that is opened.
use Rattle.std.proofs.Common.{◌≡◌, ℕ, ◌≤◌, ◌^◌, nat_le, ◌&&◌, true, IsTrue, arith}
use Rattle.std.specs.Prelude.{Result, Ok, Err, OnOk}
use Rattle.std.specs.Result.{is_ok}
use Rattle.std.proofs.lemmas.Bool.Decides.{nat_tests}
use Rattle.slirp_settings.specs.Addresses.{Config}
use Rattle.slirp_settings.specs.Ranges.{IsSound}
use Rattle.slirp_settings.specs.declared.fields.Field.TheVariants.{IfMtu, Turns}

-- a frame has room for a header and a unit of 8 octets
pub has_room_for_a_unit : (config : Config) → IsSound config → 28 ≤ config.mtu
has_room_for_a_unit config sound = enough config.mtu (sound.each IfMtu)
  where
    enough : (mtu : ℕ) → IsTrue (nat_le 576 mtu && nat_le mtu 1500) → 28 ≤ mtu
    enough mtu is = grind (arith, nat_tests, is)

-- there are at most 2^44 turns
pub has_few_turns : (config : Config) → IsSound config → config.turns ≤ 2 ^ 44
has_few_turns config sound = few config.turns (sound.each Turns)
  where
    few : (turns : ℕ) → IsTrue (nat_le 1 turns && nat_le turns 17592186044416) → turns ≤ 2 ^ 44
    few turns is = grind (arith, nat_tests, is)

-- and one at least
pub has_some_turns : (config : Config) → IsSound config → 1 ≤ config.turns
has_some_turns config sound = some config.turns (sound.each Turns)
  where
    some : (turns : ℕ) → IsTrue (nat_le 1 turns && nat_le turns 17592186044416) → 1 ≤ turns
    some turns is = grind (arith, nat_tests, is)

-- of what came to Ok holds what was said of that
pub at_ok : {T E P : Type 0} (result : Result T E) → is_ok result ≡ true → OnOk result P → P
at_ok (Ok x) is p = p
at_ok (Err e) is p = cc
