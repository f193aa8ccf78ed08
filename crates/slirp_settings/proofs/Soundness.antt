-- That each field is in its range where none is the first that breaks it.
use Rattle.std.proofs.Common.{ℕ, zero, suc, ◌≤◌, arith, ◌≡◌, refl, Bool, true, false, not, List, [], ◌∷◌, Option, Some, None, if◌then◌else◌}
use Rattle.std.proofs.lemmas.Bool.Decides.{nat_tests}
use Rattle.std.specs.Prelude.{find, slice_get}
use Rattle.slirp_settings.specs.declared.fields.Field.{Field}
use Rattle.slirp_settings.specs.declared.fields.Field.TheVariants.{Version, InEnabled, Vnetmask, Vnetwork, Vhost, Vnameserver, VdhcpStart, Vhostname, Vdomainname, TftpServerName, Bootfile}
use Rattle.slirp_settings.specs.declared.fields.Field.TheVariants.{TftpPath, IfMtu, IfMru, Flows, Ring, Resolver, Turns, Forwards, Outbound, DisableDns, DisableDhcp, Guestfwds, Control, Denied}
use Rattle.slirp_settings.specs.Addresses.{Config}
use Rattle.slirp_settings.specs.Ranges.{in_range, fields, first_broken, is_between, IsSound}

module _ {X : Type 0} where
  -- where the first of a list doesn't fail, it passes and none of the others fails
  goes_on : (b : Bool) (y : X) (rest : Option X) → (if not b then Some y else rest) ≡ None → (b ≡ true) × (rest ≡ None)
  goes_on true y rest none = (refl, none)
  goes_on false y rest none = cc

  -- where none fails, the one at each place passes
  passes : (p : X → Bool) (xs : List X) (i : ℕ) (x : X) → slice_get xs i ≡ Some x → find (λ y. not (p y)) xs ≡ None → p x ≡ true
  passes p [] i x at none = cc
  passes p (y ∷ ys) zero x at none = let first : p y ≡ true = (goes_on (p y) y (find (λ y. not (p y)) ys) none).0 in cc
  passes p (y ∷ ys) (suc i) x at none = passes p ys i x at (goes_on (p y) y (find (λ y. not (p y)) ys) none).1

  none_fails : (p : X → Bool) (xs : List X) → ((x : X) → p x ≡ true) → find (λ y. not (p y)) xs ≡ None
  none_fails p [] each = refl
  none_fails p (y ∷ ys) each = rw (each y) (none_fails p ys each)

-- each field has its place in the order
pub each_in_range : (config : Config) → first_broken config ≡ None → (field : Field) → in_range config field ≡ true
each_in_range config none Version = passes (in_range config) fields 0 Version refl none
each_in_range config none InEnabled = passes (in_range config) fields 1 InEnabled refl none
each_in_range config none Vnetmask = passes (in_range config) fields 2 Vnetmask refl none
each_in_range config none Vnetwork = passes (in_range config) fields 3 Vnetwork refl none
each_in_range config none Vhost = passes (in_range config) fields 4 Vhost refl none
each_in_range config none Vnameserver = passes (in_range config) fields 5 Vnameserver refl none
each_in_range config none VdhcpStart = passes (in_range config) fields 6 VdhcpStart refl none
each_in_range config none Vhostname = passes (in_range config) fields 7 Vhostname refl none
each_in_range config none Vdomainname = passes (in_range config) fields 8 Vdomainname refl none
each_in_range config none TftpServerName = passes (in_range config) fields 9 TftpServerName refl none
each_in_range config none Bootfile = passes (in_range config) fields 10 Bootfile refl none
each_in_range config none TftpPath = passes (in_range config) fields 11 TftpPath refl none
each_in_range config none IfMtu = passes (in_range config) fields 12 IfMtu refl none
each_in_range config none IfMru = passes (in_range config) fields 13 IfMru refl none
each_in_range config none Flows = passes (in_range config) fields 14 Flows refl none
each_in_range config none Ring = passes (in_range config) fields 15 Ring refl none
each_in_range config none Resolver = passes (in_range config) fields 16 Resolver refl none
each_in_range config none Turns = passes (in_range config) fields 17 Turns refl none
each_in_range config none Forwards = passes (in_range config) fields 18 Forwards refl none
each_in_range config none Outbound = passes (in_range config) fields 19 Outbound refl none
each_in_range config none DisableDns = passes (in_range config) fields 20 DisableDns refl none
each_in_range config none DisableDhcp = passes (in_range config) fields 21 DisableDhcp refl none
each_in_range config none Guestfwds = passes (in_range config) fields 22 Guestfwds refl none
each_in_range config none Control = passes (in_range config) fields 23 Control refl none
each_in_range config none Denied = passes (in_range config) fields 24 Denied refl none

pub none_broken : (config : Config) → IsSound config → first_broken config ≡ None
none_broken config sound = none_fails (in_range config) fields sound.each

-- the longest datagram to a guest
pub mtu_between : (config : Config) → IsSound config → (576 ≤ config.mtu) × (config.mtu ≤ 1500)
mtu_between config sound = between config.mtu (sound.each IfMtu)
  where
    between : (mtu : ℕ) → is_between 576 mtu 1500 ≡ true → (576 ≤ mtu) × (mtu ≤ 1500)
    between mtu is = (grind (arith, nat_tests, is), grind (arith, nat_tests, is))
