-- Settings that were checked meet the premises of the laws.
use Rattle.std.proofs.Common.{◌≡◌, ℕ, zero, suc, ◌+◌, ◌-◌, ◌*◌, ◌/◌, ◌^◌, ◌<◌, ◌≤◌, ◌==◌, nat_le, nat_lt, Bool, true, false, not, ◌&&◌, ◌||◌, List, [], ◌∷◌, length, Option, Some}
use Rattle.std.proofs.Common.{slice_get, refl, sym, ap, ◌∙◌, subst, arith}
use Rattle.std.specs.List.{list_all, list_any}
use Rattle.std.proofs.Math.Nat.{div-lt_iff_lt-mul}
use Rattle.std.proofs.lemmas.Bool.{false≢true, and_parts, eqb-true}
use Rattle.std.proofs.lemmas.Bool.Decides.{nat_tests}
use Rattle.std.proofs.lemmas.Option.{get_or_from_slice_get, slice_get_within}
use Rattle.slirp_settings.specs.Addresses.{Config, address, in_network, is_guest, is_of_one_host, is_ours, last_address, pool}
use Rattle.slirp_settings.specs.declared.Forward.{Forward}
use Rattle.slirp_settings.specs.declared.fields.Field.TheVariants.{Vnetmask, Vhost, Vnameserver, VdhcpStart, IfMtu, Forwards}
use Rattle.slirp_settings.specs.Ranges.{IsSound, is_forward, is_mask, mask_of, none_twice, prefix_lengths, same_host_port}
use Rattle.spec_run.specs.Questions.{HasNameServer}
use Rattle.spec_run.specs.Said.{HasPorts}
use Rattle.spec_run.specs.Settings.{HasNumbersForPorts}
use Rattle.spec_run.proofs.Given.{by_settings}

-- ---- tests

first : (a b : Bool) → (a && b) ≡ true → a ≡ true
first a b is = (and_parts a b is).0

second : (a b : Bool) → (a && b) ≡ true → b ≡ true
second a b is = (and_parts a b is).1

not_so : (b : Bool) → not b ≡ true → b ≡ false
not_so true is = sym is
not_so false is = refl

module _ {X : Type 0} (p : X → Bool) where
  each_at : (xs : List X) (n : ℕ) (x : X) → list_all p xs ≡ true → slice_get xs n ≡ Some x → p x ≡ true
  each_at [] n x all at = cc
  each_at (y ∷ ys) zero x all at = ap p (sym (same y x at)) ∙ first (p y) (list_all p ys) all
    where
      same : (y x : X) → ◌≡◌ {A = Option X} (Some y) (Some x) → y ≡ x
      same y x is = cc
  each_at (y ∷ ys) (suc n) x all at = each_at ys n x (second (p y) (list_all p ys) all) at

-- what follows from each of a list that passes follows where one does
module _ (p : ℕ → Bool) (Q : Type 0) where
  Each : List ℕ → Type 0
  Each [] = Unit {0}
  Each (x ∷ xs) = (p x ≡ true → Q) × Each xs

  one_of : (xs : List ℕ) → Each xs → list_any p xs ≡ true → Q
  unfolding Each
  one_of [] each is = absurd (false≢true is)
  one_of (x ∷ xs) each is = by (p x) refl is (λ rest. one_of xs each.1 rest)
    where
      by : (b : Bool) → p x ≡ b → (b || list_any p xs) ≡ true → (list_any p xs ≡ true → Q) → Q
      by true passes is rest = each.0 passes
      by false fails is rest = rest is

-- ---- addresses of the network have 32 bits, as the first one that is leased has

near : (a d size count : ℕ) → 0 < size → count * size ≡ 2 ^ 32 → a / size ≡ d / size → d < 2 ^ 32 → a < 2 ^ 32
near a d size count some all same fits =
    let below : d < count * size = subst (λ n. d < n) (sym all) fits in
    let places : d / size < count = (div-lt_iff_lt-mul some).1 below in
    subst (λ n. a < n) all ((div-lt_iff_lt-mul some).0 (subst (λ n. n < count) (sym same) places))

abbrev Fits : ℕ → ℕ → ℕ → Type 0
Fits a d mask = a / (2 ^ 32 - mask) ≡ d / (2 ^ 32 - mask) → d < 2 ^ 32 → a < 2 ^ 32

fits_with : (a d mask ones size count : ℕ) → 2 ^ 32 - mask_of ones ≡ size → 0 < size → count * size ≡ 2 ^ 32 → (mask == mask_of ones) ≡ true → Fits a d mask
fits_with a d mask ones size count of_size some all is same =
    let is_size : 2 ^ 32 - mask ≡ size = ap (λ m. 2 ^ 32 - m) (eqb-true mask (mask_of ones) is) ∙ of_size in
    near a d size count some all (subst (λ n. a / n ≡ d / n) is_size same)

fits : (a d mask : ℕ) → is_mask mask ≡ true → Fits a d mask
unfolding Each
fits a d mask is = one_of (λ ones. mask == mask_of ones) (Fits a d mask) prefix_lengths (
  fits_with a d mask 8 16777216 256 refl (omega arith) refl,
  (
    fits_with a d mask 9 8388608 512 refl (omega arith) refl,
    (
      fits_with a d mask 10 4194304 1024 refl (omega arith) refl,
      (
        fits_with a d mask 11 2097152 2048 refl (omega arith) refl,
        (
          fits_with a d mask 12 1048576 4096 refl (omega arith) refl,
          (
            fits_with a d mask 13 524288 8192 refl (omega arith) refl,
            (
              fits_with a d mask 14 262144 16384 refl (omega arith) refl,
              (
                fits_with a d mask 15 131072 32768 refl (omega arith) refl,
                (
                  fits_with a d mask 16 65536 65536 refl (omega arith) refl,
                  (
                    fits_with a d mask 17 32768 131072 refl (omega arith) refl,
                    (
                      fits_with a d mask 18 16384 262144 refl (omega arith) refl,
                      (
                        fits_with a d mask 19 8192 524288 refl (omega arith) refl,
                        (
                          fits_with a d mask 20 4096 1048576 refl (omega arith) refl,
                          (
                            fits_with a d mask 21 2048 2097152 refl (omega arith) refl,
                            (
                              fits_with a d mask 22 1024 4194304 refl (omega arith) refl,
                              (
                                fits_with a d mask 23 512 8388608 refl (omega arith) refl,
                                (
                                  fits_with a d mask 24 256 16777216 refl (omega arith) refl,
                                  (
                                    fits_with a d mask 25 128 33554432 refl (omega arith) refl,
                                    (
                                      fits_with a d mask 26 64 67108864 refl (omega arith) refl,
                                      (
                                        fits_with a d mask 27 32 134217728 refl (omega arith) refl,
                                        tt,
                                      ),
                                    ),
                                  ),
                                ),
                              ),
                            ),
                          ),
                        ),
                      ),
                    ),
                  ),
                ),
              ),
            ),
          ),
        ),
      ),
    ),
  ),
) is

module _ (config : Config) (sound : IsSound config) where
  -- the first that is leased
  start_fits : config.dhcp_start < 2 ^ 32
  start_fits = less config.dhcp_start (2 ^ 32) (first (nat_lt (config.dhcp_start + 15) (2 ^ 32)) (list_all (is_guest config) (pool config)) (sound.each VdhcpStart))
    where
      less : (a b : ℕ) → nat_lt (a + 15) b ≡ true → a < b
      less a b is = grind (arith, nat_tests)

  network_inside : (a : ℕ) → is_of_one_host config a ≡ true → in_network config a ≡ true
  network_inside a is =
      first (in_network config a) (not (a == config.network)) (first (in_network config a && not (a == config.network)) (not (a == last_address config)) is)

  start_inside : in_network config (config.dhcp_start + 0) ≡ true
  start_inside =
      let all = second (nat_lt (config.dhcp_start + 15) (2 ^ 32)) (list_all (is_guest config) (pool config)) (sound.each VdhcpStart) in
      let guest = each_at (is_guest config) (pool config) 0 (config.dhcp_start + 0) all refl in
      network_inside (config.dhcp_start + 0) (first (is_of_one_host config (config.dhcp_start + 0)) (not (is_ours config (config.dhcp_start + 0))) guest)

  address_fits : (a : ℕ) → in_network config a ≡ true → a < 2 ^ 32
  address_fits a inside =
      let size = 2 ^ 32 - config.mask in
      let here = eqb-true (a / size) (config.network / size) inside in
      let start = eqb-true ((config.dhcp_start + 0) / size) (config.network / size) start_inside in
      fits a (config.dhcp_start + 0) config.mask (sound.each Vnetmask) (here ∙ sym start) (subst (λ n. n < 2 ^ 32) (plain config.dhcp_start) start_fits)
    where
      plain : (n : ℕ) → n ≡ n + 0
      plain n = omega arith

  pub mtu : 576 ≤ config.mtu
  mtu = most config.mtu (first (nat_le 576 config.mtu) (nat_le config.mtu 1500) (sound.each IfMtu))
    where
      most : (n : ℕ) → nat_le 576 n ≡ true → 576 ≤ n
      most n is = grind (arith, nat_tests)

  pub header : 28 ≤ config.mtu
  header = omega (arith, mtu)

  pub syn : 48 ≤ config.mtu
  syn = omega (arith, mtu)

  pub host : config.vhost < 2 ^ 32
  host = address_fits config.vhost (network_inside config.vhost (sound.each Vhost))

  name_inside : in_network config config.vnameserver ≡ true
  name_inside =
      network_inside config.vnameserver (first (is_of_one_host config config.vnameserver) (not (config.vnameserver == config.vhost)) (sound.each Vnameserver))

  pub name_server : config.vnameserver < 2 ^ 32
  name_server = address_fits config.vnameserver name_inside

  pub has_name_server : HasNameServer config
  has_name_server = record {
    fits = name_server;
    inside = name_inside;
    other = not_so (config.vnameserver == config.vhost)
        (second (is_of_one_host config config.vnameserver) (not (config.vnameserver == config.vhost)) (sound.each Vnameserver));
  }

  pub ports : config.added ≡ [] → HasNumbersForPorts config → HasPorts config
  ports none numbers = λ n f is.
      let at : slice_get config.forwards n ≡ Some f = sym (by_settings config n none) ∙ is in
      let listed = second (nat_le (length config.forwards) 32) (list_all (is_forward config) config.forwards)
      (first (nat_le (length config.forwards) 32 && list_all (is_forward config) config.forwards) (none_twice same_host_port config.forwards) (sound.each Forwards)) in
      let forward = each_at (is_forward config) config.forwards n f listed at in
      let guest = second (not (f.host.port == 0) && not (f.guest.port == 0)) (is_guest config (address f.guest)) forward in (
        address_fits (address f.guest) (network_inside (address f.guest) (first (is_of_one_host config (address f.guest)) (not (is_ours config (address f.guest))) guest)),
        subst (λ (g : Forward). g.guest.port < 2 ^ 16) (get_or_from_slice_get config.forwards n f f at) (numbers n f (slice_get_within config.forwards n f at)),
      )
