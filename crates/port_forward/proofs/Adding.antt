-- Which cause comes first, and the calls that are made by it.
use Rattle.std.proofs.Common.{◌≡◌, ◌≤◌, ◌<◌, ℕ, not, nat_le, Bool, true, false, List, length, Option, Some, None, if◌then◌else◌, refl, sym, ◌∙◌, ap, subst, rules}
use Rattle.world_face.specs.Tells.{Answers, Makes, Telling}
use Rattle.world_face.specs.declared.Made.{Made}
use Rattle.world_face.proofs.Telling.{makes_none, makes_one}
use Rattle.slirp_settings.specs.declared.Forward.{Forward}
use Rattle.slirp_settings.specs.Addresses.{Config, address, is_guest}
use Rattle.rules_forward.specs.Adding.{Adds, AddsBy, fault_of, opening_of}
use Rattle.rules_forward.specs.Opened.{Opened, is_taken}
use Rattle.rules_forward.specs.declared.FwdFault.{FwdFault}
use Rattle.rules_forward.specs.declared.FwdFault.TheVariants.{Taken, BadGuest, Full}

-- the causes by the three tests
abbrev asked : (taken guest full : Bool) → Option FwdFault
asked taken guest full = if taken then Some Taken else (if not guest then Some BadGuest else (if full then Some Full else None))

module _ (config : Config) (forward : Forward) (list : List Opened) where
  by_tests : (taken guest full : Bool) → is_taken forward.proto forward.host list ≡ taken → is_guest config (address forward.guest) ≡ guest → nat_le 32 (length list) ≡ full
      → fault_of config forward list ≡ asked taken guest full
  by_tests taken guest full t g f =
      ap (λ b. asked b (is_guest config (address forward.guest)) (nat_le 32 (length list))) t
      ∙ ap (λ b. asked taken b (nat_le 32 (length list))) g
      ∙ ap (λ b. asked taken guest b) f

  pub is_taken_first : is_taken forward.proto forward.host list ≡ true → fault_of config forward list ≡ Some Taken
  is_taken_first t = by_tests true (is_guest config (address forward.guest)) (nat_le 32 (length list)) t refl refl

  pub not_guest_next : is_taken forward.proto forward.host list ≡ false → is_guest config (address forward.guest) ≡ false → fault_of config forward list ≡ Some BadGuest
  not_guest_next t g = by_tests false false (nat_le 32 (length list)) t g refl

  pub full_last : is_taken forward.proto forward.host list ≡ false → is_guest config (address forward.guest) ≡ true → 32 ≤ length list → fault_of config forward list ≡ Some Full
  full_last t g full = by_tests false true true t g (search (rules, full))

  pub no_cause : is_taken forward.proto forward.host list ≡ false → is_guest config (address forward.guest) ≡ true → length list < 32 → fault_of config forward list ≡ None
  no_cause t g few = by_tests false true false t g (search (rules, few))

  pub refuses : (number : ℕ) (cause : FwdFault) (t : Telling) → fault_of config forward list ≡ Some cause → Makes t t (Adds (fault_of config forward list) forward number list list (Some cause))
  refuses number cause t is =
      subst (λ (fault : Option FwdFault). Makes t t (Adds fault forward number list list (Some cause))) (sym is)
      (makes_none t (Adds (Some cause) forward number list list (Some cause)) (refl, refl, refl))

  pub opens : (number : ℕ) (answer : Made) (new : List Opened) (fault : Option FwdFault) (a b : Telling) → fault_of config forward list ≡ None
      → Answers a b (opening_of forward.proto number forward.host answer) → AddsBy answer forward number list new fault
      → Makes a b (Adds (fault_of config forward list) forward number list new fault)
  opens number answer new fault a b is answers adds =
      subst (λ (f : Option FwdFault). Makes a b (Adds f forward number list new fault)) (sym is)
      (makes_one a b (opening_of forward.proto number forward.host answer) (Adds None forward number list new fault) answers (λ allowed. (answer, refl, adds)))
