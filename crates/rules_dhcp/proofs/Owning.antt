-- No hardware address has two addresses, whatever message comes.
use Rattle.std.proofs.Common.{◌≡◌, ◌≢◌, ◌⊎◌, inl, inr, ℕ, zero, suc, ◌+◌, ◌-◌, ◌<◌, ◌≤◌, ◌==◌, nat_lt, nat_le, Bool, true, false, ◌&&◌, if◌then◌else◌, List, [], ◌∷◌, length, map, set}
use Rattle.std.proofs.Common.{get_or, replicate, Option, Some, None, refl, sym, ap, ◌∙◌, subst, arith, get_or-set_same, get_or-set_other}
use Rattle.std.specs.Prelude.{IfSome, position}
use Rattle.std.specs.List.{position_or_len}
use Rattle.std.specs.Option.{option_or, option_and_then}
use Rattle.std.proofs.lemmas.Bool.{false≢true, cases_eq, cases_lt, and_parts}
use Rattle.std.proofs.lemmas.Bool.Decides.{nat_tests}
use Rattle.std.proofs.lemmas.List.{get_or_past, length-map, length-set}
use Rattle.std.proofs.lemmas.List.Quantifiers.{position-Some}
use Rattle.std.proofs.lemmas.List.Sums.{fails_before_first}
use Rattle.std.proofs.lemmas.Slice.Eq.{bytes_eq-Decides}
use Rattle.net_octets.specs.declared.Ip4.{Ip4}
use Rattle.net_octets.specs.declared.Mac.{Mac}
use Rattle.slirp_settings.specs.Addresses.{Config}
use Rattle.rules_dhcp.specs.declared.Lease.{Lease}
use Rattle.rules_dhcp.specs.declared.Lease.TheVariants.{Free, Reserved, Bound, Declined}
use Rattle.rules_dhcp.specs.declared.Message.{Message}
use Rattle.rules_dhcp.specs.declared.Answer.TheVariants.{Silence, Lends, Informs, Refuses}
use Rattle.rules_dhcp.specs.declared.Outcome.{Outcome}
use Rattle.rules_dhcp.specs.Leases.{same_mac, at_moment, is_free, is_of, is_reserved_for, lease_at, place_of, free_asked, offered, reserved, freed, not_reserved, can_have, lend, replaced}
use Rattle.rules_dhcp.specs.Leases.{lease_time, declined_time, IsOneToOne}
use Rattle.rules_dhcp.specs.Serving.{leaves, asked_place, offers, discovered, is_for_another, wanted, lends, requested, given_up, leases_after, outcome_of, served}
use Rattle.rules_dhcp.specs.Messages.{read_message}
use Rattle.rules_dhcp.specs.Replies.{IsPlaced}

pub same_is : (a b : Mac) → same_mac a b ≡ true → a ≡ b
same_is a b same = ap (λ (xs : List ℕ). let mac : Mac = record { 0 = xs } in mac) ((bytes_eq-Decides a.0 b.0).0 same)

-- an entry that is of no other hardware address
abbrev OnlyOf : Mac → Lease → Type 0
OnlyOf mac lease = (m : Mac) → is_of m lease ≡ true → m ≡ mac

reserved_only : (mac : Mac) (until : ℕ) → OnlyOf mac (Reserved mac until)
reserved_only mac until m is = sym (same_is mac m is)

bound_only : (mac : Mac) (until : ℕ) → OnlyOf mac (Bound mac until)
bound_only mac until m is = sym (same_is mac m is)

-- an offer makes an entry that is free, or the hardware address's, its own
offer_only : (now : ℕ) (mac : Mac) (lease : Lease) → (is_of mac lease ≡ true) ⊎ (is_free lease ≡ true) → OnlyOf mac (reserved now mac lease)
offer_only now mac Free can = reserved_only mac (now + 60000)
offer_only now mac (Reserved owner until) can = reserved_only mac (now + 60000)
offer_only now mac (Declined until) can = reserved_only mac (now + 60000)
offer_only now mac (Bound owner until) (inl own) = λ m is. sym (same_is owner m is) ∙ same_is owner mac own
offer_only now mac (Bound owner until) (inr other) = absurd (false≢true other)

none_of : (mac : Mac) (place : ℕ) → is_of mac Free ≡ true → ⊥
none_of mac place is = false≢true is

-- one entry is made a hardware address's, which has no other
set_one : (mac : Mac) (leases : List Lease) (k : ℕ) (lease : Lease) → OnlyOf mac lease → ((j : ℕ) → is_of mac (lease_at leases j) ≡ true → j ≡ k) → k < length leases →
    IsOneToOne leases → IsOneToOne (set leases k lease)
set_one mac leases k lease only alone within one m i j hi hj = by (cases_eq i k) (cases_eq j k)
  where
    at_k : (i : ℕ) → i ≡ k → is_of m (lease_at (set leases k lease) i) ≡ true → m ≡ mac
    at_k i ik is = only m (sym (ap (is_of m) (ap (λ n. get_or (set leases k lease) n Free) ik ∙ get_or-set_same leases k lease Free within)) ∙ is)

    elsewhere : (i : ℕ) → i ≢ k → is_of m (lease_at (set leases k lease) i) ≡ true → is_of m (lease_at leases i) ≡ true
    elsewhere i ne is = sym (ap (is_of m) (get_or-set_other leases k i lease Free ne)) ∙ is

    never : (i j : ℕ) → i ≡ k → j ≢ k → is_of m (lease_at (set leases k lease) i) ≡ true → is_of m (lease_at (set leases k lease) j) ≡ true → ⊥
    never i j ik ne hi hj = ne (alone j (subst (λ n. is_of n (lease_at leases j) ≡ true) (at_k i ik hi) (elsewhere j ne hj)))

    by : (i ≡ k) ⊎ (i ≡ k → ⊥) → (j ≡ k) ⊎ (j ≡ k → ⊥) → i ≡ j
    by (inl ik) (inl jk) = ik ∙ sym jk
    by (inl ik) (inr nj) = absurd (never i j ik nj hi hj)
    by (inr ni) (inl jk) = absurd (never j i jk ni hj hi)
    by (inr ni) (inr nj) = one m i j (elsewhere i ni hi) (elsewhere j nj hj)

-- an entry is made nobody's
set_none : (leases : List Lease) (k : ℕ) (lease : Lease) → ((m : Mac) → is_of m lease ≡ false) → k < length leases → IsOneToOne leases → IsOneToOne (set leases k lease)
set_none leases k lease none within one m i j hi hj = one m i j (by i (cases_eq i k) hi) (by j (cases_eq j k) hj)
  where
    by : (i : ℕ) → (i ≡ k) ⊎ (i ≡ k → ⊥) → is_of m (lease_at (set leases k lease) i) ≡ true → is_of m (lease_at leases i) ≡ true
    by i (inl ik) is = absurd (false≢true (sym (none m) ∙ sym (ap (is_of m) (ap (λ n. get_or (set leases k lease) n Free) ik ∙ get_or-set_same leases k lease Free within)) ∙ is))
    by i (inr ni) is = sym (ap (is_of m) (get_or-set_other leases k i lease Free ni)) ∙ is

-- a change of each entry, which makes none another's
pub lease_at-map : (f : Lease → Lease) (leases : List Lease) (i : ℕ) → f Free ≡ Free → lease_at (map f leases) i ≡ f (lease_at leases i)
lease_at-map f [] i free = sym free
lease_at-map f (lease ∷ leases) zero free = refl
lease_at-map f (lease ∷ leases) (suc i) free = lease_at-map f leases i free

pub map_one : (f : Lease → Lease) (leases : List Lease) → f Free ≡ Free → ((m : Mac) (lease : Lease) → is_of m (f lease) ≡ true → is_of m lease ≡ true) → IsOneToOne leases → IsOneToOne (map f leases)
map_one f leases free frees one m i j hi hj =
    one m i j
    (frees m (lease_at leases i) (sym (ap (is_of m) (lease_at-map f leases i free)) ∙ hi))
    (frees m (lease_at leases j) (sym (ap (is_of m) (lease_at-map f leases j free)) ∙ hj))

-- an entry or none
pub or_free : (b : Bool) (m : Mac) (lease : Lease) → is_of m (if b then Free else lease) ≡ true → is_of m lease ≡ true
or_free true m lease is = absurd (false≢true is)
or_free false m lease is = is

if_free : (b : Bool) (m : Mac) (lease : Lease) → is_of m (if b then lease else Free) ≡ true → is_of m lease ≡ true
if_free true m lease is = is
if_free false m lease is = absurd (false≢true is)

pub moment_frees : (now : ℕ) (m : Mac) (lease : Lease) → is_of m (at_moment now lease) ≡ true → is_of m lease ≡ true
moment_frees now m Free is = is
moment_frees now m (Reserved owner until) is = if_free (nat_lt now until) m (Reserved owner until) is
moment_frees now m (Bound owner until) is = if_free (nat_lt now until) m (Bound owner until) is
moment_frees now m (Declined until) is = if_free (nat_lt now until) m (Declined until) is

-- no entry is the hardware address's
not_of_freed : (mac : Mac) (lease : Lease) → is_of mac (freed mac lease) ≡ true → ⊥
not_of_freed mac lease is = by (is_of mac lease) refl is
  where
    by : (b : Bool) → is_of mac lease ≡ b → is_of mac (if b then Free else lease) ≡ true → ⊥
    by true own is = false≢true is
    by false other is = false≢true (sym other ∙ is)

-- none is found
pub none_found : (mac : Mac) (leases : List Lease) → position (is_of mac) leases ≡ None → (j : ℕ) → is_of mac (lease_at leases j) ≡ true → ⊥
none_found mac leases none j is = by (nat_lt (position_or_len (is_of mac) leases) (length leases)) refl none (cases_lt j (length leases))
  where
    never : (k : ℕ) → ◌≡◌ {A = Option ℕ} (Some k) None → ⊥
    never k is = cc

    behind : (a b c : ℕ) → nat_lt a b ≡ false → c < b → c < a
    behind a b c not_less lt = grind (arith, nat_tests)

    by : (b : Bool) → nat_lt (position_or_len (is_of mac) leases) (length leases) ≡ b → (if b then Some (position_or_len (is_of mac) leases) else None) ≡ None →
        (j < length leases) ⊎ (length leases ≤ j) → ⊥
    by true lt missing where_j = never (position_or_len (is_of mac) leases) missing
    by false lt missing (inl before) = false≢true (sym (fails_before_first (is_of mac) leases j Free (behind (position_or_len (is_of mac) leases) (length leases) j lt before)) ∙ is)
    by false lt missing (inr past) = false≢true (ap (is_of mac) (sym (get_or_past leases j Free past)) ∙ is)

-- what an offered place is
pub record IsOffered (mac : Mac) (leases : List Lease) (k : ℕ) : Type 0 where
  pub can : (is_of mac (lease_at leases k) ≡ true) ⊎ (is_free (lease_at leases k) ≡ true)
  pub alone : (j : ℕ) → is_of mac (lease_at leases j) ≡ true → j ≡ k
  pub within : k < length leases

some_is : (a b : ℕ) → ◌≡◌ {A = Option ℕ} (Some a) (Some b) → a ≡ b
some_is a b is = cc

pub is_offered : (mac : Mac) (asked : Option ℕ) (leases : List Lease) (k : ℕ) → IsOneToOne leases → IfSome asked (λ p. p < length leases) → offered mac asked leases ≡ Some k → IsOffered mac leases k
is_offered mac asked leases k one within is = by (position (is_of mac) leases) refl is
  where
    free_found : position is_free leases ≡ Some k → position (is_of mac) leases ≡ None → IsOffered mac leases k
    free_found found none = record {
      can = inr (position-Some is_free leases k Free found).1;
      alone = λ j own. absurd (none_found mac leases none j own);
      within = (position-Some is_free leases k Free found).0;
    }

    if_asked : (p : ℕ) (b : Bool) → is_free (lease_at leases p) ≡ b → p < length leases → position (is_of mac) leases ≡ None → option_or (if b then Some p else None)
        (position is_free leases) ≡ Some k → IsOffered mac leases k
    if_asked p true free lt none is =
        let pk = some_is p k is in
        record {
          can = inr (sym (ap (λ n. is_free (lease_at leases n)) pk) ∙ free);
          alone = λ j own. absurd (none_found mac leases none j own);
          within = subst (λ n. n < length leases) pk lt;
        }
    if_asked p false free lt none is = free_found is none

    by_asked : (o : Option ℕ) → IfSome o (λ p. p < length leases) → position (is_of mac) leases ≡ None → option_or (option_and_then (free_asked leases) o)
        (position is_free leases) ≡ Some k → IsOffered mac leases k
    by_asked None lt none is = free_found is none
    by_asked (Some p) lt none is = if_asked p (is_free (lease_at leases p)) refl lt none is

    by : (o : Option ℕ) → position (is_of mac) leases ≡ o → option_or o (option_or (option_and_then (free_asked leases) asked) (position is_free leases)) ≡ Some k → IsOffered mac leases k
    by (Some p) found is =
        let pk = some_is p k is in
        let at = position-Some (is_of mac) leases p Free found in
        let own : is_of mac (lease_at leases k) ≡ true = sym (ap (λ n. is_of mac (lease_at leases n)) pk) ∙ at.1 in
        record { can = inl own; alone = λ j other. one mac j k other own; within = subst (λ n. n < length leases) pk at.0 }
    by None none is = by_asked asked within none is

-- an outcome in which no hardware address has two addresses, there are 16 of them yet, and an address that is given has its place
pub record IsGood (outcome : Outcome) : Type 0 where
  pub many : length outcome.leases ≡ 16
  pub one : IsOneToOne outcome.leases
  pub placed : IsPlaced outcome.answer

either : (b : Bool) (x y : Outcome) → IsGood x → IsGood y → IsGood (if b then x else y)
either true x y good other = good
either false x y other good = good

silent : (leases : List Lease) → length leases ≡ 16 → IsOneToOne leases → IsGood (leaves leases Silence)
silent leases long one = record { many = long; one = one; placed = tt }

pub place_within : (config : Config) (a : ℕ) → IfSome (place_of config a) (λ k. k < 16)
place_within config a = by (nat_le config.dhcp_start a && nat_lt a (config.dhcp_start + 16)) refl
  where
    below : (s a : ℕ) → (nat_le s a && nat_lt a (s + 16)) ≡ true → a - s < 16
    below s a is = let parts = and_parts (nat_le s a) (nat_lt a (s + 16)) is in let least = parts.0 in let most = parts.1 in grind (arith, nat_tests)

    by : (b : Bool) → (nat_le config.dhcp_start a && nat_lt a (config.dhcp_start + 16)) ≡ b → IfSome (if b then Some (a - config.dhcp_start) else None) (λ k. k < 16)
    by true is = below config.dhcp_start a is
    by false is = tt

pub asked_within : (config : Config) (m : Message) → IfSome (asked_place config m) (λ k. k < 16)
asked_within config m = by m.asked
  where
    by : (o : Option Ip4) → IfSome (option_and_then (λ (a : Ip4). place_of config a.0) o) (λ k. k < 16)
    by None = tt
    by (Some a) = place_within config a.0

good_discovered : (config : Config) (now : ℕ) (m : Message) (leases : List Lease) → length leases ≡ 16 → IsOneToOne leases → IsGood (discovered config now m leases)
good_discovered config now m leases long one = by (offered m.mac (asked_place config m) leases) refl
  where
    by : (o : Option ℕ) → offered m.mac (asked_place config m) leases ≡ o → IsGood (offers now m.mac leases o)
    by None is = silent leases long one
    by (Some k) is =
        let offer = is_offered m.mac (asked_place config m) leases k one (subst (λ n. IfSome (asked_place config m) (λ p. p < n)) (sym long) (asked_within config m)) is in
        record {
          many = length-set leases k (reserved now m.mac (lease_at leases k)) ∙ long;
          one = set_one m.mac leases k (reserved now m.mac (lease_at leases k)) (offer_only now m.mac (lease_at leases k) offer.can) offer.alone offer.within one;
          placed = subst (λ n. k < n) long offer.within;
        }

good_lends : (now : ℕ) (mac : Mac) (leases : List Lease) (o : Option ℕ) → length leases ≡ 16 → IfSome o (λ k. k < 16) → IsOneToOne leases → IsGood (lends now mac leases o)
good_lends now mac leases None long within one = record { many = long; one = one; placed = tt }
good_lends now mac leases (Some k) long within one =
    either (can_have mac (lease_at leases k)) (leaves (lend now mac k leases) (Lends k)) (leaves leases Refuses)
    (record {
      many = length-set (map (freed mac) leases) k (Bound mac (now + lease_time)) ∙ length-map leases (freed mac) ∙ long;
      one = set_one mac (map (freed mac) leases) k (Bound mac (now + lease_time)) (bound_only mac (now + lease_time))
          (λ j own. absurd (not_of_freed mac (lease_at leases j) (sym (ap (is_of mac) (lease_at-map (freed mac) leases j refl)) ∙ own)))
          (subst (λ n. k < n) (sym (length-map leases (freed mac) ∙ long)) within)
          (map_one (freed mac) leases refl (λ m lease is. or_free (is_of mac lease) m lease is) one);
      placed = within;
    })
    (record { many = long; one = one; placed = tt })

good_requested : (config : Config) (now : ℕ) (m : Message) (leases : List Lease) → length leases ≡ 16 → IsOneToOne leases → IsGood (requested config now m leases)
good_requested config now m leases long one =
    either (is_for_another config m) (leaves (map (not_reserved m.mac) leases) Silence) (lends now m.mac leases (place_of config (wanted m)))
    (silent (map (not_reserved m.mac) leases) (length-map leases (not_reserved m.mac) ∙ long)
    (map_one (not_reserved m.mac) leases refl (λ n lease is. or_free (is_reserved_for m.mac lease) n lease is) one))
    (good_lends now m.mac leases (place_of config (wanted m)) long (place_within config (wanted m)) one)

good_given_up : (mac : Mac) (lease : Lease) (leases : List Lease) (o : Option ℕ) → ((m : Mac) → is_of m lease ≡ false) → length leases ≡ 16 → IfSome o (λ k. k < 16) →
    IsOneToOne leases → IsGood (given_up mac lease leases o)
good_given_up mac lease leases None none long within one = silent leases long one
good_given_up mac lease leases (Some k) none long within one = silent (replaced mac k lease leases) (as_many (is_of mac (lease_at leases k))) (by (is_of mac (lease_at leases k)))
  where
    as_many : (b : Bool) → length (if b then set leases k lease else leases) ≡ 16
    as_many true = length-set leases k lease ∙ long
    as_many false = long

    by : (b : Bool) → IsOneToOne (if b then set leases k lease else leases)
    by true = set_none leases k lease none (subst (λ n. k < n) (sym long) within) one
    by false = one

pub good_outcome : (config : Config) (now : ℕ) (m : Message) (leases : List Lease) → length leases ≡ 16 → IsOneToOne leases → IsGood (outcome_of config now m (map (at_moment now) leases))
good_outcome config now m old size before =
    let leases = map (at_moment now) old in
    let long : length leases ≡ 16 = length-map old (at_moment now) ∙ size in
    let one : IsOneToOne leases = map_one (at_moment now) old refl (moment_frees now) before in
    let nothing = silent leases long one in
    let informed : IsGood (leaves leases Informs) = record { many = long; one = one; placed = tt } in
    let released = good_given_up m.mac Free leases (place_of config m.client.0) (λ m. refl) long (place_within config m.client.0) one in
    let declined = good_given_up m.mac (Declined (now + declined_time)) leases (asked_place config m) (λ m. refl) long (asked_within config m) one in
    either (m.kind == 1) _ _ (good_discovered config now m leases long one)
    (either (m.kind == 3) _ _ (good_requested config now m leases long one)
    (either (m.kind == 4) _ _ declined (either (m.kind == 7) _ _ released (either (m.kind == 8) _ _ informed nothing))))

-- where all are free, none is anybody's
pub all_free : (count : ℕ) → IsOneToOne (replicate count Free)
all_free count m i j hi hj = absurd (none count i hi)
  where
    none : (count i : ℕ) → is_of m (lease_at (replicate count Free) i) ≡ true → ⊥
    none zero i is = false≢true is
    none (suc count) zero is = false≢true is
    none (suc count) (suc i) is = none count i is

-- whatever octets came, where there were 16 addresses
pub good_after : (config : Config) (now : ℕ) (octets : List ℕ) (leases : List Lease) → length leases ≡ 16 → IsOneToOne leases → IsOneToOne (leases_after config now octets leases) ×
    (length (leases_after config now octets leases) ≡ 16)
good_after config now octets leases long one = by (read_message octets)
  where
    by : (o : Option Message) → IsOneToOne (served config now leases o).leases × (length (served config now leases o).leases ≡ 16)
    by None = (one, long)
    by (Some m) = let good = good_outcome config now m leases long one in (good.one, good.many)
