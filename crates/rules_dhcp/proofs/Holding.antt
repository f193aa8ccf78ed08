-- What a message does to an address that is leased, and why it is answered so.
use Rattle.std.proofs.Common.{◌≡◌, ◌⊎◌, inl, inr, ℕ, ◌+◌, ◌-◌, ◌<◌, ◌≤◌, ◌==◌, nat_lt, nat_le, Bool, true, false, not, ◌&&◌, if◌then◌else◌, List, [], ◌∷◌}
use Rattle.std.proofs.Common.{length, map, Option, Some, None, refl, sym, ap, ◌∙◌, subst, arith}
use Rattle.std.specs.Prelude.{IfSome, MatchOption}
use Rattle.std.specs.Option.{option_and_then, option_map_or}
use Rattle.std.proofs.lemmas.Bool.{false≢true, and_parts, eq-eqb, eqb-true}
use Rattle.std.proofs.lemmas.Bool.Decides.{nat_tests}
use Rattle.std.proofs.lemmas.List.{length-map}
use Rattle.std.proofs.lemmas.Slice.Eq.{bytes_eq-Decides}
use Rattle.net_octets.specs.declared.Ip4.{Ip4}
use Rattle.net_octets.specs.declared.Mac.{Mac}
use Rattle.slirp_settings.specs.Addresses.{Config}
use Rattle.rules_dhcp.specs.declared.Lease.{Lease}
use Rattle.rules_dhcp.specs.declared.Lease.TheVariants.{Free, Reserved, Bound, Declined}
use Rattle.rules_dhcp.specs.declared.Message.{Message}
use Rattle.rules_dhcp.specs.declared.Answer.TheVariants.{Silence, Lends, Informs, Refuses}
use Rattle.rules_dhcp.specs.declared.Outcome.{Outcome}
use Rattle.rules_dhcp.specs.Leases.{same_mac, at_moment, is_free, is_of, lease_at, place_of, offered, not_reserved, can_have, lend}
use Rattle.rules_dhcp.specs.Leases.{declined_time, IsOneToOne}
use Rattle.rules_dhcp.specs.Serving.{discover, request, decline, release, leaves, asked_place, offers, discovered, is_for_another, wanted, lends, requested, given_up, outcome_of, served}
use Rattle.rules_dhcp.specs.History.{Received, Says, leases_over, entry_over, answer_over, IsForUs, IsOutside, IsAt, IsTaken, IsOpen}
use Rattle.rules_dhcp.specs.History.{IsRefusal, HasReason}
use Rattle.rules_dhcp.proofs.Owning.{same_is, map_one, moment_frees, is_offered, all_free, good_after, asked_within}

-- ---- hardware addresses and places

pub same_of : (a b : Mac) → a ≡ b → same_mac a b ≡ true
same_of a b is = (bytes_eq-Decides a.0 b.0).1 (ap (λ (m : Mac). m.0) is)

pub not_same : (a b : Mac) → same_mac a b ≡ false → a ≡ b → ⊥
not_same a b other is = false≢true (sym other ∙ same_of a b is)

open_free : (mac : Mac) (lease : Lease) → is_free lease ≡ true → IsOpen mac lease
open_free mac Free is = tt
open_free mac (Reserved owner until) is = absurd (false≢true is)
open_free mac (Bound owner until) is = absurd (false≢true is)
open_free mac (Declined until) is = absurd (false≢true is)

pub open_own : (mac : Mac) (lease : Lease) → is_of mac lease ≡ true → IsOpen mac lease
open_own mac Free is = tt
open_own mac (Reserved owner until) is = same_is owner mac is
open_own mac (Bound owner until) is = same_is owner mac is
open_own mac (Declined until) is = absurd (false≢true is)

open_can : (mac : Mac) (lease : Lease) → can_have mac lease ≡ true → IsOpen mac lease
open_can mac Free is = tt
open_can mac (Reserved owner until) is = same_is owner mac is
open_can mac (Bound owner until) is = same_is owner mac is
open_can mac (Declined until) is = absurd (false≢true is)

taken_not : (mac : Mac) (lease : Lease) → can_have mac lease ≡ false → IsTaken mac lease
taken_not mac Free is = false≢true (sym is)
taken_not mac (Reserved owner until) is = not_same owner mac is
taken_not mac (Bound owner until) is = not_same owner mac is
taken_not mac (Declined until) is = tt

-- who can't have it isn't given it
not_taken : (mac : Mac) (lease : Lease) → can_have mac lease ≡ true → IsTaken mac lease → ⊥
not_taken mac Free is taken = taken
not_taken mac (Reserved owner until) is taken = taken (same_is owner mac is)
not_taken mac (Bound owner until) is taken = taken (same_is owner mac is)
not_taken mac (Declined until) is taken = false≢true is

pub place_is : (config : Config) (a p : ℕ) → place_of config a ≡ Some p → IsAt config a p
place_is config a p is = by (nat_le config.dhcp_start a && nat_lt a (config.dhcp_start + 16)) refl is
  where
    some_is : (a b : ℕ) → ◌≡◌ {A = Option ℕ} (Some a) (Some b) → a ≡ b
    some_is a b is = cc

    never : ◌≡◌ {A = Option ℕ} None (Some p) → ⊥
    never is = cc

    sum : (s a p : ℕ) → (nat_le s a && nat_lt a (s + 16)) ≡ true → a - s ≡ p → a ≡ s + p
    sum s a p is less = let parts = and_parts (nat_le s a) (nat_lt a (s + 16)) is in let least = parts.0 in let most = parts.1 in grind (arith, nat_tests)

    few : (s a p : ℕ) → (nat_le s a && nat_lt a (s + 16)) ≡ true → a - s ≡ p → p < 16
    few s a p is less = let parts = and_parts (nat_le s a) (nat_lt a (s + 16)) is in let least = parts.0 in let most = parts.1 in grind (arith, nat_tests)

    by : (b : Bool) → (nat_le config.dhcp_start a && nat_lt a (config.dhcp_start + 16)) ≡ b → (if b then Some (a - config.dhcp_start) else None) ≡ Some p → IsAt config a p
    by true test is =
        let less = some_is (a - config.dhcp_start) p is in
        record { is = sum config.dhcp_start a p test less; among = few config.dhcp_start a p test less }
    by false test is = absurd (never is)

none_outside : (config : Config) (a : ℕ) → place_of config a ≡ None → IsOutside config a
none_outside config a is = by (nat_le config.dhcp_start a) refl (nat_lt a (config.dhcp_start + 16)) refl is
  where
    below : (s a : ℕ) → nat_le s a ≡ false → a < s
    below s a is = grind (arith, nat_tests)

    above : (s a : ℕ) → nat_lt a (s + 16) ≡ false → s + 16 ≤ a
    above s a is = grind (arith, nat_tests)

    never : ◌≡◌ {A = Option ℕ} (Some (a - config.dhcp_start)) None → ⊥
    never is = cc

    by : (b : Bool) → nat_le config.dhcp_start a ≡ b → (c : Bool) → nat_lt a (config.dhcp_start + 16) ≡ c → (if b && c then Some (a - config.dhcp_start) else None) ≡ None → IsOutside config a
    by true least true most is = absurd (never is)
    by true least false most is = inr (above config.dhcp_start a most)
    by false least c most is = inl (below config.dhcp_start a least)

one_place : (config : Config) (a p q : ℕ) → IsAt config a p → IsAt config a q → p ≡ q
one_place config a p q one other = sums config.dhcp_start a p q one.is other.is
  where
    sums : (s a p q : ℕ) → a ≡ s + p → a ≡ s + q → p ≡ q
    sums s a p q one other = omega (arith, one, other)

not_outside : (config : Config) (a p : ℕ) → IsAt config a p → IsOutside config a → ⊥
not_outside config a p at (inl below) = no config.dhcp_start a p at.is below
  where
    no : (s a p : ℕ) → a ≡ s + p → a < s → ⊥
    no s a p is less = omega (arith, is, less)
not_outside config a p at (inr above) = no config.dhcp_start a p at.is at.among above
  where
    no : (s a p : ℕ) → a ≡ s + p → p < 16 → s + 16 ≤ a → ⊥
    no s a p is few more = omega (arith, is, few, more)

pub inside_some : (config : Config) (a p : ℕ) → IsAt config a p → place_of config a ≡ Some p
inside_some config a p at = by (place_of config a) refl
  where
    by : (o : Option ℕ) → place_of config a ≡ o → place_of config a ≡ Some p
    by None is = absurd (not_outside config a p at (none_outside config a is))
    by (Some q) is = is ∙ ap (λ n. let o : Option ℕ = Some n in o) (one_place config a q p (place_is config a q is) at)

outside_none : (config : Config) (a : ℕ) → IsOutside config a → place_of config a ≡ None
outside_none config a outside = by (place_of config a) refl
  where
    by : (o : Option ℕ) → place_of config a ≡ o → place_of config a ≡ None
    by None is = is
    by (Some q) is = absurd (not_outside config a q (place_is config a q is) outside)

pub asked_is : (config : Config) (m : Message) (p : ℕ) → asked_place config m ≡ Some p → MatchOption m.asked ⊥ (λ (a : Ip4). IsAt config a.0 p)
asked_is config m p is = by m.asked is
  where
    never : ◌≡◌ {A = Option ℕ} None (Some p) → ⊥
    never is = cc

    by : (o : Option Ip4) → option_and_then (λ (a : Ip4). place_of config a.0) o ≡ Some p → MatchOption o ⊥ (λ (a : Ip4). IsAt config a.0 p)
    by None is = never is
    by (Some a) is = place_is config a.0 p is

-- ---- for which server

not_flips : (b : Bool) → not b ≡ false → b ≡ true
not_flips true is = refl
not_flips false is = sym is

for_us : (config : Config) (m : Message) → is_for_another config m ≡ false → IsForUs config m
for_us config m is = by m.server is
  where
    by : (o : Option Ip4) → option_map_or (λ (a : Ip4). not (a.0 == config.vhost)) o false ≡ false → MatchOption o (Unit {0}) (λ (a : Ip4). a.0 ≡ config.vhost)
    by None is = tt
    by (Some a) is = eqb-true a.0 config.vhost (not_flips (a.0 == config.vhost) is)

pub not_another : (config : Config) (m : Message) → IsForUs config m → is_for_another config m ≡ false
not_another config m ours = by m.server ours
  where
    by : (o : Option Ip4) → MatchOption o (Unit {0}) (λ (a : Ip4). a.0 ≡ config.vhost) → option_map_or (λ (a : Ip4). not (a.0 == config.vhost)) o false ≡ false
    by None is = refl
    by (Some a) is = ap not (eq-eqb a.0 config.vhost is)

-- ---- outcomes by cases

pub either_if : (P : Outcome → Type 0) (b : Bool) (x y : Outcome) → (b ≡ true → P x) → (b ≡ false → P y) → P (if b then x else y)
either_if P true x y one other = one refl
either_if P false x y one other = other refl

-- what holds of the outcome of each kind of message holds of its outcome
pub by_kind : (P : Outcome → Type 0) (config : Config) (now : ℕ) (m : Message) (leases : List Lease) → (m.kind ≡ discover → P (discovered config now m leases))
    → (m.kind ≡ request → P (requested config now m leases))
    → (m.kind ≡ decline → P (given_up m.mac (Declined (now + declined_time)) leases (asked_place config m)))
    → (m.kind ≡ release → P (given_up m.mac Free leases (place_of config m.client.0)))
    → (m.kind ≡ 8 → P (leaves leases Informs)) → P (leaves leases Silence) → P (outcome_of config now m leases)
by_kind P config now m leases ask want refuse let_go inform none =
    either_if P (m.kind == 1) _ _ (λ is. ask (eqb-true m.kind 1 is)) (λ _.
    either_if P (m.kind == 3) _ _ (λ is. want (eqb-true m.kind 3 is)) (λ _.
    either_if P (m.kind == 4) _ _ (λ is. refuse (eqb-true m.kind 4 is)) (λ _.
    either_if P (m.kind == 7) _ _ (λ is. let_go (eqb-true m.kind 7 is)) (λ _.
    either_if P (m.kind == 8) _ _ (λ is. inform (eqb-true m.kind 8 is)) (λ _. none)))))

-- ---- why it is answered so

pub are_over : (config : Config) (past : List Received) → IsOneToOne (leases_over config past) × (length (leases_over config past) ≡ 16)
are_over config [] = (all_free 16, refl)
are_over config (r ∷ before) = let was = are_over config before in good_after config r.at r.octets (leases_over config before) was.1 was.0

pub one_at_moment : (config : Config) (past : List Received) (at : ℕ) → IsOneToOne (map (at_moment at) (leases_over config past))
one_at_moment config past at = map_one (at_moment at) (leases_over config past) refl (moment_frees at) (are_over config past).0

pub long_at_moment : (config : Config) (past : List Received) (at : ℕ) → length (map (at_moment at) (leases_over config past)) ≡ 16
long_at_moment config past at = length-map (leases_over config past) (at_moment at) ∙ (are_over config past).1

module _ (config : Config) (before : List Received) (at : ℕ) (m : Message) where
  abbrev Reasoned : Outcome → Type 0
  Reasoned o = HasReason config before at m o.answer

  reason_offers : m.kind ≡ discover → (o : Option ℕ) → offered m.mac (asked_place config m) (map (at_moment at) (leases_over config before)) ≡ o →
      Reasoned (offers at m.mac (map (at_moment at) (leases_over config before)) o)
  reason_offers kind None is = tt
  reason_offers kind (Some place) is =
      let leases = map (at_moment at) (leases_over config before) in
      let long = long_at_moment config before at in
      let offer = is_offered m.mac (asked_place config m) leases place (one_at_moment config before at)
      (subst (λ n. IfSome (asked_place config m) (λ p. p < n)) (sym long) (asked_within config m)) is in
      record {
        kind = kind;
        among = subst (λ n. place < n) long offer.within;
        open_to = opens offer.can;
        its_own = offer.alone;
      }
    where
      opens : (is_of m.mac (entry_over config before at place) ≡ true) ⊎ (is_free (entry_over config before at place) ≡ true) → IsOpen m.mac (entry_over config before at place)
      opens (inl own) = open_own m.mac (entry_over config before at place) own
      opens (inr free) = open_free m.mac (entry_over config before at place) free

  reason_lends : m.kind ≡ request → IsForUs config m → (o : Option ℕ) → place_of config (wanted m) ≡ o → Reasoned (lends at m.mac (map (at_moment at) (leases_over config before)) o)
  reason_lends kind ours None is = record { kind = kind; for_us = ours; wrong = inl (none_outside config (wanted m) is) }
  reason_lends kind ours (Some place) is =
      let at_place = place_is config (wanted m) place is in
      either_if Reasoned (can_have m.mac (entry_over config before at place)) _ _
      (λ can. record { kind = kind; for_us = ours; wants = at_place; open_to = open_can m.mac (entry_over config before at place) can })
      (λ cannot. record { kind = kind; for_us = ours; wrong = inr (place, at_place, taken_not m.mac (entry_over config before at place) cannot) })

  reason_requested : m.kind ≡ request → Reasoned (requested config at m (map (at_moment at) (leases_over config before)))
  reason_requested kind =
      either_if Reasoned (is_for_another config m) _ _ (λ another. tt) (λ ours. reason_lends kind (for_us config m ours) (place_of config (wanted m)) refl)

  reason_given_up : (mac : Mac) (lease : Lease) (leases : List Lease) (o : Option ℕ) → Reasoned (given_up mac lease leases o)
  reason_given_up mac lease leases None = tt
  reason_given_up mac lease leases (Some place) = tt

  reason_outcome : Reasoned (outcome_of config at m (map (at_moment at) (leases_over config before)))
  reason_outcome =
      let leases = map (at_moment at) (leases_over config before) in
      by_kind Reasoned config at m leases (λ kind. reason_offers kind (offered m.mac (asked_place config m) leases) refl) reason_requested
      (λ kind. reason_given_up m.mac (Declined (at + declined_time)) leases (asked_place config m))
      (λ kind. reason_given_up m.mac Free leases (place_of config m.client.0)) (λ kind. kind) tt

-- the answer is that of the message that was read
pub answer_is : (config : Config) (before : List Received) (r : Received) (m : Message) → Says r m →
    answer_over config before r ≡ (outcome_of config r.at m (map (at_moment r.at) (leases_over config before))).answer
answer_is config before r m says = ap (λ o. (served config r.at (leases_over config before) o).answer) says

pub has_reason : (config : Config) (before : List Received) (r : Received) (m : Message) → Says r m → HasReason config before r.at m (answer_over config before r)
has_reason config before r m says = subst (HasReason config before r.at m) (sym (answer_is config before r m says)) (reason_outcome config before r.at m)

-- ---- what a REQUEST comes to

if_kind : (config : Config) (now : ℕ) (m : Message) (leases : List Lease) → ℕ → Outcome
if_kind config now m leases kind =
    if kind == 1 then discovered config now m leases
    else (if kind == 3 then requested config now m leases
    else (if kind == 4 then given_up m.mac (Declined (now + declined_time)) leases (asked_place config m)
    else (if kind == 7 then given_up m.mac Free leases (place_of config m.client.0)
    else (if kind == 8 then leaves leases Informs
    else leaves leases Silence))))

pub of_request : (config : Config) (now : ℕ) (m : Message) (leases : List Lease) → m.kind ≡ request → IsForUs config m → (o : Option ℕ) → place_of config (wanted m) ≡ o →
    outcome_of config now m leases ≡ lends now m.mac leases o
unfolding if_kind
of_request config now m leases kind ours o place =
    ap (if_kind config now m leases) kind
    ∙ ap (λ b. if b then leaves (map (not_reserved m.mac) leases) Silence else lends now m.mac leases (place_of config (wanted m))) (not_another config m ours)
    ∙ ap (lends now m.mac leases) place

pub of_discover : (config : Config) (now : ℕ) (m : Message) (leases : List Lease) → m.kind ≡ discover → outcome_of config now m leases ≡ discovered config now m leases
unfolding if_kind
of_discover config now m leases kind = ap (if_kind config now m leases) kind

refuses_if : (b : Bool) (x : Outcome) (leases : List Lease) → b ≡ false → (if b then x else leaves leases Refuses).answer ≡ Refuses
refuses_if true x leases is = absurd (false≢true (sym is))
refuses_if false x leases is = refl

pub lends_if : (b : Bool) (leases after : List Lease) (place : ℕ) → b ≡ true → (if b then leaves after (Lends place) else leaves leases Refuses).answer ≡ Lends place
lends_if true leases after place is = refl
lends_if false leases after place is = absurd (false≢true is)

cannot_if : (b : Bool) → (b ≡ true → ⊥) → b ≡ false
cannot_if true never = absurd (never refl)
cannot_if false never = refl

pub refused_taken : (config : Config) (before : List Received) (r : Received) (m : Message) (place : ℕ) → Says r m → m.kind ≡ request → IsForUs config m → IsAt config (wanted m) place →
    IsTaken m.mac (entry_over config before r.at place) → answer_over config before r ≡ Refuses
refused_taken config before r m place says kind ours wants taken =
    let leases = map (at_moment r.at) (leases_over config before) in
    answer_is config before r m says
    ∙ ap (λ (o : Outcome). o.answer) (of_request config r.at m leases kind ours (Some place) (inside_some config (wanted m) place wants))
    ∙ refuses_if (can_have m.mac (lease_at leases place)) (leaves (lend r.at m.mac place leases) (Lends place)) leases
    (cannot_if (can_have m.mac (lease_at leases place)) (λ can. not_taken m.mac (lease_at leases place) can taken))

pub refused_always : (config : Config) (before : List Received) (r : Received) (m : Message) → Says r m → IsRefusal config before r.at m → answer_over config before r ≡ Refuses
refused_always config before r m says refusal = by refusal.wrong
  where
    by : IsOutside config (wanted m) ⊎ ((place : ℕ) × IsAt config (wanted m) place × IsTaken m.mac (entry_over config before r.at place)) → answer_over config before r ≡ Refuses
    by (inl outside) =
        answer_is config before r m says
        ∙ ap (λ (o : Outcome). o.answer) (of_request config r.at m (map (at_moment r.at) (leases_over config before)) refusal.kind refusal.for_us None
        (outside_none config (wanted m) outside))
    by (inr taken) = refused_taken config before r m taken.0 says refusal.kind refusal.for_us taken.1 taken.2
