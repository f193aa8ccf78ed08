-- Where each octet that is held or kept comes from.
use Rattle.std.proofs.Common.{◌≡◌, ℕ, suc, zero, ◌+◌, ◌-◌, ◌<◌, ◌≤◌, Bool, true, false, ◌⊎◌, inl, inr, nat_lt, nat_le, List, [], ◌∷◌, ◌++◌, length, take, drop, Option, None, Some}
use Rattle.std.proofs.Common.{if◌then◌else◌, ℤ, pos, negsuc, arith, refl, sym, ap, ◌∙◌, subst, length-append, length-take}
use Rattle.std.specs.List.{slice_get}
use Rattle.std.proofs.lemmas.Int.{ints}
use Rattle.std.proofs.lemmas.Bool.Decides.{nat_tests}
use Rattle.std.proofs.lemmas.Option.{slice_get_within}
use Rattle.circular_buffer.proofs.Places.{slice_get-take, slice_get-append_left, slice_get-append_right}
use Rattle.sock_buffers.specs.Kept.{KeepsAt, Octets, first_octets, octet_at, octets_with, with_range}
use Rattle.sock_buffers.specs.Upward.{Upward, after_keep, after_take, fitting, keeps_none, range_of, within}
use Rattle.sock_buffers.proofs.Keeping.{kept_else, more_at, more_before, more_from, octet_at-drop, octet_at-octets_with}
use Rattle.tcp_receive.specs.Received.{StandsAt, gap, octets_from, placed}
use Rattle.tcp_receive.proofs.Standing.{stands}

-- an octet of the first ones is kept at its place
first_at : (os : Octets) (n k x : ℕ) → slice_get (first_octets os n) k ≡ Some x → KeepsAt os k x
first_at os zero k x is = cc
first_at [] (suc n) k x is = cc
first_at (None ∷ os) (suc n) k x is = cc
first_at (Some y ∷ os) (suc n) zero x is = is
first_at (Some y ∷ os) (suc n) (suc k) x is = first_at os n k x is

-- an octet of the longest front that fits is one of the octets
in_front : (m : ℕ) (octets : List ℕ) (j x : ℕ) → slice_get (take m octets) j ≡ Some x → slice_get octets j ≡ Some x
in_front m octets j x is =
    let inside = slice_get_within (take m octets) j x is in
    sym (slice_get-take m octets j (omega (arith, length-take m octets))) ∙ is

-- what is kept after more octets were is kept before, or one of them
record IsMore (ahead : ℕ) (octets : List ℕ) (k x : ℕ) : Type 0 where
  j : ℕ
  there : slice_get octets j ≡ Some x
  at : k ≡ ahead + j

from_more : (ahead : ℕ) (octets : List ℕ) (k x : ℕ) (b : Bool) → nat_le ahead k ≡ b → more_at ahead octets k ≡ Some x → IsMore ahead octets k x
from_more ahead octets k x true low is =
    let offset : ahead + (k - ahead) ≡ k = grind (arith, nat_tests) in
    record { j = k - ahead; there = sym (more_from ahead octets (k - ahead)) ∙ ap (more_at ahead octets) offset ∙ is; at = sym offset }
from_more ahead octets k x false low is =
    let none = more_before ahead octets k (grind (arith, nat_tests)) in cc

kept_or_more : (o m : Option ℕ) (x : ℕ) → kept_else o m ≡ Some x → (o ≡ Some x) ⊎ (m ≡ Some x)
kept_or_more None m x is = inr is
kept_or_more (Some y) m x is = inl is

keep_kept : (u : Upward) (ahead : ℕ) (octets : List ℕ) (k x : ℕ) → KeepsAt (after_keep u ahead octets).kept k x → KeepsAt u.kept k x ⊎ IsMore ahead octets k x
keep_kept u ahead octets k x is = by_test (keeps_none u ahead octets) is
  where
    more : (m : ℕ) → IsMore ahead (take m octets) k x → IsMore ahead octets k x
    more m found = record { j = found.j; there = in_front m octets found.j x found.there; at = found.at }

    by_more : KeepsAt u.kept k x ⊎ (more_at ahead (within u ahead octets) k ≡ Some x) → KeepsAt u.kept k x ⊎ IsMore ahead octets k x
    by_more (inl old) = inl old
    by_more (inr new) = inr (more _ (from_more ahead (within u ahead octets) k x (nat_le ahead k) refl new))

    by_test : (b : Bool) → KeepsAt (if b then u else record u {
      ranges = with_range u.ranges (range_of u ahead octets);
      kept = octets_with u.kept ahead
          (within u ahead octets);
    }).kept k x → KeepsAt u.kept k x ⊎ IsMore ahead octets k x
    by_test true old = inl old
    by_test false new =
        by_more (kept_or_more (octet_at u.kept k) (more_at ahead (within u ahead octets) k) x (sym (octet_at-octets_with u.kept ahead (within u ahead octets) k) ∙ new))

-- an octet that comes past a gap stands there
more_stands : (place : ℤ) (taken : ℕ) (octets : List ℕ) (k x : ℕ) → 0 < gap place taken → IsMore (gap place taken) octets k x → StandsAt place octets (taken + k) x
more_stands (pos o) taken octets k x some found = (found.j, (found.there, omega (arith, ints, found.at)))
more_stands (negsuc n) taken octets k x some found = absurd (omega arith)

-- what is kept in the end
abbrev pub CameFrom : Upward → ℤ → ℕ → List ℕ → ℕ → ℕ → Type 0
CameFrom up place taken octets k x = KeepsAt up.kept k x ⊎ StandsAt place octets (taken + k) x

by_keep : (up : Upward) (place : ℤ) (taken : ℕ) (octets : List ℕ) (k x : ℕ) → 0 < gap place taken → KeepsAt (after_keep up (gap place taken) octets).kept k x → CameFrom up place taken octets k x
by_keep up place taken octets k x some is = from (keep_kept up (gap place taken) octets k x is)
  where
    from : KeepsAt up.kept k x ⊎ IsMore (gap place taken) octets k x → CameFrom up place taken octets k x
    from (inl old) = inl old
    from (inr new) = inr (more_stands place taken octets k x some new)

-- of a step that holds, and of one that keeps
abbrev pub Holds_rest : Upward → ℤ → ℕ → List ℕ → Upward → ℕ → Type 0
Holds_rest up place taken octets u joined =
    ((k x : ℕ) → k + length up.held < length u.held + joined → slice_get (u.held ++ first_octets u.kept joined) (length up.held + k) ≡ Some x → CameFrom up place taken octets k x)
    × ((k x : ℕ) → KeepsAt (drop joined u.kept) k x → CameFrom up place taken octets (length u.held + joined - length up.held + k) x)

by_take_held : (up : Upward) (place : ℤ) (taken : ℕ) (octets : List ℕ) (joined k x : ℕ) (b : Bool) → nat_lt k (length (fitting up (octets_from place octets taken))) ≡ b
    → slice_get ((up.held ++ fitting up (octets_from place octets taken)) ++ first_octets (drop (length (fitting up (octets_from place octets taken))) up.kept) joined) (length up.held + k) ≡ Some x
    → CameFrom up place taken octets k x
by_take_held up place taken octets joined k x true low is =
    let fit = fitting up (octets_from place octets taken) in
    let less : k < length fit = grind (arith, nat_tests) in
    let here = sym (slice_get-append_left (up.held ++ fit) (first_octets (drop (length fit) up.kept) joined) (length up.held + k) (omega (arith, length-append up.held fit))
    ∙ slice_get-append_right up.held fit (length up.held + k) k refl) ∙ is in
    inr (stands place octets taken k x (in_front _ (octets_from place octets taken) k x here))
by_take_held up place taken octets joined k x false low is =
    let fit = fitting up (octets_from place octets taken) in
    let more : length fit ≤ k = grind (arith, nat_tests) in
    let offset : length fit + (k - length fit) ≡ k = omega arith in
    let here = sym (slice_get-append_right (up.held ++ fit) (first_octets (drop (length fit) up.kept) joined) (length up.held + k) (k - length fit) (omega (arith, length-append up.held fit))) ∙ is in
    inl (ap (octet_at up.kept) (sym offset) ∙ sym (octet_at-drop (length fit) up.kept (k - length fit)) ∙ first_at (drop (length fit) up.kept) joined (k - length fit) x here)

by_take : (up : Upward) (place : ℤ) (taken : ℕ) (octets : List ℕ) (joined : ℕ) → Holds_rest up place taken octets (after_take up (octets_from place octets taken)) joined
by_take up place taken octets joined =
    let fit = fitting up (octets_from place octets taken) in (
      (λ k x _ is. by_take_held up place taken octets joined k x (nat_lt k (length fit)) refl is),
      (λ k x is.
          let at : length (up.held ++ fit) + joined - length up.held + k ≡ length fit + (joined + k) = omega (arith, length-append up.held fit) in
          inl (ap (octet_at up.kept) at ∙ sym (octet_at-drop (length fit) up.kept (joined + k)) ∙ sym (octet_at-drop joined (drop (length fit) up.kept) k) ∙ is)),
    )

by_keep_all : (up : Upward) (place : ℤ) (taken : ℕ) (octets : List ℕ) (joined : ℕ) → 0 < gap place taken → length (after_keep up (gap place taken) octets).held ≡ length up.held
    → (after_keep up (gap place taken) octets).held ≡ up.held
    → Holds_rest up place taken octets (after_keep up (gap place taken) octets) joined
by_keep_all up place taken octets joined some long same =
    let u = after_keep up (gap place taken) octets in (
      (λ k x _ is.
          let here = sym (slice_get-append_right u.held (first_octets u.kept joined) (length up.held + k) k (omega arith)) ∙ is in
          by_keep up place taken octets k x some (first_at u.kept joined k x here)),
      (λ k x is.
          let at : length u.held + joined - length up.held + k ≡ joined + k = omega arith in
          subst (λ n. CameFrom up place taken octets n x) (sym at) (by_keep up place taken octets (joined + k) x some (sym (octet_at-drop joined u.kept k) ∙ is))),
    )

keep_holds : (up : Upward) (ahead : ℕ) (octets : List ℕ) → (after_keep up ahead octets).held ≡ up.held
keep_holds up ahead octets = by_test (keeps_none up ahead octets)
  where
    by_test : (b : Bool) → (if b then up else record up { ranges = with_range up.ranges (range_of up ahead octets); kept = octets_with up.kept ahead (within up ahead octets) }).held ≡ up.held
    by_test true = refl
    by_test false = refl

pub comes_from : (up : Upward) (place : ℤ) (taken : ℕ) (octets : List ℕ) (joined : ℕ) → Holds_rest up place taken octets (placed place taken octets up) joined
comes_from up place taken octets joined = by_test (nat_lt 0 (gap place taken)) refl
  where
    by_test : (b : Bool) → nat_lt 0 (gap place taken) ≡ b
        → Holds_rest up place taken octets (if b then after_keep up (gap place taken) octets else after_take up (octets_from place octets taken)) joined
    by_test true some = by_keep_all up place taken octets joined (grind (arith, nat_tests)) (ap length (keep_holds up (gap place taken) octets)) (keep_holds up (gap place taken) octets)
    by_test false none = by_take up place taken octets joined

-- the same of equal places
pub same_origin : (up : Upward) (place at : ℤ) (taken count : ℕ) (octets : List ℕ) (k x : ℕ) → CameFrom up place taken octets k x → place ≡ at → taken ≡ count → CameFrom up at count octets k x
same_origin up place at taken count octets k x from place_is taken_is =
    subst (λ p. CameFrom up p count octets k x) place_is (subst (λ n. CameFrom up place n octets k x) taken_is from)

pub same_place : (up : Upward) (place at : ℤ) (taken count : ℕ) (octets : List ℕ) (n k x : ℕ) → KeepsAt up.kept n x ⊎ StandsAt place octets (taken + k) x → place ≡ at → taken ≡ count
    → KeepsAt up.kept n x ⊎ StandsAt at octets (count + k) x
same_place up place at taken count octets n k x from place_is taken_is =
    subst (λ p. KeepsAt up.kept n x ⊎ StandsAt p octets (count + k) x) place_is (subst (λ m. KeepsAt up.kept n x ⊎ StandsAt place octets (m + k) x) taken_is from)
