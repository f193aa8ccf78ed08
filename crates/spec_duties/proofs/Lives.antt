-- When the idle lives of sockets are over, by the list in the order of use.
use Rattle.std.proofs.Common.{◌≡◌, ℕ, zero, suc, ◌+◌, ◌⊎◌, inl, inr, slice_get, ◌-◌, ◌<◌, ◌≤◌, ◌==◌, ◌||◌, nat_le, Bool, true, false, List, [], ◌∷◌, length, map, All, Some, refl, sym, ap}
use Rattle.std.proofs.Common.{◌∙◌, subst, arith, if◌then◌else◌}
use Rattle.std.proofs.lemmas.Bool.Decides.{nat_tests}
use Rattle.world_face.specs.Journal.{Entry, Now}
use Rattle.slirp_settings.specs.Addresses.{Config}
use Rattle.ipv4_head.specs.Sets.{PartSet}
use Rattle.rules_udp.specs.Associations.{idle_life, is_over, numbered, numbers}
use Rattle.rules_udp.specs.declared.Association.{Association}
use Rattle.spec_trace.specs.Moments.{moment, moment_after}
use Rattle.spec_trace.specs.Sockets.{is_among}
use Rattle.spec_flow.specs.Dutiful.{AreAhead}
use Rattle.spec_flow.specs.Bounds.{IsBy, IsFrom}
use Rattle.spec_run.specs.Laws.{Lawful}
use Rattle.spec_run.specs.Ports.{associations_open, is_used_by, last_use, used_at}
use Rattle.spec_run.specs.Relayed.{associations}
use Rattle.spec_run.specs.Said.{AreByLastUse}
use Rattle.spec_run.proofs.Bools.{equal, same}
use Rattle.spec_run.proofs.Finding.{rising, same_sockets, says_of}
use Rattle.spec_run.proofs.Joining.{joined}
use Rattle.spec_duties.specs.Times.{association_lives}

-- ---- the moment of a last use

moment_rises : (e : Entry) (m : ℕ) → m ≤ moment_after e m
moment_rises (Now told) m = omega arith
moment_rises _ m = omega arith

pub used_by_now : (socket : ℕ) (past : List Entry) → used_at socket past ≤ moment past
used_by_now socket [] = omega arith
used_by_now socket (e ∷ past) = by (used_by_now socket past) (moment_rises e (moment past)) (is_used_by socket e)
  where
    by : used_at socket past ≤ moment past → moment past ≤ moment (e ∷ past) → (b : Bool) → (if b then moment past else used_at socket past) ≤ moment (e ∷ past)
    by low up true = up
    by low up false = omega (arith, low, up)

use_stands : (socket : ℕ) (past : List Entry) → last_use socket past ≤ length past
use_stands socket [] = omega arith
use_stands socket (e ∷ past) = by (use_stands socket past) (is_used_by socket e)
  where
    by : last_use socket past ≤ length past → (b : Bool) → (if b then length past else last_use socket past) ≤ length (e ∷ past)
    by low true = omega arith
    by low false = omega (arith, low)

-- one that was used before another was used no later
pub used_before : (one other : ℕ) (past : List Entry) → last_use one past < last_use other past → used_at one past ≤ used_at other past
used_before one other [] low = absurd (omega (arith, low))
used_before one other (e ∷ past) low = by (is_used_by one e) (is_used_by other e) (used_before one other past) (use_stands other past) (used_by_now one past) low
  where
    by : (a b : Bool) → (last_use one past < last_use other past → used_at one past ≤ used_at other past) → last_use other past ≤ length past → used_at one past ≤ moment past
        → (if a then length past else last_use one past) < (if b then length past else last_use other past)
        → (if a then moment past else used_at one past) ≤ (if b then moment past else used_at other past)
    by true true rest few soon is = absurd (omega (arith, is))
    by true false rest few soon is = absurd (omega (arith, is, few))
    by false true rest few soon is = soon
    by false false rest few soon is = rest is

-- ---- lists of sockets

AllOf : (ℕ → Type 0) → List ℕ → Type 0
AllOf P ns = (n : ℕ) → is_among n ns ≡ true → P n

behind : (P : ℕ → Type 0) (n : ℕ) (ns : List ℕ) → ((m : ℕ) → is_among m (n ∷ ns) ≡ true → P m) → (m : ℕ) → is_among m ns ≡ true → P m
behind P n ns each m among = each m (by (m == n) among)
  where
    by : (b : Bool) → is_among m ns ≡ true → (b || is_among m ns) ≡ true
    by true is = refl
    by false is = is

pub at_front : (n : ℕ) (ns : List ℕ) → is_among n (n ∷ ns) ≡ true
at_front n ns = ap (λ b. b || is_among n ns) (same n)

pub ahead_each : (now : ℕ) (f : ℕ → ℕ) (ns : List ℕ) → ((n : ℕ) → is_among n ns ≡ true → now < f n) → AreAhead now (map f ns)
ahead_each now f [] each = tt
ahead_each now f (n ∷ ns) each = (each n (at_front n ns), ahead_each now f ns (behind (λ m. now < f m) n ns each))

pub by_each : (at : ℕ) (f : ℕ → ℕ) (ns : List ℕ) → ((n : ℕ) → is_among n ns ≡ true → at ≤ f n) → IsBy (Some at) (map f ns)
by_each at f [] each = tt
by_each at f (n ∷ ns) each = (each n (at_front n ns), by_each at f ns (behind (λ m. at ≤ f m) n ns each))

pub from_each : (at : ℕ) (f : ℕ → ℕ) (ns : List ℕ) (n : ℕ) → is_among n ns ≡ true → f n ≤ at → IsFrom (Some at) (map f ns)
from_each at f [] n among low = absurd cc
from_each at f (m ∷ ns) n among low = by (n == m) refl among (from_each at f ns n)
  where
    by : (b : Bool) → (n == m) ≡ b → (b || is_among n ns) ≡ true → (is_among n ns ≡ true → f n ≤ at → IsFrom (Some at) (map f ns)) → (f m ≤ at) ⊎ IsFrom (Some at) (map f ns)
    by true is one rest = inl (subst (λ k. f k ≤ at) (equal n m is) low)
    by false is one rest = inr (rest one low)

-- those that stand behind another in the order of use were used no sooner
pub used_last : (past : List Entry) (n o : ℕ) (ns : List ℕ) → AreByLastUse past (o ∷ ns) → is_among n ns ≡ true → used_at o past ≤ used_at n past
used_last past n o [] order among = absurd cc
used_last past n o (m ∷ ns) order among = by (n == m) refl among (used_last past n o ns (order.0.1, order.1.1))
  where
    by : (b : Bool) → (n == m) ≡ b → (b || is_among n ns) ≡ true → (is_among n ns ≡ true → used_at o past ≤ used_at n past) → used_at o past ≤ used_at n past
    by true is one rest = subst (λ k. used_at o past ≤ used_at k past) (sym (equal n m is)) (used_before o m past order.0.0)
    by false is one rest = rest one

-- the first of the sets that wait is dropped first
pub drops_from : (at : ℕ) (sets : List PartSet) (i : ℕ) (s : PartSet) → slice_get sets i ≡ Some s → s.since + 60000 ≤ at → IsFrom (Some at) (map (λ (x : PartSet). x.since + 60000) sets)
drops_from at [] i s here low = absurd cc
drops_from at (x ∷ sets) zero s here low = let same_set : x ≡ s = cc in inl (subst (λ (y : PartSet). y.since + 60000 ≤ at) (sym same_set) low)
drops_from at (x ∷ sets) (suc i) s here low = inr (drops_from at sets i s here low)

-- what holds of all holds of the one with a number
has_one : (P : Association → Type 0) (n : ℕ) (list : List Association) → All P list → is_among n (numbers list) ≡ true → (a : Association) × (numbered n list ≡ Some a) × P a
has_one P n [] all among = absurd cc
has_one P n (x ∷ list) all among = by (n == x.number) (x.number == n) (turned n x.number) among (has_one P n list (λ k d low. all (suc k) d (omega (arith, low)))) (all 0 x (omega arith))
  where
    turned : (a b : ℕ) → (a == b) ≡ (b == a)
    turned a b = grind (arith, nat_tests)

    by : (t u : Bool) → t ≡ u → (t || is_among n (numbers list)) ≡ true → (is_among n (numbers list) ≡ true → (a : Association) × (numbered n list ≡ Some a) × P a) → P x
        → (a : Association) × ((if u then Some x else numbered n list) ≡ Some a) × P a
    by true true is one rest here = (x, refl, here)
    by false false is one rest here = rest one
    by true false is one rest here = absurd cc
    by false true is one rest here = absurd cc

-- ---- idle lives

module _ (config : Config) (past : List Entry) (lawful : Lawful config past) (now : ℕ) (young : All (λ a. is_over now a ≡ false) (associations config past)) where
  of_socket : (n : ℕ) → is_among n (associations_open config past) ≡ true → now < used_at n past + idle_life
  of_socket n among =
      let j = joined config past lawful in
      let one = has_one (λ a. is_over now a ≡ false) n (associations config past) young (sym (same_sockets config past (associations config past) j n) ∙ among) in
      let says = says_of config past n (associations config past) one.0 j.kept one.1 in
      let used : used_at n past ≡ one.0.used = says.used in
      let over : nat_le (one.0.used + idle_life) now ≡ false = one.2 in
      let later : now < one.0.used + idle_life = grind (arith, nat_tests, over) in
      omega (arith, used, later)

  pub lives_ahead : AreAhead now (association_lives config past)
  lives_ahead = ahead_each now (λ n. used_at n past + idle_life) (associations_open config past) of_socket

  oldest_young : (o : Association) (rest : List Association) → associations config past ≡ o ∷ rest → now < o.used + idle_life
  oldest_young o rest is =
      let all = subst (λ l. All (λ a. is_over now a ≡ false) l) is young in
      let over : nat_le (o.used + idle_life) now ≡ false = all 0 o (omega arith) in
      grind (arith, nat_tests, over)

  pub lives_by : (o : Association) (rest : List Association) → associations config past ≡ o ∷ rest → o.used ≤ now → IsBy (Some (now + (idle_life - (now - o.used)))) (association_lives config past)
  lives_by o rest is soon = by_each (now + (idle_life - (now - o.used))) (λ n. used_at n past + idle_life) (associations_open config past) of_each
    where
      order : AreByLastUse past (o.number ∷ numbers rest)
      order = subst (λ l. AreByLastUse past (numbers l)) is (rising past (associations config past) (joined config past lawful).order)

      first : used_at o.number past ≡ o.used
      first = (says_of config past o.number (associations config past) o (joined config past lawful).kept
          (ap (numbered o.number) is ∙ ap (λ (b : Bool). if b then Some o else numbered o.number rest) (same o.number))).used

      of_each : (n : ℕ) → is_among n (associations_open config past) ≡ true → now + (idle_life - (now - o.used)) ≤ used_at n past + idle_life
      of_each n among =
          by (n == o.number) refl (sym (ap (λ l. is_among n (numbers l)) is) ∙ sym (same_sockets config past (associations config past) (joined config past lawful) n) ∙ among)
        where
          by : (b : Bool) → (n == o.number) ≡ b → (b || is_among n (numbers rest)) ≡ true → now + (idle_life - (now - o.used)) ≤ used_at n past + idle_life
          by true at one =
              let here : used_at n past ≡ o.used = ap (λ m. used_at m past) (equal n o.number at) ∙ first in
              let later = oldest_young o rest is in
              omega (arith, here, later, soon)
          by false at one =
              let low = used_last past n o.number (numbers rest) order one in
              let mine = first in
              let later = oldest_young o rest is in
              omega (arith, low, mine, later, soon)

  -- and a wait that ends with it isn't too short
  pub lives_from : (o : Association) (rest : List Association) → associations config past ≡ o ∷ rest → o.used ≤ now → IsFrom (Some (now + (idle_life - (now - o.used)))) (association_lives config past)
  lives_from o rest is soon =
      from_each (now + (idle_life - (now - o.used))) (λ n. used_at n past + idle_life) (associations_open config past) o.number
      (same_sockets config past (associations config past) (joined config past lawful) o.number ∙ ap (λ l. is_among o.number (numbers l)) is ∙ at_front o.number (numbers rest)) low
    where
      first : used_at o.number past ≡ o.used
      first = (says_of config past o.number (associations config past) o (joined config past lawful).kept
          (ap (numbered o.number) is ∙ ap (λ (b : Bool). if b then Some o else numbered o.number rest) (same o.number))).used

      low : used_at o.number past + idle_life ≤ now + (idle_life - (now - o.used))
      low = let mine = first in omega (arith, mine, soon)
