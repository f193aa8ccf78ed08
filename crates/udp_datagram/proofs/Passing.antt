-- What the tests of a datagram find.
use Rattle.std.proofs.Common.{◌≡◌, ℕ, ◌-◌, ◌≤◌, ◌==◌, ◌&&◌, ◌||◌, not, nat_le, nat_lt, Bool, true, false, List, length, Option, Some, None, if◌then◌else◌, refl, sym, ap, ◌∙◌, arith}
use Rattle.std.proofs.lemmas.Bool.Decides.{nat_tests}
use Rattle.net_octets.specs.Octets.{two_at, part, sum_ok}
use Rattle.net_octets.specs.declared.Fault.{Fault}
use Rattle.udp_datagram.specs.Udp.{Udp, is_udp, read_udp, udp_fault, summed, within}

-- a sum that holds, or none
abbrev pub sum_passes : (from to : ℕ) → List ℕ → Bool
sum_passes from to octets = (two_at octets 6 == 0) || sum_ok (summed from to (within octets))

pub record Tests (from to : ℕ) (octets : List ℕ) : Type 0 where
  pub long : 8 ≤ length octets
  pub least : 8 ≤ two_at octets 4
  pub most : two_at octets 4 ≤ length octets
  pub sum : sum_passes from to octets ≡ true

record Numbers (n t : ℕ) (s : Bool) : Type 0 where
  pub long : 8 ≤ n
  pub least : 8 ≤ t
  pub most : t ≤ n
  pub sum : s ≡ true

numbers : (n t : ℕ) (s : Bool) → (nat_le 8 n && nat_le 8 t && nat_le t n && s) ≡ true → Numbers n t s
numbers n t s is = record {
  long = grind (arith, nat_tests);
  least = grind (arith, nat_tests);
  most = grind (arith, nat_tests);
  sum = grind (arith, nat_tests);
}

pass : (n t : ℕ) (s : Bool) → Numbers n t s → (nat_le 8 n && nat_le 8 t && nat_le t n && s) ≡ true
pass n t s is = grind (arith, nat_tests, is.sum)

-- a datagram passes the tests
pub tests : (from to : ℕ) (octets : List ℕ) → is_udp from to octets ≡ true → Tests from to octets
tests from to octets is =
    let f = numbers (length octets) (two_at octets 4) (sum_passes from to octets) is in
    record { long = f.long; least = f.least; most = f.most; sum = f.sum }

-- what passes them is a datagram
passes : (from to : ℕ) (octets : List ℕ) → Tests from to octets → is_udp from to octets ≡ true
passes from to octets t =
    pass (length octets) (two_at octets 4) (sum_passes from to octets) (record { long = t.long; least = t.least; most = t.most; sum = t.sum })

step : (b : Bool) (f : Fault) (rest : Option Fault) → (if b then Some f else rest) ≡ None → (b ≡ false) × (rest ≡ None)
step true f rest is = absurd cc
step false f rest is = (refl, is)

faultless : (n t : ℕ) (s : Bool) → nat_lt n 8 ≡ false → (nat_lt t 8 || nat_lt n t) ≡ false → not s ≡ false → Numbers n t s
faultless n t s p q r = record {
  long = grind (arith, nat_tests);
  least = grind (arith, nat_tests);
  most = grind (arith, nat_tests);
  sum = grind (arith, nat_tests);
}

-- octets without a fault pass them
pub no_fault : (from to : ℕ) (octets : List ℕ) → udp_fault from to octets ≡ None → Tests from to octets
no_fault from to octets is =
    let a = step (nat_lt (length octets) 8) _ _ is in
    let b = step (nat_lt (two_at octets 4) 8 || nat_lt (length octets) (two_at octets 4)) _ _ a.1 in
    let c = step (not (sum_passes from to octets)) _ _ b.1 in
    let f = faultless (length octets) (two_at octets 4) (sum_passes from to octets) a.0 b.0 c.0 in
    record { long = f.long; least = f.least; most = f.most; sum = f.sum }

-- the fields, found one by one
pub read_by : (from to : ℕ) (octets : List ℕ) → Tests from to octets → (from_port to_port : ℕ) (body : List ℕ) → from_port ≡ two_at octets 0 → to_port ≡ two_at octets 2 →
    body ≡ part octets 8 (two_at octets 4 - 8)
    → read_udp from to octets ≡ Some (record { from_port = from_port; to_port = to_port; body = body })
read_by from to octets t from_port to_port body p q r =
    let found : Udp = record { from_port = two_at octets 0; to_port = two_at octets 2; body = part octets 8 (two_at octets 4 - 8) } in
    ap (λ b. if b then Some found else None) (passes from to octets t)
    ∙ ap (λ n. Some (record found { from_port = n })) (sym p)
    ∙ ap (λ n. Some (record found { from_port = from_port; to_port = n })) (sym q)
    ∙ ap (λ (l : List ℕ). Some (record { from_port = from_port; to_port = to_port; body = l })) (sym r)
