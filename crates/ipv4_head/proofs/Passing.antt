-- What the tests of a datagram find.
use Rattle.std.proofs.Common.{◌≡◌, ℕ, ◌-◌, ◌/◌, ◌%◌, ◌^◌, ◌≤◌, ◌==◌, ◌&&◌, ◌||◌, not, nat_le, nat_lt, Bool, true, false, List, length, take, Option, Some, None, if◌then◌else◌, refl, sym}
use Rattle.std.proofs.Common.{ap, ◌∙◌, arith}
use Rattle.std.proofs.lemmas.Bool.Decides.{nat_tests}
use Rattle.net_octets.specs.Octets.{one_at, two_at, four_at, part, word_sum, sum_ok}
use Rattle.net_octets.specs.declared.Fault.{Fault}
use Rattle.ipv4_head.specs.Ip.{Ip, is_ip, read_ip, ip_fault, head_length}

pub record Tests (octets : List ℕ) : Type 0 where
  pub long : 20 ≤ length octets
  pub version : one_at octets 0 / 16 ≡ 4
  pub head : 20 ≤ head_length octets
  pub total : head_length octets ≤ two_at octets 2
  pub within : two_at octets 2 ≤ length octets
  pub sum : sum_ok (word_sum (take (head_length octets) octets)) ≡ true

record Numbers (n v h t : ℕ) (s : Bool) : Type 0 where
  pub long : 20 ≤ n
  pub version : v ≡ 4
  pub head : 20 ≤ h
  pub total : h ≤ t
  pub within : t ≤ n
  pub sum : s ≡ true

numbers : (n v h t : ℕ) (s : Bool) → (nat_le 20 n && (v == 4) && nat_le 20 h && nat_le h t && nat_le t n && s) ≡ true → Numbers n v h t s
numbers n v h t s is = record {
  long = grind (arith, nat_tests);
  version = grind (arith, nat_tests);
  head = grind (arith, nat_tests);
  total = grind (arith, nat_tests);
  within = grind (arith, nat_tests);
  sum = grind (arith, nat_tests);
}

pass : (n v h t : ℕ) (s : Bool) → Numbers n v h t s → (nat_le 20 n && (v == 4) && nat_le 20 h && nat_le h t && nat_le t n && s) ≡ true
pass n v h t s is = grind (arith, nat_tests, is.sum)

-- a datagram passes the tests
pub tests : (octets : List ℕ) → is_ip octets ≡ true → Tests octets
tests octets is =
    let f = numbers (length octets) (one_at octets 0 / 16) (head_length octets) (two_at octets 2) (sum_ok (word_sum (take (head_length octets) octets))) is in
    record { long = f.long; version = f.version; head = f.head; total = f.total; within = f.within; sum = f.sum }

-- what passes them is a datagram
pub passes : (octets : List ℕ) → Tests octets → is_ip octets ≡ true
passes octets t =
    pass (length octets) (one_at octets 0 / 16) (head_length octets) (two_at octets 2) (sum_ok (word_sum (take (head_length octets) octets)))
    (record { long = t.long; version = t.version; head = t.head; total = t.total; within = t.within; sum = t.sum })

step : (b : Bool) (f : Fault) (rest : Option Fault) → (if b then Some f else rest) ≡ None → (b ≡ false) × (rest ≡ None)
step true f rest is = absurd cc
step false f rest is = (refl, is)

faultless : (n v h t : ℕ) (s : Bool) → nat_lt n 20 ≡ false → not (v == 4) ≡ false → nat_lt h 20 ≡ false → (nat_lt t h || nat_lt n t) ≡ false → not s ≡ false → Numbers n v h t s
faultless n v h t s p q r u w = record {
  long = grind (arith, nat_tests);
  version = grind (arith, nat_tests);
  head = grind (arith, nat_tests);
  total = grind (arith, nat_tests);
  within = grind (arith, nat_tests);
  sum = grind (arith, nat_tests);
}

-- octets without a fault pass them
pub no_fault : (octets : List ℕ) → ip_fault octets ≡ None → Tests octets
no_fault octets is =
    let a = step (nat_lt (length octets) 20) _ _ is in
    let b = step (not (one_at octets 0 / 16 == 4)) _ _ a.1 in
    let c = step (nat_lt (head_length octets) 20) _ _ b.1 in
    let d = step (nat_lt (length octets) (head_length octets)) _ _ c.1 in
    let e = step (nat_lt (two_at octets 2) (head_length octets) || nat_lt (length octets) (two_at octets 2)) _ _ d.1 in
    let g = step (not (sum_ok (word_sum (take (head_length octets) octets)))) _ _ e.1 in
    let f = faultless (length octets) (one_at octets 0 / 16) (head_length octets) (two_at octets 2) (sum_ok (word_sum (take (head_length octets) octets))) a.0 b.0 c.0 e.0 g.0 in
    record { long = f.long; version = f.version; head = f.head; total = f.total; within = f.within; sum = f.sum }

-- the fields, found one by one
pub read_by : (octets : List ℕ) → Tests octets → (ident fragment proto from to : ℕ) (head body : List ℕ)
    → ident ≡ two_at octets 4 → fragment ≡ two_at octets 6 → proto ≡ one_at octets 9 → from ≡ four_at octets 12 → to ≡ four_at octets 16
    → head ≡ take (head_length octets) octets → body ≡ part octets (head_length octets) (two_at octets 2 - head_length octets)
    → read_ip octets ≡ Some (record { ident = ident; more = fragment / 2 ^ 13 % 2 == 1; place = fragment % 2 ^ 13; proto = proto; from = from; to = to; head = head; body = body })
read_by octets t ident fragment proto from to head body p q r s u v w =
    let found : Ip = record {
      ident = two_at octets 4;
      more = (two_at octets 6 / 2 ^ 13) % 2 == 1;
      place = two_at octets 6 % 2 ^ 13;
      proto = one_at octets 9;
      from = four_at octets 12;
      to = four_at octets 16;
      head = take (head_length octets) octets;
      body = part octets (head_length octets) (two_at octets 2 - head_length octets);
    } in
    ap (λ b. if b then Some found else None) (passes octets t)
    ∙ ap (λ n. Some (record found { ident = n })) (sym p)
    ∙ ap (λ n. Some (record found { ident = ident; more = n / 2 ^ 13 % 2 == 1; place = n % 2 ^ 13 })) (sym q)
    ∙ ap (λ n. Some (record found { ident = ident; more = fragment / 2 ^ 13 % 2 == 1; place = fragment % 2 ^ 13; proto = n })) (sym r)
    ∙ ap (λ n. Some (record found { ident = ident; more = fragment / 2 ^ 13 % 2 == 1; place = fragment % 2 ^ 13; proto = proto; from = n })) (sym s)
    ∙ ap (λ n. Some (record found { ident = ident; more = fragment / 2 ^ 13 % 2 == 1; place = fragment % 2 ^ 13; proto = proto; from = from; to = n })) (sym u)
    ∙ ap (λ n. Some (record found { ident = ident; more = fragment / 2 ^ 13 % 2 == 1; place = fragment % 2 ^ 13; proto = proto; from = from; to = to; head = n })) (sym v)
    ∙ ap (λ n. Some (record { ident = ident; more = fragment / 2 ^ 13 % 2 == 1; place = fragment % 2 ^ 13; proto = proto; from = from; to = to; head = head; body = n })) (sym w)
