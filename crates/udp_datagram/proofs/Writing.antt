-- What is written is in the grammar.
use Rattle.std.proofs.Common.{◌≡◌, ℕ, zero, suc, ◌+◌, ◌-◌, ◌≤◌, ◌<◌, ◌^◌, ◌==◌, ◌||◌, Bool, true, false, if◌then◌else◌, List, [], ◌++◌, length, take, inl, inr, refl, sym, ◌∙◌, ap, subst}
use Rattle.std.proofs.Common.{arith, append-nil, mod-lt, lit<}
use Rattle.std.proofs.lemmas.Bool.{cases_Bool}
use Rattle.std.proofs.lemmas.Bool.Decides.{nat_tests}
use Rattle.std.proofs.lemmas.List.{take_at}
use Rattle.net_octets.specs.Octets.{with_carries, checksum, sum_ok}
use Rattle.net_octets.proofs.Folds.{with_carries-add, with_carries-pos}
use Rattle.net_octets.proofs.Sums.{sum_holds, checksum_fits}
use Rattle.udp_datagram.specs.Udp.{Udp, IsUdp, IsPlain, udp_with, udp_octets, summed, written_sum}
use Rattle.udp_datagram.proofs.Encoding.{length-udp}

-- a checksum of 0 is that of a sum which holds by itself
whole_sum : (sum : ℕ) → checksum sum ≡ 0 → (1 ≤ sum) × (with_carries sum ≡ 65535)
whole_sum zero is = absurd (omega (arith, is))
whole_sum (suc n) is =
    let some : 1 ≤ suc n = omega arith in
    (some, omega (arith, is, with_carries-pos (suc n) some, mod-lt (suc n - 1) {m = 65535} (lit< tt)))

-- and it still holds where 65535 is added
pub written_holds : (sum : ℕ) → sum_ok (sum + written_sum sum) ≡ true
written_holds sum = elim (cases_Bool (checksum sum == 0)) [
  | inl none ↦ (let zero_is : checksum sum ≡ 0 = grind (arith, nat_tests, none) in
      let whole = whole_sum sum zero_is in
      ap (λ b. sum_ok (sum + (if b then 65535 else checksum sum))) none
      ∙ ap (λ n. n == 65535) (with_carries-add sum 1 (λ zero_is. let some = whole.0 in absurd (omega (arith, zero_is, some))) ∙ whole.1))
  | inr some ↦ ap (λ b. sum_ok (sum + (if b then 65535 else checksum sum))) some ∙ sum_holds sum
]

pub written_fits : (sum : ℕ) → written_sum sum < 2 ^ 16
written_fits sum = either (checksum sum == 0) (checksum sum) (checksum_fits sum)
  where
    either : (b : Bool) (n : ℕ) → n < 2 ^ 16 → (if b then 65535 else n) < 2 ^ 16
    either true n fits = omega arith
    either false n fits = fits

-- the sum stands in the datagram as itself
sum_in : (from to sum : ℕ) (udp : Udp) → sum < 2 ^ 16 → summed from to (udp_with sum udp) ≡ summed from to (udp_with 0 udp) + sum
sum_in from to sum udp fits = omega arith

-- what is written is a datagram of these fields
written_is : (from to : ℕ) (udp : Udp) → udp.from_port < 2 ^ 16 → udp.to_port < 2 ^ 16 → 8 + length udp.body < 2 ^ 16
    → (g : IsUdp from to (udp_octets from to udp) udp) × IsPlain from to (udp_octets from to udp) udp g
written_is from to udp from_port to_port size =
    let start = summed from to (udp_with 0 udp) in
    let sum = written_sum start in
    let holds : sum_ok (summed from to (udp_with sum udp)) ≡ true = ap sum_ok (sum_in from to sum udp (written_fits start)) ∙ written_holds start in (
      record {
        from_port = from_port;
        to_port = to_port;
        size = size;
        sum = sum;
        sum_fits = written_fits start;
        holds = or_right (sum == 0) (sum_ok (summed from to (udp_with sum udp))) holds;
        rest = [];
        is = sym (append-nil (udp_octets from to udp));
      },
      record { rest = refl; sum = refl },
    )
  where
    or_right : (a b : Bool) → b ≡ true → (a || b) ≡ true
    or_right true b is = refl
    or_right false b is = is

-- octets whose front is written so are a datagram
pub front_is : (from to : ℕ) (udp : Udp) (n : ℕ) (now rest : List ℕ) → udp.from_port < 2 ^ 16 → udp.to_port < 2 ^ 16 → 8 + length udp.body < 2 ^ 16 → n ≡ 8 + length udp.body →
    now ≡ udp_octets from to udp ++ rest
    → (g : IsUdp from to (take n now) udp) × IsPlain from to (take n now) udp g
front_is from to udp n now rest from_port to_port size long is =
    let front : take n now ≡ udp_octets from to udp = ap (take n) is ∙ take_at (udp_octets from to udp) rest n (length-udp (written_sum (summed from to (udp_with 0 udp))) udp ∙ sym long) in
    subst (λ (o : List ℕ). (g : IsUdp from to o udp) × IsPlain from to o udp g) (sym front) (written_is from to udp from_port to_port size)

-- a head before its payload, with the sum that holds, is what is written
pub encoded : (from to : ℕ) (udp : Udp) (sum : ℕ) (head now rest : List ℕ) → head ++ udp.body ≡ udp_with sum udp → sum ≡ written_sum (summed from to (udp_with 0 udp)) → now ≡ head ++ udp.body ++ rest
    → now ≡ udp_octets from to udp ++ rest
encoded from to udp sum head now rest head_is sum_is is =
    is ∙ ap (λ (o : List ℕ). o ++ rest) head_is ∙ ap (λ s. udp_with s udp ++ rest) sum_is
