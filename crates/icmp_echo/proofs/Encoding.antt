-- The grammar of messages and the reading function say the same.
use Rattle.std.proofs.Common.{◌≡◌, ℕ, ◌+◌, ◌≤◌, ◌==◌, ◌&&◌, not, nat_le, Bool, true, false, List, [], ◌∷◌, ◌++◌, length, drop, if◌then◌else◌, Some, None, inl, inr, refl, sym, ◌∙◌, ap}
use Rattle.std.proofs.Common.{subst, arith, append_assoc, length-append, length-drop}
use Rattle.std.proofs.lemmas.Bool.{cases_Bool}
use Rattle.std.proofs.lemmas.Bool.Decides.{nat_tests}
use Rattle.std.proofs.lemmas.Nat.{from_be_bytes-to_be_bytes_2}
use Rattle.std.proofs.lemmas.List.{drop_at}
use Rattle.std.proofs.lemmas.Option.{cond_some}
use Rattle.net_octets.specs.Octets.{IsOctets, one_at, two_at, two, part, word_sum, sum_ok}
use Rattle.net_octets.proofs.Parts.{parted, part_two, length-part, two-two_at, two_at-fits}
use Rattle.icmp_echo.specs.Icmp.{Icmp, echo, unreachable, other, IsIcmp, IsEcho, IsUnreachable, IsOther, icmp_at, read_icmp, is_echo, echo_kind, echo_with}

-- octets of a length and a sum that hold are read
read_at : (octets : List ℕ) → 8 ≤ length octets → sum_ok (word_sum octets) ≡ true → read_icmp octets ≡ Some (icmp_at octets)
read_at octets long holds =
    let enough : nat_le 8 (length octets) ≡ true = grind (arith, nat_tests) in
    ap (λ b. if b && sum_ok (word_sum octets) then Some (icmp_at octets) else None) enough
    ∙ ap (λ b. if true && b then Some (icmp_at octets) else None) holds

-- what is encoded so is read
pub reads : (octets : List ℕ) (icmp : Icmp) → IsIcmp octets icmp → read_icmp octets ≡ Some icmp
reads octets (echo true ident number body) g =
    let long : 8 ≤ length octets = omega (arith, ap length g.is) in
    read_at octets long g.holds ∙ ap (λ (o : List ℕ). Some (icmp_at o)) g.is
    ∙ ap (λ n. Some (echo true n (two_at (echo_with g.sum true ident number body) 6) body)) (from_be_bytes-to_be_bytes_2 ident g.ident_fits)
    ∙ ap (λ n. Some (echo true ident n body)) (from_be_bytes-to_be_bytes_2 number g.number_fits)
reads octets (echo false ident number body) g =
    let long : 8 ≤ length octets = omega (arith, ap length g.is) in
    read_at octets long g.holds ∙ ap (λ (o : List ℕ). Some (icmp_at o)) g.is
    ∙ ap (λ n. Some (echo false n (two_at (echo_with g.sum false ident number body) 6) body)) (from_be_bytes-to_be_bytes_2 ident g.ident_fits)
    ∙ ap (λ n. Some (echo false ident n body)) (from_be_bytes-to_be_bytes_2 number g.number_fits)
reads octets (unreachable code quoted) g =
    let front : List ℕ = 3 ∷ code ∷ two g.sum ++ g.unused in
    let eight : length front ≡ 8 = length-append (3 ∷ code ∷ two g.sum) g.unused ∙ ap (λ n. 4 + n) g.unused_size in
    let long : 8 ≤ length octets = omega (arith, ap length g.is, length-append front quoted, eight) in
    read_at octets long g.holds ∙ ap (λ (o : List ℕ). Some (icmp_at o)) g.is
    ∙ ap (λ (q : List ℕ). Some (unreachable code q)) (drop_at front quoted 8 eight)
reads octets (other kind code) g =
    let long : 8 ≤ length octets = omega (arith, ap length g.is, g.rest_size) in
    let not_three : (kind == 3) ≡ false = first (kind == 3) (is_echo kind code) g.kind_is in
    let not_echo : is_echo kind code ≡ false = second (kind == 3) (is_echo kind code) g.kind_is in
    let all : List ℕ = kind ∷ code ∷ two g.sum ++ g.rest in
    read_at octets long g.holds ∙ ap (λ (o : List ℕ). Some (icmp_at o)) g.is
    ∙ ap (λ b. Some (if b then unreachable code (drop 8 all) else (if is_echo kind code then echo (kind == 0) (two_at all 4) (two_at all 6) (drop 8 all) else other kind code))) not_three
    ∙ ap (λ b. Some (if b then echo (kind == 0) (two_at all 4) (two_at all 6) (drop 8 all) else other kind code)) not_echo
  where
    first : (a b : Bool) → not a && not b ≡ true → a ≡ false
    first true b is = absurd cc
    first false b is = refl

    second : (a b : Bool) → not a && not b ≡ true → b ≡ false
    second true b is = absurd cc
    second false true is = absurd cc
    second false false is = refl

-- an echo by its kind
kind_of : (kind code : ℕ) → is_echo kind code ≡ true → kind ≡ echo_kind (kind == 0)
kind_of kind code is = grind (arith, nat_tests)

code_of : (kind code : ℕ) → is_echo kind code ≡ true → code ≡ 0
code_of kind code is = grind (arith, nat_tests)

regroup : (a b c d r : List ℕ) → a ++ (b ++ (c ++ (d ++ r))) ≡ (a ++ b) ++ c ++ d ++ r
regroup a b c d r = simp append_assoc

same_parts : (a b c d a' b' c' d' r : List ℕ) → a ≡ a' → b ≡ b' → c ≡ c' → d ≡ d' → (a ++ b) ++ c ++ d ++ r ≡ (a' ++ b') ++ c' ++ d' ++ r
same_parts a b c d a' b' c' d' r p q s t = cc

-- the parts of a message, one after another
whole : (octets : List ℕ) → 8 ≤ length octets → octets ≡ part octets 0 2 ++ (part octets 2 2 ++ (part octets 4 2 ++ (part octets 6 2 ++ drop 8 octets)))
whole octets long =
    parted octets 0 2 2 refl ∙ ap (λ (xs : List ℕ). part octets 0 2 ++ xs)
    (parted octets 2 2 4 refl ∙ ap (λ (xs : List ℕ). part octets 2 2 ++ xs)
    (parted octets 4 2 6 refl ∙ ap (λ (xs : List ℕ). part octets 4 2 ++ xs) (parted octets 6 2 8 refl)))

at_unreachable : (octets : List ℕ) → IsOctets octets → 8 ≤ length octets → sum_ok (word_sum octets) ≡ true → (one_at octets 0 == 3) ≡ true → IsUnreachable octets (one_at octets 1) (drop 8 octets)
at_unreachable octets fits long holds three =
    let kind : one_at octets 0 ≡ 3 = grind (arith, nat_tests, three) in
    let head : part octets 0 2 ≡ 3 ∷ one_at octets 1 ∷ [] = part_two octets 0 (omega arith) ∙ ap (λ n. n ∷ one_at octets 1 ∷ []) kind in
    let sum : part octets 2 2 ≡ two (two_at octets 2) = sym (two-two_at octets 2 fits (omega arith)) in
    record {
      sum = two_at octets 2;
      sum_fits = two_at-fits octets 2 fits;
      unused = part octets 4 4;
      unused_size = length-part octets 4 4 (omega arith);
      is =
          parted octets 0 2 2 refl ∙ ap (λ (xs : List ℕ). part octets 0 2 ++ xs)
          (parted octets 2 2 4 refl ∙ ap (λ (xs : List ℕ). part octets 2 2 ++ xs) (parted octets 4 4 8 refl))
          ∙ ap (λ (xs : List ℕ). xs ++ (part octets 2 2 ++ (part octets 4 4 ++ drop 8 octets))) head
          ∙ ap (λ (xs : List ℕ). 3 ∷ one_at octets 1 ∷ (xs ++ (part octets 4 4 ++ drop 8 octets))) sum
          ∙ sym (append_assoc (3 ∷ one_at octets 1 ∷ two (two_at octets 2)) (part octets 4 4) (drop 8 octets));
      holds = holds;
    }

at_echo : (octets : List ℕ) → IsOctets octets → 8 ≤ length octets → sum_ok (word_sum octets) ≡ true → is_echo (one_at octets 0) (one_at octets 1) ≡ true
    → IsEcho octets (one_at octets 0 == 0) (two_at octets 4) (two_at octets 6) (drop 8 octets)
at_echo octets fits long holds is =
    let kind = kind_of (one_at octets 0) (one_at octets 1) is in
    let code = code_of (one_at octets 0) (one_at octets 1) is in
    let head : part octets 0 2 ≡ echo_kind (one_at octets 0 == 0) ∷ 0 ∷ [] = part_two octets 0 (omega arith) ∙ ap (λ n. one_at octets 0 ∷ n ∷ []) code ∙ ap (λ n. n ∷ 0 ∷ []) kind in
    record {
      ident_fits = two_at-fits octets 4 fits;
      number_fits = two_at-fits octets 6 fits;
      sum = two_at octets 2;
      sum_fits = two_at-fits octets 2 fits;
      is = whole octets long ∙ regroup (part octets 0 2) (part octets 2 2) (part octets 4 2) (part octets 6 2) (drop 8 octets)
          ∙ same_parts (part octets 0 2) (part octets 2 2) (part octets 4 2) (part octets 6 2) (echo_kind (one_at octets 0 == 0) ∷ 0 ∷ []) (two (two_at octets 2))
          (two (two_at octets 4)) (two (two_at octets 6)) (drop 8 octets)
          head (sym (two-two_at octets 2 fits (omega arith))) (sym (two-two_at octets 4 fits (omega arith))) (sym (two-two_at octets 6 fits (omega arith)));
      holds = holds;
    }

at_other : (octets : List ℕ) → IsOctets octets → 8 ≤ length octets → sum_ok (word_sum octets) ≡ true → (one_at octets 0 == 3) ≡ false → is_echo (one_at octets 0) (one_at octets 1) ≡ false
    → IsOther octets (one_at octets 0) (one_at octets 1)
at_other octets fits long holds not_three not_echo = record {
  kind_is = ap (λ a. not a && not (is_echo (one_at octets 0) (one_at octets 1))) not_three ∙ ap (λ b. not b) not_echo;
  sum = two_at octets 2;
  sum_fits = two_at-fits octets 2 fits;
  rest = drop 4 octets;
  rest_size = omega (arith, length-drop 4 octets);
  is =
      parted octets 0 2 2 refl ∙ ap (λ (xs : List ℕ). part octets 0 2 ++ xs) (parted octets 2 2 4 refl)
      ∙ ap (λ (xs : List ℕ). xs ++ (part octets 2 2 ++ drop 4 octets)) (part_two octets 0 (omega arith))
      ∙ ap (λ (xs : List ℕ). one_at octets 0 ∷ one_at octets 1 ∷ (xs ++ drop 4 octets)) (sym (two-two_at octets 2 fits (omega arith)));
  holds = holds;
}

-- octets whose length and sum hold are what they say
pub at : (octets : List ℕ) → IsOctets octets → 8 ≤ length octets → sum_ok (word_sum octets) ≡ true → IsIcmp octets (icmp_at octets)
at octets fits long holds =
    let asked = echo (one_at octets 0 == 0) (two_at octets 4) (two_at octets 6) (drop 8 octets) in
    let rest = if is_echo (one_at octets 0) (one_at octets 1) then asked else other (one_at octets 0) (one_at octets 1) in
    elim (cases_Bool (one_at octets 0 == 3)) [
      | inl three ↦ subst (λ b. IsIcmp octets (if b then unreachable (one_at octets 1) (drop 8 octets) else rest)) (sym three) (at_unreachable octets fits long holds three)
      | inr not_three ↦ subst (λ b. IsIcmp octets (if b then unreachable (one_at octets 1) (drop 8 octets) else rest)) (sym not_three)
          (elim (cases_Bool (is_echo (one_at octets 0) (one_at octets 1))) [
            | inl found ↦ subst (λ b. IsIcmp octets (if b then asked else other (one_at octets 0) (one_at octets 1))) (sym found) (at_echo octets fits long holds found)
            | inr lost ↦ subst (λ b. IsIcmp octets (if b then asked else other (one_at octets 0) (one_at octets 1))) (sym lost) (at_other octets fits long holds not_three lost)
          ])
    ]

both : (n : ℕ) (s : Bool) → nat_le 8 n && s ≡ true → (8 ≤ n) × (s ≡ true)
both n s is = (grind (arith, nat_tests), grind (arith, nat_tests))

-- what is read is encoded so
pub encoding_of : (octets : List ℕ) (icmp : Icmp) → IsOctets octets → read_icmp octets ≡ Some icmp → IsIcmp octets icmp
encoding_of octets icmp fits is =
    let found = cond_some (nat_le 8 (length octets) && sum_ok (word_sum octets)) (icmp_at octets) icmp is in
    let t = both (length octets) (sum_ok (word_sum octets)) found.0 in
    subst (λ (i : Icmp). IsIcmp octets i) found.1 (at octets fits t.0 t.1)
