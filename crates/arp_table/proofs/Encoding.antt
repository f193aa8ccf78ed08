-- The grammar of packets and the reading function say the same.
use Rattle.std.proofs.Common.{◌≡◌, ℕ, ◌^◌, ◌<◌, ◌≤◌, ◌==◌, nat_le, ◌&&◌, Bool, true, false, List, [], ◌∷◌, ◌++◌, length, take, drop, if◌then◌else◌, Some, None, refl, sym, ◌∙◌, ap, subst}
use Rattle.std.proofs.Common.{arith, append_assoc}
use Rattle.std.proofs.lemmas.Bool.Decides.{nat_tests}
use Rattle.std.proofs.lemmas.Nat.{from_be_bytes-to_be_bytes_4}
use Rattle.std.proofs.lemmas.Option.{cond_some}
use Rattle.net_octets.specs.Kinds.{ipv4_kind}
use Rattle.net_octets.specs.Octets.{IsOctets, one_at, two_at, four_at, two, four, part}
use Rattle.net_octets.proofs.Six.{Six, six}
use Rattle.net_octets.proofs.Parts.{parted, part_two, length-part, two-two_at, four-four_at, four_at-fits}
use Rattle.arp_table.specs.Arp.{Arp, IsArp, is_arp, read_arp, arp_octets}

arp_six : (s t rest : List ℕ) (is_reply : Bool) (sender target : ℕ) → Six s → Six t → sender < 2 ^ 32 → target < 2 ^ 32
    → read_arp (arp_octets (record { is_reply = is_reply; sender_mac = s; sender = sender; target_mac = t; target = target }) ++ rest)
    ≡ Some (record { is_reply = is_reply; sender_mac = s; sender = sender; target_mac = t; target = target })
arp_six s t rest is_reply sender target ss ts sf tf =
    let P : List ℕ → List ℕ → Type 0 = λ x y. read_arp (arp_octets (record { is_reply = is_reply; sender_mac = x; sender = sender; target_mac = y; target = target })
    ++ rest) ≡ Some (record { is_reply = is_reply; sender_mac = x; sender = sender; target_mac = y; target = target }) in
    subst (λ x. P x t) (sym ss.is) (subst (λ y. P (ss.a ∷ ss.b ∷ ss.c ∷ ss.d ∷ ss.e ∷ ss.f ∷ []) y) (sym ts.is) (core is_reply ss.a ss.b ss.c ss.d ss.e ss.f ts.a ts.b ts.c ts.d ts.e ts.f))
  where
    core : (is_reply : Bool) (a b c d e f g h i j k l : ℕ)
        → read_arp (arp_octets (record { is_reply = is_reply; sender_mac = a ∷ b ∷ c ∷ d ∷ e ∷ f ∷ []; sender = sender; target_mac = g ∷ h ∷ i ∷ j ∷ k ∷ l ∷ []; target = target }) ++ rest)
        ≡ Some (record { is_reply = is_reply; sender_mac = a ∷ b ∷ c ∷ d ∷ e ∷ f ∷ []; sender = sender; target_mac = g ∷ h ∷ i ∷ j ∷ k ∷ l ∷ []; target = target })
    core true a b c d e f g h i j k l =
        let octets = arp_octets (record { is_reply = true; sender_mac = a ∷ b ∷ c ∷ d ∷ e ∷ f ∷ []; sender = sender; target_mac = g ∷ h ∷ i ∷ j ∷ k ∷ l ∷ []; target = target }) ++ rest in
        let long : nat_le 28 (length octets) ≡ true = grind (arith, nat_tests) in
        ap (λ t. if t && true && true && true && true && true then Some (record {
          is_reply = true;
          sender_mac = a ∷ b ∷ c ∷ d ∷ e ∷ f ∷ [];
          sender = four_at octets 14;
          target_mac = g ∷ h ∷ i ∷ j ∷ k ∷ l ∷ [];
          target = four_at octets 24;
        }) else None) long
        ∙ ap (λ n. Some (record { is_reply = true; sender_mac = a ∷ b ∷ c ∷ d ∷ e ∷ f ∷ []; sender = n; target_mac = g ∷ h ∷ i ∷ j ∷ k ∷ l ∷ []; target = four_at octets 24 }))
        (from_be_bytes-to_be_bytes_4 sender sf)
        ∙ ap (λ n. Some (record { is_reply = true; sender_mac = a ∷ b ∷ c ∷ d ∷ e ∷ f ∷ []; sender = sender; target_mac = g ∷ h ∷ i ∷ j ∷ k ∷ l ∷ []; target = n }))
        (from_be_bytes-to_be_bytes_4 target tf)
    core false a b c d e f g h i j k l =
        let octets = arp_octets (record { is_reply = false; sender_mac = a ∷ b ∷ c ∷ d ∷ e ∷ f ∷ []; sender = sender; target_mac = g ∷ h ∷ i ∷ j ∷ k ∷ l ∷ []; target = target }) ++ rest in
        let long : nat_le 28 (length octets) ≡ true = grind (arith, nat_tests) in
        ap (λ t. if t && true && true && true && true && true then Some (record {
          is_reply = false;
          sender_mac = a ∷ b ∷ c ∷ d ∷ e ∷ f ∷ [];
          sender = four_at octets 14;
          target_mac = g ∷ h ∷ i ∷ j ∷ k ∷ l ∷ [];
          target = four_at octets 24;
        }) else None) long
        ∙ ap (λ n. Some (record { is_reply = false; sender_mac = a ∷ b ∷ c ∷ d ∷ e ∷ f ∷ []; sender = n; target_mac = g ∷ h ∷ i ∷ j ∷ k ∷ l ∷ []; target = four_at octets 24 }))
        (from_be_bytes-to_be_bytes_4 sender sf)
        ∙ ap (λ n. Some (record { is_reply = false; sender_mac = a ∷ b ∷ c ∷ d ∷ e ∷ f ∷ []; sender = sender; target_mac = g ∷ h ∷ i ∷ j ∷ k ∷ l ∷ []; target = n }))
        (from_be_bytes-to_be_bytes_4 target tf)

-- what is encoded so is read
pub reads : (octets : List ℕ) (arp : Arp) → IsArp octets arp → read_arp octets ≡ Some arp
reads octets arp g = ap read_arp g.is ∙ arp_six arp.sender_mac arp.target_mac g.rest arp.is_reply arp.sender arp.target (six arp.sender_mac g.sender_mac)
    (six arp.target_mac g.target_mac) g.sender g.target

regroup : (a b c d e f g h r : List ℕ) → a ++ (b ++ (c ++ (d ++ (e ++ (f ++ (g ++ (h ++ r))))))) ≡ a ++ b ++ (c ++ d) ++ e ++ f ++ g ++ h ++ r
regroup a b c d e f g h r = simp append_assoc

same_parts : (a b c d e f g h a' b' c' d' f' h' r : List ℕ) → a ≡ a' → b ≡ b' → c ≡ c' → d ≡ d' → f ≡ f' → h ≡ h'
    → a ++ b ++ (c ++ d) ++ e ++ f ++ g ++ h ++ r ≡ a' ++ b' ++ (c' ++ d') ++ e ++ f' ++ g ++ h' ++ r
same_parts a b c d e f g h a' b' c' d' f' h' r p q s t u v = cc

-- the tests of a packet, one by one
record Tests (octets : List ℕ) : Type 0 where
  pub long : 28 ≤ length octets
  pub hardware : two_at octets 0 ≡ 1
  pub protocol : two_at octets 2 ≡ ipv4_kind
  pub six : one_at octets 4 ≡ 6
  pub four : one_at octets 5 ≡ 4
  pub operation : two_at octets 6 ≡ (if two_at octets 6 == 2 then 2 else 1)

tests : (octets : List ℕ) → is_arp octets ≡ true → Tests octets
tests octets is = record {
  long = grind (arith, nat_tests);
  hardware = grind (arith, nat_tests);
  protocol = grind (arith, nat_tests);
  six = grind (arith, nat_tests);
  four = grind (arith, nat_tests);
  operation = grind (arith, nat_tests);
}

-- the parts that are read, one after another, are the octets
whole : (octets : List ℕ) → IsOctets octets → Tests octets
    → octets ≡ arp_octets (record {
      is_reply = two_at octets 6 == 2;
      sender_mac = part octets 8 6;
      sender = four_at octets 14;
      target_mac = part octets 18 6;
      target = four_at octets 24;
    }) ++ drop 28 octets
whole octets fits t =
    let long : 28 ≤ length octets = t.long in
    let rest = drop 28 octets in
    let hardware : part octets 0 2 ≡ two 1 = sym (two-two_at octets 0 fits (omega arith)) ∙ ap two t.hardware in
    let protocol : part octets 2 2 ≡ two ipv4_kind = sym (two-two_at octets 2 fits (omega arith)) ∙ ap two t.protocol in
    let lengths : part octets 4 2 ≡ 6 ∷ 4 ∷ [] = part_two octets 4 (omega arith) ∙ ap (λ x. x ∷ one_at octets 5 ∷ []) t.six ∙ ap (λ x. 6 ∷ x ∷ []) t.four in
    let operation : part octets 6 2 ≡ two (if two_at octets 6 == 2 then 2 else 1) = sym (two-two_at octets 6 fits (omega arith)) ∙ ap two t.operation in
    let sender : part octets 14 4 ≡ four (four_at octets 14) = sym (four-four_at octets 14 fits (omega arith)) in
    let target : part octets 24 4 ≡ four (four_at octets 24) = sym (four-four_at octets 24 fits (omega arith)) in
    let in_order : octets ≡ part octets 0 2 ++ (part octets 2 2 ++
    (part octets 4 2 ++ (part octets 6 2 ++ (part octets 8 6 ++ (part octets 14 4 ++ (part octets 18 6 ++ (part octets 24 4 ++ rest))))))) =
    parted octets 0 2 2 refl ∙ ap (λ (xs : List ℕ). part octets 0 2 ++ xs)
    (parted octets 2 2 4 refl ∙ ap (λ (xs : List ℕ). part octets 2 2 ++ xs)
    (parted octets 4 2 6 refl ∙ ap (λ (xs : List ℕ). part octets 4 2 ++ xs)
    (parted octets 6 2 8 refl ∙ ap (λ (xs : List ℕ). part octets 6 2 ++ xs)
    (parted octets 8 6 14 refl ∙ ap (λ (xs : List ℕ). part octets 8 6 ++ xs)
    (parted octets 14 4 18 refl ∙ ap (λ (xs : List ℕ). part octets 14 4 ++ xs)
    (parted octets 18 6 24 refl ∙ ap (λ (xs : List ℕ). part octets 18 6 ++ xs) (parted octets 24 4 28 refl))))))) in
    in_order ∙ regroup (part octets 0 2) (part octets 2 2) (part octets 4 2) (part octets 6 2) (part octets 8 6) (part octets 14 4) (part octets 18 6) (part octets 24 4) rest
    ∙ same_parts (part octets 0 2) (part octets 2 2) (part octets 4 2) (part octets 6 2) (part octets 8 6) (part octets 14 4) (part octets 18 6) (part octets 24 4) (two 1)
    (two ipv4_kind) (6 ∷ 4 ∷ []) (two (if two_at octets 6 == 2 then 2 else 1)) (four (four_at octets 14)) (four (four_at octets 24)) rest hardware protocol lengths operation sender target

-- what is read is encoded so
pub encoding_of : (octets : List ℕ) (arp : Arp) → IsOctets octets → read_arp octets ≡ Some arp → IsArp octets arp
encoding_of octets arp fits is =
    let found = cond_some (is_arp octets) (record {
      is_reply = two_at octets 6 == 2;
      sender_mac = part octets 8 6;
      sender = four_at octets 14;
      target_mac = part octets 18 6;
      target = four_at octets 24;
    }) arp is in
    let t = tests octets found.0 in
    let long : 28 ≤ length octets = t.long in
    subst (λ (a : Arp). IsArp octets a) found.1 (record {
      sender_mac = length-part octets 8 6 (omega arith);
      sender = four_at-fits octets 14 fits;
      target_mac = length-part octets 18 6 (omega arith);
      target = four_at-fits octets 24 fits;
      rest = drop 28 octets;
      is = whole octets fits t;
    })

front_six : (s t rest : List ℕ) (is_reply : Bool) (sender target : ℕ) → Six s → Six t
    → take 28 (arp_octets (record { is_reply = is_reply; sender_mac = s; sender = sender; target_mac = t; target = target }) ++ rest)
    ≡ arp_octets (record { is_reply = is_reply; sender_mac = s; sender = sender; target_mac = t; target = target }) ++ []
front_six s t rest is_reply sender target ss ts =
    let P : List ℕ → List ℕ → Type 0 = λ x y. take 28 (arp_octets (record { is_reply = is_reply; sender_mac = x; sender = sender; target_mac = y; target = target })
    ++ rest) ≡ arp_octets (record { is_reply = is_reply; sender_mac = x; sender = sender; target_mac = y; target = target }) ++ [] in
    subst (λ x. P x t) (sym ss.is) (subst (λ y. P (ss.a ∷ ss.b ∷ ss.c ∷ ss.d ∷ ss.e ∷ ss.f ∷ []) y) (sym ts.is) refl)

-- octets whose front is written so are in the grammar
pub written_is : (arp : Arp) (now rest : List ℕ) → length arp.sender_mac ≡ 6 → length arp.target_mac ≡ 6 → arp.sender < 2 ^ 32 → arp.target < 2 ^ 32 → now ≡ arp_octets arp
    ++ rest → IsArp (take 28 now) arp
written_is arp now rest s t sf tf is = record {
  sender_mac = s;
  sender = sf;
  target_mac = t;
  target = tf;
  rest = [];
  is = ap (take 28) is ∙ front_six arp.sender_mac arp.target_mac rest arp.is_reply arp.sender arp.target (six arp.sender_mac s) (six arp.target_mac t);
}
