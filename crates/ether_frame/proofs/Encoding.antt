-- The grammar of frames and the reading function say the same.
use Rattle.std.proofs.Common.{◌≡◌, ℕ, ◌+◌, ◌^◌, ◌<◌, ◌≤◌, nat_le, true, List, [], ◌∷◌, ◌++◌, length, drop, if◌then◌else◌, Some, None, refl, sym, ◌∙◌, ap, subst, arith, append_assoc}
use Rattle.std.proofs.Common.{length-append, take}
use Rattle.std.proofs.lemmas.List.{take_at}
use Rattle.std.proofs.lemmas.Bool.Decides.{nat_tests}
use Rattle.std.proofs.lemmas.Nat.{from_be_bytes-to_be_bytes_2}
use Rattle.std.proofs.lemmas.Option.{cond_some}
use Rattle.net_octets.specs.Octets.{IsOctets, two_at, two, part}
use Rattle.net_octets.proofs.Six.{Six, six}
use Rattle.net_octets.proofs.Parts.{parted, length-part, two-two_at, two_at-fits}
use Rattle.ether_frame.specs.Ether.{Ether, IsEther, read_ether, ether_octets}

ether_six : (to from body : List ℕ) (kind : ℕ) → Six to → Six from → kind < 2 ^ 16 → read_ether (ether_octets to from kind body) ≡ Some (record { to = to; from = from; kind = kind; body = body })
ether_six to from body kind t f fits =
    let P : List ℕ → List ℕ → Type 0 = λ x y. read_ether (ether_octets x y kind body) ≡ Some (record { to = x; from = y; kind = kind; body = body }) in
    subst (λ x. P x from) (sym t.is) (subst (λ y. P (t.a ∷ t.b ∷ t.c ∷ t.d ∷ t.e ∷ t.f ∷ []) y) (sym f.is) (core t.a t.b t.c t.d t.e t.f f.a f.b f.c f.d f.e f.f))
  where
    core : (a b c d e f g h i j k l : ℕ) → read_ether (ether_octets (a ∷ b ∷ c ∷ d ∷ e ∷ f ∷ []) (g ∷ h ∷ i ∷ j ∷ k ∷ l ∷ []) kind body) ≡ Some
        (record { to = a ∷ b ∷ c ∷ d ∷ e ∷ f ∷ []; from = g ∷ h ∷ i ∷ j ∷ k ∷ l ∷ []; kind = kind; body = body })
    core a b c d e f g h i j k l =
        let octets = ether_octets (a ∷ b ∷ c ∷ d ∷ e ∷ f ∷ []) (g ∷ h ∷ i ∷ j ∷ k ∷ l ∷ []) kind body in
        let long : nat_le 14 (length octets) ≡ true = grind (arith, nat_tests) in
        ap (λ t. if t then Some (record { to = a ∷ b ∷ c ∷ d ∷ e ∷ f ∷ []; from = g ∷ h ∷ i ∷ j ∷ k ∷ l ∷ []; kind = two_at octets 12; body = body }) else None) long
        ∙ ap (λ n. Some (record { to = a ∷ b ∷ c ∷ d ∷ e ∷ f ∷ []; from = g ∷ h ∷ i ∷ j ∷ k ∷ l ∷ []; kind = n; body = body })) (from_be_bytes-to_be_bytes_2 kind fits)

-- what is encoded so is read
pub reads : (octets : List ℕ) (ether : Ether) → IsEther octets ether → read_ether octets ≡ Some ether
reads octets ether g = ap read_ether g.is ∙ ether_six ether.to ether.from ether.body ether.kind (six ether.to g.to) (six ether.from g.from) g.kind

-- the parts that are read, one after another, are the octets
whole : (octets : List ℕ) → IsOctets octets → 14 ≤ length octets → octets ≡ ether_octets (part octets 0 6) (part octets 6 6) (two_at octets 12) (drop 14 octets)
whole octets fits le =
    let to = part octets 0 6 in
    let from = part octets 6 6 in
    parted octets 0 6 6 refl
    ∙ ap (λ (xs : List ℕ). to ++ xs) (parted octets 6 6 12 refl ∙ ap (λ (xs : List ℕ). from ++ xs) (parted octets 12 2 14 refl ∙ ap (λ (xs : List ℕ). xs ++ drop 14 octets)
    (sym (two-two_at octets 12 fits le))))
    ∙ sym (append_assoc to from (two (two_at octets 12) ++ drop 14 octets))
    ∙ sym (append_assoc (to ++ from) (two (two_at octets 12)) (drop 14 octets))

-- what is read is encoded so
pub encoding_of : (octets : List ℕ) (ether : Ether) → IsOctets octets → read_ether octets ≡ Some ether → IsEther octets ether
encoding_of octets ether fits is =
    let found = cond_some (nat_le 14 (length octets)) (record { to = part octets 0 6; from = part octets 6 6; kind = two_at octets 12; body = drop 14 octets }) ether is in
    let le : 14 ≤ length octets = grind (arith, nat_tests, found.0) in
    subst (λ (e : Ether). IsEther octets e) found.1 (record {
      to = length-part octets 0 6 (omega arith);
      from = length-part octets 6 6 (omega arith);
      kind = two_at-fits octets 12 fits;
      is = whole octets fits le;
    })

-- octets whose front is written so are in the grammar
pub written_is : (to from : List ℕ) (kind : ℕ) (body now old : List ℕ) → length to ≡ 6 → length from ≡ 6 → kind < 2 ^ 16 → now ≡ ether_octets to from kind body ++ drop (14 + length body) old
    → IsEther (take (14 + length body) now) (record { to = to; from = from; kind = kind; body = body })
written_is to from kind body now old six six' fits is =
    let long : length (ether_octets to from kind body) ≡ 14 + length body = omega (arith, length-append (to ++ from ++ two kind) body, length-append (to ++ from) (two kind), length-append to from) in
    record { to = six; from = six'; kind = fits; is = ap (take (14 + length body)) is ∙ take_at (ether_octets to from kind body) (drop (14 + length body) old) (14 + length body) long }
