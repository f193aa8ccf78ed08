-- What the front is, and that the host has all of it once it was told the end.
use Rattle.std.proofs.Common.{refl, ◌≡◌, ℕ, ◌≤◌, List, [], ◌∷◌, ◌++◌, length, arith, ap, sym, ◌∙◌, length-append, append-nil, true}
use Rattle.spec_flow.specs.Settings.{Settings}
use Rattle.spec_flow.specs.Event.{Story}
use Rattle.spec_flow.specs.Guest.{Up, Carries, EndsAt, Conforming, front, written, has_ended}
use Rattle.spec_flow.specs.Flow.{guest}
use Rattle.spec_flow.specs.Lawful.{AtPlaces, IsPrefixOf, IsLawful}
use Rattle.spec_flow.proofs.Streams.{carried_prefix, front_carried, length_within}
use Rattle.spec_flow.proofs.GuestLaws.{end_comes_after_all, written_is_a_prefix}

-- Each list of octets that a conforming guest's segments gave to their places begins the front.
pub front_is_longest : (past : List Up) → Conforming past → (xs : List ℕ) → AtPlaces (Carries past) xs → IsPrefixOf xs (front past)
front_is_longest past conforming xs carried = carried_prefix past xs carried conforming

empty_is : (xs : List ℕ) → length xs ≤ 0 → xs ≡ []
empty_is [] low = refl
empty_is (x ∷ xs) low = absurd (omega arith)

all_written : (past : List Up) → Conforming past → EndsAt past (length (written past)) → IsPrefixOf (written past) (front past) → written past ≡ front past
all_written past conforming end p =
    let few = length_within (front past) (length (written past)) (λ i x at. conforming.within (length (written past)) i x end (front_carried past i x at)) in
    let none : p.0 ≡ [] = empty_is p.0 (omega (arith, few, ap length p.1, length-append (written past) p.0)) in
    sym (append-nil (written past)) ∙ ap (λ (rest : List ℕ). written past ++ rest) (sym none) ∙ p.1

-- Once the host was told the end, it has all of the front.
pub host_has_all : (s : Settings) (story : Story) → IsLawful s story → has_ended (guest story) ≡ true → Conforming (guest story) → written (guest story) ≡ front (guest story)
host_has_all s story l is conforming = all_written (guest story) conforming (end_comes_after_all s story l is conforming) (written_is_a_prefix s story l conforming)
