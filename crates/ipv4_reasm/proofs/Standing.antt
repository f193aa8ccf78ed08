-- Areas stand for sets, step by step.
use Rattle.std.proofs.Common.{◌≡◌, ◌+◌, ◌-◌, ◌<◌, All, arith, List, ℕ, Bool, not, true, false, cond, zero, suc, [], ◌∷◌, ◌++◌, length, drop, filter, set, ltb, leb, Some, refl, ap, ◌∙◌, subst}
use Rattle.std.proofs.lemmas.Bool.Decides.{nat_tests}
use Rattle.std.proofs.lemmas.List.Elements.{All-cons, All-nil}
use Rattle.std.specs.Prelude.{slice_get}
use Rattle.std.specs.List.{remove}
use Rattle.ipv4_head.specs.Sets.{Key, PartSet, is_same_key, is_young, place_of, with_room}
use Rattle.ipv4_reasm.specs.Areas.{Gathered, StandFor, StandsFor, is_recent, place_in, roomy}

-- those of which the first part is young stay
pub stand_young : (now : ℕ) (held : List Gathered) (sets : List PartSet) → StandFor held sets → StandFor (filter (is_recent now) held) (filter (is_young now) sets)
stand_young now [] [] stand = tt
stand_young now [] (s ∷ sets) stand = absurd stand
stand_young now (g ∷ held) [] stand = absurd stand
stand_young now (g ∷ held) (s ∷ sets) stand = by_age (is_young now s) (is_recent now g) (ap (λ n. ltb (now - n) 60000) stand.0.since) (stand_young now held sets stand.1)
  where
    by_age : (a b : Bool) → b ≡ a → StandFor (filter (is_recent now) held) (filter (is_young now) sets) → StandFor
        (cond b (g ∷ filter (is_recent now) held) (filter (is_recent now) held)) (cond a (s ∷ filter (is_young now) sets) (filter (is_young now) sets))
    by_age true true e rest = (stand.0, rest)
    by_age true false e rest = cc
    by_age false true e rest = cc
    by_age false false e rest = rest

-- and of the others none stays
pub stand_fresh : (now : ℕ) (held : List Gathered) (sets : List PartSet) → StandFor (filter (is_recent now) held) sets → All (λ (s : PartSet). now < s.since + 60000) sets
stand_fresh now [] [] stand = All-nil (λ (s : PartSet). now < s.since + 60000)
stand_fresh now [] (s ∷ sets) stand = absurd stand
stand_fresh now (g ∷ held) sets stand = by_age (is_recent now g) refl sets stand (stand_fresh now held)
  where
    early : (s : PartSet) → StandsFor g s → is_recent now g ≡ true → now < s.since + 60000
    early s stands recent = let since = stands.since in let few : now - g.since < 60000 = grind (arith, nat_tests, recent) in omega (arith, since, few)

    by_age : (b : Bool) → is_recent now g ≡ b → (sets : List PartSet) → StandFor (cond b (g ∷ filter (is_recent now) held) (filter (is_recent now) held)) sets
        → ((sets : List PartSet) → StandFor (filter (is_recent now) held) sets → All (λ (s : PartSet). now < s.since + 60000) sets) → All (λ (s : PartSet). now < s.since + 60000) sets
    by_age false is sets stand rest = rest sets stand
    by_age true is [] stand rest = absurd stand
    by_age true is (s ∷ sets) stand rest = All-cons (λ (x : PartSet). now < x.since + 60000) s sets (early s stand.0 is) (rest sets stand.1)

pub stand_length : (held : List Gathered) (sets : List PartSet) → StandFor held sets → length held ≡ length sets
stand_length [] [] stand = refl
stand_length [] (s ∷ sets) stand = absurd stand
stand_length (g ∷ held) [] stand = absurd stand
stand_length (g ∷ held) (s ∷ sets) stand = ap suc (stand_length held sets stand.1)

pub stand_place : (key : Key) (held : List Gathered) (sets : List PartSet) → StandFor held sets → place_in key held ≡ place_of key sets
stand_place key [] [] stand = refl
stand_place key [] (s ∷ sets) stand = absurd stand
stand_place key (g ∷ held) [] stand = absurd stand
stand_place key (g ∷ held) (s ∷ sets) stand =
    ap (λ (k : Key). cond (not (is_same_key key k)) (1 + place_in key held) 0) stand.0.key
    ∙ ap (λ n. cond (not (is_same_key key s.key)) (1 + n) 0) (stand_place key held sets stand.1)

pub stand_get : (held : List Gathered) (sets : List PartSet) (i : ℕ) (g : Gathered) → StandFor held sets → slice_get held i ≡ Some g → (s : PartSet) × ((slice_get sets i ≡ Some s) × StandsFor g s)
stand_get [] sets i g stand at = cc
stand_get (h ∷ held) [] i g stand at = absurd stand
stand_get (h ∷ held) (s ∷ sets) zero g stand at = (s, (refl, let e : h ≡ g = cc in subst (λ x. StandsFor x s) e stand.0))
stand_get (h ∷ held) (s ∷ sets) (suc i) g stand at = stand_get held sets i g stand.1 at

pub stand_set : (held : List Gathered) (sets : List PartSet) (i : ℕ) (g : Gathered) (s : PartSet) → StandFor held sets → StandsFor g s → StandFor (set held i g) (set sets i s)
stand_set [] [] i g s stand one = tt
stand_set [] (t ∷ sets) i g s stand one = absurd stand
stand_set (h ∷ held) [] i g s stand one = absurd stand
stand_set (h ∷ held) (t ∷ sets) zero g s stand one = (one, stand.1)
stand_set (h ∷ held) (t ∷ sets) (suc i) g s stand one = (stand.0, stand_set held sets i g s stand.1 one)

pub stand_removed : (held : List Gathered) (sets : List PartSet) (i : ℕ) → StandFor held sets → StandFor (remove held i) (remove sets i)
stand_removed [] [] zero stand = tt
stand_removed [] [] (suc i) stand = tt
stand_removed [] (t ∷ sets) i stand = absurd stand
stand_removed (h ∷ held) [] i stand = absurd stand
stand_removed (h ∷ held) (t ∷ sets) zero stand = stand.1
stand_removed (h ∷ held) (t ∷ sets) (suc i) stand = (stand.0, stand_removed held sets i stand.1)

pub stand_pushed : (held : List Gathered) (sets : List PartSet) (g : Gathered) (s : PartSet) → StandFor held sets → StandsFor g s → StandFor (held ++ g ∷ []) (sets ++ s ∷ [])
stand_pushed [] [] g s stand one = (one, tt)
stand_pushed [] (t ∷ sets) g s stand one = absurd stand
stand_pushed (h ∷ held) [] g s stand one = absurd stand
stand_pushed (h ∷ held) (t ∷ sets) g s stand one = (stand.0, stand_pushed held sets g s stand.1 one)

pub stand_roomy : (held : List Gathered) (sets : List PartSet) → StandFor held sets → StandFor (roomy held) (with_room sets)
stand_roomy held sets stand = by_length (leb 16 (length held)) (leb 16 (length sets)) (ap (leb 16) (stand_length held sets stand)) (dropped held sets stand)
  where
    dropped : (held : List Gathered) (sets : List PartSet) → StandFor held sets → StandFor (drop 1 held) (drop 1 sets)
    dropped [] [] stand = tt
    dropped [] (t ∷ sets) stand = absurd stand
    dropped (h ∷ held) [] stand = absurd stand
    dropped (h ∷ held) (t ∷ sets) stand = stand.1

    by_length : (b a : Bool) → b ≡ a → StandFor (drop 1 held) (drop 1 sets) → StandFor (cond b (drop 1 held) held) (cond a (drop 1 sets) sets)
    by_length true true e rest = rest
    by_length true false e rest = cc
    by_length false true e rest = cc
    by_length false false e rest = stand
