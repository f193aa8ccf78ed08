-- A file that is read from the front.
use Rattle.std.proofs.Common.{◌≡◌, ℕ, ◌+◌, ◌-◌, ◌<◌, ◌≤◌, min, List, ◌∷◌, ◌++◌, length, take, IsSomeAnd, refl, sym, ◌∙◌, ap, subst, arith, false, true, nat_lt, ◌⊎◌, inl, inr}
use Rattle.std.proofs.lemmas.Bool.Decides.{nat_tests}
use Rattle.std.proofs.lemmas.List.{length-take-le}
use Rattle.world_face.specs.Journal.{Entry, FileRead, count_of}
use Rattle.world_face.specs.declared.Io.{Io}
use Rattle.world_face.specs.declared.Io.TheVariants.{End, NotYet, Failed}
use Rattle.app_edges.specs.Fetching.{Fetched, is_unread, file_length, octets_read}

pub may_read : (name : List ℕ) (whole have asked : ℕ) (octets : List ℕ) (made : List Entry) → Fetched name whole have octets made → have < whole → whole ≤ 67108864 →
    length octets ≡ whole → asked ≡ min (whole - have) 16384
    → (have ≡ length (octets_read made)) × IsSomeAnd (file_length made) (λ w. (have < w) × (w ≤ 67108864) × (asked ≡ min (w - have) 16384))
may_read name whole have asked octets made fetched less few size is =
    let le : have ≤ length octets = omega (arith, less, size) in (
      sym (ap length fetched.2 ∙ length-take-le have octets le),
      subst (λ o. IsSomeAnd o (λ w. (have < w) × (w ≤ 67108864) × (asked ≡ min (w - have) 16384))) (sym fetched.1) (less, few, is),
    )

-- one more read
pub read_more : (name : List ℕ) (whole have asked : ℕ) (answer : Io) (before after came : List ℕ) (made : List Entry) → Fetched name whole have before made → have < whole →
    whole ≤ 67108864 → length before ≡ whole → asked ≡ min (whole - have) 16384
    → take (have + count_of answer) after ≡ take have before ++ came → is_unread answer ≡ false
    → Fetched name whole (have + count_of answer) after (FileRead name have asked answer came ∷ made)
read_more name whole have asked answer before after came made fetched less few size is moved read =
    let may = may_read name whole have asked before made fetched less few size is in
    (((refl, may.0, may.1), fetched.0), fetched.1, ap (λ l. l ++ came) fetched.2 ∙ sym moved, read)

-- a length that isn't too great
pub measured_small : (n : ℕ) → n ≤ 67108864 → nat_lt 67108864 n ≡ false
measured_small n few = grind (arith, nat_tests)

-- a read that brought nothing
pub unread : (answer : Io) → (answer ≡ End) ⊎ (answer ≡ NotYet) ⊎ (answer ≡ Failed) → is_unread answer ≡ true
unread answer (inl is) = ap is_unread is
unread answer (inr (inl is)) = ap is_unread is
unread answer (inr (inr is)) = ap is_unread is
