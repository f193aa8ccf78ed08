-- What one call of the session comes to, and two where the second is a close.
use Rattle.std.proofs.Common.{◌≡◌, ℕ, ◌≤◌, Bool, true, false, [], ◌∷◌, ◌++◌, drop, refl, sym, ◌∙◌, ap, arith}
use Rattle.world_face.specs.Journal.{Entry, Close, MayWrite, count_of}
use Rattle.world_face.specs.Tells.{Telling, Answers, Makes}
use Rattle.world_face.specs.declared.Io.{Io}
use Rattle.world_face.specs.declared.Io.TheVariants.{Done, End, NotYet, Failed}
use Rattle.world_face.proofs.Telling.{makes_next, makes_one}
use Rattle.rules_control.specs.Talk.{Talk, after_write, closed_if, fails, with_left}

-- the connection goes on
pub goes_on : (a b : Telling) (e : Entry) (socket : ℕ) (last : Bool) → last ≡ false → Answers a b e → Makes a b (λ made. made ≡ closed_if last socket ++ (e ∷ []))
goes_on a b e socket last is call = makes_one a b e (λ made. made ≡ closed_if last socket ++ (e ∷ [])) call (λ allowed. sym (ap (λ x. closed_if x socket ++ (e ∷ [])) is))

-- or is closed
pub closes : (a b c : Telling) (e : Entry) (socket : ℕ) (last : Bool) → last ≡ true → Answers a b e → Answers b c (Close socket) → Makes a c (λ made. made ≡ closed_if last socket ++ (e ∷ []))
closes a b c e socket last is call close =
    makes_next a b c (Close socket) (λ made. made ≡ e ∷ []) (λ made. made ≡ closed_if last socket ++ (e ∷ [])) (makes_one a b e (λ made. made ≡ e ∷ []) call (λ allowed. refl)) close
    (λ past same allowed. ap (λ l. Close socket ∷ l) same ∙ sym (ap (λ x. closed_if x socket ++ (e ∷ [])) is))

-- what a write takes goes
pub written : (answer : Io) (t : Talk) → fails answer ≡ false → with_left (drop (count_of answer) t.left) t ≡ after_write answer t
written (Done n) t is = refl
written End t is = refl
written NotYet t is = refl
written Failed t is = cc

pub failed : (answer : Io) (t : Talk) → fails answer ≡ true → after_write answer t ≡ after_write Failed t
failed (Done n) t is = cc
failed End t is = cc
failed NotYet t is = cc
failed Failed t is = refl

pub write_most : (n : ℕ) (answer : Io) → MayWrite n answer → count_of answer ≤ n
write_most n (Done m) may = may.1
write_most n End may = absurd may
write_most n NotYet may = omega arith
write_most n Failed may = omega arith
