-- Lists of six.
use Rattle.std.proofs.Common.{◌≡◌, ℕ, ◌+◌, List, [], ◌∷◌, length, refl, ◌∙◌, ap, arith}

pub record Six (l : List ℕ) : Type 0 where
  pub a : ℕ
  pub b : ℕ
  pub c : ℕ
  pub d : ℕ
  pub e : ℕ
  pub f : ℕ
  pub is : l ≡ a ∷ b ∷ c ∷ d ∷ e ∷ f ∷ []

none : (l : List ℕ) → length l ≡ 0 → l ≡ []
none [] is = refl
none (x ∷ l) is = absurd (omega (arith, is))

next : (l : List ℕ) (n : ℕ) → length l ≡ n + 1 → (x : ℕ) × (rest : List ℕ) × (l ≡ x ∷ rest) × (length rest ≡ n)
next [] n is = absurd (omega (arith, is))
next (x ∷ rest) n is = (x, rest, refl, omega (arith, is))

pub six : (l : List ℕ) → length l ≡ 6 → Six l
six l is =
    let a = next l 5 is in let b = next a.1 4 a.3 in let c = next b.1 3 b.3 in let d = next c.1 2 c.3 in let e = next d.1 1 d.3 in let f = next e.1 0 e.3 in
    record {
      a = a.0;
      b = b.0;
      c = c.0;
      d = d.0;
      e = e.0;
      f = f.0;
      is =
          a.2 ∙ ap (λ r. a.0 ∷ r) (b.2 ∙ ap (λ r. b.0 ∷ r) (c.2 ∙ ap (λ r. c.0 ∷ r) (d.2 ∙ ap (λ r. d.0 ∷ r) (e.2 ∙ ap (λ r. e.0 ∷ r) (f.2 ∙ ap (λ r. f.0 ∷ r) (none f.1 f.3))))));
    }
