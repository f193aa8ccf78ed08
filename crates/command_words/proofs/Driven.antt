-- What `drive` means.
use Rattle.std.proofs.Common.{◌≡◌, ℕ, ◌==◌, false, List, [], ◌∷◌, length, map, codes, arith, refl, sym, ◌∙◌, subst}
use Rattle.std.specs.Fmt.{digits}
use Rattle.std.proofs.lemmas.Fmt.{decimal_injective}
use Rattle.command_words.specs.declared.Stop.TheVariants.{Word as AtWord}
use Rattle.command_words.specs.Meaning.{MeansDrive}
use Rattle.command_words.specs.Options.{Word}
use Rattle.command_words.specs.Stops.{BeginsOne, StopsBehind}
use Rattle.address_text.specs.Texts.{IsNumber}

same_two : (a b c d : Word) → ◌≡◌ {A = List Word} (a ∷ b ∷ []) (c ∷ d ∷ []) → (a ≡ c) × (b ≡ d)
same_two a b c d is = (cc, cc)

-- two words are two numbers at most
pub one_drive : (words : List Word) (n m o p : ℕ) → MeansDrive words n o → MeansDrive words m p → (n ≡ m) × (o ≡ p)
one_drive words n m o p (one, two, is, number, octets) (three, four, too, other, others) =
    let same = same_two one two three four (sym is ∙ too) in
    (decimal_injective n m number.1 other.1 (sym number.0 ∙ same.0 ∙ other.0), decimal_injective o p octets.1 others.1 (sym octets.0 ∙ same.1 ∙ others.0))

abbrev pub DriveMeant : List Word → Type 0
DriveMeant words = (number : ℕ) × (octets : ℕ) × MeansDrive words number octets

-- words that are none
pub drives_none : ¬ DriveMeant []
drives_none (number, octets, (one, two, is, first, second)) = absurd (cc is)

pub drives_one : (word : Word) → ¬ DriveMeant (word ∷ [])
drives_one word (number, octets, (one, two, is, first, second)) = absurd (cc is)

pub drives_three : (a b c : Word) (more : List Word) → ¬ DriveMeant (a ∷ b ∷ c ∷ more)
drives_three a b c more (number, octets, (one, two, is, first, second)) = absurd (cc is)

pub drives_no_number : (word : Word) (more : List Word) → ((n : ℕ) → ¬ IsNumber 64 word n) → ¬ DriveMeant (word ∷ more)
drives_no_number word more none (number, octets, (one, two, is, first, second)) =
    let same : one ≡ word = cc in none number (subst (λ (w : Word). IsNumber 64 w number) same first)

pub drives_no_octets : (word other : Word) (more : List Word) → ((n : ℕ) → ¬ IsNumber 64 other n) → ¬ DriveMeant (word ∷ other ∷ more)
drives_no_octets word other more none (number, octets, (one, two, is, first, second)) =
    let same : two ≡ other = cc in none octets (subst (λ (w : Word). IsNumber 64 w octets) same second)

-- words that begin one
naught : IsNumber 64 (codes "0") 0
unfolding digits
naught = (refl, omega arith)

pub begins_none : BeginsOne DriveMeant []
begins_none = (codes "0" ∷ codes "0" ∷ [], (0, 0, (codes "0", codes "0", refl, naught, naught)))

pub begins_one : (word : Word) (n : ℕ) → IsNumber 64 word n → BeginsOne DriveMeant (word ∷ [])
begins_one word n number = (codes "0" ∷ [], (n, 0, (word, codes "0", refl, number, naught)))

pub begins_two : (a b : Word) (n o : ℕ) → IsNumber 64 a n → IsNumber 64 b o → BeginsOne DriveMeant (a ∷ b ∷ [])
begins_two a b n o number octets = ([], (n, o, (a, b, refl, number, octets)))

-- no word, and one alone
pub drives_at_end : {X : Type 0} (f : X → Word) (words : List X) → length words ≡ 0 → BeginsOne DriveMeant (map f words) × ¬ DriveMeant (map f words)
drives_at_end f [] none = (begins_none, drives_none)
drives_at_end f (x ∷ xs) none = absurd (omega (arith, none))

pub drives_behind_one : {X : Type 0} (f : X → Word) (words : List Word) (number : Word) (n : ℕ) (behind : List X) → IsNumber 64 number n → words ≡ number ∷ map f behind →
    length behind ≡ 0 → BeginsOne DriveMeant words × ¬ DriveMeant words
drives_behind_one f words number n [] is same none = subst (λ (w : List Word). BeginsOne DriveMeant w × ¬ DriveMeant w) (sym same) (begins_one number n is, drives_one number)
drives_behind_one f words number n (x ∷ xs) is same none = absurd (omega (arith, none))

-- a third word
pub drives_more : {X : Type 0} (f : X → Word) (words : List Word) (a b : Word) (n o : ℕ) → IsNumber 64 a n → IsNumber 64 b o → (rest : List X) → words ≡ a ∷ b ∷ map f rest →
    (length rest == 0) ≡ false → StopsBehind DriveMeant words (AtWord 3)
drives_more f words a b n o number octets [] is none = absurd (cc none)
drives_more f words a b n o number octets (x ∷ xs) is none = (a ∷ b ∷ [], f x, map f xs, is, refl, begins_two a b n o number octets, (λ begins. drives_three a b (f x) begins.0 begins.1))
