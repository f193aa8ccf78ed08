-- Options by their names: one that isn't known is passed over, one that is known is answered once.
use Rattle.std.proofs.Common.{◌≡◌, ℕ, ◌&&◌, ◌||◌, nat_eq, bytes_eq, codes, map, Bool, true, false, cond, List, [], ◌∷◌, Option, Some, None, option_map, refl, sym, ◌∙◌, ap, subst, arith}
use Rattle.std.specs.List.{list_any}
use Rattle.std.specs.Option.{option_and_then}
use Rattle.std.proofs.lemmas.Bool.Decides.{nat_tests}
use Rattle.rules_tftp.specs.Packets.{Terms, answers, has_answered, number_in, says, small, terms_from, with_option, with_size, with_timeout}
use Rattle.tftp_server.specs.Options.{known_by, name_of, with_known}
use Rattle.tftp_server.specs.declared.options.Known.{Known}
use Rattle.tftp_server.specs.declared.options.Known.TheVariants.{BlockSize, Timeout, FileSize}
use Rattle.tftp_server.specs.declared.options.Answer.{Answer}
use Rattle.tftp_server.proofs.Agreeing.{among_map, shown}
use Rattle.rules_tftp.proofs.Naming.{both}

pub same_octets : (a b : List ℕ) → bytes_eq a b ≡ true → a ≡ b
same_octets [] [] is = refl
same_octets [] (y ∷ b) is = cc
same_octets (x ∷ a) [] is = cc
same_octets (x ∷ a) (y ∷ b) is =
    let parts = both (nat_eq x y) (bytes_eq a b) is in
    let head : x ≡ y = number parts.0 in
    let tail : a ≡ b = same_octets a b parts.1 in
    cc
  where
    number : nat_eq x y ≡ true → x ≡ y
    number is = grind (arith, nat_tests)

octets_swap : (a b : List ℕ) → bytes_eq a b ≡ bytes_eq b a
octets_swap [] [] = refl
octets_swap [] (y ∷ b) = refl
octets_swap (x ∷ a) [] = refl
octets_swap (x ∷ a) (y ∷ b) =
    let head : nat_eq x y ≡ nat_eq y x = swap x y in
    ap (λ t. t && bytes_eq a b) head ∙ ap (λ t. nat_eq y x && t) (octets_swap a b)
  where
    swap : (n m : ℕ) → nat_eq n m ≡ nat_eq m n
    swap n m = grind (arith, nat_tests)

-- what becomes of an option by its name in small letters
abbrev pub by_name : ℕ → List ℕ → List ℕ → Terms → Option Terms
by_name size name value terms =
    cond (has_answered name terms) None
    (cond (bytes_eq name (codes "blksize")) (option_map (with_size terms) (number_in 8 65464 value))
    (cond (bytes_eq name (codes "timeout")) (option_map (with_timeout terms) (number_in 1 255 value))
    (cond (bytes_eq name (codes "tsize")) (option_map (λ n. answers (codes "tsize") size terms) (number_in 0 0 value)) (Some terms))))

-- a name that is none of the three
pub record IsUnknown (name : List ℕ) : Type 0 where
  pub no_size : bytes_eq name (codes "blksize") ≡ false
  pub no_timeout : bytes_eq name (codes "timeout") ≡ false
  pub no_length : bytes_eq name (codes "tsize") ≡ false

unknown : (name : List ℕ) → known_by name ≡ None → IsUnknown (map small name)
unknown name is = by (says (codes "blksize") name) (says (codes "timeout") name) (says (codes "tsize") name) refl refl refl is
  where
    by : (a b c : Bool) → says (codes "blksize") name ≡ a → says (codes "timeout") name ≡ b → says (codes "tsize") name ≡ c
        → cond a (Some BlockSize) (cond b (Some Timeout) (cond c (Some FileSize) None)) ≡ None → IsUnknown (map small name)
    by true b c x y z is = cc
    by false true c x y z is = cc
    by false false true x y z is = cc
    by false false false x y z is = record { no_size = x; no_timeout = y; no_length = z }

none_among : (name : List ℕ) (items : List Answer) → IsUnknown name → list_any (λ (a : Answer). bytes_eq (name_of a.option) name) items ≡ false
none_among name [] un = refl
none_among name (a ∷ items) un = ap (λ b. b || list_any (λ (a : Answer). bytes_eq (name_of a.option) name) items) (other a.option) ∙ none_among name items un
  where
    other : (option : Known) → bytes_eq (name_of option) name ≡ false
    other BlockSize = octets_swap (codes "blksize") name ∙ un.no_size
    other Timeout = octets_swap (codes "timeout") name ∙ un.no_timeout
    other FileSize = octets_swap (codes "tsize") name ∙ un.no_length

pub passed_over : (size timeout : ℕ) (items : List Answer) (terms : Terms) → shown size timeout items ≡ terms
    → (length : ℕ) (name value : List ℕ) → known_by name ≡ None → with_option length (name, value) terms ≡ Some terms
passed_over size timeout items terms view length name value is =
    let un = unknown name is in
    by (has_answered (map small name) terms) (bytes_eq (map small name) (codes "blksize")) (bytes_eq (map small name) (codes "timeout")) (bytes_eq (map small name) (codes "tsize"))
    (sym (ap (λ (t : Terms). has_answered (map small name) t) view) ∙ among_map (map small name) items ∙ none_among (map small name) items un) un.no_size un.no_timeout un.no_length
  where
    by : (h a b c : Bool) → h ≡ false → a ≡ false → b ≡ false → c ≡ false
        → cond h None
        (cond a (option_map (with_size terms) (number_in 8 65464 value))
        (cond b (option_map (with_timeout terms) (number_in 1 255 value)) (cond c (option_map (λ n. answers (codes "tsize") length terms) (number_in 0 0 value)) (Some terms)))) ≡ Some terms
    by false false false false x y z w = refl
    by true a b c x y z w = cc
    by false true b c x y z w = cc
    by false false true c x y z w = cc
    by false false false true x y z w = cc

-- one that is known
pub known_is : (length : ℕ) (name value : List ℕ) (option : Known) (terms : Terms) → known_by name ≡ Some option
    → with_option length (name, value) terms ≡ cond (has_answered (name_of option) terms) None (with_known length option value terms)
known_is length name value option terms is = by (says (codes "blksize") name) (says (codes "timeout") name) (says (codes "tsize") name) refl refl refl is
  where
    named : (o : Known) → bytes_eq (map small name) (name_of o) ≡ true → o ≡ option
        → by_name length (name_of o) value terms ≡ cond (has_answered (name_of o) terms) None (with_known length o value terms)
        → with_option length (name, value) terms ≡ cond (has_answered (name_of option) terms) None (with_known length option value terms)
    named o same is whole =
        ap (λ n. by_name length n value terms) (same_octets (map small name) (name_of o) same)
        ∙ subst (λ (k : Known). by_name length (name_of o) value terms ≡ cond (has_answered (name_of k) terms) None (with_known length k value terms)) is whole

    by : (a b c : Bool) → says (codes "blksize") name ≡ a → says (codes "timeout") name ≡ b → says (codes "tsize") name ≡ c
        → cond a (Some BlockSize) (cond b (Some Timeout) (cond c (Some FileSize) None)) ≡ Some option
        → with_option length (name, value) terms ≡ cond (has_answered (name_of option) terms) None (with_known length option value terms)
    by true b c x y z is = named BlockSize x (cc) refl
    by false true c x y z is = named Timeout y (cc) refl
    by false false true x y z is = named FileSize z (cc) refl
    by false false false x y z is = cc

-- ---- one option after another

pub goes_on : (length : ℕ) (option : List ℕ × List ℕ) (options : List (List ℕ × List ℕ)) (old new : Terms)
    → Some new ≡ with_option length option old → terms_from length old (option ∷ options) ≡ terms_from length new options
goes_on length option options old new is = ap (option_and_then (λ t. terms_from length t options)) (sym is)

pub stops : (length : ℕ) (option : List ℕ × List ℕ) (options : List (List ℕ × List ℕ)) (old : Terms)
    → None ≡ with_option length option old → terms_from length old (option ∷ options) ≡ None
stops length option options old is = ap (option_and_then (λ t. terms_from length t options)) (sym is)
