-- How long a packet waits for its acknowledgement, by the options of a request.
use Rattle.std.proofs.Common.{◌≡◌, ℕ, ◌≤◌, codes, bytes_eq, map, Bool, true, false, cond, List, [], ◌∷◌, Option, Some, None, option_map, refl, sym, subst, arith}
use Rattle.std.specs.Option.{option_and_then}
use Rattle.rules_tftp.specs.Packets.{Terms, answers, has_answered, number_in, small, terms_from, terms_of, usual_terms, with_option, with_size, with_timeout}
use Rattle.rules_tftp.specs.Soundness.{WaitsWell}
use Rattle.rules_tftp.proofs.Naming.{in_its_range}

abbrev OfSome : Option Terms → Type 0
OfSome None = Unit {0}
OfSome (Some terms) = WaitsWell terms.timeout

sized_well : (terms : Terms) (o : Option ℕ) → WaitsWell terms.timeout → OfSome (option_map (with_size terms) o)
sized_well terms None is = tt
sized_well terms (Some n) is = is

measured_well : (terms : Terms) (size : ℕ) (o : Option ℕ) → WaitsWell terms.timeout → OfSome (option_map (λ n. answers (codes "tsize") size terms) o)
measured_well terms size None is = tt
measured_well terms size (Some n) is = is

timed_well : (terms : Terms) (o : Option ℕ) → ((n : ℕ) → o ≡ Some n → (1 ≤ n) × (n ≤ 255)) → OfSome (option_map (with_timeout terms) o)
timed_well terms None range = tt
timed_well terms (Some n) range = let within = range n refl in (omega (arith, within.0), omega (arith, within.1))

option_well : (size : ℕ) (option : List ℕ × List ℕ) (terms : Terms) → WaitsWell terms.timeout → OfSome (with_option size option terms)
option_well size option terms is = by (has_answered (map small option.0) terms) (bytes_eq (map small option.0) (codes "blksize")) (bytes_eq (map small option.0) (codes "timeout"))
    (bytes_eq (map small option.0) (codes "tsize"))
  where
    by : (a b c d : Bool)
        → OfSome (cond a None (cond b (option_map (with_size terms) (number_in 8 65464 option.1))
        (cond c (option_map (with_timeout terms) (number_in 1 255 option.1)) (cond d (option_map (λ n. answers (codes "tsize") size terms) (number_in 0 0 option.1)) (Some terms)))))
    by true b c d = tt
    by false true c d = sized_well terms (number_in 8 65464 option.1) is
    by false false true d = timed_well terms (number_in 1 255 option.1) (λ n read. in_its_range 1 255 n option.1 (sym read))
    by false false false true = measured_well terms size (number_in 0 0 option.1) is
    by false false false false = is

from_well : (size : ℕ) (terms : Terms) (options : List (List ℕ × List ℕ)) → WaitsWell terms.timeout → OfSome (terms_from size terms options)
from_well size terms [] is = is
from_well size terms (option ∷ options) is = by (with_option size option terms) (option_well size option terms is) (λ t well. from_well size t options well)
  where
    by : (o : Option Terms) → OfSome o → ((t : Terms) → WaitsWell t.timeout → OfSome (terms_from size t options)) → OfSome (option_and_then (λ t. terms_from size t options) o)
    by None well more = tt
    by (Some t) well more = more t well

pub terms_well : (size : ℕ) (options : List (List ℕ × List ℕ)) (terms : Terms) → terms_of size options ≡ Some terms → WaitsWell terms.timeout
terms_well size options terms is = subst OfSome is (from_well size usual_terms options (omega arith, omega arith))
