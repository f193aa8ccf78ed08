-- A list of wants grows.
use Rattle.std.proofs.Common.{◌≡◌, true, false, ◌||◌, ◌&&◌, ℕ, ◌<◌, ◌^◌, nat_lt, List, [], ◌∷◌, ◌++◌, refl, arith}
use Rattle.std.proofs.lemmas.Bool.{and_parts, and_from}
use Rattle.std.proofs.lemmas.Bool.Decides.{nat_tests}
use Rattle.poll_list.specs.declared.Who.TheVariants.{Udp}
use Rattle.poll_list.specs.declared.Want.{Want}
use Rattle.poll_list.specs.Listing.{are_wants, is_who}

-- each has a direction, and so has one more
pub wants_and_one : (wants : List Want) (more : Want) → are_wants wants ≡ true → are_wants (more ∷ []) ≡ true → are_wants (wants ++ more ∷ []) ≡ true
wants_and_one [] more some one = one
wants_and_one (want ∷ wants) more some one =
    let all = and_parts ((want.read || want.write) && is_who want.of) (are_wants wants) some in
    and_from ((want.read || want.write) && is_who want.of) (are_wants (wants ++ more ∷ [])) all.0 (wants_and_one wants more all.1 one)

less : (m n : ℕ) → m < n → nat_lt m n ≡ true
less m n is = grind (arith, nat_tests)

-- a socket for datagrams is wanted for reading
pub reads_one : (number : ℕ) → number < 2 ^ 64 → are_wants (record { of = Udp number; read = true; write = false } ∷ []) ≡ true
reads_one number low = and_from (nat_lt number (2 ^ 64)) true (less number (2 ^ 64) low) refl
