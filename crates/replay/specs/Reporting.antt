-- The numbers by which the items that a wait reports are told apart.
use Rattle.std.specs.Prelude.{ℕ, ◌+◌, List, map, Option, Some, None}
use Rattle.poll_list.specs.declared.Who.{Who}
use Rattle.poll_list.specs.declared.Want.{Want}
use Rattle.poll_list.specs.Listing.{number_of}

-- one more than the number of a socket, and 0 for the link
abbrev pub key_of_number : Option ℕ → ℕ
key_of_number None = 0
key_of_number (Some number) = number + 1

abbrev pub key_of : Who → ℕ
key_of who = key_of_number (number_of who)

abbrev pub keys_of : List Want → List ℕ
keys_of wants = map (λ (want : Want). key_of want.of) wants
