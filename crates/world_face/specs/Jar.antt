-- What contracts see of a sink in memory.
use Rattle.std.specs.Prelude.{ℕ, ◌+◌, ◌==◌, ◌||◌, nat_lt, Bool, false, List, Option, Some, None, length}

-- what was put, room for how much in all, the number of the put that is refused, and how many puts and faults there were
pub record Jar : Type 0 where
  pub octets : List ℕ
  pub room : ℕ
  pub fails : Option ℕ
  pub puts : ℕ
  pub faults : ℕ

abbrev pub is_number : Option ℕ → ℕ → Bool
is_number None put = false
is_number (Some fails) put = fails == put

-- a put of so many octets is refused by its number, or for want of room
abbrev pub refuses : Jar → ℕ → Bool
refuses jar count = is_number jar.fails jar.puts || nat_lt jar.room (length jar.octets + count)
