-- When a short frame to the guest waits: an acknowledgement that waits until what came was read acknowledges all of it.
use Rattle.std.specs.Prelude.{ℕ, ◌+◌, Bool, true, false, ◌&&◌, ◌||◌, not, nat_le, nat_lt, min, if◌then◌else◌}
use Rattle.world_face.specs.Limits.{last_count}

-- how many octets were read since a short frame went out or none waits, whether one waits, and whether none waits until the next wait
pub record Paced : Type 0 where
  pub passed : ℕ
  pub holds : Bool
  pub lets : Bool

abbrev pub at_first : Paced
at_first = record { passed = 0; holds = false; lets = false }

abbrev pub let_out : Paced
let_out = record { passed = 0; holds = false; lets = true }

-- A wait begins, in which the link is wanted for reading, or not: where it isn't, or enough was read, none waits until the next one.
abbrev pub turned : Bool → Paced → Paced
turned reads p = if reads && nat_lt p.passed 131072 then record p { lets = false } else let_out

-- octets were read
abbrev pub read_on : ℕ → Paced → Paced
read_on count p = record p { passed = min last_count (p.passed + count) }

-- A frame of so many octets waits where it is short, unless they are let out, while more was read ahead or much was read since one went out.
abbrev pub is_kept : ℕ → Bool → Paced → Bool
is_kept size ahead p = nat_le size 58 && (not p.lets && (ahead || nat_le 8192 p.passed))

-- a frame of so many octets was offered
abbrev pub offered : ℕ → Bool → Paced → Paced
offered size ahead p =
    if is_kept size ahead p then record p { holds = true } else if nat_le size 58 then record p { passed = 0 } else p
