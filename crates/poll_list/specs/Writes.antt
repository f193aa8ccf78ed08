-- How many of a list of wants are for writing.
use Rattle.std.specs.Prelude.{ℕ, List}
use Rattle.std.specs.List.{count_by}
use Rattle.poll_list.specs.declared.Want.{Want}

-- the link among them
abbrev pub count_to_write : List Want → ℕ
count_to_write wants = count_by (λ want. want.write) wants
