-- What a call carries to a connection, and from it.
use Rattle.std.specs.Prelude.{ℕ, List, Option}
use Rattle.std.specs.Io.KnownBytes.{Appends, Consumes}

-- What a connection's stream took, and what it has still to give.
pub record Carrying : Type 0 where
  pub taken : Option (List ℕ)
  pub left : Option (List ℕ)

abbrev pub carrying : (taken left : Option (List ℕ)) → Carrying
carrying taken left = record { taken = taken; left = left }

-- A call: the stream took what it put, and gave what it read, and no more.
pub record Carries (put read : List ℕ) (old new : Carrying) : Type 0 where
  pub went : Appends old.taken new.taken put
  pub came : Consumes old.left new.left read
