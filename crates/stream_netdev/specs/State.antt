-- What contracts see of a link.
use Rattle.std.specs.Prelude.{ℕ, List, [], Bool, drop, if◌then◌else◌}

-- The octets of the length or frame that was read last, whole or not; what is left of the frame that went out last;
-- and whether a write has to wait until the link is reported ready for it.
pub record LinkState : Type 0 where
  pub octets : List ℕ
  pub whole : Bool
  pub tail : List ℕ
  pub blocked : Bool

-- the octets of a length or frame that isn't whole
abbrev pub under_way : LinkState → List ℕ
under_way link = if link.whole then [] else link.octets

-- the frame that was read last
abbrev pub frame_of : LinkState → List ℕ
frame_of link = drop 4 link.octets
