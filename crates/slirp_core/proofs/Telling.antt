-- Calls of which it is known besides that each answer was one that a World may give.
use Rattle.std.proofs.Common.{List, ◌++◌}
use Rattle.world_face.specs.Journal.{Entry, AreAllowed}
use Rattle.world_face.specs.Tells.{Telling, Brings, Makes}

pub brings_allowed : {a b : Telling} {M P Q : List Entry → Type 0} → Makes a b M → ((made : List Entry) → M made → AreAllowed made → (past : List Entry) → P past → Q (made ++ past)) → Brings a b P Q
brings_allowed makes here = record { made = makes.made; same = makes.same; allowed = makes.allowed; told = makes.told; counted = makes.counted; brings = here makes.made makes.holds makes.allowed }

-- what may be asked more of
pub from_more : (a b : Telling) (Before More After : List Entry → Type 0) → ((past : List Entry) → More past → Before past) → Brings a b Before After → Brings a b More After
from_more a b Before More After less brings = record {
  made = brings.made;
  same = brings.same;
  allowed = brings.allowed;
  told = brings.told;
  counted = brings.counted;
  brings = λ past more. brings.brings past (less past more);
}
