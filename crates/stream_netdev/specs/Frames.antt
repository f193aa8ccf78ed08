-- The reads of one frame.
use Rattle.std.specs.Prelude.{◌≡◌, ℕ, List, [], ◌∷◌, ◌++◌, Option, None, if◌then◌else◌}
use Rattle.world_face.specs.Journal.{Entry, LinkRead}
use Rattle.world_face.specs.declared.Io.{Io}
use Rattle.world_face.specs.declared.Io.TheVariants.{Done}
use Rattle.world_face.specs.Frames.{Ending, partial, arrives, ending, is_whole}

-- what is under way after these octets
abbrev pub cut : List ℕ → List ℕ
cut octets = if is_whole octets then [] else octets

-- the ending by the newest entry
abbrev pub ended : List Entry → Option Ending
ended [] = None
ended (e ∷ past) = ending e (partial past)

-- a read
abbrev pub IsRead : Entry → Type 0
IsRead (LinkRead asked answer octets) = Unit {0}
IsRead _ = ⊥

-- a read that brought something
abbrev pub IsDone : Io → Type 0
IsDone (Done n) = Unit {0}
IsDone _ = ⊥

abbrev pub IsPiece : Entry → Type 0
IsPiece (LinkRead asked answer octets) = IsDone answer
IsPiece _ = ⊥

-- reads of the link that brought something, none of which completes a frame or ends the run
abbrev pub Pieces : List Entry → List Entry → Type 0
Pieces [] past = Unit {0}
Pieces (e ∷ made) past = IsPiece e × (arrives e (made ++ past) ≡ None) × (ending e (partial (made ++ past)) ≡ None) × Pieces made past

-- at least one read; all but the newest are such
abbrev pub Reads : List Entry → List Entry → Type 0
Reads [] past = ⊥
Reads (e ∷ made) past = IsRead e × Pieces made past
