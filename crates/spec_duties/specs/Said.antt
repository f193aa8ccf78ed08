-- Words in which it is said what came between two waits.
use Rattle.std.specs.Prelude.{◌||◌, Bool, false, List, [], ◌∷◌, ◌++◌}
use Rattle.poll_list.specs.declared.Who.{Who}
use Rattle.world_face.specs.Journal.{Entry}
use Rattle.world_face.specs.Frames.{partial}
use Rattle.spec_duties.specs.Serving.{serves_reading, serves_writing}

-- one of the calls that were made after a past serves a report for reading, or for writing
abbrev pub some_reads : Who → List Entry → List Entry → Bool
some_reads who past [] = false
some_reads who past (e ∷ made) = serves_reading who e (partial (made ++ past)) || some_reads who past made

abbrev pub some_writes : Who → List Entry → Bool
some_writes who [] = false
some_writes who (e ∷ made) = serves_writing who e || some_writes who made

-- it holds at each moment from a past on
abbrev pub Throughout : (List Entry → Type 0) → List Entry → List Entry → Type 0
Throughout P past [] = P past
Throughout P past (e ∷ made) = P (e ∷ made ++ past) × Throughout P past made
