-- What a run came to, and its text.
use Rattle.std.specs.Prelude.{◌≡◌, ℕ, List, [], ◌∷◌, ◌++◌, None, false, codes, decimal}
use Rattle.world_face.specs.Tells.{Telling}
use Rattle.drive_world.specs.declared.run.Run.{Run as ARun}

-- The number from which it is drawn; the octets that the host got, and that the guest took in order; how many of both are wrong; and the waits.
pub record Run : Type 0 where
  pub number : ℕ
  pub up : ℕ
  pub down : ℕ
  pub wrong : ℕ
  pub waits : ℕ

abbrev pub run_of : ARun → Run
run_of run = record { number = run.number; up = run.up; down = run.down; wrong = run.wrong; waits = run.waits }

-- one that hasn't begun
abbrev pub fresh : ℕ → Run
fresh number = record { number = number; up = 0; down = 0; wrong = 0; waits = 0 }

-- a name and a number on a line of its own
abbrev pub line : List ℕ → ℕ → List ℕ
line name number = name ++ decimal number ++ codes "\n"

-- what is put of a run: a name and a number on each line
abbrev pub summary_text : Run → List ℕ
summary_text run =
    line (codes "number ") run.number ++ line (codes "flows ") 8 ++ line (codes "up ") run.up
    ++ line (codes "down ") run.down ++ line (codes "wrong ") run.wrong ++ line (codes "waits ") run.waits

-- at this wait a run is stopped; ours
abbrev pub last_wait : ℕ
last_wait = 20000000

-- it tells the number by which it answers, and that no call has failed; no call
abbrev pub tells_of : ℕ → Telling
tells_of number = record { source = number ∷ []; kept = []; live = false; stop = None; faults = record { link = 0; wait = 0; socket = 0; file = 0 } }

-- only octets that the guest took were counted, and wrong ones
abbrev pub CountsDown : (old new : ARun) → Type 0
CountsDown old new = (new.number ≡ old.number) × (new.up ≡ old.up) × (new.waits ≡ old.waits)
