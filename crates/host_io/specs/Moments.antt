-- What the moments of a World are.
use Rattle.std.specs.Prelude.{◌≡◌, ⊤, ℕ, ◌-◌, ◌/◌, List, ◌∷◌, Option, None, Some, min, max}
use Rattle.std.specs.Time.{instant_nanos}
use Rattle.std.specs.declared.time.Instant.{Instant}
use Rattle.world_face.specs.Limits.{last_moment}

-- since which instant, if the system gave one, and the moment that was asked for last
pub record Passed : Type 0 where
  pub start : Option Instant
  pub moment : ℕ

-- the milliseconds that the monotonic clock counted from the start to now, up to the last moment
abbrev pub moment_at : (start now : Instant) → ℕ
moment_at start now = min last_moment ((instant_nanos now - instant_nanos start) / 1000000)

-- they begin now, if the clock told when that is
abbrev pub begun : (now : Option Instant) → Passed
begun now = record { start = now; moment = 0 }

-- the later of a moment and that of now; the moment, where the clock told no start or not when it is
abbrev pub later : (start now : Option Instant) → ℕ → ℕ
later None now moment = moment
later (Some start) None moment = moment
later (Some start) (Some now) moment = max moment (moment_at start now)

abbrev pub after_look : (now : Option Instant) → Passed → Passed
after_look now past = record past { moment = later past.start now past.moment }

-- One look at a clock told this. The looks stand with the newest first.
abbrev pub IsTold : Option (List (Option Instant)) → Option (List (Option Instant)) → Option Instant → Type 0
IsTold None new now = ⊤
IsTold (Some old) None now = ⊥
IsTold (Some old) (Some new) now = new ≡ now ∷ old

-- One look was made, and this holds of what it told.
abbrev pub Looks : Option (List (Option Instant)) → Option (List (Option Instant)) → (Option Instant → Type 0) → Type 0
Looks old new Holds = (now : Option Instant) × IsTold old new now × Holds now
