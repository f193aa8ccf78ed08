-- What becomes of frames, drawn from a number.
use Rattle.std.specs.Prelude.{◌≡◌, ◌≤◌, ℕ, ◌+◌, ◌*◌, ◌/◌, ◌%◌, ◌^◌, ◌==◌, ◌&&◌, min, nat_lt, if◌then◌else◌}
use Rattle.drive_world.specs.declared.draws.Fate.{Fate}
use Rattle.drive_world.specs.declared.draws.Fate.TheVariants.{Lost, Twice, Late, Once}

-- the number goes on by a multiplication and an addition, modulo 2^64
abbrev pub next_seed : ℕ → ℕ
next_seed seed = (seed * 6364136223846793005 + 1442695040888963407) % 2 ^ 64

-- a draw from 0 to 7
abbrev pub drawn : ℕ → ℕ
drawn seed = seed / 2 ^ 33 % 8

-- Of eight frames one is lost, but no fourth one in a row; one comes twice, and one late.
abbrev pub fate_of : (draw lost : ℕ) → Fate
fate_of draw lost =
    if (draw == 0 && nat_lt lost 3) then Lost
    else if (draw == 1) then Twice
    else if (draw == 2) then Late
    else Once

-- how often a frame comes now; one that is late may come at once where no more can be held back
abbrev pub Comes : Fate → (times : ℕ) → Type 0
Comes Lost times = times ≡ 0
Comes Twice times = times ≡ 2
Comes Late times = times ≤ 1
Comes Once times = times ≡ 1

-- how many in a row are lost then
abbrev pub lost_after : Fate → (lost : ℕ) → ℕ
lost_after Lost lost = min 255 (lost + 1)
lost_after Twice lost = 0
lost_after Late lost = 0
lost_after Once lost = 0
