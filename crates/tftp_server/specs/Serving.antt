-- What contracts see of the server, and what it tells a guest.
use Rattle.std.specs.Prelude.{◌≡◌, ℕ, ◌≤◌, ◌<◌, nat_le, All, Any, List, Option, Some, None, if◌then◌else◌}
use Rattle.rules_tftp.specs.Transfers.{Transfer}

-- the address of the server, the folder whose files are read, where there is one, and the transfers, the longest unused first
pub record Serving : Type 0 where
  pub vhost : ℕ
  pub folder : Option (List ℕ)
  pub transfers : List Transfer

-- the earliest moment after this one at which a packet is due to go again
abbrev pub IsNextDue : ℕ → List Transfer → Option ℕ → Type 0
IsNextDue now transfers None = All (λ t. t.due ≤ now) transfers
IsNextDue now transfers (Some at) = (now < at) × Any (λ t. t.due ≡ at) transfers × All (λ t. now < t.due → at ≤ t.due) transfers

-- the earlier of two moments after this one
abbrev pub earlier : ℕ → ℕ → Option ℕ → Option ℕ
earlier now due None = if nat_le due now then None else Some due
earlier now due (Some at) = if nat_le due now then Some at else (if nat_le at due then Some at else Some due)
