-- What holds of the transfers at every moment.
use Rattle.std.specs.Prelude.{◌≡◌, ℕ, ◌≤◌, All, List, [], ◌∷◌, length, find, None}
use Rattle.rules_tftp.specs.Transfers.{Transfer, is_for}

-- no two for one port of a guest
abbrev pub AreApart : List Transfer → Type 0
AreApart [] = Unit {0}
AreApart (t ∷ transfers) = (find (is_for t.guest) transfers ≡ None) × AreApart transfers

-- a packet waits from 1,000 to 255,000 milliseconds for its acknowledgement (RFC 2349)
abbrev pub WaitsWell : ℕ → Type 0
WaitsWell timeout = (1000 ≤ timeout) × (timeout ≤ 255000)

abbrev pub AreTimed : List Transfer → Type 0
AreTimed transfers = All (λ t. WaitsWell t.timeout) transfers

-- what holds of the transfers at every moment
pub record AreSound (transfers : List Transfer) : Type 0 where
  pub few : length transfers ≤ 20
  pub apart : AreApart transfers
  pub timed : AreTimed transfers
