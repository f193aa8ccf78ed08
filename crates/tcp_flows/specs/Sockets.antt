-- The sockets that are open, by rising number, each with the slot of its flow.
use Rattle.std.specs.Prelude.{ℕ, ◌<◌, ◌==◌, not, Bool, List, [], ◌∷◌, find, filter, nat_lt, true, Option, None, Some}
use Rattle.std.specs.Option.{option_map}
use Rattle.tcp_flows.specs.declared.sockets.Numbered.{Numbered}

-- the sockets that are open, and for how many there is room
pub record Listed : Type 0 where
  pub rows : List Numbered
  pub room : ℕ

-- each has a number above this one
abbrev pub AreAbove : ℕ → List Numbered → Type 0
AreAbove n [] = Unit {0}
AreAbove n (r ∷ rows) = (n < r.number) × AreAbove n rows

-- each has a number below this one
abbrev pub AreBelow : ℕ → List Numbered → Type 0
AreBelow n [] = Unit {0}
AreBelow n (r ∷ rows) = (r.number < n) × AreBelow n rows

-- their numbers rise
abbrev pub Rise : List Numbered → Type 0
Rise [] = Unit {0}
Rise (r ∷ rows) = AreAbove r.number rows × Rise rows

-- without the one of a number
abbrev pub is_other : ℕ → Numbered → Bool
is_other n r = not (r.number == n)

abbrev pub without : ℕ → List Numbered → List Numbered
without n rows = filter (is_other n) rows

-- the slot of the one with this number
abbrev pub slot_of : ℕ → List Numbered → Option ℕ
slot_of n rows = option_map (λ (r : Numbered). r.slot) (find (λ (r : Numbered). r.number == n) rows)

-- the first whose number is above this one, or the first of all
abbrev pub after : Option ℕ → List Numbered → Option Numbered
after None rows = find (λ (r : Numbered). true) rows
after (Some n) rows = find (λ (r : Numbered). nat_lt n r.number) rows
