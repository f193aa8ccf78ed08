-- Which of some numbered sockets are closed, over any type of rows: the calls on the World, the newest first, and the list after them.
use Rattle.std.specs.Prelude.{◌≡◌, ◌≤◌, ℕ, ◌==◌, ◌&&◌, not, nat_le, Bool, true, false, All, List, [], ◌∷◌, length, filter, Option, Some, None, if◌then◌else◌}
use Rattle.std.specs.List.{list_any}
use Rattle.world_face.specs.Journal.{Entry, Close}
use Rattle.idle_sockets.specs.Sockets.{most_sockets}

-- the one with this number was closed
abbrev pub without : {A : Type 0} → (A → ℕ) → ℕ → List A → List A
without number n list = filter (λ a. not (number a == n)) list

-- where as many are open as may be, the longest unused one is closed
abbrev pub calls_for_room : {A : Type 0} → (A → ℕ) → List A → List Entry
calls_for_room number [] = []
calls_for_room number (oldest ∷ list) = if nat_le most_sockets (length (oldest ∷ list)) then Close (number oldest) ∷ [] else []

abbrev pub with_room : {A : Type 0} → (A → ℕ) → List A → List A
with_room number [] = []
with_room number (oldest ∷ list) = if nat_le most_sockets (length (oldest ∷ list)) then without number (number oldest) (oldest ∷ list) else oldest ∷ list

-- the least number of those that pass a test, where one does
abbrev pub IsLeast : {A : Type 0} → (A → ℕ) → (A → Bool) → List A → Option ℕ → Type 0
IsLeast number test list None = All (λ a. test a ≡ false) list
IsLeast number test list (Some n) = (list_any (λ a. (number a == n) && test a) list ≡ true) × All (λ a. test a ≡ true → n ≤ number a) list

-- of those that pass a test the one with the least number is closed, or there is none
abbrev pub ClosesLeast : {A : Type 0} → (A → ℕ) → (A → Bool) → Bool → List A → List A → List Entry → Type 0
ClosesLeast number test true old new made = (n : ℕ) × (made ≡ Close n ∷ []) × IsLeast number test old (Some n) × (new ≡ without number n old)
ClosesLeast number test false old new made = (made ≡ []) × IsLeast number test old None × (new ≡ old)

-- one after the other, of those that pass a test the one with the least number is closed
abbrev pub ClosesAll : {A : Type 0} → (A → ℕ) → (A → Bool) → List A → List A → List Entry → Type 0
ClosesAll number test old new [] = new ≡ old
ClosesAll {A} number test old new (Close n ∷ made) =
    (between : List A) × ClosesAll number test old between made × IsLeast number test between (Some n) × (new ≡ without number n between)
ClosesAll number test old new (_ ∷ made) = ⊥
