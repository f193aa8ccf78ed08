-- The first line of a schedule that has no reading.
use Rattle.std.specs.Prelude.{◌≡◌, ◌≢◌, ℕ, ◌+◌, List, [], ◌++◌, length}
use Rattle.replay.specs.Rows.{Row, IsReadable, AreReadable, row_text, schedule_text}

-- Line n, counted from 1, is the first that has no reading: n - 1 lines stand before it, something is left, and it begins with no line that can be said.
pub record IsFirstUnread (schedule : List ℕ) (n : ℕ) : Type 0 where
  pub before : List Row
  pub readable : AreReadable before
  pub rest : List ℕ
  pub text : schedule ≡ schedule_text before ++ rest
  pub number : n ≡ length before + 1
  pub left : rest ≢ []
  pub none : (row : Row) (more : List ℕ) → IsReadable row → rest ≢ row_text row ++ more
