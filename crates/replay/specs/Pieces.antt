-- Items after the first, and lines that were printed.
use Rattle.std.specs.Prelude.{ℕ, List, [], ◌∷◌, ◌++◌, codes}
use Rattle.poll_list.specs.declared.Want.{Want}
use Rattle.world_face.specs.Journal.{Entry}
use Rattle.replay.specs.Text.{line_text, want_text}

-- each after a comma
abbrev pub more_text : List Want → List ℕ
more_text [] = []
more_text (want ∷ wants) = codes "," ++ want_text want ++ more_text wants

-- the lines of entries, the first one first
abbrev pub lines_text : List Entry → List ℕ
lines_text [] = []
lines_text (e ∷ es) = line_text e ++ lines_text es
