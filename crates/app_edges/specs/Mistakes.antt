-- Which word a mistake in the words names.
use Rattle.std.specs.Prelude.{ℕ, ◌+◌, List, Option, None, slice_get, option_map}
use Rattle.command_words.specs.declared.Stop.{Stop}
use Rattle.command_words.specs.declared.Stop.TheVariants.{Word as AtWord, End as AtEnd}

-- the word at which reading stops, behind its number, counted from 1; none where a word is missing
abbrev pub named_word : List (List ℕ) → Stop → Option (ℕ × List ℕ)
named_word words (AtWord place) = option_map (λ word. (place + 1, word)) (slice_get words place)
named_word words AtEnd = None
