-- Where the reading of words stops.
use Rattle.std.specs.Prelude.{◌≡◌, ℕ, ◌+◌, List, [], ◌∷◌, ◌++◌, length}
use Rattle.command_words.specs.declared.Stop.{Stop}
use Rattle.command_words.specs.declared.Stop.TheVariants.{Word as AtWord, End as AtEnd}
use Rattle.command_words.specs.Meaning.{Meaning, Means}
use Rattle.command_words.specs.Options.{Word}

-- words with which a reading begins: with some that may stand behind them they are read
abbrev pub BeginsOne : (Read : List Word → Type 0) → List Word → Type 0
BeginsOne Read words = (more : List Word) × Read (words ++ more)

-- Reading stops at the first word by which none can go on: the words before it begin a reading, those up to it none. Or a word is missing: all of them begin
-- one, and aren't read. So many words stand in front of these.
abbrev pub StopsBy : (Read : List Word → Type 0) (in_front : ℕ) → List Word → Stop → Type 0
StopsBy Read in_front words (AtWord place) =
    (before : List Word) × (word : Word) × (behind : List Word) × (words ≡ before ++ word ∷ behind) × (place ≡ length before + in_front)
    × BeginsOne Read before × ¬ BeginsOne Read (before ++ word ∷ [])
StopsBy Read in_front words AtEnd = BeginsOne Read words × ¬ Read words

-- words that mean something
abbrev pub AreMeant : List Word → Type 0
AreMeant words = (meaning : Meaning) × Means words meaning

-- where the reading of words stops: the words before begin a reading, those up to it none; or all begin one, and a word is missing
abbrev pub StopsAt : List Word → Stop → Type 0
StopsAt words stop = StopsBy AreMeant 0 words stop

-- of words behind a command
abbrev pub StopsBehind : (Read : List Word → Type 0) → List Word → Stop → Type 0
StopsBehind Read words stop = StopsBy Read 1 words stop
