-- Where the walk over words stops, reading does.
use Rattle.std.proofs.Common.{◌≡◌, List, [], ◌∷◌, ◌++◌, Some}
use Rattle.command_words.specs.declared.Stop.{Stop}
use Rattle.command_words.specs.declared.Stop.TheVariants.{Word as AtWord, End as AtEnd}
use Rattle.command_words.specs.declared.options.Verb.{Verb}
use Rattle.command_words.specs.declared.options.Verb.TheVariants.{Replay, Serve}
use Rattle.command_words.specs.Options.{Word}
use Rattle.command_words.specs.Stops.{BeginsOne, StopsBehind}
use Rattle.command_words.specs.Walking.{IsGood, Walk, WalkStops, Walks, walked}
use Rattle.command_words.proofs.Completing.{replay_begins, serve_begins}
use Rattle.command_words.proofs.Meant.{ReplayMeant, ServeMeant, replay_meant, serve_meant}

-- words that are read have a walk that is good
module _ (verb : Verb) (Read : List Word → Type 0) (walks : (words : List Word) → Read words → (walk : Walk) × (walked verb words ≡ Some walk) × IsGood walk)
    (begins : (words : List Word) → Walks verb words → BeginsOne Read words) where
  pub walk_stops : (words : List Word) (stop : Stop) → WalkStops verb words stop → StopsBehind Read words stop
  walk_stops words (AtWord place) (before, word, behind, is, long, far, none) = (
    before,
    word,
    behind,
    is,
    long,
    begins before far,
    (λ read. let w = walks ((before ++ word ∷ []) ++ read.0) read.1 in none read.0 w.0 w.1 w.2),
  )
  walk_stops words AtEnd (far, none) = (begins words far, (λ read. let w = walks words read in none w.0 w.1))

pub replay_stops : (words : List Word) (stop : Stop) → WalkStops Replay words stop → StopsBehind ReplayMeant words stop
replay_stops words stop at = walk_stops Replay ReplayMeant (λ words m. let r = replay_meant words m.0 m.1 m.2 in (r.walk, r.read, r.good)) replay_begins words stop at

pub serve_stops : (words : List Word) (stop : Stop) → WalkStops Serve words stop → StopsBehind ServeMeant words stop
serve_stops words stop at = walk_stops Serve ServeMeant (λ words m. let r = serve_meant words m.0 m.1 m.2 m.3 in (r.walk, r.read, r.good)) serve_begins words stop at
