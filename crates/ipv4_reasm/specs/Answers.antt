-- What is answered of a part.
use Rattle.std.specs.Prelude.{◌≡◌, ℕ, ◌+◌, ◌≤◌, Bool, List, Some, slice_get, true, if◌then◌else◌}
use Rattle.ipv4_head.specs.Sets.{Key, Part, PartSet, Outcome, Joined, Waits, Clashes, LongPart, UnevenPart, changed_by, is_whole, outcome_among, parts_for, place_of}
use Rattle.ipv4_reasm.specs.Areas.{Gathered, StandFor}
use Rattle.ipv4_reasm.specs.declared.reasm.Added.{Added}
use Rattle.ipv4_reasm.specs.declared.reasm.Added.TheVariants.{Whole, Kept, Overlap, TooLong, Uneven}

-- what an answer says, but for the area
abbrev pub said : Added → Outcome
said (Whole area) = Joined
said Kept = Waits
said Overlap = Clashes
said TooLong = LongPart
said Uneven = UnevenPart

-- the area of the answer is that of the set with the key of the part, whose parts are a whole datagram
pub record IsWholeAt (sets : List PartSet) (key : Key) (area : ℕ) : Type 0 where
  pub place : place_of key sets ≡ area
  pub set : (s : PartSet) × ((slice_get sets area ≡ Some s) × (s.key ≡ key) × (is_whole s.parts ≡ true))

-- the answer for a part that was put into an area
abbrev pub answer_of : ℕ → Bool → Added
answer_of area whole = if whole then Whole area else Kept

-- the areas stand for the sets as the part changes them, and the answer tells what became of it
pub record IsAnswered (now : ℕ) (key : Key) (p : Part) (sets : List PartSet) (held : List Gathered) (added : Added) : Type 0 where
  pub stand : StandFor held (changed_by (outcome_among p (parts_for key sets)) now key p sets)
  pub says : said added ≡ outcome_among p (parts_for key sets)
  pub area : (area : ℕ) → added ≡ Whole area → IsWholeAt (changed_by (outcome_among p (parts_for key sets)) now key p sets) key area

-- the moment at which the first of the sets is 60,000 ms old
pub record IsFirstDue (sets : List PartSet) (at : ℕ) : Type 0 where
  pub one : (i : ℕ) × ((s : PartSet) × ((slice_get sets i ≡ Some s) × (at ≡ s.since + 60000)))
  pub least : (i : ℕ) (s : PartSet) → slice_get sets i ≡ Some s → at ≤ s.since + 60000

-- the same of areas
pub record IsLeastDue (held : List Gathered) (at : ℕ) : Type 0 where
  pub one : (i : ℕ) × ((g : Gathered) × ((slice_get held i ≡ Some g) × (at ≡ g.since + 60000)))
  pub least : (i : ℕ) (g : Gathered) → slice_get held i ≡ Some g → at ≤ g.since + 60000
