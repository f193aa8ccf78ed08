-- What is called on a World in a stretch of a run, and what the network sees of it.
use Rattle.std.specs.Coded.{Coded, codes}
use Rattle.std.specs.Prelude.{◌≡◌, ℕ, ◌≤◌, ◌||◌, true, List, [], ◌∷◌, Option, Some, None}
use Rattle.poll_list.specs.Listing.{AreWants}
use Rattle.poll_list.specs.Picks.{as_list}
use Rattle.poll_list.specs.declared.Want.{Want}
use Rattle.world_face.specs.Journal.{Entry, Wait}
use Rattle.world_face.specs.Limits.{most_ready, most_wants}
use Rattle.world_face.specs.Tells.{Telling, Makes}
use Rattle.taps.specs.Recording.{marked, numbers_of, telling}
use Rattle.rules_control.specs.Apart.{is_of_control, others, reported_of}
use Rattle.control.specs.Waits.{with_item}

-- The World, what it was when the stretch began, what the control waits for in it, what the last wait reported of that, and the calls of the stretch as the network sees them, newest first.
pub record Asided (W : Type 0) : Type 0 where
  pub world : W
  pub began : W
  pub item : Option Want
  pub reported : List Want
  pub seen : List Entry

-- a stretch begins
abbrev pub beginning_with : {W : Type 0} → Option Want → W → Asided W
beginning_with item world = record { world = world; began = world; item = item; reported = []; seen = [] }

-- what the control may wait for: a socket of its own, in some direction
abbrev pub IsItem : Option Want → Type 0
IsItem None = Unit {0}
IsItem (Some item) = ((item.read || item.write) ≡ true) × (is_of_control item.of ≡ true)

-- An entry as it was made on the World below, and as the network sees it: a wait is seen for the network's wants alone, without what was reported of the control's.
abbrev pub IsSeen : Option Want → (made seen : Entry) → Type 0
IsSeen item made (Wait wants timeout answer shown) = (ready : List Want) × (made ≡ Wait (with_item item wants) timeout answer ready) × (shown ≡ others ready)
IsSeen item made seen = made ≡ seen

-- each of them
abbrev pub AreSeen : Option Want → (made seen : List Entry) → Type 0
AreSeen item [] [] = Unit {0}
AreSeen item (e ∷ made) (s ∷ seen) = IsSeen item e s × AreSeen item made seen
AreSeen item _ _ = ⊥

-- what the newest wait reported of the item
abbrev pub last_reported : Option Want → List Entry → List Want
last_reported item [] = []
last_reported item (Wait wants timeout answer ready ∷ made) = reported_of (as_list item) ready
last_reported item (_ ∷ made) = last_reported item made

-- what was made on the World below, by what is known of the stretch
pub record ArePassed (item : Option Want) (reported : List Want) (seen made : List Entry) : Type 0 where
  pub entries : AreSeen item made seen
  pub last : reported ≡ last_reported item made

abbrev pub Passes : {W : Type 0} → (W → Telling) → Asided W → Type 0
Passes tells a = Makes (tells a.began) (tells a.world) (ArePassed a.item a.reported a.seen)

-- the same, with what is known of the item and what the lists have room for
pub record IsKept (began world : Telling) (item : Option Want) (reported : List Want) (seen : List Entry) (wants_room ready_room : ℕ) : Type 0 where
  pub passed : Makes began world (ArePassed item reported seen)
  pub own : IsItem item
  pub wanted : AreWants (as_list item)
  pub wants : most_wants ≤ wants_room
  pub ready : most_ready ≤ ready_room

-- the item as numbers: no two have the same ones
pub item_code : Coded (Option Want)
item_code = hlevel codes

-- where the World below began, and the item
unfoldable pub marked_for : Telling → Option Want → List ℕ
marked_for began item = marked began (numbers_of (item_code.code item))

-- Each call is told as the network sees it, whatever the World below tells. In place of a text stands where the stretch began and its item, which stay the same.
abbrev pub tells_seen : {W : Type 0} → (W → Telling) → Asided W → Telling
tells_seen tells a = telling (marked_for (tells a.began) a.item) (tells a.world).faults a.seen
