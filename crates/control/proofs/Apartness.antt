-- What the network sees of what was made, where it keeps off the control's sockets.
use Rattle.std.proofs.Common.{◌≡◌, ℕ, zero, suc, ◌<◌, nat_lt, not, Bool, true, false, cond, List, [], ◌∷◌, length, Option, Some, None, refl, sym, ◌∙◌, ap, subst}
use Rattle.std.proofs.lemmas.Bool.{and_from, lt-ltb, not_from_false, or_from, or_parts}
use Rattle.std.specs.List.{insert, list_any}
use Rattle.poll_list.specs.Picks.{as_list}
use Rattle.poll_list.specs.declared.Want.{Want}
use Rattle.world_face.specs.Journal.{Entry, Wait}
use Rattle.world_face.specs.Limits.{most_wants}
use Rattle.rules_control.specs.Apart.{controls, is_of_control, is_on_control, others, seen as seen_of, without_control, takes_item}
use Rattle.control.specs.Stretches.{AreSeen, IsItem, IsSeen}
use Rattle.control.specs.Waits.{place_for, with_item}

abbrev pub is_wait : Entry → Bool
is_wait (Wait wants timeout answer ready) = true
is_wait _ = false

-- a call that isn't a wait is seen as it was made
as_made : (item : Option Want) (made seen : Entry) → is_wait seen ≡ false → IsSeen item made seen → made ≡ seen
as_made item made (Wait wants timeout answer ready) other is = cc
as_made item made seen other is = is

-- where none is a wait what was made is what is seen
pub passed_as_they_are : (item : Option Want) (made seen : List Entry) → AreSeen item made seen → list_any is_wait seen ≡ false → made ≡ seen
passed_as_they_are item [] [] are none = refl
passed_as_they_are item [] (s ∷ seen) are none = absurd are
passed_as_they_are item (e ∷ made) [] are none = absurd are
passed_as_they_are item (e ∷ made) (s ∷ seen) are none =
    let both = or_parts (is_wait s) (list_any is_wait seen) none in
    ap (λ x. x ∷ made) (as_made item e s both.0 are.0) ∙ ap (λ l. s ∷ l) (passed_as_they_are item made seen are.1 both.1)

-- ---- the network keeps off: no call of it is on a socket of the control's, and no wait is for one

abbrev pub IsOff : Entry → Type 0
IsOff (Wait wants timeout answer ready) = controls wants ≡ []
IsOff e = is_on_control e ≡ false

abbrev pub AreOff : List Entry → Type 0
AreOff [] = Unit {0}
AreOff (e ∷ seen) = IsOff e × AreOff seen

-- and there is room for the control's item
abbrev pub IsFew : Entry → Type 0
IsFew (Wait wants timeout answer ready) = length wants < most_wants
IsFew _ = Unit {0}

abbrev pub AreFew : List Entry → Type 0
AreFew [] = Unit {0}
AreFew (e ∷ seen) = IsFew e × AreFew seen

-- of wants of which none is the control's
first_off : (want : Want) (wants : List Want) → controls (want ∷ wants) ≡ [] → (is_of_control want.of ≡ false) × (controls wants ≡ [])
first_off want wants none = by (is_of_control want.of) none
  where
    by : (b : Bool) → cond b (want ∷ controls wants) (controls wants) ≡ [] → (b ≡ false) × (controls wants ≡ [])
    by true none = absurd (cc)
    by false none = (refl, none)

all_others : (wants : List Want) → controls wants ≡ [] → others wants ≡ wants
all_others [] none = refl
all_others (want ∷ wants) none =
    let off = first_off want wants none in
    ap (λ b. cond (not b) (want ∷ others wants) (others wants)) off.0 ∙ ap (λ l. want ∷ l) (all_others wants off.1)

none_taken : (wants : List Want) → controls wants ≡ [] → list_any (λ want. is_of_control want.of) wants ≡ false
none_taken [] none = refl
none_taken (want ∷ wants) none =
    let off = first_off want wants none in
    or_from (is_of_control want.of) (list_any (λ (w : Want). is_of_control w.of) wants) off.0 (none_taken wants off.1)

-- with the item among them they have no other
others_put : (k : ℕ) (wants : List Want) (item : Want) → is_of_control item.of ≡ true → others (insert wants k item) ≡ others wants
others_put zero wants item is = ap (λ b. cond (not b) (item ∷ others wants) (others wants)) is
others_put (suc k) [] item is = ap (λ b. cond (not b) (item ∷ []) []) is
others_put (suc k) (want ∷ wants) item is = ap (λ l. cond (not (is_of_control want.of)) (want ∷ l) l) (others_put k wants item is)

controls_put : (k : ℕ) (wants : List Want) (item : Want) → is_of_control item.of ≡ true → controls wants ≡ [] → controls (insert wants k item) ≡ item ∷ []
controls_put zero wants item is none = ap (λ b. cond b (item ∷ controls wants) (controls wants)) is ∙ ap (λ l. item ∷ l) none
controls_put (suc k) [] item is none = ap (λ b. cond b (item ∷ []) []) is
controls_put (suc k) (want ∷ wants) item is none =
    let off = first_off want wants none in
    ap (λ b. cond b (want ∷ controls (insert wants k item)) (controls (insert wants k item))) off.0 ∙ controls_put k wants item is off.1

others_wanted : (item : Option Want) (wants : List Want) → IsItem item → controls wants ≡ [] → others (with_item item wants) ≡ wants
others_wanted None wants own none = all_others wants none
others_wanted (Some item) wants own none = by (takes_item wants)
  where
    by : (takes : Bool) → others (cond takes (insert wants (place_for item.of wants) item) wants) ≡ wants
    by true = others_put (place_for item.of wants) wants item own.1 ∙ all_others wants none
    by false = all_others wants none

item_wanted : (item : Option Want) (wants : List Want) → IsItem item → controls wants ≡ [] → length wants < most_wants → controls (with_item item wants) ≡ as_list item
item_wanted None wants own none few = none
item_wanted (Some item) wants own none few =
    ap (λ b. controls (cond b (insert wants (place_for item.of wants) item) wants)) takes ∙ controls_put (place_for item.of wants) wants item own.1 none
  where
    takes : takes_item wants ≡ true
    takes = and_from (nat_lt (length wants) most_wants) (not (list_any (λ (w : Want). is_of_control w.of) wants)) (lt-ltb (length wants) most_wants few)
        (not_from_false (list_any (λ (w : Want). is_of_control w.of) wants) (none_taken wants none))

-- what is seen of a call that isn't on the control's sockets
pub seen_off : (item : Option Want) (e s : Entry) → IsItem item → IsSeen item e s → IsOff s → (is_on_control e ≡ false) × (seen_of e ≡ s)
seen_off item e (Wait wants timeout answer shown) own is off = (
  ap is_on_control is.1,
  ap seen_of is.1 ∙ ap (λ l. Wait l timeout answer (others is.0)) (others_wanted item wants own off) ∙ ap (λ l. Wait wants timeout answer l) (sym is.2),
)
seen_off item e s own is off = (ap is_on_control is ∙ off, ap seen_of is)

-- what the network sees of what was made is what it is told
pub apart_as_seen : (item : Option Want) (made seen : List Entry) → IsItem item → AreSeen item made seen → AreOff seen → without_control made ≡ seen
apart_as_seen item [] [] own are off = refl
apart_as_seen item [] (s ∷ seen) own are off = absurd are
apart_as_seen item (e ∷ made) [] own are off = absurd are
apart_as_seen item (e ∷ made) (s ∷ seen) own are off =
    let first = seen_off item e s own are.0 off.0 in
    ap (λ b. cond b (without_control made) (seen_of e ∷ without_control made)) first.0 ∙ ap (λ x. x ∷ without_control made) first.1
    ∙ ap (λ l. s ∷ l) (apart_as_seen item made seen own are.1 off.1)

-- ---- each wait is for the item, and for nothing else of the control's

abbrev pub IsForItem : Option Want → Entry → Type 0
IsForItem item (Wait wants timeout answer ready) = controls wants ≡ as_list item
IsForItem item _ = Unit {0}

abbrev pub AreForItem : Option Want → List Entry → Type 0
AreForItem item [] = Unit {0}
AreForItem item (e ∷ made) = IsForItem item e × AreForItem item made

for_item : (item : Option Want) (e s : Entry) → IsItem item → IsSeen item e s → IsOff s → IsFew s → IsForItem item e
for_item item e (Wait wants timeout answer shown) own is off few = subst (IsForItem item) (sym is.1) (item_wanted item wants own off few)
for_item item e s own is off few = subst (IsForItem item) (sym is) tt

pub all_for_item : (item : Option Want) (made seen : List Entry) → IsItem item → AreSeen item made seen → AreOff seen → AreFew seen → AreForItem item made
all_for_item item [] [] own are off few = tt
all_for_item item [] (s ∷ seen) own are off few = absurd are
all_for_item item (e ∷ made) [] own are off few = absurd are
all_for_item item (e ∷ made) (s ∷ seen) own are off few = (for_item item e s own are.0 off.0 few.0, all_for_item item made seen own are.1 off.1 few.1)
