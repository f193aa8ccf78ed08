-- A caller that runs on an `Aside` by the calls of a World alone knows afterwards in which stretch it did, and so what was made on the World below.
use Rattle.std.proofs.Common.{◌≡◌, true, List, [], ◌++◌, Option, None, sym, ◌∙◌, subst, append-nil}
use Rattle.poll_list.specs.declared.Want.{Want}
use Rattle.world_face.specs.Journal.{Entry}
use Rattle.world_face.specs.Tells.{Telling, Brings, Makes, Told}
use Rattle.world_face.proofs.Telling.{makes_as}
use Rattle.taps.proofs.Marking.{marked_once, read_back}
use Rattle.taps.proofs.Passing.{just_those}
use Rattle.taps.specs.Recording.{numbers_of}
use Rattle.control.specs.Stretches.{ArePassed, Asided, Passes, item_code, marked_for, tells_seen}

numbers_back : (a b : Option Want) → numbers_of (item_code.code a) ≡ numbers_of (item_code.code b) → a ≡ b
numbers_back a b same =
    item_code.inj a b
    (read_back (item_code.code a) (item_code.code b) [] [] (append-nil (numbers_of (item_code.code a)) ∙ same ∙ sym (append-nil (numbers_of (item_code.code b))))).0

-- a mark tells both
pub marked_by_one : (a b : Telling) (i j : Option Want) → marked_for a i ≡ marked_for b j → (a ≡ b) × (i ≡ j)
unfolding marked_for
marked_by_one a b i j same =
    let both = marked_once a b (numbers_of (item_code.code i)) (numbers_of (item_code.code j)) same in
    (both.0, numbers_back i j both.1)

-- What was called on an `Aside` from the beginning of a stretch on is what it saw in that stretch: it began at the same World, with the same item.
pub record IsOfStretch {W : Type 0} (tells : W → Telling) (old new : Asided W) (P : List Entry → Type 0) : Type 0 where
  pub began : tells new.began ≡ tells old.began
  pub item : new.item ≡ old.item
  pub holds : P new.seen

pub of_stretch : {W : Type 0} (tells : W → Telling) (old new : Asided W) (P : List Entry → Type 0) → old.seen ≡ [] → Makes (tells_seen tells old) (tells_seen tells new) P
    → IsOfStretch tells old new P
of_stretch tells old new P none makes =
    let mark = marked_by_one (tells new.began) (tells old.began) new.item old.item makes.same in
    record {
      began = mark.0;
      item = mark.1;
      holds = subst P (sym (just_those (marked_for (tells old.began) old.item) (marked_for (tells new.began) new.item) (tells old.world).faults (tells new.world).faults makes.made new.seen
          (subst (λ l. Told (record { source = marked_for (tells old.began) old.item; kept = l; live = true; stop = None; faults = (tells old.world).faults }) (tells_seen tells new) makes.made) none makes.told))) makes.holds;
    }

-- the same of calls that bring something about
pub brought : {W : Type 0} (tells : W → Telling) (old new : Asided W) (Before After : List Entry → Type 0) → old.seen ≡ [] → Brings (tells_seen tells old) (tells_seen tells new) Before After
    → IsOfStretch tells old new (λ made. (past : List Entry) → Before past → After (made ++ past))
brought tells old new Before After none brings =
    of_stretch tells old new (λ made. (past : List Entry) → Before past → After (made ++ past)) none
    (record { made = brings.made; same = brings.same; allowed = brings.allowed; told = brings.told; counted = brings.counted; holds = brings.brings })

-- and so what was made on the World below from there on
pub passed_below : {W : Type 0} {tells : W → Telling} {old new : Asided W} {P : List Entry → Type 0} → IsOfStretch tells old new P → Passes tells new
    → Makes (tells old.began) (tells new.world) (ArePassed old.item new.reported new.seen)
passed_below {W} {tells} {old} {new} stretch passes =
    subst (λ t. Makes t (tells new.world) (ArePassed old.item new.reported new.seen)) stretch.began
    (subst (λ i. Makes (tells new.began) (tells new.world) (ArePassed i new.reported new.seen)) stretch.item passes)

pub made_below : {W : Type 0} (tells : W → Telling) (old new : Asided W) (P : List Entry → Type 0) → old.seen ≡ [] → Makes (tells_seen tells old) (tells_seen tells new) P → Passes tells new
    → Makes (tells old.began) (tells new.world) (λ made. P new.seen × ArePassed old.item new.reported new.seen made)
made_below tells old new P none makes passes =
    let stretch = of_stretch tells old new P none makes in
    makes_as (tells old.began) (tells new.world) (ArePassed old.item new.reported new.seen) (λ made. P new.seen × ArePassed old.item new.reported new.seen made)
    (passed_below stretch passes) (λ made passed. (stretch.holds, passed))
