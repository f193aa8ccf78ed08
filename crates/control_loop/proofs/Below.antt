-- What was called on an `Aside` in a stretch is what was made on the World below.
use Rattle.std.proofs.Common.{◌≡◌, false, List, ◌++◌, Option, None, refl, sym, subst}
use Rattle.std.specs.List.{list_any}
use Rattle.poll_list.specs.declared.Want.{Want}
use Rattle.world_face.specs.Journal.{AreAllowed, Entry}
use Rattle.world_face.specs.Tells.{Brings, Makes, Telling}
use Rattle.world_face.proofs.Telling.{makes_as}
use Rattle.control.proofs.Apartness.{is_wait, passed_as_they_are}
use Rattle.control.proofs.Stretching.{brought, made_below, of_stretch}
use Rattle.control.specs.Stretches.{AreSeen, Asided, Passes, beginning_with, last_reported, tells_seen}

-- a stretch without an item in which nothing was waited for
pub called : {W : Type 0} (tells : W → Telling) (was old new later : Asided W) (P : List Entry → Type 0) → old ≡ beginning_with None was.world → later ≡ beginning_with None new.world → Makes (tells_seen tells old) (tells_seen tells new) P
    → ((seen : List Entry) → P seen → list_any is_wait seen ≡ false) → Passes tells new → Makes (tells was.world) (tells later.world) P
called {W} tells was old new later P begun ended makes unwaited passes =
    subst (λ (a : Asided W). Makes (tells was.world) (tells a.world) P) (sym ended)
    (makes_as (tells was.world) (tells new.world) _ P
    (made_below tells (beginning_with None was.world) new P refl (subst (λ (a : Asided W). Makes (tells_seen tells a) (tells_seen tells new) P) begun makes) passes)
    (λ made both. subst P (sym (passed_as_they_are None made new.seen both.1.entries (unwaited new.seen both.0))) both.0))

-- where the network's calls bring something about, too
pub called_and_brought : {W : Type 0} (tells : W → Telling) (was old new later : Asided W) (P : List Entry → Type 0) (I : Type 0) (Before After : I → List Entry → Type 0)
    → old ≡ beginning_with None was.world → later ≡ beginning_with None new.world → Makes (tells_seen tells old) (tells_seen tells new) P → ((i : I) → Brings (tells_seen tells old) (tells_seen tells new) (Before i) (After i))
    → ((seen : List Entry) → P seen → list_any is_wait seen ≡ false) → Passes tells new
    → Makes (tells was.world) (tells later.world) (λ made. P made × ((i : I) (past : List Entry) → Before i past → After i (made ++ past)))
called_and_brought {W} tells was old new later P I Before After begun ended makes brings unwaited passes =
    let start : Asided W = beginning_with None was.world in
    let makes_so = subst (λ (a : Asided W). Makes (tells_seen tells a) (tells_seen tells new) P) begun makes in
    let brings_so : ((i : I) → Brings (tells_seen tells start) (tells_seen tells new) (Before i) (After i)) =
    λ i. subst (λ (a : Asided W). Brings (tells_seen tells a) (tells_seen tells new) (Before i) (After i)) begun (brings i) in
    subst (λ (a : Asided W). Makes (tells was.world) (tells a.world) (λ made. P made × ((i : I) (past : List Entry) → Before i past → After i (made ++ past)))) (sym ended)
    (makes_as (tells was.world) (tells new.world) _ (λ made. P made × ((i : I) (past : List Entry) → Before i past → After i (made ++ past)))
    (made_below tells start new P refl makes_so passes)
    (λ made both. subst (λ made. P made × ((i : I) (past : List Entry) → Before i past → After i (made ++ past)))
    (sym (passed_as_they_are None made new.seen both.1.entries (unwaited new.seen both.0))) (both.0, λ i. (brought tells start new (Before i) (After i) refl (brings_so i)).holds)))

-- what the network's calls bring about, of which there is some, is so of what was seen
pub brought_below : {W : Type 0} (tells : W → Telling) (item : Option Want) (was old new later : Asided W) (I : Type 0) (some : I) (Before After : I → List Entry → Type 0) → old ≡ beginning_with item was.world
    → later.world ≡ new.world → ((i : I) → Brings (tells_seen tells old) (tells_seen tells new) (Before i) (After i)) → Passes tells new
    → Makes (tells was.world) (tells later.world)
    (λ made. (seen : List Entry) × AreSeen item made seen × AreAllowed seen × (new.reported ≡ last_reported item made) × ((i : I) (past : List Entry) → Before i past → After i (seen ++ past)))
brought_below {W} tells item was old new later I some Before After begun same brings passes =
    let start : Asided W = beginning_with item was.world in
    let brings_so : ((i : I) → Brings (tells_seen tells start) (tells_seen tells new) (Before i) (After i)) =
    λ i. subst (λ (a : Asided W). Brings (tells_seen tells a) (tells_seen tells new) (Before i) (After i)) begun (brings i) in
    subst (λ (w : W). Makes (tells was.world) (tells w)
    (λ made. (seen : List Entry) × AreSeen item made seen × AreAllowed seen × (new.reported ≡ last_reported item made) × ((i : I) (past : List Entry) → Before i past → After i (seen ++ past)))) (sym same)
    (makes_as (tells was.world) (tells new.world) _
    (λ made. (seen : List Entry) × AreSeen item made seen × AreAllowed seen × (new.reported ≡ last_reported item made) × ((i : I) (past : List Entry) → Before i past → After i (seen ++ past)))
    (made_below tells start new AreAllowed refl (are_allowed (brings_so some)) passes)
    (λ made both. (new.seen, both.1.entries, both.0, both.1.last, λ i. (brought tells start new (Before i) (After i) refl (brings_so i)).holds)))
  where
    are_allowed : {a b : Telling} {P Q : List Entry → Type 0} → Brings a b P Q → Makes a b AreAllowed
    are_allowed b = record { made = b.made; same = b.same; allowed = b.allowed; told = b.told; counted = b.counted; holds = b.allowed }

-- of several clauses on the same calls each is so of what was seen
pub made_by_all : {W : Type 0} (tells : W → Telling) (item : Option Want) (was old new later : Asided W) (I : Type 0) (some : I) (P : I → List Entry → Type 0) → old ≡ beginning_with item was.world
    → later.world ≡ new.world → ((i : I) → Makes (tells_seen tells old) (tells_seen tells new) (P i)) → Passes tells new
    → Makes (tells was.world) (tells later.world) (λ made. (seen : List Entry) × AreSeen item made seen × AreAllowed seen × ((i : I) → P i seen))
made_by_all {W} tells item was old new later I some P begun same makes passes =
    let start : Asided W = beginning_with item was.world in
    let makes_so : ((i : I) → Makes (tells_seen tells start) (tells_seen tells new) (P i)) = λ i. subst (λ (a : Asided W). Makes (tells_seen tells a) (tells_seen tells new) (P i)) begun (makes i) in
    subst (λ (w : W). Makes (tells was.world) (tells w) (λ made. (seen : List Entry) × AreSeen item made seen × AreAllowed seen × ((i : I) → P i seen))) (sym same)
    (makes_as (tells was.world) (tells new.world) _ (λ made. (seen : List Entry) × AreSeen item made seen × AreAllowed seen × ((i : I) → P i seen))
    (made_below tells start new AreAllowed refl (are_allowed (makes_so some)) passes)
    (λ made both. (new.seen, both.1.entries, both.0, λ i. (of_stretch tells start new (P i) refl (makes_so i)).holds)))
  where
    are_allowed : {a b : Telling} {Q : List Entry → Type 0} → Makes a b Q → Makes a b AreAllowed
    are_allowed m = record { made = m.made; same = m.same; allowed = m.allowed; told = m.told; counted = m.counted; holds = m.allowed }

pub with_allowed : {a b : Telling} {P Q : List Entry → Type 0} → Makes a b (λ made. P made × Q made) → Makes a b (λ made. P made × Q made × AreAllowed made)
with_allowed m = record { made = m.made; same = m.same; allowed = m.allowed; told = m.told; counted = m.counted; holds = (m.holds.0, m.holds.1, m.allowed) }
