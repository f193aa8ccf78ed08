-- The table of sockets where a slot changes, comes or goes.
use Rattle.std.proofs.Common.{◌≡◌, ℕ, zero, suc, ◌<◌, ◌≤◌, ◌+◌, ◌||◌, Bool, true, false, List, [], ◌∷◌, length, get_or, set, Option, Some, None, Ok, Err, Less, Equal, Greater, inl, inr, refl, sym, ap, subst, ◌∙◌, arith}
use Rattle.std.specs.List.{Contains, insert, remove}
use Rattle.std.specs.List.Sorted.{IsBinarySearchResult}
use Rattle.std.specs.Ordering.{nat_cmp}
use Rattle.std.specs.Cmp.{nat_cmp_total}
use Rattle.std.proofs.lemmas.Bool.{cases_eq, cases_lt}
use Rattle.std.proofs.lemmas.List.{get_or-set_other}
use Rattle.poll_list.specs.declared.Who.{Who}
use Rattle.net_world.specs.declared.slot.Slot.{Slot}
use Rattle.net_world.specs.declared.sockets.Place.{Place}
use Rattle.net_world.specs.declared.ready_list.Listed.{Listed}
use Rattle.net_world.specs.Tables.{rank_of, number_of, fed, listed_at, place_at, slot_at, reads, IsOf, one, count_below, AreListed, ArePlaced, IsKnownStarved, Lists, Finds, OthersStay, Table, Becomes, IsTaken}
use Rattle.net_world.proofs.Ascending as up
use Rattle.net_world.proofs.Standing.{IsAlone, alone, count_room, lists_same, number_itself, one_key, placed_still, relisted, same_number}

-- what a write leaves at its place
pub set_here : {X : Type 0} (xs : List (Option X)) (key : ℕ) (was : X) (is : Option X) → get_or xs key None ≡ Some was → get_or (set xs key is) key None ≡ is
set_here [] zero was is here = cc
set_here [] (suc key) was is here = cc
set_here (x ∷ xs) zero was is here = refl
set_here (x ∷ xs) (suc key) was is here = set_here xs key was is here

none_at : {X : Type 0} (key : ℕ) → get_or {A = Option X} [] key None ≡ None
none_at zero = refl
none_at (suc key) = refl

none_counted : (S : Type 0) (keys : ℕ) → count_below (λ key. reads (slot_at {S = S} [] key)) keys ≡ 0
none_counted S zero = refl
none_counted S (suc keys) =
    ap (λ (x : Option (Slot S)). one (reads x) + count_below (λ key. reads (slot_at {S = S} [] key)) keys) (none_at keys) ∙ ap (λ (n : ℕ). 0 + n) (none_counted S keys) ∙ omega arith

not_there : {S : Type 0} (key : ℕ) (slot : Slot S) → slot_at [] key ≡ Some slot → ⊥
not_there key slot here = let clash : None ≡ Some slot = sym (none_at key) ∙ here in absurd (cc)

module _ {S : Type 0} where
  -- where no socket is open none is listed, and none has a place
  pub nothing_listed : (slots : List (Option (Slot S))) (keys : ℕ) (readable : List Listed) → slots ≡ [] → readable ≡ [] → AreListed slots keys readable
  nothing_listed slots keys readable none empty =
      subst (λ (s : List (Option (Slot S))). AreListed s keys readable) (sym none)
      (
      subst (λ (l : List Listed). AreListed {S = S} [] keys l) (sym empty)
      (record {
        rise = tt;
        marked = λ key slot here may. absurd (not_there key slot here);
        stand = λ listed h. absurd (up.has_from [] listed h);
        below = λ key slot here. absurd (not_there key slot here);
        counted = sym (none_counted S keys);
      })
      )

  pub nothing_placed : (slots : List (Option (Slot S))) (places : List Place) → slots ≡ [] → places ≡ [] → ArePlaced slots places
  nothing_placed slots places none empty =
      subst (λ (s : List (Option (Slot S))). ArePlaced s places) (sym none)
      (
      subst (λ (p : List Place). ArePlaced {S = S} [] p) (sym empty)
      (record {
        rise = tt;
        placed = λ key slot here. absurd (not_there key slot here);
        stand = λ place h. absurd (up.has_from [] place h);
      })
      )

  pub nothing_starved : (slots : List (Option (Slot S))) → slots ≡ [] → IsKnownStarved slots false
  nothing_starved slots none key slot here starved = absurd (not_there key slot (ap (λ (s : List (Option (Slot S))). slot_at s key) (sym none) ∙ here))

  pub room : (slots : List (Option (Slot S))) (keys : ℕ) (readable : List Listed) (key : ℕ) (slot : Slot S) → AreListed slots keys readable → slot_at slots key ≡ Some slot
      → slot.ready.read ≡ false → length readable < keys
  room slots keys readable key slot listed here unread =
      omega (arith, listed.counted, count_room (λ k. reads (slot_at slots k)) key keys (listed.below key slot here) (ap reads here ∙ unread))

  others : (slots : List (Option (Slot S))) (key : ℕ) (is : Option (Slot S)) → OthersStay slots (set slots key is) key
  others slots key is other not = get_or-set_other slots key other is None not

  was_of : (slots : List (Option (Slot S))) (key : ℕ) (was : Slot S) → slot_at slots key ≡ Some was → IsOf was.of (slot_at slots key)
  was_of slots key was here known e =
      let both : Some was ≡ Some known = sym here ∙ e in
      let same : was ≡ known = cc in
      ap (λ (s : Slot S). s.of) (sym same)

  -- A slot changed, and the list with it.
  pub changed : (slots : List (Option (Slot S))) (keys : ℕ) (readable after : List Listed) (places : List Place) (key : ℕ) (was is : Slot S) → AreListed slots keys readable
      → ArePlaced slots places → slot_at slots key ≡ Some was → is.of ≡ was.of → Lists readable after (listed_at was.of key) was.ready.read is.ready.read
      → AreListed (set slots key (Some is)) keys after × ArePlaced (set slots key (Some is)) places
  changed slots keys readable after places key was is listed placed here of lists =
      let now = set_here slots key was (Some is) here in
      let stay = others slots key (Some is) in
      let is_of : IsOf was.of (Some is) = λ known e. (let same : is ≡ known = cc in ap (λ (s : Slot S). s.of) (sym same) ∙ of) in (
        relisted slots (set slots key (Some is)) keys readable after (listed_at was.of key) (Some is) listed now stay (was_of slots key was here) is_of (listed.below key was here)
            (subst (λ (b : Bool). Lists readable after (listed_at was.of key) b is.ready.read) (sym (ap reads here)) lists),
        placed_still slots (set slots key (Some is)) places key was is placed here now stay of,
      )

  -- which key a number has
  pub finds_some : (slots : List (Option (Slot S))) (places : List Place) (number at : ℕ) (d : Place) → ArePlaced slots places → at < length places
      → IsBinarySearchResult (λ p. nat_cmp p.number number) places (Ok at) → Finds slots number (Some (get_or places at d).key)
  finds_some slots places number at d placed below found =
      let s = placed.stand (get_or places at d) (up.to_contains places (get_or places at d) (up.has_at places at d below)) in
      let is : number_of s.0.of ≡ number = s.2 ∙ same_number (get_or places at d).number number (found d) in
      (s.0, s.1, is, λ other its here same. one_key slots places other (get_or places at d).key its s.0 placed here s.1 (same ∙ sym is))

  pub finds_none : (slots : List (Option (Slot S))) (places : List Place) (number at : ℕ) → ArePlaced slots places → at ≤ length places
      → IsBinarySearchResult (λ p. nat_cmp p.number number) places (Err at) → Finds slots number None
  finds_none slots places number at placed fits found key slot here same =
      let c = placed.placed key slot here in
      let parted = up.parted nat_cmp nat_cmp_total (λ (p : Place). p.number) places number at placed.rise found in
      let p : Place = place_at (number_of slot.of) key in
      let k : ℕ = c.0 in
      let eq : nat_cmp (get_or places k p).number number ≡ Equal = number_itself (get_or places k p).number number (ap (λ (x : Place). x.number) c.2 ∙ same) in
      elim (cases_lt k at) [
        | inl low ↦ let less : nat_cmp (get_or places k p).number number ≡ Less = parted.0 k p (omega arith) low in absurd (cc)
        | inr high ↦ let more : nat_cmp (get_or places k p).number number ≡ Greater = parted.1 k p high c.1 in absurd (cc)
      ]

  -- A slot comes under a number that none has, and may not be read yet.
  pub added : (old new : List (Option (Slot S))) (keys : ℕ) (readable : List Listed) (places : List Place) (key at : ℕ) (is : Slot S) → AreListed old keys readable → ArePlaced old places
      → slot_at old key ≡ None → slot_at new key ≡ Some is → OthersStay old new key → key < keys → is.ready.read ≡ false → at ≤ length places
      → IsBinarySearchResult (λ p. nat_cmp p.number (number_of is.of)) places (Err at)
      → AreListed new keys readable × ArePlaced new (insert places at (place_at (number_of is.of) key))
  added old new keys readable places key at is listed placed before now stay fits unread within found =
      let none : Finds old (number_of is.of) None = finds_none old places (number_of is.of) at placed within found in
      let not_listed : IsAlone readable (listed_at is.of key) false =
      λ other h of. (let s = listed.stand other h in absurd (none other.key s.0 s.1 (ap (λ (w : Who). (number_of w)) (s.2 ∙ of)))) in
      let lists = lists_same readable (listed_at is.of key) false false listed.rise (λ yes. absurd (cc)) not_listed refl in
      let lists' = subst (λ (b : Bool). Lists readable readable (listed_at is.of key) b is.ready.read) (sym (ap reads before))
      (subst (λ (b : Bool). Lists readable readable (listed_at is.of key) false b) (sym unread) lists) in
      let p : Place = place_at (number_of is.of) key in
      let parted = up.parted nat_cmp nat_cmp_total (λ (q : Place). q.number) places (number_of is.of) at placed.rise found in (
        relisted old new keys readable readable (listed_at is.of key) (Some is) listed now stay (λ known e. (let clash : None ≡ Some known = sym before ∙ e in absurd (cc)))
            (λ known e. (let same : is ≡ known = cc in ap (λ (s : Slot S). s.of) (sym same))) fits lists',
        record {
          rise = up.rise_with nat_cmp nat_cmp_total (λ (q : Place). q.number) places at p within placed.rise (λ k d low. parted.0 k d (omega arith) low) (λ k d high below. parted.1 k d high below);
          placed = λ k slot here. elim (cases_eq k key) [
            | inl same ↦
                let both : Some is ≡ Some slot = sym now ∙ ap (λ (i : ℕ). slot_at new i) (sym same) ∙ here in
                let e : is ≡ slot = cc in
                let it : p ≡ place_at (number_of slot.of) k = ap (λ (s : Slot S). place_at (rank_of s.of).1 key) e ∙ ap (λ (i : ℕ). place_at (number_of slot.of) i) (sym same) in
                subst (λ (q : Place). Contains (insert places at p) q) it (up.to_contains (insert places at p) p (up.has_put places at p))
            | inr other ↦
                let c = placed.placed k slot (sym (stay k other) ∙ here) in
                let q : Place = place_at (number_of slot.of) k in
                up.to_contains (insert places at p) q (up.has_kept places at p q (up.has_from places q c))
          ];
          stand = λ q h. elim (up.has_either places at p q (up.has_from (insert places at p) q h)) [
            | inl same ↦ (is, ap (λ (x : Place). slot_at new x.key) (sym same) ∙ now, ap (λ (x : Place). x.number) same)
            | inr had ↦
                let s = placed.stand q (up.to_contains places q had) in
                let other : q.key ≡ key → ⊥ = λ e. (let clash : None ≡ Some s.0 = sym before ∙ ap (λ (i : ℕ). slot_at old i) (sym e) ∙ s.1 in absurd (cc)) in
                (s.0, stay q.key other ∙ s.1, s.2)
          ];
        },
      )

  -- The slot of a place goes, and the place with it.
  pub removed : (slots : List (Option (Slot S))) (keys : ℕ) (readable after : List Listed) (places : List Place) (at : ℕ) (p : Place) (was : Slot S) → AreListed slots keys readable
      → ArePlaced slots places → at < length places → p ≡ get_or places at p → slot_at slots p.key ≡ Some was → Lists readable after (listed_at was.of p.key) was.ready.read false
      → AreListed (set slots p.key None) keys after × ArePlaced (set slots p.key None) (remove places at)
  removed slots keys readable after places at p was listed placed below there slot lists =
      let new : List (Option (Slot S)) = set slots p.key None in
      let now : slot_at (set slots p.key None) p.key ≡ None = set_here slots p.key was None slot in
      let stay : OthersStay slots (set slots p.key None) p.key = others slots p.key None in (
        relisted slots (set slots p.key None) keys readable after (listed_at was.of p.key) None listed now stay (was_of slots p.key was slot) (λ known e. absurd (cc)) (listed.below p.key was slot)
            (subst (λ (b : Bool). Lists readable after (listed_at was.of p.key) b false) (sym (ap reads slot)) lists),
        record {
          rise = up.rise_left nat_cmp nat_cmp_total (λ (q : Place). q.number) places at placed.rise;
          placed = λ k other here.
              let differs : k ≡ p.key → ⊥ = λ e. (let clash : None ≡ Some other = sym now ∙ ap (λ (i : ℕ). slot_at (set slots p.key None) i) (sym e) ∙ here in absurd (cc)) in
              let q : Place = place_at (number_of other.of) k in
              let c = placed.placed k other (sym (stay k differs) ∙ here) in
              elim (up.has_still places at q p (up.has_from places q c)) [
                | inl same ↦ absurd (differs (ap (λ (x : Place). x.key) (sym same ∙ sym there)))
                | inr still ↦ up.to_contains (remove places at) q still
              ];
          stand = λ q h.
              let h' = up.has_from (remove places at) q h in
              let s = placed.stand q (up.to_contains places q (up.had places at q h')) in
              let mine = placed.stand p (subst (λ (x : Place). Contains places x) (sym there) (up.to_contains places (get_or places at p) (up.has_at places at p below))) in
              let differs : q.key ≡ p.key → ⊥ = λ e. (
              let both : Some s.0 ≡ Some mine.0 = sym s.1 ∙ ap (λ (i : ℕ). slot_at slots i) e ∙ mine.1 in
              let same : s.0 ≡ mine.0 = cc in
              let numbers : (get_or places at p).number ≡ q.number = ap (λ (x : Place). x.number) (sym there) ∙ sym mine.2 ∙ ap (λ (x : Slot S). (number_of x.of)) (sym same) ∙ s.2 in
              up.gone nat_cmp nat_cmp_total (λ (x : Place). x.number) places at p q below placed.rise h' (number_itself (get_or places at p).number q.number numbers)
              ) in
              (s.0, stay q.key differs ∙ s.1, s.2);
        },
      )

  -- it stays known where a listener waits for a descriptor
  pub starved_still : (slots : List (Option (Slot S))) (key : ℕ) (was is : Slot S) (flag then : Bool) → IsKnownStarved slots flag → slot_at slots key ≡ Some was
      → (is.starved ≡ true → then ≡ true) → (flag ≡ true → then ≡ true) → IsKnownStarved (set slots key (Some is)) then
  starved_still slots key was is flag then known here mine rest k slot there starved = elim (cases_eq k key) [
    | inl same ↦
        let both : Some is ≡ Some slot = sym (set_here slots key was (Some is) here) ∙ ap (λ (i : ℕ). slot_at (set slots key (Some is)) i) (sym same) ∙ there in
        let e : is ≡ slot = cc in
        mine (ap (λ (s : Slot S). s.starved) e ∙ starved)
    | inr other ↦ rest (known k slot (sym (others slots key (Some is) k other) ∙ there) starved)
  ]

  -- A slot changed, but not whether it may be read.
  pub changed_still : (slots : List (Option (Slot S))) (keys : ℕ) (readable : List Listed) (places : List Place) (key : ℕ) (was is : Slot S) → AreListed slots keys readable
      → ArePlaced slots places → slot_at slots key ≡ Some was → is.of ≡ was.of → is.ready.read ≡ was.ready.read
      → AreListed (set slots key (Some is)) keys readable × ArePlaced (set slots key (Some is)) places
  changed_still slots keys readable places key was is listed placed here of same =
      changed slots keys readable readable places key was is listed placed here of
      (lists_same readable (listed_at was.of key) was.ready.read is.ready.read listed.rise (λ may. listed.marked key was here may) (alone slots keys readable places key was listed placed here)
      (sym same))

  pub alone_so : (slots : List (Option (Slot S))) (keys : ℕ) (readable : List Listed) (places : List Place) (key : ℕ) (was : Slot S) (of : Who) → AreListed slots keys readable
      → ArePlaced slots places → slot_at slots key ≡ Some was → of ≡ was.of → IsAlone readable (listed_at of key) was.ready.read
  alone_so slots keys readable places key was of listed placed here same =
      subst (λ (w : Who). IsAlone readable (listed_at w key) was.ready.read) (sym same) (alone slots keys readable places key was listed placed here)

  pub changed_so : (slots : List (Option (Slot S))) (keys : ℕ) (readable after : List Listed) (places : List Place) (key : ℕ) (was is : Slot S) → AreListed slots keys readable
      → ArePlaced slots places → slot_at slots key ≡ Some was → is.of ≡ was.of → Lists readable after (listed_at is.of key) was.ready.read is.ready.read
      → AreListed (set slots key (Some is)) keys after × ArePlaced (set slots key (Some is)) places
  changed_so slots keys readable after places key was is listed placed here of lists =
      changed slots keys readable after places key was is listed placed here of
      (subst (λ (w : Who). Lists readable after (listed_at w key) was.ready.read is.ready.read) of lists)

  -- one slot stands at a key
  pub one_slot : (slots : List (Option (Slot S))) (key at : ℕ) (was slot : Slot S) → key ≡ at → slot_at slots at ≡ Some was → slot_at slots key ≡ Some slot → was ≡ slot
  one_slot slots key at was slot same here there =
      let both : Some was ≡ Some slot = sym here ∙ ap (λ (k : ℕ). slot_at slots k) (sym same) ∙ there in cc

  -- what contracts see of the table where a slot was written
  pub becomes : (old tab new : Table S) (key at : ℕ) (was is : Slot S) → tab ≡ old → key ≡ at → slot_at tab.slots at ≡ Some was → new.slots ≡ set tab.slots at (Some is)
      → new.places ≡ tab.places → new.starved ≡ tab.starved → new.last ≡ tab.last → Becomes old new key (Some is)
  becomes old tab new key at was is whole same here slots places starved last = record {
    here = ap (λ (k : ℕ). slot_at new.slots k) same ∙ ap (λ (s : List (Option (Slot S))). slot_at s at) slots ∙ set_here tab.slots at was (Some is) here;
    others = λ other not.
        ap (λ (s : List (Option (Slot S))). slot_at s other) slots ∙ others tab.slots at (Some is) other (λ e. not (e ∙ sym same)) ∙ ap (λ (t : Table S). slot_at t.slots other) whole;
    places = places ∙ ap (λ (t : Table S). t.places) whole;
    starved = starved ∙ ap (λ (t : Table S). t.starved) whole;
    last = last ∙ ap (λ (t : Table S). t.last) whole;
  }

  -- what they see of it where a listener was asked
  pub taken : (old tab new : Table S) (key at : ℕ) (was slot is : Slot S) → tab ≡ old → key ≡ at → was ≡ slot → slot_at tab.slots at ≡ Some was → new.slots ≡ set tab.slots at (Some is)
      → new.places ≡ tab.places → new.starved ≡ (tab.starved || is.starved) → new.last ≡ tab.last → is.of ≡ was.of → is.socket ≡ was.socket
      → is.ready.write ≡ was.ready.write → IsTaken old new key slot is
  taken old tab new key at was slot is whole same one here slots places starved last of socket stays = record {
    here = ap (λ (k : ℕ). slot_at new.slots k) same ∙ ap (λ (s : List (Option (Slot S))). slot_at s at) slots ∙ set_here tab.slots at was (Some is) here;
    others = λ other not.
        ap (λ (s : List (Option (Slot S))). slot_at s other) slots ∙ others tab.slots at (Some is) other (λ e. not (e ∙ sym same)) ∙ ap (λ (t : Table S). slot_at t.slots other) whole;
    places = places ∙ ap (λ (t : Table S). t.places) whole;
    last = last ∙ ap (λ (t : Table S). t.last) whole;
    starved = starved ∙ ap (λ (t : Table S). t.starved || is.starved) whole;
    of = of ∙ ap (λ (s : Slot S). s.of) one;
    socket = socket ∙ ap (λ (s : Slot S). s.socket) one;
    stays = stays ∙ ap (λ (s : Slot S). s.ready.write) one;
  }

  pub starved_without : (slots : List (Option (Slot S))) (key : ℕ) (was : Slot S) (flag : Bool) → IsKnownStarved slots flag → slot_at slots key ≡ Some was → IsKnownStarved (set slots key None) flag
  starved_without slots key was flag known here k slot there starved = elim (cases_eq k key) [
    | inl same ↦
        let clash : None ≡ Some slot = sym (set_here slots key was None here) ∙ ap (λ (i : ℕ). slot_at (set slots key None) i) (sym same) ∙ there in absurd (cc)
    | inr other ↦ known k slot (sym (others slots key None k other) ∙ there) starved
  ]

  -- the place of a number that was found
  pub found_place : (slots : List (Option (Slot S))) (places : List Place) (number at : ℕ) (p : Place) → ArePlaced slots places → at < length places → p ≡ get_or places at p
      → IsBinarySearchResult (λ q. nat_cmp q.number number) places (Ok at) → Finds slots number (Some p.key)
  found_place slots places number at p placed below is found =
      subst (λ (q : Place). Finds slots number (Some q.key)) (sym is) (finds_some slots places number at p placed below found)

  pub stay_without : (slots new : List (Option (Slot S))) (key : ℕ) → new ≡ set slots key None → OthersStay slots new key
  stay_without slots new key is other not = ap (λ (s : List (Option (Slot S))). slot_at s other) is ∙ others slots key None other not

  -- none has the number of the one that goes
  pub out : (old new : List (Option (Slot S))) (key number : ℕ) → Finds old number (Some key) → slot_at new key ≡ None → OthersStay old new key → Finds new number None
  out old new key number found gone stay k slot here same = elim (cases_eq k key) [
    | inl at ↦ let clash : None ≡ Some slot = sym gone ∙ ap (λ (i : ℕ). slot_at new i) (sym at) ∙ here in absurd (cc)
    | inr other ↦ other (found.3 k slot (sym (stay k other) ∙ here) same)
  ]

  pub starved_with : (old new : List (Option (Slot S))) (key : ℕ) (is : Slot S) (flag : Bool) → IsKnownStarved old flag → slot_at new key ≡ Some is → is.starved ≡ false
      → OthersStay old new key → IsKnownStarved new flag
  starved_with old new key is flag known now fed stay k slot there starved = elim (cases_eq k key) [
    | inl same ↦
        let both : Some is ≡ Some slot = sym now ∙ ap (λ (i : ℕ). slot_at new i) (sym same) ∙ there in
        let e : is ≡ slot = cc in
        let clash : false ≡ true = sym fed ∙ ap (λ (s : Slot S). s.starved) e ∙ starved in absurd (cc)
    | inr other ↦ known k slot (sym (stay k other) ∙ there) starved
  ]
