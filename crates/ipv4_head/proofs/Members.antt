-- What holds of each part of each set, as a part comes.
use Rattle.std.proofs.Common.{◌≡◌, ℕ, zero, suc, ◌==◌, ◌&&◌, nat_le, cond, Bool, true, false, List, [], ◌∷◌, ◌++◌, length, take, drop, find, Option, Some, None}
use Rattle.std.proofs.Common.{slice_get, slice_set, if◌then◌else◌, refl, sym, ◌∙◌, ap, subst, arith}
use Rattle.std.proofs.lemmas.Bool.Decides.{nat_tests}
use Rattle.std.proofs.lemmas.List.Folds.{find_at}
use Rattle.std.specs.List.{remove}
use Rattle.ipv4_head.specs.Sets.{OfParts, OfSets, Key, Part, PartSet, Outcome, UnevenPart, LongPart, Clashes, Waits, Joined, is_same_key, is_uneven, is_young, young, place_of, parts_for}
use Rattle.ipv4_head.specs.Sets.{put_in, with_room, with_part, outcome_among, changed_by, left_by, sets_after, sets_left, outcome}

-- keys that are told to be the same are
pub same_key : (a b : Key) → is_same_key a b ≡ true → a ≡ b
same_key a b is =
    let t = four (a.from == b.from) (a.to == b.to) (a.proto == b.proto) (a.ident == b.ident) is in
    let from : a.from ≡ b.from = (let h = t.0 in grind (arith, nat_tests, h)) in
    let to : a.to ≡ b.to = (let h = t.1 in grind (arith, nat_tests, h)) in
    let proto : a.proto ≡ b.proto = (let h = t.2 in grind (arith, nat_tests, h)) in
    let ident : a.ident ≡ b.ident = (let h = t.3 in grind (arith, nat_tests, h)) in
    λ i. record { from = from i; to = to i; proto = proto i; ident = ident i }
  where
    four : (a b c d : Bool) → (a && b && c && d) ≡ true → (a ≡ true) × (b ≡ true) × (c ≡ true) × (d ≡ true)
    four true true true true is = (refl, refl, refl, refl)
    four true true true false is = absurd cc
    four true true false d is = absurd cc
    four true false c d is = absurd cc
    four false b c d is = absurd cc

module _ (P : Key → Part → Type 0) where
  of_pushed : (key : Key) (parts : List Part) (p : Part) → OfParts P key parts → P key p → OfParts P key (parts ++ p ∷ [])
  of_pushed key [] p all is = (is, tt)
  of_pushed key (q ∷ parts) p all is = (all.0, of_pushed key parts p all.1 is)

  young_if : (b : Bool) (s : PartSet) (sets : List PartSet) → OfParts P s.key s.parts → OfSets P sets → OfSets P (cond b (s ∷ sets) sets)
  young_if true s sets is all = (is, all)
  young_if false s sets is all = all

  pub of_young : (now : ℕ) (sets : List PartSet) → OfSets P sets → OfSets P (young now sets)
  of_young now [] all = tt
  of_young now (s ∷ sets) all = young_if (is_young now s) s (young now sets) all.0 (of_young now sets all.1)

  of_front : (sets : List PartSet) (i : ℕ) → OfSets P sets → OfSets P (take i sets)
  of_front [] zero all = tt
  of_front [] (suc i) all = tt
  of_front (s ∷ sets) zero all = tt
  of_front (s ∷ sets) (suc i) all = (all.0, of_front sets i all.1)

  of_rest : (sets : List PartSet) (i : ℕ) → OfSets P sets → OfSets P (drop i sets)
  of_rest [] zero all = tt
  of_rest [] (suc i) all = tt
  of_rest (s ∷ sets) zero all = all
  of_rest (s ∷ sets) (suc i) all = of_rest sets i all.1

  of_both : (sets others : List PartSet) → OfSets P sets → OfSets P others → OfSets P (sets ++ others)
  of_both [] others all is = is
  of_both (s ∷ sets) others all is = (all.0, of_both sets others all.1 is)

  of_removed : (sets : List PartSet) (i : ℕ) → OfSets P sets → OfSets P (remove sets i)
  of_removed sets i all = of_both (take i sets) (drop (suc i) sets) (of_front sets i all) (of_rest sets (suc i) all)

  of_behind : (sets : List PartSet) → OfSets P sets → OfSets P (drop 1 sets)
  of_behind [] all = tt
  of_behind (s ∷ sets) all = all.1

  of_room : (sets : List PartSet) → OfSets P sets → OfSets P (with_room sets)
  of_room sets all = by (nat_le 16 (length sets))
    where
      by : (b : Bool) → OfSets P (if b then drop 1 sets else sets)
      by true = of_behind sets all
      by false = all

  of_more : (sets : List PartSet) (s : PartSet) → OfSets P sets → OfParts P s.key s.parts → OfSets P (sets ++ s ∷ [])
  of_more [] s all is = (is, tt)
  of_more (t ∷ sets) s all is = (all.0, of_more sets s all.1 is)

  of_changed : (sets : List PartSet) (i : ℕ) (s : PartSet) → OfSets P sets → OfParts P s.key s.parts → OfSets P (slice_set sets i s)
  of_changed [] i s all is = tt
  of_changed (t ∷ sets) zero s all is = (is, all.1)
  of_changed (t ∷ sets) (suc i) s all is = (all.0, of_changed sets i s all.1 is)

  pub of_there : (sets : List PartSet) (i : ℕ) (s : PartSet) → slice_get sets i ≡ Some s → OfSets P sets → OfParts P s.key s.parts
  of_there [] i s is all = cc
  of_there (t ∷ sets) zero s is all = let this : t ≡ s = cc in subst (λ (u : PartSet). OfParts P u.key u.parts) this all.0
  of_there (t ∷ sets) (suc i) s is all = of_there sets i s is all.1

  found_if : (key : Key) (t : PartSet) (o : Option PartSet) (s : PartSet) (b : Bool) → is_same_key key t.key ≡ b → (o ≡ Some s → is_same_key key s.key ≡ true) → cond b
      (Some t) o ≡ Some s → is_same_key key s.key ≡ true
  found_if key t o s true e later is = let this : t ≡ s = cc in ap (λ (u : PartSet). is_same_key key u.key) (sym this) ∙ e
  found_if key t o s false e later is = later is

  found : (key : Key) (sets : List PartSet) (s : PartSet) → find (λ (u : PartSet). is_same_key key u.key) sets ≡ Some s → is_same_key key s.key ≡ true
  found key [] s is = cc
  found key (t ∷ sets) s is = found_if key t (find (λ (u : PartSet). is_same_key key u.key) sets) s (is_same_key key t.key) refl (found key sets s) is

  -- the set at a key's place has that key
  pub found_key : (key : Key) (sets : List PartSet) (s : PartSet) → slice_get sets (place_of key sets) ≡ Some s → is_same_key key s.key ≡ true
  found_key key sets s is = found key sets s (find_at (λ (u : PartSet). is_same_key key u.key) sets ∙ is)

  of_put : (now : ℕ) (key : Key) (p : Part) (sets : List PartSet) (o : Option PartSet) → slice_get sets (place_of key sets) ≡ o → OfSets P sets → P key p → OfSets P (put_in now key p sets o)
  of_put now key p sets None at all is = of_more (with_room sets) _ (of_room sets all) (is, tt)
  of_put now key p sets (Some s) at all is =
      let key_is : key ≡ s.key = same_key key s.key (found_key key sets s at) in
      of_changed sets (place_of key sets) _ all (of_pushed s.key s.parts p (of_there sets (place_of key sets) s at all) (subst (λ k. P k p) key_is is))

  pub of_with_part : (now : ℕ) (key : Key) (p : Part) (sets : List PartSet) → OfSets P sets → P key p → OfSets P (with_part now key p sets)
  of_with_part now key p sets all is = of_put now key p sets (slice_get sets (place_of key sets)) refl all is

  -- what is kept isn't uneven
  kept_by : (o : Outcome) (now : ℕ) (key : Key) (p : Part) (sets : List PartSet) → OfSets P sets → (o ≡ Waits → P key p) → (o ≡ Joined → P key p) → OfSets P (changed_by o now key p sets)
  kept_by UnevenPart now key p sets all waits joins = all
  kept_by LongPart now key p sets all waits joins = all
  kept_by Clashes now key p sets all waits joins = of_removed sets (place_of key sets) all
  kept_by Waits now key p sets all waits joins = of_with_part now key p sets all (waits refl)
  kept_by Joined now key p sets all waits joins = of_with_part now key p sets all (joins refl)

  left_of : (o : Outcome) (key : Key) (sets : List PartSet) → OfSets P sets → OfSets P (left_by o key sets)
  left_of UnevenPart key sets all = all
  left_of LongPart key sets all = all
  left_of Clashes key sets all = all
  left_of Waits key sets all = all
  left_of Joined key sets all = of_removed sets (place_of key sets) all

  even_waits : (b : Bool) (o : Outcome) → (if b then UnevenPart else o) ≡ Waits → b ≡ false
  even_waits true o is = cc
  even_waits false o is = refl

  even_joins : (b : Bool) (o : Outcome) → (if b then UnevenPart else o) ≡ Joined → b ≡ false
  even_joins true o is = cc
  even_joins false o is = refl

  -- of the sets that wait, and of those after a part came
  pub of_changed_by : (now : ℕ) (key : Key) (p : Part) (waiting : List PartSet) → OfSets P waiting → (is_uneven p ≡ false → P key p) → OfSets P
      (changed_by (outcome_among p (parts_for key waiting)) now key p waiting)
  of_changed_by now key p waiting all is =
      kept_by (outcome_among p (parts_for key waiting)) now key p waiting all (λ waits. is (even_waits (is_uneven p) _ waits)) (λ joins. is (even_joins (is_uneven p) _ joins))

  pub of_after : (now : ℕ) (key : Key) (p : Part) (sets : List PartSet) → OfSets P sets → (is_uneven p ≡ false → P key p) → OfSets P (sets_after now key p sets)
  of_after now key p sets all is = of_changed_by now key p (young now sets) (of_young now sets all) is

  pub of_left : (now : ℕ) (key : Key) (p : Part) (sets : List PartSet) → OfSets P sets → (is_uneven p ≡ false → P key p) → OfSets P (sets_left now key p sets)
  of_left now key p sets all is = left_of (outcome now key p sets) key (sets_after now key p sets) (of_after now key p sets all is)
