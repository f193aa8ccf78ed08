-- What is answered of a part, by the sets for which the areas stand.
use Rattle.std.proofs.Common.{◌≡◌, ◌+◌, ◌/◌, ◌%◌, ◌<◌, ◌≤◌, ◌&&◌, not, List, ℕ, Bool, true, false, cond, zero, suc, inl, inr, [], ◌∷◌, ◌++◌, length, drop, set, ltb, leb, eqb, Option, None, Some}
use Rattle.std.proofs.Common.{refl, ap, sym, ◌∙◌, arith, subst, length-set, eqb-true, eq-eqb, add-zero, length-append}
use Rattle.std.specs.Prelude.{slice_get}
use Rattle.std.specs.List.{list_any, remove, position}
use Rattle.std.specs.Option.{option_map_or}
use Rattle.std.proofs.lemmas.Bool.{cases_lt, lt-ltb, ltb-false, or_parts}
use Rattle.std.proofs.lemmas.List.Folds.{position_or_len-set, position_or_len_push}
use Rattle.std.proofs.lemmas.List.Quantifiers.{position-Some}
use Rattle.std.proofs.lemmas.List.Sums.{prefix_len-le-length}
use Rattle.std.proofs.lemmas.Option.{cond_some, get_or_from_slice_get, slice_get_past, slice_get_within}
use Rattle.ipv4_head.specs.Sets.{Key, Part, PartSet, Outcome, Clashes, Joined, LongPart, UnevenPart, Waits, changed_by, do_clash, end_of, is_same_key, is_too_long, is_uneven, is_whole}
use Rattle.ipv4_head.specs.Sets.{outcome_among, parts_for, place_of, put_in, with_part, with_room}
use Rattle.ipv4_reasm.specs.declared.reasm.Added.{Added}
use Rattle.ipv4_reasm.specs.declared.reasm.Added.TheVariants.{Whole, Kept, Overlap}
use Rattle.ipv4_reasm.specs.Answers.{IsAnswered, IsWholeAt, answer_of, said}
use Rattle.ipv4_reasm.specs.Areas.{Fits, Gathered, Gathers, StandFor, StandsFor, after_part, begun, does_clash, is_full, place_in, roomy, with_head, with_joined, with_kept, with_octets}
use Rattle.ipv4_head.specs.Holes.{hole, is_in, lies_in}
use Rattle.ipv4_reasm.proofs.Clashing.{clash_same}
use Rattle.ipv4_reasm.proofs.Holing.{in_if, lies_endless, or_left}
use Rattle.ipv4_reasm.proofs.Keeping.{kept_gathers}
use Rattle.ipv4_reasm.proofs.Lists.{there}
use Rattle.ipv4_reasm.proofs.Standing.{stand_get, stand_length, stand_place, stand_pushed, stand_removed, stand_roomy, stand_set}
use Rattle.ipv4_reasm.proofs.Wholeness.{full_same}

-- a part that is neither uneven nor too long fits
pub fits_then : (p : Part) → is_uneven p ≡ false → is_too_long p ≡ false → Fits p
fits_then p even short =
    let e = or_parts (eqb (length p.body) 0) (p.more && not (eqb (length p.body % 8) 0)) even in
    record {
      carries = elim (cases_lt 0 (length p.body)) [ inl some ↦ some | inr none ↦ let zero_long : length p.body ≡ 0 = omega arith in cc (sym e.0 ∙ eq-eqb (length p.body) 0 zero_long) ];
      even = λ more. (length p.body / 8, let is = eqb-true (length p.body % 8) 0 (whole_units p.more (eqb (length p.body % 8) 0) more e.1) in omega arith);
      end = ltb-false 65515 (end_of p) short;
    }
  where
    whole_units : (a b : Bool) → a ≡ true → (a && not b) ≡ false → b ≡ true
    whole_units true true is h = refl
    whole_units true false is h = cc
    whole_units false b is h = cc

-- an area before the first part
pub begun_gathers : (key : Key) (now : ℕ) (g : Gathered) → length g.octets ≡ 65535 → Gathers (begun key now g) []
begun_gathers key now g room = record {
  room = room;
  octets = λ p c. absurd (let h = c.1 in omega arith);
  rise = (omega arith, omega arith, λ e. refl, λ t e. cc);
  holes = (record { missing = λ u is. refl; endless = λ e p c. absurd (let h = c.1 in omega arith); till = λ t e. cc }, tt);
  told = λ u. inr (inl (or_left (is_in u (hole 0 None)) false (in_if u (hole 0 None) (omega arith) (λ t e. cc))));
  below = λ p c. absurd (let h = c.1 in omega arith);
  top = λ h. absurd (omega arith);
  first = λ p c. absurd (let h = c.1 in omega arith);
  fits = λ p c. absurd (let h = c.1 in omega arith);
  apart = λ i j d less small. absurd (omega arith);
}

-- it lies in the one hole
pub begun_free : (key : Key) (now : ℕ) (g : Gathered) (p : Part) → does_clash (begun key now g) p ≡ false
begun_free key now g p = ap not (or_left (lies_in p (hole 0 None)) false (lies_endless p (hole 0 None) (omega arith) refl))

-- the header of the whole is no matter of the parts
head_made : (g : Gathered) (parts : List Part) → Gathers g parts → Gathers (with_joined g) parts
head_made g parts holds = record {
  room = holds.room;
  octets = holds.octets;
  rise = holds.rise;
  holes = holds.holes;
  told = holds.told;
  below = holds.below;
  top = holds.top;
  first = holds.first;
  fits = holds.fits;
  apart = holds.apart;
}

kept_key : (g : Gathered) (p : Part) → (with_kept g p).key ≡ g.key
kept_key g p = by_start (eqb p.place 0)
  where
    by_start : (b : Bool) → (cond b (with_head (with_octets g p) p) (with_octets g p)).key ≡ g.key
    by_start true = refl
    by_start false = refl

kept_since : (g : Gathered) (p : Part) → (with_kept g p).since ≡ g.since
kept_since g p = by_start (eqb p.place 0)
  where
    by_start : (b : Bool) → (cond b (with_head (with_octets g p) p) (with_octets g p)).since ≡ g.since
    by_start true = refl
    by_start false = refl

-- an area with one part more
pub after_stands : (g : Gathered) (s : PartSet) (p : Part) → g.key ≡ s.key → g.since ≡ s.since → Gathers g s.parts → Fits p → list_any (do_clash p) s.parts ≡ false
    → StandsFor (after_part g p) (record s { parts = s.parts ++ p ∷ [] })
after_stands g s p key since holds fits none =
    let kept = kept_gathers g s.parts p holds fits none in
    by_full kept (is_full (with_kept g p)) refl
  where
    by_full : Gathers (with_kept g p) (s.parts ++ p ∷ []) → (b : Bool) → is_full (with_kept g p) ≡ b → StandsFor (cond b (with_joined (with_kept g p)) (with_kept g p))
        (record s { parts = s.parts ++ p ∷ [] })
    by_full kept true e = record {
      key = kept_key g p ∙ key;
      since = kept_since g p ∙ since;
      parts = head_made (with_kept g p) (s.parts ++ p ∷ []) kept;
      joined = λ h. refl;
    }
    by_full kept false e = record {
      key = kept_key g p ∙ key;
      since = kept_since g p ∙ since;
      parts = kept;
      joined = λ h. cc (sym h ∙ sym (full_same (with_kept g p) (s.parts ++ p ∷ []) kept) ∙ e);
    }

pub same_key : (a b : Key) → is_same_key a b ≡ true → a ≡ b
same_key a b h =
    let e = four (eqb a.from b.from) (eqb a.to b.to) (eqb a.proto b.proto) (eqb a.ident b.ident) h in
    ap (λ x. record { from = x; to = a.to; proto = a.proto; ident = a.ident }) (eqb-true a.from b.from e.0)
    ∙ ap (λ x. record { from = b.from; to = x; proto = a.proto; ident = a.ident }) (eqb-true a.to b.to e.1)
    ∙ ap (λ x. record { from = b.from; to = b.to; proto = x; ident = a.ident }) (eqb-true a.proto b.proto e.2)
    ∙ ap (λ x. record { from = b.from; to = b.to; proto = b.proto; ident = x }) (eqb-true a.ident b.ident e.3)
  where
    four : (a b c d : Bool) → (a && b && c && d) ≡ true → (a ≡ true) × (b ≡ true) × (c ≡ true) × (d ≡ true)
    four true true true d h = (refl, refl, refl, h)
    four true true false d h = cc
    four true false c d h = cc
    four false b c d h = cc

-- what becomes of a part that fits
pub outcome_is : (p : Part) (parts : List Part) → is_uneven p ≡ false → is_too_long p ≡ false → outcome_among p parts ≡ cond (list_any (do_clash p) parts) Clashes
    (cond (is_whole (parts ++ p ∷ [])) Joined Waits)
outcome_is p parts even short =
    ap (λ b. cond b UnevenPart (cond (is_too_long p) LongPart (cond (list_any (do_clash p) parts) Clashes (cond (is_whole (parts ++ p ∷ [])) Joined Waits)))) even
    ∙ ap (λ b. cond b LongPart (cond (list_any (do_clash p) parts) Clashes (cond (is_whole (parts ++ p ∷ [])) Joined Waits))) short

by_outcome : (now : ℕ) (key : Key) (p : Part) (sets : List PartSet) (held : List Gathered) (added : Added) (o : Outcome) → outcome_among p (parts_for key sets) ≡ o
    → StandFor held (changed_by o now key p sets) → said added ≡ o → ((area : ℕ) → added ≡ Whole area → IsWholeAt (changed_by o now key p sets) key area) → IsAnswered now key p sets held added
by_outcome now key p sets held added o is stand says area = record {
  stand = subst (λ (x : Outcome). StandFor held (changed_by x now key p sets)) (sym is) stand;
  says = says ∙ sym is;
  area = λ a e. subst (λ (x : Outcome). IsWholeAt (changed_by x now key p sets) key a) (sym is) (area a e);
}

get_set_same : {X : Type 0} (xs : List X) (i : ℕ) (y : X) → i < length xs → slice_get (set xs i y) i ≡ Some y
get_set_same [] i y h = absurd (omega arith)
get_set_same (x ∷ xs) zero y h = refl
get_set_same (x ∷ xs) (suc i) y h = get_set_same xs i y (omega arith)

pub get_last : {X : Type 0} (xs : List X) (y : X) → slice_get (xs ++ y ∷ []) (length xs) ≡ Some y
get_last [] y = refl
get_last (x ∷ xs) y = get_last xs y

-- the set for which the area of a key stands
record Found (key : Key) (sets : List PartSet) (i : ℕ) (g : Gathered) (s : PartSet) : Type 0 where
  pub place : place_of key sets ≡ i
  pub at : slice_get sets i ≡ Some s
  pub stands : StandsFor g s
  pub parts : parts_for key sets ≡ s.parts

abbrev set_parts : Option PartSet → List Part
set_parts o = option_map_or (λ (s : PartSet). s.parts) o []

found : (key : Key) (sets : List PartSet) (held : List Gathered) (g : Gathered) → StandFor held sets → slice_get held (place_in key held) ≡ Some g → (s : PartSet) × Found key sets
    (place_in key held) g s
found key sets held g stand at =
    let s = stand_get held sets (place_in key held) g stand at in
    let place = sym (stand_place key held sets stand) in
    (s.0, record { place = place; at = s.1.0; stands = s.1.1; parts = ap set_parts (ap (slice_get sets) place ∙ s.1.0) })

-- a part to those of its datagram
pub answered_clash : (now : ℕ) (key : Key) (p : Part) (sets : List PartSet) (held : List Gathered) (g : Gathered) → is_uneven p ≡ false → is_too_long p ≡ false →
    StandFor held sets → slice_get held (place_in key held) ≡ Some g → does_clash g p ≡ true
    → IsAnswered now key p sets (remove held (place_in key held)) Overlap
answered_clash now key p sets held g even short stand at clash =
    let f = found key sets held g stand at in
    let test = ap (list_any (do_clash p)) f.1.parts ∙ sym (clash_same g f.0.parts p f.1.stands.parts (fits_then p even short)) ∙ clash in
    by_outcome now key p sets (remove held (place_in key held)) Overlap Clashes
    (outcome_is p (parts_for key sets) even short ∙ ap (λ b. cond b Clashes (cond (is_whole (parts_for key sets ++ p ∷ [])) Joined Waits)) test)
    (subst (λ n. StandFor (remove held (place_in key held)) (remove sets n)) (sym f.1.place) (stand_removed held sets (place_in key held) stand))
    refl
    (λ a e. cc)

-- the place of a set that got a part
set_place : (key : Key) (sets : List PartSet) (s after : PartSet) (i : ℕ) → place_of key sets ≡ i → slice_get sets i ≡ Some s → after.key ≡ s.key → place_of key (set sets i after) ≡ i
set_place key sets s after i place at same =
    position_or_len-set (λ (t : PartSet). is_same_key key t.key) sets i after s (ap (is_same_key key) (same ∙ ap (λ (t : PartSet). t.key) (sym (get_or_from_slice_get sets i s s at)))) ∙ place

-- the place of a new set
same_itself : (key : Key) → is_same_key key key ≡ true
same_itself key =
    four (eqb key.from key.from) (eqb key.to key.to) (eqb key.proto key.proto) (eqb key.ident key.ident) (eq-eqb key.from key.from refl) (eq-eqb key.to key.to refl)
    (eq-eqb key.proto key.proto refl) (eq-eqb key.ident key.ident refl)
  where
    four : (a b c d : Bool) → a ≡ true → b ≡ true → c ≡ true → d ≡ true → (a && b && c && d) ≡ true
    four true true true d e f g h = h
    four true true false d e f g h = cc
    four true false c d e f g h = cc
    four false b c d e f g h = cc

absent_behind : (key : Key) (sets : List PartSet) → place_of key sets ≡ length sets → place_of key (drop 1 sets) ≡ length (drop 1 sets)
absent_behind key [] absent = refl
absent_behind key (s ∷ sets) absent = by_test (is_same_key key s.key) absent
  where
    by_test : (b : Bool) → cond (not b) (1 + place_of key sets) 0 ≡ suc (length sets) → place_of key sets ≡ length sets
    by_test true h = absurd (omega arith)
    by_test false h = omega arith

absent_roomy : (key : Key) (sets : List PartSet) → place_of key sets ≡ length sets → place_of key (with_room sets) ≡ length (with_room sets)
absent_roomy key sets absent = by_length (leb 16 (length sets))
  where
    by_length : (b : Bool) → place_of key (cond b (drop 1 sets) sets) ≡ length (cond b (drop 1 sets) sets)
    by_length true = absent_behind key sets absent
    by_length false = absent

start_place : (key : Key) (sets : List PartSet) (s : PartSet) → place_of key sets ≡ length sets → s.key ≡ key → (n : ℕ) → length (with_room sets) ≡ n → place_of key (with_room sets ++ s ∷ []) ≡ n
start_place key sets s absent same n long =
    let roomy_absent = absent_roomy key sets absent in
    position_or_len_push (λ (t : PartSet). is_same_key key t.key) (with_room sets) s
    ∙ ap (λ b. cond b (length (with_room sets) + cond (is_same_key key s.key) 0 1) (place_of key (with_room sets))) (eq-eqb (place_of key (with_room sets)) (length (with_room sets)) roomy_absent)
    ∙ ap (λ b. length (with_room sets) + cond b 0 1) (ap (is_same_key key) same ∙ same_itself key)
    ∙ add-zero (length (with_room sets)) ∙ long

-- the answer for a part that was put in
answered_by : (now : ℕ) (key : Key) (p : Part) (sets : List PartSet) (held : List Gathered) (i : ℕ) (whole : Bool) → outcome_among p
    (parts_for key sets) ≡ cond whole Joined Waits → StandFor held (with_part now key p sets)
    → (whole ≡ true → IsWholeAt (with_part now key p sets) key i) → IsAnswered now key p sets held (answer_of i whole)
answered_by now key p sets held i true outcome stand at =
    by_outcome now key p sets held (Whole i) Joined outcome stand refl
    (λ a e. let same : i ≡ a = cc in subst (λ n. IsWholeAt (with_part now key p sets) key n) same (at refl))
answered_by now key p sets held i false outcome stand at =
    by_outcome now key p sets held Kept Waits outcome stand refl (λ a e. cc)

pub answered_put : (now : ℕ) (key : Key) (p : Part) (sets : List PartSet) (held : List Gathered) (g : Gathered) → is_uneven p ≡ false → is_too_long p ≡ false → StandFor held sets →
    slice_get held (place_in key held) ≡ Some g → g.key ≡ key → does_clash g p ≡ false
    → IsAnswered now key p sets (set held (place_in key held) (after_part g p)) (answer_of (place_in key held) (is_full (with_kept g p)))
answered_put now key p sets held g even short stand at same clash =
    let i = place_in key held in
    let f = found key sets held g stand at in
    let s = f.0 in
    let fits = fits_then p even short in
    let none = sym (clash_same g s.parts p f.1.stands.parts fits) ∙ clash in
    let after = after_stands g s p f.1.stands.key f.1.stands.since f.1.stands.parts fits none in
    let full = full_same (with_kept g p) (s.parts ++ p ∷ []) (kept_gathers g s.parts p f.1.stands.parts fits none) in
    let s_after : PartSet = record s { parts = s.parts ++ p ∷ [] } in
    let sets_are : with_part now key p sets ≡ set sets i s_after =
    ap (put_in now key p sets) (ap (slice_get sets) f.1.place ∙ f.1.at) ∙ ap (λ n. set sets n s_after) f.1.place in
    let stands : StandFor (set held i (after_part g p)) (with_part now key p sets) = subst (StandFor (set held i (after_part g p))) (sym sets_are)
    (stand_set held sets i (after_part g p) s_after stand after) in
    let outcome : outcome_among p (parts_for key sets) ≡ cond (is_full (with_kept g p)) Joined Waits =
    outcome_is p (parts_for key sets) even short
    ∙ ap (λ (parts : List Part). cond (list_any (do_clash p) parts) Clashes (cond (is_whole (parts ++ p ∷ [])) Joined Waits)) f.1.parts
    ∙ ap (λ b. cond b Clashes (cond (is_whole (s.parts ++ p ∷ [])) Joined Waits)) none
    ∙ ap (λ b. cond b Joined Waits) (sym full) in
    let within = slice_get_within held i g at in
    let size = length-set held i (after_part g p) in
    let in_sets = slice_get_within sets i s f.1.at in
    answered_by now key p sets (set held i (after_part g p)) i (is_full (with_kept g p)) outcome stands
    (λ h. subst (λ (l : List PartSet). IsWholeAt l key i) (sym sets_are)
    (record { place = set_place key sets s s_after i f.1.place f.1.at refl; set = (s_after, (get_set_same sets i s_after in_sets, sym f.1.stands.key ∙ same, sym full ∙ h)) }))

pub answered_start : (now : ℕ) (key : Key) (p : Part) (sets : List PartSet) (held : List Gathered) (g : Gathered) → is_uneven p ≡ false → is_too_long p ≡ false →
    StandFor held sets → place_in key held ≡ length held → length g.octets ≡ 65535
    → IsAnswered now key p sets (roomy held ++ after_part (begun key now g) p ∷ []) (answer_of (length (roomy held)) (is_full (with_kept (begun key now g) p)))
answered_start now key p sets held g even short stand absent room =
    let i = length (roomy held) in
    let area = begun key now g in
    let s : PartSet = record { key = key; since = now; parts = [] } in
    let s_after : PartSet = record { key = key; since = now; parts = p ∷ [] } in
    let fits = fits_then p even short in
    let holds = begun_gathers key now g room in
    let after = after_stands area s p refl refl holds fits refl in
    let full = full_same (with_kept area p) (p ∷ []) (kept_gathers area [] p holds fits refl) in
    let absent_set : place_of key sets ≡ length sets = sym (stand_place key held sets stand) ∙ absent ∙ stand_length held sets stand in
    let none : slice_get sets (place_of key sets) ≡ None = slice_get_past sets (place_of key sets) (let a = stand_place key held sets stand in let b = stand_length held sets stand in omega arith) in
    let parts : parts_for key sets ≡ [] = ap set_parts none in
    let sets_are : with_part now key p sets ≡ with_room sets ++ s_after ∷ [] = ap (put_in now key p sets) none in
    let roomy_stand = stand_roomy held sets stand in
    let stands : StandFor (roomy held ++ after_part area p ∷ []) (with_part now key p sets) =
    subst (StandFor (roomy held ++ after_part area p ∷ [])) (sym sets_are) (stand_pushed (roomy held) (with_room sets) (after_part area p) s_after roomy_stand after) in
    let outcome : outcome_among p (parts_for key sets) ≡ cond (is_full (with_kept area p)) Joined Waits =
    outcome_is p (parts_for key sets) even short
    ∙ ap (λ (parts : List Part). cond (list_any (do_clash p) parts) Clashes (cond (is_whole (parts ++ p ∷ [])) Joined Waits)) parts
    ∙ ap (λ b. cond b Joined Waits) (sym full) in
    let size = length-append (roomy held) (after_part area p ∷ []) in
    answered_by now key p sets (roomy held ++ after_part area p ∷ []) i (is_full (with_kept area p)) outcome stands
    (λ h. subst (λ (l : List PartSet). IsWholeAt l key i) (sym sets_are)
    (record {
      place = start_place key sets s_after absent_set refl (length (roomy held)) (sym (stand_length (roomy held) (with_room sets) roomy_stand));
      set = (s_after, (ap (slice_get (with_room sets ++ s_after ∷ [])) (stand_length (roomy held) (with_room sets) roomy_stand) ∙ get_last (with_room sets) s_after, refl, sym full ∙ h));
    }))

-- for a place that none has
abbrev nothing : Gathered
nothing = record { key = record { from = 0; to = 0; proto = 0; ident = 0 }; since = 0; octets = []; holes = []; top = 0; life = 0; head = []; joined = [] }

-- by where the area of the key is found
pub gathered_some : (now : ℕ) (key : Key) (p : Part) (sets : List PartSet) (held after : List Gathered) (added : Added) (i : ℕ) → is_uneven p ≡ false → is_too_long p ≡ false → StandFor held sets
    → position (λ (g : Gathered). is_same_key key g.key) held ≡ Some i
    → ((g : Gathered) → slice_get held i ≡ Some g → does_clash g p ≡ true → (added ≡ Overlap) × (after ≡ remove held i))
    → ((g : Gathered) → slice_get held i ≡ Some g → does_clash g p ≡ false → (added ≡ answer_of i (is_full (with_kept g p))) × (after ≡ set held i (after_part g p)))
    → IsAnswered now key p sets after added
gathered_some now key p sets held after added i even short stand is clash put =
    let place = (cond_some (ltb (place_in key held) (length held)) (place_in key held) i is).1 in
    let told = position-Some (λ (g : Gathered). is_same_key key g.key) held i in
    let within = (told nothing is).0 in
    let g = there held i within in
    let same = same_key key g.0.key (ap (λ (x : Gathered). is_same_key key x.key) (sym (get_or_from_slice_get held i g.0 nothing g.1)) ∙ (told nothing is).1) in
    let at : slice_get held (place_in key held) ≡ Some g.0 = ap (slice_get held) place ∙ g.1 in
    by_test g.0 g.1 at (sym same) place (does_clash g.0 p) refl
  where
    by_test : (g : Gathered) → slice_get held i ≡ Some g → slice_get held (place_in key held) ≡ Some g → g.key ≡ key → place_in key held ≡ i → (b : Bool) → does_clash g p ≡ b →
        IsAnswered now key p sets after added
    by_test g at as_well same place true h =
        let told = clash g at h in
        subst (λ (a : Added). IsAnswered now key p sets after a) (sym told.0)
        (subst (λ (l : List Gathered). IsAnswered now key p sets l Overlap) (ap (remove held) place ∙ sym told.1) (answered_clash now key p sets held g even short stand as_well h))
    by_test g at as_well same place false h =
        let told = put g at h in
        subst (λ (a : Added). IsAnswered now key p sets after a) (ap (λ n. answer_of n (is_full (with_kept g p))) place ∙ sym told.0)
        (subst (λ (l : List Gathered). IsAnswered now key p sets l (answer_of (place_in key held) (is_full (with_kept g p)))) (ap (λ n. set held n (after_part g p)) place ∙ sym told.1)
        (answered_put now key p sets held g even short stand as_well same h))

pub gathered_none : (now : ℕ) (key : Key) (p : Part) (sets : List PartSet) (held after : List Gathered) (added : Added) (g : Gathered) → is_uneven p ≡ false →
    is_too_long p ≡ false → StandFor held sets
    → position (λ (g : Gathered). is_same_key key g.key) held ≡ None → length g.octets ≡ 65535
    → after ≡ roomy held ++ after_part (begun key now g) p ∷ [] → added ≡ answer_of (length (roomy held)) (is_full (with_kept (begun key now g) p))
    → IsAnswered now key p sets after added
gathered_none now key p sets held after added g even short stand is room eq says =
    let absent : place_in key held ≡ length held = past (place_in key held) (length held) (prefix_len-le-length (λ (x : Gathered). not (is_same_key key x.key)) held) is in
    subst (λ (a : Added). IsAnswered now key p sets after a) (sym says)
    (subst (λ (l : List Gathered). IsAnswered now key p sets l (answer_of (length (roomy held)) (is_full (with_kept (begun key now g) p)))) (sym eq)
    (answered_start now key p sets held g even short stand absent room))
  where
    past : (a n : ℕ) → a ≤ n → cond (ltb a n) (Some a) None ≡ None → a ≡ n
    past a n low h = elim (cases_lt a n) [ inl less ↦ cc (sym h ∙ ap (λ b. cond b (Some a) None) (lt-ltb a n less)) | inr more ↦ omega arith ]

-- the area of an answer
pub area_of : (i area : ℕ) (whole : Bool) → answer_of i whole ≡ Whole area → i ≡ area
area_of i area true is = cc
area_of i area false is = cc
