-- What of the wants is told, and what is left of them.
use Rattle.std.proofs.Common.{◌≡◌, ℕ, zero, suc, ◌<◌, ◌≤◌, ◌+◌, Bool, true, false, ◌&&◌, ◌||◌, not, if◌then◌else◌, List, [], ◌∷◌, ◌++◌, length, get_or, take, drop, Option, Some, None, Err, Less, Equal, Greater, inl, inr, refl, sym, ap, subst, ◌∙◌, arith, ◌⊎◌}
use Rattle.std.specs.List.{Contains}
use Rattle.std.specs.List.Sorted.{IsBinarySearchResult}
use Rattle.std.specs.declared.cmp.Ordering.{Ordering}
use Rattle.std.specs.Cmp.{IsTotalOrder}
use Rattle.std.proofs.lemmas.Bool.{cases_lt}
use Rattle.std.proofs.lemmas.List.{append-nil, get_or_default, take-append-drop, take_more}
use Rattle.std.proofs.lemmas.List.Elements.{Contains-append_cases, Contains-append_left, Contains-append_right, Contains-push_cases}
use Rattle.poll_list.specs.declared.Want.{Want}
use Rattle.poll_list.specs.declared.Who.{Who}
use Rattle.poll_list.specs.declared.Who.TheVariants.{Link, Listener, Udp, Tcp}
use Rattle.poll_list.specs.Listing.{same_who}
use Rattle.poll_list.specs.Writes.{count_to_write}
use Rattle.poll_list.specs.Picks.{Adds, Begins, GoesOn, part_in, as_list}
use Rattle.poll_list.proofs.Counting.{is_counted}
use Rattle.poll_list.proofs.Picking.{goes_on_step}
use Rattle.net_world.specs.declared.slot.Slot.{Slot}
use Rattle.net_world.specs.declared.sockets.Known.{Known}
use Rattle.net_world.specs.declared.ready_list.Listed.{Listed}
use Rattle.net_world.specs.Tables.{InOrder, rank_of, by_rank, Rise, slot_at, known_of, one}
use Rattle.net_world.specs.Telling.{AreInOrder, AreReady, IsKnown, IsLinkAtMost, IsReadable, IsReady, IsWritable, TellsRead, TellsWrite, read_sockets}
use Rattle.net_world.proofs.Ascending as up
use Rattle.net_world.proofs.Standing.{by_rank_total, rank_itself}

-- the part of a want in the directions that are known
abbrev part_with : Bool → Bool → Want → Want
part_with r w want = record { of = want.of; read = want.read && r; write = want.write && w }

and_first : (a b : Bool) → (a && b) ≡ true → a ≡ true
and_first true b is = refl
and_first false b is = is

and_second : (a b : Bool) → (a && b) ≡ true → b ≡ true
and_second true b is = is
and_second false b is = absurd (cc)

and_both : (a b : Bool) → a ≡ true → b ≡ true → (a && b) ≡ true
and_both true b x y = y
and_both false b x y = absurd (cc)

and_false : (a : Bool) → (a && false) ≡ false
and_false true = refl
and_false false = refl

pub or_second : (a b : Bool) → b ≡ true → (a || b) ≡ true
or_second true b is = refl
or_second false b is = is

or_first : (a b : Bool) → a ≡ true → (a || b) ≡ true
or_first true b is = refl
or_first false b is = absurd (cc)

in_list : (x : Option Want) (part : Want) → Contains (as_list x) part → x ≡ Some part
in_list None part h = absurd (up.has_from [] part h)
in_list (Some y) part h = elim (up.has_from (y ∷ []) part h) [ inl is ↦ ap (λ (p : Want). Some p) is | inr none ↦ absurd none ]

in_part : (r w : Bool) (want part : Want) → Contains (as_list (part_in r w want)) part → part_with r w want ≡ part
in_part r w want part h = by ((want.read && r) || (want.write && w)) (in_list (part_in r w want) part h)
  where
    by : (b : Bool) → (if b then Some (part_with r w want) else None) ≡ Some part → part_with r w want ≡ part
    by true is = cc
    by false is = cc

is_part : (r w : Bool) (want : Want) → ((want.read && r) || (want.write && w)) ≡ true → Contains (as_list (part_in r w want)) (part_with r w want)
is_part r w want is = subst (λ (b : Bool). Contains (as_list (if b then Some (part_with r w want) else None)) (part_with r w want)) (sym is) (0, omega arith, refl)

-- what is told stays told where more is
pub tells_read_on : (old new : List Want) (of : Who) → Begins old new → TellsRead old of → TellsRead new of
tells_read_on old new of (more, is) (part, h, same, reads) = (part, subst (λ (l : List Want). Contains l part) (sym is) (Contains-append_left old more part h), same, reads)

pub tells_write_on : (old new : List Want) (of : Who) → Begins old new → TellsWrite old of → TellsWrite new of
tells_write_on old new of (more, is) (part, h, same, writes) = (part, subst (λ (l : List Want). Contains l part) (sym is) (Contains-append_left old more part h), same, writes)

pub tells_read : (old new : List Want) (r w : Bool) (want : Want) → new ≡ old ++ as_list (part_in r w want) → want.read ≡ true → r ≡ true → TellsRead new want.of
tells_read old new r w want is wanted known =
    let both : (want.read && r) ≡ true = and_both want.read r wanted known in (
      part_with r w want,
      subst (λ (l : List Want). Contains l (part_with r w want)) (sym is) (Contains-append_right old (as_list (part_in r w want)) (part_with r w want)
          (is_part r w want (or_first (want.read && r) (want.write && w) both))),
      refl,
      both,
    )

pub tells_write : (old new : List Want) (r w : Bool) (want : Want) → new ≡ old ++ as_list (part_in r w want) → want.write ≡ true → w ≡ true → TellsWrite new want.of
tells_write old new r w want is wanted known =
    let both : (want.write && w) ≡ true = and_both want.write w wanted known in (
      part_with r w want,
      subst (λ (l : List Want). Contains l (part_with r w want)) (sym is) (Contains-append_right old (as_list (part_in r w want)) (part_with r w want)
          (is_part r w want (or_second (want.read && r) (want.write && w) both))),
      refl,
      both,
    )

-- how many are told for reading
read_sockets-append : (xs ys : List Want) → read_sockets (xs ++ ys) ≡ read_sockets xs + read_sockets ys
read_sockets-append [] ys = omega arith
read_sockets-append (x ∷ xs) ys = omega (arith, read_sockets-append xs ys)

read_part : (r w : Bool) (want : Want) → read_sockets (as_list (part_in r w want)) ≤ one (want.read && r)
read_part r w want = by ((want.read && r) || (want.write && w))
  where
    most : (a b : Bool) → one (a && b) ≤ one a
    most true true = omega arith
    most true false = omega arith
    most false b = omega arith

    by : (b : Bool) → read_sockets (as_list (if b then Some (part_with r w want) else None)) ≤ one (want.read && r)
    by true = omega (arith, most (want.read && r) (not (same_who Link want.of)))
    by false = omega arith

pub read_none : (old new : List Want) (w : Bool) (want : Want) → new ≡ old ++ as_list (part_in false w want) → read_sockets new ≡ read_sockets old
read_none old new w want is =
    let none : one (want.read && false) ≡ 0 = ap one (and_false want.read) in
    let all : read_sockets new ≡ read_sockets old + read_sockets (as_list (part_in false w want)) = ap read_sockets is ∙ read_sockets-append old (as_list (part_in false w want)) in
    omega (arith, none, all, read_part false w want)

pub read_more : (old new : List Want) (r w : Bool) (want : Want) → new ≡ old ++ as_list (part_in r w want) → read_sockets new ≤ read_sockets old + one want.read
read_more old new r w want is =
    let all : read_sockets new ≡ read_sockets old + read_sockets (as_list (part_in r w want)) = ap read_sockets is ∙ read_sockets-append old (as_list (part_in r w want)) in
    omega (arith, all, read_part r w want, less want.read r)
  where
    less : (a b : Bool) → one (a && b) ≤ one a
    less true true = omega arith
    less true false = omega arith
    less false b = omega arith

-- the link alone is told
same_link : (of : Who) → same_who Link of ≡ true → of ≡ Link
same_link Link is = refl
same_link _ is = cc

pub link_at_most : (known : Known) (want : Want) (old new : List Want) → same_who Link want.of ≡ true → old ≡ [] → new ≡ old ++ as_list (part_in known.read known.write want) → IsLinkAtMost known new
link_at_most known want old new is none adds = by (part_in known.read known.write want) (λ part h. in_part known.read known.write want part h) (adds ∙ ap (λ (l : List Want). l ++ as_list (part_in known.read known.write want)) none)
  where
    by : (x : Option Want) → ((part : Want) → Contains (as_list x) part → part_with known.read known.write want ≡ part) → new ≡ as_list x → IsLinkAtMost known new
    by None each same = inl same
    by (Some part) each same =
        let e : part_with known.read known.write want ≡ part = each part (0, omega arith, refl) in
        inr (
          part,
          same,
          ap (λ (p : Want). p.of) (sym e) ∙ same_link want.of is,
          λ reads. and_second want.read known.read (ap (λ (p : Want). p.read) e ∙ reads),
          λ writes. and_second want.write known.write (ap (λ (p : Want). p.write) e ∙ writes),
        )

pub no_link_read : (known : Known) (told : List Want) → IsLinkAtMost known told → read_sockets told ≡ 0
no_link_read known told (inl none) = ap read_sockets none
no_link_read known told (inr (part, is, link, reads, writes)) = ap read_sockets is ∙ by part.read part.of link
  where
    by : (read : Bool) (of : Who) → of ≡ Link → read_sockets (record { of = of; read = read; write = part.write } ∷ []) ≡ 0
    by true of is = rw is refl
    by false of is = refl

module _ {S : Type 0} (slots : List (Option (Slot S))) where
  pub link_ready : (known : Known) (told : List Want) → IsLinkAtMost known told → AreReady known slots told
  link_ready known told (inl none) part h = absurd (up.has_from [] part (subst (λ (l : List Want). Contains l part) none h))
  link_ready known told (inr (only, is, link, reads, writes)) part h =
      elim (up.has_from (only ∷ []) part (subst (λ (l : List Want). Contains l part) is h)) [
        | inl same ↦ subst (λ (p : Want). IsReady known slots p) same (inl (link, reads, writes))
        | inr none ↦ absurd none
      ]

  -- what is ready by less that is known is so by more
  pub ready_by : (a b : Known) (told : List Want) → AreReady a slots told → (a.read ≡ true → b.read ≡ true) → (a.write ≡ true → b.write ≡ true) → AreReady b slots told
  ready_by a b told all reads writes part h = elim (all part h) [ inl (link, r, w) ↦ inl (link, λ x. reads (r x), λ x. writes (w x)) | inr socket ↦ inr socket ]

  pub known_reads : (of : Who) (known : Known) → IsKnown slots of known → known.read ≡ true → IsReadable slots of
  known_reads of known (inl none) is = absurd (cc)
  known_reads of known (inr (key, slot, at, same, knows)) is = (key, slot, at, same, ap (λ (k : Known). k.read) (sym knows) ∙ is)

  known_writes : (of : Who) (known : Known) → IsKnown slots of known → known.write ≡ true → IsWritable slots of
  known_writes of known (inl none) is = absurd (cc)
  known_writes of known (inr (key, slot, at, same, knows)) is = (key, slot, at, same, ap (λ (k : Known). k.write) (sym knows) ∙ is)

  -- what was told is ready, and so is the part that was added
  pub ready_on : (link : Known) (old new : List Want) (r w : Bool) (want : Want) → new ≡ old ++ as_list (part_in r w want) → (r ≡ true → IsReadable slots want.of)
      → (w ≡ true → IsWritable slots want.of) → AreReady link slots old → AreReady link slots new
  ready_on link old new r w want is reads writes all part h =
      elim (Contains-append_cases old (as_list (part_in r w want)) part (subst (λ (l : List Want). Contains l part) is h)) [
        | inl before ↦ all part before
        | inr added ↦
            let e : part_with r w want ≡ part = in_part r w want part added in
            subst (λ (p : Want). IsReady link slots p) e (inr (λ x. reads (and_second want.read r x), λ x. writes (and_second want.write w x)))
      ]

  pub ready_on_written : (link known : Known) (old new : List Want) (want : Want) → new ≡ old ++ as_list (part_in false known.write want) → IsKnown slots want.of known
      → AreReady link slots old → AreReady link slots new
  ready_on_written link known old new want is knows all =
      ready_on link old new false known.write want is (λ no. absurd (cc)) (λ writes. known_writes want.of known knows writes) all

  pub ready_on_known : (link known : Known) (old new : List Want) (want : Want) → new ≡ old ++ as_list (part_in known.read known.write want) → IsKnown slots want.of known
      → AreReady link slots old → AreReady link slots new
  ready_on_known link known old new want is knows all =
      ready_on link old new known.read known.write want is (λ reads. known_reads want.of known knows reads) (λ writes. known_writes want.of known knows writes) all

-- each want for writing whose socket is ready for it is told
abbrev pub AreWritten : {S : Type 0} → List (Option (Slot S)) → List Want → List Want → Type 0
AreWritten slots wants told = (want : Want) → Contains wants want → want.write ≡ true → IsWritable slots want.of → TellsWrite told want.of

take_next : (wants : List Want) (i : ℕ) (d : Want) → i < length wants → take (i + 1) wants ≡ take i wants ++ get_or wants i d ∷ []
take_next wants i d below = take_more wants i d below

module _ {S : Type 0} (slots : List (Option (Slot S))) where
  known_is : (of : Who) (known : Known) → ((key : ℕ) (slot : Slot S) → slot_at slots key ≡ Some slot → slot.of ≡ of → known ≡ known_of slot) → IsWritable slots of → known.write ≡ true
  known_is of known knows (key, slot, at, same, writes) = ap (λ (k : Known). k.write) (knows key slot at same) ∙ writes

  pub tells_written : (old new : List Want) (r : Bool) (known : Known) (want : Want) → new ≡ old ++ as_list (part_in r known.write want)
      → ((key : ℕ) (slot : Slot S) → slot_at slots key ≡ Some slot → slot.of ≡ want.of → known ≡ known_of slot) → want.write ≡ true → IsWritable slots want.of → TellsWrite new want.of
  tells_written old new r known want is knows wanted writable = tells_write old new r known.write want is wanted (known_is want.of known knows writable)

  pub written_none : (wants told : List Want) → AreWritten slots (take 0 wants) told
  written_none wants told want h = absurd (up.has_from [] want h)

  pub written_more : (wants old new : List Want) (i : ℕ) (d : Want) (known : Known) → i < length wants → new ≡ old ++ as_list (part_in false known.write (get_or wants i d))
      → ((key : ℕ) (slot : Slot S) → slot_at slots key ≡ Some slot → slot.of ≡ (get_or wants i d).of → known ≡ known_of slot) → AreWritten slots (take i wants) old
      → AreWritten slots (take (i + 1) wants) new
  written_more wants old new i d known below is knows all want h wanted writable =
      elim (Contains-push_cases (take i wants) (get_or wants i d) want (subst (λ (l : List Want). Contains l want) (take_next wants i d below) h)) [
        | inl before ↦ tells_write_on old new want.of (as_list (part_in false known.write (get_or wants i d)), is) (all want before wanted writable)
        | inr here ↦
            subst (λ (w : Want). TellsWrite new w.of) here
            (tells_written old new false known (get_or wants i d) is knows (ap (λ (w : Want). w.write) here ∙ wanted) (subst (λ (w : Want). IsWritable slots w.of) (sym here) writable))
      ]

  pub written_past : (wants told : List Want) (i : ℕ) (d : Want) → i < length wants → (get_or wants i d).write ≡ false → AreWritten slots (take i wants) told
      → AreWritten slots (take (i + 1) wants) told
  written_past wants told i d below idle all want h wanted writable =
      elim (Contains-push_cases (take i wants) (get_or wants i d) want (subst (λ (l : List Want). Contains l want) (take_next wants i d below) h)) [
        | inl before ↦ all want before wanted writable
        | inr here ↦ let clash : true ≡ false = sym wanted ∙ ap (λ (w : Want). w.write) (sym here) ∙ idle in absurd (cc)
      ]

  -- behind the last that is for writing no more has to be told
  pub written_all : (wants told : List Want) (i : ℕ) → count_to_write (drop i wants) ≡ 0 → AreWritten slots (take i wants) told → AreWritten slots wants told
  written_all wants told i none all want h wanted writable =
      elim (Contains-append_cases (take i wants) (drop i wants) want (subst (λ (l : List Want). Contains l want) (sym (take-append-drop i wants)) h)) [
        | inl before ↦ all want before wanted writable
        | inr behind ↦ absurd (omega (arith, none, is_counted (drop i wants) want behind wanted))
      ]

-- on from the want at a place to those behind it
pub goes_on_at : (all wants old new : List Want) (i : ℕ) (d : Want) → i < length wants → GoesOn all (drop i wants) old → Adds (get_or wants i d) old new → GoesOn all (drop (i + 1) wants) new
goes_on_at all wants old new i d below goes adds =
    let goes' : GoesOn all (drop i wants ++ []) old = subst (λ (l : List Want). GoesOn all l old) (sym (append-nil (drop i wants))) goes in
    subst (λ (l : List Want). GoesOn all l new) (append-nil (drop (i + 1) wants)) (goes_on_step all wants [] old new i d below goes' adds)

-- a list around a place
parts : {X : Type 0} (xs : List X) (i : ℕ) (x d : X) → up.Has xs x → up.Has (take i xs) x ⊎ ((get_or xs i d ≡ x) ⊎ up.Has (drop (suc i) xs) x)
parts [] i x d h = absurd h
parts (y ∷ ys) zero x d (inl is) = inr (inl is)
parts (y ∷ ys) zero x d (inr h) = inr (inr h)
parts (y ∷ ys) (suc i) x d (inl is) = inl (inl is)
parts (y ∷ ys) (suc i) x d (inr h) = elim (parts ys i x d h) [ inl low ↦ inl (inr low) | inr high ↦ inr high ]

pub around : {X : Type 0} (xs : List X) (i : ℕ) (x d : X) → Contains xs x → Contains (take i xs) x ⊎ ((get_or xs i d ≡ x) ⊎ Contains (drop (i + 1) xs) x)
around xs i x d h = elim (parts xs i x d (up.has_from xs x h)) [
  | inl low ↦ inl (up.to_contains (take i xs) x low)
  | inr (inl is) ↦ inr (inl is)
  | inr (inr high) ↦
      let next : i + 1 ≡ suc i = omega arith in
      inr (inr (subst (λ (n : ℕ). Contains (drop n xs) x) (sym next) (up.to_contains (drop (suc i) xs) x high)))
]

module _ {K X : Type 0} (cmp : K → K → Ordering) (o : IsTotalOrder cmp) (key : X → K) where
  rise_drop : (n : ℕ) (xs : List X) → Rise cmp key xs → Rise cmp key (drop n xs)
  rise_drop zero xs rise = rise
  rise_drop (suc n) [] rise = rise
  rise_drop (suc n) (x ∷ xs) rise = rise_drop n xs rise.1

  before_below : (xs : List X) (i : ℕ) (x d : X) → i < length xs → Rise cmp key xs → up.Has (take i xs) x → cmp (key x) (key (get_or xs i d)) ≡ Less
  before_below [] i x d below rise h = absurd (omega arith)
  before_below (y ∷ ys) zero x d below rise h = absurd h
  before_below (y ∷ ys) (suc i) x d below rise (inl is) =
      subst (λ (z : X). cmp (key z) (key (get_or ys i d)) ≡ Less) is (up.above_each cmp o key (key y) ys (get_or ys i d) rise.0 (up.has_at ys i d (omega arith)))
  before_below (y ∷ ys) (suc i) x d below rise (inr h) = before_below ys i x d (omega arith) rise.1 h

pub order_left : (wants : List Want) (n : ℕ) → AreInOrder wants → AreInOrder (drop n wants)
order_left wants n rise = rise_drop by_rank by_rank_total (λ (w : Want). rank_of w.of) n wants rise

-- what stands above the want at a place stands behind it
pub left_above : (wants : List Want) (i : ℕ) (want d : Want) (of : Who) → i < length wants → (get_or wants i d).of ≡ of → AreInOrder wants → Contains wants want
    → by_rank (rank_of of) (rank_of want.of) ≡ Less → Contains (drop (i + 1) wants) want
left_above wants i want d of below at rise h less = elim (around wants i want d h) [
  | inl low ↦
      let first : by_rank (rank_of want.of) (rank_of (get_or wants i d).of) ≡ Less =
      before_below by_rank by_rank_total (λ (w : Want). rank_of w.of) wants i want d below rise (up.has_from (take i wants) want low) in
      let first' : by_rank (rank_of want.of) (rank_of of) ≡ Less = subst (λ (w : Who). by_rank (rank_of want.of) (rank_of w) ≡ Less) at first in
      let more : by_rank (rank_of of) (rank_of want.of) ≡ Greater = up.above_is by_rank by_rank_total (λ (w : Want). rank_of w.of) (rank_of want.of) (rank_of of) first' in
      let clash : Less ≡ Greater = sym less ∙ more in absurd (cc)
  | inr (inl is) ↦
      let same : of ≡ want.of = sym at ∙ ap (λ (w : Want). w.of) is in
      let clash : Less ≡ Equal = sym less ∙ rank_itself of want.of same in absurd (cc)
  | inr (inr high) ↦ high
]

-- the want at a place is the only one of its kind and number
pub only_at : (wants : List Want) (i : ℕ) (want d : Want) (of : Who) → i < length wants → (get_or wants i d).of ≡ of → AreInOrder wants → Contains wants want → want.of ≡ of
    → get_or wants i d ≡ want
only_at wants i want d of below at rise h same =
    up.stands_once by_rank by_rank_total (λ (w : Want). rank_of w.of) wants (get_or wants i d) want rise (up.has_at wants i d below) (up.has_from wants want h)
    (rank_itself (get_or wants i d).of want.of (at ∙ sym same))

-- where a search found none there is none
pub not_among : (wants : List Want) (want : Want) (of : Who) (at : ℕ) → at ≤ length wants → AreInOrder wants
    → IsBinarySearchResult (λ (w : Want). by_rank (rank_of w.of) (rank_of of)) wants (Err at) → Contains wants want → want.of ≡ of → ⊥
not_among wants want of at fits rise found (k, below, is) same =
    let parted = up.parted by_rank by_rank_total (λ (w : Want). rank_of w.of) wants (rank_of of) at rise found in
    let eq : by_rank (rank_of (get_or wants k want).of) (rank_of of) ≡ Equal = rank_itself (get_or wants k want).of of (ap (λ (w : Want). w.of) is ∙ same) in
    elim (cases_lt k at) [
      | inl low ↦ let less : by_rank (rank_of (get_or wants k want).of) (rank_of of) ≡ Less = parted.0 k want (omega arith) low in absurd (cc)
      | inr high ↦ let more : by_rank (rank_of (get_or wants k want).of) (rank_of of) ≡ Greater = parted.1 k want high below in absurd (cc)
    ]

pub begins_itself : (told : List Want) → Begins told told
begins_itself told = ([], sym (append-nil told))

-- what an end of a list has the list has
has_drop : {X : Type 0} (n : ℕ) (xs : List X) (x : X) → up.Has (drop n xs) x → up.Has xs x
has_drop zero xs x h = h
has_drop (suc n) [] x h = h
has_drop (suc n) (y ∷ ys) x h = inr (has_drop n ys x h)

pub drop_contains : {X : Type 0} (n : ℕ) (xs : List X) (x : X) → Contains (drop n xs) x → Contains xs x
drop_contains n xs x h = up.to_contains xs x (has_drop n xs x (up.has_from (drop n xs) x h))

-- of an end of those that are listed each stands below those behind it
pub rank_before : (readable turn : List Listed) (n at place : ℕ) (d o : Listed) (of : Who) → InOrder readable → turn ≡ drop n readable → at < place → place < length turn
    → (get_or turn place o).of ≡ of → by_rank (rank_of (get_or turn at d).of) (rank_of of) ≡ Less
rank_before readable turn n at place d o of rise end before below same =
    let rises : InOrder turn = subst (λ (l : List Listed). InOrder l) (sym end) (rise_drop by_rank by_rank_total (λ (l : Listed). rank_of l.of) n readable rise) in
    let less = up.apart by_rank by_rank_total (λ (l : Listed). rank_of l.of) turn at place d before below rises in
    let is : (get_or turn place d).of ≡ of = ap (λ (l : Listed). l.of) (get_or_default turn place d o below) ∙ same in
    subst (λ (w : Who). by_rank (rank_of (get_or turn at d).of) (rank_of w) ≡ Less) is less

-- Where the wants stand in their order the link stands first, if it does.
pub no_link_behind : (want : Want) (wants : List Want) (other : Want) → AreInOrder (want ∷ wants) → Contains wants other → other.of ≡ Link → ⊥
no_link_behind want wants other rise h link =
    let less : by_rank (rank_of want.of) (rank_of other.of) ≡ Less = up.above_each by_rank by_rank_total (λ (w : Want). rank_of w.of) (rank_of want.of) wants other rise.0 (up.has_from wants other h) in
    let under : by_rank (rank_of want.of) (rank_of Link) ≡ Less = subst (λ (w : Who). by_rank (rank_of want.of) (rank_of w) ≡ Less) link less in
    not_under want.of under
  where
    not_under : (of : Who) → by_rank (rank_of of) (rank_of Link) ≡ Less → ⊥
    not_under Link is = let same : by_rank (rank_of Link) (rank_of Link) ≡ Equal = rank_itself Link Link refl in let clash : Less ≡ Equal = sym is ∙ same in absurd (cc)
    not_under (Listener n) is = absurd (cc)
    not_under (Udp n) is = absurd (cc)
    not_under (Tcp n) is = absurd (cc)

pub no_link_after : (wants : List Want) (other : Want) → AreInOrder wants → Contains (drop 1 wants) other → other.of ≡ Link → ⊥
no_link_after [] other rise h link = absurd (up.has_from [] other h)
no_link_after (want ∷ wants) other rise h link = no_link_behind want wants other rise h link

pub no_link_in : (wants : List Want) (d other : Want) → 0 < length wants → same_who Link (get_or wants 0 d).of ≡ false → AreInOrder wants → Contains wants other → other.of ≡ Link → ⊥
no_link_in [] d other below first rise h link = absurd (omega arith)
no_link_in (want ∷ wants) d other below first rise h link = elim (up.has_from (want ∷ wants) other h) [
  | inl is ↦
      let of : want.of ≡ Link = ap (λ (w : Want). w.of) is ∙ link in
      let clash : true ≡ false = sym (ap (λ (w : Who). same_who Link w) of) ∙ first in absurd (cc)
  | inr behind ↦ no_link_behind want wants other rise (up.to_contains wants other behind) link
]
