-- What the receiver takes of a segment keeps it with the story.
use Rattle.std.proofs.Common.{refl, ◌≡◌, ℕ, suc, ◌+◌, ◌-◌, ◌^◌, ◌<◌, ◌≤◌, List, [], ◌∷◌, ◌++◌, length, take, min, arith, ℤ, pos, negsuc, ◌+ℤ◌, inl, inr, Bool, true, false, ◌||◌, IsTrue}
use Rattle.std.proofs.Common.{◌↔◌, if◌then◌else◌, append_assoc, length-append, sym, ap, ◌∙◌, append-nil, add-zero, Option, Some, slice_get, get_or, subst}
use Rattle.std.proofs.lemmas.Bool.{cases_lt}
use Rattle.std.proofs.lemmas.Int.{ints}
use Rattle.std.proofs.lemmas.Option.{slice_get_within, slice_get-get_or}
use Rattle.seq_space.specs.Places.{place}
use Rattle.seq_space.proofs.Numbers.{place_is}
use Rattle.sim_halves.specs.Received.{next_octets, Has}
use Rattle.spec_flow.specs.Guest.{Up, octet_at, Came, Brought, Carries, EndsAt, Conforming, written, first_of, ackd}
use Rattle.spec_flow.specs.Lawful.{AtPlaces}
use Rattle.spec_flow.proofs.Lists.{slice_get_append, slice_get_take}
use Rattle.spec_flow.proofs.Streams.{octet_at_pos, earlier, carried_length}
use Rattle.spec_flow.proofs.Acks.{same_place}
use Rattle.sim_halves.specs.Part.{Part, part}
use Rattle.sim_halves.specs.Follows.{Follows}
use Rattle.sim_halves.proofs.Asked.{came_asked, closed_asked}
use Rattle.sim_halves.proofs.Segments.{next_octet, octet_from, number_from}

fin_counts : (fin : Bool) (n : ℕ) → IsTrue fin → 0 < n + (if fin then 1 else 0)
fin_counts true n is = omega arith
fin_counts false n is = absurd cc

not_fin : (took fin : Bool) → fin ≡ false → (took ≡ true → fin ≡ true) → took ≡ false
not_fin false fin is h = refl
not_fin true fin is h = absurd (let e = h refl in cc)

-- ---- a segment that comes while the end is open

octet_found : (o : ℤ) (xs : List ℕ) (i x : ℕ) → octet_at o xs i ≡ Some x → (j : ℕ) × (slice_get xs j ≡ Some x) × (pos i ≡ o +ℤ pos j)
octet_found (pos o) xs i x e = let at = octet_at_pos o i x xs e in (i - o, at.1, omega (arith, ints, at.0))
octet_found (negsuc n) xs i x e = (i + suc n, e, omega (arith, ints))

-- what the receiver has for a place was brought, and for a conforming guest it is carried
module _ (past : List Up) (first t : ℕ) (so_far : List ℕ) (kept : ℕ → Option ℕ) (n : ℕ) (xs : List ℕ) (fin : Bool) (fits : n < 2 ^ 32) (known : first_of past ≡ first)
    (counted : t ≡ length so_far) where
  pub has_brought : ((i x : ℕ) → kept i ≡ Some x → Brought past i x) → (i x : ℕ) → Has kept (place n first t) xs t i x → Brought (Came n xs fin true ∷ past) i x
  has_brought brought i x (inl is) = inr (brought i x is)
  has_brought brought i x (inr (low, at)) =
      let found = octet_found (place n first t) xs i x at in
      inl (found.0, found.1, rw known (number_from n first t i found.0 (place n first t) (place_is n first t fits) found.2))

  pub has_carried : (Conforming past → AtPlaces (Carries past) so_far) → (Conforming past → (i x : ℕ) → kept i ≡ Some x → Carries past i x) → ackd past ≤ t
      → Conforming (Came n xs fin true ∷ past) → (i x : ℕ) → Has kept (place n first t) xs t i x → Carries (Came n xs fin true ∷ past) i x
  has_carried carried is_kept low conforming i x (inl is) = inr (is_kept (earlier (Came n xs fin true) past conforming) i x is)
  has_carried carried is_kept low conforming i x (inr (high, at)) =
      let found = octet_found (place n first t) xs i x at in
      let some = slice_get_within xs found.0 x found.1 in
      let long = carried_length past so_far (carried (earlier (Came n xs fin true) past conforming)) in
      let same = same_place past n xs fin true t fits conforming.near (omega arith) low (omega arith) in
      inl (omega arith, rw (same, known) at)

  pub came_end : (Conforming past → AtPlaces (Carries past) so_far) → ackd past ≤ t → (m : ℕ) → IsTrue fin → (place n first t +ℤ pos (length xs)) ≡ pos (t + m)
      → Conforming (Came n xs fin true ∷ past) → EndsAt (Came n xs fin true ∷ past) (t + m)
  came_end carried low m ends at conforming =
      let long = carried_length past so_far (carried (earlier (Came n xs fin true) past conforming)) in
      let some : 0 < length xs + (if fin then 1 else 0) = fin_counts fin (length xs) ends in
      let same = same_place past n xs fin true t fits conforming.near (omega arith) low some in
      inl (ends, rw (same, known) at, omega arith)

-- a list and what comes next
both_parts : (P : ℕ → ℕ → Type 0) (xs ys : List ℕ) (t : ℕ) → t ≡ length xs → AtPlaces P xs → ((k x : ℕ) → slice_get ys k ≡ Some x → P (t + k) x) → AtPlaces P (xs ++ ys)
both_parts P xs ys t long old new i x e =
    elim (slice_get_append xs ys i x e) [
      | inl here ↦ old i x here
      | inr (k, is, at) ↦ let same : i ≡ t + k = omega (arith, is, long) in rw same (new k x at)
    ]

still_within : (took : Bool) (a t m : ℕ) → a ≤ t → a ≤ (if took then t + m + 1 else t + m)
still_within true a t m h = omega arith
still_within false a t m h = omega arith

module _ (ring : ℕ) (past : List Up) (number tuple first t : ℕ) (held : List ℕ) (w size : ℕ) (told owed : Bool) (kept now_kept : ℕ → Option ℕ) (n : ℕ) (xs : List ℕ) (fin : Bool)
    (fits : n < 2 ^ 32) where
  -- once the end was taken, nothing is
  pub came_closed : ((i x : ℕ) → now_kept i ≡ Some x → kept i ≡ Some x) → (took new_owed : Bool) → (new_owed ≡ false → owed ≡ false)
      → Follows ring (part number tuple first t true held w size told owed kept) past
      → Follows ring (part number tuple first (t + 0) (true || took) (held ++ []) w size told new_owed now_kept) (Came n xs fin true ∷ past)
  came_closed same_kept took new_owed quiet f =
      let same : written past ++ (held ++ []) ≡ written past ++ held = ap (λ (l : List ℕ). written past ++ l) (append-nil held) in
      record {
        first = f.first;
        count = f.count;
        taken = rw same (rw add-zero f.taken);
        acknowledged = rw add-zero f.acknowledged;
        told = f.told;
        brought = rw same (λ i x e. inr (f.brought i x e));
        carried = λ conforming. rw same (λ i x e. inr (f.carried (earlier (Came n xs fin true) past conforming) i x e));
        end = λ is conforming. rw same (inr (f.end refl (earlier (Came n xs fin true) past conforming)));
        kept_brought = λ i x e. inr (f.kept_brought i x (same_kept i x e));
        kept_carried = λ conforming i x e. inr (f.kept_carried (earlier (Came n xs fin true) past conforming) i x (same_kept i x e));
        size = f.size;
        within = rw append-nil f.within;
        asked = λ conforming a asks.
            rw add-zero (closed_asked ring past first t (length held) (written past ++ held) n xs fin fits f.first f.taken (f.taken ∙ length-append (written past) held) f.within
            f.acknowledged (rw (← f.taken) at (f.end refl (earlier (Came n xs fin true) past conforming))) conforming (f.asked (earlier (Came n xs fin true) past conforming)) a asks);
        settled = λ is conforming. rw add-zero (f.settled (quiet is) (earlier (Came n xs fin true) past conforming));
      }

  -- while it is open, at least the octets that come next and fit are, and then those that were kept
  pub came_open : (ys : List ℕ) → ((i x : ℕ) → now_kept i ≡ Some x → Has kept (place n first t) xs t i x)
      → ((k x : ℕ) → slice_get ys k ≡ Some x → Has kept (place n first t) xs t (t + k) x)
      → min (length (next_octets (place n first t) xs t)) (size - length held) ≤ length ys
      → length held + length ys ≤ size
      → (took : Bool)
      → (took ≡ true → IsTrue fin × ((place n first t +ℤ pos (length xs)) ≡ pos (t + length ys)))
      → (IsTrue fin → (place n first t +ℤ pos (length xs)) ≡ pos (t + length ys) → Conforming (Came n xs fin true ∷ past) → took ≡ true)
      → (new_owed : Bool) → (new_owed ≡ false → (owed ≡ false) × (length ys ≡ 0) × (fin ≡ false))
      → Follows ring (part number tuple first t false held w size told owed kept) past
      → Follows ring (part number tuple first (t + length ys) (false || took) (held ++ ys) w size told new_owed now_kept) (Came n xs fin true ∷ past)
  came_open ys is_kept new enough fit took ends ends_back new_owed quiet f =
      let same : written past ++ (held ++ ys) ≡ (written past ++ held) ++ ys = sym (append_assoc (written past) held ys) in
      let long : t + length ys ≡ length (written past ++ (held ++ ys)) = omega (arith, ap length same, length-append (written past ++ held) ys, f.taken) in
      let has : Conforming (Came n xs fin true ∷ past) → (i x : ℕ) → Has kept (place n first t) xs t i x → Carries (Came n xs fin true ∷ past) i x =
      has_carried past first t (written past ++ held) kept n xs fin fits f.first f.taken f.carried f.kept_carried f.acknowledged in
      let all : Conforming (Came n xs fin true ∷ past) → AtPlaces (Carries (Came n xs fin true ∷ past)) ((written past ++ held) ++ ys) = λ conforming.
      both_parts (Carries (Came n xs fin true ∷ past)) (written past ++ held) ys t f.taken (λ i x e. inr (f.carried (earlier (Came n xs fin true) past conforming) i x e))
      (λ k x at. has conforming (t + k) x (new k x at)) in
      record {
        first = f.first;
        count = f.count;
        taken = long;
        acknowledged = still_within took (ackd past) t (length ys) f.acknowledged;
        told = f.told;
        brought = rw same (both_parts (Brought (Came n xs fin true ∷ past)) (written past ++ held) ys t f.taken (λ i x e. inr (f.brought i x e))
            (λ k x at. has_brought past first t (written past ++ held) kept n xs fin fits f.first f.taken f.kept_brought (t + k) x (new k x at)));
        carried = λ conforming. rw same (all conforming);
        end = λ is conforming.
            let this = ends is in
            rw (← long) (came_end past first t (written past ++ held) kept n xs fin fits f.first f.taken f.carried f.acknowledged (length ys) this.0 this.1 conforming);
        kept_brought = λ i x e. has_brought past first t (written past ++ held) kept n xs fin fits f.first f.taken f.kept_brought i x (is_kept i x e);
        kept_carried = λ conforming i x e. has conforming i x (is_kept i x e);
        size = f.size;
        within = omega (arith, length-append held ys, f.size, fit);
        asked = λ conforming a asks.
            came_asked ring past first t (length held) (written past ++ held) n xs fin fits f.first f.taken (f.taken ∙ length-append (written past) held) f.within took (length ys)
            f.carried f.acknowledged (omega (arith, enough, f.size))
            (λ conforming i end low.
            elim (cases_lt i (t + length ys)) [
              | inl inside ↦
                  let here : i - t < length ys = omega (arith, inside, low) in
                  let at = slice_get-get_or ys (i - t) 0 here in
                  let octet = has conforming (t + (i - t)) (get_or ys (i - t) 0) (new (i - t) (get_or ys (i - t) 0) at) in
                  let there : t + (i - t) ≡ i = omega (arith, low) in
                  let less = conforming.within i i (get_or ys (i - t) 0) end (subst (λ (j : ℕ). Carries (Came n xs fin true ∷ past) j (get_or ys (i - t) 0)) there octet) in
                  absurd (omega (arith, less))
              | inr past_it ↦ past_it
            ])
            ends_back conforming (f.asked (earlier (Came n xs fin true) past conforming)) a asks;
        settled = λ is conforming.
            let q = quiet is in
            let had = f.settled q.0 (earlier (Came n xs fin true) past conforming) in
            let still : took ≡ false = not_fin took fin q.2 (λ h. (ends h).0) in
            rw (still, q.1) (rw add-zero had);
      }

-- a segment, as the receiver takes it: the octets ys, and the end or not
pub came : (ring : ℕ) (past : List Up) (p q : Part) (n : ℕ) (xs : List ℕ) (fin : Bool) (fits : n < 2 ^ 32) (took : Bool) (ys : List ℕ)
    → q ≡ part p.number p.tuple p.received.first (p.received.taken + length ys) (p.received.ended || took) (p.up.held ++ ys) p.up.written p.up.size p.told_end q.ack_owed q.kept
    → (p.received.ended ≡ true → (ys ≡ []) × ((i x : ℕ) → q.kept i ≡ Some x → p.kept i ≡ Some x))
    → (p.received.ended ≡ false →
    ((i x : ℕ) → q.kept i ≡ Some x → Has p.kept (place n p.received.first p.received.taken) xs p.received.taken i x)
    × ((k x : ℕ) → slice_get ys k ≡ Some x → Has p.kept (place n p.received.first p.received.taken) xs p.received.taken (p.received.taken + k) x)
    × (min (length (next_octets (place n p.received.first p.received.taken) xs p.received.taken)) (p.up.size - length p.up.held) ≤ length ys)
    × (length p.up.held + length ys ≤ p.up.size))
    → (IsTrue took ↔ (IsTrue fin × (p.received.ended ≡ false) × ((place n p.received.first p.received.taken +ℤ pos (length xs)) ≡ pos (p.received.taken + length ys))))
    → (q.ack_owed ≡ false → (p.ack_owed ≡ false) × (length ys ≡ 0) × (fin ≡ false))
    → Follows ring p past → Follows ring q (Came n xs fin true ∷ past)
came ring past p q n xs fin fits took ys is closed open_yet ends quiet f = rw is (by_ended p.received.ended refl f)
  where
    by_ended : (ended : Bool) → p.received.ended ≡ ended
        → Follows ring (part p.number p.tuple p.received.first p.received.taken ended p.up.held p.up.written p.up.size p.told_end p.ack_owed p.kept) past
        → Follows ring (part p.number p.tuple p.received.first (p.received.taken + length ys) (ended || took) (p.up.held ++ ys) p.up.written p.up.size p.told_end q.ack_owed q.kept)
        (Came n xs fin true ∷ past)
    by_ended true over f =
        let c = closed over in
        rw c.0 (came_closed ring past p.number p.tuple p.received.first p.received.taken p.up.held p.up.written p.up.size p.told_end p.ack_owed p.kept q.kept n xs fin fits c.1 took
        q.ack_owed (λ is. (quiet is).0) f)
    by_ended false over f =
        let c = open_yet over in
        came_open ring past p.number p.tuple p.received.first p.received.taken p.up.held p.up.written p.up.size p.told_end p.ack_owed p.kept q.kept n xs fin fits ys c.0 c.1 c.2 c.3
        took (λ is. let e = ends.0 is in (e.0, e.2)) (λ h at conforming. ends.1 (h, over, at)) q.ack_owed quiet f

-- what comes next in a segment, the receiver has
pub next_has : (kept : ℕ → Option ℕ) (o : ℤ) (xs : List ℕ) (t m k x : ℕ) → slice_get (take m (next_octets o xs t)) k ≡ Some x → Has kept o xs t (t + k) x
next_has kept o xs t m k x e =
    let found = next_octet o xs t k x (slice_get_take m (next_octets o xs t) k x e) in
    inr (omega arith, octet_from o xs (t + k) found.0 x found.1 found.2)
