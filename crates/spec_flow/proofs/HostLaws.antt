-- Laws of one flow, in the words of the host's stream.
use Rattle.std.proofs.Common.{refl, ◌≡◌, ℕ, ◌+◌, ◌-◌, ◌<◌, ◌≤◌, List, [], ◌∷◌, length, None, Some, slice_get, inl, inr, arith, subst, Bool, true, false, not, ◌&&◌, ◌||◌, if◌then◌else◌}
use Rattle.std.proofs.Common.{IsTrue, MatchBool, ℤ, pos, ◌+ℤ◌, get_or, nat_le, sym, length-append}
use Rattle.spec_flow.specs.Settings.{Settings}
use Rattle.spec_flow.specs.Event.{Segment, Connects, Accepts, Arrives, Departs, Connected, Reads, ReadsEnd, At, Story}
use Rattle.spec_flow.specs.Guest.{octet_at, from_zero}
use Rattle.spec_flow.specs.Host.{Down, Ours, Got, GotEnd, Sent, Confirmed, Gave, got, got_end, sent, our_place, owned, StandAt}
use Rattle.std.proofs.lemmas.Bool.{cases_lt}
use Rattle.std.proofs.lemmas.Bool.Decides.{nat_tests}
use Rattle.spec_flow.specs.Flow.{host, push, syn_is_out, has_connected, is_accepted}
use Rattle.spec_flow.specs.Lawful.{IsLawful}
use Rattle.spec_flow.proofs.Lists.{slice_get_front}
use Rattle.spec_flow.proofs.Streams.{octet_at_pos}
use Rattle.std.proofs.lemmas.Int.{ints}
use Rattle.std.proofs.lemmas.Option.{slice_get_within, slice_get-get_or}

-- ---- what went out was read

abbrev pub SentWhatWasRead : List Down → Type 0
SentWhatWasRead [] = Unit {0}
SentWhatWasRead (Sent n xs fin ∷ past) = ((o : ℕ) × (our_place past n ≡ pos o) × (o ≤ sent past) × StandAt (got past) o xs) × SentWhatWasRead past
SentWhatWasRead (_ ∷ past) = SentWhatWasRead past

confirmed : (P : List Down → Type 0) (past : List Down) (n : ℕ) (b : Bool) → P past → P (Confirmed n ∷ past) → P (push (if b then Some (Confirmed n) else None) past)
confirmed P past n true none some = some
confirmed P past n false none some = none

pub went : (past : List Down) (seg : Segment) (s r : Bool) → MatchBool (s || r) ((seg.octets ≡ []) × (seg.fin ≡ false)) ((o : ℕ) × (our_place past seg.number ≡ pos o) ×
    (o ≤ sent past) × StandAt (got past) o seg.octets)
    → SentWhatWasRead past → SentWhatWasRead (push (if not s && not r then Some (Sent seg.number seg.octets seg.fin) else None) past)
went past seg true r may before = before
went past seg false true may before = before
went past seg false false may before = (may, before)

did_send : (s : Settings) (story : Story) → IsLawful s story → SentWhatWasRead (host story)
did_send s [] l = tt
did_send s (At m (Connects ours syn) ∷ past) l = did_send s past l.1
did_send s (At m (Accepts ours) ∷ past) l = did_send s past l.1
did_send s (At m (Arrives seg) ∷ past) l = confirmed SentWhatWasRead (host past) seg.acknowledgement _ (did_send s past l.1) (did_send s past l.1)
did_send s (At m (Departs seg) ∷ past) l = went (host past) seg seg.syn seg.rst l.0.sends_what_the_host_sent (did_send s past l.1)
did_send s (At m (Reads xs) ∷ past) l = did_send s past l.1
did_send s (At m ReadsEnd ∷ past) l = did_send s past l.1
did_send s (At m _ ∷ past) l = did_send s past l.1

gave_read : (past : List Down) → SentWhatWasRead past → (i x : ℕ) → Gave past i x → slice_get (got past) i ≡ Some x
gave_read [] s i x g = absurd g
gave_read (Sent n xs fin ∷ past) s i x (inl at) =
    let there = octet_at_pos s.0.0 i x xs (subst (λ (z : ℤ). octet_at z xs i ≡ Some x) s.0.1 at) in
    let same : s.0.0 + (i - s.0.0) ≡ i = omega (arith, there.0) in
    rw⁻¹ same (s.0.3 (i - s.0.0) x there.1)
gave_read (Sent n xs fin ∷ past) s i x (inr g) = gave_read past s.1 i x g
gave_read (Got xs ∷ past) s i x g = slice_get_front (got past) xs i x (gave_read past s i x g)
gave_read (Ours f ∷ past) s i x g = gave_read past s i x g
gave_read (GotEnd ∷ past) s i x g = gave_read past s i x g
gave_read (Confirmed n ∷ past) s i x g = gave_read past s i x g

-- What went out at a place is what was read from the host at that place.
pub sent_was_read : (s : Settings) (story : Story) → IsLawful s story → (i x : ℕ) → Gave (host story) i x → slice_get (got (host story)) i ≡ Some x
sent_was_read s story l = gave_read (host story) (did_send s story l)

-- ---- nothing opens before the host connected

opened_by : {C : Type 0} (s r o : Bool) → (IsTrue (not r) → C) → (IsTrue o → C) → IsTrue ((s && not r) || o) → C
opened_by true false o f g is = f refl
opened_by true true o f g is = g is
opened_by false r o f g is = g is

or_true : (b : Bool) → IsTrue (b || true)
or_true true = refl
or_true false = refl

-- Our SYN-ACK is out only after the host connected, and our SYN only after a peer's connection was accepted.
pub opens_after_host : (s : Settings) (story : Story) → IsLawful s story → IsTrue (syn_is_out story) → IsTrue (has_connected story || is_accepted story)
opens_after_host s [] l is = absurd cc
opens_after_host s (At m (Departs seg) ∷ past) l is = opened_by seg.syn seg.rst (syn_is_out past) l.0.opens_after_host (opens_after_host s past l.1) is
opens_after_host s (At m Connected ∷ past) l is = refl
opens_after_host s (At m (Accepts ours) ∷ past) l is = or_true (has_connected past)
opens_after_host s (At m _ ∷ past) l is = opens_after_host s past l.1 is

-- ---- nothing is left out: what went out has no gap, and the end comes after all of it

-- how each event of the host's stream was allowed
abbrev pub InOrder : List Down → Type 0
InOrder [] = Unit {0}
InOrder (Sent n xs fin ∷ past) =
    ((o : ℕ) × (our_place past n ≡ pos o) × (o ≤ sent past) × StandAt (got past) o xs)
    × (IsTrue fin → IsTrue (got_end past) × (our_place past n +ℤ pos (length xs) ≡ pos (length (got past))))
    × InOrder past
InOrder (Got xs ∷ past) = (got_end past ≡ false) × InOrder past
InOrder (_ ∷ past) = InOrder past

fin_alone : (fin rst : Bool) → IsTrue fin → rst ≡ false → IsTrue (fin && not rst)
fin_alone fin rst is no_rst = rw (is, no_rst) refl

ordered : (past : Story) (seg : Segment) (s r : Bool) → seg.rst ≡ r
    → MatchBool (s || r) ((seg.octets ≡ []) × (seg.fin ≡ false)) ((o : ℕ) × (our_place (host past) seg.number ≡ pos o) × (o ≤ sent (host past)) × StandAt (got (host past)) o seg.octets)
    → (IsTrue (seg.fin && not seg.rst) → IsTrue (got_end (host past)) × (our_place (host past) seg.number +ℤ pos (length seg.octets) ≡ pos (length (got (host past)))))
    → InOrder (host past) → InOrder (push (if not s && not r then Some (Sent seg.number seg.octets seg.fin) else None) (host past))
ordered past seg true r is may fin before = before
ordered past seg false true is may fin before = before
ordered past seg false false is may fin before = (may, λ has. fin (fin_alone seg.fin seg.rst has is), before)

pub in_order : (s : Settings) (story : Story) → IsLawful s story → InOrder (host story)
in_order s [] l = tt
in_order s (At m (Connects ours syn) ∷ past) l = in_order s past l.1
in_order s (At m (Accepts ours) ∷ past) l = in_order s past l.1
in_order s (At m (Arrives seg) ∷ past) l = confirmed InOrder (host past) seg.acknowledgement _ (in_order s past l.1) (in_order s past l.1)
in_order s (At m (Departs seg) ∷ past) l = ordered past seg seg.syn seg.rst refl l.0.sends_what_the_host_sent l.0.sends_end_after_all (in_order s past l.1)
in_order s (At m (Reads xs) ∷ past) l = (l.0.reads_to_the_end, in_order s past l.1)
in_order s (At m ReadsEnd ∷ past) l = in_order s past l.1
in_order s (At m _ ∷ past) l = in_order s past l.1

stand_within : (stream : List ℕ) (o : ℕ) (xs : List ℕ) → StandAt stream o xs → (k : ℕ) → k < length xs → o + k < length stream
stand_within stream o xs s k low = let at = s k (get_or xs k 0) (slice_get-get_or xs k 0 low) in slice_get_within stream (o + k) (get_or xs k 0) at

-- where a segment ends
pub end_of : (z : ℤ) (o n : ℕ) → z ≡ pos o → from_zero (z +ℤ pos n) ≡ o + n
end_of z o n is = rw is refl

piece_end : (past : List Down) (o : ℕ) (xs : List ℕ) → o ≤ sent past → sent past ≤ owned past → StandAt (got past) o xs → o + length xs ≤ owned past
piece_end past o [] low all s = omega arith
piece_end past o (x ∷ xs) low all s = let last = stand_within (got past) o (x ∷ xs) s (length xs) (omega arith) in omega (arith, last)

fin_end : (fin e : Bool) (o n g : ℕ) → (IsTrue fin → IsTrue e × (o + n ≡ g)) → o + n ≤ g + (if e then 1 else 0) → o + (n + (if fin then 1 else 0)) ≤ g + (if e then 1 else 0)
fin_end false e o n g at low = omega (arith, low)
fin_end true true o n g at low = let is = (at refl).1 in omega (arith, is)
fin_end true false o n g at low = absurd_it (at refl).0
  where
    absurd_it : {A : Type 0} → false ≡ true → A
    absurd_it is = absurd cc

pub end_place : (z : ℤ) (o n g : ℕ) → z ≡ pos o → z +ℤ pos n ≡ pos g → o + n ≡ g
end_place z o n g is same = omega (arith, ints, is, same)

end_bool : (e : Bool) → (if e then 1 else 0) ≤ 1
end_bool true = omega arith
end_bool false = omega arith

pub sent_within : (past : List Down) → InOrder past → sent past ≤ owned past
sent_within [] l = omega arith
sent_within (Sent n xs fin ∷ past) l =
    let before = sent_within past l.2 in
    let o = l.0.0 in
    let place_end = end_of (our_place past n) o (length xs + (if fin then 1 else 0)) l.0.1 in
    let low = piece_end past o xs l.0.2 before l.0.3 in
    let all = fin_end fin (got_end past) o (length xs) (length (got past)) (λ has. let f = l.1 has in (f.0, end_place (our_place past n) o (length xs) (length (got past)) l.0.1 f.1)) low in
    omega (arith, before, place_end, all)
sent_within (Got xs ∷ past) l = let before = sent_within past l.1 in omega (arith, before, length-append (got past) xs)
sent_within (GotEnd ∷ past) l = let before = sent_within past l in omega (arith, before, end_bool (got_end past))
sent_within (Ours f ∷ past) l = sent_within past l
sent_within (Confirmed n ∷ past) l = sent_within past l

-- No more goes out than was read, the end counted as one.
pub sent_is_read : (s : Settings) (story : Story) → IsLawful s story → sent (host story) ≤ owned (host story)
sent_is_read s story l = sent_within (host story) (in_order s story l)

octet_in : (o i : ℕ) (xs : List ℕ) → o ≤ i → i < o + length xs → (x : ℕ) × (octet_at (pos o) xs i ≡ Some x)
octet_in o i xs low high =
    let here : i - o < length xs = omega (arith, low, high) in
    let test : nat_le o i ≡ true = grind (arith, nat_tests) in
    (get_or xs (i - o) 0, rw test (slice_get-get_or xs (i - o) 0 here))

piece_gave : (past : List Down) (n : ℕ) (xs : List ℕ) (fin : Bool) (o i : ℕ) → our_place past n ≡ pos o → o ≤ i → i < o + length xs → (x : ℕ) × Gave (Sent n xs fin ∷ past) i x
piece_gave past n xs fin o i is low high =
    let at = octet_in o i xs low high in
    (at.0, inl (subst (λ (z : ℤ). octet_at z xs i ≡ Some at.0) (sym is) at.1))

before_fin : (fin : Bool) (o n i g : ℕ) → (IsTrue fin → o + n ≡ g) → i < o + (n + (if fin then 1 else 0)) → i < g → i < o + n
before_fin true o n i g at high low = let is = at refl in omega (arith, is, high, low)
before_fin false o n i g at high low = omega (arith, high)

went_before : (past : List Down) → InOrder past → (i : ℕ) → i < sent past → i < length (got past) → (x : ℕ) × Gave past i x
went_before [] l i high low = absurd (omega arith)
went_before (Sent n xs fin ∷ past) l i high low =
    let o = l.0.0 in
    let place_end = end_of (our_place past n) o (length xs + (if fin then 1 else 0)) l.0.1 in
    elim (cases_lt i (sent past)) [
      | inl old ↦ let g = went_before past l.2 i old low in (g.0, inr g.1)
      | inr new ↦
          let high_here : i < o + (length xs + (if fin then 1 else 0)) = omega (arith, high, new, place_end) in
          let inside = before_fin fin o (length xs) i (length (got past)) (λ has. end_place (our_place past n) o (length xs) (length (got past)) l.0.1 (l.1 has).1) high_here low in
          piece_gave past n xs fin o i l.0.1 (omega (arith, l.0.2, new)) inside
    ]
went_before (Got xs ∷ past) l i high low =
    let all = sent_within past l.1 in
    let no_end : owned past ≡ length (got past) = no_end_yet (got_end past) (length (got past)) l.0 in
    went_before past l.1 i high (omega (arith, high, all, no_end))
  where
    no_end_yet : (e : Bool) (g : ℕ) → e ≡ false → g + (if e then 1 else 0) ≡ g
    no_end_yet true g is = absurd cc
    no_end_yet false g is = omega arith
went_before (GotEnd ∷ past) l i high low = went_before past l i high low
went_before (Ours f ∷ past) l i high low = went_before past l i high low
went_before (Confirmed n ∷ past) l i high low = went_before past l i high low

-- Each octet up to the place that was sent went out: no gap is left, and the end comes after all.
pub nothing_is_left_out : (s : Settings) (story : Story) → IsLawful s story → (i : ℕ) → i < sent (host story) → i < length (got (host story)) → (x : ℕ) × Gave (host story) i x
nothing_is_left_out s story l = went_before (host story) (in_order s story l)
