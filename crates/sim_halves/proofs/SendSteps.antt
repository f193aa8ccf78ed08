-- Each thing that is done for the host's stream keeps it with the story.
use Rattle.std.proofs.Common.{refl, ◌≡◌, ℕ, zero, suc, ◌+◌, ◌-◌, ◌^◌, ◌<◌, ◌≤◌, List, [], ◌∷◌, ◌++◌, length, take, drop, min, max, Some, slice_get, arith, ap, subst, sym, ◌∙◌, Bool, true}
use Rattle.std.proofs.Common.{false, if◌then◌else◌, ℤ, pos, negsuc, ◌+ℤ◌, ◌-ℤ◌, ◌/◌, length-append, length-drop, int_le}
use Rattle.std.proofs.lemmas.Bool.Decides.{nat_tests}
use Rattle.std.proofs.lemmas.Int.{ints}
use Rattle.seq_space.specs.Places.{number_of, IsWhole}
use Rattle.seq_space.proofs.Numbers.{place_is, place_only}
use Rattle.spec_flow.specs.Guest.{from_zero}
use Rattle.spec_flow.specs.Host.{Down, Ours, Got, GotEnd, Sent, Confirmed, our_first, got, got_end, sent, acked, our_place, not_past_sent, StandAt}
use Rattle.spec_flow.proofs.HostLaws.{InOrder, sent_within}
use Rattle.spec_flow.proofs.Lists.{slice_get_take, slice_get_drop}
use Rattle.sim_halves.specs.Sends.{Outward, Keeps}

not_past : (z : ℤ) (m : ℕ) → int_le z (pos m) ≡ true → from_zero z ≤ m
not_past (pos n) m is = grind (arith, nat_tests)
not_past (negsuc n) m is = omega arith

within_max : (b : Bool) (a k m : ℕ) → a ≤ m → (b ≡ true → k ≤ m) → (if b then max a k else a) ≤ m
within_max true a k m low high = let k_low = high refl in omega (arith, k_low)
within_max false a k m low high = low

-- no more was acknowledged than was sent
pub acked_within_sent : (past : List Down) → acked past ≤ sent past
acked_within_sent [] = omega arith
acked_within_sent (Confirmed n ∷ past) = within_max (not_past_sent past n) (acked past) (from_zero (our_place past n)) (sent past) (acked_within_sent past) (not_past (our_place past n) (sent past))
acked_within_sent (Sent n xs fin ∷ past) = let before = acked_within_sent past in omega (arith, before)
acked_within_sent (Ours f ∷ past) = acked_within_sent past
acked_within_sent (Got xs ∷ past) = acked_within_sent past
acked_within_sent (GotEnd ∷ past) = acked_within_sent past

drop_append : (n : ℕ) (xs ys : List ℕ) → n ≤ length xs → drop n (xs ++ ys) ≡ drop n xs ++ ys
drop_append zero xs ys low = refl
drop_append (suc n) [] ys low = absurd (omega arith)
drop_append (suc n) (x ∷ xs) ys low = drop_append n xs ys (omega (arith, low))

same_drop : (m n : ℕ) (xs : List ℕ) → m ≡ n → drop m xs ≡ drop n xs
same_drop m n xs is = ap (λ (k : ℕ). drop k xs) is

drop_nil : (m : ℕ) → drop {A = ℕ} m [] ≡ []
drop_nil zero = refl
drop_nil (suc m) = refl

drop_drop : (m n : ℕ) (xs : List ℕ) → drop m (drop n xs) ≡ drop (n + m) xs
drop_drop m zero xs = same_drop m (0 + m) xs (omega arith)
drop_drop m (suc n) [] = drop_nil m ∙ sym (drop_nil (suc n + m))
drop_drop m (suc n) (x ∷ xs) = drop_drop m n xs ∙ same_drop (suc (n + m)) (suc n + m) (x ∷ xs) (omega arith)

no_end : (e : Bool) (g : ℕ) → e ≡ false → g + (if e then 1 else 0) ≡ g
no_end true g is = absurd cc
no_end false g is = omega arith

-- octets that are read are held after the others
pub reads : (o : Outward) (past : List Down) (xs : List ℕ) → InOrder past → got_end past ≡ false → Keeps o past → Keeps (record o { held = o.held ++ xs }) (Got xs ∷ past)
reads o past xs l open_yet k =
    let low = acked_within_sent past in
    let high = sent_within past l in
    let is = no_end (got_end past) (length (got past)) open_yet in
    record {
      first = k.first;
      before = omega (arith, k.before, low, high, is, length-append (got past) xs);
      held = ap (λ (l : List ℕ). l ++ xs) k.held ∙ sym (drop_append o.before (got past) xs (omega (arith, k.before)));
      ended = k.ended;
      sent = k.sent;
      acked = k.acked;
    }

pub reads_end : (o : Outward) (past : List Down) → Keeps o past → Keeps (record o { ended = true }) (GotEnd ∷ past)
reads_end o past k = record { first = k.first; before = k.before; held = k.held; ended = refl; sent = k.sent; acked = k.acked }

-- the number at a place near what was sent stands for this place
pub place_of_number : (past : List Down) (p : ℕ) → p ≤ sent past → sent past < p + 2 ^ 31 → our_place past (number_of (our_first past) p) ≡ pos p
place_of_number past p low near =
    place_only (number_of (our_first past) p) (our_first past) (sent past) (our_place past (number_of (our_first past) p)) (pos p)
    (place_is (number_of (our_first past) p) (our_first past) (sent past) (omega arith))
    (record { wraps = whole (our_first past) p; low = omega (arith, ints, near); high = omega (arith, ints, low) })
  where
    whole : (f p : ℕ) → IsWhole (pos (number_of f p) -ℤ pos f -ℤ pos 1 -ℤ pos p)
    whole f p = (pos 0 -ℤ pos ((f + 1 + p) / 2 ^ 32), omega (arith, ints))

-- a piece of what is held goes out, from a place that was sent or is next
pub sends : (o : Outward) (past : List Down) (p n : ℕ) (fin : Bool) → o.before ≤ p → p ≤ o.sent → o.sent < p + 2 ^ 31
    → Keeps o past
    → (our_place past (number_of o.first p) ≡ pos p) × (p ≤ sent past) × StandAt (got past) p (take n (drop (p - o.before) o.held))
sends o past p n fin low high near k = (
  rw k.first (place_of_number past p (omega (arith, high, k.sent)) (omega (arith, near, k.sent))),
  omega (arith, high, k.sent),
  λ j x at.
      let here = slice_get_take n (drop (p - o.before) o.held) j x at in
      let all : drop (p - o.before) o.held ≡ drop p (got past) = ap (λ (l : List ℕ). drop (p - o.before) l) k.held ∙ drop_drop (p - o.before) o.before (got past) ∙ same_drop
      (o.before + (p - o.before)) p (got past) (omega (arith, low)) in
      slice_get_drop p (got past) j (p + j) x refl (subst (λ (l : List ℕ). slice_get l j ≡ Some x) all here),
)

if_bool : (b : Bool) → (if b then 1 else 0) ≤ 1
if_bool true = omega arith
if_bool false = omega arith

-- and then that much was sent
pub sent_piece : (o : Outward) (past : List Down) (p : ℕ) (xs : List ℕ) (fin : Bool) → p ≤ o.sent → o.sent < p + 2 ^ 31
    → Keeps o past → Keeps (record o { sent = max o.sent (p + (length xs + (if fin then 1 else 0))) }) (Sent (number_of o.first p) xs fin ∷ past)
sent_piece o past p xs fin high near k =
    let is : our_place past (number_of o.first p) ≡ pos p = rw k.first (place_of_number past p (omega (arith, high, k.sent)) (omega (arith, near, k.sent))) in
    let e : ℕ = length xs + (if fin then 1 else 0) in
    let ends : from_zero (our_place past (number_of o.first p) +ℤ pos e) ≡ p + e = rw is refl in
    record { first = k.first; before = k.before; held = k.held; ended = k.ended; sent = omega (arith, k.sent, ends); acked = k.acked }

when_true : (b : Bool) (a c : ℕ) → b ≡ true → (if b then a else c) ≡ a
when_true b a c is = rw is refl

-- an acceptable acknowledgement lets octets go
pub confirms : (o : Outward) (past : List Down) (n a : ℕ) → our_place past n ≡ pos a → not_past_sent past n ≡ true → o.acked ≤ a → Keeps o past
    → Keeps (record o { before = min a (o.before + length o.held); held = drop (min a (o.before + length o.held) - o.before) o.held; acked = a }) (Confirmed n ∷ past)
confirms o past n a is fits low k =
    let now : acked (Confirmed n ∷ past) ≡ max (acked past) (from_zero (our_place past n)) = when_true (not_past_sent past n) (max (acked past) (from_zero (our_place past n))) (acked past) fits in
    let at : from_zero (our_place past n) ≡ a = ap from_zero is in
    let moved : acked (Confirmed n ∷ past) ≡ a = omega (arith, now, at, low, k.acked) in
    let long : length o.held ≡ length (got past) - o.before = ap length k.held ∙ length-drop o.before (got past) in
    let all : o.before + length o.held ≡ length (got past) = omega (arith, long, k.before) in
    let b : ℕ = min a (o.before + length o.held) in
    record {
      first = k.first;
      before = omega (arith, moved, all);
      held = ap (λ (l : List ℕ). drop (min a (o.before + length o.held) - o.before) l) k.held ∙ drop_drop (min a (o.before + length o.held) - o.before) o.before (got past)
          ∙ same_drop (o.before + (min a (o.before + length o.held) - o.before)) (min a (o.before + length o.held)) (got past) (omega (arith, low, k.acked, k.before, all));
      ended = k.ended;
      sent = k.sent;
      acked = sym moved;
    }
