-- What each event is to the two streams, as equations, so that no proof above opens the definitions.
use Rattle.std.proofs.Common.{refl, ◌≡◌, ℕ, List, [], ◌∷◌, Option, None, Some, is_some, Bool, true, false, not, ◌&&◌, if◌then◌else◌, IsTrue, ap, sym, ◌∙◌}
use Rattle.std.specs.Option.{option_or, option_map}
use Rattle.spec_flow.specs.Event.{Segment, Connects, Accepts, Arrives, Departs, Writes, WriteFails, EndsHost, EndFails, At, Story}
use Rattle.spec_flow.specs.Guest.{Up, Known, Came, Acked, first_of}
use Rattle.spec_flow.specs.Host.{Sent, Confirmed, our_first}
use Rattle.spec_flow.specs.Flow.{guest, host, push, their_syn, their_number, acknowledges, our_number, is_closed, is_plain, is_heeded, greets, confirms, syn_is_out}

module _ (m : ℕ) (past : Story) (seg : Segment) where
  -- a plain segment is the next part of the guest's stream
  pub guest_came : is_closed past ≡ false → is_some (their_number past) ≡ true → is_plain seg ≡ true
      → guest (At m (Arrives seg) ∷ past) ≡ Came seg.number seg.octets seg.fin (is_heeded past seg) ∷ guest past
  guest_came open_yet known plain = rw (open_yet, known, plain) refl

  -- other segments are none
  pub guest_passed : is_closed past ≡ false → is_some (their_number past) ≡ true → is_plain seg ≡ false → guest (At m (Arrives seg) ∷ past) ≡ guest past
  guest_passed open_yet known plain = rw (open_yet, known, plain) refl

  pub guest_closed : is_closed past ≡ true → guest (At m (Arrives seg) ∷ past) ≡ guest past
  guest_closed closed = rw closed refl

  pub guest_greeted : is_closed past ≡ false → is_some (their_number past) ≡ false → greets past seg ≡ true → guest (At m (Arrives seg) ∷ past) ≡ Known seg.number ∷ guest past
  guest_greeted open_yet unknown greeted = rw (unknown, greeted, open_yet) refl

  pub guest_unknown : is_some (their_number past) ≡ false → greets past seg ≡ false → guest (At m (Arrives seg) ∷ past) ≡ guest past
  guest_unknown unknown greeted = by (is_closed past) refl
    where
      by : (b : Bool) → is_closed past ≡ b → guest (At m (Arrives seg) ∷ past) ≡ guest past
      by true is = guest_closed is
      by false is = rw (unknown, greeted, is) refl

  pub guest_acked : seg.ack ≡ true → seg.rst ≡ false → is_some (their_number past) ≡ true → guest (At m (Departs seg) ∷ past) ≡ Acked seg.acknowledgement ∷ guest past
  guest_acked ack rst known = rw (ack, rst, known) refl

  pub host_sent : seg.syn ≡ false → seg.rst ≡ false → host (At m (Departs seg) ∷ past) ≡ Sent seg.number seg.octets seg.fin ∷ host past
  host_sent syn rst = rw (syn, rst) refl

  pub host_opened : seg.syn ≡ true → host (At m (Departs seg) ∷ past) ≡ host past
  host_opened syn = rw syn refl

  pub host_confirmed : confirms past seg ≡ true → host (At m (Arrives seg) ∷ past) ≡ Confirmed seg.acknowledgement ∷ host past
  host_confirmed is = ap (λ (b : Bool). push (if b then Some (Confirmed seg.acknowledgement) else None) (host past)) is

  pub host_passed : confirms past seg ≡ false → host (At m (Arrives seg) ∷ past) ≡ host past
  host_passed is = ap (λ (b : Bool). push (if b then Some (Confirmed seg.acknowledgement) else None) (host past)) is

-- ---- the numbers that the streams begin with

pub our_first_is : (past : Story) → our_first (host past) ≡ our_number past
our_first_is [] = refl
our_first_is (At m (Connects ours syn) ∷ past) = refl
our_first_is (At m (Accepts ours) ∷ past) = refl
our_first_is (At m (Arrives seg) ∷ past) = by (confirms past seg) (our_first_is past)
  where
    by : (b : Bool) → our_first (host past) ≡ our_number past → our_first (push (if b then Some (Confirmed seg.acknowledgement) else None) (host past)) ≡ our_number past
    by true before = before
    by false before = before
our_first_is (At m (Departs seg) ∷ past) = by (not seg.syn && not seg.rst) (our_first_is past)
  where
    by : (b : Bool) → our_first (host past) ≡ our_number past → our_first (push (if b then Some (Sent seg.number seg.octets seg.fin) else None) (host past)) ≡ our_number past
    by true before = before
    by false before = before
our_first_is (At m _ ∷ past) = our_first_is past

last_of_four : (a b c d e : Bool) → IsTrue (a && b && c && not d && e) → d ≡ false
last_of_four true true true false e is = refl
last_of_four true true true true e is = absurd cc
last_of_four true true false d e is = absurd cc
last_of_four true false c d e is = absurd cc
last_of_four false b c d e is = absurd cc

open_greets : (past : Story) (seg : Segment) → IsTrue (greets past seg) → is_closed past ≡ false
open_greets past seg is = last_of_four seg.syn (not seg.rst) (syn_is_out past) (is_closed past) _ is

first_arrived : (n f : ℕ) (xs : List ℕ) (fin heeded c d g : Bool) (o : Option ℕ) (past : List Up)
    → (IsTrue g → c ≡ false) → (o ≡ Some f → first_of past ≡ f) → option_or o (if g then Some n else None) ≡ Some f
    → first_of (push (if c then None else (if is_some o then (if d then Some (Came n xs fin heeded) else None) else (if g then Some (Known n) else None))) past) ≡ f
first_arrived n f xs fin heeded true d g (Some k) past opened before is = before is
first_arrived n f xs fin heeded false true g (Some k) past opened before is = before is
first_arrived n f xs fin heeded false false g (Some k) past opened before is = before is
first_arrived n f xs fin heeded true d true None past opened before is = let no_it = opened refl in absurd cc
first_arrived n f xs fin heeded false d true None past opened before is = cc
first_arrived n f xs fin heeded c d false None past opened before is = absurd cc

map_or : (o p : Option Segment) → option_map (λ (seg : Segment). seg.number) (option_or o p) ≡ option_or (option_map (λ (seg : Segment). seg.number) o) (option_map (λ (seg : Segment). seg.number) p)
map_or None p = refl
map_or (Some seg) p = refl

map_if : (b : Bool) (seg : Segment) → option_map (λ (seg : Segment). seg.number) (if b then Some seg else None) ≡ (if b then Some seg.number else None)
map_if true seg = refl
map_if false seg = refl

-- the number of the guest's SYN, after an arrival
pub their_number_next : (m : ℕ) (past : Story) (seg : Segment) → their_number (At m (Arrives seg) ∷ past) ≡ option_or (their_number past) (if greets past seg then Some seg.number else None)
their_number_next m past seg =
    map_or (their_syn past) (if greets past seg then Some seg else None)
    ∙ ap (λ (o : Option ℕ). option_or (their_number past) o) (map_if (greets past seg) seg)

-- where the guest's SYN is known, its stream begins with it
pub their_first : (past : Story) (f : ℕ) → their_number past ≡ Some f → first_of (guest past) ≡ f
their_first [] f is = absurd cc
their_first (At m (Connects ours syn) ∷ past) f is = cc
their_first (At m (Arrives seg) ∷ past) f is =
    first_arrived seg.number f seg.octets seg.fin (is_heeded past seg) (is_closed past) (is_plain seg) (greets past seg) (their_number past) (guest past) (open_greets past seg) (their_first past f)
    (sym (their_number_next m past seg) ∙ is)
their_first (At m (Departs seg) ∷ past) f is = by (acknowledges past seg) (their_first past f is)
  where
    by : (b : Bool) → first_of (guest past) ≡ f → first_of (push (if b then Some (Acked seg.acknowledgement) else None) (guest past)) ≡ f
    by true before = before
    by false before = before
their_first (At m (Writes xs n) ∷ past) f is = their_first past f is
their_first (At m (WriteFails xs) ∷ past) f is = their_first past f is
their_first (At m EndsHost ∷ past) f is = their_first past f is
their_first (At m EndFails ∷ past) f is = their_first past f is
their_first (At m _ ∷ past) f is = their_first past f is
