-- An accepted flow, until the guest's SYN is known.
use Rattle.std.proofs.Common.{refl, ◌≡◌, ℕ, ◌+◌, ◌%◌, ◌^◌, List, [], ◌∷◌, length, arith, Option, Some, None, is_some, Bool, true, false, not, ◌&&◌, ◌||◌, if◌then◌else◌, nat_lt, pos}
use Rattle.std.proofs.Common.{int_le, ap, sym, ◌∙◌, subst}
use Rattle.std.proofs.lemmas.Bool.Decides.{nat_tests}
use Rattle.std.specs.Option.{option_or, option_map}
use Rattle.seq_space.specs.Places.{number_of}
use Rattle.spec_flow.specs.Event.{Segment, Connects, Arrives, Departs, At, Story}
use Rattle.spec_flow.specs.Guest.{Up, Known, Acked, first_of, ackd, ends}
use Rattle.spec_flow.specs.Flow.{guest, push, their_syn, their_number, is_closed, greets, acknowledges}
use Rattle.spec_flow.specs.Close.{after_fins, fin_was_acknowledged, ended_first, fin_is_out}
use Rattle.spec_flow.proofs.Sides.{guest_greeted}
use Rattle.sim_halves.specs.Part.{Part, part}
use Rattle.sim_halves.specs.Follows.{Follows}
use Rattle.sim_halves.specs.Ends.{Ends}
use Rattle.sim_halves.proofs.Steps.{opened}

no_number : (o : Option Segment) → o ≡ None → is_some (option_map (λ (seg : Segment). seg.number) o) ≡ false
no_number o is = rw is refl

not_known : (o q : Option Segment) → option_or o q ≡ None → o ≡ None
not_known None q is = refl
not_known (Some seg) q is = absurd cc

-- nothing is known of the guest's end, and nothing was acknowledged
pub record Unknown (past : Story) : Type 0 where
  pub fins : after_fins past ≡ []
  pub sure : fin_was_acknowledged past ≡ false
  pub order : ended_first past ≡ false

still : (n : ℕ) (x y : Bool) → (if nat_lt n n then x else y) ≡ y
still n x y = let not_it : nat_lt n n ≡ false = grind (arith, nat_tests) in rw not_it refl

pub unknown : (past : Story) → their_syn past ≡ None → Unknown past
unknown [] none = record { fins = refl; sure = refl; order = refl }
unknown (At m (Connects ours syn) ∷ past) none = absurd cc
unknown (At m (Arrives seg) ∷ past) none =
    let before = not_known (their_syn past) (if greets past seg then Some seg else None) none in
    let u = unknown past before in
    record {
      fins = by seg.fin (not seg.syn) (not seg.rst) (is_some (their_number past)) (not (is_closed past))
          (int_le (pos (ackd (guest past))) (ends (guest past) seg.number seg.octets)) ((seg.number + length seg.octets + 1) % 2 ^ 32) (after_fins past) (no_number (their_syn past) before) u.fins;
      sure = u.sure;
      order = u.order;
    }
  where
    by : (a b c d e f : Bool) (k : ℕ) (ks : List ℕ) → d ≡ false → ks ≡ [] → (if a && b && c && d && e && f then k ∷ ks else ks) ≡ []
    by true true true d e f k ks is same = rw is same
    by true true false d e f k ks is same = same
    by true false c d e f k ks is same = same
    by false b c d e f k ks is same = same
unknown (At m (Departs seg) ∷ past) none =
    let u = unknown past none in
    record {
      fins = u.fins;
      sure = rw (u.fins, u.sure) (none_of seg.ack (not seg.rst));
      order = ap (λ (g : List Up). if nat_lt (ackd (guest past)) (ackd g) then fin_is_out past else ended_first past)
          (same (acknowledges past seg) (last_false seg.ack (not seg.rst) (is_some (their_number past)) (no_number (their_syn past) none)))
          ∙ still (ackd (guest past)) (fin_is_out past) (ended_first past) ∙ u.order;
    }
  where
    none_of : (a b : Bool) → ((a && b && false) || false) ≡ false
    none_of true true = refl
    none_of true false = refl
    none_of false b = refl

    last_false : (a b c : Bool) → c ≡ false → (a && b && c) ≡ false
    last_false true true c is = is
    last_false true false c is = refl
    last_false false b c is = refl

    same : (b : Bool) → b ≡ false → push (if b then Some (Acked seg.acknowledgement) else None) (guest past) ≡ guest past
    same b is = rw is refl
unknown (At m _ ∷ past) none = let u = unknown past none in record { fins = u.fins; sure = u.sure; order = u.order }

module _ (past : Story) (m : ℕ) (seg : Segment) (none : their_syn past ≡ None) (nothing : guest past ≡ []) (open_yet : is_closed past ≡ false) (greeted : greets past seg ≡ true) where
  begun : guest (At m (Arrives seg) ∷ past) ≡ Known seg.number ∷ []
  begun = guest_greeted m past seg open_yet (no_number (their_syn past) none) greeted ∙ ap (λ (g : List Up). Known seg.number ∷ g) nothing

  -- the guest's SYN comes: its stream begins
  pub greets_follows : (ring number tuple : ℕ) → Follows ring (part number tuple seg.number 0 false [] 0 ring false false (λ i. None)) (guest (At m (Arrives seg) ∷ past))
  greets_follows ring number tuple = subst (λ (g : List Up). Follows ring (part number tuple seg.number 0 false [] 0 ring false false (λ i. None)) g) (sym begun) (opened ring number tuple seg.number)

  pub greets_ends : (p : Part) → p.received.taken ≡ 0 → p.received.ended ≡ false → ((i x : ℕ) → p.kept i ≡ Some x → ⊥) → Ends (At m (Arrives seg) ∷ past) p false false (number_of seg.number 0)
  greets_ends p zero_taken open_end no_kept =
      let u = unknown past none in
      record {
        low = omega (arith, zero_taken);
        kept_low = λ i x is. absurd (no_kept i x is);
        fin = λ is. let not_it = sym is ∙ open_end in absurd cc;
        was_sure = λ is. absurd cc;
        is_sure = λ conforming is. let not_it = sym is ∙ u.sure in absurd cc;
        at = ap (λ (g : List Up). number_of (first_of g) (ackd g)) begun;
        order = u.order;
      }
