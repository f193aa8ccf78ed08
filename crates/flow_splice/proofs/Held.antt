-- What is held of a guest's octets goes on with what the host took.
use Rattle.std.proofs.Common.{refl, ◌≡◌, ℕ, zero, suc, ◌+◌, ◌≤◌, List, [], ◌∷◌, ◌++◌, length, take, drop, min, true, arith, ap, sym, ◌∙◌, append_assoc, length-append}
use Rattle.spec_flow.specs.Settings.{Settings}
use Rattle.spec_flow.specs.Event.{Story}
use Rattle.spec_flow.specs.Flow.{guest}
use Rattle.spec_flow.specs.Guest.{Conforming, front, written}
use Rattle.flow_splice.specs.Follows.{Follows, IsOpen}
use Rattle.flow_splice.specs.Held.{IsFront}
use Rattle.flow_splice.specs.Splice.{Splice, is_open}
use Rattle.flow_splice.proofs.Opened.{open_is}
use Rattle.flow_splice.proofs.Promises.{held_all, held_begins}

take_copied : (n : ℕ) (xs ys : List ℕ) → n ≤ length xs → take n (take n xs ++ ys) ≡ take n xs
take_copied zero xs ys few = refl
take_copied (suc n) [] ys few = absurd (omega (arith, few))
take_copied (suc n) (x ∷ xs) ys few = ap (λ (l : List ℕ). x ∷ l) (take_copied n xs ys (omega (arith, few)))

take_first : (n : ℕ) (xs ys : List ℕ) → n ≤ length xs → take n (xs ++ ys) ≡ take n xs
take_first zero xs ys few = refl
take_first (suc n) [] ys few = absurd (omega (arith, few))
take_first (suc n) (x ∷ xs) ys few = ap (λ (l : List ℕ). x ∷ l) (take_first n xs ys (omega (arith, few)))

drop_first : (xs ys : List ℕ) → drop (length xs) (xs ++ ys) ≡ ys
drop_first [] ys = refl
drop_first (x ∷ xs) ys = drop_first xs ys

module _ (s : Settings) (f : Splice) (past : Story) (now : ℕ) (h : Follows s f past now) (open_yet : is_open f ≡ true) (conforming : Conforming (guest past))
    (into new : List ℕ) (count : ℕ) (count_is : count ≡ min (length into) (length f.up.held)) (copied : new ≡ take count f.up.held ++ drop count into) where
  o : IsOpen s f past now
  o = open_is s f past now open_yet h

  few : count ≤ length f.up.held
  few = omega (arith, count_is)

  front_is : front (guest past) ≡ written (guest past) ++ (f.up.held ++ (held_begins s f past now o conforming).0)
  front_is = let begins = held_begins s f past now o conforming in sym begins.1 ∙ append_assoc (written (guest past)) f.up.held begins.0

  after : take count (drop (length (written (guest past))) (front (guest past))) ≡ take count f.up.held
  after =
      let rest : List ℕ = (held_begins s f past now o conforming).0 in
      ap (λ (l : List ℕ). take count (drop (length (written (guest past))) l)) front_is
      ∙ ap (λ (l : List ℕ). take count l) (drop_first (written (guest past)) (f.up.held ++ rest))
      ∙ take_first count f.up.held rest few

  pub front_held : IsFront past (length into) count (take count new)
  front_held = record {
    taken = length (written (guest past)) + length f.up.held;
    acknowledged = held_all s f past now o conforming;
    came =
        let rest : List ℕ = (held_begins s f past now o conforming).0 in
        let long = ap length front_is ∙ length-append (written (guest past)) (f.up.held ++ rest) in
        let second = length-append f.up.held rest in
        omega (arith, long, second);
    many = omega arith;
    fits = count_is ∙ omega arith;
    same = ap (λ (l : List ℕ). take count l) copied ∙ take_copied count f.up.held (drop count into) few ∙ sym after;
  }
