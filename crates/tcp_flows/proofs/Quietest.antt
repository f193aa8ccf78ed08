-- Of the flows that may give way the one that goes before all others, one flow after another.
use Rattle.std.proofs.Common.{◌≡◌, ℕ, ◌+◌, ◌<◌, ◌==◌, ◌&&◌, ◌||◌, nat_lt, Bool, true, false, List, [], ◌∷◌, ◌++◌, length, take, get_or, slice_get, Option, Some, None}
use Rattle.std.proofs.Common.{inl, inr, if◌then◌else◌, refl, sym, ◌∙◌, ap, arith}
use Rattle.std.proofs.lemmas.Bool.Decides.{nat_tests}
use Rattle.std.proofs.lemmas.List.{take_more}
use Rattle.flow_splice.specs.Splice.{Splice}
use Rattle.rules_flow.specs.Choices.{earlier_quiet, is_before}
use Rattle.tcp_flows.specs.Way.{AreFirst, gives, quiet_at, quiet_of}
use Rattle.rules_flow.specs.declared.Quiet.{Quiet}
use Rattle.tcp_flows.proofs.Later.{push_cases, push_new, push_old}

true_false : true ≡ false → ⊥
true_false is = cc

-- the order of those that may give way
not_itself : (a m : ℕ) → (nat_lt a a || ((a == a) && nat_lt m m)) ≡ false
not_itself a m = grind (arith, nat_tests)

none_between : (a b c m n o : ℕ) → (nat_lt c a || ((c == a) && nat_lt o m)) ≡ false → (nat_lt b a || ((b == a) && nat_lt n m)) ≡ true → (nat_lt c b || ((c == b) && nat_lt o n)) ≡ false
none_between a b c m n o first second = grind (arith, nat_tests, first, second)

module _ (now : ℕ) (seen : List Splice) (p : Splice) where
  abbrev more : List Splice
  more = seen ++ (p ∷ [])

  at_end : slice_get more (length seen) ≡ Some p
  at_end = push_new seen p

  -- it doesn't give way
  still : (f : Option Quiet) → gives now p ≡ false → AreFirst now seen f → AreFirst now more f
  still None not none = λ j r at. elim (push_cases seen p r j at) [ inl old ↦ none j r old | inr new ↦ ap (gives now) new ∙ not ]
  still (Some q) not is = record {
    part = is.part;
    at = push_old seen p is.part q.slot is.at;
    is = is.is;
    may = is.may;
    first = λ j r at may. elim (push_cases seen p r j at) [
      | inl old ↦ is.first j r old may
      | inr new ↦ absurd (true_false (sym may ∙ ap (gives now) new ∙ not))
    ];
  }

  -- it is the first one
  only : gives now p ≡ true → AreFirst now seen None → AreFirst now more (Some (quiet_of (length seen) p))
  only may none = record {
    part = p;
    at = at_end;
    is = refl;
    may = may;
    first = λ j r at r_may. elim (push_cases seen p r j at) [
      | inl old ↦ absurd (true_false (sym r_may ∙ none j r old))
      | inr new ↦ ap (λ (x : Splice). is_before (quiet_of j x) (quiet_of (length seen) p)) new ∙ not_itself p.last p.face.number
    ];
  }

  -- it goes before the first so far, or doesn't
  two : (q : Quiet) → gives now p ≡ true → AreFirst now seen (Some q) → AreFirst now more (if is_before (quiet_of (length seen) p) q then Some (quiet_of (length seen) p) else Some q)
  two q may is = by (is_before (quiet_of (length seen) p) q) refl
    where
      by : (b : Bool) → is_before (quiet_of (length seen) p) q ≡ b → AreFirst now more (if b then Some (quiet_of (length seen) p) else Some q)
      by true before = record {
        part = p;
        at = at_end;
        is = refl;
        may = may;
        first = λ j r at r_may. elim (push_cases seen p r j at) [
          | inl old ↦ none_between q.last p.last r.last q.number p.face.number r.face.number (is.first j r old r_may) before
          | inr new ↦ ap (λ (x : Splice). is_before (quiet_of j x) (quiet_of (length seen) p)) new ∙ not_itself p.last p.face.number
        ];
      }
      by false not = record {
        part = is.part;
        at = push_old seen p is.part q.slot is.at;
        is = is.is;
        may = is.may;
        first = λ j r at r_may. elim (push_cases seen p r j at) [
          | inl old ↦ is.first j r old r_may
          | inr new ↦ ap (λ (x : Splice). is_before (quiet_of j x) q) new ∙ not
        ];
      }

  pub first_more : (f : Option Quiet) → AreFirst now seen f → AreFirst now more (earlier_quiet f (quiet_at now (length seen) p))
  first_more f before = by (gives now p) refl f before
    where
      by : (b : Bool) → gives now p ≡ b → (f : Option Quiet) → AreFirst now seen f → AreFirst now more (earlier_quiet f (if b then Some (quiet_of (length seen) p) else None))
      by true may None none = only may none
      by true may (Some q) is = two q may is
      by false not None none = still None not none
      by false not (Some q) is = still (Some q) not is

pub seen_more : (parts : List Splice) (i : ℕ) (p : Splice) → i < length parts → p ≡ get_or parts i p → take (i + 1) parts ≡ take i parts ++ (p ∷ [])
seen_more parts i p within at = take_more parts i p within ∙ ap (λ (x : Splice). take i parts ++ (x ∷ [])) (sym at)
