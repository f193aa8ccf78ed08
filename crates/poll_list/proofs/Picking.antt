-- Facts on lists that are picked from a list of wants.
use Rattle.std.proofs.Common.{◌≡◌, true, false, ◌||◌, ◌&&◌, not, List, [], ◌∷◌, ◌++◌, inl, inr, append_assoc, append-nil, suc, zero, length, length-append, take, drop, get_or, drop-cons}
use Rattle.std.proofs.Common.{ℕ, ◌+◌, ◌<◌, ◌≤◌, Option, refl, arith, sym, subst}
use Rattle.std.proofs.lemmas.List.{take-append-drop}
use Rattle.std.proofs.lemmas.Bool.{and_parts, and_from, or_parts, or_from, not-true, not_from_false}
use Rattle.std.specs.List.{list_any}
use Rattle.poll_list.specs.declared.Want.{Want}
use Rattle.poll_list.specs.Listing.{are_wants, is_who, differ, number_of, same_number}
use Rattle.poll_list.specs.Picks.{IsPickedFrom, GoesOn, Adds, Begins}

picked_skip : (want : Want) (wants parts : List Want) → IsPickedFrom wants parts → IsPickedFrom (want ∷ wants) parts
picked_skip want wants [] p = tt
picked_skip want wants (part ∷ parts) p = inr p

-- each has a direction where each want has one
pub picked_wants : (wants parts : List Want) → IsPickedFrom wants parts → are_wants wants ≡ true → are_wants parts ≡ true
picked_wants wants [] p h = refl
picked_wants [] (part ∷ parts) p h = elim p [ ]
picked_wants (want ∷ wants) (part ∷ parts) (inl q) h =
    let all = and_parts ((want.read || want.write) && is_who want.of) (are_wants wants) h in
    let here = and_parts (want.read || want.write) (is_who want.of) all.0 in
    and_from ((part.read || part.write) && is_who part.of) (are_wants parts)
    (and_from (part.read || part.write) (is_who part.of) q.0.some (subst (λ who. is_who who ≡ true) (sym q.0.of) here.1)) (picked_wants wants parts q.1 all.1)
picked_wants (want ∷ wants) (part ∷ parts) (inr q) h =
    let all = and_parts ((want.read || want.write) && is_who want.of) (are_wants wants) h in
    picked_wants wants (part ∷ parts) q all.1

-- what no want is of, no part is of
picked_none : (number : Option ℕ) (wants parts : List Want) → IsPickedFrom wants parts
    → list_any (λ w. same_number number (number_of w.of)) wants ≡ false → list_any (λ w. same_number number (number_of w.of)) parts ≡ false
picked_none number wants [] p none = refl
picked_none number [] (part ∷ parts) p none = elim p [ ]
picked_none number (want ∷ wants) (part ∷ parts) (inl q) none =
    let both = or_parts (same_number number (number_of want.of)) (list_any (λ (w : Want). same_number number (number_of w.of)) wants) none in
    or_from (same_number number (number_of part.of)) (list_any (λ (w : Want). same_number number (number_of w.of)) parts)
    (subst (λ who. same_number number (number_of who) ≡ false) (sym q.0.of) both.0) (picked_none number wants parts q.1 both.1)
picked_none number (want ∷ wants) (part ∷ parts) (inr q) none =
    let both = or_parts (same_number number (number_of want.of)) (list_any (λ (w : Want). same_number number (number_of w.of)) wants) none in
    picked_none number wants (part ∷ parts) q both.1

-- none stands twice where no want does
pub picked_differ : (wants parts : List Want) → IsPickedFrom wants parts → differ wants ≡ true → differ parts ≡ true
picked_differ wants [] p h = refl
picked_differ [] (part ∷ parts) p h = elim p [ ]
picked_differ (want ∷ wants) (part ∷ parts) (inl q) h =
    let both = and_parts (not (list_any (λ (w : Want). same_number (number_of want.of) (number_of w.of)) wants)) (differ wants) h in
    let none = picked_none (number_of want.of) wants parts q.1 (not-true _ both.0) in
    and_from (not (list_any (λ (w : Want). same_number (number_of part.of) (number_of w.of)) parts)) (differ parts)
    (not_from_false _ (subst (λ who. list_any (λ (w : Want). same_number (number_of who) (number_of w.of)) parts ≡ false) (sym q.0.of) none)) (picked_differ wants parts q.1 both.1)
picked_differ (want ∷ wants) (part ∷ parts) (inr q) h =
    let both = and_parts (not (list_any (λ (w : Want). same_number (number_of want.of) (number_of w.of)) wants)) (differ wants) h in
    picked_differ wants (part ∷ parts) q both.1

goes_on_part : (all rest old new : List Want) (want : Want) → GoesOn all (want ∷ rest) old → Adds want old new → GoesOn all rest new
goes_on_part all rest old new want goes (inl same) more p =
    rw same (goes more (picked_skip want rest more p))
goes_on_part all rest old new want goes (inr (part, is, same)) more p =
    let more' : IsPickedFrom all (old ++ (part ∷ more)) = goes (part ∷ more) (inl (is, p)) in
    let joined : (old ++ part ∷ []) ++ more ≡ old ++ (part ∷ more) = append_assoc old (part ∷ []) more in
    rw same (rw joined more')

-- wants that are passed over
picked_past : (n : ℕ) (wants parts : List Want) → IsPickedFrom (drop n wants) parts → IsPickedFrom wants parts
picked_past zero wants parts p = p
picked_past (suc n) [] parts p = p
picked_past (suc n) (want ∷ wants) parts p = picked_skip want wants parts (picked_past n wants parts p)

-- on from the wants after the one at a place
pub goes_on_after : (all wants old new : List Want) (i : ℕ) (d : Want) → i < length wants → GoesOn all wants old → Adds (get_or wants i d) old new → GoesOn all (drop (i + 1) wants) new
goes_on_after all wants old new i d below goes adds =
    let next : i + 1 ≡ suc i = omega arith in
    let parts : drop i wants ≡ get_or wants i d ∷ drop (i + 1) wants = rw next (drop-cons wants i d below) in
    let goes' : GoesOn all (get_or wants i d ∷ drop (i + 1) wants) old = λ more p. goes more (picked_past i wants more (rw parts p)) in
    goes_on_part all (drop (i + 1) wants) old new (get_or wants i d) goes' adds

-- on from the want at a place, where others stand behind all of them
pub goes_on_step : (all wants rest old new : List Want) (i : ℕ) (d : Want) → i < length wants → GoesOn all (drop i wants ++ rest) old → Adds (get_or wants i d) old new → GoesOn all
    (drop (i + 1) wants ++ rest) new
goes_on_step all wants rest old new i d below goes adds =
    let next : i + 1 ≡ suc i = omega arith in
    let parts : drop i wants ≡ get_or wants i d ∷ drop (i + 1) wants = rw next (drop-cons wants i d below) in
    let goes' : GoesOn all (get_or wants i d ∷ (drop (i + 1) wants ++ rest)) old = subst (λ (l : List Want). GoesOn all (l ++ rest) old) parts goes in
    goes_on_part all (drop (i + 1) wants ++ rest) old new (get_or wants i d) goes' adds

-- of wants in a row the front ones may be passed
picked_behind : (wants rest parts : List Want) → IsPickedFrom rest parts → IsPickedFrom (wants ++ rest) parts
picked_behind [] rest parts p = p
picked_behind (want ∷ wants) rest parts p = picked_skip want (wants ++ rest) parts (picked_behind wants rest parts p)

-- all wants but those behind are passed
pub goes_on_passed : (all wants rest ready : List Want) (i : ℕ) → GoesOn all (drop i wants ++ rest) ready → GoesOn all rest ready
goes_on_passed all wants rest ready i goes more p = goes more (picked_behind (drop i wants) rest more p)

-- on from the wants in front to those behind
pub goes_on_split : (all wants ready : List Want) (i : ℕ) → GoesOn all wants ready → GoesOn all (take i wants ++ drop i wants) ready
goes_on_split all wants ready i goes = subst (λ (l : List Want). GoesOn all l ready) (sym (take-append-drop i wants)) goes

-- at the end all is picked
pub goes_on_last : (wants rest ready : List Want) → GoesOn wants rest ready → IsPickedFrom wants ready
goes_on_last wants rest ready goes =
    let none : IsPickedFrom wants (ready ++ []) = goes [] tt in
    let same : ready ≡ ready ++ [] = sym (append-nil ready) in
    rw same none

-- at the end, once those that were left are passed
pub goes_on_end : (wants left old new : List Want) → GoesOn wants left old → ((all rest : List Want) → GoesOn all (left ++ rest) old → GoesOn all rest new) → IsPickedFrom wants new
goes_on_end wants left old new goes on =
    let goes' : GoesOn wants (left ++ []) old = subst (λ (l : List Want). GoesOn wants l old) (sym (append-nil left)) goes in
    goes_on_last wants [] new (on wants [] goes')

-- what goes on from nothing
pub goes_on_from : (wants items rest old new : List Want) → items ≡ wants → old ≡ [] → ((all : List Want) → GoesOn all items old → GoesOn all rest new) → GoesOn wants rest new
goes_on_from wants items rest old new same none goes =
    goes wants (λ more p. rw none (rw (sym same) p))

-- one item more at most
pub adds_one : (want : Want) (old new : List Want) → Adds want old new → length new ≤ length old + 1
adds_one want old new (inl same) = rw same (omega arith)
adds_one want old new (inr (part, is, same)) = rw same (grind (arith, length-append))

-- what a list begins with stays where one item more is added
pub begins_added : (want : Want) (old new first : List Want) → Adds want old new → Begins first old → Begins first new
begins_added want old new first (inl same) b = rw same b
begins_added want old new first (inr (part, is, same)) (more, begins) =
    let joined : (first ++ more) ++ part ∷ [] ≡ first ++ (more ++ part ∷ []) = append_assoc first more (part ∷ []) in
    (more ++ part ∷ [], rw same (rw begins joined))

-- the parts that were put into an empty list
pub picked_all : (wants items old new : List Want) → items ≡ wants → old ≡ [] → ((all rest : List Want) → GoesOn all (items ++ rest) old → GoesOn all rest new) → IsPickedFrom wants new
picked_all wants items old new same none on = goes_on_end wants items old new (λ more p. rw none (rw (sym same) p)) on
