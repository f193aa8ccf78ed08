-- Wants with the control's item among them, and reports without the control's.
use Rattle.std.proofs.Common.{◌≡◌, ℕ, zero, suc, ◌+◌, ◌≤◌, nat_lt, ◌&&◌, ◌||◌, not, Bool, true, false, cond, List, [], ◌∷◌, length, filter, Option, Some, None}
use Rattle.std.proofs.Common.{refl, sym, ◌∙◌, ap, arith}
use Rattle.std.proofs.lemmas.Bool.{and_parts, and_from, or_parts, or_from, not-true, not_from_false, ltb-true, ne_eqb, both_ways}
use Rattle.std.specs.List.{list_any, insert}
use Rattle.poll_list.specs.Listing.{AreWants, are_wants, differ, is_who, number_of, same_number}
use Rattle.poll_list.specs.Picks.{as_list}
use Rattle.poll_list.specs.declared.Want.{Want}
use Rattle.poll_list.specs.declared.Who.{Who}
use Rattle.poll_list.specs.declared.Who.TheVariants.{Link, Listener, Tcp, Udp}
use Rattle.world_face.specs.Journal.{Allowed, MayWait, Wait}
use Rattle.world_face.specs.Limits.{most_ready, most_wants}
use Rattle.world_face.specs.declared.Waited.{Waited}
use Rattle.world_face.specs.declared.Waited.TheVariants.{Ready, Stop, Failed}
use Rattle.rules_control.specs.Apart.{is_controls, is_of_control, others, takes_item}
use Rattle.control.specs.Stretches.{IsItem}
use Rattle.control.specs.Waits.{place_for, with_item}

-- ---- a number of the control's is none of the others

abbrev by_number : Option ℕ → Bool
by_number None = false
by_number (Some socket) = is_controls socket

of_number : (who : Who) → is_of_control who ≡ by_number (number_of who)
of_number Link = refl
of_number (Listener socket) = refl
of_number (Udp socket) = refl
of_number (Tcp socket) = refl

other_number : (a b : Option ℕ) → by_number a ≡ true → by_number b ≡ false → same_number a b ≡ false
other_number None b is other = cc
other_number (Some m) None is other = refl
other_number (Some m) (Some n) is other = ne_eqb m n (λ same. both_ways (is_controls n) other (ap is_controls (sym same) ∙ is))

number_other : (a b : Option ℕ) → by_number a ≡ false → by_number b ≡ true → same_number a b ≡ false
number_other a None other is = cc
number_other None (Some n) other is = refl
number_other (Some m) (Some n) other is = ne_eqb m n (λ same. both_ways (is_controls m) other (ap is_controls same ∙ is))

apart : (a b : Who) → is_of_control a ≡ true → is_of_control b ≡ false → same_number (number_of a) (number_of b) ≡ false
apart a b is other = other_number (number_of a) (number_of b) (sym (of_number a) ∙ is) (sym (of_number b) ∙ other)

none_same : (who : Who) (wants : List Want) → is_of_control who ≡ true → list_any (λ want. is_of_control want.of) wants ≡ false
    → list_any (λ w. same_number (number_of who) (number_of w.of)) wants ≡ false
none_same who [] is none = refl
none_same who (want ∷ wants) is none =
    let both = or_parts (is_of_control want.of) (list_any (λ (w : Want). is_of_control w.of) wants) none in
    or_from (same_number (number_of who) (number_of want.of)) (list_any (λ (w : Want). same_number (number_of who) (number_of w.of)) wants) (apart who want.of is both.0)
    (none_same who wants is both.1)

-- ---- an item put at a place of a list

any_put : (test : Want → Bool) (k : ℕ) (wants : List Want) (item : Want) → list_any test wants ≡ false → test item ≡ false → list_any test (insert wants k item) ≡ false
any_put test zero wants item none not_it = or_from (test item) (list_any test wants) not_it none
any_put test (suc k) [] item none not_it = or_from (test item) false not_it refl
any_put test (suc k) (want ∷ wants) item none not_it =
    let both = or_parts (test want) (list_any test wants) none in
    or_from (test want) (list_any test (insert wants k item)) both.0 (any_put test k wants item both.1 not_it)

wants_put : (k : ℕ) (wants : List Want) (item : Want) → are_wants wants ≡ true → are_wants (item ∷ []) ≡ true → are_wants (insert wants k item) ≡ true
wants_put zero wants item all one =
    and_from ((item.read || item.write) && is_who item.of) (are_wants wants) (and_parts ((item.read || item.write) && is_who item.of) true one).0 all
wants_put (suc k) [] item all one = one
wants_put (suc k) (want ∷ wants) item all one =
    let both = and_parts ((want.read || want.write) && is_who want.of) (are_wants wants) all in
    and_from ((want.read || want.write) && is_who want.of) (are_wants (insert wants k item)) both.0 (wants_put k wants item both.1 one)

-- of the control's, where none is
differ_put : (k : ℕ) (wants : List Want) (item : Want) → is_of_control item.of ≡ true → list_any (λ want. is_of_control want.of) wants ≡ false → differ wants ≡ true
    → differ (insert wants k item) ≡ true
differ_put zero wants item is none all =
    and_from (not (list_any (λ (w : Want). same_number (number_of item.of) (number_of w.of)) wants)) (differ wants)
    (not_from_false (list_any (λ (w : Want). same_number (number_of item.of) (number_of w.of)) wants) (none_same item.of wants is none)) all
differ_put (suc k) [] item is none all = refl
differ_put (suc k) (want ∷ wants) item is none all =
    let others = or_parts (is_of_control want.of) (list_any (λ (w : Want). is_of_control w.of) wants) none in
    let both = and_parts (not (list_any (λ (w : Want). same_number (number_of want.of) (number_of w.of)) wants)) (differ wants) all in
    let unlike = number_other (number_of want.of) (number_of item.of) (sym (of_number want.of) ∙ others.0) (sym (of_number item.of) ∙ is) in
    and_from (not (list_any (λ (w : Want). same_number (number_of want.of) (number_of w.of)) (insert wants k item))) (differ (insert wants k item))
    (not_from_false (list_any (λ (w : Want). same_number (number_of want.of) (number_of w.of)) (insert wants k item))
    (any_put (λ (w : Want). same_number (number_of want.of) (number_of w.of)) k wants item (not-true _ both.0) unlike))
    (differ_put k wants item is others.1 both.1)

length_put : (k : ℕ) (wants : List Want) (item : Want) → length (insert wants k item) ≡ length wants + 1
length_put zero wants item = omega arith
length_put (suc k) [] item = omega arith
length_put (suc k) (want ∷ wants) item = omega (arith, length_put k wants item)

-- ---- a wait for the item, too

pub few_wanted : (item : Option Want) (wants : List Want) → length wants ≤ most_wants → length (with_item item wants) ≤ most_wants
few_wanted None wants few = few
few_wanted (Some item) wants few = by (nat_lt (length wants) most_wants) (list_any (λ (w : Want). is_of_control w.of) wants) refl
  where
    by : (room taken : Bool) → nat_lt (length wants) most_wants ≡ room → length (cond (room && not taken) (insert wants (place_for item.of wants) item) wants) ≤ most_wants
    by true true is = few
    by true false is = omega (arith, length_put (place_for item.of wants) wants item, ltb-true (length wants) most_wants is)
    by false taken is = few

pub are_wanted : (item : Option Want) (wants : List Want) → AreWants (as_list item) → AreWants wants → AreWants (with_item item wants)
are_wanted None wants one all = all
are_wanted (Some item) wants one all = by (takes_item wants)
  where
    by : (takes : Bool) → AreWants (cond takes (insert wants (place_for item.of wants) item) wants)
    by true = wants_put (place_for item.of wants) wants item all one
    by false = all

-- no socket is wanted twice where none was
differ_wanted : (item : Option Want) (wants : List Want) → IsItem item → differ wants ≡ true → differ (with_item item wants) ≡ true
differ_wanted None wants own all = all
differ_wanted (Some item) wants own all = by (nat_lt (length wants) most_wants) (list_any (λ (w : Want). is_of_control w.of) wants) refl
  where
    by : (room taken : Bool) → list_any (λ (w : Want). is_of_control w.of) wants ≡ taken
        → differ (cond (room && not taken) (insert wants (place_for item.of wants) item) wants) ≡ true
    by true true is = all
    by true false is = differ_put (place_for item.of wants) wants item own.1 is all
    by false taken is = all

-- ---- what was reported of some

any_left : (test keeps : Want → Bool) (items : List Want) → list_any test items ≡ false → list_any test (filter keeps items) ≡ false
any_left test keeps [] none = refl
any_left test keeps (item ∷ items) none =
    let both = or_parts (test item) (list_any test items) none in
    by (keeps item) both.0 (any_left test keeps items both.1)
  where
    by : (keep : Bool) → test item ≡ false → list_any test (filter keeps items) ≡ false → list_any test (cond keep (item ∷ filter keeps items) (filter keeps items)) ≡ false
    by true not_it none = or_from (test item) (list_any test (filter keeps items)) not_it none
    by false not_it none = none

wants_left : (keeps : Want → Bool) (items : List Want) → are_wants items ≡ true → are_wants (filter keeps items) ≡ true
wants_left keeps [] all = refl
wants_left keeps (item ∷ items) all =
    let both = and_parts ((item.read || item.write) && is_who item.of) (are_wants items) all in
    by (keeps item) both.0 (wants_left keeps items both.1)
  where
    by : (keep : Bool) → ((item.read || item.write) && is_who item.of) ≡ true → are_wants (filter keeps items) ≡ true
        → are_wants (cond keep (item ∷ filter keeps items) (filter keeps items)) ≡ true
    by true one all = and_from ((item.read || item.write) && is_who item.of) (are_wants (filter keeps items)) one all
    by false one all = all

differ_left : (keeps : Want → Bool) (items : List Want) → differ items ≡ true → differ (filter keeps items) ≡ true
differ_left keeps [] all = refl
differ_left keeps (item ∷ items) all =
    let both = and_parts (not (list_any (λ (w : Want). same_number (number_of item.of) (number_of w.of)) items)) (differ items) all in
    by (keeps item) (any_left (λ (w : Want). same_number (number_of item.of) (number_of w.of)) keeps items (not-true _ both.0)) (differ_left keeps items both.1)
  where
    by : (keep : Bool) → list_any (λ (w : Want). same_number (number_of item.of) (number_of w.of)) (filter keeps items) ≡ false → differ (filter keeps items) ≡ true
        → differ (cond keep (item ∷ filter keeps items) (filter keeps items)) ≡ true
    by true unlike all =
        and_from (not (list_any (λ (w : Want). same_number (number_of item.of) (number_of w.of)) (filter keeps items))) (differ (filter keeps items)) (not_from_false _ unlike) all
    by false unlike all = all

length_left : (keeps : Want → Bool) (items : List Want) → length (filter keeps items) ≤ length items
length_left keeps [] = omega arith
length_left keeps (item ∷ items) = by (keeps item) (length_left keeps items)
  where
    by : (keep : Bool) → length (filter keeps items) ≤ length items → length (cond keep (item ∷ filter keeps items) (filter keeps items)) ≤ length (item ∷ items)
    by true few = omega (arith, few)
    by false few = omega (arith, few)

pub few_ready : (wants : List Want) (answer : Waited) (ready : List Want) → MayWait wants answer ready → length ready ≤ most_ready
few_ready wants Ready ready may = may.2
few_ready wants Stop ready may = rw may (omega arith)
few_ready wants Failed ready may = rw may (omega arith)

may_wait : (item : Option Want) (wants : List Want) (answer : Waited) (ready : List Want) → IsItem item → MayWait (with_item item wants) answer ready → MayWait wants answer (others ready)
may_wait item wants Ready ready own may = (
  wants_left (λ (w : Want). not (is_of_control w.of)) ready may.0,
  λ all. differ_left (λ (w : Want). not (is_of_control w.of)) ready (may.1 (differ_wanted item wants own all)),
  omega (arith, length_left (λ (w : Want). not (is_of_control w.of)) ready, may.2),
)
may_wait item wants Stop ready own may = ap others may
may_wait item wants Failed ready own may = ap others may

-- what the network sees of a wait is what a World may answer
pub wait_seen : (item : Option Want) (wants : List Want) (timeout : Option ℕ) (answer : Waited) (ready : List Want) → IsItem item → AreWants wants
    → Allowed (Wait (with_item item wants) timeout answer ready) → Allowed (Wait wants timeout answer (others ready))
wait_seen item wants timeout answer ready own all allowed = (may_wait item wants answer ready own allowed.0, all, allowed.2)
