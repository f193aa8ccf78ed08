-- What a tick leaves.
use Rattle.std.proofs.Common.{◌≡◌, ℕ, ◌<◌, nat_lt, not, ◌||◌, Bool, true, false, List, length, find, get_or, set}
use Rattle.std.proofs.Common.{Some, None, option_map, refl, sym, ◌∙◌, ap, subst}
use Rattle.rules_tftp.specs.Transfers.{Transfer, are_left, begun, goes_again, is_due, next_again, said_again, sent_again, ticked, ticked_by, with_again}
use Rattle.rules_tftp.specs.Soundness.{AreApart}
use Rattle.rules_tftp.proofs.Listing.{again_at, apart_again, find_left}
use Rattle.rules_tftp.proofs.Naming.{both}

stays_due : (now : ℕ) (t : Transfer) → goes_again now t ≡ true → (not (is_due now t) || nat_lt t.again 5) ≡ true
stays_due now t is = by (is_due now t) (nat_lt t.again 5) (both (is_due now t) (nat_lt t.again 5) is).1
  where
    by : (a b : Bool) → b ≡ true → (not a || b) ≡ true
    by true b e = e
    by false b e = refl

pub first_left : (now : ℕ) (ts : List Transfer) → find (goes_again now) (are_left now ts) ≡ next_again now ts
first_left now ts = find_left (goes_again now) (λ t. not (is_due now t) || nat_lt t.again 5) (stays_due now) ts

pub tick_none : (now : ℕ) (ts : List Transfer) → find (goes_again now) (are_left now ts) ≡ None → are_left now ts ≡ ticked now true ts
tick_none now ts none = ap (ticked_by now (are_left now ts)) (sym none ∙ first_left now ts)

pub says_none : (now : ℕ) (ts : List Transfer) → find (goes_again now) (are_left now ts) ≡ None → None ≡ begun now true ts
says_none now ts none = ap (option_map said_again) (sym none ∙ first_left now ts)

pub tick_some : (now : ℕ) (ts list : List Transfer) (i : ℕ) (d : Transfer) → list ≡ are_left now ts → i < length list → AreApart list → find (goes_again now) list ≡ Some (get_or list i d)
    → set list i (sent_again now (get_or list i d)) ≡ ticked now true ts
tick_some now ts list i d is within apart first =
    again_at now list i d within apart ∙ ap (λ (l : List Transfer). with_again now (get_or list i d).guest l) is
    ∙ ap (ticked_by now (are_left now ts)) (sym first ∙ ap (find (goes_again now)) is ∙ first_left now ts)

pub apart_set : (now : ℕ) (list : List Transfer) (i : ℕ) (d : Transfer) → i < length list → AreApart list → AreApart (set list i (sent_again now (get_or list i d)))
apart_set now list i d within apart = subst AreApart (sym (again_at now list i d within apart)) (apart_again now (get_or list i d).guest list apart)

pub says_some : (now : ℕ) (ts list : List Transfer) (t : Transfer) → list ≡ are_left now ts → find (goes_again now) list ≡ Some t → Some (said_again t) ≡ begun now true ts
says_some now ts list t is first = ap (option_map said_again) (sym first ∙ ap (find (goes_again now)) is ∙ first_left now ts)
