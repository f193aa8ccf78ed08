-- How often a packet goes again, and when.
use Rattle.std.proofs.Common.{◌≡◌, ℕ, ◌+◌, ◌*◌, ◌<◌, ◌≤◌, nat_le, nat_lt, Bool, true, false, cond, Contains, List, [], ◌∷◌, length, find, Option, Some, None, option_map, refl, sym, ◌∙◌, ap, arith}
use Rattle.std.proofs.lemmas.Bool.Decides.{nat_tests}
use Rattle.std.proofs.lemmas.List.Elements.{Contains-append_right}
use Rattle.rules_tftp.specs.Transfers.{Said, Transfer, begun, goes_again, is_due, next_again, said_again, sending}
use Rattle.rules_tftp.specs.Laws.{AreApartBy, WentAgain, after_again}
use Rattle.rules_tftp.proofs.Naming.{both}

-- what is known of a packet that went again
pub record IsAgain (now : ℕ) (t u : Transfer) (count : ℕ) : Type 0 where
  pub times : u.again ≡ count
  pub timeout_is : u.timeout ≡ t.timeout
  pub due_is : now + (count + 1) * t.timeout ≤ u.due

pub due_at : (now : ℕ) (u : Transfer) → goes_again now u ≡ true → (u.due ≤ now) × (u.again < 5)
due_at now u is = let parts = both (is_due now u) (nat_lt u.again 5) is in (past u.due parts.0, few u.again parts.1)
  where
    past : (n : ℕ) → nat_le n now ≡ true → n ≤ now
    past n is = grind (arith, nat_tests)

    few : (n : ℕ) → nat_lt n 5 ≡ true → n < 5
    few n is = grind (arith, nat_tests)

pub again_is : (now : ℕ) (last : Bool) (packet : List ℕ) (t : Transfer) (moments : List ℕ) → WentAgain (sending now last packet t) moments
    → IsAgain now t (after_again (sending now last packet t) moments) (length moments)
again_is now last packet t [] went = record { times = refl; timeout_is = refl; due_is = omega arith }
again_is now last packet t (m ∷ moments) went =
    let u = after_again (sending now last packet t) moments in
    let before = again_is now last packet t moments went.1 in
    let past : u.due ≤ m = (due_at m u went.0).0 in
    record {
      times = omega (arith, before.times);
      timeout_is = before.timeout_is;
      due_is = omega (arith, before.due_is, past, before.timeout_is);
    }

pub five : (now : ℕ) (last : Bool) (packet : List ℕ) (t : Transfer) (moments : List ℕ) → WentAgain (sending now last packet t) moments → length moments ≤ 5
five now last packet t [] went = omega arith
five now last packet t (m ∷ moments) went =
    let u = after_again (sending now last packet t) moments in
    omega (arith, (again_is now last packet t moments went.1).times, (due_at m u went.0).1)

pub apart : (now : ℕ) (last : Bool) (packet : List ℕ) (t : Transfer) (moments : List ℕ) → WentAgain (sending now last packet t) moments → AreApartBy t.timeout now moments
apart now last packet t [] went = tt
apart now last packet t (m ∷ moments) went =
    let u = after_again (sending now last packet t) moments in
    (omega (arith, (again_is now last packet t moments went.1).due_is, (due_at m u went.0).0), apart now last packet t moments went.1)

found_is : (p : Transfer → Bool) (ts : List Transfer) (t : Transfer) → find p ts ≡ Some t → Contains ts t × (p t ≡ true)
found_is p [] t is = cc
found_is p (x ∷ ts) t is = by (p x) refl is (λ more. found_is p ts t more)
  where
    by : (b : Bool) → p x ≡ b → cond b (Some x) (find p ts) ≡ Some t → (find p ts ≡ Some t → Contains ts t × (p t ≡ true)) → Contains (x ∷ ts) t × (p t ≡ true)
    by true e is more = let same : x ≡ t = cc in ((0, omega arith, same), sym (ap p same) ∙ e)
    by false e is more = let later = more is in (Contains-append_right (x ∷ []) ts t later.0, later.1)

pub only : (now : ℕ) (old : List Transfer) (said : Said) → begun now true old ≡ Some said → (t : Transfer) × Contains old t × (goes_again now t ≡ true) × (said ≡ said_again t)
only now old said is = by (next_again now old) refl is
  where
    by : (o : Option Transfer) → find (goes_again now) old ≡ o → option_map said_again o ≡ Some said → (t : Transfer) × Contains old t × (goes_again now t ≡ true) × (said ≡ said_again t)
    by None e is = cc
    by (Some t) e is = let found = found_is (goes_again now) old t e in (t, found.0, found.1, cc)
