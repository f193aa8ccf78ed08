-- What was added and taken back, with one more.
use Rattle.std.proofs.Common.{◌≡◌, ℕ, ◌+◌, ◌≤◌, ◌==◌, ◌||◌, Bool, true, false, cond, List, [], ◌∷◌, ◌++◌, find, slice_get, Option, Some, None, option_map, refl, ◌∙◌, ap, arith}
use Rattle.std.proofs.lemmas.Bool.Decides.{nat_tests}
use Rattle.std.specs.Option.{option_or}
use Rattle.slirp_settings.specs.Addresses.{Config, forward_on}
use Rattle.slirp_settings.specs.declared.Forward.{Forward}
use Rattle.spec_trace.specs.Sockets.{is_among}
use Rattle.spec_run.proofs.Bools.{among_last}
use Rattle.slirp_core.specs.Holds.{as_given}
use Rattle.control_loop.specs.Standing.{HasAll, with_lists}

abbrev pub and_one : ℕ → Forward → List (ℕ × Forward) → List (ℕ × Forward)
and_one n f added = added ++ ((n, f) ∷ [])

-- the first of a number
abbrev on_number : ℕ → ℕ × Forward → Bool
on_number n a = a.0 == n

found_yet : (m n : ℕ) (f : Forward) (added : List (ℕ × Forward)) (g : ℕ × Forward) → find (on_number m) added ≡ Some g → find (on_number m) (and_one n f added) ≡ Some g
found_yet m n f [] g is = cc
found_yet m n f (a ∷ added) g is = by (a.0 == m) (found_yet m n f added g) is
  where
    by : (b : Bool) → (find (on_number m) added ≡ Some g → find (on_number m) (and_one n f added) ≡ Some g) → cond b (Some a) (find (on_number m) added) ≡ Some g → cond b (Some a) (find (on_number m) (and_one n f added)) ≡ Some g
    by true behind is = is
    by false behind is = behind is

found_new : (n : ℕ) (f : Forward) (added : List (ℕ × Forward)) → find (on_number n) added ≡ None → find (on_number n) (and_one n f added) ≡ Some (n, f)
found_new n f [] is = ap (λ b. cond b (Some (n, f)) None) (let same : (n == n) ≡ true = grind (arith, nat_tests) in same)
found_new n f (a ∷ added) is = by (a.0 == n) (found_new n f added) is
  where
    by : (b : Bool) → (find (on_number n) added ≡ None → find (on_number n) (and_one n f added) ≡ Some (n, f)) → cond b (Some a) (find (on_number n) added) ≡ None → cond b (Some a) (find (on_number n) (and_one n f added)) ≡ Some (n, f)
    by true behind is = cc
    by false behind is = behind is

found_none : (m n : ℕ) (f : Forward) (added : List (ℕ × Forward)) → (n == m) ≡ false → find (on_number m) added ≡ None → find (on_number m) (and_one n f added) ≡ None
found_none m n f [] other is = ap (λ b. cond b (Some (n, f)) None) other
found_none m n f (a ∷ added) other is = by (a.0 == m) (found_none m n f added other) is
  where
    by : (b : Bool) → (find (on_number m) added ≡ None → find (on_number m) (and_one n f added) ≡ None) → cond b (Some a) (find (on_number m) added) ≡ None → cond b (Some a) (find (on_number m) (and_one n f added)) ≡ None
    by true behind is = cc
    by false behind is = behind is

-- ---- by the place of the settings first

abbrev of_pair : Option (ℕ × Forward) → Option Forward
of_pair o = option_map (λ a. a.1) o

kept_or : (o : Option Forward) (p q : Option (ℕ × Forward)) (g : Forward) → ((a : ℕ × Forward) → p ≡ Some a → q ≡ Some a) → option_or o (of_pair p) ≡ Some g → option_or o (of_pair q) ≡ Some g
kept_or (Some h) p q g keeps is = is
kept_or None None q g keeps is = cc
kept_or None (Some a) q g keeps is = ap of_pair (keeps a refl) ∙ is

none_or : (o : Option Forward) (p : Option (ℕ × Forward)) → option_or o (of_pair p) ≡ None → (o ≡ None) × (p ≡ None)
none_or (Some h) p is = cc
none_or None None is = (refl, refl)
none_or None (Some a) is = cc

module _ (config : Config) (added : List (ℕ × Forward)) (removed : List ℕ) (n : ℕ) (f : Forward) where
  pub added_yet : (m : ℕ) (g : Forward) → forward_on (with_lists config added removed) m ≡ Some g → forward_on (with_lists config (and_one n f added) removed) m ≡ Some g
  added_yet m g is = kept_or (slice_get config.forwards m) (find (on_number m) added) (find (on_number m) (and_one n f added)) g (λ a here. found_yet m n f added a here) is

  pub added_new : forward_on (with_lists config added removed) n ≡ None → forward_on (with_lists config (and_one n f added) removed) n ≡ Some f
  added_new is =
      let none = none_or (slice_get config.forwards n) (find (on_number n) added) is in
      ap (λ o. option_or o (of_pair (find (on_number n) (and_one n f added)))) none.0 ∙ ap of_pair (found_new n f added none.1)

  pub added_none : (m : ℕ) → (n == m) ≡ false → forward_on (with_lists config added removed) m ≡ None → forward_on (with_lists config (and_one n f added) removed) m ≡ None
  added_none m other is =
      let none = none_or (slice_get config.forwards m) (find (on_number m) added) is in
      ap (λ o. option_or o (of_pair (find (on_number m) (and_one n f added)))) none.0 ∙ ap of_pair (found_none m n f added other none.1)

  -- settings that have one more have these
  pub has_fewer : (settings : Config) → HasAll config (and_one n f added) removed settings → HasAll config added removed settings
  has_fewer settings has = record { given = has.given; forwards = λ m g is. has.forwards m g (added_yet m g is); closed = has.closed }

  pub later_none : (number : ℕ) → number ≡ n → ((m : ℕ) → number ≤ m → forward_on (with_lists config added removed) m ≡ None)
      → (m : ℕ) → number + 1 ≤ m → forward_on (with_lists config (and_one n f added) removed) m ≡ None
  later_none number is none m above = added_none m (let more = above in grind (arith, nat_tests, is, more)) (none m (omega (arith, above)))

-- ---- one that is taken back

among_yet : (a b : Bool) → a ≡ true → (a || b) ≡ true
among_yet true b is = refl
among_yet false b is = cc

among_new : (a b : Bool) → b ≡ true → (a || b) ≡ true
among_new true b is = refl
among_new false b is = is

module _ (config : Config) (added : List (ℕ × Forward)) (removed : List ℕ) (n : ℕ) where
  pub has_open : (settings : Config) → HasAll config added (removed ++ (n ∷ [])) settings → HasAll config added removed settings
  has_open settings has = record {
    given = has.given;
    forwards = λ m g is. has.forwards m g is;
    closed = λ m is. has.closed m (among_last m n removed ∙ among_yet (is_among m removed) (m == n) is);
  }

  pub has_closed : (settings : Config) → HasAll config added (removed ++ (n ∷ [])) settings → is_among n settings.removed ≡ true
  has_closed settings has = has.closed n (among_last n n removed ∙ among_new (is_among n removed) (n == n) (grind (arith, nat_tests)))

-- the settings with just these
pub has_just : (config : Config) (added : List (ℕ × Forward)) (removed : List ℕ) → config ≡ as_given config → HasAll config added removed (with_lists config added removed)
has_just config added removed given = record { given = given; forwards = λ m g is. is; closed = λ m is. is }
