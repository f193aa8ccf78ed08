-- Something holds of each of a list of flows, one of which is changed.
use Rattle.std.proofs.Common.{◌≡◌, ℕ, ◌<◌, ◌≤◌, ◌==◌, Bool, true, false, cond, List, [], ◌∷◌, map, find, Some, None, if◌then◌else◌, refl, sym, ◌∙◌, ap, subst, arith}
use Rattle.std.proofs.lemmas.Bool.Decides.{nat_tests}
use Rattle.spec_flows.specs.Flows.{Flow, is_numbered, flow_of, tell}
use Rattle.spec_flows.specs.Said.{Each, Differ}

module _ (P Q : Flow → Type 0) where
  pub each_as : ((f : Flow) → P f → Q f) → (flows : List Flow) → Each P flows → Each Q flows
  each_as go [] each = tt
  each_as go (f ∷ flows) each = (go f each.0, each_as go flows each.1)

  pub each_map : (change : Flow → Flow) → ((f : Flow) → P f → Q (change f)) → (flows : List Flow) → Each P flows → Each Q (map change flows)
  each_map change go [] each = tt
  each_map change go (f ∷ flows) each = (go f each.0, each_map change go flows each.1)

  -- the head is changed, or the rest goes on
  head_or_rest : (test : Flow → Bool) (change : Flow → Flow) (f : Flow) (flows told : List Flow) → (b : Bool) → test f ≡ b
      → ((g : Flow) → find test (f ∷ flows) ≡ Some g → P g → Q (change g)) → P f → (test f ≡ false → Q f) → (test f ≡ true → Each Q flows)
      → (((g : Flow) → find test flows ≡ Some g → P g → Q (change g)) → Each Q told) → Each Q (if b then change f ∷ flows else f ∷ told)
  head_or_rest test change f flows told true is changed here stays behind rest = (changed f (ap (λ t. cond t (Some f) (find test flows)) is) here, behind is)
  head_or_rest test change f flows told false is changed here stays behind rest =
      (stays is, rest (λ g found. changed g (ap (λ t. cond t (Some f) (find test flows)) is ∙ found)))

  -- the first that passes the test is changed, and the others stay
  pub each_told : (test : Flow → Bool) (change : Flow → Flow) → ((f : Flow) → P f → Q f) → (flows : List Flow)
      → ((f : Flow) → find test flows ≡ Some f → P f → Q (change f)) → Each P flows → Each Q (tell test change flows)
  each_told test change stays [] changed each = tt
  each_told test change stays (f ∷ flows) changed each =
      head_or_rest test change f flows (tell test change flows) (test f) refl changed each.0 (λ is. stays f each.0) (λ is. each_as stays flows each.1)
      (λ later. each_told test change stays flows later each.1)

-- what holds of each holds of one that is found
pub each_found : (P : Flow → Type 0) (test : Flow → Bool) (flows : List Flow) (f : Flow) → Each P flows → find test flows ≡ Some f → P f
each_found P test [] f each is = absurd cc
each_found P test (g ∷ flows) f each is = by_test (test g) is (each_found P test flows f each.1)
  where
    by_test : (b : Bool) → cond b (Some g) (find test flows) ≡ Some f → (find test flows ≡ Some f → P f) → P f
    by_test true is rest = let one : g ≡ f = cc in subst P one each.0
    by_test false is rest = rest is

pub each_both : (P Q : Flow → Type 0) (flows : List Flow) → Each P flows → Each Q flows → Each (λ f. P f × Q f) flows
each_both P Q [] p q = tt
each_both P Q (f ∷ flows) p q = ((p.0, q.0), each_both P Q flows p.1 q.1)

pub is_number : (n : ℕ) → (n == n) ≡ true
is_number n = grind (arith, nat_tests)

pub numbers_same : (a b : ℕ) → (a == b) ≡ true → a ≡ b
numbers_same a b is = grind (arith, nat_tests, is)

some_none : {X : Type 0} {x : X} → Some x ≡ None → ⊥
some_none is = cc

-- a flow that is found has the number
pub found_number : (n : ℕ) (flows : List Flow) (f : Flow) → flow_of n flows ≡ Some f → f.number ≡ n
found_number n [] f is = absurd cc
found_number n (g ∷ flows) f is = by_test (g.number == n) refl is (found_number n flows f)
  where
    by_test : (b : Bool) → (g.number == n) ≡ b → cond b (Some g) (flow_of n flows) ≡ Some f → (flow_of n flows ≡ Some f → f.number ≡ n) → f.number ≡ n
    by_test true same is rest = let one : g ≡ f = cc in sym (ap (λ (h : Flow). h.number) one) ∙ numbers_same g.number n same
    by_test false other is rest = rest is

-- no flow behind has the number
none_here : (P : Flow → Type 0) (n : ℕ) (flows : List Flow) → flow_of n flows ≡ None → Each P flows → Each (λ f. P f × ((f.number == n) ≡ false)) flows
none_here P n [] none each = tt
none_here P n (g ∷ flows) none each = by_test (g.number == n) refl none (λ is. none_here P n flows is each.1)
  where
    by_test : (b : Bool) → (g.number == n) ≡ b → cond b (Some g) (flow_of n flows) ≡ None
        → (flow_of n flows ≡ None → Each (λ f. P f × ((f.number == n) ≡ false)) flows) → Each (λ f. P f × ((f.number == n) ≡ false)) (g ∷ flows)
    by_test true same is rest = absurd (some_none is)
    by_test false other is rest = ((each.0, other), rest is)

-- where numbers differ, what holds of each that is found by its number holds of each
pub each_by_number : (P : Flow → Type 0) (flows : List Flow) → Differ flows → ((n : ℕ) (f : Flow) → flow_of n flows ≡ Some f → P f) → Each P flows
each_by_number P [] differ found = tt
each_by_number P (g ∷ flows) differ found = (
  found g.number g (ap (λ b. cond b (Some g) (flow_of g.number flows)) (is_number g.number)),
  each_by_number P flows differ.1 (λ n f is. found n f (behind n f is (g.number == n) refl)),
)
  where
    behind : (n : ℕ) (f : Flow) → flow_of n flows ≡ Some f → (b : Bool) → (g.number == n) ≡ b → flow_of n (g ∷ flows) ≡ Some f
    behind n f is true same = absurd (some_none (sym is ∙ ap (λ m. flow_of m flows) (sym (numbers_same g.number n same)) ∙ differ.0))
    behind n f is false other = ap (λ b. cond b (Some g) (flow_of n flows)) other ∙ is

-- where numbers differ, all but the changed one have another number
pub each_numbered : (P Q : Flow → Type 0) (n : ℕ) (change : Flow → Flow) → ((f : Flow) → (f.number == n) ≡ false → P f → Q f) → (flows : List Flow) → Differ flows
    → ((f : Flow) → flow_of n flows ≡ Some f → P f → Q (change f)) → Each P flows → Each Q (tell (is_numbered n) change flows)
each_numbered P Q n change stays [] differ changed each = tt
each_numbered P Q n change stays (f ∷ flows) differ changed each =
    head_or_rest P Q (is_numbered n) change f flows (tell (is_numbered n) change flows) (f.number == n) refl changed each.0 (λ is. stays f is each.0)
    (λ is. each_as (λ g. P g × ((g.number == n) ≡ false)) Q (λ g both. stays g both.1 both.0) flows
    (none_here P n flows (ap (λ m. flow_of m flows) (sym (numbers_same f.number n is)) ∙ differ.0) each.1))
    (λ later. each_numbered P Q n change stays flows differ.1 later each.1)

-- ---- numbers

module _ (change : Flow → Flow) (keeps : (f : Flow) → (change f).number ≡ f.number) where
  -- a number that is none's is none's after a change
  behind : (m : ℕ) (f : Flow) (flows : List Flow) (rest : List Flow) (b : Bool) → (f.number == m) ≡ b → cond b (Some f) (flow_of m flows) ≡ None
      → (flow_of m flows ≡ None → flow_of m rest ≡ None) → ((f.number == m) ≡ false) × (flow_of m flows ≡ None) × (flow_of m rest ≡ None)
  behind m f flows rest true same is go = absurd (some_none is)
  behind m f flows rest false other is go = (other, is, go is)

  told_none : (m : ℕ) (test : Flow → Bool) (flows : List Flow) → flow_of m flows ≡ None → flow_of m (tell test change flows) ≡ None
  told_none m test [] none = refl
  told_none m test (f ∷ flows) none = by_test (test f) (behind m f flows (tell test change flows) (f.number == m) refl none (told_none m test flows))
    where
      by_test : (b : Bool) → ((f.number == m) ≡ false) × (flow_of m flows ≡ None) × (flow_of m (tell test change flows) ≡ None)
          → flow_of m (if b then change f ∷ flows else f ∷ tell test change flows) ≡ None
      by_test true is = ap (λ t. cond t (Some (change f)) (flow_of m flows)) (ap (λ n. n == m) (keeps f) ∙ is.0) ∙ is.1
      by_test false is = ap (λ t. cond t (Some f) (flow_of m (tell test change flows))) is.0 ∙ is.2

  pub told_differ : (test : Flow → Bool) (flows : List Flow) → Differ flows → Differ (tell test change flows)
  told_differ test [] differ = tt
  told_differ test (f ∷ flows) differ = by_test (test f) (told_differ test flows differ.1)
    where
      by_test : (b : Bool) → Differ (tell test change flows) → Differ (if b then change f ∷ flows else f ∷ tell test change flows)
      by_test true rest = (ap (λ n. flow_of n flows) (keeps f) ∙ differ.0, differ.1)
      by_test false rest = (told_none f.number test flows differ.0, rest)

  mapped_none : (m : ℕ) (flows : List Flow) → flow_of m flows ≡ None → flow_of m (map change flows) ≡ None
  mapped_none m [] none = refl
  mapped_none m (f ∷ flows) none =
      let is = behind m f flows (map change flows) (f.number == m) refl none (mapped_none m flows) in
      ap (λ t. cond t (Some (change f)) (flow_of m (map change flows))) (ap (λ n. n == m) (keeps f) ∙ is.0) ∙ is.2

  pub mapped_differ : (flows : List Flow) → Differ flows → Differ (map change flows)
  mapped_differ [] differ = tt
  mapped_differ (f ∷ flows) differ = (ap (λ n. flow_of n (map change flows)) (keeps f) ∙ mapped_none f.number flows differ.0, mapped_differ flows differ.1)

-- a number that isn't below the bound is none's
pub fresh : (next : ℕ) (flows : List Flow) → Each (λ f. f.number < next) flows → (n : ℕ) → next ≤ n → flow_of n flows ≡ None
fresh next [] below n past = refl
fresh next (f ∷ flows) below n past = ap (λ t. cond t (Some f) (flow_of n flows)) (other f.number below.0) ∙ fresh next flows below.1 n past
  where
    other : (a : ℕ) → a < next → (a == n) ≡ false
    other a below = grind (arith, nat_tests, below, past)

pub never : (a b : ℕ) → a ≡ b → (a == b) ≡ false → ⊥
never a b same not = true_false (sym (is_number a) ∙ ap (λ n. a == n) same ∙ not)
  where
    true_false : true ≡ false → ⊥
    true_false is = cc
