-- Which flow gives way to a SYN: of those that may, the one that goes before all others.
use Rattle.std.proofs.Common.{◌≡◌, ℕ, ◌==◌, ◌&&◌, ◌||◌, Bool, true, false, cond, List, [], ◌∷◌, Option, Some, None, nat_lt, if◌then◌else◌, refl, sym, ◌∙◌, ap, subst, arith}
use Rattle.std.proofs.lemmas.Bool.Decides.{nat_tests}
use Rattle.spec_flow.specs.Close.{last_at, may_give_way}
use Rattle.spec_flows.specs.Flows.{Flow, flow_of}
use Rattle.spec_flows.specs.SegmentVerdicts.{goes_before, quietest, the_earlier}
use Rattle.spec_flows.specs.Said.{Each, Differ}
use Rattle.spec_flows.proofs.Lists.{numbers_same}

true_false : true ≡ false → ⊥
true_false is = cc

-- none may give way
pub none_is_quiet : (now : ℕ) (flows : List Flow) → Each (λ g. may_give_way now g.story ≡ false) flows → quietest now flows ≡ None
none_is_quiet now [] none = refl
none_is_quiet now (f ∷ flows) none = ap (λ b. if b then Some (the_earlier f (quietest now flows)) else quietest now flows) none.0 ∙ none_is_quiet now flows none.1

-- the one that is found is one of them, and may
quiet_has : (P : Flow → Type 0) (now : ℕ) (flows : List Flow) (g : Flow) → Each P flows → quietest now flows ≡ Some g → P g × (may_give_way now g.story ≡ true)
quiet_has P now [] g each is = absurd cc
quiet_has P now (f ∷ flows) g each is = by (may_give_way now f.story) refl is (λ h found. quiet_has P now flows h each.1 found)
  where
    Behind : Type 0
    Behind = (h : Flow) → quietest now flows ≡ Some h → P h × (may_give_way now h.story ≡ true)

    earlier : (may : may_give_way now f.story ≡ true) (o : Option Flow) → quietest now flows ≡ o → Some (the_earlier f o) ≡ Some g → Behind → P g × (may_give_way now g.story ≡ true)
    earlier may None rest found behind = let one : f ≡ g = cc in (subst P one each.0, subst (λ (h : Flow). may_give_way now h.story ≡ true) one may)
    earlier may (Some h) rest found behind = of_two (goes_before f h) found
      where
        of_two : (b : Bool) → Some (if b then f else h) ≡ Some g → P g × (may_give_way now g.story ≡ true)
        of_two true found = let one : f ≡ g = cc in (subst P one each.0, subst (λ (h : Flow). may_give_way now h.story ≡ true) one may)
        of_two false found = let one : h ≡ g = cc in behind g (rest ∙ ap Some one)

    by : (b : Bool) → may_give_way now f.story ≡ b → (if b then Some (the_earlier f (quietest now flows)) else quietest now flows) ≡ Some g → Behind → P g × (may_give_way now g.story ≡ true)
    by true may found behind = earlier may (quietest now flows) refl found behind
    by false not found behind = behind g found

-- of two one goes before the other
before_not_after : (a b m n : ℕ) → (nat_lt a b || ((a == b) && nat_lt m n)) ≡ true → (nat_lt b a || ((b == a) && nat_lt n m)) ≡ false
before_not_after a b m n is = grind (arith, nat_tests, is)

-- it goes before each other one that may
abbrev pub GoesBeforeAll : ℕ → Flow → List Flow → Type 0
GoesBeforeAll now f flows = Each (λ g. (g.number == f.number) ≡ false → may_give_way now g.story ≡ true → goes_before f g ≡ true) flows

others_differ : (n : ℕ) (flows : List Flow) → flow_of n flows ≡ None → Each (λ g. (g.number == n) ≡ false) flows
others_differ n [] none = tt
others_differ n (g ∷ flows) none = by (g.number == n) refl none (λ rest. others_differ n flows rest)
  where
    by : (b : Bool) → (g.number == n) ≡ b → cond b (Some g) (flow_of n flows) ≡ None → (flow_of n flows ≡ None → Each (λ g. (g.number == n) ≡ false) flows)
        → Each (λ g. (g.number == n) ≡ false) (g ∷ flows)
    by true same none behind = absurd cc
    by false other none behind = (other, behind none)

pub first_is_quiet : (now : ℕ) (f : Flow) (flows : List Flow) → Differ flows → flow_of f.number flows ≡ Some f → may_give_way now f.story ≡ true → GoesBeforeAll now f flows
    → quietest now flows ≡ Some f
first_is_quiet now f [] differ found may all = absurd cc
first_is_quiet now f (h ∷ flows) differ found may all = by (h.number == f.number) refl found (λ here. first_is_quiet now f flows differ.1 here may all.1)
  where
    before_rest : (o : Option Flow) → quietest now flows ≡ o → flow_of f.number flows ≡ None → the_earlier f o ≡ f
    before_rest None rest alone = refl
    before_rest (Some g) rest alone =
        let other = (quiet_has (λ g. (g.number == f.number) ≡ false) now flows g (others_differ f.number flows alone) rest).0 in
        let it = quiet_has (λ g. (g.number == f.number) ≡ false → may_give_way now g.story ≡ true → goes_before f g ≡ true) now flows g all.1 rest in
        ap (λ b. if b then f else g) (it.0 other it.1)

    behind : (b : Bool) → may_give_way now h.story ≡ b → (h.number == f.number) ≡ false → quietest now flows ≡ Some f
        → (if b then Some (the_earlier h (quietest now flows)) else quietest now flows) ≡ Some f
    behind false not other rest = rest
    behind true h_may other rest =
        ap (λ o. Some (the_earlier h o)) rest
        ∙ ap (λ b. Some (if b then h else f)) (before_not_after (last_at f.story) (last_at h.story) f.number h.number (all.0 other h_may))

    by : (b : Bool) → (h.number == f.number) ≡ b → cond b (Some h) (flow_of f.number flows) ≡ Some f → (flow_of f.number flows ≡ Some f → quietest now flows ≡ Some f)
        → quietest now (h ∷ flows) ≡ Some f
    by true same here rest =
        let one : h ≡ f = cc in
        let alone : flow_of f.number flows ≡ None = subst (λ n. flow_of n flows ≡ None) (numbers_same h.number f.number same) differ.0 in
        ap (λ b. if b then Some (the_earlier h (quietest now flows)) else quietest now flows) (subst (λ (g : Flow). may_give_way now g.story ≡ true) (sym one) may)
        ∙ ap (λ g. Some (the_earlier g (quietest now flows))) one ∙ ap Some (before_rest (quietest now flows) refl alone)
    by false other here rest = behind (may_give_way now h.story) refl other (rest here)
