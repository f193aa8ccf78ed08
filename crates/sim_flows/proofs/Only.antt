-- What is about one flow changes that flow alone.
use Rattle.std.proofs.Common.{◌≡◌, ℕ, ◌+◌, ◌==◌, ◌&&◌, not, Bool, true, false, cond, List, [], ◌∷◌, ◌++◌, length, filter, find, Option, Some, None, option_map, if◌then◌else◌, refl, sym}
use Rattle.std.proofs.Common.{◌∙◌, ap, subst, arith}
use Rattle.std.proofs.lemmas.Bool.Decides.{nat_tests}
use Rattle.world_face.specs.Journal.{Entry}
use Rattle.slirp_settings.specs.Addresses.{Config}
use Rattle.spec_flows.specs.declared.Tuple.{Tuple}
use Rattle.spec_flow.specs.Event.{Segment, Arrives, Departs}
use Rattle.spec_flow.specs.Close.{is_in_use, owes_reset, is_owed_reset}
use Rattle.spec_flows.specs.Book.{turned, scene, book}
use Rattle.spec_flows.specs.Flows.{Flow, Book, Scene, is_on, is_numbered, owner, flow_of, uses, used, tell, with_event, sends, shuts}
use Rattle.spec_flows.specs.Doings.{Doing, Nothing, Comes, Goes, Resolves, Pauses, Joins, Visits, Calls, Shuts, doing}
use Rattle.spec_flows.specs.Touching.{has_number}
use Rattle.spec_flows.proofs.Apart.{tell_apart, sends_number, found_told, own_told}
use Rattle.sim_flows.specs.Only.{IsOf, AreOf, ids, one_if, Only}
use Rattle.spec_flows.specs.Said.{Differ}

same_number : (n : ℕ) → (n == n) ≡ true
same_number n = grind (arith, nat_tests)

is_same : (a b : ℕ) → (a == b) ≡ true → a ≡ b
is_same a b is = grind (arith, nat_tests, is)

pub same_parts : {A : Type 0} (x y : A) (xs ys : List A) → x ∷ xs ≡ y ∷ ys → (x ≡ y) × (xs ≡ ys)
same_parts x y xs ys is = (cc, cc)

-- the heads of two lists of flows with the same numbers and tuples
pub head_same : (f g : Flow) (a b : List Flow) → ids (f ∷ a) ≡ ids (g ∷ b) → (f.number ≡ g.number) × (f.tuple ≡ g.tuple) × (ids a ≡ ids b)
head_same f g a b is =
    let parts = same_parts (f.number, f.tuple) (g.number, g.tuple) (ids a) (ids b) is in
    (ap (λ (p : ℕ × Tuple). p.0) parts.0, ap (λ (p : ℕ × Tuple). p.1) parts.0, parts.1)

-- ---- numbers

-- flows with the same numbers and tuples have the same numbers
found_same : (n : ℕ) (a b : List Flow) → ids a ≡ ids b → flow_of n b ≡ None → flow_of n a ≡ None
found_same n [] b same is = refl
found_same n (f ∷ a) [] same is = absurd cc
found_same n (f ∷ a) (g ∷ b) same is =
    let parts = head_same f g a b same in
    let number = parts.0 in
    let rest = parts.2 in
    by_test (g.number == n) refl number is (found_same n a b rest)
  where
    by_test : (t : Bool) → (g.number == n) ≡ t → f.number ≡ g.number → cond t (Some g) (flow_of n b) ≡ None → (flow_of n b ≡ None → flow_of n a ≡ None) → flow_of n (f ∷ a) ≡ None
    by_test true at number is go_on = absurd cc
    by_test false at number is go_on = ap (λ m. cond (m == n) (Some f) (flow_of n a)) number ∙ ap (λ t. cond t (Some f) (flow_of n a)) at ∙ go_on is

pub differ_same : (a b : List Flow) → ids a ≡ ids b → Differ b → Differ a
differ_same [] b same differ = tt
differ_same (f ∷ a) [] same differ = absurd cc
differ_same (f ∷ a) (g ∷ b) same differ =
    let parts = head_same f g a b same in
    let number = parts.0 in
    let rest = parts.2 in
    (subst (λ n. flow_of n a ≡ None) (sym number) (found_same g.number a b rest differ.0), differ_same a b rest differ.1)

-- a flow that a test finds is the one of its number
pub found_by : (test : Flow → Bool) (flows : List Flow) (f : Flow) → Differ flows → find test flows ≡ Some f → flow_of f.number flows ≡ Some f
found_by test [] f differ is = absurd cc
found_by test (g ∷ flows) f differ is = by_test (test g) is (found_by test flows f differ.1)
  where
    later : (b : Bool) → (g.number == f.number) ≡ b → flow_of f.number flows ≡ Some f → cond b (Some g) (flow_of f.number flows) ≡ Some f
    later true same found =
        let none : flow_of f.number flows ≡ None = subst (λ n. flow_of n flows ≡ None) (is_same g.number f.number same) differ.0 in
        absurd cc
    later false other found = found

    by_test : (b : Bool) → cond b (Some g) (find test flows) ≡ Some f → (find test flows ≡ Some f → flow_of f.number flows ≡ Some f) → flow_of f.number (g ∷ flows) ≡ Some f
    by_test true is go_on =
        let one : g ≡ f = cc in
        ap (λ (h : Flow). cond (h.number == f.number) (Some h) (flow_of f.number flows)) one ∙ ap (λ b. cond b (Some f) (flow_of f.number flows)) (same_number f.number)
    by_test false is go_on = later (g.number == f.number) refl (go_on is)

-- ---- a change of one

pub only_none : (number : ℕ) (flows : List Flow) → Only number flows flows
only_none number flows = record { same = refl; apart = λ other not. refl; differ = λ d. d; used = refl }

pub only_then : (number : ℕ) (a b c : List Flow) → Only number a b → Only number b c → Only number a c
only_then number a b c one two = record {
  same = two.same ∙ one.same;
  apart = λ other not. two.apart other not ∙ one.apart other not;
  differ = λ d. two.differ (one.differ d);
  used =
      let first : used b + one_if (uses (flow_of number a)) ≡ used a + one_if (uses (flow_of number b)) = one.used in
      let second : used c + one_if (uses (flow_of number b)) ≡ used b + one_if (uses (flow_of number c)) = two.used in
      omega (arith, first, second);
}

count : (f : Flow) (flows : List Flow) → used (f ∷ flows) ≡ one_if (is_in_use f.story) + used flows
count f flows = by_test (is_in_use f.story)
  where
    by_test : (b : Bool) → length (cond b (f ∷ filter (λ (g : Flow). is_in_use g.story) flows) (filter (λ (g : Flow). is_in_use g.story) flows)) ≡ one_if b + used flows
    by_test true = omega arith
    by_test false = omega arith

module _ (test : Flow → Bool) (change : Flow → Flow) (numbers : (f : Flow) → (change f).number ≡ f.number) (tuples : (f : Flow) → (change f).tuple ≡ f.tuple) where
  tell_ids : (flows : List Flow) → ids (tell test change flows) ≡ ids flows
  tell_ids [] = refl
  tell_ids (f ∷ flows) = by_test (test f) (tell_ids flows)
    where
      by_test : (b : Bool) → ids (tell test change flows) ≡ ids flows → ids (if b then change f ∷ flows else f ∷ tell test change flows) ≡ ids (f ∷ flows)
      by_test true rest = λ i. (numbers f i, tuples f i) ∷ ids flows
      by_test false rest = ap (λ l. (f.number, f.tuple) ∷ l) rest

  tell_none : (flows : List Flow) → find test flows ≡ None → tell test change flows ≡ flows
  tell_none [] none = refl
  tell_none (f ∷ flows) none = by_test (test f) none (tell_none flows)
    where
      by_test : (b : Bool) → cond b (Some f) (find test flows) ≡ None → (find test flows ≡ None → tell test change flows ≡ flows) →
          (if b then change f ∷ flows else f ∷ tell test change flows) ≡ f ∷ flows
      by_test true none rest = absurd cc
      by_test false none rest = ap (λ l. f ∷ l) (rest none)

  tell_used : (flows : List Flow) (f : Flow) → find test flows ≡ Some f → used (tell test change flows) + one_if (is_in_use f.story) ≡ used flows + one_if (is_in_use (change f).story)
  tell_used [] f is = absurd cc
  tell_used (g ∷ flows) f is = by_test (test g) is (tell_used flows f)
    where
      by_test : (b : Bool) → cond b (Some g) (find test flows) ≡ Some f
          → (find test flows ≡ Some f → used (tell test change flows) + one_if (is_in_use f.story) ≡ used flows + one_if (is_in_use (change f).story))
          → used (if b then change g ∷ flows else g ∷ tell test change flows) + one_if (is_in_use f.story) ≡ used (g ∷ flows) + one_if (is_in_use (change f).story)
      by_test true is go_on =
          let one : g ≡ f = cc in
          subst (λ (h : Flow). used (change h ∷ flows) + one_if (is_in_use f.story) ≡ used (h ∷ flows) + one_if (is_in_use (change f).story)) (sym one)
          (let new = count (change f) flows in let old = count f flows in omega (arith, new, old))
      by_test false is go_on =
          let rest = go_on is in
          let new = count g (tell test change flows) in
          let old = count g flows in
          omega (arith, rest, new, old)

  pub only_told : (number : ℕ) (flows : List Flow) (f : Flow) → Differ flows → f.number ≡ number → find test flows ≡ Some f
      → flow_of number (tell test change flows) ≡ Some (change f) → Only number flows (tell test change flows)
  only_told number flows f differ is found told = record {
    same = tell_ids flows;
    apart = λ other not. tell_apart other test change numbers flows (ap (has_number other) found ∙ (ap (λ n. n == other) is ∙ not_same other number not));
    differ = λ d. differ_same (tell test change flows) flows (tell_ids flows) d;
    used =
        let here : flow_of number flows ≡ Some f = subst (λ n. flow_of n flows ≡ Some f) is (found_by test flows f differ found) in
        ap (λ o. used (tell test change flows) + one_if (uses o)) here ∙ tell_used flows f found ∙ sym (ap (λ o. used flows + one_if (uses o)) told);
  }
    where
      not_same : (a b : ℕ) → (a == b) ≡ false → (b == a) ≡ false
      not_same a b not = grind (arith, nat_tests, not)

-- a change that finds nothing
only_missing : (number : ℕ) (test : Flow → Bool) (change : Flow → Flow) → ((f : Flow) → (change f).number ≡ f.number) → ((f : Flow) → (change f).tuple ≡ f.tuple) → (flows : List Flow)
    → find test flows ≡ None → Only number flows (tell test change flows)
only_missing number test change numbers tuples flows none = subst (λ l. Only number flows l) (sym (tell_none test change numbers tuples flows none)) (only_none number flows)

-- ---- a happening

sends_tuple : (now : ℕ) (seg : Segment) (f : Flow) → (sends now seg f).tuple ≡ f.tuple
sends_tuple now seg f = by_test (seg.rst && not (owes_reset f.story && is_owed_reset f.story seg))
  where
    by_test : (b : Bool) → (if b then f else with_event now (Departs seg) f).tuple ≡ f.tuple
    by_test true = refl
    by_test false = refl

pub number_of_found : (number : ℕ) (flows : List Flow) (f : Flow) → flow_of number flows ≡ Some f → f.number ≡ number
number_of_found number [] f is = absurd cc
number_of_found number (g ∷ flows) f is = by_test (g.number == number) refl is (number_of_found number flows f)
  where
    by_test : (b : Bool) → (g.number == number) ≡ b → cond b (Some g) (flow_of number flows) ≡ Some f → (flow_of number flows ≡ Some f → f.number ≡ number) → f.number ≡ number
    by_test true same is go_on = let one : g ≡ f = cc in ap (λ (h : Flow). h.number) (sym one) ∙ is_same g.number number same
    by_test false other is go_on = go_on is

module _ (config : Config) (scene : Scene) (number : ℕ) (book : Book) (differ : Differ book.flows) where
  -- a segment on its tuple
  on_tuple : (tuple : Tuple) (change : Flow → Flow) → ((f : Flow) → (change f).number ≡ f.number) → ((f : Flow) → (change f).tuple ≡ f.tuple) → (o : Option Flow) → owner tuple book.flows ≡ o
      → has_number number o ≡ true → Only number book.flows (tell (is_on tuple) change book.flows)
  on_tuple tuple change numbers tuples None owned is = absurd cc
  on_tuple tuple change numbers tuples (Some f) owned is =
      let same : f.number ≡ number = is_same f.number number is in
      only_told (is_on tuple) change numbers tuples number book.flows f differ same owned
      (subst (λ n. flow_of n (tell (is_on tuple) change book.flows) ≡ Some (change f)) same (own_told tuple change numbers f book.flows owned (found_by (is_on tuple) book.flows f differ owned)))

  -- a call on its socket
  on_socket : (change : Flow → Flow) → ((f : Flow) → (change f).number ≡ f.number) → ((f : Flow) → (change f).tuple ≡ f.tuple) → (o : Option Flow) → flow_of number book.flows ≡ o
      → Only number book.flows (tell (is_numbered number) change book.flows)
  on_socket change numbers tuples None none = only_missing number (is_numbered number) change numbers tuples book.flows none
  on_socket change numbers tuples (Some f) found =
      only_told (is_numbered number) change numbers tuples number book.flows f differ (number_of_found number book.flows f found) found
      (found_told number change numbers book.flows ∙ ap (option_map change) found)

  pub only_happens : (h : Doing) → IsOf number book h → Only number book.flows (turned config scene h book).flows
  only_happens Nothing is = only_none number book.flows
  only_happens (Comes on) is = on_tuple on.tuple (with_event scene.moment (Arrives on.segment)) (λ f. refl) (λ f. refl) (owner on.tuple book.flows) refl is
  only_happens (Goes on) is = on_tuple on.tuple (sends scene.moment on.segment) (sends_number scene.moment on.segment) (sends_tuple scene.moment on.segment) (owner on.tuple book.flows) refl is
  only_happens (Calls socket event) is =
      subst (λ n. Only number book.flows (tell (is_numbered n) (with_event scene.moment event) book.flows)) (sym is) (on_socket (with_event scene.moment event) (λ f. refl)
      (λ f. refl) (flow_of number book.flows) refl)
  only_happens (Shuts socket) is =
      subst (λ n. Only number book.flows (tell (is_numbered n) (shuts scene book.came) book.flows)) (sym is) (on_socket (shuts scene book.came) (λ f. refl) (λ f. refl)
      (flow_of number book.flows) refl)
  only_happens (Resolves guest) is = absurd is
  only_happens Pauses is = absurd is
  only_happens (Joins socket) is = absurd is
  only_happens (Visits listener socket peer) is = absurd is

-- ---- entries

pub only_made : (config : Config) (number : ℕ) (past made : List Entry) → Differ (book config past).flows → AreOf config number past made → Only number (book config past).flows
    (book config (made ++ past)).flows
only_made config number past [] differ are = only_none number (book config past).flows
only_made config number past (e ∷ made) differ are =
    let before = only_made config number past made differ are.1 in
    only_then number (book config past).flows (book config (made ++ past)).flows (book config (e ∷ made ++ past)).flows before
    (only_happens config (scene config (made ++ past)) number (book config (made ++ past)) (before.differ differ) (doing config (made ++ past) e) are.0)
