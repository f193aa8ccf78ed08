-- Which flow gives way to a SYN, by the slots of the core.
use Rattle.std.proofs.Common.{◌≡◌, ℕ, ◌+◌, ◌==◌, ◌&&◌, ◌||◌, not, nat_le, nat_lt, Bool, true, false, cond, List, [], ◌∷◌, slice_get, Option, Some, None, refl, sym, ◌∙◌, ap, subst}
use Rattle.std.specs.List.{list_any}
use Rattle.flow_table.specs.Slots.{Flows}
use Rattle.spec_flow.specs.Event.{Story}
use Rattle.spec_flow.specs.Close.{host_was_ended, is_in_use, last_at, may_give_way, our_fin_is_acked, owes_reset, quiet_time}
use Rattle.spec_flow.specs.Flow.{is_closed}
use Rattle.spec_flows.specs.Flows.{Flow, TimeWait, flow_of, uses}
use Rattle.spec_flows.specs.SegmentVerdicts.{goes_before, quietest}
use Rattle.spec_flows.specs.Said.{Each}
use Rattle.spec_flows.proofs.Lists.{each_by_number, found_number}
use Rattle.spec_flows.proofs.Quiet.{first_is_quiet, none_is_quiet}
use Rattle.sim_flows.specs.Seats.{Seats, number_in}

-- ---- a list of flows

owing : Flow → Bool
owing f = owes_reset f.story

none_among : (flows : List Flow) → Each (λ f. owes_reset f.story ≡ false) flows → list_any (λ (f : Flow). owes_reset f.story) flows ≡ false
none_among [] none = refl
none_among (f ∷ flows) none = ap (λ b. b || list_any (λ (f : Flow). owes_reset f.story) flows) none.0 ∙ none_among flows none.1

one_among : (flows : List Flow) (n : ℕ) (f : Flow) → flow_of n flows ≡ Some f → owes_reset f.story ≡ true → list_any (λ (f : Flow). owes_reset f.story) flows ≡ true
one_among [] n f found owes = absurd cc
one_among (g ∷ flows) n f found owes = by (g.number == n) found (λ behind. one_among flows n f behind owes)
  where
    or_true : (b : Bool) → (b || true) ≡ true
    or_true true = refl
    or_true false = refl

    by : (b : Bool) → cond b (Some g) (flow_of n flows) ≡ Some f → (flow_of n flows ≡ Some f → list_any (λ (f : Flow). owes_reset f.story) flows ≡ true)
        → (owes_reset g.story || list_any (λ (f : Flow). owes_reset f.story) flows) ≡ true
    by true found rest = let one : g ≡ f = cc in ap (λ (h : Flow). owes_reset h.story || list_any (λ (f : Flow). owes_reset f.story) flows) one
        ∙ ap (λ b. b || list_any (λ (f : Flow). owes_reset f.story) flows) owes
    by false found rest = ap (λ b. owes_reset g.story || b) (rest found) ∙ or_true (owes_reset g.story)

-- a story of a flow that isn't in use is closed, and owes no reset
not_in_use : (closed owes : Bool) → (not closed || owes) ≡ false → (closed ≡ true) × (owes ≡ false)
not_in_use true true is = cc
not_in_use true false is = (refl, refl)
not_in_use false owes is = cc

-- ---- by the slots

module _ {P : Type 0} (number : P → ℕ) (Follows : P → Story → Type 0) (owes : P → Bool) (owes_is : (p : P) (story : Story) → Follows p story → owes_reset story ≡ owes p)
    (now : ℕ) (gives : P → Bool) (gives_is : (p : P) (story : Story) → Follows p story → may_give_way now story ≡ gives p)
    (last : P → ℕ) (last_is : (p : P) (story : Story) → Follows p story → gives p ≡ true → last_at story ≡ last p)
    (table : Flows) (parts : List (Option P)) (next : ℕ) (flows : List Flow) (time_waits : List TimeWait) (seats : Seats number Follows table parts next flows time_waits) where
  -- a flow that is in use has a part
  record HasPart (f : Flow) : Type 0 where
    k : ℕ
    p : P
    at : slice_get parts k ≡ Some (Some p)
    numbered : number p ≡ f.number
    follows : Follows p f.story

  has_part : (n : ℕ) (f : Flow) → flow_of n flows ≡ Some f → is_in_use f.story ≡ true → HasPart f
  has_part n f found used =
      let seat = seats.found n (ap uses found ∙ used) in
      by_part seat.0 (slice_get parts seat.0) refl seat.1
    where
      numbered : (m : ℕ) → Some m ≡ Some n → m ≡ n
      numbered m is = cc

      same : (g : Flow) → Some g ≡ Some f → g ≡ f
      same g is = cc

      by_part : (k : ℕ) (o : Option (Option P)) → slice_get parts k ≡ o → number_in number (slice_get parts k) ≡ Some n → HasPart f
      by_part k (Some (Some p)) here is =
          let it = seats.seated k p here in
          let number_is : number p ≡ n = numbered (number p) (sym (ap (number_in number) here) ∙ is) in
          let one : it.0 ≡ f = same it.0 (sym it.2 ∙ ap (λ m. flow_of m flows) number_is ∙ found) in
          record { k = k; p = p; at = here; numbered = number_is ∙ sym (found_number n flows f found); follows = subst (λ (g : Flow). Follows p g.story) one it.4 }
      by_part k (Some None) here is = cc (sym (ap (number_in number) here) ∙ is)
      by_part k None here is = cc (sym (ap (number_in number) here) ∙ is)

  -- no flow owes a reset where no part does
  pub none_owes : ((k : ℕ) (p : P) → slice_get parts k ≡ Some (Some p) → owes p ≡ false) → list_any (λ (f : Flow). owes_reset f.story) flows ≡ false
  none_owes none = none_among flows (each_by_number (λ f. owes_reset f.story ≡ false) flows seats.differ (λ n f found. by n f found (is_in_use f.story) refl))
    where
      by : (n : ℕ) (f : Flow) → flow_of n flows ≡ Some f → (b : Bool) → is_in_use f.story ≡ b → owes_reset f.story ≡ false
      by n f found true used = let it = has_part n f found used in owes_is it.p f.story it.follows ∙ none it.k it.p it.at
      by n f found false unused = (not_in_use (is_closed f.story) (owes_reset f.story) unused).1

  -- and one does where a part does
  pub one_owes : (k : ℕ) (p : P) → slice_get parts k ≡ Some (Some p) → owes p ≡ true → list_any (λ (f : Flow). owes_reset f.story) flows ≡ true
  one_owes k p at is = let it = seats.seated k p at in one_among flows (number p) it.0 it.2 (owes_is p it.0.story it.4 ∙ is)

  closed_gives_none : (story : Story) → is_closed story ≡ true → may_give_way now story ≡ false
  closed_gives_none story closed = ap (λ b. not b && not (host_was_ended story && our_fin_is_acked story) && nat_le (last_at story + quiet_time story) now) closed

  -- none may give way where no part may
  pub none_gives : ((k : ℕ) (p : P) → slice_get parts k ≡ Some (Some p) → gives p ≡ false) → quietest now flows ≡ None
  none_gives none = none_is_quiet now flows (each_by_number (λ f. may_give_way now f.story ≡ false) flows seats.differ (λ n f found. by n f found (is_in_use f.story) refl))
    where
      by : (n : ℕ) (f : Flow) → flow_of n flows ≡ Some f → (b : Bool) → is_in_use f.story ≡ b → may_give_way now f.story ≡ false
      by n f found true used = let it = has_part n f found used in gives_is it.p f.story it.follows ∙ none it.k it.p it.at
      by n f found false unused = closed_gives_none f.story (not_in_use (is_closed f.story) (owes_reset f.story) unused).0

  -- of the parts that may this goes before all others
  abbrev pub goes_first : P → P → Bool
  goes_first p q = nat_lt (last p) (last q) || ((last p == last q) && nat_lt (number p) (number q))

  pub one_gives : (k : ℕ) (p : P) → slice_get parts k ≡ Some (Some p) → gives p ≡ true
      → ((j : ℕ) (q : P) → slice_get parts j ≡ Some (Some q) → gives q ≡ true → (number q == number p) ≡ false → goes_first p q ≡ true)
      → (f : Flow) → flow_of (number p) flows ≡ Some f → Follows p f.story → quietest now flows ≡ Some f
  one_gives k p at may first f found follows =
      first_is_quiet now f flows seats.differ (ap (λ n. flow_of n flows) number_is ∙ found) (gives_is p f.story follows ∙ may)
      (each_by_number (λ g. (g.number == f.number) ≡ false → may_give_way now g.story ≡ true → goes_before f g ≡ true) flows seats.differ
      (λ n g here other g_may. by n g here other g_may (is_in_use g.story) refl))
    where
      number_is : f.number ≡ number p
      number_is = found_number (number p) flows f found

      true_false : true ≡ false → ⊥
      true_false is = cc

      before : (a b m n a2 b2 m2 n2 : ℕ) → a ≡ a2 → b ≡ b2 → m ≡ m2 → n ≡ n2 → (nat_lt a2 b2 || ((a2 == b2) && nat_lt m2 n2)) ≡ true → (nat_lt a b || ((a == b) && nat_lt m n)) ≡ true
      before a b m n a2 b2 m2 n2 a_is b_is m_is n_is is = (λ i. nat_lt (a_is i) (b_is i) || ((a_is i == b_is i) && nat_lt (m_is i) (n_is i))) ∙ is

      by : (n : ℕ) (g : Flow) → flow_of n flows ≡ Some g → (g.number == f.number) ≡ false → may_give_way now g.story ≡ true → (b : Bool) → is_in_use g.story ≡ b → goes_before f g ≡ true
      by n g here other g_may true used =
          let it = has_part n g here used in
          let q_may : gives it.p ≡ true = sym (gives_is it.p g.story it.follows) ∙ g_may in
          before (last_at f.story) (last_at g.story) f.number g.number (last p) (last it.p) (number p) (number it.p) (last_is p f.story follows may) (last_is it.p g.story it.follows q_may)
          number_is (sym it.numbered) (first it.k it.p it.at q_may ((λ i. it.numbered i == sym number_is i) ∙ other))
      by n g here other g_may false unused =
          absurd (true_false (sym g_may ∙ closed_gives_none g.story (not_in_use (is_closed g.story) (owes_reset g.story) unused).0))
