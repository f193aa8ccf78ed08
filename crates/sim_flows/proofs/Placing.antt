-- A flow of the trace that is in use has a slot whose part follows its story.
use Rattle.std.proofs.Common.{◌≡◌, ℕ, ◌||◌, not, Bool, true, false, List, slice_get, Option, Some, None, refl, sym, ap, ◌∙◌, subst}
use Rattle.flow_table.specs.Slots.{Flows}
use Rattle.spec_flow.specs.Event.{Story}
use Rattle.spec_flow.specs.Close.{is_in_use, owes_reset}
use Rattle.spec_flow.specs.Flow.{is_closed}
use Rattle.spec_flows.specs.Flows.{Flow, TimeWait, flow_of, uses}
use Rattle.sim_flows.specs.Seats.{Seats, number_at, number_in}

-- ---- a flow that isn't in use

closed_then : (a b : Bool) → (not a || b) ≡ false → a ≡ true
closed_then true b is = refl
closed_then false b is = absurd cc

pub not_in_use : (story : Story) → is_in_use story ≡ false → is_closed story ≡ true
not_in_use story is = closed_then (is_closed story) (owes_reset story) is

some_is : {A : Type 0} (a b : A) → ◌≡◌ {A = Option A} (Some a) (Some b) → a ≡ b
some_is a b is = cc

some_part : {A : Type 0} (a : A) → ◌≡◌ {A = Option A} None (Some a) → ⊥
some_part a is = absurd cc

module _ {P : Type 0} (number : P → ℕ) (Follows : P → Story → Type 0) (table : Flows) (parts : List (Option P)) (next : ℕ) (flows : List Flow) (time_waits : List TimeWait)
    (seats : Seats number Follows table parts next flows time_waits) where
  -- the part of a flow
  pub record HasPart (n : ℕ) (f : Flow) : Type 0 where
    pub slot : ℕ
    pub part : P
    pub here : slice_get parts slot ≡ Some (Some part)
    pub numbered : number part ≡ n
    pub follows : Follows part f.story

  numbered_at : (k n : ℕ) (o : Option (Option P)) → number_in number o ≡ Some n → (p : P) × (o ≡ Some (Some p)) × (number p ≡ n)
  numbered_at k n None is = absurd (some_part n is)
  numbered_at k n (Some None) is = absurd (some_part n is)
  numbered_at k n (Some (Some p)) is = (p, refl, some_is (number p) n is)

  -- the flow of a part
  pub flow_at : (n : ℕ) (f : Flow) (k : ℕ) (p : P) → flow_of n flows ≡ Some f → slice_get parts k ≡ Some (Some p) → number p ≡ n → Follows p f.story
  flow_at n f k p found at is =
      let seat = seats.seated k p at in
      let same : seat.0 ≡ f = some_is seat.0 f (sym seat.2 ∙ ap (λ m. flow_of m flows) is ∙ found) in
      subst (λ (g : Flow). Follows p g.story) same seat.4

  pub no_flow : (n : ℕ) (k : ℕ) (p : P) → flow_of n flows ≡ None → slice_get parts k ≡ Some (Some p) → number p ≡ n → ⊥
  no_flow n k p none at is = let seat = seats.seated k p at in some_part seat.0 (sym none ∙ ap (λ m. flow_of m flows) (sym is) ∙ seat.2)

  pub one_part : (n k j : ℕ) (p q : P) → slice_get parts k ≡ Some (Some p) → slice_get parts j ≡ Some (Some q) → number p ≡ n → number q ≡ n → p ≡ q
  one_part n k j p q at_k at_j is_p is_q =
      let same = seats.numbers k j n (ap (number_in number) at_k ∙ ap Some is_p) (ap (number_in number) at_j ∙ ap Some is_q) in
      let two : ◌≡◌ {A = Option (Option P)} (Some (Some p)) (Some (Some q)) = sym at_k ∙ ap (slice_get parts) same ∙ at_j in
      some_is p q (some_is (Some p) (Some q) two)

  pub placed : (n : ℕ) (f : Flow) → flow_of n flows ≡ Some f → is_in_use f.story ≡ true → HasPart n f
  placed n f found used = has (seats.found n (ap uses found ∙ used))
    where
      has : (k : ℕ) × (number_at number parts k ≡ Some n) → HasPart n f
      has (k, is) =
          let p = numbered_at k n (slice_get parts k) is in
          record { slot = k; part = p.0; here = p.1; numbered = p.2; follows = flow_at n f k p.0 found p.1 p.2 }

  -- what holds of each story that a part follows, and of each that is closed, holds of each flow
  pub each : (Q : Story → Type 0) → ((k : ℕ) (p : P) (story : Story) → slice_get parts k ≡ Some (Some p) → Follows p story → Q story) → ((story : Story) → is_in_use story ≡ false → Q story)
      → (n : ℕ) (f : Flow) → flow_of n flows ≡ Some f → Q f.story
  each Q of_part of_closed n f found = by (is_in_use f.story) refl
    where
      by : (b : Bool) → is_in_use f.story ≡ b → Q f.story
      by true used = let part = placed n f found used in of_part part.slot part.part f.story part.here part.follows
      by false used = of_closed f.story used
