-- A flow asks for its guest's hardware address: it may, all flows that were accepted for that guest are told, and the count goes on.
use Rattle.std.proofs.Common.{◌≡◌, ℕ, suc, ◌+◌, ◌*◌, ◌<◌, ◌≤◌, ◌==◌, ◌&&◌, ◌||◌, Bool, true, false, cond, List, [], ◌∷◌, length, map, filter, set, slice_get, Option, Some, None, option_map}
use Rattle.std.proofs.Common.{if◌then◌else◌, ◌⊎◌, inl, inr, refl, sym, ◌∙◌, ap, subst, arith}
use Rattle.std.proofs.lemmas.List.{length-map}
use Rattle.world_face.specs.Journal.{Entry}
use Rattle.world_face.specs.Frames.{goes_out}
use Rattle.slirp_settings.specs.Addresses.{Config, address}
use Rattle.spec_flow.specs.Event.{AsksAddress, At}
use Rattle.spec_flow.specs.Close.{is_in_use}
use Rattle.spec_flow.specs.Flow.{is_accepted}
use Rattle.spec_flow.specs.Settings.{Settings}
use Rattle.spec_flows.specs.Book.{book}
use Rattle.spec_flows.specs.Flows.{Flow, TimeWait, flow_of, resolves_for, with_event}
use Rattle.spec_flows.proofs.Apart.{map_found, resolves_number}
use Rattle.spec_flows.specs.Segments.{asked_in}
use Rattle.flow_table.specs.Slots.{Flows}
use Rattle.spec_trace.specs.Sockets.{is_among}
use Rattle.sim_flows.specs.Seats.{Seats}
use Rattle.sim_flows.proofs.Resolving.{seats_asked}
use Rattle.sim_flows.proofs.Seats.{differ, same_or_not, seats_one}
use Rattle.sim_flows.proofs.Tables.{get_set_other, get_set_same}
use Rattle.spec_run.specs.Answers.{left}
use Rattle.spec_run.specs.Sending.{accepted_for, asked_beside, requests, requests_by, times}
use Rattle.spec_run.proofs.Bools.{equal, same, turned}
use Rattle.flow_splice.specs.Follows.{Follows}
use Rattle.flow_splice.specs.Splice.{Splice}
use Rattle.flow_splice.proofs.Asked.{asked_follows}
use Rattle.sim_flows.specs.Asked.{AreAsked, accepted_numbers, sum_of, was_accepted}
use Rattle.sim_flows.specs.Core.{number_of}
use Rattle.sim_flows.proofs.Options.{none_some, some_same}

-- ---- which flows were accepted

-- a number that no flow has was accepted for none
pub none_accepted : (n : ℕ) (flows : List Flow) → flow_of n flows ≡ None → was_accepted n flows ≡ false
none_accepted n [] none = refl
none_accepted n (f ∷ flows) none = by (f.number == n) (is_accepted f.story) none (none_accepted n flows)
  where
    by : (b a : Bool) → cond b (Some f) (flow_of n flows) ≡ None → (flow_of n flows ≡ None → was_accepted n flows ≡ false) → ((a && b) || was_accepted n flows) ≡ false
    by true a none rest = absurd (none_some (sym none))
    by false true none rest = rest none
    by false false none rest = rest none

-- with a flow more, on a number that none has
pub accepted_first : (f : Flow) (flows : List Flow) (n : ℕ) → f.number ≡ n → flow_of n flows ≡ None → was_accepted n (f ∷ flows) ≡ is_accepted f.story
accepted_first f flows n is none = ap (λ b. (is_accepted f.story && b) || was_accepted n flows) (ap (λ m. m == n) is ∙ same n) ∙ by (is_accepted f.story)
  where
    by : (a : Bool) → ((a && true) || was_accepted n flows) ≡ a
    by true = refl
    by false = none_accepted n flows none

pub accepted_behind : (f : Flow) (flows : List Flow) (n : ℕ) → (f.number == n) ≡ false → was_accepted n (f ∷ flows) ≡ was_accepted n flows
accepted_behind f flows n apart = ap (λ b. (is_accepted f.story && b) || was_accepted n flows) apart ∙ by (is_accepted f.story)
  where
    by : (a : Bool) → ((a && false) || was_accepted n flows) ≡ was_accepted n flows
    by true = refl
    by false = refl

-- one that was accepted for a guest was accepted, and one that was accepted was so for its guest
among_accepted : (n guest : ℕ) (flows : List Flow) → is_among n (accepted_numbers guest flows) ≡ true → was_accepted n flows ≡ true
among_accepted n guest [] is = is
among_accepted n guest (f ∷ flows) is = by (is_accepted f.story) (address f.tuple.guest == guest) is (among_accepted n guest flows)
  where
    or_true : (b : Bool) → (b || true) ≡ true
    or_true true = refl
    or_true false = refl

    behind : (b : Bool) → was_accepted n flows ≡ true → (b || was_accepted n flows) ≡ true
    behind b it = ap (λ c. b || c) it ∙ or_true b

    at_head : (b c : Bool) → (n == f.number) ≡ c → (f.number == n) ≡ b → b ≡ c → (c || is_among n (accepted_numbers guest flows)) ≡ true
        → (is_among n (accepted_numbers guest flows) ≡ true → was_accepted n flows ≡ true) → (b || was_accepted n flows) ≡ true
    at_head true c it back both among rest = refl
    at_head false true it back both among rest = cc
    at_head false false it back both among rest = rest among

    by : (a b : Bool) → is_among n (map (λ (h : Flow). h.number) (if a && b then f ∷ accepted_for guest flows else accepted_for guest flows)) ≡ true
        → (is_among n (accepted_numbers guest flows) ≡ true → was_accepted n flows ≡ true) → ((a && (f.number == n)) || was_accepted n flows) ≡ true
    by true true among rest = at_head (f.number == n) (n == f.number) refl refl (sym (turned f.number n (f.number == n) refl)) among rest
    by true false among rest = behind (f.number == n) (rest among)
    by false b among rest = rest among

accepted_among : (n : ℕ) (flows : List Flow) → was_accepted n flows ≡ true → (guest : ℕ) × (is_among n (accepted_numbers guest flows) ≡ true)
accepted_among n [] is = absurd (not_so is)
  where
    not_so : false ≡ true → ⊥
    not_so it = cc
accepted_among n (f ∷ flows) is = by (is_accepted f.story) (f.number == n) refl refl is (λ it. accepted_among n flows it)
  where
    or_true : (b : Bool) → (b || true) ≡ true
    or_true true = refl
    or_true false = refl

    behind : (b : Bool) (guest : ℕ) → is_among n (accepted_numbers guest flows) ≡ true → is_among n (map (λ (h : Flow). h.number)
        (if b then f ∷ accepted_for guest flows else accepted_for guest flows)) ≡ true
    behind true guest it = ap (λ c. (n == f.number) || c) it ∙ or_true (n == f.number)
    behind false guest it = it

    later : (guest : ℕ) × (is_among n (accepted_numbers guest flows) ≡ true) → (guest : ℕ) × (is_among n (accepted_numbers guest (f ∷ flows)) ≡ true)
    later had = (had.0, behind (is_accepted f.story && (address f.tuple.guest == had.0)) had.0 had.1)

    by : (a b : Bool) → is_accepted f.story ≡ a → (f.number == n) ≡ b → ((a && b) || was_accepted n flows) ≡ true
        → (was_accepted n flows ≡ true → (guest : ℕ) × (is_among n (accepted_numbers guest flows) ≡ true)) → (guest : ℕ) × (is_among n (accepted_numbers guest (f ∷ flows)) ≡ true)
    by true true was it among rest = (
      address f.tuple.guest,
      ap (λ b. is_among n (map (λ (h : Flow). h.number) (if b then f ∷ accepted_for (address f.tuple.guest) flows else accepted_for (address f.tuple.guest) flows)))
          (ap (λ b. b && (address f.tuple.guest == address f.tuple.guest)) was ∙ same (address f.tuple.guest))
          ∙ ap (λ b. b || is_among n (accepted_numbers (address f.tuple.guest) flows)) (turned f.number n true it),
    )
    by true false was it among rest = later (rest among)
    by false b was it among rest = later (rest among)

-- where for each guest the same flows were accepted, the same were accepted
pub accepted_same : (later flows : List Flow) → ((guest : ℕ) → accepted_numbers guest later ≡ accepted_numbers guest flows) → (n : ℕ) → was_accepted n later ≡ was_accepted n flows
accepted_same later flows same_numbers n =
    by (was_accepted n later) (was_accepted n flows)
    (λ is. let had = accepted_among n later is in among_accepted n had.0 flows (sym (ap (is_among n) (same_numbers had.0)) ∙ had.1))
    (λ is. let had = accepted_among n flows is in among_accepted n had.0 later (ap (is_among n) (same_numbers had.0) ∙ had.1))
  where
    by : (a b : Bool) → (a ≡ true → b ≡ true) → (b ≡ true → a ≡ true) → a ≡ b
    by true b one other = sym (one refl)
    by false true one other = other refl
    by false false one other = refl

-- ---- sums

pub few_sum : (asks : ℕ → ℕ) → ((n : ℕ) → asks n ≤ 9) → (ns : List ℕ) → sum_of asks ns ≤ 9 * length ns
few_sum asks few [] = omega arith
few_sum asks few (n ∷ ns) = let here = few n in let rest = few_sum asks few ns in omega (arith, here, rest)

-- where one of them asked less than nine times, so did they all
pub less_sum : (asks : ℕ → ℕ) → ((n : ℕ) → asks n ≤ 9) → (n : ℕ) (ns : List ℕ) → is_among n ns ≡ true → asks n < 9 → sum_of asks ns < 9 * length ns
less_sum asks few n [] among less = cc
less_sum asks few n (m ∷ ns) among less = by (n == m) refl among (λ more. less_sum asks few n ns more less)
  where
    by : (b : Bool) → (n == m) ≡ b → (b || is_among n ns) ≡ true → (is_among n ns ≡ true → sum_of asks ns < 9 * length ns) → sum_of asks (m ∷ ns) < 9 * length (m ∷ ns)
    by true this among more = let one : asks m < 9 = subst (λ k. asks k < 9) (equal n m this) less in let rest = few_sum asks few ns in omega (arith, one, rest)
    by false this among more = let here = few m in let rest = more among in omega (arith, here, rest)

-- one asks once more
abbrev pub raised : ℕ → (ℕ → ℕ) → ℕ → ℕ
raised n asks m = if m == n then suc (asks m) else asks m

raised_by : (b : Bool) (a : ℕ) → a ≤ (if b then suc a else a)
raised_by true a = omega arith
raised_by false a = omega arith

pub raised_more : (n : ℕ) (asks : ℕ → ℕ) (ns : List ℕ) → sum_of asks ns ≤ sum_of (raised n asks) ns
raised_more n asks [] = omega arith
raised_more n asks (m ∷ ns) = let here = raised_by (m == n) (asks m) in let rest = raised_more n asks ns in omega (arith, here, rest)

pub raised_sum : (n : ℕ) (asks : ℕ → ℕ) (ns : List ℕ) → is_among n ns ≡ true → suc (sum_of asks ns) ≤ sum_of (raised n asks) ns
raised_sum n asks [] among = cc
raised_sum n asks (m ∷ ns) among = by (m == n) refl (λ more. raised_sum n asks ns more)
  where
    by : (b : Bool) → (m == n) ≡ b → (is_among n ns ≡ true → suc (sum_of asks ns) ≤ sum_of (raised n asks) ns) → suc (asks m + sum_of asks ns) ≤
        (if b then suc (asks m) else asks m) + sum_of (raised n asks) ns
    by true this more = let rest = raised_more n asks ns in omega (arith, rest)
    by false other more = let rest = more (sym (ap (λ b. b || is_among n ns) (turned m n false other)) ∙ among) in omega (arith, rest)

-- ---- the flows that were accepted for a guest, when one is asked for

module _ (now guest : ℕ) where
  by_asking : (Q : Flow → Type 0) (f : Flow) → Q (with_event now AsksAddress f) → Q f → Q (resolves_for now guest f)
  by_asking Q f asked unasked = by_test (is_accepted f.story && (address f.tuple.guest == guest))
    where
      by_test : (b : Bool) → Q (if b then with_event now AsksAddress f else f)
      by_test true = asked
      by_test false = unasked

  abbrev is_for : ℕ → Flow → Bool
  is_for g f = is_accepted f.story && (address f.tuple.guest == g)

  pub numbers_asked : (g : ℕ) (flows : List Flow) → accepted_numbers g (map (resolves_for now guest) flows) ≡ accepted_numbers g flows
  numbers_asked g [] = refl
  numbers_asked g (f ∷ flows) =
      ap (λ (b : Bool). map (λ (h : Flow). h.number) (if b then resolves_for now guest f ∷ accepted_for g (map (resolves_for now guest) flows) else accepted_for g
      (map (resolves_for now guest) flows))) (by_asking (λ h. is_for g h ≡ is_for g f) f refl refl)
      ∙ by_test (is_for g f) (numbers_asked g flows)
    where
      by_test : (b : Bool) → accepted_numbers g (map (resolves_for now guest) flows) ≡ accepted_numbers g flows
          → map (λ (h : Flow). h.number) (if b then resolves_for now guest f ∷ accepted_for g (map (resolves_for now guest) flows) else accepted_for g (map (resolves_for now guest) flows))
          ≡ map (λ (h : Flow). h.number) (if b then f ∷ accepted_for g flows else accepted_for g flows)
      by_test true rest = λ i. by_asking (λ (h : Flow). h.number ≡ f.number) f refl refl i ∷ rest i
      by_test false rest = rest

-- ---- the count goes on

module _ (config : Config) (past : List Entry) (parts : List (Option Splice)) (k : ℕ) (p q : Splice) (at : slice_get parts k ≡ Some (Some p))
    (same_number : number_of q ≡ number_of p) (same_kind : q.accepted ≡ p.accepted) (once_more : q.asked ≡ p.asked + 1) (less : p.asked < 9)
    (only : (j : ℕ) (r : Splice) → slice_get parts j ≡ Some (Some r) → number_of r ≡ number_of p → j ≡ k) (a : AreAsked config parts past) where
  own_now : (j : ℕ) (r : Splice) → slice_get (set parts k (Some q)) j ≡ Some (Some r) → raised (number_of p) a.asks (number_of r) ≤ r.asked
  own_now j r here = elim (same_or_not j k) [
    | inl at_k ↦
        let it : r ≡ q = some_same r q (get_set_same parts k (Some p) (Some q) (Some r) at (subst (λ i. slice_get (set parts k (Some q)) i ≡ Some (Some r)) at_k here)) in
        subst (λ (x : Splice). raised (number_of p) a.asks (number_of x) ≤ x.asked) (sym it) at_q
    | inr other ↦
        let was : slice_get parts j ≡ Some (Some r) = sym (get_set_other parts k j (Some q) (differ j k other)) ∙ here in
        not_it j r other was (number_of r == number_of p) refl
  ]
    where
      at_q : raised (number_of p) a.asks (number_of q) ≤ q.asked
      at_q =
          let raise : raised (number_of p) a.asks (number_of q) ≡ suc (a.asks (number_of p)) =
          ap (raised (number_of p) a.asks) same_number ∙ ap (λ (b : Bool). if b then suc (a.asks (number_of p)) else a.asks (number_of p)) (same (number_of p)) in
          let own = a.own k p at in
          omega (arith, raise, own, once_more)

      not_it : (j : ℕ) (r : Splice) → (j == k) ≡ false → slice_get parts j ≡ Some (Some r) → (b : Bool) → (number_of r == number_of p) ≡ b →
          (if b then suc (a.asks (number_of r)) else a.asks (number_of r)) ≤ r.asked
      not_it j r other was false is = a.own j r was
      not_it j r other was true is = absurd (differ j k other (only j r was (equal (number_of r) (number_of p) is)))

  few_now : (n : ℕ) → raised (number_of p) a.asks n ≤ 9
  few_now n = by (n == number_of p) refl
    where
      by : (b : Bool) → (n == number_of p) ≡ b → (if b then suc (a.asks n) else a.asks n) ≤ 9
      by false other = a.few n
      by true this = let own = a.own k p at in let here = ap a.asks (equal n (number_of p) this) in omega (arith, own, here, less)

  -- it may ask: its guest was asked for less than nine times for each flow that was accepted for it
  pub may_ask_more : (guest : ℕ) → is_among (number_of p) (accepted_numbers guest (book config past).flows) ≡ true → times guest (requests config past) < 9 * length
      (accepted_for guest (book config past).flows)
  may_ask_more guest among =
      let own = a.own k p at in
      let sum = less_sum a.asks a.few (number_of p) (accepted_numbers guest (book config past).flows) among (omega (arith, own, less)) in
      let counted = a.counted guest in
      let long : length (accepted_numbers guest (book config past).flows) ≡ length (accepted_for guest (book config past).flows) = length-map
      (accepted_for guest (book config past).flows) (λ (f : Flow). f.number) in
      omega (arith, sum, counted, long)

  -- and once it has asked the count goes on
  module _ (e : Entry) (guest : ℕ) (frame : List ℕ) (out : goes_out e past ≡ Some frame) (asked : asked_in frame ≡ Some guest) (nothing : left config past ≡ []) (now : ℕ)
      (told : (book config (e ∷ past)).flows ≡ map (resolves_for now guest) (book config past).flows) (among : is_among (number_of p) (accepted_numbers guest (book config past).flows) ≡ true) where
    requests_are : requests config (e ∷ past) ≡ guest ∷ requests config past
    requests_are =
        ap (λ o. requests_by (left config past) o (requests config past)) out
        ∙ ap (λ l. requests_by l (Some frame) (requests config past)) nothing
        ∙ ap (λ o. asked_beside false o (requests config past)) asked

    numbers_are : (g : ℕ) → accepted_numbers g (book config (e ∷ past)).flows ≡ accepted_numbers g (book config past).flows
    numbers_are g = ap (accepted_numbers g) told ∙ numbers_asked now guest g (book config past).flows

    counted_now : (g : ℕ) → times g (requests config (e ∷ past)) ≤ sum_of (raised (number_of p) a.asks) (accepted_numbers g (book config (e ∷ past)).flows)
    counted_now g = subst (λ ns. times g (requests config (e ∷ past)) ≤ sum_of (raised (number_of p) a.asks) ns) (sym (numbers_are g))
        (subst (λ l. times g l ≤ sum_of (raised (number_of p) a.asks) (accepted_numbers g (book config past).flows)) (sym requests_are) (by (guest == g) refl))
      where
        by : (b : Bool) → (guest == g) ≡ b → length (if b then guest ∷ filter (λ n. n == g) (requests config past) else filter (λ n. n == g) (requests config past))
            ≤ sum_of (raised (number_of p) a.asks) (accepted_numbers g (book config past).flows)
        by true this =
            let before = a.counted g in
            let more = raised_sum (number_of p) a.asks (accepted_numbers g (book config past).flows) (ap (λ n. is_among (number_of p) (accepted_numbers n (book config past).flows))
            (sym (equal guest g this)) ∙ among) in
            omega (arith, before, more)
        by false other = let before = a.counted g in let more = raised_more (number_of p) a.asks (accepted_numbers g (book config past).flows) in omega (arith, before, more)

    began_now : (j : ℕ) (r : Splice) → slice_get (set parts k (Some q)) j ≡ Some (Some r) → r.accepted ≡ was_accepted (number_of r) (book config (e ∷ past)).flows
    began_now j r here = elim (same_or_not j k) [
      | inl at_k ↦
          let it : r ≡ q = some_same r q (get_set_same parts k (Some p) (Some q) (Some r) at (subst (λ i. slice_get (set parts k (Some q)) i ≡ Some (Some r)) at_k here)) in
          ap (λ (x : Splice). x.accepted) it ∙ same_kind ∙ a.began k p at ∙ ap (λ n. was_accepted n (book config past).flows) (sym (ap number_of it ∙ same_number)) ∙ stays (number_of r)
      | inr other ↦ a.began j r (sym (get_set_other parts k j (Some q) (differ j k other)) ∙ here) ∙ stays (number_of r)
    ]
      where
        stays : (n : ℕ) → was_accepted n (book config past).flows ≡ was_accepted n (book config (e ∷ past)).flows
        stays n = sym (accepted_same (book config (e ∷ past)).flows (book config past).flows numbers_are n)

    pub asked_more : AreAsked config (set parts k (Some q)) (e ∷ past)
    asked_more = record { asks = raised (number_of p) a.asks; few = few_now; began = began_now; own = own_now; counted = counted_now }

-- ---- it goes on where nothing is asked for

-- each part has a number that one had before, began as that did, and asked no less
abbrev pub ComeFrom : (parts new : List (Option Splice)) → Type 0
ComeFrom parts new = (k : ℕ) (q : Splice) → slice_get new k ≡ Some (Some q)
    → (p : Splice) × (j : ℕ) × (slice_get parts j ≡ Some (Some p)) × (number_of q ≡ number_of p) × (p.asked ≤ q.asked) × (q.accepted ≡ p.accepted)

-- An entry by which no request goes out, and after which the same flows were accepted; each part has its flow's number and asked no less than one before.
pub asked_on : (config : Config) (past : List Entry) (e : Entry) (parts new : List (Option Splice)) → requests config (e ∷ past) ≡ requests config past
    → ((guest : ℕ) → accepted_numbers guest (book config (e ∷ past)).flows ≡ accepted_numbers guest (book config past).flows)
    → ComeFrom parts new
    → AreAsked config parts past → AreAsked config new (e ∷ past)
asked_on config past e parts new silent same from a = record {
  asks = a.asks;
  few = a.few;
  began = λ k q here. let old = from k q here in
      old.5 ∙ a.began old.1 old.0 old.2 ∙ ap (λ n. was_accepted n (book config past).flows) (sym old.3)
      ∙ sym (accepted_same (book config (e ∷ past)).flows (book config past).flows same (number_of q));
  own = λ k q here. let old = from k q here in let own = a.own old.1 old.0 old.2 in let more = old.4 in let number = ap a.asks old.3 in omega (arith, own, more, number);
  counted = λ guest. subst (λ ns. times guest (requests config (e ∷ past)) ≤ sum_of a.asks ns) (sym (same guest))
      (subst (λ l. times guest l ≤ sum_of a.asks (accepted_numbers guest (book config past).flows)) (sym silent) (a.counted guest));
}

-- ---- and where a flow begins, which has asked for nothing yet

abbrev pub zeroed : ℕ → (ℕ → ℕ) → ℕ → ℕ
zeroed n asks m = if m == n then 0 else asks m

zeroed_sum : (n : ℕ) (asks : ℕ → ℕ) (ns : List ℕ) → is_among n ns ≡ false → sum_of (zeroed n asks) ns ≡ sum_of asks ns
zeroed_sum n asks [] none = refl
zeroed_sum n asks (m ∷ ns) none = by (m == n) (n == m) refl (turned m n (m == n) refl) none (λ more. zeroed_sum n asks ns more)
  where
    by : (b c : Bool) → (m == n) ≡ b → c ≡ b → (c || is_among n ns) ≡ false → (is_among n ns ≡ false → sum_of (zeroed n asks) ns ≡ sum_of asks ns) →
        (if b then 0 else asks m) + sum_of (zeroed n asks) ns ≡ asks m + sum_of asks ns
    by true true this turned_is none more = cc
    by false false other turned_is none more = ap (λ k. asks m + k) (more none)
    by true false this turned_is none more = cc
    by false true other turned_is none more = cc

-- `called`: the flow was accepted for this guest.
pub asked_begun : (config : Config) (past : List Entry) (e : Entry) (parts : List (Option Splice)) (n k : ℕ) (q : Splice) (called : ℕ → Bool) → number_of q ≡ n → q.asked ≡ 0 →
    requests config (e ∷ past) ≡ requests config past
    → ((guest : ℕ) → accepted_numbers guest (book config (e ∷ past)).flows ≡ (if called guest then n ∷ accepted_numbers guest (book config past).flows else accepted_numbers guest
    (book config past).flows))
    → ((guest : ℕ) → is_among n (accepted_numbers guest (book config past).flows) ≡ false)
    → ((j : ℕ) (r : Splice) → slice_get (set parts k (Some q)) j ≡ Some (Some r) → (r ≡ q) ⊎ (slice_get parts j ≡ Some (Some r)))
    → q.accepted ≡ was_accepted n (book config (e ∷ past)).flows
    → ((j : ℕ) (r : Splice) → slice_get parts j ≡ Some (Some r) → was_accepted (number_of r) (book config (e ∷ past)).flows ≡ was_accepted (number_of r) (book config past).flows)
    → AreAsked config parts past → AreAsked config (set parts k (Some q)) (e ∷ past)
asked_begun config past e parts n k q called numbered new silent grown fresh which kind others a =
    record { asks = zeroed n a.asks; few = few_then; began = began_then; own = own_then; counted = counted_then }
  where
    began_then : (j : ℕ) (r : Splice) → slice_get (set parts k (Some q)) j ≡ Some (Some r) → r.accepted ≡ was_accepted (number_of r) (book config (e ∷ past)).flows
    began_then j r here = elim (which j r here) [
      | inl it ↦ ap (λ (x : Splice). x.accepted) it ∙ kind ∙ ap (λ m. was_accepted m (book config (e ∷ past)).flows) (sym (ap number_of it ∙ numbered))
      | inr was ↦ a.began j r was ∙ sym (others j r was)
    ]

    below : (b : Bool) (x bound : ℕ) → x ≤ bound → (if b then 0 else x) ≤ bound
    below true x bound is = omega arith
    below false x bound is = is

    few_then : (m : ℕ) → zeroed n a.asks m ≤ 9
    few_then m = below (m == n) (a.asks m) 9 (a.few m)

    own_then : (j : ℕ) (r : Splice) → slice_get (set parts k (Some q)) j ≡ Some (Some r) → zeroed n a.asks (number_of r) ≤ r.asked
    own_then j r here = elim (which j r here) [
      | inl it ↦
          let zero : zeroed n a.asks (number_of r) ≡ 0 = ap (λ (x : Splice). zeroed n a.asks (number_of x)) it ∙ ap (zeroed n a.asks) numbered ∙ ap
          (λ (b : Bool). if b then 0 else a.asks n) (same n) in
          omega (arith, zero)
      | inr was ↦ below (number_of r == n) (a.asks (number_of r)) r.asked (a.own j r was)
    ]

    by_called : (b : Bool) (ns : List ℕ) → is_among n ns ≡ false → sum_of (zeroed n a.asks) (if b then n ∷ ns else ns) ≡ sum_of a.asks ns
    by_called true ns none =
        let first : zeroed n a.asks n ≡ 0 = ap (λ (b : Bool). if b then 0 else a.asks n) (same n) in
        let rest = zeroed_sum n a.asks ns none in
        let whole : sum_of (zeroed n a.asks) (n ∷ ns) ≡ zeroed n a.asks n + sum_of (zeroed n a.asks) ns = refl in
        omega (arith, first, rest, whole)
    by_called false ns none = zeroed_sum n a.asks ns none

    counted_then : (guest : ℕ) → times guest (requests config (e ∷ past)) ≤ sum_of (zeroed n a.asks) (accepted_numbers guest (book config (e ∷ past)).flows)
    counted_then guest =
        let sum : sum_of (zeroed n a.asks) (accepted_numbers guest (book config (e ∷ past)).flows) ≡ sum_of a.asks (accepted_numbers guest (book config past).flows) =
        ap (sum_of (zeroed n a.asks)) (grown guest) ∙ by_called (called guest) (accepted_numbers guest (book config past).flows) (fresh guest) in
        let before = a.counted guest in
        let requests_same : times guest (requests config (e ∷ past)) ≡ times guest (requests config past) = ap (times guest) silent in
        omega (arith, sum, before, requests_same)

-- ---- the slots stand for the flows

-- The flow of a slot asked for its guest, and all that were accepted for that guest are told: the slots go on to stand for the flows.
pub seats_resolved : (s : Settings) (now guest : ℕ) (table : Flows) (parts : List (Option Splice)) (next : ℕ) (flows : List Flow) (time_waits : List TimeWait) (k : ℕ) (p q : Splice) (f : Flow)
    → slice_get parts k ≡ Some (Some p) → number_of q ≡ number_of p → flow_of (number_of p) flows ≡ Some f → is_in_use f.story ≡ true → (is_accepted f.story && (address f.tuple.guest == guest)) ≡ true
    → Follows s q (At now AsksAddress ∷ f.story) now
    → Seats number_of (λ x story. Follows s x story now) table parts next flows time_waits
    → Seats number_of (λ x story. Follows s x story now) table (set parts k (Some q)) next (map (resolves_for now guest) flows) time_waits
seats_resolved s now guest table parts next flows time_waits k p q f at same_number was used mine follows seats =
    let told : flow_of (number_of p) (map (resolves_for now guest) flows) ≡ Some (with_event now AsksAddress f) =
    map_found (number_of p) (resolves_for now guest) (resolves_number now guest) flows ∙ ap (option_map (resolves_for now guest)) was ∙ ap
    (λ (b : Bool). Some (if b then with_event now AsksAddress f else f)) mine in
    seats_one number_of (λ x story. Follows s x story now) table parts next (map (resolves_for now guest) flows) (map (resolves_for now guest) flows) time_waits k p q
    (with_event now AsksAddress f) (with_event now AsksAddress f)
    at same_number told used told used follows (record { same = refl; apart = λ other not. refl; differ = λ is. is; used = refl })
    (seats_asked now guest number_of (λ x story. Follows s x story now) table parts next flows time_waits (λ x story is. asked_follows s x story now now (omega arith) is) seats)
