-- The sockets of a run that is over are closed by rising number, those of associations, of questions and of flows.
use Rattle.std.proofs.Common.{append_assoc, ◌≡◌, ℕ, suc, length, find, if◌then◌else◌, ◌<◌, ◌≤◌, ◌+◌, ◌==◌, ◌&&◌, ◌||◌, ◌⊎◌, not, All, Bool, true, false, List, [], ◌∷◌, ◌++◌, filter, set}
use Rattle.std.specs.Option.{option_or}
use Rattle.std.proofs.Common.{slice_get, Option, Some, None, option_map, inl, inr, refl, sym, ◌∙◌, ap, subst, arith}
use Rattle.std.proofs.lemmas.List.Elements.{All-head, All-tail}
use Rattle.world_face.specs.Journal.{Entry, Call, Close, CallClose}
use Rattle.slirp_settings.specs.Addresses.{Config}
use Rattle.rules_udp.specs.Associations.{numbers, without}
use Rattle.rules_udp.specs.declared.Association.{Association}
use Rattle.rules_dns.specs.Questions.{numbers as question_numbers, without as without_question}
use Rattle.rules_dns.specs.declared.Question.{Question}
use Rattle.flow_splice.specs.Splice.{Splice}
use Rattle.spec_trace.specs.Shape.{Phase, Over, Working, is_over, is_working, phase}
use Rattle.spec_trace.specs.Sockets.{first, is_among, next_number, open_sockets}
use Rattle.spec_run.specs.Asking.{step, step_of}
use Rattle.spec_run.specs.Datagrams.{NeedsNothing, due_for}
use Rattle.spec_run.specs.Laws.{May, MayDue, due}
use Rattle.spec_run.proofs.Listed.{asked_without}
use Rattle.spec_run.proofs.Bools.{among_without, and_both, equal, or_second, same}
use Rattle.spec_run.proofs.Deeds.{any_one, quest_none, this_one}
use Rattle.sim_flows.proofs.Tables.{get_set_at, get_set_other}
use Rattle.sim_flows.proofs.Seats.{differ, same_or_not}
use Rattle.slirp_core.specs.Sockets.{AllAbove, IsRising}
use Rattle.slirp_core.proofs.Names.{among_both}
use Rattle.sim_flows.specs.Core.{number_of}
use Rattle.sim_flows.proofs.Ending.{may_close_least}
use Rattle.sim_flows.proofs.Pumping.{differ_in}
use Rattle.sim_flows.proofs.Staying.{stays_closed}
use Rattle.sim_flows.proofs.Options.{none_some, some_same, true_false}
use Rattle.tcp_flows.specs.Reading.{IsNextOpen, IsOpenAt, NoneIsAbove}
use Rattle.rules_forward.specs.Opened.{Opened, is_at, socket_at, socket_of, without as without_port}
use Rattle.slirp_settings.specs.declared.Forward.{Forward}
use Rattle.slirp_settings.specs.declared.Proto.{Proto}
use Rattle.slirp_settings.specs.declared.Proto.TheVariants.{Tcp, Udp}
use Rattle.slirp_settings.specs.Ranges.{same_proto}
use Rattle.slirp_settings.specs.Classes.{same_endpoint}
use Rattle.spec_run.proofs.Longest.{same_port}
use Rattle.spec_run.proofs.Joining.{numbers_without}
use Rattle.slirp_core.specs.Forwards.{ClosesForward}
use Rattle.rules_forward.specs.Opened.{forward_sockets}
use Rattle.slirp_core.specs.Firsts.{IsLeastOf}
use Rattle.slirp_core.specs.Holds.{AfterClosing, AreOpen, AreTwo, Closing, ClosesAll, ClosesNext, ClosesOther, Holders, IsForwardFirst, IsOf, NoForwardFirst, Ran, carriers, IsThrough}
use Rattle.slirp_core.specs.Holds.{OverFor, AllWaited}
use Rattle.slirp_core.proofs.Parts.{due_in_phase, due_is}
use Rattle.slirp_core.proofs.Rising.{open_rise}

-- those behind the first are above it
above_all : (n m : ℕ) (ns : List ℕ) → AllAbove n ns → is_among m ns ≡ true → n < m
above_all n m [] above is = cc
above_all n m (x ∷ ns) above is = by_test (m == x) refl (λ more. above_all n m ns above.1 more) is
  where
    by_test : (t : Bool) → (m == x) ≡ t → (is_among m ns ≡ true → n < m) → (t || is_among m ns) ≡ true → n < m
    by_test true one more is = let here = equal m x one in omega (arith, here, above.0)
    by_test false other more is = more is

-- the least of them is the first
first_least : (bound n : ℕ) (sockets : List ℕ) → IsRising bound sockets → is_among n sockets ≡ true → ((m : ℕ) → is_among m sockets ≡ true → n ≤ m) → first sockets ≡ Some n
first_least bound n [] rising among least = cc
first_least bound n (x ∷ sockets) rising among least = by_test (n == x) refl among
  where
    by_test : (t : Bool) → (n == x) ≡ t → (t || is_among n sockets) ≡ true → Some x ≡ Some n
    by_test true one is = ap Some (sym (equal n x one))
    by_test false other is = absurd (omega (arith, above_all x n sockets rising.1 is, least x (ap (λ b. b || is_among x sockets) (same x))))

-- ---- which one is closed

-- none has a number under the least
pub at_most : (n x : ℕ) (list : List Association) → All (λ (a : Association). true ≡ true → n ≤ a.number) list → is_among x (numbers list) ≡ true → n ≤ x
at_most n x [] all is = cc
at_most n x (y ∷ list) all is = by_one (x == y.number) refl (λ more. at_most n x list (All-tail (λ (a : Association). true ≡ true → n ≤ a.number) y list all) more) is
  where
    by_one : (t : Bool) → (x == y.number) ≡ t → (is_among x (numbers list) ≡ true → n ≤ x) → (t || is_among x (numbers list)) ≡ true → n ≤ x
    by_one true one more is = let here = equal x y.number one in omega (arith, here, All-head (λ (a : Association). true ≡ true → n ≤ a.number) y list all refl)
    by_one false other more is = more is

-- one that carries datagrams, less than all others that do and those of all flows
pub record IsCarrier (n : ℕ) (carriers : List ℕ) (parts : List (Option Splice)) : Type 0 where
  pub least : IsLeastOf n carriers
  pub below : (k : ℕ) (p : Splice) → IsOpenAt parts k p → n ≤ number_of p

-- a flow's
pub record IsFlows (n k : ℕ) (carriers : List ℕ) (parts : List (Option Splice)) : Type 0 where
  pub next : IsNextOpen None n k parts
  pub below : (m : ℕ) → is_among m carriers ≡ true → n ≤ m

module _ (forwards : List ℕ) (o : Holders) (config : Config) (over : Phase) (past : List Entry) (closing : Closing config over forwards o past) (n : ℕ)
    (among : is_among n (open_sockets past) ≡ true)
    (least : (m : ℕ) → is_among m (open_sockets past) ≡ true → n ≤ m) where
  first_is : first (open_sockets past) ≡ Some n
  first_is = first_least (next_number past) n (open_sockets past) (open_rise config past closing.lawful) among least

  place : IsThrough config past → (is_working (phase config past) || is_over (phase config past)) ≡ true
  place (OverFor cause is) = ap (λ p. is_working p || is_over p) is
  place (AllWaited working) = ap (λ p. is_working p || is_over p) working

  is_due : IsThrough config past → MayDue config past (CallClose n)
  is_due (OverFor cause ended) =
      this_one config past (CallClose n) (due_in_phase config past (Over cause) ended closing.served closing.idle
      ∙ ap (λ (o : Option Call). option_or o (due_for config (step config past) (next_number past))) (ap (option_map CallClose) first_is))
  is_due (AllWaited working) = any_one config past (CallClose n) (due_is config past NeedsNothing working closing.served closing.idle (ap (step_of config past) closing.errand))

  may_close : May config past (CallClose n)
  may_close = may_close_least config past closing.lawful closing.ended n first_is (is_due closing.through) (place closing.through) (record { due = closing.idle; stay = closing.stay })

  through_on : IsThrough config past → IsThrough config (Close n ∷ past)
  through_on (OverFor cause is) = OverFor cause is
  through_on (AllWaited working) = AllWaited working

  closed : (left : List ℕ) (new : Holders) → AreTwo new → AreOpen left (carriers new) new.slots (Close n ∷ past) → Closing config over left new (Close n ∷ past)
  closed left new two open_now = record {
    lawful = (may_close, closing.lawful);
    ended = closing.ended;
    is = closing.is;
    through = through_on closing.through;
    errand = closing.errand;
    served = quest_none config past closing.served;
    idle = refl;
    stay = stays_closed config past n (differ_in config past closing.lawful) closing.stay;
    sockets = open_now;
    two = two;
  }

both_of : (a b : Bool) → (a && b) ≡ true → (a ≡ true) × (b ≡ true)
both_of true true is = (refl, refl)
both_of true false is = cc
both_of false b is = cc

both_are : (a b : Bool) → a ≡ true → b ≡ true → (a && b) ≡ true
both_are true true one two = refl
both_are true false one two = cc
both_are false b one two = cc

none_left : (a b : Bool) → b ≡ false → (a && b) ≡ false
none_left true b is = is
none_left false b is = refl

-- others than this one
other : (m n : ℕ) → (m ≡ n → ⊥) → not (m == n) ≡ true
other m n apart = by (same_or_not m n)
  where
    by : (m ≡ n) ⊎ ((m == n) ≡ false) → not (m == n) ≡ true
    by (inl is) = absurd (apart is)
    by (inr is) = ap not is

apart_from : (m n : ℕ) → not (m == n) ≡ true → m ≡ n → ⊥
apart_from m n is same_one = true_false (sym is ∙ ap not (ap (λ k. k == n) same_one ∙ same n))

-- it is still open where another was closed
still_among : (m n : ℕ) (past : List Entry) → is_among m (open_sockets past) ≡ true → (m ≡ n → ⊥) → is_among m (open_sockets (Close n ∷ past)) ≡ true
still_among m n past among apart = among_without m n (open_sockets past) ∙ both_are (not (m == n)) (is_among m (open_sockets past)) (other m n apart) among

was_among : (m n : ℕ) (past : List Entry) → is_among m (open_sockets (Close n ∷ past)) ≡ true → (not (m == n) ≡ true) × (is_among m (open_sockets past) ≡ true)
was_among m n past among = both_of (not (m == n)) (is_among m (open_sockets past)) (sym (among_without m n (open_sockets past)) ∙ among)

-- among the numbers of those that are left
left_among : (m n : ℕ) (list : List Association) → is_among m (numbers (without n list)) ≡ (not (m == n) && is_among m (numbers list))
left_among m n list = ap (is_among m) (numbers_without n list) ∙ among_without m n (numbers list)

module _ (config : Config) (over : Phase) (forwards : List ℕ) (o : Holders) (past : List Entry) (closing : Closing config over forwards o past) where
  abbrev now_open : AreOpen forwards (carriers o) o.slots past
  now_open = closing.sockets

  -- one that carries datagrams was closed, which is under all of forwards, and the others are left
  module _ (n : ℕ) (is : IsCarrier n (carriers o) o.slots) (beyond : (k : ℕ) → is_among k forwards ≡ true → n ≤ k) (associations : List Association) (questions : List Question)
      (left : (m : ℕ) → is_among m (numbers associations ++ question_numbers questions) ≡ (not (m == n) && is_among m (carriers o)))
      (two : AreTwo (record { associations = associations; questions = questions; slots = o.slots })) where
    abbrev others : List ℕ
    others = numbers associations ++ question_numbers questions

    least_of : (m : ℕ) → (is_among m forwards ≡ true) ⊎ IsOf (carriers o) o.slots m → n ≤ m
    least_of m (inl forward) = beyond m forward
    least_of m (inr (inl among)) = is.least.1 m among
    least_of m (inr (inr (k, p, at, number, u))) = subst (λ x. n ≤ x) number (is.below k p at)

    each_left : (m : ℕ) → (not (m == n) ≡ true) → (is_among m forwards ≡ true) ⊎ IsOf (carriers o) o.slots m → (is_among m forwards ≡ true) ⊎ IsOf others o.slots m
    each_left m apart (inl forward) = inl forward
    each_left m apart (inr (inl among)) = inr (inl (left m ∙ both_are (not (m == n)) (is_among m (carriers o)) apart among))
    each_left m apart (inr (inr has)) = inr (inr has)

    was_of : (m : ℕ) → IsOf others o.slots m → IsOf (carriers o) o.slots m
    was_of m (inl among) = inl (both_of (not (m == n)) (is_among m (carriers o)) (sym (left m) ∙ among)).1
    was_of m (inr has) = inr has

    pub carrier_closed : Closing config over forwards (record { associations = associations; questions = questions; slots = o.slots }) (Close n ∷ past)
    carrier_closed = closed forwards o config over past closing n (now_open.carry n is.least.0) (λ m among. least_of m (now_open.each m among))
        forwards (record { associations = associations; questions = questions; slots = o.slots }) two (record {
          each = λ m among. let was = was_among m n past among in each_left m was.0 (now_open.each m was.1);
          forward = λ m among. still_among m n past (now_open.forward m among)
              (λ same_one. now_open.others m among (inl (ap (λ x. is_among x (carriers o)) same_one ∙ is.least.0)));
          carry = λ m among. let was = both_of (not (m == n)) (is_among m (carriers o)) (sym (left m) ∙ among) in still_among m n past (now_open.carry m was.1) (apart_from m n was.0);
          flow = λ k p at. still_among (number_of p) n past (now_open.flow k p at) (λ same_one. true_false (sym is.least.0 ∙ ap (λ x. is_among x (carriers o)) (sym same_one) ∙ now_open.apart k p at));
          apart = λ k p at. left (number_of p) ∙ none_left (not (number_of p == n)) (is_among (number_of p) (carriers o)) (now_open.apart k p at);
          rising = now_open.rising;
          others = λ m among of. now_open.others m among (was_of m of);
        })

  -- an association's, which is no question's
  pub association_closed : (n : ℕ) → is_among n (numbers o.associations) ≡ true → IsCarrier n (carriers o) o.slots → ((k : ℕ) → is_among k forwards ≡ true → n ≤ k)
      → Closing config over forwards (record o { associations = without n o.associations }) (Close n ∷ past)
  association_closed n among is beyond = carrier_closed n is beyond (without n o.associations) o.questions left two
    where
      both : (a e q : Bool) → (e ≡ true → q ≡ false) → ((not e && a) || q) ≡ (not e && (a || q))
      both a true q none = none refl
      both a false q none = refl

      left : (m : ℕ) → is_among m (numbers (without n o.associations) ++ question_numbers o.questions) ≡ (not (m == n) && is_among m (carriers o))
      left m =
          among_both m (numbers (without n o.associations)) (question_numbers o.questions) ∙ ap (λ b. b || is_among m (question_numbers o.questions)) (left_among m n o.associations)
          ∙ both (is_among m (numbers o.associations)) (m == n) (is_among m (question_numbers o.questions)) (λ same_one. ap (λ x. is_among x (question_numbers o.questions))
          (equal m n same_one) ∙ closing.two n among)
          ∙ ap (λ b. not (m == n) && b) (sym (among_both m (numbers o.associations) (question_numbers o.questions)))

      two : AreTwo (record o { associations = without n o.associations })
      two m here = closing.two m (both_of (not (m == n)) (is_among m (numbers o.associations)) (sym (left_among m n o.associations) ∙ here)).1

  -- a question's, which is no association's
  pub question_closed : (n : ℕ) → is_among n (question_numbers o.questions) ≡ true → IsCarrier n (carriers o) o.slots → ((k : ℕ) → is_among k forwards ≡ true → n ≤ k)
      → Closing config over forwards (record o { questions = without_question n o.questions }) (Close n ∷ past)
  question_closed n among is beyond = carrier_closed n is beyond o.associations (without_question n o.questions) left two
    where
      both : (a e q : Bool) → (e ≡ true → a ≡ false) → (a || (not e && q)) ≡ (not e && (a || q))
      both true true q none = none refl
      both false true q none = refl
      both true false q none = refl
      both false false q none = refl

      no_other : (b : Bool) → is_among n (numbers o.associations) ≡ b → b ≡ false
      no_other true is = absurd (true_false (sym among ∙ closing.two n is))
      no_other false is = refl

      left : (m : ℕ) → is_among m (numbers o.associations ++ question_numbers (without_question n o.questions)) ≡ (not (m == n) && is_among m (carriers o))
      left m =
          among_both m (numbers o.associations) (question_numbers (without_question n o.questions)) ∙ ap (λ b. is_among m (numbers o.associations) || b) (asked_without m n o.questions)
          ∙ both (is_among m (numbers o.associations)) (m == n) (is_among m (question_numbers o.questions)) (λ same_one. ap (λ x. is_among x (numbers o.associations))
          (equal m n same_one) ∙ no_other (is_among n (numbers o.associations)) refl)
          ∙ ap (λ b. not (m == n) && b) (sym (among_both m (numbers o.associations) (question_numbers o.questions)))

      two : AreTwo (record o { questions = without_question n o.questions })
      two m here = asked_without m n o.questions ∙ none_left (not (m == n)) (is_among m (question_numbers o.questions)) (closing.two m here)

  -- a flow's was closed
  module _ (n k : ℕ) (is : IsFlows n k (carriers o) o.slots) (beyond : (j : ℕ) → is_among j forwards ≡ true → n ≤ j) where
    abbrev new_parts : List (Option Splice)
    new_parts = set o.slots k None

    here : is_among n (open_sockets past) ≡ true
    here = subst (λ m. is_among m (open_sockets past) ≡ true) is.next.number (now_open.flow k is.next.part is.next.at)

    unlisted : is_among n (carriers o) ≡ false
    unlisted = subst (λ m. is_among m (carriers o) ≡ false) is.next.number (now_open.apart k is.next.part is.next.at)

    least_with : (m : ℕ) → (is_among m forwards ≡ true) ⊎ IsOf (carriers o) o.slots m → n ≤ m
    least_with m (inl forward) = beyond m forward
    least_with m (inr (inl among)) = is.below m among
    least_with m (inr (inr (j, p, at, number, u))) = subst (λ x. n ≤ x) number (is.next.least j p at tt)

    -- another slot than this one is as it was
    stays_at : (j : ℕ) (p : Splice) → IsOpenAt o.slots j p → (number_of p ≡ n → ⊥) → IsOpenAt new_parts j p
    stays_at j p at apart = record { here = get_set_other o.slots k j None (λ same_slot. apart (of_slot same_slot)) ∙ at.here; open_yet = at.open_yet }
      where
        of_slot : j ≡ k → number_of p ≡ n
        of_slot same_slot = ap number_of (one p (some_same (Some p) (Some is.next.part) (sym at.here ∙ ap (slice_get o.slots) same_slot ∙ is.next.at.here))) ∙ is.next.number
          where
            one : (q : Splice) → Some q ≡ Some is.next.part → q ≡ is.next.part
            one q same_part = some_same q is.next.part same_part

    was_at : (j : ℕ) (p : Splice) → IsOpenAt new_parts j p → IsOpenAt o.slots j p × (number_of p ≡ n → ⊥)
    was_at j p at = by (same_or_not j k)
      where
        not_here : j ≡ k → ⊥
        not_here same_slot = none_some (some_same None (Some p) (sym (get_set_at o.slots k (Some is.next.part) None is.next.at.here) ∙ ap (slice_get new_parts) (sym same_slot) ∙ at.here))

        by : (j ≡ k) ⊎ ((j == k) ≡ false) → IsOpenAt o.slots j p × (number_of p ≡ n → ⊥)
        by (inl same_slot) = absurd (not_here same_slot)
        by (inr apart) =
            let before : IsOpenAt o.slots j p = record { here = sym (get_set_other o.slots k j None (differ j k apart)) ∙ at.here; open_yet = at.open_yet } in
            (before, λ number. differ j k apart (is.next.only j p before number))

    each_but : (m : ℕ) → (not (m == n) ≡ true) → (is_among m forwards ≡ true) ⊎ IsOf (carriers o) o.slots m → (is_among m forwards ≡ true) ⊎ IsOf (carriers o) new_parts m
    each_but m apart (inl forward) = inl forward
    each_but m apart (inr (inl among)) = inr (inl among)
    each_but m apart (inr (inr (j, p, at, number, u))) = inr (inr (j, p, stays_at j p at (λ is_n. apart_from m n apart (sym number ∙ is_n)), number, u))

    was_one : (m : ℕ) → IsOf (carriers o) new_parts m → IsOf (carriers o) o.slots m
    was_one m (inl among) = inl among
    was_one m (inr (j, p, at, number, u)) = inr (j, p, (was_at j p at).0, number, u)

    pub flow_closed : Closing config over forwards (record o { slots = new_parts }) (Close n ∷ past)
    flow_closed = closed forwards o config over past closing n here (λ m among. least_with m (now_open.each m among)) forwards (record o { slots = new_parts }) closing.two (record {
      each = λ m among. let was = was_among m n past among in each_but m was.0 (now_open.each m was.1);
      forward = λ m among. still_among m n past (now_open.forward m among)
          (λ same_one. now_open.others m among (inr (k, is.next.part, is.next.at, is.next.number ∙ sym same_one, tt)));
      carry = λ m among. still_among m n past (now_open.carry m among) (λ same_one. true_false (sym among ∙ ap (λ x. is_among x (carriers o)) same_one ∙ unlisted));
      flow = λ j p at. let was = was_at j p at in still_among (number_of p) n past (now_open.flow j p was.0) was.1;
      apart = λ j p at. now_open.apart j p (was_at j p at).0;
      rising = now_open.rising;
      others = λ m among of. now_open.others m among (was_one m of);
    })

  -- ---- none is left

  module _ (none : carriers o ≡ []) (none_above : NoneIsAbove None o.slots) (no_forwards : forwards ≡ []) where
    shut : open_sockets past ≡ []
    shut = empty (open_sockets past) refl
      where
        no_one : (m : ℕ) → (is_among m forwards ≡ true) ⊎ IsOf (carriers o) o.slots m → ⊥
        no_one m (inl forward) = true_false (sym forward ∙ ap (is_among m) no_forwards)
        no_one m (inr (inl among)) = true_false (sym among ∙ ap (is_among m) none)
        no_one m (inr (inr (k, p, at, number, u))) = none_above k p at tt

        empty : (sockets : List ℕ) → open_sockets past ≡ sockets → open_sockets past ≡ []
        empty [] is = is
        empty (x ∷ sockets) is = absurd (no_one x (now_open.each x (ap (is_among x) is ∙ ap (λ b. b || is_among x sockets) (same x))))

    none_due : IsThrough config past → due config past ≡ None
    none_due (OverFor cause is) =
        due_in_phase config past (Over cause) is closing.served closing.idle
        ∙ ap (λ (s : List ℕ). option_or (option_map CallClose (first s)) (due_for config (step config past) (next_number past))) shut ∙ ap
        (λ s. due_for config s (next_number past)) (ap (step_of config past) closing.errand)
    none_due (AllWaited working) = due_in_phase config past Working working closing.served closing.idle ∙ ap (λ s. due_for config s (next_number past)) (ap (step_of config past) closing.errand)

    pub all_closed : Ran config over past
    all_closed = (closing.lawful, record { ended = closing.ended; none_due = none_due closing.through; closed = shut }, closing.is)

-- ---- the socket of a forward is closed

module _ (config : Config) (over : Phase) (n : ℕ) (forwards : List ℕ) (o : Holders) (past : List Entry) (closing : Closing config over (n ∷ forwards) o past)
    (below : (m : ℕ) → IsOf (carriers o) o.slots m → n ≤ m) where
  abbrev are_open_now : AreOpen (n ∷ forwards) (carriers o) o.slots past
  are_open_now = closing.sockets

  least_here : (m : ℕ) → (is_among m (n ∷ forwards) ≡ true) ⊎ IsOf (carriers o) o.slots m → n ≤ m
  least_here m (inl among) = by (m == n) refl among
    where
      by : (b : Bool) → (m == n) ≡ b → (b || is_among m forwards) ≡ true → n ≤ m
      by true is among = let it = equal m n is in omega (arith, it)
      by false is among = let above = above_all n m forwards are_open_now.rising.1.1 among in omega (arith, above)
  least_here m (inr of) = below m of

  other_than : (m : ℕ) → IsOf (carriers o) o.slots m → m ≡ n → ⊥
  other_than m of is = are_open_now.others n (ap (λ b. b || is_among n forwards) (same n)) (subst (IsOf (carriers o) o.slots) is of)

  each_behind : (m : ℕ) → not (m == n) ≡ true → (is_among m (n ∷ forwards) ≡ true) ⊎ IsOf (carriers o) o.slots m → (is_among m forwards ≡ true) ⊎ IsOf (carriers o) o.slots m
  each_behind m apart (inl among) = inl (by (m == n) apart among)
    where
      by : (b : Bool) → not b ≡ true → (b || is_among m forwards) ≡ true → is_among m forwards ≡ true
      by true apart among = cc
      by false apart among = among
  each_behind m apart (inr of) = inr of

  pub forward_closed : Closing config over forwards o (Close n ∷ past)
  forward_closed = closed (n ∷ forwards) o config over past closing n (are_open_now.forward n (ap (λ b. b || is_among n forwards) (same n)))
      (λ m among. least_here m (are_open_now.each m among)) forwards o closing.two (record {
        each = λ m among. let was = was_among m n past among in each_behind m was.0 (are_open_now.each m was.1);
        forward = λ m among. still_among m n past (are_open_now.forward m (or_second (m == n) (is_among m forwards) among))
            (λ is. let above = above_all n m forwards are_open_now.rising.1.1 among in omega (arith, above, is));
        carry = λ m among. still_among m n past (are_open_now.carry m among) (other_than m (inl among));
        flow = λ k p at. still_among (number_of p) n past (are_open_now.flow k p at) (other_than (number_of p) (inr (k, p, at, refl, tt)));
        apart = are_open_now.apart;
        rising = (are_open_now.rising.0, are_open_now.rising.1.2);
        others = λ m among of. are_open_now.others m (or_second (m == n) (is_among m forwards) among) of;
      })

-- ---- the forwards of the list

-- a forward has its own port
own_port : (f : Forward) (n : ℕ) → is_at f.proto f.host (f, n) ≡ true
own_port f n = and_both (same_proto f.proto f.proto) (same_endpoint f.host f.host) (own_proto f.proto) (same_port f.host)
  where
    own_proto : (p : Proto) → same_proto p p ≡ true
    own_proto Tcp = refl
    own_proto Udp = refl

no_more : (p : Opened → Bool) (list : List Opened) → length (filter p list) ≤ length list
no_more p [] = omega arith
no_more p (x ∷ list) = by (p x) (no_more p list)
  where
    by : (b : Bool) → length (filter p list) ≤ length list → length (if b then x ∷ filter p list else filter p list) ≤ suc (length list)
    by true more = omega (arith, more)
    by false more = omega (arith, more)

-- where as many are left, all are
all_left : (p : Opened → Bool) (list : List Opened) → length (filter p list) ≡ length list → filter p list ≡ list
all_left p [] many = refl
all_left p (x ∷ list) many = by (p x) many (no_more p list) (all_left p list)
  where
    by : (b : Bool) → length (if b then x ∷ filter p list else filter p list) ≡ suc (length list) → length (filter p list) ≤ length list → (length (filter p list) ≡ length list → filter p list ≡ list)
        → (if b then x ∷ filter p list else filter p list) ≡ x ∷ list
    by true many most more = ap (λ l. x ∷ l) (more (omega (arith, many)))
    by false many most more = absurd (omega (arith, many, most))

-- the first of them is closed next, where it is under all others
pub forward_first : (before after : List Opened) (o : Holders) (made : List Entry) → IsForwardFirst (forward_sockets before) (carriers o) o.slots → ClosesForward true before after made
    → ClosesNext true before after o o made
forward_first before after o made first (forward, number, was, one) config over past closing =
    subst (λ es. Closing config over (forward_sockets after) o (es ++ past)) (sym one)
    (forward_closed config over number (forward_sockets after) o past (subst (λ (l : List Opened). Closing config over (forward_sockets l) o past) was closing)
    (λ m of. subst (λ n. n ≤ m) (head_of first.0 number first.1 (forward_sockets after) (sym first.2 ∙ ap forward_sockets was)) (first.3 m of)))
  where
    head_of : (n m : ℕ) (ns ms : List ℕ) → n ∷ ns ≡ m ∷ ms → n ≡ m
    head_of n m ns ms is = cc

-- so is one that stands first, and where none of them is the least one of the others is closed
pub next_forward : (b : Bool) (before after : List Opened) (o : Holders) (made : List Entry) → IsForwardFirst (forward_sockets before) (carriers o) o.slots → ClosesForward b before after made
    → ClosesNext b before after o o made
next_forward true before after o made first closes = forward_first before after o made first closes
next_forward false before after o made first (none, now, no_call) = absurd (never first.0 first.1 (sym (ap forward_sockets none) ∙ first.2))
  where
    never : (n : ℕ) (rest : List ℕ) → [] ≡ n ∷ rest → ⊥
    never n rest is = cc

pub next_other : (b : Bool) (before after : List Opened) (old new : Holders) (made : List Entry) → after ≡ before → NoForwardFirst (forward_sockets before) (carriers old) old.slots
    → ClosesOther b (forward_sockets before) old new made → ClosesNext b before after old new made
next_other b before after old new made same none closes config over past closing =
    subst (λ (l : List Opened). AfterClosing b config over (forward_sockets l) new (made ++ past)) (sym same) (closes config over past none closing)

-- the first forward of the list is the first with its port
pub first_forward : (list : List Opened) (f : Forward) (n : ℕ) → slice_get list 0 ≡ Some (f, n) → socket_at f.proto f.host list ≡ Some n
first_forward [] f n at = cc
first_forward (x ∷ list) f n at =
    ap (λ (y : Opened). option_map socket_of (find (is_at f.proto f.host) (y ∷ list))) (the_same at)
    ∙ ap (λ b. option_map socket_of (if b then Some (f, n) else find (is_at f.proto f.host) list)) (own_port f n)
  where
    the_same : Some x ≡ Some (f, n) → x ≡ (f, n)
    the_same is = cc

pub first_closed : (list new : List Opened) (f : Forward) (n : ℕ) → slice_get list 0 ≡ Some (f, n) → new ≡ without_port f.proto f.host list → length new + 1 ≡ length list → list ≡ (f, n) ∷ new
first_closed [] new f n at is many = cc
first_closed (x ∷ list) new f n at is many =
    let here = the_same at in
    let left : new ≡ filter (λ o. not (is_at f.proto f.host o)) list =
    is ∙ ap (λ (y : Opened). filter (λ o. not (is_at f.proto f.host o)) (y ∷ list)) here
    ∙ ap (λ b. if not b then (f, n) ∷ filter (λ o. not (is_at f.proto f.host o)) list else filter (λ o. not (is_at f.proto f.host o)) list) (own_port f n) in
    let all = all_left (λ o. not (is_at f.proto f.host o)) list (let many_left = ap length left in omega (arith, many, many_left)) in
    ap (λ (y : Opened). y ∷ list) here ∙ ap (λ (l : List Opened). (f, n) ∷ l) (sym (left ∙ all))
  where
    the_same : Some x ≡ Some (f, n) → x ≡ (f, n)
    the_same is = cc

pub first_of_list : (list : List Opened) (f : Forward) (n : ℕ) → slice_get list 0 ≡ Some (f, n) → (rest : List Opened) × (list ≡ (f, n) ∷ rest)
first_of_list [] f n at = cc
first_of_list (x ∷ list) f n at = (list, ap (λ y. y ∷ list) (the_same at))
  where
    the_same : Some x ≡ Some (f, n) → x ≡ (f, n)
    the_same is = cc

pub none_first_forward : (list : List Opened) → slice_get list 0 ≡ None → list ≡ []
none_first_forward [] at = refl
none_first_forward (x ∷ list) at = cc

-- ---- one after another

pub closes_on : (first before after : List Opened) (o old new : Holders) (made more : List Entry) → ClosesNext true first before o old made → ClosesNext true before after old new more
    → ClosesNext true first after o new (more ++ made)
closes_on first before after o old new made more closes later config over past closing =
    subst (Closing config over (forward_sockets after) new) (sym (append_assoc more made past)) (later config over (made ++ past) (closes config over past closing))

pub closes_last : (first before after : List Opened) (o old new : Holders) (made more : List Entry) → ClosesNext true first before o old made → ClosesNext false before after old new more
    → ClosesAll first o (more ++ made)
closes_last first before after o old new made more closes later config over past closing =
    subst (Ran config over) (sym (append_assoc more made past)) (later config over (made ++ past) (closes config over past closing))
