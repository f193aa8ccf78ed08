-- Which open socket has the least number, and how many flows are open.
use Rattle.std.proofs.Common.{◌≡◌, ℕ, zero, suc, ◌+◌, ◌<◌, ◌≤◌, ◌==◌, ◌||◌, Bool, true, false, List, [], ◌∷◌, ◌++◌, length, nat_lt, set, get_or, slice_get, Option, Some, None}
use Rattle.std.proofs.Common.{IsPermutation, inl, inr, refl, sym, ◌∙◌, ap, subst, arith, if◌then◌else◌}
use Rattle.std.specs.Prelude.{Contains}
use Rattle.std.specs.List.Sorted.{IsNonDecreasing}
use Rattle.std.proofs.lemmas.Bool.Decides.{nat_tests}
use Rattle.std.proofs.lemmas.List.Elements.{Contains-append_right}
use Rattle.std.proofs.lemmas.List.Sorted.{Contains-permutation, IsPermutation-refl, IsPermutation-sym}
use Rattle.world_face.specs.Journal.{Entry, Close}
use Rattle.slirp_settings.specs.Addresses.{Config}
use Rattle.flow_splice.specs.Splice.{Splice, is_open}
use Rattle.spec_trace.specs.Shape.{Phase}
use Rattle.spec_trace.specs.Sockets.{is_among}
use Rattle.spec_run.proofs.Bools.{equal, same}
use Rattle.sim_flows.proofs.Options.{none_some, some_same, true_false}
use Rattle.tcp_flows.specs.Reading.{IsFirst, IsNextOpen, IsOpenAt, NoneIsAbove}
use Rattle.tcp_flows.specs.Runs.{ClosesFirst}
use Rattle.rules_udp.specs.Associations.{numbers}
use Rattle.udp_assoc.specs.Relays.{ClosesLeast}
use Rattle.rules_udp.specs.declared.Association.{Association}
use Rattle.rules_dns.specs.Questions.{numbers as question_numbers}
use Rattle.dns_relay.specs.Relaying.{ClosesLeast as ClosesLeastAsked}
use Rattle.rules_dns.specs.declared.Question.{Question}
use Rattle.slirp_core.specs.Firsts.{IsFlowFirst, IsLeastOf, IsQuestionFirst, NoFlowFirst, NoQuestionFirst}
use Rattle.slirp_core.specs.Holds.{AfterClosing, Closing, Holders, IsForwardFirst, IsOf, NoForwardFirst, Ran, carriers}
use Rattle.slirp_core.specs.Sockets.{AllAbove}
use Rattle.sim_flows.specs.Core.{number_of}
use Rattle.slirp_core.proofs.Given.{above}
use Rattle.slirp_core.specs.Numbers.{count_open, open_flows}
use Rattle.slirp_core.proofs.Askers.{among_first, among_second, asked_at_most, asked_least, least_asked, no_question, none_asked}
use Rattle.slirp_core.proofs.Names.{among_both}
use Rattle.slirp_core.proofs.Sockets.{least_among, no_association}
use Rattle.slirp_core.proofs.Closing.{IsFlows, all_closed, association_closed, at_most, flow_closed, question_closed}

-- ---- numbers, and the same ones as they rise

contains_among : (m : ℕ) (ns : List ℕ) → is_among m ns ≡ true → Contains ns m
contains_among m [] is = cc
contains_among m (x ∷ ns) is = by (m == x) refl (λ more. contains_among m ns more) is
  where
    by : (t : Bool) → (m == x) ≡ t → (is_among m ns ≡ true → Contains ns m) → (t || is_among m ns) ≡ true → Contains (x ∷ ns) m
    by true one more is = (0, omega arith, sym (equal m x one))
    by false other more is = Contains-append_right (x ∷ []) ns m (more is)

among_at : (m : ℕ) (ns : List ℕ) (k : ℕ) → k < length ns → get_or ns k m ≡ m → is_among m ns ≡ true
among_at m [] k few is = absurd (omega (arith, few))
among_at m (x ∷ ns) zero few is = ap (λ b. b || is_among m ns) (ap (λ y. m == y) is ∙ same m)
among_at m (x ∷ ns) (suc k) few is = later (m == x) (is_among m ns) (among_at m ns k (omega (arith, few)) is)
  where
    later : (a b : Bool) → b ≡ true → (a || b) ≡ true
    later true b is = refl
    later false b is = is

module _ (ns rising : List ℕ) (all : IsPermutation ns rising) (rise : IsNonDecreasing rising) (first : ℕ) (is_first : slice_get rising 0 ≡ Some first) where
  head_is : (ms : List ℕ) (d : ℕ) → slice_get ms 0 ≡ Some first → (0 < length ms) × (get_or ms 0 d ≡ first)
  head_is [] d is = cc
  head_is (x ∷ ms) d is = (omega arith, here is)
    where
      here : Some x ≡ Some first → x ≡ first
      here is = cc

  -- the first is less than the others
  first_under : (m : ℕ) → is_among m ns ≡ true → first ≤ m
  first_under m among =
      let there = Contains-permutation ns rising m all (contains_among m ns among) in
      let least = rise 0 there.0 m (omega arith) there.1 in
      let first_is = (head_is rising m is_first).1 in
      let at = there.2 in
      omega (arith, least, first_is, at)

  -- and is one of them
  first_among : is_among first ns ≡ true
  first_among =
      let head = head_is rising first is_first in
      let there = Contains-permutation rising ns first (IsPermutation-sym ns rising all) (0, head.0, head.1) in
      among_at first ns there.0 there.1 there.2

  pub first_is_least : IsLeastOf first ns
  first_is_least = (first_among, first_under)

-- one of them is one of those that rise
pub among_rising : (ns rising : List ℕ) → IsPermutation ns rising → (m : ℕ) → is_among m ns ≡ true → is_among m rising ≡ true
among_rising ns rising all m among =
    let there = Contains-permutation ns rising m all (contains_among m ns among) in
    among_at m rising there.0 there.1 there.2

-- where none stands by rising number there is none
pub none_listed : (ns rising : List ℕ) → IsPermutation ns rising → slice_get rising 0 ≡ None → (m : ℕ) → is_among m ns ≡ true → ⊥
none_listed ns rising all none m among = by rising none (Contains-permutation ns rising m all (contains_among m ns among))
  where
    by : (ms : List ℕ) → slice_get ms 0 ≡ None → Contains ms m → ⊥
    by [] none has = let few = has.1 in omega (arith, few)
    by (x ∷ ms) none has = cc

-- ---- whether a number is less than all of a row

-- a number that is less than the first of a row that rises, or isn't
pub under_all : (n : ℕ) (rising : List ℕ) → IsNonDecreasing rising → (first : ℕ) → slice_get rising 0 ≡ Some first → nat_lt n first ≡ true → (m : ℕ) → is_among m rising ≡ true → n ≤ m
under_all n rising rise first is_first less m among =
    let under = (first_is_least rising rising (IsPermutation-refl rising) rise first is_first).1 m among in
    less_than n first m less under
  where
    less_than : (n first m : ℕ) → nat_lt n first ≡ true → first ≤ m → n ≤ m
    less_than n first m less under = grind (arith, nat_tests, less, under)

pub less_is : (n m : ℕ) → nat_lt n m ≡ true → n ≤ m
less_is n m is = grind (arith, nat_tests, is)

pub not_under : (n first : ℕ) → nat_lt n first ≡ false → first ≤ n
not_under n first not_less = grind (arith, nat_tests, not_less)

pub none_under : (n : ℕ) (rising : List ℕ) → slice_get rising 0 ≡ None → (m : ℕ) → is_among m rising ≡ true → n ≤ m
none_under n rising none m among = absurd (none_listed rising rising (IsPermutation-refl rising) none m among)

-- ---- the flow with the least number

module _ (n : ℕ) (parts : List (Option Splice)) (first : IsFirst n parts) where
  -- one is open
  pub one_open : NoneIsAbove None parts → ⊥
  one_open none = let has = first.has in none has.0 has.1 has.2 tt

  -- it is the next one to be closed
  pub next_flow : (m k : ℕ) (carriers : List ℕ) → IsNextOpen None m k parts → ((j : ℕ) → is_among j carriers ≡ true → n ≤ j) → IsFlows m k carriers parts
  next_flow m k carriers next below = record {
    next = next;
    below = λ j among.
        let has = first.has in
        let under = next.least has.0 has.1 has.2 tt in
        let number = has.3 in
        let least = below j among in
        omega (arith, under, number, least);
  }

-- ---- how many flows are open

more_open : (o : Option Splice) (fewer more : ℕ) → fewer < more → count_open o fewer < count_open o more
more_open None fewer more less = less
more_open (Some p) fewer more less = by (is_open p)
  where
    by : (b : Bool) → (if b then fewer + 1 else fewer) < (if b then more + 1 else more)
    by true = omega (arith, less)
    by false = less

one_more : (b : Bool) (n : ℕ) → b ≡ true → n < (if b then n + 1 else n)
one_more true n is = omega arith
one_more false n is = cc

counts_one : (o : Option Splice) (p : Splice) (n : ℕ) → Some o ≡ Some (Some p) → is_open p ≡ true → n < count_open o n
counts_one None p n is open_yet = absurd (none_some (some_same None (Some p) is))
counts_one (Some q) p n is open_yet = one_more (is_open q) n (ap is_open (some_same q p (some_same (Some q) (Some p) is)) ∙ open_yet)

less_open : (parts : List (Option Splice)) (k : ℕ) (p : Splice) → slice_get parts k ≡ Some (Some p) → is_open p ≡ true → open_flows (set parts k None) < open_flows parts
less_open [] k p is open_yet = absurd (none_some is)
less_open (o ∷ parts) zero p is open_yet = counts_one o p (open_flows parts) is open_yet
less_open (o ∷ parts) (suc k) p is open_yet = more_open o (open_flows (set parts k None)) (open_flows parts) (less_open parts k p is open_yet)

-- one less where the part of an open flow is gone
pub open_less : (parts : List (Option Splice)) (k : ℕ) (p : Splice) → IsOpenAt parts k p → open_flows (set parts k None) < open_flows parts
open_less parts k p at = less_open parts k p at.here at.open_yet

-- one less after the first was closed
pub fewer_flows : (b : Bool) (old new : List (Option Splice)) (made : List Entry) → ClosesFirst b old new made → b ≡ true → open_flows new < open_flows old
fewer_flows true old new made closes is = subst (λ (l : List (Option Splice)). open_flows l < open_flows old) (sym closes.3) (open_less old closes.1 closes.2.part closes.2.at)
fewer_flows false old new made closes is = cc

-- ---- which one has the least number

-- where a flow's number is less than all of both rows, or isn't
pub flow_is_under : (n : ℕ) (o : Holders) → ((m : ℕ) → is_among m (numbers o.associations) ≡ true → n ≤ m) → ((m : ℕ) → is_among m (question_numbers o.questions) ≡ true → n ≤ m)
    → (m : ℕ) → is_among m (carriers o) ≡ true → n ≤ m
flow_is_under n o one two m among = by (is_among m (numbers o.associations)) refl (sym (among_both m (numbers o.associations) (question_numbers o.questions)) ∙ among)
  where
    by : (b : Bool) → is_among m (numbers o.associations) ≡ b → (b || is_among m (question_numbers o.questions)) ≡ true → n ≤ m
    by true is among = one m is
    by false is among = two m among

pub flow_isnt_under : (n : ℕ) (o : Holders) → IsFirst n o.slots → (first : ℕ) → is_among first (carriers o) ≡ true → first ≤ n → NoFlowFirst (carriers o) o.slots
flow_isnt_under n o is first among most = record {
  below = λ m least k p at.
      let under = least.1 first among in
      let above = is.least k p at in
      omega (arith, under, above, most);
  none = λ none. absurd (true_false (sym among ∙ ap (is_among first) none));
}

pub no_flow : (o : Holders) → NoneIsAbove None o.slots → NoFlowFirst (carriers o) o.slots
no_flow o none = record { below = λ m least k p at. absurd (none k p at tt); none = λ empty. none }

-- a question's number is less than those of all associations, or isn't
pub question_is_under : (list : List Association) (asked : List Question) (rising : List ℕ) → IsPermutation (question_numbers asked) rising → IsNonDecreasing rising → (n : ℕ) →
    slice_get rising 0 ≡ Some n
    → ((m : ℕ) → is_among m (numbers list) ≡ true → n ≤ m) → IsQuestionFirst list asked
question_is_under list asked rising all rise n is_first below =
    let least = first_is_least (question_numbers asked) rising all rise n is_first in
    (n, asked_least n asked least.0 least.1, below)

pub question_isnt_under : (list : List Association) (asked : List Question) (rising : List ℕ) → IsPermutation (question_numbers asked) rising → IsNonDecreasing rising → (n : ℕ) →
    slice_get rising 0 ≡ Some n
    → (first : ℕ) → is_among first (numbers list) ≡ true → first ≤ n → NoQuestionFirst list asked
question_isnt_under list asked rising all rise n is_first first among most = record {
  below = λ m least k is.
      let under = at_most m first list least.1 among in
      let above = (first_is_least (question_numbers asked) rising all rise n is_first).1 k is in
      omega (arith, under, above, most);
  none = λ none. absurd (true_false (sym among ∙ ap (λ (l : List Association). is_among first (numbers l)) none));
}

pub no_question_first : (list : List Association) (asked : List Question) (rising : List ℕ) → IsPermutation (question_numbers asked) rising → slice_get rising 0 ≡ None → NoQuestionFirst list asked
no_question_first list asked rising all none = record {
  below = λ m least k is. absurd (none_listed (question_numbers asked) rising all none k is);
  none = λ empty. none_asked asked (none_listed (question_numbers asked) rising all none);
}

-- ---- the socket with the least number is closed

-- one that carries datagrams and is under all others of these, and under all flows', is the least
least_of : (n : ℕ) (o : Holders) → IsLeastOf n (carriers o) → ((k : ℕ) (p : Splice) → IsOpenAt o.slots k p → n ≤ number_of p) → (m : ℕ) → IsOf (carriers o) o.slots m → n ≤ m
least_of n o least below m (inl among) = least.1 m among
least_of n o least below m (inr (k, p, at, number, u)) = subst (λ x. n ≤ x) number (below k p at)

-- a forward's isn't the least, where another is under it, or there is none
pub no_forward : (o : Holders) → NoForwardFirst [] (carriers o) o.slots
no_forward o = record { below = λ bound rising n of least k among. cc; none = λ none. refl }

pub forward_isnt_first : (number : ℕ) (rest : List ℕ) (o : Holders) (first : ℕ) → IsOf (carriers o) o.slots first → first ≤ number → NoForwardFirst (number ∷ rest) (carriers o) o.slots
forward_isnt_first number rest o first of most = record {
  below = λ bound rising n own least k among. let low = least first of in let high = at_least rising.1 k among in omega (arith, low, high, most);
  none = λ none. absurd (none first of);
}
  where
    at_least : AllAbove number rest → (k : ℕ) → is_among k (number ∷ rest) ≡ true → number ≤ k
    at_least rises k among = by (k == number) refl among
      where
        by : (b : Bool) → (k == number) ≡ b → (b || is_among k rest) ≡ true → number ≤ k
        by true here among = let it = equal k number here in omega (arith, it)
        by false other among = let up = above number k rest rises among in omega (arith, up)

-- where it is under all of these it is the first
pub forward_is_first : (number : ℕ) (rest : List ℕ) (o : Holders) → ((m : ℕ) → is_among m (carriers o) ≡ true → number ≤ m) → ((k : ℕ) (p : Splice) → IsOpenAt o.slots k p → number ≤ number_of p)
    → IsForwardFirst (number ∷ rest) (carriers o) o.slots
forward_is_first number rest o under below = (number, rest, refl, each)
  where
    each : (m : ℕ) → IsOf (carriers o) o.slots m → number ≤ m
    each m (inl among) = under m among
    each m (inr (k, p, at, is, u)) = subst (λ x. number ≤ x) is (below k p at)

module _ (config : Config) (over : Phase) (forwards : List ℕ) (made past : List Entry) where
  pub flow_first : (b : Bool) (o : Holders) (new : List (Option Splice)) → IsFlowFirst (carriers o) o.slots → NoForwardFirst forwards (carriers o) o.slots → ClosesFirst b o.slots new made
      → Closing config over forwards o past → AfterClosing b config over forwards (record o { slots = new }) (made ++ past)
  flow_first true o new first no_forward closes closing =
      subst (λ (m : List Entry). Closing config over forwards (record o { slots = new }) (m ++ past)) (sym closes.4)
      (subst (λ (l : List (Option Splice)). Closing config over forwards (record o { slots = l }) (Close closes.0 ∷ past)) (sym closes.3)
      (flow_closed config over forwards o past closing closes.0 closes.1 is_next (no_forward.below closing.sockets.rising.0 closing.sockets.rising.1 closes.0 its_own least)))
    where
      is_next : IsFlows closes.0 closes.1 (carriers o) o.slots
      is_next = next_flow first.0 o.slots first.1 closes.0 closes.1 (carriers o) closes.2 first.2

      its_own : IsOf (carriers o) o.slots closes.0
      its_own = inr (closes.1, closes.2.part, closes.2.at, closes.2.number, tt)

      least : (m : ℕ) → IsOf (carriers o) o.slots m → closes.0 ≤ m
      least m (inl among) = is_next.below m among
      least m (inr (j, p, at, number, u)) = subst (λ x. closes.0 ≤ x) number (closes.2.least j p at tt)
  flow_first false o new first no_forward closes closing = absurd (one_open first.0 o.slots first.1 closes.0)

  pub question_first : (b : Bool) (o : Holders) (new : List Question) → NoFlowFirst (carriers o) o.slots → IsQuestionFirst o.associations o.questions → NoForwardFirst forwards (carriers o) o.slots
      → ClosesLeastAsked (λ q. true) b o.questions new made → Closing config over forwards o past → AfterClosing b config over forwards (record o { questions = new }) (made ++ past)
  question_first true o new no_flow first no_forward closes closing =
      subst (λ (m : List Entry). Closing config over forwards (record o { questions = new }) (m ++ past)) (sym closes.1)
      (subst (λ (l : List Question). Closing config over forwards (record o { questions = l }) (Close closes.0 ∷ past)) (sym closes.3)
      (question_closed config over forwards o past closing closes.0 listed (record { least = least; below = no_flow.below closes.0 least })
      (no_forward.below closing.sockets.rising.0 closing.sockets.rising.1 closes.0 (inl least.0) (least_of closes.0 o least (no_flow.below closes.0 least)))))
    where
      listed : is_among closes.0 (question_numbers o.questions) ≡ true
      listed = least_asked closes.0 o.questions closes.2

      under : closes.0 ≤ first.0
      under = asked_at_most closes.0 first.0 o.questions closes.2.1 (least_asked first.0 o.questions first.1)

      least : IsLeastOf closes.0 (carriers o)
      least = (
        among_second closes.0 (numbers o.associations) (question_numbers o.questions) listed,
        flow_is_under closes.0 o (λ m among. let above = first.2 m among in omega (arith, under, above)) (λ m among. asked_at_most closes.0 m o.questions closes.2.1 among),
      )
  question_first false o new no_flow first no_forward closes closing = absurd
      (true_false (sym (least_asked first.0 o.questions first.1) ∙ ap (λ (l : List Question). is_among first.0 (question_numbers l)) (no_question o.questions closes.1)))

  pub association_first : (b : Bool) (o : Holders) (new : List Association) → NoFlowFirst (carriers o) o.slots → NoQuestionFirst o.associations o.questions → NoForwardFirst forwards (carriers o) o.slots
      → ClosesLeast (λ a. true) b o.associations new made → Closing config over forwards o past → AfterClosing b config over forwards (record o { associations = new }) (made ++ past)
  association_first true o new no_flow no_question no_forward closes closing =
      subst (λ (m : List Entry). Closing config over forwards (record o { associations = new }) (m ++ past)) (sym closes.1)
      (subst (λ (l : List Association). Closing config over forwards (record o { associations = l }) (Close closes.0 ∷ past)) (sym closes.3)
      (association_closed config over forwards o past closing closes.0 listed (record { least = least; below = no_flow.below closes.0 least })
      (no_forward.below closing.sockets.rising.0 closing.sockets.rising.1 closes.0 (inl least.0) (least_of closes.0 o least (no_flow.below closes.0 least)))))
    where
      listed : is_among closes.0 (numbers o.associations) ≡ true
      listed = least_among closes.0 o.associations closes.2

      least : IsLeastOf closes.0 (carriers o)
      least = (
        among_first closes.0 (numbers o.associations) (question_numbers o.questions) listed,
        flow_is_under closes.0 o (λ m among. at_most closes.0 m o.associations closes.2.1 among) (no_question.below closes.0 closes.2),
      )
  association_first false o new no_flow no_question no_forward closes closing =
      subst (λ (m : List Entry). Ran config over (m ++ past)) (sym closes.0) (all_closed config over forwards o past closing none (no_flow.none none) (no_forward.none no_one))
    where
      alone : o.associations ≡ []
      alone = no_association o.associations closes.1

      none : carriers o ≡ []
      none = ap (λ (l : List Association). numbers l ++ question_numbers o.questions) alone ∙ ap question_numbers (no_question.none alone)

      no_one : (m : ℕ) → IsOf (carriers o) o.slots m → ⊥
      no_one m (inl among) = true_false (sym among ∙ ap (is_among m) none)
      no_one m (inr (k, p, at, number, u)) = no_flow.none none k p at tt

-- ---- whether there was one

pub some_flow : (b : Bool) (carriers : List ℕ) (old new : List (Option Splice)) (made : List Entry) → IsFlowFirst carriers old → ClosesFirst b old new made → b ≡ false → ⊥
some_flow true carriers old new made first closes is = cc
some_flow false carriers old new made first closes is = one_open first.0 old first.1 closes.0

pub some_question : (b : Bool) (list : List Association) (old new : List Question) (made : List Entry) → IsQuestionFirst list old → ClosesLeastAsked (λ q. true) b old new made → b ≡ false → ⊥
some_question true list old new made first closes is = cc
some_question false list old new made first closes is = true_false (sym (least_asked first.0 old first.1) ∙ ap (λ (l : List Question). is_among first.0 (question_numbers l))
    (no_question old closes.1))

pub no_association_left : (b : Bool) (old new : List Association) (asked : List Question) (made : List Entry) → NoQuestionFirst old asked → ClosesLeast (λ a. true) b old new made →
    b ≡ false → asked ≡ []
no_association_left true old new asked made first closes is = cc
no_association_left false old new asked made first closes is = first.none (no_association old closes.1)
