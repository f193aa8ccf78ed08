-- What the network sees of a trace has the waits, the octets of the link and the failures of the link and of waits that the trace has.
use Rattle.std.proofs.Common.{◌≡◌, ℕ, ◌+◌, ◌≤◌, ◌==◌, Bool, true, false, cond, List, [], ◌∷◌, ◌++◌, refl, ◌∙◌, ap, arith}
use Rattle.std.proofs.lemmas.Bool.Decides.{nat_tests}
use Rattle.spec_trace.specs.Moments.{waits}
use Rattle.world_face.specs.Faults.{failures, link_failed, socket_failed, wait_failed}
use Rattle.world_face.specs.Frames.{partial, partial_after}
use Rattle.world_face.specs.Journal.{Entry, LinkRead, Wait}
use Rattle.rules_control.specs.Apart.{is_on_control, seen, without_control}
use Rattle.slirp_app.specs.Untroubled.{before_waits, link_ended, link_octets, tells_end}

-- a call that is passed over changes nothing, and one that isn't changes nothing either
skip : {A : Type 0} (of : List Entry → A) (b : Bool) (l m : List Entry) (a : A) → of l ≡ a → of m ≡ a → of (cond b l m) ≡ a
skip of true l m a one other = one
skip of false l m a one other = other

pub waits_apart : (run : List Entry) → waits (without_control run) ≡ waits run
waits_apart [] = refl
waits_apart (Wait wants timeout answer ready ∷ past) = ap (λ n. n + 1) (waits_apart past)
waits_apart (e ∷ past) = skip waits (is_on_control e) (without_control past) (seen e ∷ without_control past) (waits past) (waits_apart past) (waits_apart past)

pub partial_apart : (run : List Entry) → partial (without_control run) ≡ partial run
partial_apart [] = refl
partial_apart (LinkRead asked answer octets ∷ past) = ap (partial_after (LinkRead asked answer octets)) (partial_apart past)
partial_apart (e ∷ past) = skip partial (is_on_control e) (without_control past) (seen e ∷ without_control past) (partial past) (partial_apart past) (partial_apart past)

pub octets_apart : (run : List Entry) → link_octets (without_control run) ≡ link_octets run
octets_apart [] = refl
octets_apart (LinkRead asked answer octets ∷ past) = ap (λ l. l ++ octets) (octets_apart past)
octets_apart (e ∷ past) = skip link_octets (is_on_control e) (without_control past) (seen e ∷ without_control past) (link_octets past) (octets_apart past) (octets_apart past)

pub ended_apart : (run : List Entry) → link_ended (without_control run) ≡ link_ended run
ended_apart [] = refl
ended_apart (LinkRead asked answer octets ∷ past) = ap (cond (tells_end (LinkRead asked answer octets)) true) (ended_apart past)
ended_apart (e ∷ past) = skip link_ended (is_on_control e) (without_control past) (seen e ∷ without_control past) (link_ended past) (ended_apart past) (ended_apart past)

-- ---- failures

module _ (of : Entry → Bool) (as_seen : (e : Entry) → of (seen e) ≡ of e) where
  pub fewer_apart : (run : List Entry) → failures of (without_control run) ≤ failures of run
  fewer_apart [] = omega arith
  fewer_apart (e ∷ past) = by (is_on_control e) (of e) (as_seen e) (fewer_apart past)
    where
      by : (b fails : Bool) → of (seen e) ≡ fails → failures of (without_control past) ≤ failures of past
          → failures of (cond b (without_control past) (seen e ∷ without_control past)) ≤ cond fails 1 0 + failures of past
      by true true is few = omega (arith, few)
      by true false is few = omega (arith, few)
      by false true is few = let one : ◌≡◌ {A = ℕ} (cond (of (seen e)) 1 0) 1 = ap (λ t. cond t 1 0) is in omega (arith, one, few)
      by false false is few = let none : ◌≡◌ {A = ℕ} (cond (of (seen e)) 1 0) 0 = ap (λ t. cond t 1 0) is in omega (arith, none, few)

link_as_seen : (e : Entry) → link_failed (seen e) ≡ link_failed e
link_as_seen (Wait wants timeout answer ready) = refl
link_as_seen _ = refl

wait_as_seen : (e : Entry) → wait_failed (seen e) ≡ wait_failed e
wait_as_seen (Wait wants timeout answer ready) = refl
wait_as_seen _ = refl

socket_as_seen : (e : Entry) → socket_failed (seen e) ≡ socket_failed e
socket_as_seen (Wait wants timeout answer ready) = refl
socket_as_seen _ = refl

pub fewer_on_link : (run : List Entry) → failures link_failed (without_control run) ≤ failures link_failed run
fewer_on_link = fewer_apart link_failed link_as_seen

pub fewer_waits_fail : (run : List Entry) → failures wait_failed (without_control run) ≤ failures wait_failed run
fewer_waits_fail = fewer_apart wait_failed wait_as_seen

-- ---- before the first wait

pub before_first : (journal : List Entry) → waits journal ≡ 0 → before_waits journal ≡ journal
before_first [] none = refl
before_first (e ∷ past) none = by (waits (e ∷ past) == 0) refl
  where
    by : (b : Bool) → (waits (e ∷ past) == 0) ≡ b → cond b (e ∷ past) (before_waits past) ≡ e ∷ past
    by true is = refl
    by false is = grind (arith, nat_tests)

-- with a wait among them the newest call isn't before the first
not_first : (e : Entry) (past : List Entry) → (waits (e ∷ past) == 0) ≡ false → before_waits (e ∷ past) ≡ before_waits past
not_first e past some = ap (λ b. cond b (e ∷ past) (before_waits past)) some

pub before_apart : (run : List Entry) → before_waits (without_control run) ≡ without_control (before_waits run)
before_apart [] = refl
before_apart (e ∷ past) = by (waits (e ∷ past) == 0) refl (before_apart past)
  where
    passed : (b : Bool) → waits (cond b (without_control past) (seen e ∷ without_control past)) ≡ waits (e ∷ past) → (waits (e ∷ past) == 0) ≡ false
        → before_waits (without_control past) ≡ without_control (before_waits past)
        → before_waits (cond b (without_control past) (seen e ∷ without_control past)) ≡ without_control (before_waits past)
    passed true same some rest = rest
    passed false same some rest = not_first (seen e) (without_control past) (ap (λ n. n == 0) same ∙ some) ∙ rest

    by : (b : Bool) → (waits (e ∷ past) == 0) ≡ b → before_waits (without_control past) ≡ without_control (before_waits past)
        → before_waits (without_control (e ∷ past)) ≡ without_control (cond b (e ∷ past) (before_waits past))
    by true none rest = before_first (without_control (e ∷ past)) (waits_apart (e ∷ past) ∙ (let zero_waits : waits (e ∷ past) ≡ 0 = grind (arith, nat_tests) in zero_waits))
    by false some rest = passed (is_on_control e) (waits_apart (e ∷ past)) some rest

pub fewer_before : (run : List Entry) → failures socket_failed (before_waits (without_control run)) ≤ failures socket_failed (before_waits run)
fewer_before run =
    let few = fewer_apart socket_failed socket_as_seen (before_waits run) in
    let same : failures socket_failed (before_waits (without_control run)) ≡ failures socket_failed (without_control (before_waits run)) = ap (failures socket_failed) (before_apart run) in
    omega (arith, few, same)
