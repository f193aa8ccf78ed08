-- The numbers of all sockets stay under that of the next one.
use Rattle.std.proofs.Common.{◌≡◌, ℕ, ◌+◌, ◌<◌, not, nat_le, Bool, true, false, cond, All, List, [], ◌∷◌, ◌++◌, length, if◌then◌else◌, refl, sym, subst, arith}
use Rattle.std.proofs.lemmas.List.Elements.{All-cons, All-nil, All-head, All-tail}
use Rattle.std.proofs.lemmas.List.Sorted.{All-permutation}
use Rattle.rules_udp.specs.declared.Reply.{Reply}
use Rattle.world_face.specs.Journal.{Entry, Close, filled_got}
use Rattle.world_face.specs.declared.Got.{Got}
use Rattle.world_face.specs.declared.Got.TheVariants.{From, NotYet, Failed}
use Rattle.rules_dns.specs.Questions.{asked_from, heard_at, is_answered, is_numbered, moved_last, most_questions, numbers, without}
use Rattle.dns_relay.specs.Relaying.{Asked, BySocket, ByNewSocket, ClosesLeast, Hears, OnNone, OnQuestion, Opens, OpensFor, OpensNone, Relays, Ticks, list_after, question_of, with_room}
use Rattle.dns_relay.specs.State.{RelayState}
use Rattle.rules_dns.specs.declared.Question.{Question}
use Rattle.dns_relay.proofs.Numbering.{moved_numbers}

abbrev pub AreBelow : ℕ → List Question → Type 0
AreBelow bound list = All (λ n. n < bound) (numbers list)

pub below_without : (bound socket : ℕ) (list : List Question) → AreBelow bound list → AreBelow bound (without socket list)
below_without bound socket [] below = below
below_without bound socket (q ∷ list) below = by (is_numbered socket q) (below_without bound socket list (All-tail (λ (n : ℕ). n < bound) q.number (numbers list) below))
  where
    by : (b : Bool) → AreBelow bound (without socket list) → AreBelow bound (cond (not b) (q ∷ without socket list) (without socket list))
    by true rest = rest
    by false rest = All-cons (λ (n : ℕ). n < bound) q.number (numbers (without socket list)) (All-head (λ (n : ℕ). n < bound) q.number (numbers list) below) rest

below_last : (bound : ℕ) (list : List Question) (q : Question) → AreBelow bound list → q.number ≡ bound → AreBelow (bound + 1) (list ++ (q ∷ []))
below_last bound [] q below is = All-cons (λ (n : ℕ). n < bound + 1) q.number [] (omega (arith, is)) (All-nil (λ (n : ℕ). n < bound + 1))
below_last bound (x ∷ list) q below is =
    let here = All-head (λ (n : ℕ). n < bound) x.number (numbers list) below in
    All-cons (λ (n : ℕ). n < bound + 1) x.number (numbers (list ++ (q ∷ []))) (omega (arith, here)) (below_last bound list q (All-tail (λ (n : ℕ). n < bound) x.number (numbers list) below) is)

below_up : (bound : ℕ) (list : List Question) → AreBelow bound list → AreBelow (bound + 1) list
below_up bound [] below = All-nil (λ (n : ℕ). n < bound + 1)
below_up bound (x ∷ list) below =
    let here = All-head (λ (n : ℕ). n < bound) x.number (numbers list) below in
    All-cons (λ (n : ℕ). n < bound + 1) x.number (numbers list) (omega (arith, here)) (below_up bound list (All-tail (λ (n : ℕ). n < bound) x.number (numbers list) below))

below_moved : (bound socket : ℕ) (change : Question → Question) → ((q : Question) → (change q).number ≡ q.number) → (list : List Question) → AreBelow bound list → AreBelow bound
    (moved_last change socket list)
below_moved bound socket change keeps list below = All-permutation (λ (n : ℕ). n < bound) (numbers list) (numbers (moved_last change socket list)) (moved_numbers change keeps socket list) below

below_room : (bound : ℕ) (list : List Question) → AreBelow bound list → AreBelow bound (with_room list)
below_room bound [] below = below
below_room bound (oldest ∷ list) below = by (nat_le most_questions (length (oldest ∷ list)))
  where
    by : (b : Bool) → AreBelow bound (if b then without oldest.number (oldest ∷ list) else oldest ∷ list)
    by true = below_without bound oldest.number (oldest ∷ list) below
    by false = below

below_opened : (bind : ℕ) (d : Asked) (now number : ℕ) (old new : List Question) (reply : Reply) (calls : List Entry) → OpensFor bind d now number old new reply calls →
    AreBelow number old → AreBelow (number + 1) new
below_opened bind d now number old new reply calls (Opens answer made is replies) below =
    subst (AreBelow (number + 1)) (sym is) (below_moved (number + 1) number (asked_from d.mac now) (λ q. refl) (old ++ (question_of d number now ∷ []))
    (below_last number old (question_of d number now) below refl))
below_opened bind d now number old new reply calls (OpensNone made is replies) below = subst (AreBelow (number + 1)) (sym is) (below_up number old below)

-- after a question, after what came on a socket, and after sockets were closed
pub below_relayed : (bind : ℕ) (d : Asked) (now number next : ℕ) (old new : List Question) (reply : Reply) (made : List Entry) → Relays bind d now number next old new reply made →
    AreBelow number old → AreBelow next new
below_relayed bind d now number next old new reply made (BySocket socket answer found sends replies is same) below =
    subst (λ n. AreBelow n new) (sym same) (subst (AreBelow number) (sym is) (below_moved number socket (asked_from d.mac now) (λ q. refl) old below))
below_relayed bind d now number next old new reply made (ByNewSocket calls found room opens is same) below =
    subst (λ n. AreBelow n new) (sym same) (below_opened bind d now number (with_room old) new reply calls opens (below_room number old below))

pub below_heard : (bound : ℕ) (s : RelayState) (now socket room : ℕ) (into : List ℕ) (new : List Question) (reply : Reply) (made : List Entry) →
    Hears s now socket room into new reply made → AreBelow bound s.list → AreBelow bound new
below_heard bound s now socket room into new reply made (OnNone found no_call is replies) below = subst (AreBelow bound) (sym is) below
below_heard bound s now socket room into new reply made (OnQuestion q answer found calls is replies) below = subst (AreBelow bound) (sym is) (by answer (filled_got answer into))
  where
    used : AreBelow bound (moved_last (heard_at now) q.number s.list)
    used = below_moved bound q.number (heard_at now) (λ q. refl) s.list below

    by_test : (b : Bool) → AreBelow bound (if b then without q.number (moved_last (heard_at now) q.number s.list) else moved_last (heard_at now) q.number s.list)
    by_test true = below_without bound q.number (moved_last (heard_at now) q.number s.list) used
    by_test false = used

    by : (answer : Got) (octets : List ℕ) → AreBelow bound (list_after s now q answer octets)
    by (From peer count) octets = by_test (is_answered s.resolver q peer octets)
    by NotYet octets = below
    by Failed octets = below

pub below_ticked : (bound now : ℕ) (old new : List Question) (made : List Entry) → Ticks now old new made → AreBelow bound old → AreBelow bound new
below_ticked bound now old new [] is below = subst (AreBelow bound) (sym is) below
below_ticked bound now old new (Close n ∷ made) ticks below = subst (AreBelow bound) (sym ticks.3) (below_without bound n ticks.0 (below_ticked bound now old ticks.0 made ticks.1 below))
below_ticked bound now old new (_ ∷ made) ticks below = absurd ticks

pub below_closed : (bound : ℕ) (test : Question → Bool) (result : Bool) (old new : List Question) (made : List Entry) → ClosesLeast test result old new made → AreBelow bound old → AreBelow bound new
below_closed bound test true old new made closes below = subst (AreBelow bound) (sym closes.3) (below_without bound closes.0 old below)
below_closed bound test false old new made closes below = subst (AreBelow bound) (sym closes.2) below
