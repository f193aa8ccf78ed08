-- The sockets of questions: which are open, and that they are no others'.
use Rattle.std.proofs.Common.{◌≡◌, ℕ, ◌==◌, ◌&&◌, ◌||◌, ◌⊎◌, not, nat_lt, Bool, true, false, cond, List, [], ◌∷◌, ◌++◌, find, is_some, Option, Some, None, option_map, if◌then◌else◌, inl}
use Rattle.std.proofs.Common.{inr, refl, sym, ◌∙◌, ap, subst, arith}
use Rattle.net_octets.specs.declared.Endpoint.{Endpoint}
use Rattle.world_face.specs.Journal.{Entry, Accept, Connect, Listen, UdpOpen}
use Rattle.slirp_settings.specs.Addresses.{Config}
use Rattle.rules_udp.specs.Associations.{numbers, moved_last as association_moved}
use Rattle.rules_udp.specs.declared.Association.{Association}
use Rattle.rules_dns.specs.Questions.{is_of, moved_last, numbered, numbers as question_numbers, socket_of, without}
use Rattle.rules_dns.specs.declared.Question.{Question}
use Rattle.spec_trace.specs.Moments.{waits}
use Rattle.spec_trace.specs.Sockets.{Kind, Association as OfAssociation, DnsSocket, Flow as OfFlow, Forward as OfForward, Listener as OfListener, datagram_kind, is_among, is_association}
use Rattle.spec_trace.specs.Sockets.{kind_of, open_sockets}
use Rattle.spec_run.specs.Datagrams.{Errand, asks_a_name}
use Rattle.spec_run.specs.Errands.{errand_left}
use Rattle.spec_run.specs.Laws.{Lawful, carries}
use Rattle.spec_run.specs.Names.{datagram_kind_for, kind_for, questions}
use Rattle.spec_run.specs.Questions.{is_for_question}
use Rattle.spec_run.specs.Relayed.{associations}
use Rattle.spec_run.proofs.Bools.{equal, or_assoc, or_false, or_second, same, second_of, turned}
use Rattle.spec_run.proofs.Joining.{joined, waited_for}
use Rattle.spec_run.proofs.Phases.{at_any_port}
use Rattle.std.proofs.lemmas.Bool.Decides.{nat_tests}
use Rattle.spec_run.proofs.Waiting.{are_waiting}

-- ---- their numbers

pub none_first : (a b : Bool) → (a || b) ≡ false → a ≡ false
none_first true b is = cc
none_first false b is = refl

pub none_second : (a b : Bool) → (a || b) ≡ false → b ≡ false
none_second true b is = cc
none_second false b is = is

pub among_both : (n : ℕ) (xs ys : List ℕ) → is_among n (xs ++ ys) ≡ (is_among n xs || is_among n ys)
among_both n [] ys = refl
among_both n (x ∷ xs) ys = ap (λ b. (n == x) || b) (among_both n xs ys) ∙ or_assoc (n == x) (is_among n xs) (is_among n ys)

-- one of no question: nothing is closed, none moves, and none has it
pub none_without : (n : ℕ) (list : List Question) → is_among n (question_numbers list) ≡ false → without n list ≡ list
none_without n [] none = refl
none_without n (q ∷ list) none = by (q.number == n) (turned n q.number false (none_first (n == q.number) (is_among n (question_numbers list)) none))
    (none_without n list (none_second (n == q.number) (is_among n (question_numbers list)) none))
  where
    by : (b : Bool) → b ≡ false → without n list ≡ list → (if not b then q ∷ without n list else without n list) ≡ q ∷ list
    by true is rest = cc
    by false is rest = ap (λ l. q ∷ l) rest

pub none_moved : (change : Question → Question) (n : ℕ) (list : List Question) → is_among n (question_numbers list) ≡ false → moved_last change n list ≡ list
none_moved change n [] none = refl
none_moved change n (q ∷ list) none = by (q.number == n) (turned n q.number false (none_first (n == q.number) (is_among n (question_numbers list)) none))
    (none_moved change n list (none_second (n == q.number) (is_among n (question_numbers list)) none))
  where
    by : (b : Bool) → b ≡ false → moved_last change n list ≡ list → (if b then list ++ (change q ∷ []) else q ∷ moved_last change n list) ≡ q ∷ list
    by true is rest = cc
    by false is rest = ap (λ l. q ∷ l) rest

pub none_numbered : (n : ℕ) (list : List Question) → is_among n (question_numbers list) ≡ false → numbered n list ≡ None
none_numbered n [] none = refl
none_numbered n (q ∷ list) none = by (q.number == n) (turned n q.number false (none_first (n == q.number) (is_among n (question_numbers list)) none))
    (none_numbered n list (none_second (n == q.number) (is_among n (question_numbers list)) none))
  where
    by : (b : Bool) → b ≡ false → numbered n list ≡ None → (if b then Some q else numbered n list) ≡ None
    by true is rest = cc
    by false is rest = rest

pub one_numbered : (n : ℕ) (list : List Question) (q : Question) → numbered n list ≡ Some q → (q.number ≡ n) × (is_among n (question_numbers list) ≡ true)
one_numbered n [] q is = cc
one_numbered n (x ∷ list) q is = by (x.number == n) refl is (λ more. one_numbered n list q more)
  where
    by : (b : Bool) → (x.number == n) ≡ b → (if b then Some x else numbered n list) ≡ Some q → (numbered n list ≡ Some q → (q.number ≡ n) × (is_among n (question_numbers list) ≡ true))
        → (q.number ≡ n) × (((n == x.number) || is_among n (question_numbers list)) ≡ true)
    by true this is more = let it : x ≡ q = cc in (sym (ap (λ (y : Question). y.number) it) ∙ equal x.number n this, ap (λ b. b || is_among n (question_numbers list)) (turned x.number n true this))
    by false other is more = let rest = more is in (rest.0, or_second (n == x.number) (is_among n (question_numbers list)) rest.1)

pub numbered_is : (n : ℕ) (list : List Question) → is_some (numbered n list) ≡ is_among n (question_numbers list)
numbered_is n [] = refl
numbered_is n (x ∷ list) = by (x.number == n) refl (numbered_is n list)
  where
    by : (b : Bool) → (x.number == n) ≡ b → is_some (numbered n list) ≡ is_among n (question_numbers list) → is_some (if b then Some x else numbered n list) ≡
        ((n == x.number) || is_among n (question_numbers list))
    by true this rest = sym (ap (λ b. b || is_among n (question_numbers list)) (turned x.number n true this))
    by false other rest = rest ∙ sym (ap (λ b. b || is_among n (question_numbers list)) (turned x.number n false other))

-- the socket of the same question is one of theirs
pub socket_among : (guest : Endpoint) (ident : ℕ) (list : List Question) (n : ℕ) → socket_of guest ident list ≡ Some n → is_among n (question_numbers list) ≡ true
socket_among guest ident [] n is = cc
socket_among guest ident (x ∷ list) n is = by (is_of guest ident x) (λ more. socket_among guest ident list n more) is
  where
    by : (t : Bool) → (socket_of guest ident list ≡ Some n → is_among n (question_numbers list) ≡ true) → option_map (λ (q : Question). q.number)
        (cond t (Some x) (find (is_of guest ident) list)) ≡ Some n
        → ((n == x.number) || is_among n (question_numbers list)) ≡ true
    by true more is = let this : x.number ≡ n = cc in ap (λ b. b || is_among n (question_numbers list)) (subst (λ m. (n == m) ≡ true) (sym this) (same n))
    by false more is = or_second (n == x.number) (is_among n (question_numbers list)) (more is)

-- an association's: none moves
pub association_unmoved : (change : Association → Association) (n : ℕ) (list : List Association) → is_among n (numbers list) ≡ false → association_moved change n list ≡ list
association_unmoved change n [] none = refl
association_unmoved change n (a ∷ list) none = by (a.number == n) (turned n a.number false (none_first (n == a.number) (is_among n (numbers list)) none))
    (association_unmoved change n list (none_second (n == a.number) (is_among n (numbers list)) none))
  where
    by : (b : Bool) → b ≡ false → association_moved change n list ≡ list → (if b then list ++ (change a ∷ []) else a ∷ association_moved change n list) ≡ a ∷ list
    by true is rest = cc
    by false is rest = ap (λ l. a ∷ l) rest

-- ---- the kind of a socket

-- it is that of its entry, which is no question's; or a question's, and its entry makes it an association's
abbrev pub IsKnown : Config → ℕ → List Entry → Type 0
IsKnown config n past = ((kind_for config n past ≡ kind_of n past) × (is_for_question (kind_of n past) ≡ false)) ⊎ ((kind_for config n past ≡ Some DnsSocket) × (kind_of n past ≡ Some OfAssociation))

by_other : (b : Bool) (k : Kind) (before now : Option Kind) → is_for_question (Some k) ≡ false → ((before ≡ now) × (is_for_question now ≡ false)) ⊎
    ((before ≡ Some DnsSocket) × (now ≡ Some OfAssociation))
    → (((if b then Some k else before) ≡ (if b then Some k else now)) × (is_for_question (if b then Some k else now) ≡ false)) ⊎
    (((if b then Some k else before) ≡ Some DnsSocket) × ((if b then Some k else now) ≡ Some OfAssociation))
by_other true k before now none was = inl (refl, none)
by_other false k before now none was = was

known_kind : (waited : Bool) (port : ℕ) → is_for_question (Some (datagram_kind waited port)) ≡ false
known_kind true port = by (port == 0)
  where
    by : (z : Bool) → is_for_question (Some (if z then OfAssociation else OfForward)) ≡ false
    by true = refl
    by false = refl
known_kind false port = refl

pub known_of : (config : Config) (past : List Entry) → Lawful config past → (n : ℕ) → IsKnown config n past
known_of config [] lawful n = inl (refl, refl)
known_of config (Connect socket to answer ∷ past) lawful n = by_other (socket == n) OfFlow (kind_for config n past) (kind_of n past) refl (known_of config past lawful.1 n)
known_of config (Listen socket at answer ∷ past) lawful n = by_other (socket == n) OfListener (kind_for config n past) (kind_of n past) refl (known_of config past lawful.1 n)
known_of config (Accept listener socket answer ∷ past) lawful n = by_other (socket == n) OfFlow (kind_for config n past) (kind_of n past) refl (known_of config past lawful.1 n)
known_of config (UdpOpen socket at answer ∷ past) lawful n = by (errand_left config past) refl (known_of config past lawful.1 n)
  where
    asking : (b : Bool) (waited : nat_lt 0 (waits past) ≡ true) (any : at.port ≡ 0) (hit : Bool) → IsKnown config n past
        → (((if hit then Some (if b then DnsSocket else datagram_kind (nat_lt 0 (waits past)) at.port) else kind_for config n past) ≡
        (if hit then Some (datagram_kind (nat_lt 0 (waits past)) at.port) else kind_of n past)) × (is_for_question (if hit then Some (datagram_kind (nat_lt 0 (waits past)) at.port) else kind_of n past) ≡ false))
        ⊎ (((if hit then Some (if b then DnsSocket else datagram_kind (nat_lt 0 (waits past)) at.port) else kind_for config n past) ≡ Some DnsSocket) ×
        ((if hit then Some (datagram_kind (nat_lt 0 (waits past)) at.port) else kind_of n past) ≡ Some OfAssociation))
    asking true waited any true was = inr (refl, ap (λ (v : Bool). Some (datagram_kind v at.port)) waited ∙ ap (λ port. Some (datagram_kind true port)) any)
    asking false waited any true was = inl (refl, known_kind (nat_lt 0 (waits past)) at.port)
    asking b waited any false was = was

    by : (o : Option Errand) → errand_left config past ≡ o → IsKnown config n past
        → (((if socket == n then Some (datagram_kind_for config (nat_lt 0 (waits past)) at.port o) else kind_for config n past) ≡
        (if socket == n then Some (datagram_kind (nat_lt 0 (waits past)) at.port) else kind_of n past)) ×
        (is_for_question (if socket == n then Some (datagram_kind (nat_lt 0 (waits past)) at.port) else kind_of n past) ≡ false))
        ⊎ (((if socket == n then Some (datagram_kind_for config (nat_lt 0 (waits past)) at.port o) else kind_for config n past) ≡ Some DnsSocket) ×
        ((if socket == n then Some (datagram_kind (nat_lt 0 (waits past)) at.port) else kind_of n past) ≡ Some OfAssociation))
    by None is was = by_other (socket == n) (datagram_kind (nat_lt 0 (waits past)) at.port) (kind_for config n past) (kind_of n past) (known_kind (nat_lt 0 (waits past)) at.port) was
    by (Some errand) is was =
        let waited = waited_for config past errand is lawful.1 in
        asking (asks_a_name config errand) waited (at_any_port config past socket at errand (grind (arith, nat_tests, waited)) is lawful.0) (socket == n) was
known_of config (_ ∷ past) lawful n = known_of config past lawful.1 n

-- ---- the sockets that carry datagrams

pub carried : (config : Config) (past : List Entry) → Lawful config past → (n : ℕ) → carries past n ≡ is_among n (numbers (associations config past) ++ question_numbers (questions config past))
carried config past lawful n =
    by (is_among n (open_sockets past)) (known_of config past lawful n) ∙ (λ i. (joined config past lawful).those n i || (are_waiting config past lawful).those n i)
    ∙ sym (among_both n (numbers (associations config past)) (question_numbers (questions config past)))
  where
    same_kind : (k : Option Kind) → is_for_question k ≡ false → is_association k ≡ (is_association k || is_for_question k)
    same_kind k none = sym (ap (λ b. is_association k || b) none ∙ or_false (is_association k))

    by : (b : Bool) → IsKnown config n past → (b && is_association (kind_of n past)) ≡ ((b && is_association (kind_for config n past)) || (b && is_for_question (kind_for config n past)))
    by false known = refl
    by true (inl (is, none)) = same_kind (kind_of n past) none ∙ ap (λ k. is_association k || is_for_question k) (sym is)
    by true (inr (is, was)) = ap is_association was ∙ sym (ap (λ k. is_association k || is_for_question k) is)

-- none is an association's and a question's
pub two_apart : (config : Config) (past : List Entry) → Lawful config past → (n : ℕ) → is_among n (numbers (associations config past)) ≡ true → is_among n
    (question_numbers (questions config past)) ≡ false
two_apart config past lawful n among =
    sym ((are_waiting config past lawful).those n) ∙ by (is_among n (open_sockets past)) (kind_for config n past) ((joined config past lawful).those n ∙ among)
  where
    by : (b : Bool) (k : Option Kind) → (b && is_association k) ≡ true → (b && is_for_question k) ≡ false
    by true None is = cc
    by true (Some OfAssociation) is = refl
    by true (Some DnsSocket) is = cc
    by true (Some OfForward) is = refl
    by true (Some OfListener) is = refl
    by true (Some OfFlow) is = refl
    by false k is = refl

pub named_apart : (config : Config) (past : List Entry) → Lawful config past → (n : ℕ) → is_among n (question_numbers (questions config past)) ≡ true → is_among n
    (numbers (associations config past)) ≡ false
named_apart config past lawful n among = by (is_among n (numbers (associations config past))) refl
  where
    by : (b : Bool) → is_among n (numbers (associations config past)) ≡ b → b ≡ false
    by true is = let never : true ≡ false = sym among ∙ two_apart config past lawful n is in never
    by false is = refl

-- the kind of an association's, and of a question's
pub kind_carried : (config : Config) (past : List Entry) → Lawful config past → (n : ℕ) → is_among n (numbers (associations config past)) ≡ true → kind_for config n past ≡ Some OfAssociation
kind_carried config past lawful n among = by (kind_for config n past) (second_of (is_among n (open_sockets past)) (is_association (kind_for config n past))
    ((joined config past lawful).those n ∙ among))
  where
    by : (k : Option Kind) → is_association k ≡ true → k ≡ Some OfAssociation
    by None is = cc
    by (Some OfAssociation) is = refl
    by (Some DnsSocket) is = cc
    by (Some OfForward) is = cc
    by (Some OfListener) is = cc
    by (Some OfFlow) is = cc

pub kind_named : (config : Config) (past : List Entry) → Lawful config past → (n : ℕ) → is_among n (question_numbers (questions config past)) ≡ true → kind_for config n past ≡ Some DnsSocket
kind_named config past lawful n among = by (kind_for config n past) (second_of (is_among n (open_sockets past)) (is_for_question (kind_for config n past))
    ((are_waiting config past lawful).those n ∙ among))
  where
    by : (k : Option Kind) → is_for_question k ≡ true → k ≡ Some DnsSocket
    by None is = cc
    by (Some OfAssociation) is = cc
    by (Some DnsSocket) is = refl
    by (Some OfForward) is = cc
    by (Some OfListener) is = cc
    by (Some OfFlow) is = cc

-- one that isn't carried is of neither
pub neither : (config : Config) (past : List Entry) → Lawful config past → (n : ℕ) → carries past n ≡ false → (is_among n (numbers (associations config past)) ≡ false) ×
    (is_among n (question_numbers (questions config past)) ≡ false)
neither config past lawful n none =
    let is = sym (among_both n (numbers (associations config past)) (question_numbers (questions config past))) ∙ sym (carried config past lawful n) ∙ none in (
      none_first (is_among n (numbers (associations config past))) (is_among n (question_numbers (questions config past))) is,
      none_second
          (is_among n (numbers (associations config past))) (is_among n (question_numbers (questions config past))) is,
    )
