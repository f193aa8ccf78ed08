-- No two questions that wait are of one port with one identifier, so no two sockets are, and no socket is for two of them.
use Rattle.std.proofs.Common.{◌≡◌, ℕ, ◌==◌, ◌||◌, not, Bool, true, false, List, [], ◌∷◌, ◌++◌, find, Option, Some, None, option_map, if◌then◌else◌, refl, sym, ◌∙◌, ap}
use Rattle.world_face.specs.Journal.{Entry, Close, UdpOpen, UdpSend, UdpRecv, CallUdpOpen, call_of}
use Rattle.world_face.specs.declared.Made.{Made}
use Rattle.world_face.specs.declared.Made.TheVariants.{Done, Failed}
use Rattle.world_face.specs.declared.Got.{Got}
use Rattle.world_face.specs.declared.Got.TheVariants.{From, NotYet as GotNotYet, Failed as GotFailed}
use Rattle.net_octets.specs.declared.Endpoint.{Endpoint}
use Rattle.slirp_settings.specs.Addresses.{Config}
use Rattle.slirp_settings.specs.Classes.{same_endpoint}
use Rattle.rules_dns.specs.declared.Question.{Question}
use Rattle.rules_dns.specs.Questions.{ident_in, is_of, moved_last, numbers, socket_of, without}
use Rattle.spec_trace.specs.Moments.{moment}
use Rattle.spec_trace.specs.Sockets.{is_among, open_sockets}
use Rattle.spec_run.specs.Datagrams.{Errand, asks_a_name}
use Rattle.spec_run.specs.Errands.{errand_left}
use Rattle.spec_run.specs.Laws.{May, Lawful}
use Rattle.spec_run.specs.Names.{question, questions, with_heard, with_opened, with_sent}
use Rattle.spec_run.specs.Questions.{WasAsked}
use Rattle.spec_run.proofs.Askers.{no_socket_yet}
use Rattle.spec_run.proofs.Bools.{and_both, equal, same}
use Rattle.spec_run.proofs.Leaving.{IsFor, IsOfOne, kept_asked}
use Rattle.spec_run.proofs.Listed.{AllQuestions, all_last, all_left, all_moved, all_so, among_found, found}
use Rattle.spec_run.proofs.Longest.{same_port}

-- ---- no two are alike

abbrev AreUnlike : Question → Question → Type 0
AreUnlike q x = x.guest ≡ q.guest → x.ident ≡ q.ident → ⊥

abbrev AllDiffer : List Question → Type 0
AllDiffer [] = Unit {0}
AllDiffer (q ∷ list) = AllQuestions (AreUnlike q) list × AllDiffer list

differ_last : (list : List Question) (q : Question) → AllDiffer list → AllQuestions (AreUnlike q) list → AllDiffer (list ++ (q ∷ []))
differ_last [] q all none = (tt, tt)
differ_last (x ∷ list) q all none = (all_last (AreUnlike x) list q all.0 (λ guest ident. none.0 (sym guest) (sym ident)), differ_last list q all.1 none.1)

differ_left : (n : ℕ) (list : List Question) → AllDiffer list → AllDiffer (without n list)
differ_left n [] all = tt
differ_left n (q ∷ list) all = by (q.number == n) (differ_left n list all.1)
  where
    by : (b : Bool) → AllDiffer (without n list) → AllDiffer (if not b then q ∷ without n list else without n list)
    by true rest = rest
    by false rest = (all_left (AreUnlike q) n list all.0, rest)

-- a change that keeps the port and the identifier
record Keeps (change : Question → Question) : Type 0 where
  guest : (q : Question) → (change q).guest ≡ q.guest
  ident : (q : Question) → (change q).ident ≡ q.ident

differ_moved : (change : Question → Question) (n : ℕ) (list : List Question) → Keeps change → AllDiffer list → AllDiffer (moved_last change n list)
differ_moved change n [] keeps all = tt
differ_moved change n (q ∷ list) keeps all = by (q.number == n) (differ_moved change n list keeps all.1)
  where
    by : (b : Bool) → AllDiffer (moved_last change n list) → AllDiffer (if b then list ++ (change q ∷ []) else q ∷ moved_last change n list)
    by true rest = differ_last list (change q) all.1 (all_so (AreUnlike q) (AreUnlike (change q)) list (λ x unlike guest ident. unlike (guest ∙ keeps.guest q) (ident ∙ keeps.ident q)) all.0)
    by false rest = (all_moved (AreUnlike q) change n list (λ x unlike guest ident. unlike (sym (keeps.guest x) ∙ guest) (sym (keeps.ident x) ∙ ident)) all.0, rest)

-- where none is of a port with an identifier, none is like one that is
none_like : (guest : Endpoint) (ident : ℕ) (list : List Question) (q : Question) → q.guest ≡ guest → q.ident ≡ ident → socket_of guest ident list ≡ None → AllQuestions (AreUnlike q) list
none_like guest ident [] q port identifier none = tt
none_like guest ident (x ∷ list) q port identifier none = by (is_of guest ident x) refl none (λ rest. none_like guest ident list q port identifier rest)
  where
    by : (b : Bool) → is_of guest ident x ≡ b → option_map (λ (y : Question). y.number) (if b then Some x else find (is_of guest ident) list) ≡ None →
        (socket_of guest ident list ≡ None → AllQuestions (AreUnlike q) list) → AllQuestions (AreUnlike q) (x ∷ list)
    by true here is rest = absurd cc
    by false other is rest = (
      (λ one two.
          let of : is_of guest ident x ≡ true = and_both (same_endpoint x.guest guest) (x.ident == ident) (ap (λ g. same_endpoint g guest) (one ∙ port) ∙ same_port guest)
          (ap (λ i. i == ident) (two ∙ identifier) ∙ same ident) in
          absurd (let never : true ≡ false = sym of ∙ other in cc)),
      rest is,
    )

-- ---- by an entry

opened_differ : (config : Config) (past : List Entry) (socket : ℕ) (at : Endpoint) (answer : Made) (o : Option Errand) → May config past (CallUdpOpen socket at) →
    Lawful config past → errand_left config past ≡ o → AllDiffer (questions config past)
    → AllDiffer (with_opened config answer socket (moment past) o (questions config past))
opened_differ config past socket at Done None may lawful left all = all
opened_differ config past socket at Failed o may lawful left all = all
opened_differ config past socket at Done (Some errand) may lawful left all = by (asks_a_name config errand) refl
  where
    by : (b : Bool) → asks_a_name config errand ≡ b → AllDiffer (if b then questions config past ++ (question socket errand (moment past) ∷ []) else questions config past)
    by true names = differ_last (questions config past) (question socket errand (moment past)) all
        (none_like errand.datagram.from (ident_in errand.datagram.body) (questions config past) (question socket errand (moment past)) refl refl
        (no_socket_yet config past socket at errand may lawful left names))
    by false names = all

sent_differ : (socket now : ℕ) (o : Option Errand) (list : List Question) → AllDiffer list → AllDiffer (with_sent socket now o list)
sent_differ socket now None list all = all
sent_differ socket now (Some errand) list all = differ_moved _ socket list (record { guest = λ q. refl; ident = λ q. refl }) all

heard_differ : (answer : Got) (socket now : ℕ) (list : List Question) → AllDiffer list → AllDiffer (with_heard answer socket now list)
heard_differ (From peer n) socket now list all = differ_moved _ socket list (record { guest = λ q. refl; ident = λ q. refl }) all
heard_differ GotNotYet socket now list all = all
heard_differ GotFailed socket now list all = all

differ_by : (config : Config) (e : Entry) (past : List Entry) → May config past (call_of e) → Lawful config past → AllDiffer (questions config past) → AllDiffer (questions config (e ∷ past))
differ_by config (Close socket) past may lawful all = differ_left socket (questions config past) all
differ_by config (UdpOpen socket at answer) past may lawful all = opened_differ config past socket at answer (errand_left config past) may lawful refl all
differ_by config (UdpSend socket to octets answer) past may lawful all = sent_differ socket (moment past) (errand_left config past) (questions config past) all
differ_by config (UdpRecv socket asked answer octets) past may lawful all = heard_differ answer socket (moment past) (questions config past) all
differ_by config _ past may lawful all = all

all_differ : (config : Config) (past : List Entry) → Lawful config past → AllDiffer (questions config past)
all_differ config [] lawful = tt
all_differ config (e ∷ past) lawful = differ_by config e past lawful.0 lawful.1 (all_differ config past lawful.1)

-- ---- so of two open sockets of one question one is the other

unlike_none : (x : Question) (n : ℕ) (guest : Endpoint) (ident : ℕ) (list : List Question) → AllQuestions (AreUnlike x) list → x.guest ≡ guest → x.ident ≡ ident → IsOfOne n guest ident list → ⊥
unlike_none x n guest ident list unlike port identifier one =
    let y = among_found n list one.among in
    let known = found (IsFor n guest ident) n list y.0 one.idents y.1 in
    let other = found (AreUnlike x) n list y.0 unlike y.1 in
    let is = known.0 known.1 in
    other.0 (is.0 ∙ sym port) (is.1 ∙ sym identifier)

same_number : (one other : ℕ) (guest : Endpoint) (ident : ℕ) (list : List Question) → AllDiffer list → IsOfOne one guest ident list → IsOfOne other guest ident list → one ≡ other
same_number one other guest ident [] all first second = absurd (let never = first.among in cc)
same_number one other guest ident (x ∷ list) all first second = by (one == x.number) (other == x.number) refl refl first.among second.among (λ p q. same_number one other guest ident list all.1 p q)
  where
    by : (b t : Bool) → (one == x.number) ≡ b → (other == x.number) ≡ t → (b || is_among one (numbers list)) ≡ true → (t || is_among other (numbers list)) ≡ true
        → (IsOfOne one guest ident list → IsOfOne other guest ident list → one ≡ other) → one ≡ other
    by true true this that p q more = equal one x.number this ∙ sym (equal other x.number that)
    by true false this that p q more =
        let is = first.idents.0 (sym (equal one x.number this)) in
        absurd (unlike_none x other guest ident list all.0 is.0 is.1 (record { among = q; idents = second.idents.1 }))
    by false true this that p q more =
        let is = second.idents.0 (sym (equal other x.number that)) in
        absurd (unlike_none x one guest ident list all.0 is.0 is.1 (record { among = p; idents = first.idents.1 }))
    by false false this that p q more = more (record { among = p; idents = first.idents.1 }) (record { among = q; idents = second.idents.1 })

pub one_socket : (config : Config) (past : List Entry) (one other : ℕ) (guest : Endpoint) (ident : ℕ) → Lawful config past → is_among one (open_sockets past) ≡ true →
    is_among other (open_sockets past) ≡ true
    → WasAsked config past one guest ident → WasAsked config past other guest ident → one ≡ other
one_socket config past one other guest ident lawful first second asked also =
    same_number one other guest ident (questions config past) (all_differ config past lawful) (kept_asked config past one guest ident lawful first asked)
    (kept_asked config past other guest ident lawful second also)

-- and what was asked on one is one question
pub one_question : (config : Config) (past : List Entry) (socket : ℕ) (guest other : Endpoint) (ident more : ℕ) → Lawful config past → is_among socket (open_sockets past) ≡ true
    → WasAsked config past socket guest ident → WasAsked config past socket other more → (guest ≡ other) × (ident ≡ more)
one_question config past socket guest other ident more lawful open_yet asked also =
    let first = kept_asked config past socket guest ident lawful open_yet asked in
    let second = kept_asked config past socket other more lawful open_yet also in
    let q = among_found socket (questions config past) first.among in
    let one = found (IsFor socket guest ident) socket (questions config past) q.0 first.idents q.1 in
    let two = found (IsFor socket other more) socket (questions config past) q.0 second.idents q.1 in
    let is = one.0 one.1 in
    let was = two.0 two.1 in
    (sym is.0 ∙ was.0, sym is.1 ∙ was.1)
