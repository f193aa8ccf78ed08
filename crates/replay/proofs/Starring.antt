-- A star is read as arguments of no meaning, and `all` as a count of none.
use Rattle.std.proofs.Common.{◌≡◌, ◌≢◌, ◌↔◌, ℕ, ◌<◌, ◌^◌, Bool, true, false, cond, IsTrue, List, [], ◌∷◌, ◌++◌, length, decimal, codes, refl, sym, ◌∙◌, ap, subst, arith, append_assoc}
use Rattle.std.proofs.Common.{length-append, None}
use Rattle.world_face.specs.declared.Io.{Io}
use Rattle.world_face.specs.declared.Io.TheVariants.{Done, End, NotYet, Failed}
use Rattle.world_face.specs.Journal.{AreOctets, AtEndpoint, Entry, Now, Wait, LinkOpen, LinkRead, LinkWrite, Connect, Connected, Listen, Accept, TcpRead, TcpWrite, TcpEnd, Close, UdpOpen}
use Rattle.world_face.specs.Journal.{UdpSend, UdpRecv, FileLen, FileRead, Call, CallNow, CallWait, CallLinkOpen, CallLinkRead, CallLinkWrite, CallConnect, CallConnected, CallListen}
use Rattle.world_face.specs.Journal.{CallAccept, CallTcpRead, CallTcpWrite, CallTcpEnd, CallClose, CallUdpOpen, CallUdpSend, CallUdpRecv, CallFileLen, CallFileRead, call_of}
use Rattle.std.proofs.lemmas.List.Elements.{All-nil}
use Rattle.net_octets.specs.declared.Endpoint.{Endpoint}
use Rattle.replay.specs.declared.CallName.{CallName}
use Rattle.replay.specs.declared.CallName.TheVariants as names
use Rattle.replay.specs.Fitting.{with_answer}
use Rattle.replay.specs.Names.{name_of, name_text}
use Rattle.replay.specs.Range.{InRange, AnswersInRange, IsSayable}
use Rattle.replay.specs.Rows.{Row, IsReadable, TakesAll, said_call}
use Rattle.replay.specs.Encoding.{IsEncoded, IsWritten, HasArguments, SaidArguments, Says, SaysRow, is_write, blank_args, given_args, counted_answer}
use Rattle.address_text.specs.Texts.{address_text, endpoint_text, place_text}
use Rattle.address_text.proofs.Parting.{is_digit, decimal_digits}
use Rattle.address_text.proofs.Numbers.{zero_text}
use Rattle.replay.specs.Text.{answer_text, call_text, timeout_text, wants_text, written_text, hexadecimal}
use Rattle.replay.proofs.Parting.{first}
use Rattle.replay.proofs.Rowing.{answer_kept}
use Rattle.hex.specs.Hex.{encode_with, lower_digits}
use Rattle.hex.proofs.HexLemmas.{length-encode_with}
use Rattle.std.specs.List.{list_all}

-- the call of no meaning of each name
abbrev nowhere : Endpoint
nowhere = record { addr = record { 0 = 0 }; port = 0 }

abbrev blank : CallName → Call
blank names.Now = CallNow
blank names.Wait = CallWait [] None
blank names.LinkOpen = CallLinkOpen (AtEndpoint nowhere)
blank names.LinkRead = CallLinkRead 0
blank names.LinkWrite = CallLinkWrite []
blank names.Connect = CallConnect 0 nowhere
blank names.Connected = CallConnected 0
blank names.Listen = CallListen 0 nowhere
blank names.Accept = CallAccept 0 0
blank names.TcpRead = CallTcpRead 0 0
blank names.TcpWrite = CallTcpWrite 0 []
blank names.TcpEnd = CallTcpEnd 0
blank names.Close = CallClose 0
blank names.UdpOpen = CallUdpOpen 0 nowhere
blank names.UdpSend = CallUdpSend 0 nowhere []
blank names.UdpRecv = CallUdpRecv 0 0
blank names.FileLen = CallFileLen []
blank names.FileRead = CallFileRead [] 0 0

nowhere_text : endpoint_text nowhere ≡ codes "0.0.0.0:0"
unfolding endpoint_text address_text
nowhere_text = rw zero_text refl

name_blank : (n : CallName) → name_of (blank n) ≡ n
name_blank names.Now = refl
name_blank names.Wait = refl
name_blank names.LinkOpen = refl
name_blank names.LinkRead = refl
name_blank names.LinkWrite = refl
name_blank names.Connect = refl
name_blank names.Connected = refl
name_blank names.Listen = refl
name_blank names.Accept = refl
name_blank names.TcpRead = refl
name_blank names.TcpWrite = refl
name_blank names.TcpEnd = refl
name_blank names.Close = refl
name_blank names.UdpOpen = refl
name_blank names.UdpSend = refl
name_blank names.UdpRecv = refl
name_blank names.FileLen = refl
name_blank names.FileRead = refl

blank_has : (n : CallName) → n ≢ names.Now → HasArguments (blank n) (blank_args n)
unfolding encode_with
blank_has names.Now some = absurd (some refl)
blank_has names.Wait some = refl
blank_has names.LinkOpen some = rw nowhere_text refl
blank_has names.LinkRead some = sym zero_text
blank_has names.LinkWrite some = refl
blank_has names.Connect some = rw (zero_text, nowhere_text) refl
blank_has names.Connected some = sym zero_text
blank_has names.Listen some = rw (zero_text, nowhere_text) refl
blank_has names.Accept some = rw zero_text refl
blank_has names.TcpRead some = rw zero_text refl
blank_has names.TcpWrite some = rw zero_text refl
blank_has names.TcpEnd some = sym zero_text
blank_has names.Close some = sym zero_text
blank_has names.UdpOpen some = rw (zero_text, nowhere_text) refl
blank_has names.UdpSend some = rw (zero_text, nowhere_text) refl
blank_has names.UdpRecv some = rw zero_text refl
blank_has names.FileLen some = refl
blank_has names.FileRead some = rw zero_text refl

here : (0 < 2 ^ 32) × (0 < 2 ^ 16)
here = (omega arith, omega arith)

no_octets : AreOctets []
no_octets = All-nil (λ octet. octet < 2 ^ 8)

small : 0 < 2 ^ 64
small = omega arith

blank_range : (n : CallName) → InRange (blank n)
blank_range names.Now = tt
blank_range names.Wait = (tt, refl)
blank_range names.LinkOpen = here
blank_range names.LinkRead = small
blank_range names.LinkWrite = no_octets
blank_range names.Connect = (small, here)
blank_range names.Connected = small
blank_range names.Listen = (small, here)
blank_range names.Accept = (small, small)
blank_range names.TcpRead = (small, small)
blank_range names.TcpWrite = (small, no_octets)
blank_range names.TcpEnd = small
blank_range names.Close = small
blank_range names.UdpOpen = (small, here)
blank_range names.UdpSend = (small, here, no_octets)
blank_range names.UdpRecv = (small, small)
blank_range names.FileLen = no_octets
blank_range names.FileRead = (no_octets, small, small)

-- an entry with the call of no meaning, and one with a count of none
abbrev blanked : Bool → Entry → Entry
blanked starred e = cond starred (with_answer false (blank (name_of (call_of e))) e) e

abbrev uncounted : Bool → Entry → Entry
uncounted true (LinkWrite o a) = LinkWrite o (Done 0)
uncounted true (TcpWrite s o a) = TcpWrite s o (Done 0)
uncounted _ e = e

blanked_call : (e : Entry) → call_of (with_answer false (blank (name_of (call_of e))) e) ≡ blank (name_of (call_of e))
blanked_call (Now m) = refl
blanked_call (Wait w t a r) = refl
blanked_call (LinkOpen p a) = refl
blanked_call (LinkRead n a o) = refl
blanked_call (LinkWrite o a) = refl
blanked_call (Connect s t a) = refl
blanked_call (Connected s a) = refl
blanked_call (Listen s t a) = refl
blanked_call (Accept l s a) = refl
blanked_call (TcpRead s n a o) = refl
blanked_call (TcpWrite s o a) = refl
blanked_call (TcpEnd s a) = refl
blanked_call (Close s) = refl
blanked_call (UdpOpen s t a) = refl
blanked_call (UdpSend s t o a) = refl
blanked_call (UdpRecv s n a o) = refl
blanked_call (FileLen n a) = refl
blanked_call (FileRead n p k a o) = refl

blanked_range : (e : Entry) → AnswersInRange e → AnswersInRange (with_answer false (blank (name_of (call_of e))) e)
blanked_range (Now m) h = h
blanked_range (Wait w t a r) h = h
blanked_range (LinkOpen p a) h = h
blanked_range (LinkRead n a o) h = h
blanked_range (LinkWrite o a) h = h
blanked_range (Connect s t a) h = h
blanked_range (Connected s a) h = h
blanked_range (Listen s t a) h = h
blanked_range (Accept l s a) h = h
blanked_range (TcpRead s n a o) h = h
blanked_range (TcpWrite s o a) h = h
blanked_range (TcpEnd s a) h = h
blanked_range (Close s) h = h
blanked_range (UdpOpen s t a) h = h
blanked_range (UdpSend s t o a) h = h
blanked_range (UdpRecv s n a o) h = h
blanked_range (FileLen n a) h = h
blanked_range (FileRead n p k a o) h = h

uncounted_call : (all : Bool) (e : Entry) → call_of (uncounted all e) ≡ call_of e
uncounted_call true (LinkWrite o a) = refl
uncounted_call true (TcpWrite s o a) = refl
uncounted_call _ _ = refl

uncounted_range : (all : Bool) (e : Entry) → AnswersInRange e → AnswersInRange (uncounted all e)
uncounted_range true (LinkWrite o a) h = small
uncounted_range true (TcpWrite s o a) h = small
uncounted_range _ _ h = h

uncounted_none : (e : Entry) → uncounted false e ≡ e
uncounted_none e = refl

uncounted_answer : (e : Entry) → TakesAll e → codes "done 0" ≡ answer_text (uncounted true e)
unfolding answer_text
uncounted_answer (LinkWrite o a) h = ap (λ t. codes "done " ++ t) (sym zero_text)
uncounted_answer (TcpWrite s o a) h = ap (λ t. codes "done " ++ t) (sym zero_text)
uncounted_answer _ h = absurd h

-- no arguments are a star
no_two : (x y : List ℕ) → 42 ∷ [] ≡ x ++ 32 ∷ y → ⊥
no_two [] y is = omega (arith, ap first is)
no_two (a ∷ x) y is = omega (arith, length-append x (32 ∷ y), ap length is)

pub no_digit : (n : ℕ) → n < 2 ^ 64 → 42 ∷ [] ≡ decimal n → ⊥
no_digit n h is = let digit : list_all is_digit (42 ∷ []) ≡ true = subst (λ t. list_all is_digit t ≡ true) (sym is) (decimal_digits n h) in cc digit

pub no_pair : (octets : List ℕ) → 42 ∷ [] ≡ hexadecimal octets → ⊥
no_pair [] is = omega (arith, ap first is)
no_pair (x ∷ xs) is = omega (arith, length-encode_with lower_digits (x ∷ xs), ap length is)

no_star : (c : Call) → InRange c → HasArguments c (codes "*") → ⊥
no_star CallNow h is = is
no_star (CallWait wants timeout) h is = no_two _ _ is
no_star (CallLinkOpen at) h is = no_pair (place_text at) is
no_star (CallLinkRead asked) h is = no_digit asked h is
no_star (CallLinkWrite octets) h is = no_pair octets is
no_star (CallConnect socket to) h is = no_two _ _ is
no_star (CallConnected socket) h is = no_digit socket h is
no_star (CallListen socket at) h is = no_two _ _ is
no_star (CallAccept listener socket) h is = no_two _ _ is
no_star (CallTcpRead socket asked) h is = no_two _ _ is
no_star (CallTcpWrite socket octets) h is = no_two _ _ is
no_star (CallTcpEnd socket) h is = no_digit socket h is
no_star (CallClose socket) h is = no_digit socket h is
no_star (CallUdpOpen socket at) h is = no_two _ _ is
no_star (CallUdpSend socket to octets) h is = no_two _ _ is
no_star (CallUdpRecv socket asked) h is = no_two _ _ is
no_star (CallFileLen name) h is = no_pair name is
no_star (CallFileRead name place asked) h is = no_two _ _ is

-- no answer of a write is `all`
no_all : (a : Io) → codes "all" ≡ written_text a → ⊥
no_all (Done n) is = omega (arith, ap first is)
no_all End is = omega (arith, ap first is)
no_all NotYet is = omega (arith, ap length is)
no_all Failed is = omega (arith, ap length is)

no_all_text : (e : Entry) → IsTrue (is_write (name_of (call_of e))) → codes "all" ≡ answer_text e → ⊥
unfolding answer_text
no_all_text (LinkWrite o a) write is = no_all a is
no_all_text (TcpWrite s o a) write is = no_all a is
no_all_text _ write is = cc write

all_is_write : (e : Entry) → TakesAll e → IsTrue (is_write (name_of (call_of e)))
all_is_write (LinkWrite o a) h = refl
all_is_write (TcpWrite s o a) h = refl
all_is_write _ h = absurd h

counted_as : (all : Bool) (e : Entry) → (all ≡ true → TakesAll e) → counted_answer all (answer_text e) ≡ answer_text (uncounted all e)
counted_as true e takes = uncounted_answer e (takes refl)
counted_as false e takes = ap answer_text (sym (uncounted_none e))

-- what a reading has in the place of a line
said_as : (name : CallName) (starred all : Bool) (e : Entry) → name_of (call_of e) ≡ name → (starred ≡ true → name ≢ names.Now) → IsSayable e → (all ≡ true → TakesAll e) →
    (args : List ℕ) → (starred ≡ false → HasArguments (call_of e) args)
    → Says name (given_args starred name args) (counted_answer all (answer_text e)) (blanked starred (uncounted all e))
said_as name true all e is some h takes args has =
    let u = uncounted all e in
    let named : name_of (call_of u) ≡ name = ap name_of (uncounted_call all e) ∙ is in
    let call : call_of (blanked true u) ≡ blank name = blanked_call u ∙ ap blank named in (
      ap name_of call ∙ name_blank name,
      subst (λ c. HasArguments c (blank_args name)) (sym call) (blank_has name (some refl)),
      counted_as all e takes ∙ sym (answer_kept (blank (name_of (call_of u))) u),
      (subst InRange (sym call) (blank_range name), blanked_range u (uncounted_range all e h.1)),
    )
said_as name false all e is some h takes args has =
    let call = uncounted_call all e in (
      ap name_of call ∙ is,
      subst (λ c. HasArguments c args) (sym call) (has refl),
      counted_as all e takes,
      (subst InRange (sym call) h.0, uncounted_range all e h.1),
    )

same_star : (c : Call) (args : List ℕ) (starred other : Bool) → InRange c → (IsTrue starred ↔ (args ≡ codes "*")) → SaidArguments other c args → other ≡ starred
same_star c args true true h tells has = refl
same_star c args true false h tells has = absurd (no_star c h (subst (HasArguments c) (tells.0 refl) has))
same_star c args false true h tells has = absurd (cc (tells.1 has))
same_star c args false false h tells has = refl

same_all : (e : Entry) (answer : List ℕ) (all other : Bool) → (IsTrue all ↔ (IsTrue (is_write (name_of (call_of e))) × (answer ≡ codes "all"))) → (other ≡ true → TakesAll e) →
    answer ≡ cond other (codes "all") (answer_text e) → other ≡ all
same_all e answer true true tells takes is = refl
same_all e answer true false tells takes is = absurd (no_all_text e (tells.0 refl).0 (sym (tells.0 refl).1 ∙ is))
same_all e answer false true tells takes is = absurd (cc (tells.1 (all_is_write e (takes refl), is)))
same_all e answer false false tells takes is = refl

has_own : (c : Call) (args : List ℕ) (starred : Bool) → SaidArguments starred c args → starred ≡ false → HasArguments c args
has_own c args true has is = absurd (cc is)
has_own c args false has is = has

counted_same : (all : Bool) (own answer : List ℕ) → answer ≡ cond all (codes "all") own → counted_answer all own ≡ counted_answer all answer
counted_same true own answer is = refl
counted_same false own answer is = sym is

pub row_refused : (name : CallName) (args answer given said : List ℕ) (starred all : Bool) → (IsTrue starred ↔ (args ≡ codes "*")) → (IsTrue all ↔ (IsTrue (is_write name) × (answer ≡ codes "all")))
    → given ≡ given_args starred name args → said ≡ counted_answer all answer → ((e : Entry) → ¬ Says name given said e) → (row : Row) → ¬ SaysRow name args answer row
row_refused name args answer given said starred all tells_star tells_all given_is said_is refused row says =
    let e = row.entry in
    let h = says.3 in
    let star : row.starred ≡ starred = same_star (call_of e) args starred row.starred h.range.0 tells_star says.1 in
    let every : row.all ≡ all = same_all e answer all row.all (subst (λ n. IsTrue all ↔ (IsTrue (is_write n) × (answer ≡ codes "all"))) (sym says.0) tells_all) h.all says.2 in
    let own = said_as name row.starred row.all e says.0 (λ st now. h.star st (says.0 ∙ now)) h.range h.all args (has_own (call_of e) args row.starred says.1) in
    let answers : counted_answer row.all (answer_text e) ≡ said = counted_same row.all (answer_text e) answer says.2 ∙ ap (λ b. counted_answer b answer) every ∙ sym said_is in
    let gives : given_args row.starred name args ≡ given = ap (λ b. given_args b name args) star ∙ sym given_is in
    refused (blanked row.starred (uncounted row.all e)) (subst (λ t. Says name given t (blanked row.starred (uncounted row.all e))) answers
    (subst (λ t. Says name t (counted_answer row.all (answer_text e)) (blanked row.starred (uncounted row.all e))) gives own))

-- what was read
call_kept : (all : Bool) (e : Entry) → call_of (with_answer all (call_of e) e) ≡ call_of e
call_kept all (Now m) = refl
call_kept all (Wait w t a r) = refl
call_kept all (LinkOpen p a) = refl
call_kept all (LinkRead n a o) = refl
call_kept all (LinkWrite o a) = refl
call_kept all (Connect s t a) = refl
call_kept all (Connected s a) = refl
call_kept all (Listen s t a) = refl
call_kept all (Accept l s a) = refl
call_kept all (TcpRead s n a o) = refl
call_kept all (TcpWrite s o a) = refl
call_kept all (TcpEnd s a) = refl
call_kept all (Close s) = refl
call_kept all (UdpOpen s t a) = refl
call_kept all (UdpSend s t o a) = refl
call_kept all (UdpRecv s n a o) = refl
call_kept all (FileLen n a) = refl
call_kept all (FileRead n p k a o) = refl

counts_all : (e : Entry) → IsTrue (is_write (name_of (call_of e))) → TakesAll (with_answer true (call_of e) e)
counts_all (LinkWrite o a) write = refl
counts_all (TcpWrite s o a) write = refl
counts_all _ write = cc write

call_written : (name : CallName) (args given : List ℕ) (starred all : Bool) (e : Entry) → (IsTrue starred ↔ (args ≡ codes "*")) → given ≡ given_args starred name args → name_of
    (call_of e) ≡ name → name_text name ++ 32 ∷ given ≡ call_text (call_of e)
    → name_text name ++ 32 ∷ args ≡ said_call (record { entry = with_answer all (call_of e) e; starred = starred; all = all })
call_written name args given true all e tells given_is is encoded = ap (λ n. name_text n ++ 32 ∷ args) (sym is ∙ sym (ap name_of (call_kept all e))) ∙ ap
    (λ t. name_text (name_of (call_of (with_answer all (call_of e) e))) ++ 32 ∷ t) (tells.0 refl)
call_written name args given false all e tells given_is is encoded = ap (λ t. name_text name ++ 32 ∷ t) (sym given_is) ∙ encoded ∙ ap call_text (sym (call_kept all e))

answer_written : (name : CallName) (answer said : List ℕ) (all : Bool) (e : Entry) → (IsTrue all ↔ (IsTrue (is_write name) × (answer ≡ codes "all"))) →
    said ≡ counted_answer all answer → said ≡ answer_text e
    → answer ≡ cond all (codes "all") (answer_text (with_answer all (call_of e) e))
answer_written name answer said true e tells said_is encoded = (tells.0 refl).1
answer_written name answer said false e tells said_is encoded = sym said_is ∙ encoded ∙ sym (answer_kept (call_of e) e)

-- the arguments after the name are the call
pair_text : (a b : List ℕ) → a ++ 32 ∷ b ≡ (a ++ 32 ∷ []) ++ b
pair_text a b = sym (append_assoc a (32 ∷ []) b)

three_text : (a b c : List ℕ) → a ++ 32 ∷ (b ++ 32 ∷ c) ≡ (((a ++ 32 ∷ []) ++ b) ++ 32 ∷ []) ++ c
three_text a b c = simp append_assoc

with_arguments : (c : Call) (args : List ℕ) → HasArguments c args → name_text (name_of c) ++ 32 ∷ args ≡ call_text c
unfolding call_text
with_arguments CallNow args has = absurd has
with_arguments (CallWait wants timeout) args has = ap (λ t. codes "wait " ++ t) (has ∙ pair_text (timeout_text timeout) (wants_text wants))
with_arguments (CallLinkOpen at) args has = ap (λ t. codes "lopen " ++ t) has
with_arguments (CallLinkRead asked) args has = ap (λ t. codes "lread " ++ t) has
with_arguments (CallLinkWrite octets) args has = ap (λ t. codes "lwrite " ++ t) has
with_arguments (CallConnect socket to) args has = ap (λ t. codes "connect " ++ t) (has ∙ pair_text (decimal socket) (endpoint_text to))
with_arguments (CallConnected socket) args has = ap (λ t. codes "connected " ++ t) has
with_arguments (CallListen socket at) args has = ap (λ t. codes "listen " ++ t) (has ∙ pair_text (decimal socket) (endpoint_text at))
with_arguments (CallAccept listener socket) args has = ap (λ t. codes "accept " ++ t) (has ∙ pair_text (decimal listener) (decimal socket))
with_arguments (CallTcpRead socket asked) args has = ap (λ t. codes "tread " ++ t) (has ∙ pair_text (decimal socket) (decimal asked))
with_arguments (CallTcpWrite socket octets) args has = ap (λ t. codes "twrite " ++ t) (has ∙ pair_text (decimal socket) (hexadecimal octets))
with_arguments (CallTcpEnd socket) args has = ap (λ t. codes "tend " ++ t) has
with_arguments (CallClose socket) args has = ap (λ t. codes "close " ++ t) has
with_arguments (CallUdpOpen socket at) args has = ap (λ t. codes "uopen " ++ t) (has ∙ pair_text (decimal socket) (endpoint_text at))
with_arguments (CallUdpSend socket to octets) args has = ap (λ t. codes "usend " ++ t) (has ∙ three_text (decimal socket) (endpoint_text to) (hexadecimal octets))
with_arguments (CallUdpRecv socket asked) args has = ap (λ t. codes "urecv " ++ t) (has ∙ pair_text (decimal socket) (decimal asked))
with_arguments (CallFileLen name) args has = ap (λ t. codes "flen " ++ t) has
with_arguments (CallFileRead name place asked) args has = ap (λ t. codes "fread " ++ t) (has ∙ three_text (hexadecimal name) (decimal place) (decimal asked))

says_encoded : (name : CallName) (args answer : List ℕ) (e : Entry) → Says name args answer e → IsEncoded (name_text name ++ 32 ∷ args) answer e
says_encoded name args answer e says = (ap (λ n. name_text n ++ 32 ∷ args) (sym says.0) ∙ with_arguments (call_of e) args says.1, says.2)

pub row_written : (name : CallName) (args answer given said : List ℕ) (starred all : Bool) (e : Entry) → (IsTrue starred ↔ (args ≡ codes "*")) →
    (IsTrue all ↔ (IsTrue (is_write name) × (answer ≡ codes "all")))
    → given ≡ given_args starred name args → said ≡ counted_answer all answer → Says name given said e
    → IsWritten (name_text name ++ 32 ∷ args) answer (record { entry = with_answer all (call_of e) e; starred = starred; all = all })
row_written name args answer given said starred all e tells_star tells_all given_is said_is says =
    let encoded = says_encoded name given said e says in
    (call_written name args given starred all e tells_star given_is says.0 encoded.0, answer_written name answer said all e tells_all said_is encoded.1)

pub row_readable : (name : CallName) (args answer given said : List ℕ) (starred all : Bool) (e : Entry) → name ≢ names.Now →
    (IsTrue all ↔ (IsTrue (is_write name) × (answer ≡ codes "all"))) → Says name given said e
    → (AnswersInRange e → AnswersInRange (with_answer all (call_of e) e)) → IsReadable (record { entry = with_answer all (call_of e) e; starred = starred; all = all })
row_readable name args answer given said starred all e some tells says range = record {
  range = (subst InRange (sym (call_kept all e)) says.3.0, range says.3.1);
  star = λ starred now. some (sym says.0 ∙ sym (ap name_of (call_kept all e)) ∙ now);
  all = λ every. subst (λ b. TakesAll (with_answer b (call_of e) e)) (sym every) (counts_all e (subst (λ n. IsTrue (is_write n)) (sym says.0) (tells.0 every).0));
}
