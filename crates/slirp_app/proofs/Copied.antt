-- What fits the text of a trace, line by line, is the first part of that trace.
use Rattle.std.proofs.Common.{◌≡◌, ◌≢◌, ℕ, Bool, true, false, cond, List, [], ◌∷◌, ◌++◌, length, codes, decimal, refl, sym, ◌∙◌, ap, subst, arith}
use Rattle.std.proofs.lemmas.List.{append-nil, append_assoc, append_cancel_left, append_cancel_right, length-append}
use Rattle.replay.proofs.Bodies.{row_body, row_form, said_plain, some_line, some_row}
use Rattle.replay.proofs.Calls.{args_text, call_plain, name_word, named}
use Rattle.address_text.specs.Texts.{endpoint_text, place_text}
use Rattle.address_text.proofs.Parting.{parts_once}
use Rattle.replay.proofs.Parting.{first, is_plain, is_word}
use Rattle.replay.proofs.Sayable.{sayable}
use Rattle.replay.proofs.Starring.{no_digit, no_pair}
use Rattle.replay.proofs.Unreading.{after_line}
use Rattle.replay.specs.Fitting.{FitsNone, Refuses, answered, with_answer}
use Rattle.replay.specs.Names.{name_of, name_text}
use Rattle.replay.specs.Pieces.{lines_text}
use Rattle.replay.specs.Range.{InRange, IsSayable}
use Rattle.replay.specs.Rows.{AreReadable, FitsBefore, IsReadable, Row, TakesAll, entries_of, row_text, said_answer, said_call, schedule_text, turned_text}
use Rattle.replay.specs.Encoding.{is_write}
use Rattle.replay.specs.Text.{answer_text, call_text, hexadecimal, line_text, text, timeout_text, wants_text, written_text}
use Rattle.spec_replay.proofs.Calls.{same_call}
use Rattle.spec_replay.proofs.Lines.{one_text}
use Rattle.world_face.proofs.Following.{all_before}
use Rattle.world_face.specs.Journal.{Allowed, AreAllowed, Call, CallNow, CallWait, CallLinkOpen, CallLinkRead, CallLinkWrite, CallConnect, CallConnected, CallListen, CallAccept}
use Rattle.world_face.specs.Journal.{CallTcpRead, CallTcpWrite, CallTcpEnd, CallClose, CallUdpOpen, CallUdpSend, CallUdpRecv, CallFileLen, CallFileRead, Entry, Now, Wait, LinkOpen}
use Rattle.world_face.specs.Journal.{LinkRead, LinkWrite, Connect, Connected, Listen, Accept, TcpRead, TcpWrite, TcpEnd, Close, UdpOpen, UdpSend, UdpRecv, FileLen, FileRead, call_of}
use Rattle.world_face.specs.declared.Io.{Io}
use Rattle.world_face.specs.declared.Io.TheVariants.{Done, End, NotYet, Failed}

-- ---- no call's arguments are a star, and no answer of a write is `all`

one_word : (x : List ℕ) → 42 ∷ 32 ∷ [] ≡ x ++ 32 ∷ [] → 42 ∷ [] ≡ x
one_word x is = append_cancel_right (42 ∷ []) x (32 ∷ []) is

two_words : (x y r : List ℕ) → 42 ∷ 32 ∷ [] ≡ x ++ 32 ∷ (y ++ 32 ∷ r) → ⊥
two_words [] y r is = omega (arith, ap first is)
two_words (a ∷ x) y r is = omega (arith, length-append x (32 ∷ (y ++ 32 ∷ r)), length-append y (32 ∷ r), ap length is)

no_star : (c : Call) → InRange c → 42 ∷ 32 ∷ [] ≡ args_text c → ⊥
no_star CallNow range is = omega (arith, ap length is)
no_star (CallWait wants timeout) range is = two_words (timeout_text timeout) (wants_text wants) [] is
no_star (CallLinkOpen at) range is = no_pair (place_text at) (one_word (hexadecimal (place_text at)) is)
no_star (CallLinkRead asked) range is = no_digit asked range (one_word (decimal asked) is)
no_star (CallLinkWrite octets) range is = no_pair octets (one_word (hexadecimal octets) is)
no_star (CallConnect socket to) range is = two_words (decimal socket) (endpoint_text to) [] is
no_star (CallConnected socket) range is = no_digit socket range (one_word (decimal socket) is)
no_star (CallListen socket at) range is = two_words (decimal socket) (endpoint_text at) [] is
no_star (CallAccept listener socket) range is = two_words (decimal listener) (decimal socket) [] is
no_star (CallTcpRead socket asked) range is = two_words (decimal socket) (decimal asked) [] is
no_star (CallTcpWrite socket octets) range is = two_words (decimal socket) (hexadecimal octets) [] is
no_star (CallTcpEnd socket) range is = no_digit socket range (one_word (decimal socket) is)
no_star (CallClose socket) range is = no_digit socket range (one_word (decimal socket) is)
no_star (CallUdpOpen socket at) range is = two_words (decimal socket) (endpoint_text at) [] is
no_star (CallUdpSend socket to octets) range is = two_words (decimal socket) (endpoint_text to) (hexadecimal octets ++ 32 ∷ []) is
no_star (CallUdpRecv socket asked) range is = two_words (decimal socket) (decimal asked) [] is
no_star (CallFileLen name) range is = no_pair name (one_word (hexadecimal name) is)
no_star (CallFileRead name place asked) range is = two_words (hexadecimal name) (decimal place) (decimal asked ++ 32 ∷ []) is

no_all : (a : Io) → codes "all" ≡ written_text a → ⊥
no_all (Done n) is = omega (arith, ap first is)
no_all End is = omega (arith, ap first is)
no_all NotYet is = omega (arith, ap length is)
no_all Failed is = omega (arith, ap length is)

no_all_text : (e : Entry) → is_write (name_of (call_of e)) ≡ true → codes "all" ≡ answer_text e → ⊥
unfolding answer_text
no_all_text (LinkWrite octets answer) write is = no_all answer is
no_all_text (TcpWrite socket octets answer) write is = no_all answer is
no_all_text _ write is = cc write

all_is_write : (e : Entry) → TakesAll e → is_write (name_of (call_of e)) ≡ true
all_is_write (LinkWrite octets answer) takes = refl
all_is_write (TcpWrite socket octets answer) takes = refl
all_is_write _ takes = absurd takes

-- ---- a line with the text of an entry says that entry

abbrev plain : Entry → Row
plain e = record { entry = e; starred = false; all = false }

plain_readable : (e : Entry) → IsSayable e → IsReadable (plain e)
plain_readable e said = record { range = said; star = λ is. absurd (cc is); all = λ is. absurd (cc is) }

unstarred : (row : Row) (c : Call) → InRange c → said_call row ++ 32 ∷ [] ≡ call_text c ++ 32 ∷ [] → row.starred ≡ false
unstarred row c range is = by row.starred refl
  where
    by : (b : Bool) → row.starred ≡ b → b ≡ false
    by false starred = refl
    by true starred =
        let name = name_text (name_of (call_of row.entry)) in
        let encoded : name_text (name_of (call_of row.entry)) ++ 32 ∷ 42 ∷ 32 ∷ [] ≡ name_text (name_of c) ++ 32 ∷ args_text c =
        sym (append_assoc name (32 ∷ 42 ∷ []) (32 ∷ [])) ∙ ap (λ b. cond b (name ++ codes " *") (call_text (call_of row.entry)) ++ 32 ∷ []) (sym starred) ∙ is ∙ named c in
        absurd (no_star c range (parts_once 32 is_word refl name (name_text (name_of c)) (42 ∷ 32 ∷ []) (args_text c) (name_word (name_of (call_of row.entry))) (name_word (name_of c)) encoded).1)

uncounted : (row : Row) (e : Entry) → (row.all ≡ true → TakesAll row.entry) → call_of row.entry ≡ call_of e → said_answer row ≡ answer_text e → row.all ≡ false
uncounted row e takes calls is = by row.all refl
  where
    by : (b : Bool) → row.all ≡ b → b ≡ false
    by false all = refl
    by true all =
        let write : is_write (name_of (call_of e)) ≡ true = ap (λ c. is_write (name_of c)) (sym calls) ∙ all_is_write row.entry (takes all) in
        absurd (no_all_text e write (ap (λ b. cond b (codes "all") (answer_text row.entry)) (sym all) ∙ is))

same_entry : (e f : Entry) → IsSayable e → IsSayable f → line_text e ≡ line_text f → e ≡ f
same_entry e f said said_f is =
    let both : e ∷ [] ≡ f ∷ [] = one_text (e ∷ []) (f ∷ []) (said, tt) (said_f, tt) is in
    cc

-- with no star, no `all`, and this entry
record SaysJust (row : Row) (e : Entry) : Type 0 where
  unstarred : row.starred ≡ false
  uncounted : row.all ≡ false
  entry : row.entry ≡ e

says_just : (row : Row) (e : Entry) → IsReadable row → IsSayable e → row_text row ≡ row_text (plain e) → SaysJust row e
says_just row e readable said is =
    let body : row_body row ≡ row_body (plain e) = append_cancel_right (row_body row) (row_body (plain e)) (10 ∷ []) (sym (row_form row) ∙ is ∙ row_form (plain e)) in
    let halves = parts_once 61 is_plain refl (said_call row ++ 32 ∷ []) (call_text (call_of e) ++ 32 ∷ []) (32 ∷ said_answer row) (32 ∷ answer_text e) (said_plain row readable)
    (call_plain (call_of e) said.0) body in
    let answer : said_answer row ≡ answer_text e = append_cancel_left (32 ∷ []) (said_answer row) (answer_text e) halves.1 in
    let no_stars : row.starred ≡ false = unstarred row (call_of e) said.0 halves.0 in
    let own_call : call_text (call_of row.entry) ≡ said_call row = ap (λ b. cond b (name_text (name_of (call_of row.entry)) ++ codes " *") (call_text (call_of row.entry))) (sym no_stars) in
    let calls : call_of row.entry ≡ call_of e = same_call (call_of row.entry) (call_of e) readable.range.0 said.0 (ap (λ t. t ++ 32 ∷ []) own_call ∙ halves.0) in
    let no_alls : row.all ≡ false = uncounted row e readable.all calls answer in
    let own_answer : answer_text row.entry ≡ said_answer row = ap (λ b. cond b (codes "all") (answer_text row.entry)) (sym no_alls) in
    record {
      unstarred = no_stars;
      uncounted = no_alls;
      entry = same_entry row.entry e readable.range said (ap (λ t. t ++ codes " = " ++ answer_text row.entry ++ 10 ∷ []) own_call ∙ ap
          (λ t. said_call row ++ codes " = " ++ t ++ 10 ∷ []) own_answer ∙ is);
    }

-- the first of some lines
record FirstLine (row : Row) (rest : List ℕ) (e : Entry) (left : List ℕ) : Type 0 where
  says : SaysJust row e
  after : rest ≡ left

first_line : (row : Row) (rest : List ℕ) (e : Entry) (left : List ℕ) → IsReadable row → IsSayable e → row_text row ++ rest ≡ line_text e ++ left → FirstLine row rest e left
first_line row rest e left readable said is =
    let after : rest ≡ left = after_line row (plain e) rest left readable (plain_readable e said) is in
    let line : row_text row ≡ row_text (plain e) = append_cancel_right (row_text row) (row_text (plain e)) rest (is ∙ ap (λ l. row_text (plain e) ++ l) (sym after)) in
    record { says = says_just row e readable said line; after = after }

-- ---- a call that fits no such line isn't the entry's

own_answer : (e : Entry) → with_answer false (call_of e) e ≡ e
own_answer (Now moment) = refl
own_answer (Wait wants timeout answer ready) = refl
own_answer (LinkOpen at answer) = refl
own_answer (LinkRead asked answer octets) = refl
own_answer (LinkWrite octets answer) = refl
own_answer (Connect socket to answer) = refl
own_answer (Connected socket answer) = refl
own_answer (Listen socket at answer) = refl
own_answer (Accept listener socket answer) = refl
own_answer (TcpRead socket asked answer octets) = refl
own_answer (TcpWrite socket octets answer) = refl
own_answer (TcpEnd socket answer) = refl
own_answer (Close socket) = refl
own_answer (UdpOpen socket at answer) = refl
own_answer (UdpSend socket to octets answer) = refl
own_answer (UdpRecv socket asked answer octets) = refl
own_answer (FileLen name answer) = refl
own_answer (FileRead name place asked answer octets) = refl

refuses_another : (row : Row) (e : Entry) (call : Call) → SaysJust row e → Allowed e → Refuses row call → call ≢ call_of e
refuses_another row e call says allowed refuses is =
    let own : answered row call ≡ e = ap (λ c. with_answer row.all c row.entry) is ∙ ap (λ b. with_answer b (call_of e) row.entry) says.uncounted ∙ ap
    (with_answer false (call_of e)) says.entry ∙ own_answer e in
    refuses (record { name = ap (λ d. name_of (call_of d)) says.entry ∙ ap name_of (sym is); same = λ unstarred_too. ap call_of says.entry ∙ sym is }) (subst Allowed (sym own) allowed)

pub another : (rows : List Row) (e : Entry) (left : List ℕ) (call : Call) → AreReadable rows → Allowed e → schedule_text rows ≡ line_text e ++ left → FitsNone rows 0 call → call ≢ call_of e
another [] e left call readable allowed is none same = some_line e left is
another (row ∷ rows) e left call readable allowed is none same = refuses_another row e call (first_line row (schedule_text rows) e left readable.0
    (sayable e allowed) is).says allowed (none row refl) same

-- ---- a trace in the order of its calls

-- entries in the order of their calls, onto what came before them
abbrev pub onto : List Entry → List Entry → List Entry
onto [] past = past
onto (e ∷ es) past = onto es (e ∷ past)

abbrev in_order : List Entry → List Entry → List Entry
in_order [] back = back
in_order (e ∷ past) back = in_order past (e ∷ back)

ordered : (past back : List Entry) → onto (in_order past back) [] ≡ onto back past
ordered [] back = refl
ordered (e ∷ past) back = ordered past (e ∷ back)

order_text : (past back : List Entry) → lines_text (in_order past back) ≡ text past ++ lines_text back
order_text [] back = refl
order_text (e ∷ past) back = order_text past (e ∷ back) ∙ sym (append_assoc (text past) (line_text e) (lines_text back))

pub later_than : (back past : List Entry) → onto back past ≡ onto back [] ++ past
later_than [] past = refl
later_than (e ∷ back) past = later_than back (e ∷ past) ∙ sym (append_assoc (onto back []) (e ∷ []) past) ∙ ap (λ l. l ++ past) (sym (later_than back (e ∷ [])))

pub allowed_before : (back past : List Entry) → AreAllowed (onto back past) → AreAllowed past
allowed_before back past allowed = all_before (onto back []) past (subst AreAllowed (later_than back past) allowed)

-- ---- what fits its text is its first part

record FirstPart (whole : List Entry) (rows : List Row) (rest : List ℕ) : Type 0 where
  back : List Entry
  is : whole ≡ onto back (entries_of rows)
  left : rest ≡ lines_text back

next_part : (whole : List Entry) (row : Row) (rows : List Row) (rest : List ℕ) → AreAllowed whole → IsReadable row → FirstPart whole rows (row_text row ++ rest) → FirstPart whole (row ∷ rows) rest
next_part whole row rows rest all readable before = by before.back before.is before.left
  where
    by : (back : List Entry) → whole ≡ onto back (entries_of rows) → row_text row ++ rest ≡ lines_text back → FirstPart whole (row ∷ rows) rest
    by [] is left = absurd (some_row row rest (sym left))
    by (e ∷ back) is left =
        let line = first_line row rest e (lines_text back) readable (sayable e (allowed_before back (e ∷ entries_of rows) (subst AreAllowed is all)).0) left in
        record { back = back; is = is ∙ ap (λ d. onto back (d ∷ entries_of rows)) (sym line.says.entry); left = line.after }

first_part : (whole : List Entry) (rows : List Row) (rest : List ℕ) → AreAllowed whole → AreReadable rows → turned_text rows ++ rest ≡ text whole → FirstPart whole rows rest
first_part whole [] rest all readable is = record { back = in_order whole []; is = sym (ordered whole []); left = is ∙ sym (order_text whole [] ∙ append-nil (text whole)) }
first_part whole (row ∷ rows) rest all readable is = next_part whole row rows rest all readable.0 (first_part whole rows (row_text row ++ rest) all readable.1
    (sym (append_assoc (turned_text rows) (row_text row) rest) ∙ is))

-- the trace goes on by these from where the journal ends, and their lines are left
pub record GoesOn (journal whole : List Entry) (rest : List ℕ) : Type 0 where
  pub back : List Entry
  pub is : whole ≡ onto back journal
  pub left : rest ≡ lines_text back

pub goes_on : (journal whole : List Entry) (rest : List ℕ) → AreAllowed whole → FitsBefore journal (text whole) rest → GoesOn journal whole rest
goes_on journal whole rest all before =
    let at = first_part whole before.rows rest all before.readable (sym before.is) in
    record { back = at.back; is = at.is ∙ ap (onto at.back) before.entries; left = at.left }
