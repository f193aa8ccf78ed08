-- A line is a call and an answer, and no line feed stands in them.
use Rattle.std.proofs.Common.{◌≡◌, ℕ, true, false, cond, sym, subst, List, [], ◌∷◌, ◌++◌, length, decimal, codes, refl, ◌∙◌, ap, arith, append_assoc, length-append}
use Rattle.std.specs.List.{list_all}
use Rattle.poll_list.specs.declared.Want.{Want}
use Rattle.world_face.specs.declared.Io.{Io}
use Rattle.world_face.specs.declared.Io.TheVariants.{Done, End, NotYet, Failed}
use Rattle.world_face.specs.declared.Made.{Made}
use Rattle.world_face.specs.declared.Made.TheVariants.{Done as MadeDone, Failed as MadeFailed}
use Rattle.world_face.specs.declared.Joined.{Joined}
use Rattle.world_face.specs.declared.Joined.TheVariants.{Yes, NotYet as NotYetJoined, Failed as JoinFailed}
use Rattle.world_face.specs.declared.Accepted.{Accepted}
use Rattle.world_face.specs.declared.Accepted.TheVariants.{From as FromPeer, NotYet as NoPeer, Failed as AcceptFailed}
use Rattle.world_face.specs.declared.Sent.{Sent}
use Rattle.world_face.specs.declared.Sent.TheVariants.{Done as SentDone, NotYet as NotYetSent, Failed as SendFailed}
use Rattle.world_face.specs.declared.Got.{Got}
use Rattle.world_face.specs.declared.Got.TheVariants.{From, NotYet as NothingGot, Failed as GetFailed}
use Rattle.world_face.specs.declared.FileSize.{FileSize}
use Rattle.world_face.specs.declared.FileSize.TheVariants.{Length, Missing, Failed as SizeFailed}
use Rattle.world_face.specs.declared.Waited.{Waited}
use Rattle.world_face.specs.declared.Waited.TheVariants.{Ready, Stop, Failed as WaitFailed}
use Rattle.world_face.specs.Journal.{MayAccept, MayMeasure, Leaves, LeavesGot, Entry, call_of, Now, Wait, LinkOpen, LinkRead, LinkWrite, Connect, Connected, Listen, Accept, TcpRead}
use Rattle.world_face.specs.Journal.{TcpWrite, TcpEnd, Close, UdpOpen, UdpSend, UdpRecv, FileLen, FileRead}
use Rattle.address_text.specs.Texts.{endpoint_text}
use Rattle.address_text.proofs.Parting.{fit_append, fit_weaker}
use Rattle.replay.specs.Text.{hexadecimal, joined_text, made_text, waited_text, read_text, written_text, joined_answer, accepted_text, sent_text, got_text, size_text, call_text}
use Rattle.replay.specs.Text.{answer_text, line_text}
use Rattle.replay.proofs.Parting.{is_word, is_plain, is_line, word_is_line, plain_is_line, decimal_word, hexadecimal_word}
use Rattle.replay.proofs.Words.{endpoint_word, joined_word}
use Rattle.replay.proofs.Calls.{call_plain, name_word, spaced}
use Rattle.replay.specs.Names.{name_of, name_text}
use Rattle.replay.specs.Rows.{Row, IsReadable, row_text, said_answer, said_call}
use Rattle.replay.specs.declared.CallName.{CallName}
use Rattle.replay.specs.Range.{LeavesReady, Counts, ComesFrom, AnswersInRange, IsSayable}

-- no line feed stands in an answer
pub in_line : (xs : List ℕ) → list_all is_word xs ≡ true → list_all is_line xs ≡ true
in_line xs h = fit_weaker is_word is_line word_is_line xs h

pub read_line : (a : Io) (o : List ℕ) → Leaves a o → list_all is_line (read_text a o) ≡ true
read_line (Done n) o h = in_line (hexadecimal o) (hexadecimal_word o h.1)
read_line End o h = refl
read_line NotYet o h = refl
read_line Failed o h = refl

pub written_line : (a : Io) → Counts a → list_all is_line (written_text a) ≡ true
written_line (Done n) h = in_line (decimal n) (decimal_word n h)
written_line End h = refl
written_line NotYet h = refl
written_line Failed h = refl

pub made_line : (a : Made) → list_all is_line (made_text a) ≡ true
made_line MadeDone = refl
made_line MadeFailed = refl

pub joining_line : (a : Joined) → list_all is_line (joined_answer a) ≡ true
joining_line Yes = refl
joining_line NotYetJoined = refl
joining_line JoinFailed = refl

pub sent_line : (a : Sent) → list_all is_line (sent_text a) ≡ true
sent_line SentDone = refl
sent_line NotYetSent = refl
sent_line SendFailed = refl

pub accepted_line : (a : Accepted) → MayAccept a → list_all is_line (accepted_text a) ≡ true
accepted_line (FromPeer p) h = in_line (endpoint_text p) (endpoint_word p h)
accepted_line NoPeer h = refl
accepted_line AcceptFailed h = refl

pub size_line : (a : FileSize) → MayMeasure a → list_all is_line (size_text a) ≡ true
size_line (Length n) h = in_line (decimal n) (decimal_word n h)
size_line Missing h = refl
size_line SizeFailed h = refl

pub got_line : (a : Got) (o : List ℕ) → ComesFrom a → LeavesGot a o → list_all is_line (got_text a o) ≡ true
got_line (From p n) o ga h =
    fit_append is_line (codes "from " ++ endpoint_text p ++ 32 ∷ []) (hexadecimal o)
    (fit_append is_line (codes "from " ++ endpoint_text p) (32 ∷ []) (in_line (endpoint_text p) (endpoint_word p ga)) refl)
    (in_line (hexadecimal o) (hexadecimal_word o h.1))
got_line NothingGot o ga h = refl
got_line GetFailed o ga h = refl

pub waited_line : (a : Waited) (r : List Want) → LeavesReady a r → list_all is_line (waited_text a r) ≡ true
waited_line Ready [] h = refl
waited_line Ready (w ∷ ws) h = in_line (joined_text (w ∷ ws)) (joined_word w ws h)
waited_line Stop r h = refl
waited_line WaitFailed r h = refl

pub answer_line : (e : Entry) → AnswersInRange e → list_all is_line (answer_text e) ≡ true
unfolding answer_text
answer_line (Now moment) h = in_line (decimal moment) (decimal_word moment h)
answer_line (Wait wants timeout answer ready) h = waited_line answer ready h
answer_line (LinkOpen at answer) h = made_line answer
answer_line (LinkRead asked answer octets) h = read_line answer octets h
answer_line (LinkWrite octets answer) h = written_line answer h
answer_line (Connect socket to answer) h = made_line answer
answer_line (Connected socket answer) h = joining_line answer
answer_line (Listen socket at answer) h = made_line answer
answer_line (Accept listener socket answer) h = accepted_line answer h
answer_line (TcpRead socket asked answer octets) h = read_line answer octets h
answer_line (TcpWrite socket octets answer) h = written_line answer h
answer_line (TcpEnd socket answer) h = made_line answer
answer_line (Close socket) h = refl
answer_line (UdpOpen socket at answer) h = made_line answer
answer_line (UdpSend socket to octets answer) h = sent_line answer
answer_line (UdpRecv socket asked answer octets) h = got_line answer octets h.0 h.1
answer_line (FileLen name answer) h = size_line answer h
answer_line (FileRead name place asked answer octets) h = read_line answer octets h.1

pub regroup : (c a : List ℕ) → ((c ++ (32 ∷ 61 ∷ 32 ∷ [])) ++ a) ++ 10 ∷ [] ≡ ((c ++ 32 ∷ []) ++ 61 ∷ 32 ∷ a) ++ 10 ∷ []
regroup c a = simp append_assoc

-- a line: a call and a space, a sign, a space and an answer, and a line feed
pub line_form : (e : Entry) → line_text e ≡ ((call_text (call_of e) ++ 32 ∷ []) ++ 61 ∷ 32 ∷ answer_text e) ++ 10 ∷ []
line_form e = regroup (call_text (call_of e)) (answer_text e)

pub body_line : (e : Entry) → IsSayable e → list_all is_line ((call_text (call_of e) ++ 32 ∷ []) ++ 61 ∷ 32 ∷ answer_text e) ≡ true
body_line e h = fit_append is_line (call_text (call_of e) ++ 32 ∷ []) (61 ∷ 32 ∷ answer_text e) (fit_weaker is_plain is_line plain_is_line (call_text (call_of e) ++ 32 ∷ [])
    (call_plain (call_of e) h.0)) (answer_line e h.1)

pub then_more : (e : Entry) (r : List ℕ) → line_text e ++ r ≡ ((call_text (call_of e) ++ 32 ∷ []) ++ 61 ∷ 32 ∷ answer_text e) ++ 10 ∷ r
then_more e r = ap (λ t. t ++ r) (line_form e) ∙ append_assoc ((call_text (call_of e) ++ 32 ∷ []) ++ 61 ∷ 32 ∷ answer_text e) (10 ∷ []) r

pub some_line : (e : Entry) (r : List ℕ) → [] ≡ line_text e ++ r → ⊥
some_line e r is = omega (arith, length-append ((call_text (call_of e) ++ 32 ∷ []) ++ 61 ∷ 32 ∷ answer_text e) (10 ∷ r), ap length (is ∙ then_more e r))

-- A schedule's line without its line feed.
abbrev pub row_body : Row → List ℕ
row_body row = (said_call row ++ 32 ∷ []) ++ 61 ∷ 32 ∷ said_answer row

pub row_form : (row : Row) → row_text row ≡ row_body row ++ 10 ∷ []
row_form row = regroup (said_call row) (said_answer row)

starred_plain : (n : CallName) → list_all is_plain ((name_text n ++ 32 ∷ 42 ∷ []) ++ 32 ∷ []) ≡ true
starred_plain n = subst (λ t. list_all is_plain t ≡ true) (sym (append_assoc (name_text n) (32 ∷ 42 ∷ []) (32 ∷ []))) (spaced (name_text n) (42 ∷ 32 ∷ []) (name_word n) refl)

pub said_plain : (row : Row) → IsReadable row → list_all is_plain (said_call row ++ 32 ∷ []) ≡ true
said_plain row h = elim row.starred as (λ b. list_all is_plain (cond b (name_text (name_of (call_of row.entry)) ++ 32 ∷ 42 ∷ []) (call_text (call_of row.entry)) ++ 32 ∷ []) ≡ true) [
  | true ↦ starred_plain (name_of (call_of row.entry))
  | false ↦ call_plain (call_of row.entry) h.range.0
]

said_line : (row : Row) → IsReadable row → list_all is_line (said_answer row) ≡ true
said_line row h = elim row.all as (λ b. list_all is_line (cond b (97 ∷ 108 ∷ 108 ∷ []) (answer_text row.entry)) ≡ true) [
  | true ↦ refl
  | false ↦ answer_line row.entry h.range.1
]

pub row_line : (row : Row) → IsReadable row → list_all is_line (row_body row) ≡ true
row_line row h = fit_append is_line (said_call row ++ 32 ∷ []) (61 ∷ 32 ∷ said_answer row) (fit_weaker is_plain is_line plain_is_line (said_call row ++ 32 ∷ []) (said_plain row h)) (said_line row h)

pub row_then : (row : Row) (r : List ℕ) → row_text row ++ r ≡ row_body row ++ 10 ∷ r
row_then row r = ap (λ t. t ++ r) (row_form row) ∙ append_assoc (row_body row) (10 ∷ []) r

pub some_row : (row : Row) (r : List ℕ) → [] ≡ row_text row ++ r → ⊥
some_row row r is = omega (arith, length-append (row_body row) (10 ∷ r), ap length (is ∙ row_then row r))
