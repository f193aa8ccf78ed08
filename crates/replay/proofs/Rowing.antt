-- Lists of lines, one of which is completed.
use Rattle.std.proofs.Common.{◌≡◌, ℕ, zero, suc, ◌+◌, ◌<◌, ◌≤◌, true, false, cond, List, [], ◌∷◌, ◌++◌, length, take, get_or, slice_get, slice_set, Some, None, refl, sym, ◌∙◌, ap, subst}
use Rattle.std.proofs.Common.{arith, add-one}
use Rattle.std.specs.Option.{option_map}
use Rattle.std.proofs.lemmas.Option.{slice_get-map, slice_get_read, slice_get_past, slice_get_within, same_Some}
use Rattle.world_face.specs.Journal.{Entry, Now, Wait, LinkOpen, LinkRead, LinkWrite, Connect, Connected, Listen, Accept, TcpRead, TcpWrite, TcpEnd, Close, UdpOpen, UdpSend, UdpRecv}
use Rattle.world_face.specs.Journal.{FileLen, FileRead, Call, CallNow, CallWait, CallLinkOpen, CallLinkRead, CallLinkWrite, CallConnect, CallConnected, CallListen, CallAccept, CallTcpRead}
use Rattle.world_face.specs.Journal.{CallTcpWrite, CallTcpEnd, CallClose, CallUdpOpen, CallUdpSend, CallUdpRecv, CallFileLen, CallFileRead, call_of}
use Rattle.replay.specs.Fitting.{FitsRow, FitsNext, FitsNone, IsOf, Refuses, Serves, answered, with_answer}
use Rattle.replay.specs.Lines.{row_of, rows_of}
use Rattle.replay.specs.Names.{name_of, name_text}
use Rattle.replay.specs.Room.{IsRoomy, AreRoomy}
use Rattle.replay.specs.Rows.{Row, IsReadable, AreReadable, TakesAll, entries_of, row_text, said_call, said_answer, schedule_text}
use Rattle.replay.specs.Script.{Script, newest_onto}
use Rattle.replay.specs.Text.{answer_text, call_text}
use Rattle.replay.specs.declared.row.Row.{Row as ARow}
use Rattle.replay.proofs.Sayable.{sayable}

-- the row at a place
pub row_at : (rows : List ARow) (n : ℕ) (row : ARow) → n < length rows → row ≡ get_or rows n row → slice_get (rows_of rows) n ≡ Some (row_of row)
row_at rows n row lt is = slice_get-map row_of rows n ∙ ap (option_map row_of) (slice_get_read rows (length rows) n row refl lt is)

pub no_row : (rows : List ARow) (n : ℕ) → length rows ≤ n → slice_get (rows_of rows) n ≡ None
no_row rows n past = slice_get-map row_of rows n ∙ ap (option_map row_of) (slice_get_past rows n past)

pub set_rows : (rows : List ARow) (n : ℕ) (row : ARow) → rows_of (slice_set rows n row) ≡ slice_set (rows_of rows) n (row_of row)
set_rows [] n row = refl
set_rows (r ∷ rows) zero row = refl
set_rows (r ∷ rows) (suc n) row = ap (λ rs. row_of r ∷ rs) (set_rows rows n row)

pub set_at : (rows : List Row) (n : ℕ) (row : Row) → n < length rows → slice_get (slice_set rows n row) n ≡ Some row
set_at [] n row lt = absurd (omega (arith, lt))
set_at (r ∷ rows) zero row lt = refl
set_at (r ∷ rows) (suc n) row lt = set_at rows n row (omega (arith, lt))

pub set_length : {A : Type 0} (rows : List A) (n : ℕ) (row : A) → length (slice_set rows n row) ≡ length rows
set_length [] n row = refl
set_length (r ∷ rows) zero row = refl
set_length (r ∷ rows) (suc n) row = ap suc (set_length rows n row)

-- the entries before it
pub set_kept : (rows : List Row) (n : ℕ) (row : Row) (older : List Entry) → newest_onto n (entries_of (slice_set rows n row)) older ≡ newest_onto n (entries_of rows) older
set_kept [] n row older = refl
set_kept (r ∷ rows) zero row older = refl
set_kept (r ∷ rows) (suc n) row older = set_kept rows n row (r.entry ∷ older)

pub set_text : (rows : List Row) (n : ℕ) (old row : Row) → slice_get rows n ≡ Some old → row_text row ≡ row_text old → schedule_text (slice_set rows n row) ≡ schedule_text rows
set_text [] n old row at is = refl
set_text (r ∷ rows) zero old row at is = ap (λ t. t ++ schedule_text rows) (is ∙ ap row_text (sym (same_Some r old at)))
set_text (r ∷ rows) (suc n) old row at is = ap (λ t. row_text r ++ t) (set_text rows n old row at is)

pub readable_at : (rows : List Row) (n : ℕ) (row : Row) → AreReadable rows → slice_get rows n ≡ Some row → IsReadable row
readable_at [] n row h at = cc at
readable_at (r ∷ rows) zero row h at = subst IsReadable (same_Some r row at) h.0
readable_at (r ∷ rows) (suc n) row h at = readable_at rows n row h.1 at

pub set_readable : (rows : List Row) (n : ℕ) (row : Row) → AreReadable rows → IsReadable row → AreReadable (slice_set rows n row)
set_readable [] n row h r = tt
set_readable (x ∷ rows) zero row h r = (r, h.1)
set_readable (x ∷ rows) (suc n) row h r = (h.0, set_readable rows n row h.1 r)

pub set_roomy : (rows : List ARow) (n : ℕ) (row : ARow) → AreRoomy rows → IsRoomy row → AreRoomy (slice_set rows n row)
set_roomy [] n row h r = tt
set_roomy (x ∷ rows) zero row h r = (r, h.1)
set_roomy (x ∷ rows) (suc n) row h r = (h.0, set_roomy rows n row h.1 r)

pub roomy_at : (rows : List ARow) (n : ℕ) (row : ARow) → n < length rows → AreRoomy rows → row ≡ get_or rows n row → IsRoomy row
roomy_at [] n row lt h is = absurd (omega (arith, lt))
roomy_at (x ∷ rows) zero row lt h is = subst IsRoomy (sym is) h.0
roomy_at (x ∷ rows) (suc n) row lt h is = roomy_at rows n row (omega (arith, lt)) h.1 is

-- one more of the first rows has its room
set_next : (rows : List ARow) (n : ℕ) (row : ARow) → n < length rows → AreRoomy (take n rows) → IsRoomy row → AreRoomy (take (suc n) (slice_set rows n row))
set_next [] n row lt h r = absurd (omega (arith, lt))
set_next (x ∷ rows) zero row lt h r = (r, tt)
set_next (x ∷ rows) (suc n) row lt h r = (h.0, set_next rows n row (omega (arith, lt)) h.1 r)

pub set_more : (rows : List ARow) (n : ℕ) (row : ARow) → n < length rows → AreRoomy (take n rows) → IsRoomy row → AreRoomy (take (n + 1) (slice_set rows n row))
set_more rows n row lt h r = rw add-one (set_next rows n row lt h r)

-- and stands for the same
pub set_same : (rows : List ARow) (n : ℕ) (other row : ARow) → row_of row ≡ row_of (get_or rows n other) → rows_of (slice_set rows n row) ≡ rows_of rows
set_same [] n other row is = refl
set_same (x ∷ rows) zero other row is = ap (λ r. r ∷ rows_of rows) is
set_same (x ∷ rows) (suc n) other row is = ap (λ rs. row_of x ∷ rs) (set_same rows n other row is)

-- A completed line has the text that it had.
pub answer_kept : (call : Call) (e : Entry) → answer_text (with_answer false call e) ≡ answer_text e
unfolding answer_text
answer_kept CallNow (Now m) = refl
answer_kept (CallWait wants timeout) (Wait w t a r) = refl
answer_kept (CallLinkOpen at) (LinkOpen p a) = refl
answer_kept (CallLinkRead asked) (LinkRead n a o) = refl
answer_kept (CallLinkWrite octets) (LinkWrite o a) = refl
answer_kept (CallConnect socket to) (Connect s t a) = refl
answer_kept (CallConnected socket) (Connected s a) = refl
answer_kept (CallListen socket at) (Listen s t a) = refl
answer_kept (CallAccept listener socket) (Accept l s a) = refl
answer_kept (CallTcpRead socket asked) (TcpRead s n a o) = refl
answer_kept (CallTcpWrite socket octets) (TcpWrite s o a) = refl
answer_kept (CallTcpEnd socket) (TcpEnd s a) = refl
answer_kept (CallClose socket) (Close s) = refl
answer_kept (CallUdpOpen socket at) (UdpOpen s t a) = refl
answer_kept (CallUdpSend socket to octets) (UdpSend s t o a) = refl
answer_kept (CallUdpRecv socket asked) (UdpRecv s n a o) = refl
answer_kept (CallFileLen name) (FileLen n a) = refl
answer_kept (CallFileRead name place asked) (FileRead n p k a o) = refl
answer_kept _ _ = refl

all_kept : (e : Entry) (call : Call) → TakesAll e → TakesAll (with_answer true call e)
all_kept (LinkWrite o a) (CallLinkWrite octets) h = refl
all_kept (LinkWrite o a) _ h = h
all_kept (TcpWrite s o a) (CallTcpWrite socket octets) h = refl
all_kept (TcpWrite s o a) _ h = h
all_kept _ call h = absurd h

said_call_kept : (row : Row) (e : Entry) → FitsRow row e → said_call (record row { entry = e }) ≡ said_call row
said_call_kept row e fits = elim row.starred as (λ b. row.starred ≡ b → cond b (name_text (name_of (call_of e)) ++ 32 ∷ 42 ∷ []) (call_text (call_of e)) ≡ cond b
    (name_text (name_of (call_of row.entry)) ++ 32 ∷ 42 ∷ []) (call_text (call_of row.entry))) [
      | true ↦ λ is. ap (λ n. name_text n ++ 32 ∷ 42 ∷ []) (sym fits.of.name)
      | false ↦ λ is. ap call_text (sym (fits.of.same is))
    ] refl

said_answer_kept : (row : Row) (e : Entry) → FitsRow row e → said_answer (record row { entry = e }) ≡ said_answer row
said_answer_kept row e fits = elim row.all as (λ b. row.all ≡ b → cond b (97 ∷ 108 ∷ 108 ∷ []) (answer_text e) ≡ cond b (97 ∷ 108 ∷ 108 ∷ []) (answer_text row.entry)) [
  | true ↦ λ is. refl
  | false ↦ λ is. ap answer_text (sym fits.is ∙ ap (λ b. with_answer b (call_of e) row.entry) is) ∙ answer_kept (call_of e) row.entry
] refl

pub text_kept : (row : Row) (e : Entry) → FitsRow row e → row_text (record row { entry = e }) ≡ row_text row
text_kept row e fits = ap (λ c. c ++ (32 ∷ 61 ∷ 32 ∷ []) ++ said_answer (record row { entry = e }) ++ 10 ∷ []) (said_call_kept row e fits) ∙ ap
    (λ a. said_call row ++ (32 ∷ 61 ∷ 32 ∷ []) ++ a ++ 10 ∷ []) (said_answer_kept row e fits)

-- and has a reading
pub readable_kept : (row : Row) (e : Entry) → FitsRow row e → IsReadable row → IsReadable (record row { entry = e })
readable_kept row e fits h = record {
  range = sayable e fits.allowed;
  star = λ starred now. h.star starred (fits.of.name ∙ now);
  all = λ all. subst TakesAll (ap (λ b. with_answer b (call_of e) row.entry) (sym all) ∙ fits.is) (all_kept row.entry (call_of e) (h.all all));
}

-- The next line.
pub next_fits : (script : Script) (row : Row) (e : Entry) → script.live ≡ true → slice_get script.lines script.used ≡ Some row → FitsRow row e → FitsNext script e
next_fits script row e live at fits = record {
  live = live;
  within = slice_get_within script.lines script.used row at;
  fits = λ r is. subst (λ x. FitsRow x e) (same_Some row r (sym at ∙ is)) fits;
  allowed = fits.allowed;
}

-- a line that is of the call is that of an entry of it
pub served_next : (script : Script) (row : Row) (call : Call) → script.live ≡ true → slice_get script.lines script.used ≡ Some row → Serves row call →
    (e : Entry) × FitsNext script e × (call_of e ≡ call)
served_next script row call live at serves =
    let is : FitsRow row (answered row call) = record { of = subst (IsOf row) (sym serves.asks) serves.of; is = ap (answered row) serves.asks; allowed = serves.allowed } in
    (answered row call, next_fits script row (answered row call) live at is, serves.asks)

pub refuses_next : (lines : List Row) (used : ℕ) (row : Row) (call : Call) → slice_get lines used ≡ Some row → Refuses row call → FitsNone lines used call
refuses_next lines used row call at refuses r is = subst (λ x. Refuses x call) (same_Some row r (sym at ∙ is)) refuses
