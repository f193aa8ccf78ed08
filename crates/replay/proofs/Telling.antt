-- What a World tells that went on by a line, or ceased, is what stands in its last line.
use Rattle.std.proofs.Common.{◌≡◌, ℕ, zero, suc, ◌+◌, ◌^◌, ◌<◌, ◌≤◌, Bool, true, false, cond, List, [], ◌∷◌, length, take, get_or, Option, Some, None, refl, sym, ◌∙◌, ap, subst, arith}
use Rattle.std.proofs.Common.{add-one, slice_get}
use Rattle.std.specs.Option.{option_map}
use Rattle.std.proofs.lemmas.Option.{slice_get-map}
use Rattle.std.proofs.lemmas.List.Elements.{All-nil}
use Rattle.poll_list.specs.declared.Want.{Want}
use Rattle.world_face.specs.declared.Io.{Io}
use Rattle.world_face.specs.declared.Io.TheVariants.{Done, End, NotYet, Failed}
use Rattle.world_face.specs.declared.Got.{Got}
use Rattle.world_face.specs.declared.Got.TheVariants.{From, NotYet as NothingGot, Failed as GetFailed}
use Rattle.world_face.specs.declared.Waited.{Waited}
use Rattle.world_face.specs.declared.Waited.TheVariants.{Ready, Stop as WaitStop, Failed as WaitFailed}
use Rattle.world_face.specs.Journal.{Entry, call_of, Allowed, IsNumber, Leaves, LeavesGot, MayGet, MayRead, MayReadFile, MayWait, count_of, count_got, filled, filled_got, Now, Wait}
use Rattle.world_face.specs.Journal.{LinkOpen, LinkRead, LinkWrite, Connect, Connected, Listen, Accept, TcpRead, TcpWrite, TcpEnd, Close, UdpOpen, UdpSend, UdpRecv, FileLen, FileRead}
use Rattle.world_face.specs.Journal.{Call, CallNow, CallWait, CallLinkOpen, CallLinkRead, CallLinkWrite, CallConnect, CallConnected, CallListen, CallAccept, CallTcpRead, CallTcpWrite}
use Rattle.world_face.specs.Journal.{CallTcpEnd, CallClose, CallUdpOpen, CallUdpSend, CallUdpRecv, CallFileLen, CallFileRead}
use Rattle.world_face.specs.Limits.{most_ready, most_to_udp}
use Rattle.world_face.specs.Tells.{Answers, Telling}
use Rattle.replay.specs.declared.line.Stop.{Stop}
use Rattle.replay.specs.declared.line.Stop.TheVariants.{Now as StopNow, Wait as StopWait, LinkOpenPath as StopPath, LinkOpenAt as StopAt, LinkRead as StopLinkRead}
use Rattle.replay.specs.declared.line.Stop.TheVariants.{LinkWrite as StopLinkWrite, Connect as StopConnect, Connected as StopConnected, Listen as StopListen, Accept as StopAccept}
use Rattle.replay.specs.declared.line.Stop.TheVariants.{TcpRead as StopTcpRead, TcpWrite as StopTcpWrite, TcpEnd as StopTcpEnd, Close as StopClose, UdpOpen as StopUdpOpen}
use Rattle.replay.specs.declared.line.Stop.TheVariants.{UdpSend as StopUdpSend, UdpRecv as StopUdpRecv, FileLen as StopFileLen, FileRead as StopFileRead}
use Rattle.replay.specs.declared.row.Row.{Row as ARow}
use Rattle.replay.specs.Fitting.{Advances, Ceases, FitsNext, last_moment, moment_after}
use Rattle.replay.specs.Last.{answer_by, answer_to, last_of, newest}
use Rattle.replay.specs.Lines.{call_at, entry_of, rows_of}
use Rattle.replay.specs.Range.{InRange, IsSayable}
use Rattle.replay.specs.Room.{most_octets}
use Rattle.replay.specs.Rows.{Row, AreReadable, entries_of}
use Rattle.replay.specs.Script.{Script, kept_of, newest_onto, script_tells}
use Rattle.replay.proofs.Following.{ceases, fits, one_more}
use Rattle.replay.proofs.Rowing.{row_at}

-- an entry is its call, with its answer
by_entry : (e : Entry) (past : List Entry) → e ≡ answer_by (last_moment (e ∷ past)) (Some e) (call_of e)
by_entry (Now m) past = refl
by_entry (Wait w t a r) past = refl
by_entry (LinkOpen at a) past = refl
by_entry (LinkRead n a o) past = refl
by_entry (LinkWrite o a) past = refl
by_entry (Connect s to a) past = refl
by_entry (Connected s a) past = refl
by_entry (Listen s at a) past = refl
by_entry (Accept l s a) past = refl
by_entry (TcpRead s n a o) past = refl
by_entry (TcpWrite s o a) past = refl
by_entry (TcpEnd s a) past = refl
by_entry (Close s) past = refl
by_entry (UdpOpen s at a) past = refl
by_entry (UdpSend s to o a) past = refl
by_entry (UdpRecv s n a o) past = refl
by_entry (FileLen n a) past = refl
by_entry (FileRead n p k a o) past = refl

-- it went on by a line
pub told_on : (old new : Script) (call : Call) (e : Entry) → FitsNext old e → call_of e ≡ call → Advances old new e → Answers (script_tells old) (script_tells new) (answer_to new call)
told_on old new call e next asks to =
    let last : last_of new ≡ Some e = ap (λ (b : Bool). cond b (newest (kept_of new)) None) (to.live ∙ next.live) ∙ ap newest to.kept in
    let is : e ≡ answer_to new call = by_entry e (kept_of old)
    ∙ ap (λ (past : List Entry). answer_by (last_moment past) (Some e) (call_of e)) (sym to.kept)
    ∙ ap (λ (l : Option Entry). answer_by (last_moment (kept_of new)) l (call_of e)) (sym last)
    ∙ ap (answer_by (last_moment (kept_of new)) (last_of new)) asks in
    subst (λ (x : Entry). Answers (script_tells old) (script_tells new) x) is (fits old new e next to)

-- once it has ceased there is no last line
pub none_last : (script : Script) → script.live ≡ false → last_of script ≡ None
none_last script dead = ap (λ (b : Bool). cond b (newest (kept_of script)) None) dead

failed_call : (m : ℕ) (call : Call) → call_of (answer_by m None call) ≡ call
failed_call m CallNow = refl
failed_call m (CallWait w t) = refl
failed_call m (CallLinkOpen at) = refl
failed_call m (CallLinkRead n) = refl
failed_call m (CallLinkWrite o) = refl
failed_call m (CallConnect s to) = refl
failed_call m (CallConnected s) = refl
failed_call m (CallListen s at) = refl
failed_call m (CallAccept l s) = refl
failed_call m (CallTcpRead s n) = refl
failed_call m (CallTcpWrite s o) = refl
failed_call m (CallTcpEnd s) = refl
failed_call m (CallClose s) = refl
failed_call m (CallUdpOpen s at) = refl
failed_call m (CallUdpSend s to o) = refl
failed_call m (CallUdpRecv s n) = refl
failed_call m (CallFileLen n) = refl
failed_call m (CallFileRead n p k) = refl

-- a failure is an answer that a World may give
failed_allowed : (given : Stop) (octets : List ℕ) (wants : List Want) (m : ℕ) → IsNumber m → IsNumber (length octets) → InRange (call_at given octets wants) → Allowed
    (answer_by m None (call_at given octets wants))
failed_allowed StopNow o w m small few h = small
failed_allowed (StopWait t) o w m small few h = (refl, h.1, h.0)
failed_allowed StopPath o w m small few h = h
failed_allowed (StopAt at) o w m small few h = h
failed_allowed (StopLinkRead n) o w m small few h = (tt, (refl, All-nil (λ octet. octet < 2 ^ 8)), h)
failed_allowed StopLinkWrite o w m small few h = (tt, h, few)
failed_allowed (StopConnect s to) o w m small few h = h
failed_allowed (StopConnected s) o w m small few h = h
failed_allowed (StopListen s at) o w m small few h = h
failed_allowed (StopAccept l s) o w m small few h = (h.0, h.1, tt)
failed_allowed (StopTcpRead s n) o w m small few h = (tt, (refl, All-nil (λ octet. octet < 2 ^ 8)), h.1, h.0)
failed_allowed (StopTcpWrite s) o w m small few h = (tt, h.1, h.0, few)
failed_allowed (StopTcpEnd s) o w m small few h = h
failed_allowed (StopClose s) o w m small few h = h
failed_allowed (StopUdpOpen s at) o w m small few h = h
failed_allowed (StopUdpSend s to) o w m small few h = h
failed_allowed (StopUdpRecv s n) o w m small few h = (tt, (refl, All-nil (λ octet. octet < 2 ^ 8)), h.1, h.0)
failed_allowed StopFileLen o w m small few h = (h, tt)
failed_allowed (StopFileRead p n) o w m small few h = (tt, (refl, All-nil (λ octet. octet < 2 ^ 8)), h.2, h.1, h.0)

pub few_octets : (given : Stop) (n : ℕ) → n ≤ most_octets given → n ≤ most_to_udp
few_octets StopPath n h = omega (arith, h)
few_octets StopLinkWrite n h = omega (arith, h)
few_octets (StopTcpWrite s) n h = omega (arith, h)
few_octets (StopUdpSend s to) n h = h
few_octets StopFileLen n h = omega (arith, h)
few_octets (StopFileRead p k) n h = omega (arith, h)
few_octets _ n h = omega (arith, h)

-- the moments of lines have 64 bits
moment_small : (e : Entry) (before : ℕ) → IsSayable e → IsNumber before → IsNumber (moment_after e before)
moment_small (Now m) before h small = h.1
moment_small _ before h small = small

moments_small : (n : ℕ) (rows : List Row) (older : List Entry) → AreReadable rows → IsNumber (last_moment older) → IsNumber (last_moment (newest_onto n (entries_of rows) older))
moments_small zero rows older h small = small
moments_small (suc n) [] older h small = small
moments_small (suc n) (row ∷ rows) older h small = moments_small n rows (row.entry ∷ older) h.1 (moment_small row.entry (last_moment older) h.0.range small)

-- it ceased
pub told_ceased : (old new : Script) (given : Stop) (octets : List ℕ) (wants : List Want) → AreReadable old.lines → InRange (call_at given octets wants) → length octets ≤ most_octets given
    → Ceases old new (call_at given octets wants) → Answers (script_tells old) (script_tells new) (answer_to new (call_at given octets wants))
told_ceased old new given octets wants readable range few to =
    let call = call_at given octets wants in
    let m = last_moment (kept_of new) in
    let zero_small : IsNumber 0 = omega arith in
    let small : IsNumber m = moments_small new.used new.lines [] (subst AreReadable (sym to.lines) readable) zero_small in
    let size = few_octets given (length octets) few in
    let bits : IsNumber (length octets) = omega (arith, size) in
    let failed = failed_allowed given octets wants m small bits range in
    let told = ceases old new (answer_by m None call) failed (subst (Ceases old new) (sym (failed_call m call)) to) in
    subst (λ (l : Option Entry). Answers (script_tells old) (script_tells new) (answer_by m l call)) (sym (none_last new to.dead)) told

-- the line that was used up last
last_line : (rows : List ARow) (used n : ℕ) (row : ARow) → used ≡ n + 1 → n < length rows → row ≡ get_or rows n row → newest
    (newest_onto used (entries_of (rows_of rows)) []) ≡ Some (entry_of row.line)
last_line rows used n row is lt at =
    let here : slice_get (entries_of (rows_of rows)) n ≡ Some (entry_of row.line) = slice_get-map (λ (r : Row). r.entry) (rows_of rows) n ∙ ap (option_map (λ (r : Row). r.entry))
    (row_at rows n row lt at) in
    let more : newest_onto (n + 1) (entries_of (rows_of rows)) [] ≡ entry_of row.line ∷ newest_onto n (entries_of (rows_of rows)) [] = rw add-one
    (one_more n (entries_of (rows_of rows)) [] (entry_of row.line) here) in
    ap (λ (k : ℕ). newest (newest_onto k (entries_of (rows_of rows)) [])) is ∙ ap newest more

pub a_line : (live : Bool) (rows : List ARow) (used n : ℕ) (row : ARow) → live ≡ true → used ≡ n + 1 → n < length rows → row ≡ get_or rows n row → Some
    (entry_of row.line) ≡ cond live (newest (newest_onto used (entries_of (rows_of rows)) [])) None
a_line live rows used n row is more lt at = sym (last_line rows used n row more lt at) ∙ sym (ap (λ (b : Bool). cond b (newest (newest_onto used (entries_of (rows_of rows)) [])) None) is)

-- what a read brought has room where it was asked for
pub read_fits : (asked : ℕ) (a : Io) (octets : List ℕ) → MayRead asked a → Leaves a octets → length octets ≤ asked
read_fits asked (Done n) octets h left = omega (arith, h.1, left.0)
read_fits asked End octets h left = omega (arith, left.0)
read_fits asked NotYet octets h left = omega (arith, left.0)
read_fits asked Failed octets h left = omega (arith, left.0)

pub file_fits : (asked : ℕ) (a : Io) (octets : List ℕ) → MayReadFile asked a → Leaves a octets → length octets ≤ asked
file_fits asked (Done n) octets h left = omega (arith, h.1, left.0)
file_fits asked End octets h left = omega (arith, left.0)
file_fits asked NotYet octets h left = absurd h
file_fits asked Failed octets h left = omega (arith, left.0)

pub got_fits : (asked : ℕ) (a : Got) (octets : List ℕ) → MayGet asked a → LeavesGot a octets → length octets ≤ asked
got_fits asked (From peer n) octets h left = omega (arith, h.0, left.0)
got_fits asked NothingGot octets h left = omega (arith, left.0)
got_fits asked GetFailed octets h left = omega (arith, left.0)

pub wait_fits : (wants : List Want) (a : Waited) (ready : List Want) → MayWait wants a ready → length ready ≤ most_ready
wait_fits wants Ready ready h = h.2
wait_fits wants WaitStop ready h = let none = ap length h in omega (arith, none)
wait_fits wants WaitFailed ready h = let none = ap length h in omega (arith, none)

-- and stands at the front
pub read_told : (old new : Telling) (f : Io → List ℕ → Entry) (a b : Io) (from octets into : List ℕ) → a ≡ b → from ≡ octets → length octets ≡ count_of b → take
    (length from) into ≡ from → Answers old new (f b octets) → Answers old new (f a (filled a into))
read_told old new f a b from octets into same brought many put told =
    let filled_is : filled a into ≡ octets = ap (λ (n : ℕ). take n into) (ap count_of same ∙ sym many ∙ ap length (sym brought)) ∙ put ∙ brought in
    subst (λ (x : Io). Answers old new (f x (filled a into))) (sym same) (subst (λ (o : List ℕ). Answers old new (f b o)) (sym filled_is) told)

pub got_told : (old new : Telling) (f : Got → List ℕ → Entry) (a b : Got) (from octets into : List ℕ) → a ≡ b → from ≡ octets → length octets ≡ count_got b → take
    (length from) into ≡ from → Answers old new (f b octets) → Answers old new (f a (filled_got a into))
got_told old new f a b from octets into same brought many put told =
    let filled_is : filled_got a into ≡ octets = ap (λ (n : ℕ). take n into) (ap count_got same ∙ sym many ∙ ap length (sym brought)) ∙ put ∙ brought in
    subst (λ (x : Got). Answers old new (f x (filled_got a into))) (sym same) (subst (λ (o : List ℕ). Answers old new (f b o)) (sym filled_is) told)
