-- A schedule takes one room.
use Rattle.std.proofs.Common.{◌≡◌, ◌≢◌, ◌⊎◌, inr, Result, Err, ℕ, ◌+◌, ◌<◌, ◌≤◌, Bool, true, false, cond, List, [], ◌∷◌, ◌++◌, length, refl, sym, ◌∙◌, ap, arith, Some, None, Option}
use Rattle.std.specs.List.{list_all}
use Rattle.world_face.specs.Journal.{Call, CallNow, CallWait, CallLinkOpen, CallLinkRead, CallLinkWrite, CallConnect, CallConnected, CallListen, CallAccept, CallTcpRead, CallTcpWrite}
use Rattle.world_face.specs.Journal.{CallTcpEnd, CallClose, CallUdpOpen, CallUdpSend, CallUdpRecv, CallFileLen, CallFileRead, call_of, IsTimeout}
use Rattle.replay.specs.declared.CallName.{CallName}
use Rattle.replay.specs.declared.ScriptFault.{ScriptFault}
use Rattle.replay.specs.declared.ScriptFault.TheVariants.{Line as AtLine, NoMemory, TooLarge}
use Rattle.replay.specs.Names.{name_of, name_text}
use Rattle.replay.specs.Range.{InRange}
use Rattle.replay.specs.Rows.{Row, IsReadable, AreReadable, TakesTooMuch, most_room, room_of, row_room, rooms, row_text, said_answer, said_call, schedule_text}
use Rattle.address_text.specs.Texts.{is_other, place_text}
use Rattle.address_text.proofs.Parting.{fit_weaker, parts_once}
use Rattle.replay.specs.Text.{call_text, hexadecimal, timeout_text}
use Rattle.std.proofs.Common.{decimal}
use Rattle.replay.specs.Unread.{IsFirstUnread}
use Rattle.replay.proofs.Bodies.{row_body, row_then, said_plain, some_row}
use Rattle.replay.proofs.Calls.{args_text, name_word, same_name}
use Rattle.replay.proofs.Parting.{is_word, is_plain, decimal_word, hexadecimal_word}
use Rattle.replay.proofs.Refusing.{call_parts, last_same, no_space, plain_no_sign}
use Rattle.replay.proofs.Starring.{no_digit, no_pair}
use Rattle.replay.proofs.Unreading.{all_read, no_feed}
use Rattle.replay.proofs.Words.{place_octets, timeout_word}

-- the first line of a text is of one call
same_call_said : (a b : Row) (r s : List ℕ) → IsReadable a → IsReadable b → row_text a ++ r ≡ row_text b ++ s → (said_call a ≡ said_call b) × (r ≡ s)
same_call_said a b r s ha hb is =
    let parted = parts_once 10 (is_other 10) refl (row_body a) (row_body b) r s (no_feed a ha) (no_feed b hb) (sym (row_then a r) ∙ is ∙ row_then b s) in
    let sides = parts_once 61 (is_other 61) refl (said_call a ++ 32 ∷ []) (said_call b ++ 32 ∷ []) (32 ∷ said_answer a) (32 ∷ said_answer b)
    (fit_weaker is_plain (is_other 61) plain_no_sign (said_call a ++ 32 ∷ []) (said_plain a ha)) (fit_weaker is_plain (is_other 61) plain_no_sign (said_call b ++ 32 ∷ [])
    (said_plain b hb)) parted.0 in
    (last_same 32 (said_call a) (said_call b) sides.0, parted.1)

-- no call has a star for its arguments
star_word : (w r : List ℕ) → list_all is_word w ≡ true → 42 ∷ 32 ∷ [] ≡ w ++ 32 ∷ r → 42 ∷ [] ≡ w
star_word w r h is = (parts_once 32 is_word refl (42 ∷ []) w [] r refl h is).0

no_timeout : (t : Option ℕ) → IsTimeout t → 42 ∷ [] ≡ timeout_text t → ⊥
no_timeout None h is = no_pair [] is
no_timeout (Some t) h is = no_digit t h is

first_number : (n : ℕ) (r : List ℕ) → n < 18446744073709551616 → 42 ∷ 32 ∷ [] ≡ decimal n ++ 32 ∷ r → ⊥
first_number n r h is = no_digit n h (star_word (decimal n) r (decimal_word n h) is)

no_star_args : (c : Call) → InRange c → 42 ∷ 32 ∷ [] ≡ args_text c → ⊥
no_star_args CallNow h is = omega (arith, ap length is)
no_star_args (CallWait wants timeout) h is = no_timeout timeout h.0 (star_word (timeout_text timeout) _ (timeout_word timeout h.0) is)
no_star_args (CallLinkOpen at) h is = no_pair (place_text at) (star_word (hexadecimal (place_text at)) _ (hexadecimal_word (place_text at) (place_octets at h)) is)
no_star_args (CallLinkRead asked) h is = first_number asked _ h is
no_star_args (CallLinkWrite octets) h is = no_pair octets (star_word (hexadecimal octets) _ (hexadecimal_word octets h) is)
no_star_args (CallConnect socket to) h is = first_number socket _ h.0 is
no_star_args (CallConnected socket) h is = first_number socket _ h is
no_star_args (CallListen socket at) h is = first_number socket _ h.0 is
no_star_args (CallAccept listener socket) h is = first_number listener _ h.0 is
no_star_args (CallTcpRead socket asked) h is = first_number socket _ h.0 is
no_star_args (CallTcpWrite socket octets) h is = first_number socket _ h.0 is
no_star_args (CallTcpEnd socket) h is = first_number socket _ h is
no_star_args (CallClose socket) h is = first_number socket _ h is
no_star_args (CallUdpOpen socket at) h is = first_number socket _ h.0 is
no_star_args (CallUdpSend socket to octets) h is = first_number socket _ h.0 is
no_star_args (CallUdpRecv socket asked) h is = first_number socket _ h.0 is
no_star_args (CallFileLen name) h is = no_pair name (star_word (hexadecimal name) _ (hexadecimal_word name h) is)
no_star_args (CallFileRead name place asked) h is = no_pair name (star_word (hexadecimal name) _ (hexadecimal_word name h.0) is)

no_star_call : (n : CallName) (c : Call) → InRange c → name_text n ++ 32 ∷ 42 ∷ [] ≡ call_text c → ⊥
no_star_call n c h is = no_star_args c h (call_parts (call_text c) (name_text n) (42 ∷ []) (sym is) (no_space (name_text n) (name_word n)) c refl).1

same_starred : (n m : CallName) → name_text n ++ 32 ∷ 42 ∷ [] ≡ name_text m ++ 32 ∷ 42 ∷ [] → n ≡ m
same_starred n m is = same_name n m (parts_once 32 (is_other 32) refl (name_text n) (name_text m) (42 ∷ []) (42 ∷ []) (no_space (name_text n) (name_word n))
    (no_space (name_text m) (name_word m)) is).0

same_room : (x y : Bool) (c d : Call) → InRange c → InRange d → cond x (name_text (name_of c) ++ 32 ∷ 42 ∷ []) (call_text c) ≡ cond y (name_text (name_of d) ++ 32 ∷ 42 ∷ [])
    (call_text d) → cond x (room_of (name_of c)) 0 ≡ cond y (room_of (name_of d)) 0
same_room true true c d hc hd is = ap room_of (same_starred (name_of c) (name_of d) is)
same_room true false c d hc hd is = absurd (no_star_call (name_of c) d hd is)
same_room false true c d hc hd is = absurd (no_star_call (name_of d) c hc (sym is))
same_room false false c d hc hd is = refl

-- two readings of one schedule take the same room
one_room : (a b : List Row) → AreReadable a → AreReadable b → schedule_text a ≡ schedule_text b → rooms a ≡ rooms b
one_room [] [] ha hb is = refl
one_room [] (y ∷ b) ha hb is = absurd (some_row y (schedule_text b) is)
one_room (x ∷ a) [] ha hb is = absurd (some_row x (schedule_text a) (sym is))
one_room (x ∷ a) (y ∷ b) ha hb is =
    let one = same_call_said x y (schedule_text a) (schedule_text b) ha.0 hb.0 is in
    let here : row_room x ≡ row_room y = same_room x.starred y.starred (call_of x.entry) (call_of y.entry) ha.0.range.0 hb.0.range.0 one.0 in
    let more = one_room a b ha.1 hb.1 one.1 in
    ap (λ n. n + rooms a) here ∙ ap (λ n. row_room y + n) more

-- what keeps the limit isn't too much
pub within_room : (schedule : List ℕ) (rows : List Row) → schedule_text rows ≡ schedule → AreReadable rows → rooms rows ≤ most_room → TakesTooMuch schedule → ⊥
within_room schedule rows is readable fits large = omega (arith, fits, large.over, one_room rows large.rows readable large.readable (is ∙ large.is))

-- a fault in reading names a line that has no reading, or that memory ran out
pub too_much : {X Y : Type 0} (schedule : List ℕ) (fault : ScriptFault) → ◌≢◌ {A = Result X ScriptFault} (Err fault) (Err TooLarge) →
    ((m : ℕ) → ◌≡◌ {A = Result X ScriptFault} (Err fault) (Err (AtLine m)) → IsFirstUnread schedule m) → TakesTooMuch schedule
    → ◌≡◌ {A = Result Y ScriptFault} (Err fault) (Err TooLarge) ⊎ ◌≡◌ {A = Result Y ScriptFault} (Err fault) (Err NoMemory)
too_much schedule (AtLine m) other names large = absurd (all_read schedule large.rows m (sym large.is) large.readable (names m refl))
too_much schedule TooLarge other names large = absurd (other refl)
too_much schedule NoMemory other names large = inr refl
