-- Answers and lines, each of which has one text.
use Rattle.std.proofs.Common.{◌≡◌, ℕ, ◌+◌, ◌*◌, true, false, List, [], ◌∷◌, ◌++◌, length, decimal, reverse, refl, sym, ◌∙◌, ap, subst, arith, append_assoc, append-nil}
use Rattle.std.proofs.lemmas.Fmt.{decimal_injective}
use Rattle.std.proofs.lemmas.List.{reverse-reverse}
use mathlib.Core.List.{reverse-cons}
use Rattle.poll_list.specs.declared.Want.{Want}
use Rattle.poll_list.specs.Listing.{are_wants}
use Rattle.world_face.specs.declared.Io.{Io}
use Rattle.world_face.specs.declared.Io.TheVariants.{Done, End, NotYet, Failed}
use Rattle.world_face.specs.declared.Made.{Made}
use Rattle.world_face.specs.declared.Made.TheVariants.{Done as MadeDone, Failed as MadeFailed}
use Rattle.world_face.specs.declared.Joined.{Joined}
use Rattle.world_face.specs.declared.Joined.TheVariants.{Yes, NotYet as NotYetJoined, Failed as JoinFailed}
use Rattle.world_face.specs.declared.Accepted.{Accepted}
use Rattle.world_face.specs.declared.Accepted.TheVariants.{From as FromPeer, NotYet as NoPeer, Failed as AcceptFailed}
use Rattle.world_face.specs.declared.Sent.{Sent}
use Rattle.world_face.specs.declared.Sent.TheVariants.{Done as SentDone, NotYet as NotYetSent, Failed as SendFailed}
use Rattle.world_face.specs.declared.Got.{Got}
use Rattle.world_face.specs.declared.Got.TheVariants.{From, NotYet as NothingGot, Failed as GetFailed}
use Rattle.world_face.specs.declared.FileSize.{FileSize}
use Rattle.world_face.specs.declared.FileSize.TheVariants.{Length, Missing, Failed as SizeFailed}
use Rattle.world_face.specs.declared.Waited.{Waited}
use Rattle.world_face.specs.declared.Waited.TheVariants.{Ready, Stop, Failed as WaitFailed}
use Rattle.world_face.specs.Journal.{MayAccept, MayMeasure, Leaves, LeavesGot, AreAllowed, Entry, call_of, Now, Wait, LinkOpen, LinkRead, LinkWrite, Connect, Connected, Listen, Accept}
use Rattle.world_face.specs.Journal.{TcpRead, TcpWrite, TcpEnd, Close, UdpOpen, UdpSend, UdpRecv, FileLen, FileRead}
use Rattle.replay.specs.Pieces.{lines_text}
use Rattle.replay.specs.Rows.{Row, AreReadable, schedule_text}
use Rattle.address_text.specs.Texts.{endpoint_text}
use Rattle.address_text.proofs.Parting.{parts_once}
use Rattle.replay.specs.Text.{hexadecimal, joined_text, made_text, ready_text, waited_text, read_text, written_text, joined_answer, accepted_text, sent_text, got_text, size_text}
use Rattle.replay.specs.Text.{call_text, answer_text, line_text, text}
use Rattle.replay.proofs.Parting.{is_word, is_plain, is_line}
use Rattle.replay.proofs.Words.{same_octets, endpoint_word}
use Rattle.address_text.proofs.Addresses.{same_endpoint}
use Rattle.spec_replay.proofs.Tokens.{same_joined}
use Rattle.replay.proofs.Calls.{call_plain}
use Rattle.spec_replay.proofs.Calls.{same_call}
use Rattle.replay.specs.Range.{IsSayable, AreSayable, LeavesReady, Counts, ComesFrom}
use Rattle.replay.proofs.Bodies.{body_line, then_more, some_line}
use Rattle.replay.proofs.Sayable.{all_sayable}
use Rattle.replay.proofs.Unreading.{all_read}
use Rattle.replay.specs.Unread.{IsFirstUnread}

-- the first two octets
abbrev second : List ℕ → ℕ
second [] = 0
second (x ∷ []) = 1000 * x
second (x ∷ y ∷ xs) = 1000 * x + y

nothing : (xs : List ℕ) → length xs ≡ 0 → xs ≡ []
nothing [] h = refl
nothing (x ∷ xs) h = absurd (omega arith)

same_made : (a b : Made) → made_text a ≡ made_text b → a ≡ b
same_made MadeDone MadeDone is = refl
same_made MadeFailed MadeFailed is = refl
same_made _ _ is = absurd (omega (arith, ap second is))

same_joining : (a b : Joined) → joined_answer a ≡ joined_answer b → a ≡ b
same_joining Yes Yes is = refl
same_joining NotYetJoined NotYetJoined is = refl
same_joining JoinFailed JoinFailed is = refl
same_joining _ _ is = absurd (omega (arith, ap second is))

same_sent : (a b : Sent) → sent_text a ≡ sent_text b → a ≡ b
same_sent SentDone SentDone is = refl
same_sent NotYetSent NotYetSent is = refl
same_sent SendFailed SendFailed is = refl
same_sent _ _ is = absurd (omega (arith, ap second is))

same_accepted : (a b : Accepted) → MayAccept a → MayAccept b → accepted_text a ≡ accepted_text b → a ≡ b
same_accepted (FromPeer p) (FromPeer q) ha hb is = let tail : endpoint_text p ≡ endpoint_text q = cc in ap FromPeer (same_endpoint p q ha hb tail)
same_accepted NoPeer NoPeer ha hb is = refl
same_accepted AcceptFailed AcceptFailed ha hb is = refl
same_accepted _ _ ha hb is = absurd (omega (arith, ap second is))

same_size : (a b : FileSize) → MayMeasure a → MayMeasure b → size_text a ≡ size_text b → a ≡ b
same_size (Length n) (Length m) ha hb is = let tail : decimal n ≡ decimal m = cc in ap Length (decimal_injective n m ha hb tail)
same_size Missing Missing ha hb is = refl
same_size SizeFailed SizeFailed ha hb is = refl
same_size _ _ ha hb is = absurd (omega (arith, ap second is))

same_read : (a b : Io) (o p : List ℕ) → Leaves a o → Leaves b p → read_text a o ≡ read_text b p → (a ≡ b) × (o ≡ p)
same_read (Done n) (Done m) o p ha hb is =
    let tail : hexadecimal o ≡ hexadecimal p = cc in
    let octets = same_octets o p ha.1 hb.1 tail in
    let count : n ≡ m = sym ha.0 ∙ ap length octets ∙ hb.0 in
    (ap Done count, octets)
same_read End End o p ha hb is = (refl, nothing o ha.0 ∙ sym (nothing p hb.0))
same_read NotYet NotYet o p ha hb is = (refl, nothing o ha.0 ∙ sym (nothing p hb.0))
same_read Failed Failed o p ha hb is = (refl, nothing o ha.0 ∙ sym (nothing p hb.0))
same_read _ _ o p ha hb is = absurd (omega (arith, ap second is))

same_written : (a b : Io) → Counts a → Counts b → written_text a ≡ written_text b → a ≡ b
same_written (Done n) (Done m) ha hb is = let tail : decimal n ≡ decimal m = cc in ap Done (decimal_injective n m ha hb tail)
same_written End b ha hb is = absurd ha
same_written a End ha hb is = absurd hb
same_written NotYet NotYet ha hb is = refl
same_written Failed Failed ha hb is = refl
same_written _ _ ha hb is = absurd (omega (arith, ap second is))

same_got : (a b : Got) (o p : List ℕ) → ComesFrom a → ComesFrom b → LeavesGot a o → LeavesGot b p → got_text a o ≡ got_text b p → (a ≡ b) × (o ≡ p)
same_got (From p n) (From q m) o r ga gb ha hb is =
    let tail : (endpoint_text p ++ 32 ∷ []) ++ hexadecimal o ≡ (endpoint_text q ++ 32 ∷ []) ++ hexadecimal r = cc in
    let parted = parts_once 32 is_word refl (endpoint_text p) (endpoint_text q) (hexadecimal o) (hexadecimal r) (endpoint_word p ga) (endpoint_word q gb)
    (sym (append_assoc (endpoint_text p) (32 ∷ []) (hexadecimal o)) ∙ tail ∙ append_assoc (endpoint_text q) (32 ∷ []) (hexadecimal r)) in
    let peer = same_endpoint p q ga gb parted.0 in
    let octets = same_octets o r ha.1 hb.1 parted.1 in
    let count : n ≡ m = sym ha.0 ∙ ap length octets ∙ hb.0 in
    (ap (λ x. From x n) peer ∙ ap (λ k. From q k) count, octets)
same_got NothingGot NothingGot o p ga gb ha hb is = (refl, nothing o ha.0 ∙ sym (nothing p hb.0))
same_got GetFailed GetFailed o p ga gb ha hb is = (refl, nothing o ha.0 ∙ sym (nothing p hb.0))
same_got _ _ o p ga gb ha hb is = absurd (omega (arith, ap second is))

same_ready : (r s : List Want) → are_wants r ≡ true → are_wants s ≡ true → ready_text r ≡ ready_text s → r ≡ s
same_ready [] [] hr hs is = refl
same_ready [] (v ∷ vs) hr hs is = absurd (omega (arith, ap length is))
same_ready (w ∷ ws) [] hr hs is = absurd (omega (arith, ap length is))
same_ready (w ∷ ws) (v ∷ vs) hr hs is = let tail : joined_text (w ∷ ws) ≡ joined_text (v ∷ vs) = cc in same_joined w v ws vs hr hs tail

ready_second : (r : List Want) → second (ready_text r) ≡ 114101
ready_second [] = refl
ready_second (w ∷ ws) = refl

same_waited : (a b : Waited) (r s : List Want) → LeavesReady a r → LeavesReady b s → waited_text a r ≡ waited_text b s → (a ≡ b) × (r ≡ s)
same_waited Ready Ready r s ha hb is = (refl, same_ready r s ha hb is)
same_waited Ready Stop r s ha hb is = absurd (omega (arith, ready_second r, ap second is))
same_waited Ready WaitFailed r s ha hb is = absurd (omega (arith, ready_second r, ap second is))
same_waited Stop Ready r s ha hb is = absurd (omega (arith, ready_second s, ap second is))
same_waited WaitFailed Ready r s ha hb is = absurd (omega (arith, ready_second s, ap second is))
same_waited Stop Stop r s ha hb is = (refl, ha ∙ sym hb)
same_waited WaitFailed WaitFailed r s ha hb is = (refl, ha ∙ sym hb)
same_waited Stop WaitFailed r s ha hb is = absurd (omega (arith, ap second is))
same_waited WaitFailed Stop r s ha hb is = absurd (omega (arith, ap second is))

same_entry : (e f : Entry) → IsSayable e → IsSayable f → call_of e ≡ call_of f → answer_text e ≡ answer_text f → e ≡ f
unfolding answer_text
same_entry (Now moment) (Now moment') ha hb calls is = ap Now (decimal_injective moment moment' ha.1 hb.1 is)
same_entry (Wait wants timeout answer ready) (Wait wants' timeout' answer' ready') ha hb calls is =
    let both_are = same_waited answer answer' ready ready' ha.1 hb.1 is in
    let a = both_are.0 in
    let o = both_are.1 in
    cc
same_entry (LinkOpen at answer) (LinkOpen at' answer') ha hb calls is =
    let a = same_made answer answer' is in
    cc
same_entry (LinkRead asked answer octets) (LinkRead asked' answer' octets') ha hb calls is =
    let both_are = same_read answer answer' octets octets' ha.1 hb.1 is in
    let a = both_are.0 in
    let o = both_are.1 in
    cc
same_entry (LinkWrite octets answer) (LinkWrite octets' answer') ha hb calls is =
    let a = same_written answer answer' ha.1 hb.1 is in
    cc
same_entry (Connect socket to answer) (Connect socket' to' answer') ha hb calls is =
    let a = same_made answer answer' is in
    cc
same_entry (Connected socket answer) (Connected socket' answer') ha hb calls is =
    let a = same_joining answer answer' is in
    cc
same_entry (Listen socket at answer) (Listen socket' at' answer') ha hb calls is =
    let a = same_made answer answer' is in
    cc
same_entry (Accept listener socket answer) (Accept listener' socket' answer') ha hb calls is =
    let a = same_accepted answer answer' ha.1 hb.1 is in
    cc
same_entry (TcpRead socket asked answer octets) (TcpRead socket' asked' answer' octets') ha hb calls is =
    let both_are = same_read answer answer' octets octets' ha.1 hb.1 is in
    let a = both_are.0 in
    let o = both_are.1 in
    cc
same_entry (TcpWrite socket octets answer) (TcpWrite socket' octets' answer') ha hb calls is =
    let a = same_written answer answer' ha.1 hb.1 is in
    cc
same_entry (TcpEnd socket answer) (TcpEnd socket' answer') ha hb calls is =
    let a = same_made answer answer' is in
    cc
same_entry (Close socket) (Close socket') ha hb calls is = cc
same_entry (UdpOpen socket at answer) (UdpOpen socket' at' answer') ha hb calls is =
    let a = same_made answer answer' is in
    cc
same_entry (UdpSend socket to octets answer) (UdpSend socket' to' octets' answer') ha hb calls is =
    let a = same_sent answer answer' is in
    cc
same_entry (UdpRecv socket asked answer octets) (UdpRecv socket' asked' answer' octets') ha hb calls is =
    let both_are = same_got answer answer' octets octets' ha.1.0 hb.1.0 ha.1.1 hb.1.1 is in
    let a = both_are.0 in
    let o = both_are.1 in
    cc
same_entry (FileLen name answer) (FileLen name' answer') ha hb calls is =
    let a = same_size answer answer' ha.1 hb.1 is in
    cc
same_entry (FileRead name place asked answer octets) (FileRead name' place' asked' answer' octets') ha hb calls is =
    let both_are = same_read answer answer' octets octets' ha.1.1 hb.1.1 is in
    let a = both_are.0 in
    let o = both_are.1 in
    cc
same_entry _ _ ha hb calls is = cc calls

tail_of : (a b : List ℕ) → 32 ∷ a ≡ 32 ∷ b → a ≡ b
tail_of a b is = cc

same_body : (e f : Entry) → IsSayable e → IsSayable f → (call_text (call_of e) ++ 32 ∷ []) ++ 61 ∷ 32 ∷ answer_text e ≡ (call_text (call_of f) ++ 32 ∷ []) ++ 61 ∷ 32 ∷ answer_text f → e ≡ f
same_body e f ha hb is =
    let parted = parts_once 61 is_plain refl (call_text (call_of e) ++ 32 ∷ []) (call_text (call_of f) ++ 32 ∷ []) (32 ∷ answer_text e) (32 ∷ answer_text f)
    (call_plain (call_of e) ha.0) (call_plain (call_of f) hb.0) is in
    let answers : answer_text e ≡ answer_text f = tail_of (answer_text e) (answer_text f) parted.1 in
    same_entry e f ha hb (same_call (call_of e) (call_of f) ha.0 hb.0 parted.0) answers

-- the first line of a text is of one entry
same_first : (e f : Entry) (r s : List ℕ) → IsSayable e → IsSayable f → line_text e ++ r ≡ line_text f ++ s → (e ≡ f) × (r ≡ s)
same_first e f r s ha hb is =
    let parted = parts_once 10 is_line refl ((call_text (call_of e) ++ 32 ∷ []) ++ 61 ∷ 32 ∷ answer_text e) ((call_text (call_of f) ++ 32 ∷ []) ++ 61 ∷ 32 ∷ answer_text f) r s
    (body_line e ha) (body_line f hb) (sym (then_more e r) ∙ is ∙ then_more f s) in
    (same_body e f ha hb parted.0, parted.1)

same_lines : (xs ys : List Entry) → AreSayable xs → AreSayable ys → lines_text xs ≡ lines_text ys → xs ≡ ys
same_lines [] [] ha hb is = refl
same_lines [] (f ∷ fs) ha hb is = absurd (some_line f (lines_text fs) is)
same_lines (e ∷ es) [] ha hb is = absurd (some_line e (lines_text es) (sym is))
same_lines (e ∷ es) (f ∷ fs) ha hb is =
    let one = same_first e f (lines_text es) (lines_text fs) ha.0 hb.0 is in
    let more = same_lines es fs ha.1 hb.1 one.1 in
    ap (λ x. x ∷ es) one.0 ∙ ap (λ x. f ∷ x) more

-- the other way round
lines_push : (es : List Entry) (e : Entry) → lines_text (es ++ e ∷ []) ≡ lines_text es ++ line_text e
lines_push [] e = append-nil (line_text e)
lines_push (x ∷ es) e = ap (λ t. line_text x ++ t) (lines_push es e) ∙ sym (append_assoc (line_text x) (lines_text es) (line_text e))

turned : (past : List Entry) → text past ≡ lines_text (reverse past)
turned [] = refl
turned (e ∷ past) = ap (λ t. t ++ line_text e) (turned past) ∙ sym (lines_push (reverse past) e) ∙ ap lines_text (sym (reverse-cons e past))

sayable_push : (es : List Entry) (e : Entry) → AreSayable es → IsSayable e → AreSayable (es ++ e ∷ [])
sayable_push [] e hs h = (h, tt)
sayable_push (x ∷ es) e hs h = (hs.0, sayable_push es e hs.1 h)

sayable_turned : (past : List Entry) → AreSayable past → AreSayable (reverse past)
sayable_turned [] h = tt
sayable_turned (e ∷ past) h = subst AreSayable (sym (reverse-cons e past)) (sayable_push (reverse past) e (sayable_turned past h.1) h.0)

-- no two traces have one text, where a line can say each entry
pub one_text : (a b : List Entry) → AreSayable a → AreSayable b → text a ≡ text b → a ≡ b
one_text a b ha hb is =
    let same = same_lines (reverse a) (reverse b) (sayable_turned a ha) (sayable_turned b hb) (sym (turned a) ∙ is ∙ turned b) in
    sym (reverse-reverse a) ∙ ap reverse same ∙ reverse-reverse b

pub one_to_one : (a b : List Entry) → AreAllowed a → AreAllowed b → text a ≡ text b → a ≡ b
one_to_one a b ha hb is = one_text a b (all_sayable a ha) (all_sayable b hb) is

-- a trace's lines, as those of a schedule
plain : List Entry → List Row
plain [] = []
plain (e ∷ es) = record { entry = e; starred = false; all = false } ∷ plain es

plain_text : (es : List Entry) → schedule_text (plain es) ≡ lines_text es
unfolding plain
plain_text [] = refl
plain_text (e ∷ es) = ap (λ t. line_text e ++ t) (plain_text es)

plain_readable : (es : List Entry) → AreSayable es → AreReadable (plain es)
unfolding plain
plain_readable [] h = tt
plain_readable (e ∷ es) h = (record { range = h.0; star = λ is. absurd (cc is); all = λ is. absurd (cc is) }, plain_readable es h.1)

pub text_is_read : (past : List Entry) (n : ℕ) → AreAllowed past → ¬ IsFirstUnread (text past) n
text_is_read past n allowed first = all_read (text past) (plain (reverse past)) n (plain_text (reverse past) ∙ sym (turned past))
    (plain_readable (reverse past) (sayable_turned past (all_sayable past allowed))) first
