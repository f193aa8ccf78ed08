-- What fits the lines of a schedule has their answers, by whatever reading of them.
use Rattle.std.proofs.Common.{◌≡◌, ℕ, ◌+◌, ◌<◌, ◌==◌, ◌&&◌, Bool, true, false, cond, List, [], ◌∷◌, ◌++◌, length, codes, refl, sym, ◌∙◌, ap, subst, arith}
use Rattle.std.proofs.lemmas.Bool.Decides.{nat_tests}
use Rattle.std.proofs.lemmas.List.{append-nil, append_assoc, append_cancel_left, append_cancel_right}
use Rattle.slirp_settings.specs.Addresses.{Config}
use Rattle.replay.proofs.Bodies.{row_body, row_form, said_plain, some_row}
use Rattle.replay.proofs.Calls.{args_text, name_word, named, same_name}
use Rattle.address_text.proofs.Parting.{parts_once}
use Rattle.replay.proofs.Parting.{first, is_plain, is_word}
use Rattle.replay.proofs.Unreading.{after_line}
use Rattle.replay.proofs.Words.{same_octets}
use Rattle.replay.specs.Names.{name_of, name_text}
use Rattle.replay.specs.Range.{AnswersInRange}
use Rattle.replay.specs.Rows.{AreReadable, IsReadable, Row, TakesAll, entries_of, row_text, said_answer, said_call, schedule_text, turned_text}
use Rattle.replay.specs.Text.{answer_text, call_text, hexadecimal, read_text}
use Rattle.replay.specs.declared.CallName.{CallName}
use Rattle.replay.specs.declared.CallName.TheVariants.{Wait as NameWait, LinkOpen as NameLinkOpen, LinkRead as NameLinkRead, LinkWrite as NameLinkWrite, Connect as NameConnect}
use Rattle.replay.specs.declared.CallName.TheVariants.{Connected as NameConnected, Listen as NameListen, Accept as NameAccept, TcpRead as NameTcpRead, TcpWrite as NameTcpWrite}
use Rattle.replay.specs.declared.CallName.TheVariants.{TcpEnd as NameTcpEnd, UdpOpen as NameUdpOpen, UdpSend as NameUdpSend, UdpRecv as NameUdpRecv}
use Rattle.spec_trace.specs.Moments.{waits}
use Rattle.slirp_app.specs.Untroubled.{CanBeFollowed, NoneComesLater, SaysUntroubled, Untroubled, before_waits, link_ended, link_octets, record_of, tells_end}
use Rattle.world_face.specs.Faults.{failures, link_failed, socket_failed, wait_failed}
use Rattle.world_face.specs.Journal.{Entry, Leaves, call_of, Wait, LinkOpen, LinkRead, LinkWrite, Connect, Connected, Listen, Accept, TcpRead, TcpWrite, TcpEnd, UdpOpen, UdpSend, UdpRecv}
use Rattle.world_face.specs.declared.Accepted.TheVariants.{From as FromPeer, NotYet as NoPeer, Failed as AcceptFailed}
use Rattle.world_face.specs.declared.Got.TheVariants.{From, NotYet as NothingGot, Failed as GotFailed}
use Rattle.world_face.specs.declared.Io.{Io}
use Rattle.world_face.specs.declared.Io.TheVariants.{Done, End, NotYet, Failed}
use Rattle.world_face.specs.declared.Joined.TheVariants.{Yes, NotYet as NotYetJoined, Failed as JoinFailed}
use Rattle.world_face.specs.declared.Made.TheVariants.{Done as MadeDone, Failed as MadeFailed}
use Rattle.world_face.specs.declared.Sent.TheVariants.{Done as SentDone, NotYet as NotYetSent, Failed as SentFailed}
use Rattle.world_face.specs.declared.Waited.TheVariants.{Ready, Stop, Failed as WaitFailed}

-- ---- what an answer tells by its text

-- begins with the two octets
abbrev begins : ℕ → ℕ → List ℕ → Bool
begins a b (x ∷ y ∷ text) = (x == a) && (y == b)
begins a b _ = false

abbrev is_fail : List ℕ → Bool
is_fail text = begins 102 97 text

abbrev is_end : List ℕ → Bool
is_end text = begins 101 110 text

abbrev of_link : CallName → Bool
of_link NameLinkOpen = true
of_link NameLinkRead = true
of_link NameLinkWrite = true
of_link _ = false

abbrev of_wait : CallName → Bool
of_wait NameWait = true
of_wait _ = false

abbrev of_socket : CallName → Bool
of_socket NameConnect = true
of_socket NameConnected = true
of_socket NameListen = true
of_socket NameAccept = true
of_socket NameTcpRead = true
of_socket NameTcpWrite = true
of_socket NameTcpEnd = true
of_socket NameUdpOpen = true
of_socket NameUdpSend = true
of_socket NameUdpRecv = true
of_socket _ = false

abbrev of_read : CallName → Bool
of_read NameLinkRead = true
of_read _ = false

abbrev said : Entry → Bool → List ℕ
said e all = cond all (codes "all") (answer_text e)

link_told : (e : Entry) (all : Bool) → (all ≡ true → TakesAll e) → link_failed e ≡ (of_link (name_of (call_of e)) && is_fail (said e all))
unfolding answer_text
link_told (LinkOpen at MadeDone) false takes = refl
link_told (LinkOpen at MadeFailed) false takes = refl
link_told (LinkOpen at answer) true takes = absurd (takes refl)
link_told (LinkRead asked (Done n) octets) false takes = refl
link_told (LinkRead asked End octets) false takes = refl
link_told (LinkRead asked NotYet octets) false takes = refl
link_told (LinkRead asked Failed octets) false takes = refl
link_told (LinkRead asked answer octets) true takes = absurd (takes refl)
link_told (LinkWrite octets (Done n)) all takes = by all
  where
    by : (b : Bool) → false ≡ (true && is_fail (said (LinkWrite octets (Done n)) b))
    by true = refl
    by false = refl
link_told (LinkWrite octets End) false takes = refl
link_told (LinkWrite octets NotYet) false takes = refl
link_told (LinkWrite octets Failed) false takes = refl
link_told (LinkWrite octets End) true takes = let no = takes refl in cc
link_told (LinkWrite octets NotYet) true takes = let no = takes refl in cc
link_told (LinkWrite octets Failed) true takes = let no = takes refl in cc
link_told _ all takes = refl

wait_told : (e : Entry) (all : Bool) → (all ≡ true → TakesAll e) → wait_failed e ≡ (of_wait (name_of (call_of e)) && is_fail (said e all))
unfolding answer_text
wait_told (Wait wants timeout answer ready) true takes = absurd (takes refl)
wait_told (Wait wants timeout Ready []) false takes = refl
wait_told (Wait wants timeout Ready (w ∷ ready)) false takes = refl
wait_told (Wait wants timeout Stop ready) false takes = refl
wait_told (Wait wants timeout WaitFailed ready) false takes = refl
wait_told _ all takes = refl

socket_told : (e : Entry) (all : Bool) → (all ≡ true → TakesAll e) → socket_failed e ≡ (of_socket (name_of (call_of e)) && is_fail (said e all))
unfolding answer_text
socket_told (Connect socket to MadeDone) false takes = refl
socket_told (Connect socket to MadeFailed) false takes = refl
socket_told (Connect socket to answer) true takes = absurd (takes refl)
socket_told (Connected socket Yes) false takes = refl
socket_told (Connected socket NotYetJoined) false takes = refl
socket_told (Connected socket JoinFailed) false takes = refl
socket_told (Connected socket answer) true takes = absurd (takes refl)
socket_told (Listen socket at MadeDone) false takes = refl
socket_told (Listen socket at MadeFailed) false takes = refl
socket_told (Listen socket at answer) true takes = absurd (takes refl)
socket_told (Accept listener socket (FromPeer peer)) false takes = refl
socket_told (Accept listener socket NoPeer) false takes = refl
socket_told (Accept listener socket AcceptFailed) false takes = refl
socket_told (Accept listener socket answer) true takes = absurd (takes refl)
socket_told (TcpRead socket asked (Done n) octets) false takes = refl
socket_told (TcpRead socket asked End octets) false takes = refl
socket_told (TcpRead socket asked NotYet octets) false takes = refl
socket_told (TcpRead socket asked Failed octets) false takes = refl
socket_told (TcpRead socket asked answer octets) true takes = absurd (takes refl)
socket_told (TcpWrite socket octets (Done n)) all takes = by all
  where
    by : (b : Bool) → false ≡ (true && is_fail (said (TcpWrite socket octets (Done n)) b))
    by true = refl
    by false = refl
socket_told (TcpWrite socket octets End) false takes = refl
socket_told (TcpWrite socket octets NotYet) false takes = refl
socket_told (TcpWrite socket octets Failed) false takes = refl
socket_told (TcpWrite socket octets End) true takes = let no = takes refl in cc
socket_told (TcpWrite socket octets NotYet) true takes = let no = takes refl in cc
socket_told (TcpWrite socket octets Failed) true takes = let no = takes refl in cc
socket_told (TcpEnd socket MadeDone) false takes = refl
socket_told (TcpEnd socket MadeFailed) false takes = refl
socket_told (TcpEnd socket answer) true takes = absurd (takes refl)
socket_told (UdpOpen socket at MadeDone) false takes = refl
socket_told (UdpOpen socket at MadeFailed) false takes = refl
socket_told (UdpOpen socket at answer) true takes = absurd (takes refl)
socket_told (UdpSend socket to octets SentDone) false takes = refl
socket_told (UdpSend socket to octets NotYetSent) false takes = refl
socket_told (UdpSend socket to octets SentFailed) false takes = refl
socket_told (UdpSend socket to octets answer) true takes = absurd (takes refl)
socket_told (UdpRecv socket asked (From peer n) octets) false takes = refl
socket_told (UdpRecv socket asked NothingGot octets) false takes = refl
socket_told (UdpRecv socket asked GotFailed octets) false takes = refl
socket_told (UdpRecv socket asked answer octets) true takes = absurd (takes refl)
socket_told _ all takes = refl

end_told : (e : Entry) (all : Bool) → (all ≡ true → TakesAll e) → tells_end e ≡ (of_read (name_of (call_of e)) && is_end (said e all))
unfolding answer_text
end_told (LinkRead asked (Done n) octets) false takes = refl
end_told (LinkRead asked End octets) false takes = refl
end_told (LinkRead asked NotYet octets) false takes = refl
end_told (LinkRead asked Failed octets) false takes = refl
end_told (LinkRead asked answer octets) true takes = absurd (takes refl)
end_told _ all takes = refl

abbrev is_a_wait : Entry → Bool
is_a_wait (Wait wants timeout answer ready) = true
is_a_wait _ = false

wait_named : (e : Entry) → is_a_wait e ≡ of_wait (name_of (call_of e))
wait_named (Wait wants timeout answer ready) = refl
wait_named _ = refl

-- ---- the octets that a read on the link brought

abbrev octets_in : Entry → List ℕ
octets_in (LinkRead asked answer octets) = octets
octets_in _ = []

none_in : (e : Entry) → of_read (name_of (call_of e)) ≡ false → octets_in e ≡ []
none_in (LinkRead asked answer octets) is = cc
none_in _ is = refl

nothing : (octets : List ℕ) → length octets ≡ 0 → octets ≡ []
nothing [] none = refl
nothing (x ∷ octets) none = absurd (omega arith)

none_both : (octets others : List ℕ) → length octets ≡ 0 → length others ≡ 0 → octets ≡ others
none_both octets others none no_other = nothing octets none ∙ sym (nothing others no_other)

same_read : (a b : Io) (octets others : List ℕ) → Leaves a octets → Leaves b others → read_text a octets ≡ read_text b others → octets ≡ others
same_read (Done n) (Done m) octets others left left_others is = same_octets octets others left.1 left_others.1 (append_cancel_left (codes "done ") (hexadecimal octets) (hexadecimal others) is)
same_read (Done n) End octets others left left_others is = absurd (omega (arith, ap first is))
same_read (Done n) NotYet octets others left left_others is = absurd (omega (arith, ap first is))
same_read (Done n) Failed octets others left left_others is = absurd (omega (arith, ap first is))
same_read End (Done m) octets others left left_others is = absurd (omega (arith, ap first is))
same_read NotYet (Done m) octets others left left_others is = absurd (omega (arith, ap first is))
same_read Failed (Done m) octets others left left_others is = absurd (omega (arith, ap first is))
same_read End End octets others left left_others is = none_both octets others left.0 left_others.0
same_read End NotYet octets others left left_others is = none_both octets others left.0 left_others.0
same_read End Failed octets others left left_others is = none_both octets others left.0 left_others.0
same_read NotYet End octets others left left_others is = none_both octets others left.0 left_others.0
same_read NotYet NotYet octets others left left_others is = none_both octets others left.0 left_others.0
same_read NotYet Failed octets others left left_others is = none_both octets others left.0 left_others.0
same_read Failed End octets others left left_others is = none_both octets others left.0 left_others.0
same_read Failed NotYet octets others left left_others is = none_both octets others left.0 left_others.0
same_read Failed Failed octets others left left_others is = none_both octets others left.0 left_others.0

read_as : (asked : ℕ) (answer : Io) (octets : List ℕ) (f : Entry) (b : Bool) → (b ≡ true → TakesAll f) → Leaves answer octets → AnswersInRange f → of_read
    (name_of (call_of f)) ≡ true → read_text answer octets ≡ said f b → octets ≡ octets_in f
unfolding answer_text
read_as asked answer octets (LinkRead n other others) true takes left range named is = absurd (takes refl)
read_as asked answer octets (LinkRead n other others) false takes left range named is = same_read answer other octets others left range is
read_as asked answer octets _ b takes left range named is = cc

same_in : (e f : Entry) (a b : Bool) → (a ≡ true → TakesAll e) → (b ≡ true → TakesAll f) → AnswersInRange e → AnswersInRange f → name_of (call_of e) ≡ name_of (call_of f) →
    said e a ≡ said f b → octets_in e ≡ octets_in f
unfolding answer_text
same_in (LinkRead asked answer octets) f true b takes takes_f range range_f name is = absurd (takes refl)
same_in (LinkRead asked answer octets) f false b takes takes_f range range_f name is = read_as asked answer octets f b takes_f range range_f (sym (ap of_read name)) is
same_in e f a b takes takes_f range range_f name is = by (of_read (name_of (call_of e))) refl
  where
    by : (reads : Bool) → of_read (name_of (call_of e)) ≡ reads → octets_in e ≡ octets_in f
    by false not_read = none_in e not_read ∙ sym (none_in f (sym (ap of_read name) ∙ not_read))
    by true read = cc

-- ---- two lines with one text

pub record Alike (e f : Entry) : Type 0 where
  pub octets : octets_in e ≡ octets_in f
  pub end : tells_end e ≡ tells_end f
  pub link : link_failed e ≡ link_failed f
  pub wait : wait_failed e ≡ wait_failed f
  pub socket : socket_failed e ≡ socket_failed f
  pub waits : is_a_wait e ≡ is_a_wait f

named_row : (row : Row) → (rest : List ℕ) × (said_call row ++ 32 ∷ [] ≡ name_text (name_of (call_of row.entry)) ++ 32 ∷ rest)
named_row row = by row.starred
  where
    by : (b : Bool) → (rest : List ℕ) × (cond b (name_text (name_of (call_of row.entry)) ++ codes " *") (call_text (call_of row.entry)) ++ 32 ∷ [] ≡ name_text
        (name_of (call_of row.entry)) ++ 32 ∷ rest)
    by true = (42 ∷ 32 ∷ [], append_assoc (name_text (name_of (call_of row.entry))) (32 ∷ 42 ∷ []) (32 ∷ []))
    by false = (args_text (call_of row.entry), named (call_of row.entry))

alike : (r s : Row) → IsReadable r → IsReadable s → row_text r ≡ row_text s → Alike r.entry s.entry
alike r s readable readable_s is =
    let body : row_body r ≡ row_body s = append_cancel_right (row_body r) (row_body s) (10 ∷ []) (sym (row_form r) ∙ is ∙ row_form s) in
    let split = parts_once 61 is_plain refl (said_call r ++ 32 ∷ []) (said_call s ++ 32 ∷ []) (32 ∷ said_answer r) (32 ∷ said_answer s) (said_plain r readable) (said_plain s readable_s) body in
    let text : said_answer r ≡ said_answer s = append_cancel_left (32 ∷ []) (said_answer r) (said_answer s) split.1 in
    let one = named_row r in
    let other = named_row s in
    let name : name_of (call_of r.entry) ≡ name_of (call_of s.entry) =
    same_name (name_of (call_of r.entry)) (name_of (call_of s.entry)) (parts_once 32 is_word refl (name_text (name_of (call_of r.entry)))
    (name_text (name_of (call_of s.entry))) one.0 other.0 (name_word (name_of (call_of r.entry))) (name_word (name_of (call_of s.entry))) (sym one.1 ∙ split.0 ∙ other.1)).0 in
    let told : (of : CallName → Bool) (test : List ℕ → Bool) → (of (name_of (call_of r.entry)) && test (said_answer r)) ≡
    (of (name_of (call_of s.entry)) && test (said_answer s)) = λ of test. ap (λ n. of n && test (said_answer r)) name ∙ ap (λ t. of (name_of (call_of s.entry)) && test t) text in
    record {
      octets = same_in r.entry s.entry r.all s.all readable.all readable_s.all readable.range.1 readable_s.range.1 name text;
      end = end_told r.entry r.all readable.all ∙ told of_read is_end ∙ sym (end_told s.entry s.all readable_s.all);
      link = link_told r.entry r.all readable.all ∙ told of_link is_fail ∙ sym (link_told s.entry s.all readable_s.all);
      wait = wait_told r.entry r.all readable.all ∙ told of_wait is_fail ∙ sym (wait_told s.entry s.all readable_s.all);
      socket = socket_told r.entry r.all readable.all ∙ told of_socket is_fail ∙ sym (socket_told s.entry s.all readable_s.all);
      waits = wait_named r.entry ∙ ap of_wait name ∙ sym (wait_named s.entry);
    }

-- ---- two traces whose lines have one text

abbrev AreAlike : List Entry → List Entry → Type 0
AreAlike [] [] = Unit {0}
AreAlike (e ∷ past) (f ∷ others) = Alike e f × AreAlike past others
AreAlike _ _ = ⊥

octets_next : (e : Entry) (past : List Entry) → link_octets (e ∷ past) ≡ link_octets past ++ octets_in e
octets_next (LinkRead asked answer octets) past = refl
octets_next _ past = sym (append-nil (link_octets past))

waits_next : (e : Entry) (past : List Entry) → waits (e ∷ past) ≡ cond (is_a_wait e) (waits past + 1) (waits past)
waits_next (Wait wants timeout answer ready) past = refl
waits_next _ past = refl

same_octets_in : (past others : List Entry) → AreAlike past others → link_octets past ≡ link_octets others
same_octets_in [] [] are = refl
same_octets_in (e ∷ past) (f ∷ others) are = octets_next e past ∙ ap (λ l. l ++ octets_in e) (same_octets_in past others are.1) ∙ ap (λ l. link_octets others ++ l) are.0.octets
    ∙ sym (octets_next f others)
same_octets_in [] (f ∷ others) are = absurd are
same_octets_in (e ∷ past) [] are = absurd are

same_end : (past others : List Entry) → AreAlike past others → link_ended past ≡ link_ended others
same_end [] [] are = refl
same_end (e ∷ past) (f ∷ others) are = ap (λ b. cond b true (link_ended past)) are.0.end ∙ ap (λ b. cond (tells_end f) true b) (same_end past others are.1)
same_end [] (f ∷ others) are = absurd are
same_end (e ∷ past) [] are = absurd are

same_failures : (of : Entry → Bool) → ((e f : Entry) → Alike e f → of e ≡ of f) → (past others : List Entry) → AreAlike past others → failures of past ≡ failures of others
same_failures of same [] [] are = refl
same_failures of same (e ∷ past) (f ∷ others) are = ap (λ b. cond b 1 0 + failures of past) (same e f are.0) ∙ ap (λ n. cond (of f) 1 0 + n) (same_failures of same past others are.1)
same_failures of same [] (f ∷ others) are = absurd are
same_failures of same (e ∷ past) [] are = absurd are

same_waits : (past others : List Entry) → AreAlike past others → waits past ≡ waits others
same_waits [] [] are = refl
same_waits (e ∷ past) (f ∷ others) are = waits_next e past ∙ ap (λ b. cond b (waits past + 1) (waits past)) are.0.waits ∙ ap (λ n. cond (is_a_wait f) (n + 1) n)
    (same_waits past others are.1) ∙ sym (waits_next f others)
same_waits [] (f ∷ others) are = absurd are
same_waits (e ∷ past) [] are = absurd are

alike_before : (past others : List Entry) → AreAlike past others → AreAlike (before_waits past) (before_waits others)
alike_before [] [] are = tt
alike_before (e ∷ past) (f ∷ others) are = by (waits (e ∷ past) == 0) (waits (f ∷ others) == 0) (ap (λ n. n == 0) (same_waits (e ∷ past) (f ∷ others) are)) (alike_before past others are.1)
  where
    by : (a b : Bool) → a ≡ b → AreAlike (before_waits past) (before_waits others) → AreAlike (cond a (e ∷ past) (before_waits past)) (cond b (f ∷ others) (before_waits others))
    by true true is rest = are
    by false false is rest = rest
    by true false is rest = cc
    by false true is rest = cc
alike_before [] (f ∷ others) are = absurd are
alike_before (e ∷ past) [] are = absurd are

untroubled_as : (config : Config) (past others : List Entry) → AreAlike past others → Untroubled config others → Untroubled config past
untroubled_as config past others are u = record {
  frames = u.frames;
  may_come = u.may_come;
  left = u.left;
  came = ap (λ l. l ++ u.left) (same_octets_in past others are) ∙ u.came;
  whole = λ ended. u.whole (sym (same_end past others are) ∙ ended);
  link = same_failures link_failed (λ e f one. one.link) past others are ∙ u.link;
  wait = same_failures wait_failed (λ e f one. one.wait) past others are ∙ u.wait;
  ports = same_failures socket_failed (λ e f one. one.socket) (before_waits past) (before_waits others) (alike_before past others are) ∙ u.ports;
  fewer = subst (λ n. n < config.turns) (sym (same_waits past others are)) u.fewer;
}

-- ---- what was before is untroubled, too

ended_before : (told before : Bool) → before ≡ true → cond told true before ≡ true
ended_before true before is = refl
ended_before false before is = is

fewer_first : (b : Bool) (n : ℕ) → cond b 1 0 + n ≡ 0 → n ≡ 0
fewer_first true n is = omega arith
fewer_first false n is = omega arith

fewer_before : (of : Entry → Bool) (e : Entry) (past : List Entry) → failures of (before_waits (e ∷ past)) ≡ 0 → failures of (before_waits past) ≡ 0
fewer_before of e past none = by (waits (e ∷ past) == 0) refl none
  where
    all_before : (list : List Entry) → waits list ≡ 0 → before_waits list ≡ list
    all_before [] is = refl
    all_before (d ∷ list) is = at (waits (d ∷ list) == 0) refl
      where
        at : (b : Bool) → (waits (d ∷ list) == 0) ≡ b → cond b (d ∷ list) (before_waits list) ≡ d ∷ list
        at true zero_waits = refl
        at false some_waits = grind (arith, nat_tests)

    fewer : (b : Bool) → cond b (waits past + 1) (waits past) ≡ 0 → waits past ≡ 0
    fewer true is = absurd (omega arith)
    fewer false is = is

    by : (b : Bool) → (waits (e ∷ past) == 0) ≡ b → failures of (cond b (e ∷ past) (before_waits past)) ≡ 0 → failures of (before_waits past) ≡ 0
    by true test nothing_failed =
        let zero_waits : waits (e ∷ past) ≡ 0 = grind (arith, nat_tests) in
        let list : before_waits past ≡ past = all_before past (fewer (is_a_wait e) (sym (waits_next e past) ∙ zero_waits)) in
        ap (failures of) list ∙ fewer_first (of e) (failures of past) nothing_failed
    by false test nothing_failed = nothing_failed

waits_before : (b : Bool) (n turns : ℕ) → cond b (n + 1) n < turns → n < turns
waits_before true n turns is = omega arith
waits_before false n turns is = is

untroubled_before : (config : Config) (e : Entry) (past : List Entry) → NoneComesLater (e ∷ past) → Untroubled config (e ∷ past) → Untroubled config past
untroubled_before config e past none_later u = record {
  frames = u.frames;
  may_come = u.may_come;
  left = octets_in e ++ u.left;
  came = sym (append_assoc (link_octets past) (octets_in e) u.left) ∙ ap (λ l. l ++ u.left) (sym (octets_next e past)) ∙ u.came;
  whole = λ ended.
      let none : octets_in e ≡ [] = append_cancel_left (link_octets past) (octets_in e) [] (sym (octets_next e past) ∙ none_later.0 ended ∙ sym (append-nil (link_octets past))) in
      ap (λ l. l ++ u.left) none ∙ u.whole (ended_before (tells_end e) (link_ended past) ended);
  link = fewer_first (link_failed e) (failures link_failed past) u.link;
  wait = fewer_first (wait_failed e) (failures wait_failed past) u.wait;
  ports = fewer_before socket_failed e past u.ports;
  fewer = waits_before (is_a_wait e) (waits past) config.turns (subst (λ n. n < config.turns) (waits_next e past) u.fewer);
}

record Upto (config : Config) (past : List Entry) : Type 0 where
  untroubled : Untroubled config past
  none_later : NoneComesLater past

upto : (config : Config) (rows : List Row) (past : List Entry) → Untroubled config (record_of rows past) → NoneComesLater (record_of rows past) → Upto config past
upto config [] past u none_later = record { untroubled = u; none_later = none_later }
upto config (row ∷ rows) past u none_later =
    let next = upto config rows (row.entry ∷ past) u none_later in
    record { untroubled = untroubled_before config row.entry past next.none_later next.untroubled; none_later = next.none_later.1 }

-- ---- what fits the lines of a schedule has the text of the first ones

abbrev turned : List Row → List Row → List Row
turned [] back = back
turned (row ∷ front) back = turned front (row ∷ back)

record_turned : (front back : List Row) → record_of (turned front back) [] ≡ record_of back (entries_of front)
record_turned [] back = refl
record_turned (row ∷ front) back = record_turned front (row ∷ back)

readable_back : (front back : List Row) → AreReadable (turned front back) → AreReadable back
readable_back [] back are = are
readable_back (row ∷ front) back are = (readable_back front (row ∷ back) are).1

record Split (lines rows : List Row) (rest : List ℕ) : Type 0 where
  front : List Row
  back : List Row
  is : lines ≡ turned front back
  left : rest ≡ schedule_text back
  are_alike : AreAlike (entries_of rows) (entries_of front)

next_line : (lines rows : List Row) (row : Row) (rest : List ℕ) → IsReadable row → AreReadable lines → Split lines rows (row_text row ++ rest) → Split lines (row ∷ rows) rest
next_line lines rows row rest readable all before = by before.back before.is before.left
  where
    by : (back : List Row) → lines ≡ turned before.front back → row_text row ++ rest ≡ schedule_text back → Split lines (row ∷ rows) rest
    by [] is left = absurd (some_row row rest (sym left))
    by (r ∷ back) is left =
        let readable_r = (readable_back before.front (r ∷ back) (subst AreReadable is all)).0 in
        let after = after_line row r rest (schedule_text back) readable readable_r left in
        let same : row_text row ≡ row_text r = append_cancel_right (row_text row) (row_text r) rest (left ∙ ap (λ l. row_text r ++ l) (sym after)) in
        record { front = r ∷ before.front; back = back; is = is; left = after; are_alike = (alike row r readable readable_r same, before.are_alike) }

split : (lines rows : List Row) (rest : List ℕ) → AreReadable rows → AreReadable lines → turned_text rows ++ rest ≡ schedule_text lines → Split lines rows rest
split lines [] rest readable all is = record { front = []; back = lines; is = refl; left = is; are_alike = tt }
split lines (row ∷ rows) rest readable all is = next_line lines rows row rest readable.0 all (split lines rows (row_text row ++ rest) readable.1 all
    (sym (append_assoc (turned_text rows) (row_text row) rest) ∙ is))

pub can_be_followed : (config : Config) (schedule : List ℕ) → SaysUntroubled config schedule → CanBeFollowed config schedule
can_be_followed config schedule says journal fits allowed lawful =
    let at = split says.rows fits.before.rows fits.rest fits.before.readable says.readable (sym fits.before.is ∙ says.is) in
    let form : record_of says.rows [] ≡ record_of at.back (entries_of at.front) = ap (λ l. record_of l []) at.is ∙ record_turned at.front at.back in
    let first = upto config at.back (entries_of at.front) (subst (Untroubled config) form says.untroubled) (subst NoneComesLater form says.none_later) in
    subst (Untroubled config) fits.before.entries (untroubled_as config (entries_of fits.before.rows) (entries_of at.front) at.are_alike first.untroubled)
