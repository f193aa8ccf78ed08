-- Each call of a turn has its cause: a report that is left, what is due, or what came or goes out by it.
use Rattle.std.proofs.Common.{◌≡◌, ℕ, ◌+◌, ◌≤◌, ◌||◌, not, Bool, true, false, List, [], ◌∷◌, ◌++◌, length, drop, Option, if◌then◌else◌, refl, sym, ◌∙◌, ap, subst, arith}
use Rattle.std.proofs.lemmas.Bool.Decides.{nat_tests}
use Rattle.poll_list.specs.declared.Want.{Want}
use Rattle.poll_list.specs.declared.Who.TheVariants.{Link, Listener as AListener, Tcp, Udp}
use Rattle.world_face.specs.Frames.{is_blocked, is_whole, partial, tail}
use Rattle.world_face.specs.Journal.{Allowed, AreAllowed, Entry, Now, Wait, LinkOpen, LinkRead, LinkWrite, Connect, Connected, Listen, Accept, TcpRead, TcpWrite, TcpEnd, Close, UdpOpen}
use Rattle.world_face.specs.Journal.{UdpSend, UdpRecv, FileLen, FileRead, CallWait}
use Rattle.world_face.specs.declared.Io.{Io}
use Rattle.world_face.specs.declared.Io.TheVariants.{Done, End, NotYet, Failed}
use Rattle.world_face.specs.declared.Waited.{Waited}
use Rattle.slirp_settings.specs.Addresses.{Config}
use Rattle.spec_flows.specs.Book.{book}
use Rattle.spec_flows.specs.SegmentVerdicts.{connects_to}
use Rattle.spec_flows.specs.Segments.{segment_came}
use Rattle.spec_trace.specs.Fragments.{waiting}
use Rattle.spec_trace.specs.Happenings.{arrival_of, happens}
use Rattle.spec_trace.specs.Moments.{moment}
use Rattle.spec_trace.specs.Shape.{phase}
use Rattle.spec_run.specs.Agenda.{agenda, behind, from, reads_on, was_written_for}
use Rattle.spec_run.specs.Answers.{files_after, ledger, serving}
use Rattle.spec_run.specs.Asking.{step, step_of}
use Rattle.spec_run.specs.Errands.{errand_after, errand_left}
use Rattle.spec_run.specs.Laws.{May, Lawful, has_just_written}
use Rattle.spec_run.proofs.Bools.{same}
use Rattle.spec_run.proofs.FileCalls.{settled}
use Rattle.spec_turns.specs.Tally.{most_calls, tally}
use Rattle.spec_turns.proofs.Asking.{it_came}
use Rattle.spec_turns.proofs.Ends.{told, untold}
use Rattle.spec_turns.proofs.Errands.{calls_for, came_by, idle_none, in_turn, no_more, none_for, sent_once}
use Rattle.spec_turns.proofs.Parts.{NoWait, asked_once, begun_clock, listened_once, opened_once, by_packet, calls_on_clock, calls_on_files, calls_on_link, calls_to_connect, clock_stays}
use Rattle.spec_turns.proofs.Parts.{connects_once, measured_file, none_to_connect, one_to_connect, taken_file, two_on_link, written_files, written_link}
use Rattle.spec_turns.proofs.Reports.{at_wait, fronts, in_front, is_ended, is_passed, is_read, is_written}

-- how many calls may still come for what there is
abbrev reports : List Entry → ℕ
reports past = fronts (λ n. told past n) (agenda past)

abbrev clock : Config → List Entry → ℕ
clock config past = calls_on_clock (phase config past)

abbrev link : List Entry → ℕ
link past = calls_on_link (is_blocked past) (tail past)

abbrev asks : Config → List Entry → ℕ
asks config past = calls_for (step config past)

abbrev files : Config → List Entry → ℕ
files config past = calls_on_files (serving config past).files.quest

abbrev connects : Config → List Entry → ℕ
connects config past = calls_to_connect (connects_to config (book config past))

abbrev Few : Config → List Entry → Type 0
Few config past = (tally config past).calls + (reports past + clock config past + link past + asks config past + files config past + connects config past) ≤ most_calls (tally config past)

-- a wait begins anew
begins : (config : Config) (past : List Entry) (wants : List Want) (timeout : Option ℕ) (answer : Waited) (ready : List Want) → Lawful config past → AreAllowed past →
    May config past (CallWait wants timeout)
    → Few config (Wait wants timeout answer ready ∷ past)
begins config past wants timeout answer ready lawful allowed may =
    let e = Wait wants timeout answer ready in
    let one = at_wait (λ n. told (e ∷ past) n) wants ready in
    let two = begun_clock config past wants timeout answer ready in
    let three = two_on_link (is_blocked (e ∷ past)) (tail (e ∷ past)) in
    let four = none_for config (e ∷ past) (idle_none config past (CallWait wants timeout) may tt (in_turn config past lawful allowed)) in
    let five : files config (e ∷ past) ≡ 0 = ap calls_on_files (settled config past (CallWait wants timeout) (λ never. never) may) in
    let six = none_to_connect config e past refl in
    omega (arith, one, two, three, four, five, six)

-- what was just written to has its item in front
just_written : (config : Config) (socket : ℕ) (past : List Entry) → Lawful config past → has_just_written socket past ≡ true → was_written_for socket (agenda past) ≡ true
just_written config socket [] lawful is = cc
just_written config socket (TcpWrite s octets answer ∷ past) lawful is =
    let this : s ≡ socket = grind (arith, nat_tests, is) in
    subst (λ n. was_written_for n (agenda (TcpWrite s octets answer ∷ past)) ≡ true) this (in_front s (agenda past) lawful.0.served)
just_written config socket (_ ∷ past) lawful is = cc

-- ---- the link is read

stops : (answer : Io) (octets : List ℕ) → is_whole octets ≡ true → reads_on answer octets ≡ false
stops (Done n) octets is = ap not is
stops End octets is = refl
stops NotYet octets is = refl
stops Failed octets is = refl

brought : (asked : ℕ) (answer : Io) (octets so_far : List ℕ) → Allowed (LinkRead asked answer octets) → reads_on answer so_far ≡ true → 1 ≤ length octets
brought asked (Done n) octets so_far allowed is = let many = allowed.1.0 in let some = allowed.0.0 in omega (arith, many, some)
brought asked End octets so_far allowed is = cc
brought asked NotYet octets so_far allowed is = cc
brought asked Failed octets so_far allowed is = cc

module _ (config : Config) (past : List Entry) (asked : ℕ) (answer : Io) (octets : List ℕ) (lawful : Lawful config (LinkRead asked answer octets ∷ past))
    (allowed : AreAllowed (LinkRead asked answer octets ∷ past)) where
  abbrev read_now : List Entry
  read_now = LinkRead asked answer octets ∷ past

  whole_read : is_whole (partial past ++ octets) ≡ true → reports read_now + asks config read_now + files config read_now + connects config read_now ≤ reports past + files config past
  whole_read whole =
      let fewer = is_read (λ n. told past n) (λ n. told past n) Link (agenda past) lawful.0.served in
      let rest : reports read_now ≡ fronts (λ n. told past n) (behind Link (agenda past)) = ap
      (λ (b : Bool). fronts (λ n. told past n) (if b then from Link (agenda past) else behind Link (agenda past))) (stops answer (partial past ++ octets) whole) in
      let most : asks config read_now + files config read_now + connects config read_now ≤ 2 + files config past =
      subst (λ b. calls_for (step_of config read_now (errand_after config (LinkRead asked answer octets) (came_by config past asked answer octets b) (errand_left config past)))
      + calls_on_files (files_after config past (happens config past (LinkRead asked answer octets)) (came_by config past asked answer octets b)
      (ledger config past)).quest + connects config read_now ≤ 2 + files config past) (sym whole)
      (by_packet config read_now (serving config past) (connects config read_now) (one_to_connect (connects_to config (book config read_now)))
      (arrival_of config (moment past) (waiting config past) (drop 4 (partial past ++ octets))).packet
      (λ none. none_to_connect config (LinkRead asked answer octets) past (ap (λ b. segment_came (came_by config past asked answer octets b)) whole ∙ none))) in
      omega (arith, fewer, rest, most)

  part_reports : reports read_now + 1 ≤ reports past + length octets
  part_reports = by (reads_on answer (partial past ++ octets)) refl
    where
      by : (b : Bool) → reads_on answer (partial past ++ octets) ≡ b → fronts (λ n. told past n) (if b then from Link (agenda past) else behind Link (agenda past)) + 1 ≤ reports past + length octets
      by true on = let less = is_passed (λ n. told past n) Link (agenda past) in let some = brought asked answer octets (partial past ++ octets) allowed.0 on in omega (arith, less, some)
      by false off = let fewer = is_read (λ n. told past n) (λ n. told past n) Link (agenda past) lawful.0.served in omega (arith, fewer)

  part_read : is_whole (partial past ++ octets) ≡ false → reports read_now + asks config read_now + files config read_now + connects config read_now + 1 ≤ reports past + asks
      config past + files config past + length octets
  part_read part =
      let one = part_reports in
      let two = no_more config (LinkRead asked answer octets) past lawful.0 (in_turn config past lawful.1 allowed.1) tt
      (ap (λ b. errand_after config (LinkRead asked answer octets) (came_by config past asked answer octets b) (errand_left config past)) part) in
      let three : files config read_now ≡ files config past = ap (λ b. calls_on_files (files_after config past (happens config past (LinkRead asked answer octets))
      (came_by config past asked answer octets b) (ledger config past)).quest) part in
      let four = none_to_connect config (LinkRead asked answer octets) past (ap (λ b. segment_came (came_by config past asked answer octets b)) part) in
      omega (arith, one, two, three, four)

  link_read : reports read_now + asks config read_now + files config read_now + connects config read_now + 1 ≤ reports past + asks config past + files config past + length octets
  link_read = by (is_whole (partial past ++ octets)) refl
    where
      by : (b : Bool) → is_whole (partial past ++ octets) ≡ b → reports read_now + asks config read_now + files config read_now + connects config read_now + 1 ≤ reports past + asks
          config past + files config past + length octets
      by true whole = let less = whole_read whole in let some = (it_came config past asked answer octets lawful.1 allowed.1 lawful.0 allowed.0 whole).some in omega (arith, less, some)
      by false part = part_read part

-- ---- each call

module _ (config : Config) (past : List Entry) (few : Few config past) where
  few_on : (e : Entry) → NoWait e → Lawful config (e ∷ past) → AreAllowed (e ∷ past) → Few config (e ∷ past)
  few_on (Wait wants timeout answer ready) turn lawful allowed = absurd turn
  few_on (Now moment) turn lawful allowed =
      let one = asked_once config past moment lawful.0 in
      let two = no_more config (Now moment) past lawful.0 (in_turn config past lawful.1 allowed.1) tt refl in
      let three = none_to_connect config (Now moment) past refl in
      omega (arith, few, one, two, three)
  few_on (LinkOpen at answer) turn lawful allowed = absurd (never lawful.0.place)
    where
      never : false ≡ true → ⊥
      never is = cc
  few_on (LinkRead asked answer octets) turn lawful allowed =
      let one = link_read config past asked answer octets lawful allowed in
      let two = clock_stays config (LinkRead asked answer octets) past tt in
      omega (arith, few, one, two)
  few_on (LinkWrite octets answer) turn lawful allowed =
      let one = written_link config past octets answer lawful.0 allowed.0.0 in
      let two = no_more config (LinkWrite octets answer) past lawful.0 (in_turn config past lawful.1 allowed.1) tt refl in
      let three = none_to_connect config (LinkWrite octets answer) past refl in
      let four = written_files config past octets answer in
      let five = clock_stays config (LinkWrite octets answer) past tt in
      omega (arith, few, one, two, three, four, five)
  few_on (Connect socket to answer) turn lawful allowed =
      let one = connects_once config past socket to lawful.0 in
      let two = no_more config (Connect socket to answer) past lawful.0 (in_turn config past lawful.1 allowed.1) tt refl in
      let three = none_to_connect config (Connect socket to answer) past refl in
      let five = clock_stays config (Connect socket to answer) past tt in
      omega (arith, few, one, two, three, five)
  few_on (Connected socket answer) turn lawful allowed =
      let one = is_written (λ n. told past n) (λ n. told past n) socket (agenda past) lawful.0.served in
      let two = no_more config (Connected socket answer) past lawful.0 (in_turn config past lawful.1 allowed.1) tt refl in
      let three = none_to_connect config (Connected socket answer) past refl in
      let five = clock_stays config (Connected socket answer) past tt in
      omega (arith, few, one, two, three, five)
  few_on (Listen socket at answer) turn lawful allowed =
      let one = listened_once config past socket at answer lawful.0 in
      let two = no_more config (Listen socket at answer) past lawful.0 (in_turn config past lawful.1 allowed.1) tt refl in
      let three = none_to_connect config (Listen socket at answer) past refl in
      omega (arith, few, one, two, three)
  few_on (Accept listener socket answer) turn lawful allowed =
      let one = is_read (λ n. told past n) (λ n. told past n) (AListener listener) (agenda past) lawful.0.served in
      let two = no_more config (Accept listener socket answer) past lawful.0 (in_turn config past lawful.1 allowed.1) tt refl in
      let three = none_to_connect config (Accept listener socket answer) past refl in
      let five = clock_stays config (Accept listener socket answer) past tt in
      omega (arith, few, one, two, three, five)
  few_on (TcpRead socket asked answer octets) turn lawful allowed =
      let one = is_read (λ n. told past n) (λ n. told past n) (Tcp socket) (agenda past) lawful.0.served in
      let two = no_more config (TcpRead socket asked answer octets) past lawful.0 (in_turn config past lawful.1 allowed.1) tt refl in
      let three = none_to_connect config (TcpRead socket asked answer octets) past refl in
      let five = clock_stays config (TcpRead socket asked answer octets) past tt in
      omega (arith, few, one, two, three, five)
  few_on (TcpWrite socket octets answer) turn lawful allowed =
      let one = is_written (λ n. told past n) (λ n. told past n) socket (agenda past) lawful.0.served in
      let two = no_more config (TcpWrite socket octets answer) past lawful.0 (in_turn config past lawful.1 allowed.1) tt refl in
      let three = none_to_connect config (TcpWrite socket octets answer) past refl in
      let five = clock_stays config (TcpWrite socket octets answer) past tt in
      omega (arith, few, one, two, three, five)
  few_on (TcpEnd socket answer) turn lawful allowed =
      let one = is_ended (λ n. told past n) (λ n. told (TcpEnd socket answer ∷ past) n) socket (agenda past) (has_just_written socket past) lawful.0.served
      (just_written config socket past lawful.1) (untold config socket past lawful.1 lawful.0)
      (ap (λ b. b || told past socket) (same socket)) in
      let two = no_more config (TcpEnd socket answer) past lawful.0 (in_turn config past lawful.1 allowed.1) tt refl in
      let three = none_to_connect config (TcpEnd socket answer) past refl in
      let five = clock_stays config (TcpEnd socket answer) past tt in
      omega (arith, few, one, two, three, five)
  few_on (Close socket) turn lawful allowed =
      let two = no_more config (Close socket) past lawful.0 (in_turn config past lawful.1 allowed.1) tt refl in
      let three = none_to_connect config (Close socket) past refl in
      let five = clock_stays config (Close socket) past tt in
      omega (arith, few, two, three, five)
  few_on (UdpOpen socket at answer) turn lawful allowed =
      let two = opened_once config past socket at answer lawful.0 lawful.1 in
      let three = none_to_connect config (UdpOpen socket at answer) past refl in
      omega (arith, few, two, three)
  few_on (UdpSend socket to octets answer) turn lawful allowed =
      let two = sent_once config past socket to octets answer lawful.0 in
      let three = none_to_connect config (UdpSend socket to octets answer) past refl in
      let five = clock_stays config (UdpSend socket to octets answer) past tt in
      omega (arith, few, two, three, five)
  few_on (UdpRecv socket asked answer octets) turn lawful allowed =
      let one = is_read (λ n. told past n) (λ n. told past n) (Udp socket) (agenda past) lawful.0.served in
      let two = no_more config (UdpRecv socket asked answer octets) past lawful.0 (in_turn config past lawful.1 allowed.1) tt refl in
      let three = none_to_connect config (UdpRecv socket asked answer octets) past refl in
      let five = clock_stays config (UdpRecv socket asked answer octets) past tt in
      omega (arith, few, one, two, three, five)
  few_on (FileLen name answer) turn lawful allowed =
      let two = no_more config (FileLen name answer) past lawful.0 (in_turn config past lawful.1 allowed.1) tt refl in
      let three = none_to_connect config (FileLen name answer) past refl in
      let four = measured_file config past name answer lawful.0 in
      let five = clock_stays config (FileLen name answer) past tt in
      omega (arith, few, two, three, four, five)
  few_on (FileRead name place asked answer octets) turn lawful allowed =
      let two = no_more config (FileRead name place asked answer octets) past lawful.0 (in_turn config past lawful.1 allowed.1) tt refl in
      let three = none_to_connect config (FileRead name place asked answer octets) past refl in
      let four = taken_file config past name place asked answer octets lawful.0 allowed.0.0 allowed.0.1.0 in
      let five = clock_stays config (FileRead name place asked answer octets) past tt in
      omega (arith, few, two, three, four, five)

few_calls : (config : Config) (past : List Entry) → Lawful config past → AreAllowed past → Few config past
few_calls config [] lawful allowed = omega arith
few_calls config (e ∷ past) lawful allowed = by e lawful allowed (few_calls config past lawful.1 allowed.1)
  where
    by : (e : Entry) → Lawful config (e ∷ past) → AreAllowed (e ∷ past) → Few config past → Few config (e ∷ past)
    by (Wait wants timeout answer ready) lawful allowed few = begins config past wants timeout answer ready lawful.1 allowed.1 lawful.0
    by (Now moment) lawful allowed few = few_on config past few (Now moment) tt lawful allowed
    by (LinkOpen at answer) lawful allowed few = few_on config past few (LinkOpen at answer) tt lawful allowed
    by (LinkRead asked answer octets) lawful allowed few = few_on config past few (LinkRead asked answer octets) tt lawful allowed
    by (LinkWrite octets answer) lawful allowed few = few_on config past few (LinkWrite octets answer) tt lawful allowed
    by (Connect socket to answer) lawful allowed few = few_on config past few (Connect socket to answer) tt lawful allowed
    by (Connected socket answer) lawful allowed few = few_on config past few (Connected socket answer) tt lawful allowed
    by (Listen socket at answer) lawful allowed few = few_on config past few (Listen socket at answer) tt lawful allowed
    by (Accept listener socket answer) lawful allowed few = few_on config past few (Accept listener socket answer) tt lawful allowed
    by (TcpRead socket asked answer octets) lawful allowed few = few_on config past few (TcpRead socket asked answer octets) tt lawful allowed
    by (TcpWrite socket octets answer) lawful allowed few = few_on config past few (TcpWrite socket octets answer) tt lawful allowed
    by (TcpEnd socket answer) lawful allowed few = few_on config past few (TcpEnd socket answer) tt lawful allowed
    by (Close socket) lawful allowed few = few_on config past few (Close socket) tt lawful allowed
    by (UdpOpen socket at answer) lawful allowed few = few_on config past few (UdpOpen socket at answer) tt lawful allowed
    by (UdpSend socket to octets answer) lawful allowed few = few_on config past few (UdpSend socket to octets answer) tt lawful allowed
    by (UdpRecv socket asked answer octets) lawful allowed few = few_on config past few (UdpRecv socket asked answer octets) tt lawful allowed
    by (FileLen name answer) lawful allowed few = few_on config past few (FileLen name answer) tt lawful allowed
    by (FileRead name place asked answer octets) lawful allowed few = few_on config past few (FileRead name place asked answer octets) tt lawful allowed

-- so a turn makes few
pub makes_few : (config : Config) (past : List Entry) → Lawful config past → AreAllowed past → (tally config past).calls ≤ most_calls (tally config past)
makes_few config past lawful allowed = let few = few_calls config past lawful allowed in omega (arith, few)
