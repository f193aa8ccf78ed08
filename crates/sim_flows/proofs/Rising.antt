-- The flows in TIME-WAIT stand in the order of time: none since a later moment than one behind it, and none since a moment that is to come.
use Rattle.std.proofs.Common.{◌≡◌, ℕ, ◌+◌, ◌<◌, ◌≤◌, ◌==◌, not, Bool, true, false, cond, List, [], ◌∷◌, ◌++◌, length, drop, filter, is_some, Option, Some, None, if◌then◌else◌, nat_le}
use Rattle.std.proofs.Common.{nat_lt, refl, ◌∙◌, ap, arith}
use Rattle.std.proofs.lemmas.Bool.Decides.{nat_tests}
use Rattle.net_octets.specs.declared.Endpoint.{Endpoint}
use Rattle.world_face.specs.Journal.{Entry, Now, Wait, LinkOpen, LinkRead, LinkWrite, Connect, Connected, Listen, Accept, TcpRead, TcpWrite, TcpEnd, Close, UdpOpen, UdpSend, UdpRecv}
use Rattle.world_face.specs.Journal.{FileLen, FileRead}
use Rattle.slirp_settings.specs.Addresses.{Config}
use Rattle.spec_flow.specs.Event.{Segment, Accepts}
use Rattle.spec_flow.specs.Flow.{first_number}
use Rattle.spec_flow.specs.Close.{ends_time_wait, renews, in_time_wait_since}
use Rattle.spec_trace.specs.Moments.{moment, moment_after}
use Rattle.spec_flows.specs.Book.{after_close, after_segment, book, doom, is_refused, is_young, joins_for, make_room, opens, port_of, time_wait, scene, tuple_for, turned, visits_for, with_room, without}
use Rattle.spec_flows.specs.Doings.{Doing, Nothing, Comes, Goes, Resolves, Pauses, Joins, Visits, Calls, Shuts, doing}
use Rattle.spec_flows.specs.Flows.{Flow, TimeWait, Book, Scene, owner, flow_of, is_among_time_waits, used}
use Rattle.spec_flows.specs.Segments.{OnTuple}
use Rattle.sim_flows.specs.Seats.{AreFrom, Rise}

-- each is in TIME-WAIT since this moment or an earlier one
abbrev pub AreBy : ℕ → List TimeWait → Type 0
AreBy now [] = Unit {0}
AreBy now (r ∷ time_waits) = (r.since ≤ now) × AreBy now time_waits

abbrev pub IsRising : ℕ → List TimeWait → Type 0
IsRising now time_waits = Rise time_waits × AreBy now time_waits

by_later : (now later : ℕ) → now ≤ later → (time_waits : List TimeWait) → AreBy now time_waits → AreBy later time_waits
by_later now later follows [] by = tt
by_later now later follows (r ∷ time_waits) by = (omega (arith, follows, by.0), by_later now later follows time_waits by.1)

from_more : (m now : ℕ) (time_waits : List TimeWait) (n : ℕ) → m ≤ now → AreFrom m time_waits → AreFrom m (time_waits ++ time_wait n now ∷ [])
from_more m now [] n le from = (le, tt)
from_more m now (r ∷ time_waits) n le from = (from.0, from_more m now time_waits n le from.1)

pub rising_more : (now n : ℕ) (time_waits : List TimeWait) → IsRising now time_waits → IsRising now (time_waits ++ time_wait n now ∷ [])
rising_more now n [] rising = ((tt, tt), (omega arith, tt))
rising_more now n (r ∷ time_waits) rising =
    let time_wait_of = rising_more now n time_waits (rising.0.1, rising.1.1) in
    ((from_more r.since now time_waits n rising.1.0 rising.0.0, time_wait_of.0), (rising.1.0, time_wait_of.1))

from_fewer : (m : ℕ) (test : TimeWait → Bool) (time_waits : List TimeWait) → AreFrom m time_waits → AreFrom m (filter test time_waits)
from_fewer m test [] from = tt
from_fewer m test (r ∷ time_waits) from = by_test (test r) (from_fewer m test time_waits from.1)
  where
    by_test : (b : Bool) → AreFrom m (filter test time_waits) → AreFrom m (cond b (r ∷ filter test time_waits) (filter test time_waits))
    by_test true time_wait = (from.0, time_wait)
    by_test false time_wait = time_wait

pub rising_fewer : (now : ℕ) (test : TimeWait → Bool) (time_waits : List TimeWait) → IsRising now time_waits → IsRising now (filter test time_waits)
rising_fewer now test [] rising = rising
rising_fewer now test (r ∷ time_waits) rising = by_test (test r) (rising_fewer now test time_waits (rising.0.1, rising.1.1))
  where
    by_test : (b : Bool) → IsRising now (filter test time_waits) → IsRising now (cond b (r ∷ filter test time_waits) (filter test time_waits))
    by_test true time_wait = ((from_fewer r.since test time_waits rising.0.0, time_wait.0), (rising.1.0, time_wait.1))
    by_test false time_wait = time_wait

pub rising_behind : (now : ℕ) (time_waits : List TimeWait) → IsRising now time_waits → IsRising now (drop 1 time_waits)
rising_behind now [] rising = rising
rising_behind now (r ∷ time_waits) rising = (rising.0.1, rising.1.1)

module _ (config : Config) (sc : Scene) (b : Book) (rising : IsRising sc.moment b.time_waits) where
  heard : (segment : Segment) (o : Option Flow) → IsRising sc.moment (after_segment sc.moment segment o b.time_waits)
  heard segment None = rising
  heard segment (Some f) = by_tests (not (is_among_time_waits b.time_waits (Some f))) (ends_time_wait f.story segment) (renews segment)
    where
      fewer : IsRising sc.moment (without f.number b.time_waits)
      fewer = rising_fewer sc.moment (λ r. not (r.number == f.number)) b.time_waits rising

      by_tests : (out ends anew : Bool) → IsRising sc.moment (if out then b.time_waits
          else (if ends then without f.number b.time_waits else (if anew then without f.number b.time_waits ++ (time_wait f.number sc.moment ∷ []) else b.time_waits)))
      by_tests true ends anew = rising
      by_tests false true anew = fewer
      by_tests false false true = rising_more sc.moment f.number (without f.number b.time_waits) fewer
      by_tests false false false = rising

  closed : (o : Option Flow) → IsRising sc.moment (after_close sc.moment o b.time_waits)
  closed None = rising
  closed (Some f) = by_test (is_some (in_time_wait_since f.story))
    where
      by_test : (t : Bool) → IsRising sc.moment (if t then b.time_waits ++ (time_wait f.number sc.moment ∷ []) else b.time_waits)
      by_test true = rising_more sc.moment f.number b.time_waits rising
      by_test false = rising

  roomy : IsRising sc.moment (with_room config b)
  roomy = by_test (nat_le config.flows (used b.flows + length b.time_waits))
    where
      by_test : (t : Bool) → IsRising sc.moment (if t then drop 1 b.time_waits else b.time_waits)
      by_test true = rising_behind sc.moment b.time_waits rising
      by_test false = rising

  room : (o : Option Flow) → IsRising sc.moment (make_room config o b)
  room None = roomy
  room (Some f) = by_test (is_among_time_waits b.time_waits (Some f))
    where
      by_test : (t : Bool) → IsRising sc.moment (if t then without f.number b.time_waits else with_room config b)
      by_test true = rising_fewer sc.moment (λ r. not (r.number == f.number)) b.time_waits rising
      by_test false = roomy

  joined : (socket : ℕ) (came : Option OnTuple) → IsRising sc.moment (joins_for config sc.moment socket came b).time_waits
  joined socket None = rising
  joined socket (Some on) = room (owner on.tuple b.flows)

  visited : (socket : ℕ) (peer : Endpoint) (port : Option Endpoint) → IsRising sc.moment (visits_for config sc.moment socket peer port b).time_waits
  visited socket peer None = rising
  visited socket peer (Some guest) = by_test (is_refused config guest peer b)
    where
      by_test : (t : Bool) → IsRising sc.moment (if t then doom socket b
          else opens config sc.moment socket (tuple_for config guest peer) (Accepts (first_number sc.moment (length b.flows))) b).time_waits
      by_test true = rising
      by_test false = room (owner (tuple_for config guest peer) b.flows)

  turned_rising : (d : Doing) → IsRising sc.moment (turned config sc d b).time_waits
  turned_rising Nothing = rising
  turned_rising (Comes on) = heard on.segment (owner on.tuple b.flows)
  turned_rising (Goes on) = rising
  turned_rising (Resolves guest) = rising
  turned_rising Pauses = rising_fewer sc.moment (is_young sc.moment) b.time_waits rising
  turned_rising (Joins socket) = joined socket b.came
  turned_rising (Visits listener socket peer) = visited socket peer (port_of config listener)
  turned_rising (Calls socket e) = rising
  turned_rising (Shuts socket) = closed (flow_of socket (turned config sc (Shuts socket) b).flows)

later : (e : Entry) (m : ℕ) → m ≤ moment_after e m
later (Now told) m = omega arith
later (Wait wants timeout answer ready) m = omega arith
later (LinkOpen at answer) m = omega arith
later (LinkRead asked answer octets) m = omega arith
later (LinkWrite octets answer) m = omega arith
later (Connect socket to answer) m = omega arith
later (Connected socket answer) m = omega arith
later (Listen socket at answer) m = omega arith
later (Accept listener socket answer) m = omega arith
later (TcpRead socket asked answer octets) m = omega arith
later (TcpWrite socket octets answer) m = omega arith
later (TcpEnd socket answer) m = omega arith
later (Close socket) m = omega arith
later (UdpOpen socket at answer) m = omega arith
later (UdpSend socket to octets answer) m = omega arith
later (UdpRecv socket asked answer octets) m = omega arith
later (FileLen name answer) m = omega arith
later (FileRead name place asked answer octets) m = omega arith

pub rests_rise : (config : Config) (past : List Entry) → IsRising (moment past) (book config past).time_waits
rests_rise config [] = (tt, tt)
rests_rise config (e ∷ past) =
    let rising = turned_rising config (scene config past) (book config past) (rests_rise config past) (doing config past e) in
    (rising.0, by_later (moment past) (moment_after e (moment past)) (later e (moment past)) (book config (e ∷ past)).time_waits rising.1)

-- ---- TIME-WAITs that are over: the first go, and the others are young

pub first_is_over : (now : ℕ) (r : TimeWait) (time_waits : List TimeWait) → is_young now r ≡ false → filter (is_young now) (r ∷ time_waits) ≡ filter (is_young now) time_waits
first_is_over now r time_waits old = ap (λ b. cond b (r ∷ filter (is_young now) time_waits) (filter (is_young now) time_waits)) old

young_from : (now m : ℕ) (time_waits : List TimeWait) → now < m + 60000 → AreFrom m time_waits → filter (is_young now) time_waits ≡ time_waits
young_from now m [] young from = refl
young_from now m (r ∷ time_waits) young from =
    ap (λ b. cond b (r ∷ filter (is_young now) time_waits) (filter (is_young now) time_waits)) (is_so now m r.since young from.0) ∙ ap (λ l. r ∷ l) (young_from now m time_waits young from.1)
  where
    is_so : (now m since : ℕ) → now < m + 60000 → m ≤ since → nat_lt now (since + 60000) ≡ true
    is_so now m since young le = grind (arith, nat_tests, young, le)

-- where the first is young, all are
pub all_are_young : (now : ℕ) (r : TimeWait) (time_waits : List TimeWait) → Rise (r ∷ time_waits) → is_young now r ≡ true → filter (is_young now) (r ∷ time_waits) ≡ r ∷ time_waits
all_are_young now r time_waits rise young =
    ap (λ b. cond b (r ∷ filter (is_young now) time_waits) (filter (is_young now) time_waits)) young ∙ ap (λ l. r ∷ l) (young_from now r.since time_waits (is_below now (r.since + 60000) young) rise.0)
  where
    is_below : (a b : ℕ) → nat_lt a b ≡ true → a < b
    is_below a b is = grind (arith, nat_tests, is)
