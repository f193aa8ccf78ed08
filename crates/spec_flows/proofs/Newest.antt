-- The segment that came is that of the newest entry.
use Rattle.std.proofs.Common.{◌≡◌, ℕ, Bool, true, false, List, ◌∷◌, length, Option, Some, None, if◌then◌else◌, refl, sym, ◌∙◌}
use Rattle.net_octets.specs.declared.Endpoint.{Endpoint}
use Rattle.world_face.specs.Journal.{Entry, Now, Wait, LinkOpen, LinkRead, LinkWrite, Connect, Connected, Listen, Accept, TcpRead, TcpWrite, TcpEnd, Close, UdpOpen, UdpSend, UdpRecv}
use Rattle.world_face.specs.Journal.{FileLen, FileRead}
use Rattle.world_face.specs.declared.Made.{Made}
use Rattle.world_face.specs.declared.Made.TheVariants.{Done as MadeDone, Failed as MadeFailed}
use Rattle.world_face.specs.declared.Accepted.{Accepted}
use Rattle.world_face.specs.declared.Accepted.TheVariants.{From, NotYet as NotYetAccepted, Failed as AcceptFailed}
use Rattle.slirp_settings.specs.Addresses.{Config}
use Rattle.spec_flow.specs.Event.{Accepts}
use Rattle.spec_flow.specs.Flow.{first_number}
use Rattle.spec_trace.specs.Happenings.{Arrival, happens}
use Rattle.spec_flows.specs.Book.{opens, port_of, tuple_for, is_refused, joins_for, visits_for, doom, turned, scene, book}
use Rattle.spec_flows.specs.Doings.{Doing, Nothing, Comes, Goes, Resolves, Pauses, Joins, Visits, Calls, Shuts, comes, goes, resolves, by_call, doing_by, doing, joins, visits}
use Rattle.spec_flows.specs.Flows.{Book, Scene}
use Rattle.spec_flows.specs.Segments.{OnTuple, segment_came, segment_in, asked_in}

module _ (on : OnTuple) where
  module _ (config : Config) (sc : Scene) (b : Book) where
    joins_none : (socket : ℕ) (came : Option OnTuple) → (joins_for config sc.moment socket came b).came ≡ None
    joins_none socket None = refl
    joins_none socket (Some o) = refl

    visits_none : (socket : ℕ) (peer : Endpoint) (port : Option Endpoint) → (visits_for config sc.moment socket peer port b).came ≡ None
    visits_none socket peer None = refl
    visits_none socket peer (Some guest) = by_test (is_refused config guest peer b)
      where
        by_test : (t : Bool) → (if t then doom socket b
            else opens config sc.moment socket (tuple_for config guest peer) (Accepts (first_number sc.moment (length b.flows))) b).came ≡ None
        by_test true = refl
        by_test false = refl

    not_one : (o : Option OnTuple) → o ≡ None → o ≡ Some on → ⊥
    not_one o none is = none_some (sym none ∙ is)
      where
        none_some : None ≡ Some on → ⊥
        none_some is = cc

    came_is : (d : Doing) → (turned config sc d b).came ≡ Some on → d ≡ Comes on
    came_is Nothing is = cc
    came_is (Comes o) is = cc
    came_is (Goes o) is = cc
    came_is (Resolves guest) is = cc
    came_is Pauses is = cc
    came_is (Joins socket) is = absurd (not_one (joins_for config sc.moment socket b.came b).came (joins_none socket b.came) is)
    came_is (Visits listener socket peer) is = absurd (not_one (visits_for config sc.moment socket peer (port_of config listener) b).came (visits_none socket peer (port_of config listener)) is)
    came_is (Calls socket e) is = cc
    came_is (Shuts socket) is = cc

  by_segment : (o : Option OnTuple) → comes o ≡ Comes on → o ≡ Some on
  by_segment None is = cc
  by_segment (Some o) is = cc

  resolves_not : (o : Option ℕ) → resolves o ≡ Comes on → ⊥
  resolves_not None is = cc
  resolves_not (Some guest) is = cc

  goes_not : (o : Option OnTuple) (asked : Option ℕ) → goes o asked ≡ Comes on → ⊥
  goes_not None asked is = resolves_not asked is
  goes_not (Some o) asked is = cc

  joins_not : (answer : Made) (socket : ℕ) → joins answer socket ≡ Comes on → ⊥
  joins_not MadeDone socket is = cc
  joins_not MadeFailed socket is = cc

  visits_not : (answer : Accepted) (listener socket : ℕ) → visits answer listener socket ≡ Comes on → ⊥
  visits_not (From peer) listener socket is = cc
  visits_not NotYetAccepted listener socket is = cc
  visits_not AcceptFailed listener socket is = cc

  call_not : (e : Entry) → by_call e ≡ Comes on → ⊥
  call_not (Now told) is = cc
  call_not (Wait wants timeout answer ready) is = cc
  call_not (LinkOpen at answer) is = cc
  call_not (LinkRead asked answer octets) is = cc
  call_not (LinkWrite octets answer) is = cc
  call_not (Connect socket to answer) is = joins_not answer socket is
  call_not (Connected socket answer) is = cc
  call_not (Listen socket at answer) is = cc
  call_not (Accept listener socket answer) is = visits_not answer listener socket is
  call_not (TcpRead socket asked answer octets) is = cc
  call_not (TcpWrite socket octets answer) is = cc
  call_not (TcpEnd socket answer) is = cc
  call_not (Close socket) is = cc
  call_not (UdpOpen socket at answer) is = cc
  call_not (UdpSend socket to octets answer) is = cc
  call_not (UdpRecv socket asked answer octets) is = cc
  call_not (FileLen name answer) is = cc
  call_not (FileRead name place asked answer octets) is = cc

  by_frames : (came : Option Arrival) (went : Option (List ℕ)) (e : Entry) → doing_by came went e ≡ Comes on → segment_came came ≡ Some on
  by_frames (Some arrival) went e is = by_segment (segment_came (Some arrival)) is
  by_frames None (Some frame) e is = absurd (goes_not (segment_in frame) (asked_in frame) is)
  by_frames None None e is = absurd (call_not e is)

  pub is_newest : (config : Config) (e : Entry) (past : List Entry) → (book config (e ∷ past)).came ≡ Some on → segment_came (happens config past e).came ≡ Some on
  is_newest config e past is =
      by_frames (happens config past e).came (happens config past e).went (happens config past e).call (came_is config (scene config past) (book config past) (doing config past e) is)
