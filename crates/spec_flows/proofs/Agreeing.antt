-- What each entry adds to the two streams by the trace is what it adds to the flow's story.
use Rattle.std.proofs.Common.{◌≡◌, ℕ, ◌==◌, Bool, true, false, List, [], ◌∷◌, ◌++◌, drop, Option, Some, None, if◌then◌else◌, refl, sym, ◌∙◌, ap}
use Rattle.std.proofs.lemmas.List.{append-nil}
use Rattle.world_face.specs.Frames.{tail, opens}
use Rattle.world_face.specs.Journal.{Entry, Now, Wait, LinkOpen, LinkRead, LinkWrite, Connect, Connected, Listen, Accept, TcpRead, TcpWrite, TcpEnd, Close, UdpOpen, UdpSend, UdpRecv}
use Rattle.world_face.specs.Journal.{FileLen, FileRead}
use Rattle.world_face.specs.declared.Io.{Io}
use Rattle.world_face.specs.declared.Io.TheVariants.{Done, End, NotYet, Failed}
use Rattle.world_face.specs.declared.Made.{Made}
use Rattle.world_face.specs.declared.Made.TheVariants.{Done as MadeDone, Failed as MadeFailed}
use Rattle.world_face.specs.declared.Joined.{Joined}
use Rattle.world_face.specs.declared.Joined.TheVariants.{Yes, NotYet as NotYetJoined, Failed as JoinFailed}
use Rattle.world_face.specs.declared.Accepted.{Accepted}
use Rattle.world_face.specs.declared.Accepted.TheVariants.{From, NotYet as NotYetAccepted, Failed as AcceptFailed}
use Rattle.slirp_settings.specs.Addresses.{Config}
use Rattle.spec_flow.specs.Event.{Event}
use Rattle.spec_flow.specs.Flow.{guest, host}
use Rattle.spec_flow.specs.Guest.{written}
use Rattle.spec_flow.specs.Host.{got}
use Rattle.spec_trace.specs.Happenings.{Arrival, happens}
use Rattle.spec_flows.specs.Book.{story}
use Rattle.spec_flows.specs.Doings.{Doing, Calls, comes, goes, resolves, by_call, doing_by, doing, joins, visits, joined, read_by, written_by, ended_by}
use Rattle.spec_flows.specs.Laws.{KeepsFlows}
use Rattle.spec_flows.specs.Said.{taken_of, taken_on, given_of, given_on}
use Rattle.spec_flows.specs.Segments.{OnTuple, segment_came, segment_in, asked_in}
use Rattle.spec_flows.proofs.Events.{wrote_by, got_by, written_more, got_more}
use Rattle.spec_flows.proofs.Streams.{by_doing, reads_on}

module _ (by : Event → List ℕ) (c : ℕ) where
  -- what is no call on a socket adds nothing
  comes_nothing : (o : Option OnTuple) → by_doing by c (comes o) ≡ []
  comes_nothing None = refl
  comes_nothing (Some on) = refl

  resolves_nothing : (o : Option ℕ) → by_doing by c (resolves o) ≡ []
  resolves_nothing None = refl
  resolves_nothing (Some guest) = refl

  goes_nothing : (o : Option OnTuple) (asked : Option ℕ) → by_doing by c (goes o asked) ≡ []
  goes_nothing None asked = resolves_nothing asked
  goes_nothing (Some on) asked = refl

  pub read_nothing : (o : Option Arrival) (e : Entry) → by_doing by c (by_call e) ≡ [] → by_doing by c (doing_by o None e) ≡ []
  read_nothing None e other = other
  read_nothing (Some arrival) e other = comes_nothing (segment_came (Some arrival))

  pub write_nothing : (octets : List ℕ) (answer : Io) (rest : List ℕ) → by_doing by c (doing_by None (opens (LinkWrite octets answer) rest) (LinkWrite octets answer)) ≡ []
  write_nothing octets answer (x ∷ rest) = refl
  write_nothing octets (Done n) [] = goes_nothing (segment_in (drop 4 octets)) (asked_in (drop 4 octets))
  write_nothing octets End [] = refl
  write_nothing octets NotYet [] = refl
  write_nothing octets Failed [] = refl

  pub joins_nothing : (answer : Made) (socket : ℕ) → by_doing by c (joins answer socket) ≡ []
  joins_nothing MadeDone socket = refl
  joins_nothing MadeFailed socket = refl

  pub visits_nothing : (answer : Accepted) (listener socket : ℕ) → by_doing by c (visits answer listener socket) ≡ []
  visits_nothing (From peer) listener socket = refl
  visits_nothing NotYetAccepted listener socket = refl
  visits_nothing AcceptFailed listener socket = refl

  pub call_nothing : (e : Event) (socket : ℕ) → by e ≡ [] → by_doing by c (Calls socket e) ≡ []
  call_nothing e socket none = by_test (socket == c)
    where
      by_test : (t : Bool) → (if t then by e else []) ≡ []
      by_test true = none
      by_test false = refl

  pub adds_nothing : (so_far : List ℕ) (d : Doing) → by_doing by c d ≡ [] → so_far ≡ so_far ++ by_doing by c d
  adds_nothing so_far d none = sym (append-nil so_far) ∙ ap (λ xs. so_far ++ xs) (sym none)

wrote_joined : (answer : Joined) → wrote_by (joined answer) ≡ []
wrote_joined Yes = refl
wrote_joined NotYetJoined = refl
wrote_joined JoinFailed = refl

got_joined : (answer : Joined) → got_by (joined answer) ≡ []
got_joined Yes = refl
got_joined NotYetJoined = refl
got_joined JoinFailed = refl

wrote_read : (answer : Io) (octets : List ℕ) → wrote_by (read_by answer octets) ≡ []
wrote_read (Done n) octets = refl
wrote_read End octets = refl
wrote_read NotYet octets = refl
wrote_read Failed octets = refl

got_read : (answer : Io) (octets : List ℕ) → got_by (read_by answer octets) ≡ given_of answer octets
got_read (Done n) octets = refl
got_read End octets = refl
got_read NotYet octets = refl
got_read Failed octets = refl

wrote_written : (answer : Io) (octets : List ℕ) → wrote_by (written_by answer octets) ≡ taken_of answer octets
wrote_written (Done n) octets = refl
wrote_written End octets = refl
wrote_written NotYet octets = refl
wrote_written Failed octets = refl

got_written : (answer : Io) (octets : List ℕ) → got_by (written_by answer octets) ≡ []
got_written (Done n) octets = refl
got_written End octets = refl
got_written NotYet octets = refl
got_written Failed octets = refl

wrote_ended : (answer : Made) → wrote_by (ended_by answer) ≡ []
wrote_ended MadeDone = refl
wrote_ended MadeFailed = refl

got_ended : (answer : Made) → got_by (ended_by answer) ≡ []
got_ended MadeDone = refl
got_ended MadeFailed = refl

-- octets are added where the call is on this socket
added : (t : Bool) (so_far xs ys : List ℕ) → ys ≡ xs → (if t then so_far ++ xs else so_far) ≡ so_far ++ (if t then ys else [])
added true so_far xs ys same = ap (λ zs. so_far ++ zs) (sym same)
added false so_far xs ys same = sym (append-nil so_far)

module _ (config : Config) (c : ℕ) where
  taken_more : (past : List Entry) (e : Entry) → taken_on c (e ∷ past) ≡ taken_on c past ++ by_doing wrote_by c (doing config past e)
  taken_more past (Now told) = adds_nothing wrote_by c (taken_on c past) (doing config past (Now told)) refl
  taken_more past (Wait wants timeout answer ready) = adds_nothing wrote_by c (taken_on c past) (doing config past (Wait wants timeout answer ready)) refl
  taken_more past (LinkOpen at answer) = adds_nothing wrote_by c (taken_on c past) (doing config past (LinkOpen at answer)) refl
  taken_more past (LinkRead asked answer octets) = adds_nothing wrote_by c (taken_on c past) (doing config past (LinkRead asked answer octets))
      (read_nothing wrote_by c (happens config past (LinkRead asked answer octets)).came (LinkRead asked answer octets) refl)
  taken_more past (LinkWrite octets answer) = adds_nothing wrote_by c (taken_on c past) (doing config past (LinkWrite octets answer)) (write_nothing wrote_by c octets answer (tail past))
  taken_more past (Connect socket to answer) = adds_nothing wrote_by c (taken_on c past) (doing config past (Connect socket to answer)) (joins_nothing wrote_by c answer socket)
  taken_more past (Connected socket answer) = adds_nothing wrote_by c (taken_on c past) (doing config past (Connected socket answer))
      (call_nothing wrote_by c (joined answer) socket (wrote_joined answer))
  taken_more past (Listen socket at answer) = adds_nothing wrote_by c (taken_on c past) (doing config past (Listen socket at answer)) refl
  taken_more past (Accept listener socket answer) = adds_nothing wrote_by c (taken_on c past) (doing config past (Accept listener socket answer)) (visits_nothing wrote_by c answer listener socket)
  taken_more past (TcpRead socket asked answer octets) = adds_nothing wrote_by c (taken_on c past) (doing config past (TcpRead socket asked answer octets))
      (call_nothing wrote_by c (read_by answer octets) socket (wrote_read answer octets))
  taken_more past (TcpWrite socket octets answer) = added (socket == c) (taken_on c past) (taken_of answer octets) (wrote_by (written_by answer octets)) (wrote_written answer octets)
  taken_more past (TcpEnd socket answer) = adds_nothing wrote_by c (taken_on c past) (doing config past (TcpEnd socket answer)) (call_nothing wrote_by c (ended_by answer) socket (wrote_ended answer))
  taken_more past (Close socket) = adds_nothing wrote_by c (taken_on c past) (doing config past (Close socket)) refl
  taken_more past (UdpOpen socket at answer) = adds_nothing wrote_by c (taken_on c past) (doing config past (UdpOpen socket at answer)) refl
  taken_more past (UdpSend socket to octets answer) = adds_nothing wrote_by c (taken_on c past) (doing config past (UdpSend socket to octets answer)) refl
  taken_more past (UdpRecv socket asked answer octets) = adds_nothing wrote_by c (taken_on c past) (doing config past (UdpRecv socket asked answer octets)) refl
  taken_more past (FileLen name answer) = adds_nothing wrote_by c (taken_on c past) (doing config past (FileLen name answer)) refl
  taken_more past (FileRead name place asked answer octets) = adds_nothing wrote_by c (taken_on c past) (doing config past (FileRead name place asked answer octets)) refl

  given_more : (past : List Entry) (e : Entry) → given_on c (e ∷ past) ≡ given_on c past ++ by_doing got_by c (doing config past e)
  given_more past (Now told) = adds_nothing got_by c (given_on c past) (doing config past (Now told)) refl
  given_more past (Wait wants timeout answer ready) = adds_nothing got_by c (given_on c past) (doing config past (Wait wants timeout answer ready)) refl
  given_more past (LinkOpen at answer) = adds_nothing got_by c (given_on c past) (doing config past (LinkOpen at answer)) refl
  given_more past (LinkRead asked answer octets) = adds_nothing got_by c (given_on c past) (doing config past (LinkRead asked answer octets))
      (read_nothing got_by c (happens config past (LinkRead asked answer octets)).came (LinkRead asked answer octets) refl)
  given_more past (LinkWrite octets answer) = adds_nothing got_by c (given_on c past) (doing config past (LinkWrite octets answer)) (write_nothing got_by c octets answer (tail past))
  given_more past (Connect socket to answer) = adds_nothing got_by c (given_on c past) (doing config past (Connect socket to answer)) (joins_nothing got_by c answer socket)
  given_more past (Connected socket answer) = adds_nothing got_by c (given_on c past) (doing config past (Connected socket answer)) (call_nothing got_by c (joined answer) socket (got_joined answer))
  given_more past (Listen socket at answer) = adds_nothing got_by c (given_on c past) (doing config past (Listen socket at answer)) refl
  given_more past (Accept listener socket answer) = adds_nothing got_by c (given_on c past) (doing config past (Accept listener socket answer)) (visits_nothing got_by c answer listener socket)
  given_more past (TcpRead socket asked answer octets) = added (socket == c) (given_on c past) (given_of answer octets) (got_by (read_by answer octets)) (got_read answer octets)
  given_more past (TcpWrite socket octets answer) = adds_nothing got_by c (given_on c past) (doing config past (TcpWrite socket octets answer))
      (call_nothing got_by c (written_by answer octets) socket (got_written answer octets))
  given_more past (TcpEnd socket answer) = adds_nothing got_by c (given_on c past) (doing config past (TcpEnd socket answer)) (call_nothing got_by c (ended_by answer) socket (got_ended answer))
  given_more past (Close socket) = adds_nothing got_by c (given_on c past) (doing config past (Close socket)) refl
  given_more past (UdpOpen socket at answer) = adds_nothing got_by c (given_on c past) (doing config past (UdpOpen socket at answer)) refl
  given_more past (UdpSend socket to octets answer) = adds_nothing got_by c (given_on c past) (doing config past (UdpSend socket to octets answer)) refl
  given_more past (UdpRecv socket asked answer octets) = adds_nothing got_by c (given_on c past) (doing config past (UdpRecv socket asked answer octets)) refl
  given_more past (FileLen name answer) = adds_nothing got_by c (given_on c past) (doing config past (FileLen name answer)) refl
  given_more past (FileRead name place asked answer octets) = adds_nothing got_by c (given_on c past) (doing config past (FileRead name place asked answer octets)) refl

  -- what the host took on a socket is what its flow's story says was written
  pub taken_is : (past : List Entry) → KeepsFlows config past → written (guest (story config past c)) ≡ taken_on c past
  taken_is past keeps =
      reads_on (λ s. written (guest s)) wrote_by refl written_more (λ seg. refl) (λ seg. refl) refl (λ d e k. refl) (λ n seg. refl) (λ n. refl) c config (taken_on c) refl taken_more past keeps

  -- and what was read on it
  pub given_is : (past : List Entry) → KeepsFlows config past → got (host (story config past c)) ≡ given_on c past
  given_is past keeps =
      reads_on (λ s. got (host s)) got_by refl got_more (λ seg. refl) (λ seg. refl) refl (λ d e k. refl) (λ n seg. refl) (λ n. refl) c config (given_on c) refl given_more past keeps
