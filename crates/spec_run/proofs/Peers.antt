-- Connections that were accepted at a port of the host stand between the guest that the settings name and a peer that may be seen.
use Rattle.std.proofs.Common.{◌≡◌, ℕ, ◌==◌, ◌&&◌, ◌||◌, Bool, true, false, List, [], ◌∷◌, length, map, Option, Some, None, option_and_then, if◌then◌else◌, refl, sym, ◌∙◌, subst}
use Rattle.net_octets.specs.declared.Endpoint.{Endpoint}
use Rattle.slirp_settings.specs.Addresses.{Config, address, forward_on}
use Rattle.host_policy.specs.Targets.{is_hidden}
use Rattle.slirp_settings.specs.declared.Forward.{Forward}
use Rattle.slirp_settings.specs.declared.Proto.{Proto}
use Rattle.slirp_settings.specs.declared.Proto.TheVariants.{Tcp, Udp}
use Rattle.world_face.specs.Journal.{Entry, Wait, Connect, Connected, Accept, TcpRead, TcpWrite, TcpEnd, Close}
use Rattle.world_face.specs.declared.Accepted.{Accepted}
use Rattle.world_face.specs.declared.Accepted.TheVariants.{From, NotYet as NotYetAccepted, Failed as AcceptFailed}
use Rattle.world_face.specs.declared.Joined.{Joined}
use Rattle.world_face.specs.declared.Joined.TheVariants.{Yes, NotYet as NotYetJoined, Failed as JoinFailed}
use Rattle.world_face.specs.declared.Io.{Io}
use Rattle.world_face.specs.declared.Io.TheVariants.{Done, End, NotYet, Failed}
use Rattle.world_face.specs.declared.Made.{Made}
use Rattle.world_face.specs.declared.Made.TheVariants.{Done as MadeDone, Failed as MadeFailed}
use Rattle.spec_flow.specs.Event.{Accepts, Event, At, AsksAddress, Departs, Story}
use Rattle.spec_flow.specs.Flow.{first_number, is_accepted}
use Rattle.spec_trace.specs.Happenings.{Arrival, happens}
use Rattle.spec_flows.specs.Book.{book, doom, is_refused, joins_for, opens, port_by, port_of, scene, tuple_for, turned, visits_for}
use Rattle.spec_flows.specs.Doings.{Doing, Nothing, Comes, Goes, Resolves, Pauses, Joins, Visits, Calls, Shuts, by_call, comes, doing, doing_by, ended_by, goes, joined, joins, read_by}
use Rattle.spec_flows.specs.Doings.{resolves, visits, written_by}
use Rattle.spec_flows.specs.Flows.{Book, Flow, Scene, flow_of, is_numbered, is_on, is_strange, is_used, resolves_for, sends, shuts, tell, with_event}
use Rattle.spec_flows.specs.Segments.{OnTuple, asked_in, segment_came, segment_in}
use Rattle.spec_run.specs.Peers.{IsForPeer}

-- one that was accepted is
abbrev pub Fits : Config → Flow → Type 0
Fits config f = is_accepted f.story ≡ true → IsForPeer config f.tuple

abbrev pub AllFit : Config → List Flow → Type 0
AllFit config [] = Unit {0}
AllFit config (f ∷ flows) = Fits config f × AllFit config flows

-- ---- no event of a flow but its first accepts

abbrev pub IsPlain : Event → Type 0
IsPlain e = (now : ℕ) (story : Story) → is_accepted (At now e ∷ story) ≡ is_accepted story

abbrev pub Plain : Doing → Type 0
Plain (Calls socket e) = IsPlain e
Plain _ = Unit {0}

plain_joins : (a : Made) (socket : ℕ) → Plain (joins a socket)
plain_joins MadeDone socket = tt
plain_joins MadeFailed socket = tt

plain_visits : (a : Accepted) (listener socket : ℕ) → Plain (visits a listener socket)
plain_visits (From peer) listener socket = tt
plain_visits NotYetAccepted listener socket = tt
plain_visits AcceptFailed listener socket = tt

plain_joined : (a : Joined) → IsPlain (joined a)
plain_joined Yes = λ now story. refl
plain_joined NotYetJoined = λ now story. refl
plain_joined JoinFailed = λ now story. refl

plain_read : (a : Io) (octets : List ℕ) → IsPlain (read_by a octets)
plain_read (Done n) octets = λ now story. refl
plain_read End octets = λ now story. refl
plain_read NotYet octets = λ now story. refl
plain_read Failed octets = λ now story. refl

plain_written : (a : Io) (octets : List ℕ) → IsPlain (written_by a octets)
plain_written (Done n) octets = λ now story. refl
plain_written End octets = λ now story. refl
plain_written NotYet octets = λ now story. refl
plain_written Failed octets = λ now story. refl

plain_ended : (a : Made) → IsPlain (ended_by a)
plain_ended MadeDone = λ now story. refl
plain_ended MadeFailed = λ now story. refl

plain_call : (e : Entry) → Plain (by_call e)
plain_call (Wait wants timeout answer ready) = tt
plain_call (Connect socket to answer) = plain_joins answer socket
plain_call (Connected socket answer) = plain_joined answer
plain_call (Accept listener socket answer) = plain_visits answer listener socket
plain_call (TcpRead socket asked answer octets) = plain_read answer octets
plain_call (TcpWrite socket octets answer) = plain_written answer octets
plain_call (TcpEnd socket answer) = plain_ended answer
plain_call (Close socket) = tt
plain_call _ = tt

plain_comes : (o : Option OnTuple) → Plain (comes o)
plain_comes None = tt
plain_comes (Some on) = tt

plain_resolves : (o : Option ℕ) → Plain (resolves o)
plain_resolves None = tt
plain_resolves (Some guest) = tt

plain_goes : (o : Option OnTuple) (asked : Option ℕ) → Plain (goes o asked)
plain_goes None asked = plain_resolves asked
plain_goes (Some on) asked = tt

plain_doing : (came : Option Arrival) (went : Option (List ℕ)) (e : Entry) → Plain (doing_by came went e)
plain_doing (Some arrival) went e = plain_comes (segment_came (Some arrival))
plain_doing None (Some frame) e = plain_goes (segment_in frame) (asked_in frame)
plain_doing None None e = plain_call e

-- ---- what is done to the flows keeps it

keeps_event : (config : Config) (now : ℕ) (e : Event) → IsPlain e → (f : Flow) → Fits config f → Fits config (with_event now e f)
keeps_event config now e is f fits accepted = fits (sym (is now f.story) ∙ accepted)

keeps_told : (config : Config) (test : Flow → Bool) (change : Flow → Flow) → ((f : Flow) → Fits config f → Fits config (change f)) → (flows : List Flow) → AllFit config flows →
    AllFit config (tell test change flows)
keeps_told config test change keeps [] all = tt
keeps_told config test change keeps (f ∷ flows) all = by (test f) (keeps_told config test change keeps flows all.1)
  where
    by : (b : Bool) → AllFit config (tell test change flows) → AllFit config (if b then change f ∷ flows else f ∷ tell test change flows)
    by true more = (keeps f all.0, all.1)
    by false more = (all.0, more)

keeps_mapped : (config : Config) (change : Flow → Flow) → ((f : Flow) → Fits config f → Fits config (change f)) → (flows : List Flow) → AllFit config flows → AllFit config (map change flows)
keeps_mapped config change keeps [] all = tt
keeps_mapped config change keeps (f ∷ flows) all = (keeps f all.0, keeps_mapped config change keeps flows all.1)

keeps_sent : (config : Config) (now : ℕ) (on : OnTuple) (f : Flow) → Fits config f → Fits config (sends now on.segment f)
keeps_sent config now on f fits = by (is_strange on.segment f)
  where
    by : (b : Bool) → Fits config (if b then f else with_event now (Departs on.segment) f)
    by true = fits
    by false = fits

keeps_sought : (config : Config) (now guest : ℕ) (f : Flow) → Fits config f → Fits config (resolves_for now guest f)
keeps_sought config now guest f fits = by (is_accepted f.story && (address f.tuple.guest == guest))
  where
    by : (b : Bool) → Fits config (if b then with_event now AsksAddress f else f)
    by true = fits
    by false = fits

-- a peer that is taken came to a port of the host that is given to a guest
led : (config : Config) (listener : ℕ) (guest peer : Endpoint) → port_of config listener ≡ Some guest → is_hidden config peer ≡ false → IsForPeer config (tuple_for config guest peer)
led config listener guest peer is seen = by (forward_on config listener) refl is
  where
    by : (o : Option Forward) → forward_on config listener ≡ o → option_and_then (λ (f : Forward). port_by f.proto f.guest) o ≡ Some guest → IsForPeer config (tuple_for config guest peer)
    by None at none = cc
    by (Some f) at leads = by_proto f.proto refl leads
      where
        the_same : Some f.guest ≡ Some guest → guest ≡ f.guest
        the_same some = cc

        by_proto : (p : Proto) → f.proto ≡ p → port_by p f.guest ≡ Some guest → IsForPeer config (tuple_for config guest peer)
        by_proto Tcp proto to = record { place = listener; forward = f; given = at; proto = proto; guest = the_same to; peer = peer; seen = seen; other = refl }
        by_proto Udp proto to = cc

keeps_visit : (config : Config) (now socket listener : ℕ) (peer : Endpoint) (b : Book) → AllFit config b.flows → AllFit config (visits_for config now socket peer (port_of config listener) b).flows
keeps_visit config now socket listener peer b all = by (port_of config listener) refl
  where
    or_first : (x y : Bool) → (x || y) ≡ false → x ≡ false
    or_first true y is = cc
    or_first false y is = refl

    by : (o : Option Endpoint) → port_of config listener ≡ o → AllFit config (visits_for config now socket peer o b).flows
    by None is = all
    by (Some guest) is = taken (is_refused config guest peer b) refl
      where
        taken : (r : Bool) → is_refused config guest peer b ≡ r → AllFit config (if r then doom socket b else opens config now socket (tuple_for config guest peer)
            (Accepts (first_number now (length b.flows))) b).flows
        taken true refused = all
        taken false welcome = ((λ accepted. led config listener guest peer is (or_first (is_hidden config peer) (is_used (tuple_for config guest peer) b.flows) welcome)), all)

keeps_joined : (config : Config) (now socket : ℕ) (o : Option OnTuple) (b : Book) → AllFit config b.flows → AllFit config (joins_for config now socket o b).flows
keeps_joined config now socket None b all = all
keeps_joined config now socket (Some on) b all = ((λ is. cc), all)

keeps_doing : (config : Config) (sc : Scene) (d : Doing) (b : Book) → Plain d → AllFit config b.flows → AllFit config (turned config sc d b).flows
keeps_doing config sc Nothing b plain all = all
keeps_doing config sc (Comes on) b plain all = keeps_told config (is_on on.tuple) _ (λ f fits. fits) b.flows all
keeps_doing config sc (Goes on) b plain all = keeps_told config (is_on on.tuple) (sends sc.moment on.segment) (keeps_sent config sc.moment on) b.flows all
keeps_doing config sc (Resolves guest) b plain all = keeps_mapped config (resolves_for sc.moment guest) (keeps_sought config sc.moment guest) b.flows all
keeps_doing config sc Pauses b plain all = all
keeps_doing config sc (Joins socket) b plain all = keeps_joined config sc.moment socket b.came b all
keeps_doing config sc (Visits listener socket peer) b plain all = keeps_visit config sc.moment socket listener peer b all
keeps_doing config sc (Calls socket e) b plain all = keeps_told config (is_numbered socket) (with_event sc.moment e) (keeps_event config sc.moment e plain) b.flows all
keeps_doing config sc (Shuts socket) b plain all = keeps_told config (is_numbered socket) (shuts sc b.came) (λ f fits. fits) b.flows all

all_fit : (config : Config) (past : List Entry) → AllFit config (book config past).flows
all_fit config [] = tt
all_fit config (e ∷ past) =
    let h = happens config past e in
    keeps_doing config (scene config past) (doing config past e) (book config past) (plain_doing h.came h.went h.call) (all_fit config past)

found : (config : Config) (n : ℕ) (f : Flow) (flows : List Flow) → AllFit config flows → flow_of n flows ≡ Some f → Fits config f
found config n f [] all is = cc
found config n f (g ∷ flows) all is = by (is_numbered n g) is (found config n f flows all.1)
  where
    by : (b : Bool) → (if b then Some g else flow_of n flows) ≡ Some f → (flow_of n flows ≡ Some f → Fits config f) → Fits config f
    by true here more = subst (Fits config) (the_same here) all.0
      where
        the_same : Some g ≡ Some f → g ≡ f
        the_same some = cc
    by false there more = more there

pub peers_reach : (config : Config) (past : List Entry) (socket : ℕ) (f : Flow) → flow_of socket (book config past).flows ≡ Some f → is_accepted f.story ≡ true → IsForPeer config f.tuple
peers_reach config past socket f is = found config socket f (book config past).flows (all_fit config past) is
