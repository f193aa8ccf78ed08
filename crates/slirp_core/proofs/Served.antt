-- What a receipt and an accept leave of the report by which they came: nothing.
use Rattle.spec_trace.specs.Sockets.{next_number}
use Rattle.std.proofs.Common.{◌≡◌, ℕ, ◌&&◌, ◌||◌, Bool, true, false, is_some, List, [], ◌∷◌, ◌++◌, Option, None, Some, refl, sym, ap, ◌∙◌, if◌then◌else◌}
use Rattle.std.specs.Option.{option_and_then}
use Rattle.std.proofs.lemmas.List.Sorted.{IsPermutation-refl}
use Rattle.poll_list.specs.declared.Want.{Want}
use Rattle.poll_list.specs.declared.Who.TheVariants.{Listener as AListener, Udp as ASocket}
use Rattle.world_face.specs.Journal.{Entry, Accept, Close, UdpRecv}
use Rattle.world_face.specs.Frames.{partial}
use Rattle.world_face.specs.declared.Accepted.{Accepted}
use Rattle.slirp_settings.specs.Addresses.{Config}
use Rattle.slirp_settings.specs.declared.Forward.{Forward}
use Rattle.slirp_settings.specs.declared.Proto.{Proto}
use Rattle.slirp_settings.specs.declared.Proto.TheVariants.{Tcp, Udp}
use Rattle.sim_flows.specs.Peers.{fits_peer}
use Rattle.spec_trace.specs.Moments.{waits}
use Rattle.spec_trace.specs.Sockets.{is_among}
use Rattle.spec_run.specs.Laws.{takes_peers}
use Rattle.spec_run.specs.Ports.{given_by}
use Rattle.spec_run.proofs.Bools.{or_second, same}
use Rattle.stream_netdev.specs.State.{LinkState}
use Rattle.spec_duties.specs.Said.{some_reads}
use Rattle.spec_duties.specs.Serving.{is_left_to_read, serves_reading}
use Rattle.spec_duties.specs.Waiting.{takes_datagrams, takes_in}
use Rattle.spec_duties.proofs.Serving.{read_since, reading_on, unread}
use Rattle.rules_forward.specs.Opened.{forward_with}
use Rattle.rules_forward.specs.Opened.{sockets_over}
use Rattle.slirp_core.specs.Hearing.{Receives, is_heard}
use Rattle.slirp_core.specs.Holds.{Flowing, Holds, Standing, carriers, holders_of, standing}
use Rattle.slirp_core.specs.State.{SlirpState}
use Rattle.slirp_core.specs.Visits.{is_awaited}
use Rattle.slirp_core.proofs.Awaiting.{listeners_are, sockets_are}
use Rattle.slirp_core.proofs.Given.{is_at, over_with}
use Rattle.slirp_core.proofs.Names.{among_both}

-- ---- calls that serve a report

receives_reads : (number : ℕ) (past made : List Entry) → Receives number made → some_reads (ASocket number) past made ≡ true
receives_reads number past made (asked, answer, octets, closed, is) = ap (some_reads (ASocket number) past) is ∙ by closed
  where
    by : (b : Bool) → some_reads (ASocket number) past ((if b then Close number ∷ [] else []) ++ (UdpRecv number asked answer octets ∷ [])) ≡ true
    by true = ap (λ t. t || false) (same number)
    by false = ap (λ t. t || false) (same number)

-- a peer was asked for, and then more calls came
asks_reads : (listener number : ℕ) (answer : Accepted) (past later : List Entry) → some_reads (AListener listener) past (later ++ Accept listener number answer ∷ []) ≡ true
asks_reads listener number answer past [] = ap (λ t. t || false) (same listener)
asks_reads listener number answer past (e ∷ later) =
    or_second (serves_reading (AListener listener) e (partial ((later ++ Accept listener number answer ∷ []) ++ past)))
    (some_reads (AListener listener) past (later ++ Accept listener number answer ∷ []))
    (asks_reads listener number answer past later)

-- ---- what the trace takes is what the core hears

-- a port of the host is given to a guest for datagrams where its forward is for these
given_for_datagrams : (o : Option Forward) → is_at Udp o ≡ is_some (option_and_then (λ (f : Forward). given_by f.proto f.guest) o)
given_for_datagrams None = refl
given_for_datagrams (Some f) = by f.proto
  where
    by : (p : Proto) → is_at Udp (Some (record f { proto = p })) ≡ is_some (given_by p f.guest)
    by Tcp = refl
    by Udp = refl

module _ (config : Config) (at : Standing) (slirp : SlirpState) (f : Flowing) (link : LinkState) (past : List Entry) (holds : Holds config at slirp f link past) where
  pub hears_what_is_taken : (n : ℕ) → takes_datagrams past n ≡ is_heard n slirp
  hears_what_is_taken n =
      sockets_are config at slirp f link past holds (sockets_over Udp slirp.forwards ++ carriers (holders_of slirp)) (IsPermutation-refl (sockets_over Udp slirp.forwards ++ carriers (holders_of slirp))) n
      ∙ among_both n (sockets_over Udp slirp.forwards) (carriers (holders_of slirp))
      ∙ ap (λ b. b || is_among n (carriers (holders_of slirp)))
      (over_with Udp (next_number past) slirp.forwards n holds.forwards.rising ∙ given_for_datagrams (forward_with n slirp.forwards))

  pub awaits_who_is_taken : f.kept ≡ slirp.flows → (n : ℕ) → takes_peers config past n ≡ is_awaited n slirp
  awaits_who_is_taken same_flows n = listeners_are config at slirp f link past holds same_flows n ∙ by (fits_peer slirp.flows.flows)
    where
      by : (b : Bool) → is_among n (if b then sockets_over Tcp slirp.forwards else []) ≡ (b && is_at Tcp (forward_with n slirp.forwards))
      by true = over_with Tcp (next_number past) slirp.forwards n holds.forwards.rising
      by false = refl

  -- of what isn't waited for nothing is left
  pub unheard_is_unread : (n : ℕ) → is_heard n slirp ≡ false → is_left_to_read config past (ASocket n) ≡ false
  unheard_is_unread n unheard = unread config past (ASocket n) (ap (λ b. b && takes_in config past) (hears_what_is_taken n ∙ unheard))

  pub unawaited_is_unread : f.kept ≡ slirp.flows → (n : ℕ) → is_awaited n slirp ≡ false → is_left_to_read config past (AListener n) ≡ false
  unawaited_is_unread same_flows n unawaited = unread config past (AListener n) (awaits_who_is_taken same_flows n ∙ unawaited)

-- ---- after the call

module _ (config : Config) (count : ℕ) (wants : List Want) (item : Want) (items : List Want) (old new : SlirpState) (f g : Flowing) (link next : LinkState) (past made : List Entry)
    (before : Holds config (standing count wants (item ∷ items)) old f link past) (then_is : Holds config (standing count wants items) new g next (made ++ past)) where
  waits_as_often : waits (made ++ past) ≡ waits past
  waits_as_often = then_is.clock.counted ∙ sym before.clock.counted

  pub datagram_is_read : (number : ℕ) → (is_heard number old ≡ true → Receives number made) → is_left_to_read config (made ++ past) (ASocket number) ≡ false
  datagram_is_read number receives = by (is_heard number old) refl
    where
      by : (b : Bool) → is_heard number old ≡ b → is_left_to_read config (made ++ past) (ASocket number) ≡ false
      by true heard = read_since config made past (ASocket number) waits_as_often (receives_reads number past made (receives heard))
      by false unheard = reading_on config made past (ASocket number) waits_as_often (unheard_is_unread config (standing count wants (item ∷ items)) old f link past before number unheard)

  pub peer_is_read : (listener number : ℕ) (answer : Accepted) (later : List Entry) → made ≡ later ++ Accept listener number answer ∷ [] → is_left_to_read config (made ++ past)
      (AListener listener) ≡ false
  peer_is_read listener number answer later is =
      read_since config made past (AListener listener) waits_as_often (ap (some_reads (AListener listener) past) is ∙ asks_reads listener number answer past later)
