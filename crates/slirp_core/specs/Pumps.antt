-- The answers of pumps, and what is waited for.
use Rattle.std.specs.Prelude.{◌≡◌, ℕ, ◌-◌, ◌&&◌, not, ◌==◌, nat_lt, List, [], ◌∷◌, ◌++◌, Bool, false, drop, map, length, IsPermutation, Option, Some, None, if◌then◌else◌}
use Rattle.std.specs.List.Sorted.{IsNonDecreasing}
use Rattle.poll_list.specs.Listing.{names}
use Rattle.poll_list.specs.declared.Want.{Want}
use Rattle.poll_list.specs.declared.Who.TheVariants.{Tcp}
use Rattle.stream_netdev.specs.State.{LinkState}
use Rattle.rules_udp.specs.Associations.{idle_life}
use Rattle.rules_udp.specs.declared.Association.{Association}
use Rattle.rules_dns.specs.Questions.{question_life}
use Rattle.rules_dns.specs.declared.Question.{Question}
use Rattle.slirp_settings.specs.declared.Proto.TheVariants.{Tcp as OverTcp, Udp as OverUdp}
use Rattle.stream_netdev.specs.declared.Offered.{Offered}
use Rattle.stream_netdev.specs.declared.Offered.TheVariants.{Taken, Blocked as OfferBlocked, Failed as OfferFailed}
use Rattle.sim_flows.specs.Peers.{fits_peer}
use Rattle.tcp_flows.specs.Reading.{AreWantsOf}
use Rattle.sim_flows.specs.Wants.{link_want, listener_want, socket_wants}
use Rattle.rules_forward.specs.Opened.{sockets_over}
use Rattle.slirp_core.specs.Holds.{carriers, holders_of}
use Rattle.slirp_core.specs.State.{SlirpState}

-- the frames that are left after an offer of the first one
abbrev pub keep : Offered → List (List ℕ) → List (List ℕ)
keep Taken pending = drop 1 pending
keep OfferBlocked pending = pending
keep OfferFailed pending = pending

-- nothing is left to be sent
abbrev pub is_settled : SlirpState → LinkState → Bool
is_settled slirp link = (length link.tail == 0) && not (nat_lt 0 (length slirp.pending))

-- the listeners that are waited for, as there is room for the flow of a peer more or not
abbrev pub listeners_of : SlirpState → List ℕ
listeners_of slirp = if fits_peer slirp.flows.flows then sockets_over OverTcp slirp.forwards else []

-- two rows of numbers that rise, as one
abbrev pub into : ℕ → (List ℕ → List ℕ) → List ℕ → List ℕ
into n rest [] = n ∷ rest []
into n rest (m ∷ ms) = if nat_lt n m then n ∷ rest (m ∷ ms) else m ∷ into n rest ms

abbrev pub merged : List ℕ → List ℕ → List ℕ
merged [] ms = ms
merged (n ∷ ns) ms = into n (merged ns) ms

-- the link and the listeners; each socket of a port of the host for datagrams, of an association or a question, once, by rising number; and behind them what flows wait for
pub record WantsOf (slirp : SlirpState) (link : LinkState) (wants : List Want) : Type 0 where
  pub sockets : List ℕ
  pub all : IsPermutation (sockets_over OverUdp slirp.forwards ++ carriers (holders_of slirp)) sockets
  pub rising : IsNonDecreasing (sockets_over OverUdp slirp.forwards) → IsNonDecreasing sockets
  pub flows : List Want
  pub of_flows : AreWantsOf slirp.flows.flows.slots flows
  pub is : wants ≡ ((link_want (is_settled slirp link) link.blocked ++ map listener_want (listeners_of slirp)) ++ socket_wants (is_settled slirp link) sockets) ++ flows

-- no flow's socket stands twice
abbrev pub TcpOnce : List Want → Type 0
TcpOnce [] = Unit {0}
TcpOnce (w ∷ wants) = ((m : ℕ) → w.of ≡ Tcp m → names (Tcp m) wants ≡ false) × TcpOnce wants

-- what is left of the idle life of the longest unused socket
abbrev pub time_left : ℕ → List Association → Option ℕ
time_left now [] = None
time_left now (oldest ∷ associations) = Some (idle_life - (now - oldest.used))

-- and until the longest unused question has waited for long enough
abbrev pub question_left : ℕ → List Question → Option ℕ
question_left now [] = None
question_left now (oldest ∷ questions) = Some (question_life - (now - oldest.used))
