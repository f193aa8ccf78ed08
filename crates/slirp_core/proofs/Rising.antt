-- Open sockets stand by rising number.
use Rattle.std.proofs.Common.{◌≡◌, ℕ, ◌+◌, ◌==◌, true, List, [], ◌∷◌, ◌++◌, sym, subst}
use Rattle.world_face.specs.Journal.{Entry, call_of, Connect, Listen, Accept, Close, UdpOpen}
use Rattle.world_face.specs.declared.Accepted.{Accepted}
use Rattle.world_face.specs.declared.Accepted.TheVariants.{From, NotYet as NotYetAccepted, Failed as AcceptFailed}
use Rattle.world_face.specs.declared.Made.{Made}
use Rattle.world_face.specs.declared.Made.TheVariants.{Done, Failed}
use Rattle.slirp_settings.specs.Addresses.{Config}
use Rattle.spec_trace.specs.Sockets.{next_number, open_sockets, with_made}
use Rattle.spec_run.specs.Laws.{Lawful, May}
use Rattle.spec_run.proofs.Bools.{equal}
use Rattle.spec_run.proofs.OpenSockets.{peer_next}
use Rattle.slirp_core.specs.Sockets.{IsRising}
use Rattle.slirp_core.proofs.Sockets.{rising_last, rising_up, rising_without}

rises_made : (answer : Made) (socket next : ℕ) (sockets : List ℕ) → (socket == next) ≡ true → IsRising next sockets → IsRising (next + 1) (with_made answer socket sockets)
rises_made Done socket next sockets is rising = subst (λ n. IsRising (next + 1) (sockets ++ (n ∷ []))) (sym (equal socket next is)) (rising_last next sockets rising)
rises_made Failed socket next sockets is rising = rising_up next sockets rising

pub open_rise : (config : Config) (past : List Entry) → Lawful config past → IsRising (next_number past) (open_sockets past)
open_rise config [] lawful = tt
open_rise config (e ∷ past) lawful = by e lawful.0 (open_rise config past lawful.1)
  where
    by_peer : (answer : Accepted) (listener socket : ℕ) → May config past (call_of (Accept listener socket answer)) → IsRising (next_number past) (open_sockets past)
        → IsRising (next_number (Accept listener socket answer ∷ past)) (open_sockets (Accept listener socket answer ∷ past))
    by_peer (From peer) listener socket may rising = rises_made Done socket (next_number past) (open_sockets past) (peer_next config past listener socket (From peer) may) rising
    by_peer NotYetAccepted listener socket may rising = rising
    by_peer AcceptFailed listener socket may rising = rising

    by : (e : Entry) → May config past (call_of e) → IsRising (next_number past) (open_sockets past) → IsRising (next_number (e ∷ past)) (open_sockets (e ∷ past))
    by (Connect socket to answer) may rising = rises_made answer socket (next_number past) (open_sockets past) may.socket rising
    by (Listen socket at answer) may rising = rises_made answer socket (next_number past) (open_sockets past) may.socket rising
    by (UdpOpen socket at answer) may rising = rises_made answer socket (next_number past) (open_sockets past) may.socket rising
    by (Accept listener socket answer) may rising = by_peer answer listener socket may rising
    by (Close socket) may rising = rising_without (next_number past) socket (open_sockets past) rising
    by _ may rising = rising
