-- A wait is what the run must wait.
use Rattle.std.proofs.Common.{◌≡◌, ℕ, Bool, true, List, Option, None}
use Rattle.poll_list.specs.declared.Want.{Want}
use Rattle.world_face.specs.Journal.{Entry}
use Rattle.slirp_settings.specs.Addresses.{Config}
use Rattle.ipv4_head.specs.Sets.{PartSet}
use Rattle.spec_duties.specs.Duties.{MustWait}
use Rattle.spec_duties.specs.Serving.{AllServed}
use Rattle.stream_netdev.specs.State.{LinkState}
use Rattle.sim_flows.specs.Core.{CoreHolds}
use Rattle.tcp_flows.specs.Reading.{AreWantsOf}
use Rattle.tcp_flows.specs.Waits.{AreWaitedFor}
use Rattle.slirp_core.specs.Fragments.{IsHeld}
use Rattle.slirp_core.specs.Holds.{after}
use Rattle.slirp_core.specs.Pumps.{WantsOf}
use Rattle.slirp_core.specs.State.{SlirpState}
use Rattle.slirp_core.specs.Timeouts.{IsTimeout}
use Rattle.slirp_core.proofs.Awaiting.{must_wait}
use Rattle.serve_loop.specs.Turns.{AllSent, AreYoung, HoldsNow, IsCalm, IsInTime, NoneGoesAgain}

-- where all was sent that can be, and what was filled is what is waited for
pub must_rest : (slirp : SlirpState) (link : LinkState) (wants : List Want) (timeout : Option ℕ) → NoneGoesAgain slirp → AreYoung slirp → IsCalm slirp link → AllSent slirp link
    → ((held : List PartSet) → IsHeld slirp.fragments held → IsTimeout slirp link.blocked held timeout) → (of : WantsOf slirp link wants)
    → ((config : Config) (before : ℕ) (aged : Bool) (past : List Entry) (added : List Want)
    → CoreHolds config before aged None slirp.flows.flows past → AreWantsOf slirp.flows.flows.slots added → AreWaitedFor config past added)
    → (config : Config) (count : ℕ) (past : List Entry) → HoldsNow config (after count) true slirp link past → IsInTime slirp link → AllServed config past
    → MustWait config past wants timeout
must_rest slirp link wants timeout none_again young calm sent times of waited_for config count past holds early served =
    must_wait config (after count) slirp link past wants timeout holds none_again sent young.0 young.1 young.2 early.0 (λ free. (calm free, early.1 free)) times of
    (waited_for config slirp.moment true past of.flows holds.flows.holds of.of_flows) served
