-- After a pump that ended clear each flow is settled.
use Rattle.std.proofs.Common.{◌≡◌, ℕ, true, List, ◌++◌, sym, subst}
use Rattle.world_face.specs.Journal.{Entry}
use Rattle.world_face.specs.Tells.{Brings, Telling}
use Rattle.slirp_settings.specs.Addresses.{Config}
use Rattle.spec_flow.specs.Dutiful.{AreAhead, resend_deadline}
use Rattle.stream_netdev.specs.State.{LinkState}
use Rattle.tcp_flows.specs.Reading.{AllClear, AreTold, HaveSlots}
use Rattle.tcp_flows.specs.Settled.{AreSettled, IsInTime}
use Rattle.tcp_flows.proofs.Settling.{are_settled}
use Rattle.slirp_core.specs.Holds.{AfterPump, Holds, Standing, flowing}
use Rattle.slirp_core.specs.State.{SlirpState}
use Rattle.stream_netdev.specs.declared.Pumped.{Pumped}
use Rattle.stream_netdev.specs.declared.Pumped.TheVariants.{Clear}

-- all flows of the trace are settled where those of the slots are clear
pub pumped_settled : {a b : Telling} (config : Config) (at : Standing) (now : ℕ) (old new : SlirpState) (link next : LinkState) (result : Pumped) → result ≡ Clear → new.moment ≡ now
    → Brings a b (Holds config at old (flowing true old.flows) link) (AfterPump result config at new (flowing true new.flows) next)
    → HaveSlots new.flows.flows → AreTold new.known new.flows.flows.slots → AllClear new.flows.flows.slots
    → ((past : List Entry) → Holds config at old (flowing true old.flows) link past → (n : ℕ) → IsInTime now old.flows.flows.slots n → IsInTime now new.flows.flows.slots n)
    → Brings a b (Holds config at old (flowing true old.flows) link) (λ past. Holds config at new (flowing true new.flows) next past × AreSettled config now old.flows.flows.slots past)
pumped_settled config at now old new link next result ended same pumps slots told clear keeps = record {
  made = pumps.made;
  same = pumps.same;
  allowed = pumps.allowed;
  told = pumps.told;
  counted = pumps.counted;
  brings = λ past holds.
      let after = subst (λ (r : Pumped). AfterPump r config at new (flowing true new.flows) next (pumps.made ++ past)) ended (pumps.brings past holds) in
      (after, settles past holds after);
}
  where
    settles : (past : List Entry) → Holds config at old (flowing true old.flows) link past → Holds config at new (flowing true new.flows) next (pumps.made ++ past) →
        AreSettled config now old.flows.flows.slots (pumps.made ++ past)
    settles past holds after n f found =
        let settled = subst (λ (m : ℕ). AreSettled config m new.flows.flows.slots (pumps.made ++ past)) same
        (are_settled config new.moment new.flows.flows (pumps.made ++ past) after.clock.moment after.flows.holds slots
        (subst (λ l. AreTold l new.flows.flows.slots) (sym after.guests.known) told) clear) n f found in
        let early_too : IsInTime now old.flows.flows.slots n → AreAhead now (resend_deadline f.story) = λ early. settled.resends (keeps past holds n early) in
        -- all else of it is as before
        search
