use Rattle.std.proofs.Common.{[], ◌≡◌, ◌∙◌, ℕ, None, true, ap, refl, sym, subst, arith}
use Rattle.world_face.proofs.Counting.{rose_after}
use Rattle.world_face.proofs.Telling.{brings_none, brings_then}
use Rattle.std.specs.Prelude.{false}
use Rattle.sim_flows.specs.Core.{CoreHolds}
use Rattle.tcp_flows.specs.Kept.{Kept}
use Rattle.tcp_flows.specs.Reading.{AreTold}
use Rattle.tcp_flows.specs.Settled.{HaveTime, IsInTime}
use Rattle.slirp_core.specs.Holds.{Leaves, standing}
use Rattle.slirp_core.specs.State.{SlirpState}
use Rattle.stream_netdev.specs.declared.Pumped.{Pumped}
use Rattle.slirp_core.proofs.Counted.{grown}
use Rattle.slirp_core.proofs.Settling.{pumped_settled}
use Rattle.slirp_core.specs.Marks.{KeepsMarks}
use Rattle.slirp_core.proofs.Marking.{marks_stay, marks_then}
use Rattle.slirp_core.proofs.network.Slirp.pump.Goals as goal

pub returns-in-Clear-clause-makes : goal.returns-in-Clear-clause-makes
returns-in-Clear-clause-makes g c config at aged =
    brings_then (brings_none (λ past holds. c.tell_addresses.ensures.holds config at aged c.args.link.now past holds)) (brings_then (c.in-Clear.ensures.makes config at aged)
    (c.pump_flows.ensures.makes config at aged))

pub returns-in-Blocked-clause-makes : goal.returns-in-Blocked-clause-makes
returns-in-Blocked-clause-makes g c config at aged = brings_then (brings_none (λ past holds. c.tell_addresses.ensures.holds config at aged c.args.link.now past holds))
    (c.in-Blocked.ensures.makes config at aged)

pub returns-in-Failed-clause-makes : goal.returns-in-Failed-clause-makes
returns-in-Failed-clause-makes g c config at aged = brings_then (brings_none (λ past holds. c.tell_addresses.ensures.holds config at aged c.args.link.now past holds))
    (c.in-Failed.ensures.makes config at aged)

pub pump_flows-requires-clause-told : goal.pump_flows-requires-clause-told
pump_flows-requires-clause-told g c = subst (λ (s : SlirpState). AreTold s.known s.flows.flows.slots) (sym c.in-Clear.ensures.others) c.tell_addresses.ensures.told

pub returns-in-Clear-clause-failed : goal.returns-in-Clear-clause-failed
returns-in-Clear-clause-failed g c is =
    let before = grown _ _ _ (c.in-Clear.ensures.makes c.args.self.now.config (standing 0 [] []) false).counted in
    rose_after (g.W.World.tells c.args.world.now).faults.link _ _ before.0 (c.pump_flows.ensures.failed is)

-- a flow that was in time is so after what is owed of answers is out, and flows were told and sent what they owe
pub returns-in-Clear-clause-ahead : goal.returns-in-Clear-clause-ahead
returns-in-Clear-clause-ahead g c config at aged past holds n early =
    let old : SlirpState = c.args.self.now in
    let told : SlirpState = c.tell_addresses.new.self in
    let mid : SlirpState = c.pump_answers.new.self in
    let new : SlirpState = c.pump_flows.new.self in
    let told_moment : told.moment ≡ old.moment = ap (λ (s : SlirpState). s.moment) c.tell_addresses.ensures.same in
    let flows_same : mid.flows ≡ told.flows = ap (λ (s : SlirpState). s.flows) c.in-Clear.ensures.others in
    let moment_same : mid.moment ≡ old.moment = ap (λ (s : SlirpState). s.moment) c.in-Clear.ensures.others ∙ told_moment in
    let after = c.tell_addresses.ensures.holds config at aged c.args.link.now past holds in
    subst (λ (m : ℕ). IsInTime m new.flows.flows.slots n) moment_same
    (c.pump_flows.ensures.ahead config told.moment aged past (subst (λ (k : Kept). CoreHolds config told.moment aged None k.flows past) (sym flows_same) after.flows.holds) n
    (subst (λ (k : Kept). IsInTime mid.moment k.flows.slots n) (sym flows_same) (subst (λ (m : ℕ). IsInTime m told.flows.flows.slots n) (sym moment_same)
    (c.tell_addresses.ensures.ahead old.moment n early))))

pub returns-in-Blocked-clause-ahead : goal.returns-in-Blocked-clause-ahead
returns-in-Blocked-clause-ahead g c config at aged past holds n early =
    subst (λ (k : Kept). IsInTime c.args.self.now.moment k.flows.slots n) (sym (ap (λ (s : SlirpState). s.flows) c.in-Blocked.ensures.others))
    (c.tell_addresses.ensures.ahead c.args.self.now.moment n early)

pub returns-in-Failed-clause-ahead : goal.returns-in-Failed-clause-ahead
returns-in-Failed-clause-ahead g c config at aged past holds n early =
    subst (λ (k : Kept). IsInTime c.args.self.now.moment k.flows.slots n) (sym (ap (λ (s : SlirpState). s.flows) c.in-Failed.ensures.others))
    (c.tell_addresses.ensures.ahead c.args.self.now.moment n early)

pub returns-in-Clear-clause-clear : goal.returns-in-Clear-clause-clear
returns-in-Clear-clause-clear g c is = record {
  clear = (subst (λ (r : Pumped). Leaves r c.pump_flows.new.self c.pump_flows.new.link) is c.pump_flows.ensures.leaves).3;
  slots = c.pump_flows.ensures.slots;
  told = c.pump_flows.ensures.told;
}

pub returns-in-Clear-clause-free : goal.returns-in-Clear-clause-free
returns-in-Clear-clause-free g c is = c.in-Clear.ensures.free refl

pub returns-in-Clear-clause-settled : goal.returns-in-Clear-clause-settled
returns-in-Clear-clause-settled g c config at clear =
    let old : SlirpState = c.args.self.now in
    let told : SlirpState = c.tell_addresses.new.self in
    let mid : SlirpState = c.pump_answers.new.self in
    let new : SlirpState = c.pump_flows.new.self in
    let told_moment : told.moment ≡ old.moment = ap (λ (s : SlirpState). s.moment) c.tell_addresses.ensures.same in
    let moment_same : mid.moment ≡ old.moment = ap (λ (s : SlirpState). s.moment) c.in-Clear.ensures.others ∙ told_moment in
    pumped_settled config at old.moment old new c.args.link.now c.pump_flows.new.link c.pump_flows.result clear (ap (λ (s : SlirpState). s.moment) c.pump_flows.ensures.others ∙ moment_same)
    (returns-in-Clear-clause-makes g c config at true)
    c.pump_flows.ensures.slots
    c.pump_flows.ensures.told
    (subst (λ (r : Pumped). Leaves r new c.pump_flows.new.link) clear c.pump_flows.ensures.leaves).3
    (λ past holds n early. returns-in-Clear-clause-ahead g c config at true past holds n early)

pub returns-in-Clear-clause-in_time : goal.returns-in-Clear-clause-in_time
returns-in-Clear-clause-in_time g c have =
    let old : SlirpState = c.args.self.now in
    let told : SlirpState = c.tell_addresses.new.self in
    let same = c.in-Clear.ensures.others in
    let flows_same : c.pump_answers.new.self.flows ≡ told.flows = ap (λ (s : SlirpState). s.flows) same in
    let moment_same : c.pump_answers.new.self.moment ≡ old.moment = ap (λ (s : SlirpState). s.moment) same ∙ ap (λ (s : SlirpState). s.moment) c.tell_addresses.ensures.same in
    subst (λ (m : ℕ). HaveTime m c.pump_flows.new.self.flows.flows.slots) moment_same
    (c.pump_flows.ensures.in_time (subst (λ (m : ℕ). HaveTime m c.pump_answers.new.self.flows.flows.slots) (sym moment_same)
    (subst (λ (k : Kept). HaveTime old.moment k.flows.slots) (sym flows_same) (c.tell_addresses.ensures.in_time old.moment have))))

pub returns-in-Blocked-clause-in_time : goal.returns-in-Blocked-clause-in_time
returns-in-Blocked-clause-in_time g c have =
    subst (λ (k : Kept). HaveTime c.args.self.now.moment k.flows.slots) (sym (ap (λ (s : SlirpState). s.flows) c.in-Blocked.ensures.others))
    (c.tell_addresses.ensures.in_time c.args.self.now.moment have)

pub returns-in-Failed-clause-in_time : goal.returns-in-Failed-clause-in_time
returns-in-Failed-clause-in_time g c have =
    subst (λ (k : Kept). HaveTime c.args.self.now.moment k.flows.slots) (sym (ap (λ (s : SlirpState). s.flows) c.in-Failed.ensures.others))
    (c.tell_addresses.ensures.in_time c.args.self.now.moment have)

-- the marks stay as they were
pub returns-in-Clear-clause-marks : goal.returns-in-Clear-clause-marks
returns-in-Clear-clause-marks g c =
    let old : SlirpState = c.args.self.now in
    let told : SlirpState = c.tell_addresses.new.self in
    let mid : SlirpState = c.pump_answers.new.self in
    let same = c.in-Clear.ensures.others in
    let number : mid.number ≡ old.number = ap (λ (s : SlirpState). s.number) same ∙ ap (λ (s : SlirpState). s.number) c.tell_addresses.ensures.same in
    marks_then old.number mid.number old.flows mid.flows c.pump_flows.new.self.flows (omega (arith, number))
    (subst (λ (k : Kept). KeepsMarks old.number old.flows k) (sym (ap (λ (s : SlirpState). s.flows) same))
    (marks_stay old.number old.flows told.flows c.tell_addresses.ensures.served c.tell_addresses.ensures.turn c.tell_addresses.ensures.stays))
    c.pump_flows.ensures.marks

pub returns-in-Blocked-clause-marks : goal.returns-in-Blocked-clause-marks
returns-in-Blocked-clause-marks g c =
    let old : SlirpState = c.args.self.now in
    subst (λ (k : Kept). KeepsMarks old.number old.flows k) (sym (ap (λ (s : SlirpState). s.flows) c.in-Blocked.ensures.others))
    (marks_stay old.number old.flows c.tell_addresses.new.self.flows c.tell_addresses.ensures.served c.tell_addresses.ensures.turn c.tell_addresses.ensures.stays)

pub returns-in-Failed-clause-marks : goal.returns-in-Failed-clause-marks
returns-in-Failed-clause-marks g c =
    let old : SlirpState = c.args.self.now in
    subst (λ (k : Kept). KeepsMarks old.number old.flows k) (sym (ap (λ (s : SlirpState). s.flows) c.in-Failed.ensures.others))
    (marks_stay old.number old.flows c.tell_addresses.new.self.flows c.tell_addresses.ensures.served c.tell_addresses.ensures.turn c.tell_addresses.ensures.stays)
