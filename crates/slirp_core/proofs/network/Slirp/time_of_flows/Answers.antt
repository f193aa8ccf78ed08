use Rattle.std.proofs.Common.{◌≡◌, ℕ, ◌-◌, ◌<◌, inl, inr, arith, ◌&&◌, nat_le, Bool, List, Option, None, Some, true, false, ap, refl, subst, sym, ◌∙◌}
use Rattle.std.proofs.lemmas.Bool.Decides.{nat_tests}
use Rattle.world_face.specs.Journal.{Entry}
use Rattle.slirp_settings.specs.Addresses.{Config}
use Rattle.sim_flows.specs.Core.{CoreHolds}
use Rattle.tcp_flows.specs.Reading.{IsDue}
use Rattle.slirp_core.specs.State.{SlirpState}
use Rattle.slirp_core.specs.Timeouts.{IsFlowTime, SuitsFlows, WaitForLink}
use Rattle.slirp_core.proofs.Bounding.{suits_after, suits_due}
use Rattle.slirp_core.proofs.network.Slirp.time_of_flows.Goals.{else-blocked-via-else-blocked, else-blocked-via-then-blocked+else-due-self}
use Rattle.slirp_core.proofs.network.Slirp.time_of_flows.Goals as goal

-- a time suits the flows by each trace for which they stand
abbrev Suits : SlirpState → Bool → Option ℕ → Type 0
Suits s blocked time = (config : Config) (before : ℕ) (past : List Entry) → CoreHolds config before true None s.flows.flows past → SuitsFlows config s.moment blocked s.flows.flows.slots past time

not_yet : (at now : ℕ) → now < at → nat_le at now ≡ false
not_yet at now later = grind (arith, nat_tests)

pub returns-in_err-due-clause-suits : goal.returns-in_err-due-clause-suits
returns-in_err-due-clause-suits c =
    let i = c.self.inside in
    subst (λ (s : SlirpState). Suits s c.args.blocked c.from_residual.result) c.self.view_is
    (λ config before past holds.
    suits_due config i.moment c.args.blocked i.flows.flows.slots past None c.from_residual.result c.from_residual.ensures (c.in_err-due.ensures.for_some config before past holds)
    (c.in_err-due.ensures.in_time config before true past holds) (c.in_err-due.ensures.time_waits config before past holds) (c.in_err-due.ensures.rests_later config before past holds)
    (λ at is. absurd cc))

pub returns-clause-suits : goal.returns-clause-suits
returns-clause-suits c =
    let i = c.self.inside in
    subst (λ (s : SlirpState). Suits s c.args.blocked (Some c.saturating_sub.result)) c.self.view_is
    (λ config before past holds.
    suits_due config i.moment c.args.blocked i.flows.flows.slots past (Some c.in_ok-due.due) (Some c.saturating_sub.result) (ap Some c.saturating_sub.ensures)
    (c.in_ok-due.ensures.for_some config before past holds)
    (c.in_ok-due.ensures.in_time config before true past holds) (c.in_ok-due.ensures.time_waits config before past holds) (c.in_ok-due.ensures.rests_later config before past holds)
    (λ at is. let same : c.in_ok-due.due ≡ at = cc in subst (λ (m : ℕ). IsDue i.flows.flows.slots m × ((c.args.blocked && nat_le m i.moment) ≡ false)) same (
      c.in_ok-due.ensures.due,
      elim c.else-blocked.branch [
        | else-blocked-via-else-blocked w ↦ ap (λ (b : Bool). b && nat_le c.in_ok-due.due i.moment) w.if-blocked.false
        | else-blocked-via-then-blocked+else-due-self w ↦ ap (λ (b : Bool). b && nat_le c.in_ok-due.due i.moment) w.if-blocked.true ∙ not_yet c.in_ok-due.due i.moment w.if-due-self.false
      ],
    )))

-- where the link is blocked and the first is due already

pub returns-in_err-later-clause-suits : goal.returns-in_err-later-clause-suits
returns-in_err-later-clause-suits c =
    let i = c.self.inside in
    subst (λ (s : SlirpState). Suits s c.args.blocked c.from_residual-in_err-later.result) c.self.view_is
    (λ config before past holds.
    suits_after config i.moment c.args.blocked i.flows.flows.slots past None c.from_residual-in_err-later.result c.from_residual-in_err-later.ensures
    (c.in_err-later.ensures.for_some config before past holds) c.if-blocked.true
    (c.in_err-later.ensures.in_time config before true past holds) (c.in_err-later.ensures.time_waits config before past holds) c.in_err-later.ensures.next)

pub returns-then-due-self-clause-suits : goal.returns-then-due-self-clause-suits
returns-then-due-self-clause-suits c =
    let i = c.self.inside in
    subst (λ (s : SlirpState). Suits s c.args.blocked (Some (c.in_ok-later.later - i.moment))) c.self.view_is
    (λ config before past holds.
    suits_after config i.moment c.args.blocked i.flows.flows.slots past (Some c.in_ok-later.later) (Some (c.in_ok-later.later - i.moment)) refl
    (c.in_ok-later.ensures.for_some config before past holds) c.if-blocked.true
    (c.in_ok-later.ensures.in_time config before true past holds) (c.in_ok-later.ensures.time_waits config before past holds) c.in_ok-later.ensures.next)

abbrev Time : Bool → Option ℕ → SlirpState → Type 0
Time blocked time s = IsFlowTime blocked s.moment s.flows.flows.slots time

pub returns-in_err-later-clause-time : goal.returns-in_err-later-clause-time
returns-in_err-later-clause-time c =
    let i = c.self.inside in
    let none : IsFlowTime c.args.blocked i.moment i.flows.flows.slots None = inr ((c.if-blocked.true, c.in_ok-due.due, c.in_ok-due.ensures.due, c.if-due-self.true), c.in_err-later.ensures.next) in
    subst (Time c.args.blocked c.from_residual-in_err-later.result) c.self.view_is
    (subst (λ (o : Option ℕ). IsFlowTime c.args.blocked i.moment i.flows.flows.slots o) (sym c.from_residual-in_err-later.ensures) none)

pub returns-clause-time : goal.returns-clause-time
returns-clause-time c =
    let i = c.self.inside in
    let not_late : (c.args.blocked && nat_le c.in_ok-due.due i.moment) ≡ false = elim c.else-blocked.branch [
      | else-blocked-via-else-blocked w ↦ ap (λ (b : Bool). b && nat_le c.in_ok-due.due i.moment) w.if-blocked.false
      | else-blocked-via-then-blocked+else-due-self w ↦ ap (λ (b : Bool). b && nat_le c.in_ok-due.due i.moment) w.if-blocked.true ∙ not_yet c.in_ok-due.due i.moment w.if-due-self.false
    ] in
    subst (Time c.args.blocked (Some c.saturating_sub.result)) c.self.view_is (c.in_ok-due.due, inl (c.in_ok-due.ensures.due, not_late), c.saturating_sub.ensures)

pub returns-then-due-self-clause-time : goal.returns-then-due-self-clause-time
returns-then-due-self-clause-time c =
    let i = c.self.inside in
    let due : WaitForLink c.args.blocked i.moment i.flows.flows.slots = (c.if-blocked.true, c.in_ok-due.due, c.in_ok-due.ensures.due, c.if-due-self.true) in
    subst (Time c.args.blocked (Some (c.in_ok-later.later - i.moment))) c.self.view_is (c.in_ok-later.later, inr (due, c.in_ok-later.ensures.next), refl)
