use Rattle.std.proofs.Common.{◌≡◌, ◌+◌, [], ◌∷◌, ◌++◌, List, if◌then◌else◌, true, false, refl, sym, ◌∙◌, ap, subst}
use Rattle.poll_list.specs.Listing.{Listing, writes}
use Rattle.poll_list.specs.declared.Want.{Want}
use Rattle.poll_list.specs.declared.Who.TheVariants.{Link as TheLink}
use Rattle.world_face.specs.Frames.{Stopped, WaitFailed}
use Rattle.world_face.specs.Journal.{AreAllowed, Entry, Wait, Now}
use Rattle.world_face.specs.Tells.{Answers, Brings}
use Rattle.world_face.specs.declared.Waited.TheVariants.{Ready, Stop, Failed}
use Rattle.world_face.specs.Faults.{wait_failed}
use Rattle.world_face.proofs.Counting.{some_failed, wait_rose}
use Rattle.world_face.proofs.Telling.{brings_one, makes_one, makes_next}
use Rattle.slirp_core.proofs.Telling.{brings_allowed}
use Rattle.slirp_core.specs.Holds.{after, standing}
use Rattle.serve_loop.specs.Turns.{AllSent, AreYoung, AttendsAfterSleep, HoldsNow, IsCalm, IsCalmAfter, MayRest, NoneGoesAgain, NoneTold}
use Rattle.serve_loop.specs.Served.{ServiceState}
use Rattle.slirp_core.specs.State.{SlirpState}
use Rattle.serve_loop.specs.declared.service.Slept.TheVariants.{Ready as SleptReady, Stopped as SleptStopped, Failed as SleepFailed}
use Rattle.serve_loop.proofs.Sleeping.{must_rest}
use Rattle.slirp_core.proofs.Unserved.{wants_differ}
use Rattle.slirp_core.proofs.Waiting.{wait_ends_it, wait_wakes}
use Rattle.serve_loop.proofs.Left.{can_take_at_first, left_at_first}
use Rattle.serve_loop.proofs.Turning.{calm_after_wait, link_written, same_under_way}
use Rattle.serve_loop.proofs.service.Service.sleep.Goals as goal

pub returns-in-Stop-clause-makes : goal.returns-in-Stop-clause-makes
returns-in-Stop-clause-makes g c config count few =
    let slirp = c.self.inside.slirp in
    let link = c.self.inside.link in
    let none_again : NoneGoesAgain slirp = subst (λ (s : ServiceState). NoneGoesAgain s.slirp) (sym c.self.view_is) c.requires.none in
    let young_now : AreYoung slirp = subst (λ (s : ServiceState). AreYoung s.slirp) (sym c.self.view_is) c.requires.young in
    let calm_now : IsCalm slirp link = subst (λ (s : ServiceState). IsCalm s.slirp s.link) (sym c.self.view_is) c.requires.calm in
    let sent_now : AllSent slirp link = subst (λ (s : ServiceState). AllSent s.slirp s.link) (sym c.self.view_is) c.requires.sent in
    let fill = c.pollfds_fill-timeout in
    let as_it_must = must_rest slirp link fill.new.wants.items fill.result none_again young_now calm_now sent_now fill.ensures.timeout fill.ensures.items fill.ensures.waited_for in
    subst (λ (s : ServiceState). Brings (g.W.World.tells c.args.world.now) (g.W.World.tells c.wait.new.self) (MayRest config (after count) s.slirp s.link)
    (AttendsAfterSleep SleptStopped config (count + 1) c.pollfds_fill-timeout.new.wants.items c.wait.new.ready.items slirp link)) c.self.view_is
    (brings_one (subst (λ (l : Listing). Answers (g.W.World.tells c.args.world.now) (g.W.World.tells c.wait.new.self)
    (Wait l.items c.pollfds_fill-timeout.result Stop c.wait.new.ready.items)) c.list.ensures c.in-Stop.ensures.answers) (λ allowed past rest. let now = rest.0 in (
      wait_ends_it config count slirp slirp.flows link past c.pollfds_fill-timeout.new.wants.items c.pollfds_fill-timeout.result few c.pollfds_fill-timeout.ensures.few none_again now.0 Stop c.wait.new.ready.items Stopped refl,
      (as_it_must config count past now.0 rest.1 now.1.1, now.1.0),
    )))

pub returns-in-Failed-clause-makes : goal.returns-in-Failed-clause-makes
returns-in-Failed-clause-makes g c config count few =
    let slirp = c.self.inside.slirp in
    let link = c.self.inside.link in
    let none_again : NoneGoesAgain slirp = subst (λ (s : ServiceState). NoneGoesAgain s.slirp) (sym c.self.view_is) c.requires.none in
    let young_now : AreYoung slirp = subst (λ (s : ServiceState). AreYoung s.slirp) (sym c.self.view_is) c.requires.young in
    let calm_now : IsCalm slirp link = subst (λ (s : ServiceState). IsCalm s.slirp s.link) (sym c.self.view_is) c.requires.calm in
    let sent_now : AllSent slirp link = subst (λ (s : ServiceState). AllSent s.slirp s.link) (sym c.self.view_is) c.requires.sent in
    let fill = c.pollfds_fill-timeout in
    let as_it_must = must_rest slirp link fill.new.wants.items fill.result none_again young_now calm_now sent_now fill.ensures.timeout fill.ensures.items fill.ensures.waited_for in
    subst (λ (s : ServiceState). Brings (g.W.World.tells c.args.world.now) (g.W.World.tells c.wait.new.self) (MayRest config (after count) s.slirp s.link)
    (AttendsAfterSleep SleepFailed config (count + 1) c.pollfds_fill-timeout.new.wants.items c.wait.new.ready.items slirp link)) c.self.view_is
    (brings_one (subst (λ (l : Listing). Answers (g.W.World.tells c.args.world.now) (g.W.World.tells c.wait.new.self)
    (Wait l.items c.pollfds_fill-timeout.result Failed c.wait.new.ready.items)) c.list.ensures c.in-Failed.ensures.answers) (λ allowed past rest. let now = rest.0 in (
      wait_ends_it config count slirp slirp.flows link past c.pollfds_fill-timeout.new.wants.items c.pollfds_fill-timeout.result few c.pollfds_fill-timeout.ensures.few none_again now.0 Failed c.wait.new.ready.items WaitFailed refl,
      (as_it_must config count past now.0 rest.1 now.1.1, now.1.0),
    )))

pub returns-in-Ready-clause-makes : goal.returns-in-Ready-clause-makes
returns-in-Ready-clause-makes g c config count few =
    let slirp = c.self.inside.slirp in
    let link = c.self.inside.link in
    let none_again : NoneGoesAgain slirp = subst (λ (s : ServiceState). NoneGoesAgain s.slirp) (sym c.self.view_is) c.requires.none in
    let young_now : AreYoung slirp = subst (λ (s : ServiceState). AreYoung s.slirp) (sym c.self.view_is) c.requires.young in
    let calm_now : IsCalm slirp link = subst (λ (s : ServiceState). IsCalm s.slirp s.link) (sym c.self.view_is) c.requires.calm in
    let sent_now : AllSent slirp link = subst (λ (s : ServiceState). AllSent s.slirp s.link) (sym c.self.view_is) c.requires.sent in
    let fill = c.pollfds_fill-timeout in
    let as_it_must = must_rest slirp link fill.new.wants.items fill.result none_again young_now calm_now sent_now fill.ensures.timeout fill.ensures.items fill.ensures.waited_for in
    let new = c.report.new.link in
    let wants = c.pollfds_fill-timeout.new.wants.items in
    let timeout = c.pollfds_fill-timeout.result in
    let ready = c.wait.new.ready.items in
    let told = c.now-told.result in
    let same = c.report.ensures.same in
    let free = c.report.ensures.free ∙ ap (λ (l : List Want). if writes TheLink l then false else link.blocked) c.items.ensures in
    let waits = makes_one _ _ (Wait wants timeout Ready ready) (λ made. made ≡ Wait wants timeout Ready ready ∷ [])
    (subst (λ (l : Listing). Answers (g.W.World.tells c.args.world.now) (g.W.World.tells c.wait.new.self)
    (Wait l.items c.pollfds_fill-timeout.result Ready c.wait.new.ready.items)) c.list.ensures c.in-Ready.ensures.answers) (λ allowed. refl) in
    let both = makes_next _ _ _ (Now told) (λ made. made ≡ Wait wants timeout Ready ready ∷ []) (λ made. made ≡ Now told ∷ Wait wants timeout Ready ready
    ∷ []) waits c.now-told.ensures (λ made is allowed. ap (λ (l : List Entry). Now told ∷ l) is) in
    subst (λ (s : ServiceState). Brings (g.W.World.tells c.args.world.now) (g.W.World.tells c.now-told.new.self) (MayRest config (after count) s.slirp s.link)
    (AttendsAfterSleep SleptReady config (count + 1) wants ready c.tell_moment.new.self new)) c.self.view_is
    (brings_allowed both (λ made is allowed past rest.
    let now = rest.0 in
    let fine = subst AreAllowed is allowed in
    let must = as_it_must config count past now.0 rest.1 now.1.1 in
    let apart = fine.1.0.0.1 (wants_differ config past now.0.lawful wants must.waits_for fine.1.0.1) in
    let untold = subst (λ (s : ServiceState). NoneTold s.slirp) (sym c.self.view_is) c.requires.untold in
    subst (λ (m : List Entry). AttendsAfterSleep SleptReady config (count + 1) wants ready c.tell_moment.new.self new (m ++ past)) (sym is) (
      record {
        holds = subst (λ (s : SlirpState). HoldsNow config (standing (count + 1) wants ready) false s new (Now told ∷ Wait wants timeout Ready ready ∷ past)) (sym c.tell_moment.ensures)
            (wait_wakes config count slirp slirp.flows link past wants timeout few c.pollfds_fill-timeout.ensures.few none_again now.0 ready told new fine.1.0 fine.0 (same_under_way link new same.0 same.1) same.2 free);
        left = left_at_first config past wants timeout ready told c.tell_moment.new.self (subst NoneTold (sym c.tell_moment.ensures) untold) apart;
        can_take = can_take_at_first config past wants timeout ready told (after count) true slirp c.tell_moment.new.self link new now.0 sent_now must.waits_for same.2
            (ap (λ (s : SlirpState). s.pending) c.tell_moment.ensures);
      },
      (tt, (must, now.1.0)),
    )))

pub returns-in-Ready-clause-calm : goal.returns-in-Ready-clause-calm
returns-in-Ready-clause-calm g c woken =
    let slirp = c.self.inside.slirp in
    let link = c.self.inside.link in
    let ready = c.wait.new.ready.items in
    let free = c.report.ensures.free ∙ ap (λ (l : List Want). if writes TheLink l then false else link.blocked) c.items.ensures in
    subst (λ (s : SlirpState). IsCalmAfter c.pollfds_fill-timeout.new.wants.items ready s c.report.new.link) (sym c.tell_moment.ensures)
    (calm_after_wait c.pollfds_fill-timeout.new.wants.items ready slirp link c.report.new.link (writes TheLink ready) refl free
    (link_written slirp link c.pollfds_fill-timeout.new.wants.items c.pollfds_fill-timeout.ensures.items)
    (subst (λ (s : ServiceState). IsCalm s.slirp s.link) (sym c.self.view_is) c.requires.calm))

pub returns-in-Ready-clause-few : goal.returns-in-Ready-clause-few
returns-in-Ready-clause-few g c woken = c.in-Ready.ensures.answers.allowed.0.2

pub returns-in-Failed-clause-failed : goal.returns-in-Failed-clause-failed
returns-in-Failed-clause-failed g c is = wait_rose _ _ _ (subst (λ (l : Listing). Answers (g.W.World.tells c.args.world.now) (g.W.World.tells c.wait.new.self)
    (Wait l.items c.pollfds_fill-timeout.result Failed c.wait.new.ready.items)) c.list.ensures c.in-Failed.ensures.answers).counted
    (some_failed wait_failed (Wait c.pollfds_fill-timeout.new.wants.items c.pollfds_fill-timeout.result Failed c.wait.new.ready.items) [] refl)
