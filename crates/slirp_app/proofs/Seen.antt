-- What the network sees of a run, by the end to which it came.
use Rattle.std.proofs.Common.{◌≡◌, ◌≢◌, ◌≤◌, ◌||◌, true, List, [], ◌∷◌, Option, Some, None, refl, sym, ◌∙◌, ap, subst}
use Rattle.std.specs.Prelude.{nat_le}
use Rattle.net_octets.specs.declared.Endpoint.{Endpoint}
use Rattle.slirp_settings.specs.Addresses.{Config}
use Rattle.spec_trace.specs.Moments.{waits}
use Rattle.spec_trace.specs.Shape.{By, Refused, Phase, Opening, Started, Woken, Working, Over, is_ended, is_over, phase, phase_after}
use Rattle.spec_run.specs.Laws.{Finished, Lawful}
use Rattle.world_face.specs.Frames.{LinkEnded, LinkCut, LongFrame, LinkFailed, Stopped, WaitFailed, ending, partial}
use Rattle.world_face.specs.Journal.{Entry}
use Rattle.rules_control.specs.Apart.{without_control}
use Rattle.control.proofs.Reading.{reading}
use Rattle.spec_control.specs.ControlServer.{ControlServer, Reads, by_control, control_server, with_changes}
use Rattle.spec_control.specs.Laws.{Refuses}
use Rattle.control_loop.specs.Runs.{IsRefused, IsRun, RunsTo, RunsWith, Serves, seen_by_network}
use Rattle.serve_loop.specs.Ends.{end_of}
use Rattle.serve_loop.specs.declared.service.End.{End}
use Rattle.serve_loop.specs.declared.service.End.TheVariants.{ControlRefused}
use Rattle.slirp_app.proofs.Apart.{waits_apart}
use Rattle.slirp_app.proofs.Ending.{few_waits}

-- These calls are lawful and finished for settings with which the run stands where it does with its own, and the end is the one that they tell.
pub record Sight (config : Config) (end : End) (seen : List Entry) : Type 0 where
  pub its : Config
  pub lawful : Lawful its seen
  pub finished : Finished its seen
  pub same : phase its seen ≡ phase config seen
  pub turns : its.turns ≡ config.turns
  pub ends : end ≡ end_of config (phase config seen)

-- so the network sees it, or the host refused the control
pub data RanTo (control : Option Endpoint) (config : Config) (end : End) (run : List Entry) : Type 0 where
  BySight : Sight config end (seen_by_network control run) → RanTo control config end run
  Unserved : Refuses config run → end ≡ ControlRefused → RanTo control config end run

-- where a run stands doesn't depend on what was added and taken back
same_phase : (config : Config) (d : ControlServer) (past : List Entry) → phase (with_changes config d) past ≡ phase config past
same_phase config d [] = refl
same_phase config d (e ∷ past) = ap (phase_after e (ending e (partial past))) (same_phase config d past)

ran_with : (at : Endpoint) (read : Reads) (config : Config) (end : End) (run : List Entry) → RunsWith read config end run → RanTo (Some at) config end run
ran_with at read config end run (Serves by ends) = BySight (record {
  its = by_control read config run;
  lawful = by.lawful;
  finished = by.finished;
  same = same_phase config (control_server read config run) (without_control run);
  turns = refl;
  ends = ends;
})
ran_with at read config end run (IsRefused refuses is) = Unserved refuses is

pub ran_to : (config : Config) (end : End) (run : List Entry) → IsRun config end run → RanTo config.control config end run
ran_to config end run ran = by config.control ran
  where
    by : (control : Option Endpoint) → RunsTo control config end run → RanTo control config end run
    by None is = BySight (record { its = config; lawful = is.lawful; finished = is.finished; same = refl; turns = refl; ends = is.ends })
    by (Some at) is = let lines = reading config.dhcp_start in ran_with at lines.0 config end run (is lines.0 lines.1)

pub waits_seen : (control : Option Endpoint) (run : List Entry) → waits (seen_by_network control run) ≡ waits run
waits_seen None run = refl
waits_seen (Some at) run = waits_apart run

-- the end is the one that these calls tell; nothing more is to be done, and there were no more waits than the settings allow
pub record SeenTo (config : Config) (end : End) (seen run : List Entry) : Type 0 where
  pub ends : end ≡ end_of config (phase config seen)
  pub ended : is_ended config seen ≡ true
  pub few : waits seen ≤ config.turns
  pub waited : waits seen ≡ waits run

seen_to : (config : Config) (end : End) (seen run : List Entry) → waits seen ≡ waits run → Sight config end seen → SeenTo config end seen run
seen_to config end seen run waited sight = record {
  ends = sight.ends;
  ended = ap (λ p. is_over p || nat_le config.turns (waits seen)) (sym sight.same) ∙ ap (λ n. is_over (phase sight.its seen) || nat_le n (waits seen)) (sym sight.turns) ∙ sight.finished.ended;
  few = subst (λ n. waits seen ≤ n) sight.turns (few_waits sight.its seen sight.lawful);
  waited = waited;
}

pub sees : (config : Config) (end : End) (run : List Entry) → IsRun config end run → end ≢ ControlRefused → SeenTo config end (seen_by_network config.control run) run
sees config end run ran other = by (ran_to config end run ran)
  where
    by : RanTo config.control config end run → SeenTo config end (seen_by_network config.control run) run
    by (BySight sight) = seen_to config end (seen_by_network config.control run) run (waits_seen config.control run) sight
    by (Unserved refuses is) = absurd (other is)

-- no call of the network tells that the control was refused
not_by_network : (config : Config) (p : Phase) → ControlRefused ≡ end_of config p → ⊥
not_by_network config (Opening opened forwards) is = cc
not_by_network config Started is = cc
not_by_network config Woken is = cc
not_by_network config Working is = cc
not_by_network config (Over (By LinkEnded)) is = cc
not_by_network config (Over (By (LinkCut octets))) is = cc
not_by_network config (Over (By (LongFrame size))) is = cc
not_by_network config (Over (By LinkFailed)) is = cc
not_by_network config (Over (By Stopped)) is = cc
not_by_network config (Over (By WaitFailed)) is = cc
not_by_network config (Over (Refused forward)) is = cc

pub refused : (config : Config) (end : End) (run : List Entry) → IsRun config end run → end ≡ ControlRefused → Refuses config run
refused config end run ran is = by (ran_to config end run ran)
  where
    by : RanTo config.control config end run → Refuses config run
    by (BySight sight) = absurd (not_by_network config (phase config (seen_by_network config.control run)) (sym is ∙ sight.ends))
    by (Unserved refuses same) = refuses
