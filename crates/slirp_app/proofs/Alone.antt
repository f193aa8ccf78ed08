-- Where there is no control a run is that of the network alone.
use Rattle.std.proofs.Common.{◌≡◌, List, [], ◌∷◌, ◌++◌, Option, None, append_assoc, sym, subst}
use Rattle.net_octets.specs.declared.Endpoint.{Endpoint}
use Rattle.slirp_settings.specs.Addresses.{Config}
use Rattle.spec_run.specs.Laws.{Lawful, May}
use Rattle.serve_loop.specs.declared.service.End.{End}
use Rattle.control_loop.specs.Runs.{BeginsRun, GoesOnWith, IsRun, RunsAlone, RunsTo}
use Rattle.world_face.specs.Journal.{Call, Entry}
use Rattle.world_face.proofs.Following.{follows_before}

pub alone : (config : Config) (end : End) (run : List Entry) → config.control ≡ None → IsRun config end run → RunsAlone config end run
alone config end run none is = subst (λ (control : Option Endpoint). RunsTo control config end run) none is

pub begun_lawfully : (config : Config) (front : List Entry) → config.control ≡ None → BeginsRun config front → Lawful config front
begun_lawfully config front none begins = follows_before (May config) begins.later front (alone config begins.end (begins.later ++ front) none begins.run).lawful

pub may_go_on : (config : Config) (front : List Entry) (call : Call) → config.control ≡ None → GoesOnWith config front call → May config front call
may_go_on config front call none goes = subst (May config front) (sym goes.is) (begun_lawfully config (goes.next ∷ front) none goes.begins).0

-- with a control, too: what begins with one call more begins without it
pub begun_before : (config : Config) (e : Entry) (front : List Entry) → BeginsRun config (e ∷ front) → BeginsRun config front
begun_before config e front begins = record {
  later = begins.later ++ (e ∷ []);
  end = begins.end;
  run = subst (IsRun config begins.end) (sym (append_assoc begins.later (e ∷ []) front)) begins.run;
}
