-- What a run comes to: that of a network alone, and that of one with a control.
use Rattle.std.specs.Prelude.{◌≡◌, List, ◌∷◌, ◌++◌, Option, None, Some}
use Rattle.net_octets.specs.declared.Endpoint.{Endpoint}
use Rattle.world_face.specs.Journal.{Call, Entry, call_of}
use Rattle.slirp_settings.specs.Addresses.{Config}
use Rattle.spec_trace.specs.Shape.{phase}
use Rattle.spec_run.specs.Laws.{Finished, Lawful}
use Rattle.spec_duties.specs.Duties.{Dutiful}
use Rattle.rules_control.specs.Apart.{without_control}
use Rattle.spec_control.specs.ControlServer.{Reads}
use Rattle.spec_control.specs.Laws.{IsReading, Refuses, RunsBy}
use Rattle.serve_loop.specs.Ends.{end_of}
use Rattle.serve_loop.specs.declared.service.End.{End}
use Rattle.serve_loop.specs.declared.service.End.TheVariants.{ControlRefused}

-- Without a control: each call is lawful, each wait is as it must be, nothing more is to be done, and the end is the one that the calls tell.
pub record RunsAlone (config : Config) (end : End) (run : List Entry) : Type 0 where
  pub lawful : Lawful config run
  pub dutiful : Dutiful config run
  pub finished : Finished config run
  pub ends : end ≡ end_of config (phase config run)

-- With one: so it is of what the network sees, by the settings with all that was added and taken back, and each call is one that may come where there is a control; or the host refused the control.
pub data RunsWith (read : Reads) (config : Config) (end : End) (run : List Entry) : Type 0 where
  Serves : RunsBy read config run → end ≡ end_of config (phase config (without_control run)) → RunsWith read config end run
  IsRefused : Refuses config run → end ≡ ControlRefused → RunsWith read config end run

abbrev pub RunsTo : Option Endpoint → Config → End → List Entry → Type 0
RunsTo None config end run = RunsAlone config end run
RunsTo (Some at) config end run = (read : Reads) → IsReading config read → RunsWith read config end run

-- a run with these settings, which came to this end
abbrev pub IsRun : Config → End → List Entry → Type 0
IsRun config end run = RunsTo config.control config end run

-- what the network sees of a run
abbrev pub seen_by_network : Option Endpoint → List Entry → List Entry
seen_by_network None run = run
seen_by_network (Some at) run = without_control run

-- These calls begin such a run.
pub record BeginsRun (config : Config) (front : List Entry) : Type 0 where
  pub later : List Entry
  pub end : End
  pub run : IsRun config end (later ++ front)

-- And this call is the next one in it.
pub record GoesOnWith (config : Config) (front : List Entry) (call : Call) : Type 0 where
  pub next : Entry
  pub is : call ≡ call_of next
  pub begins : BeginsRun config (next ∷ front)
