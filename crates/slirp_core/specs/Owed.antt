-- Which frames are pending, and which transfers of files are kept, by the trace.
use Rattle.std.specs.Prelude.{◌≡◌, ℕ, ◌<◌, ◌⊎◌, not, Bool, true, false, is_some, List, [], length, Some, None}
use Rattle.world_face.specs.Journal.{Entry}
use Rattle.slirp_settings.specs.Addresses.{Config}
use Rattle.rules_tftp.specs.Transfers.{Said, Transfer, ticked}
use Rattle.spec_run.specs.Answers.{frames_of, identification, left, may_go_again, serving, told_of_files}
use Rattle.spec_run.specs.Datagrams.{Step, NeedsNothing}
use Rattle.slirp_core.specs.State.{SlirpState}

-- The transfers that the core keeps of these. Before a wait those that are over are gone, and where nothing else was to be sent the first packet that is due was counted.
abbrev pub kept_by : (aged free : Bool) → ℕ → List Transfer → List Transfer
kept_by false free now transfers = transfers
kept_by true free now transfers = ticked now free transfers

-- what is left of the answer to what came last
pub record OfLeft (config : Config) (aged : Bool) (slirp : SlirpState) (past : List Entry) : Type 0 where
  pub left : left config past ≡ slirp.pending
  pub again : (serving config past).again ≡ None
  pub files : slirp.transfers ≡ kept_by aged false (serving config past).now (serving config past).files.transfers

-- the packet of a file that goes again, of which no frame is out; only before a wait the trace needn't say yet that it does
pub record OfFile (config : Config) (aged : Bool) (slirp : SlirpState) (past : List Entry) : Type 0 where
  pub said : Said
  pub left : left config past ≡ []
  pub may : may_go_again (serving config past) ≡ Some said
  pub some : 0 < length slirp.pending
  pub pending : slirp.pending ≡ frames_of config (identification past) (told_of_files config (Some said))
  pub on_its_way : aged ≡ false → (serving config past).again ≡ Some said
  pub files : slirp.transfers ≡ kept_by aged (not (is_some (serving config past).again)) (serving config past).now (serving config past).files.transfers

-- the one or the other; where what came last still asks for something it is the first
abbrev pub IsOwed : Config → Bool → SlirpState → List Entry → Type 0
IsOwed config aged slirp past = OfLeft config aged slirp past ⊎ OfFile config aged slirp past

abbrev pub IsOwedAt : Step → Config → Bool → SlirpState → List Entry → Type 0
IsOwedAt NeedsNothing config aged slirp past = IsOwed config aged slirp past
IsOwedAt _ config aged slirp past = OfLeft config aged slirp past
