-- What `serve` did.
use Rattle.std.specs.Prelude.{◌≡◌, ℕ, List, [], ◌∷◌, ◌++◌, Option}
use Rattle.world_face.specs.Journal.{Entry, Place, LinkOpen}
use Rattle.world_face.specs.Puts.{added}
use Rattle.world_face.specs.Tells.{Counts, Rose}
use Rattle.world_face.specs.declared.Made.TheVariants.{Done, Failed}
use Rattle.slirp_settings.specs.Addresses.{Config}
use Rattle.replay.specs.Text.{text}
use Rattle.serve_loop.specs.declared.service.End.{End}
use Rattle.control_loop.specs.Runs.{IsRun}
use Rattle.command_words.specs.declared.Tap.{Tap}
use Rattle.command_words.specs.declared.Tap.TheVariants.{Off, Record, Capture}
use Rattle.slirp_app.specs.Statuses.{outcome_of}
use Rattle.app_edges.specs.declared.outcome.Outcome.{Outcome}
use Rattle.app_edges.specs.declared.outcome.Outcome.TheVariants.{ControlRefused, LinkFault, ListenRefused, NoMemory, SinkFault, WaitFault}
use Rattle.taps.specs.Capturing.{capture}

-- The calls of a whole run with these settings; the outcome is that of the end to which it came.
pub record ComesTo (config : Config) (outcome : Outcome) (run : List Entry) : Type 0 where
  pub end : End
  pub ran : IsRun config end run
  pub is : outcome ≡ outcome_of end

-- The count of the fault by which a run ended rose: of the link's, of the waits', or, where a port of the host was refused or that of the control, of the sockets'.
abbrev pub IsCounted : Outcome → (old new : Counts) → Type 0
IsCounted LinkFault old new = Rose old.link new.link
IsCounted WaitFault old new = Rose old.wait new.wait
IsCounted (ListenRefused forward) old new = Rose old.socket new.socket
IsCounted ControlRefused old new = Rose old.socket new.socket
IsCounted _ old new = Unit {0}

-- The link was opened, and behind that a run was made; or it couldn't be opened.
pub data OpensAt (config : Config) (at : Place) (outcome : Outcome) (made : List Entry) : Type 0 where
  Runs : (run : List Entry) → made ≡ run ++ LinkOpen at Done ∷ [] → ComesTo config outcome run → OpensAt config at outcome made
  IsRefused : made ≡ LinkOpen at Failed ∷ [] → outcome ≡ LinkFault → OpensAt config at outcome made

-- `out` got these octets, and the outcome is that of what was done; or it failed to take some of them, and the outcome is that.
pub data IsGiven (octets : List ℕ) (done outcome : Outcome) (old new : Option (List ℕ)) : Type 0 where
  Took : new ≡ added octets old → outcome ≡ done → IsGiven octets done outcome old new
  TookNot : outcome ≡ SinkFault → IsGiven octets done outcome old new

-- A run was made, and the text of its calls given.
pub record IsRecorded (config : Config) (outcome : Outcome) (old new : Option (List ℕ)) (run : List Entry) : Type 0 where
  pub done : Outcome
  pub ran : ComesTo config done run
  pub given : IsGiven (text run) done outcome old new

-- With `--record`: the run that is made behind the opening of the link is recorded. Where the link couldn't be opened nothing is put.
pub data RecordsAt (config : Config) (at : Place) (outcome : Outcome) (old new : Option (List ℕ)) (made : List Entry) : Type 0 where
  Records : (run : List Entry) → made ≡ run ++ LinkOpen at Done ∷ [] → IsRecorded config outcome old new run → RecordsAt config at outcome old new made
  IsUnopened : made ≡ LinkOpen at Failed ∷ [] → outcome ≡ LinkFault → new ≡ old → RecordsAt config at outcome old new made

-- With `--capture`: the head of the file and the frames of all calls are given. Where the link couldn't be opened that is the head alone.
pub record CapturesAt (config : Config) (at : Place) (outcome : Outcome) (old new : Option (List ℕ)) (made : List Entry) : Type 0 where
  pub done : Outcome
  pub opens : OpensAt config at done made
  pub given : IsGiven (capture made) done outcome old new

-- with neither flag nothing is put
abbrev pub TapsAt : Config → Place → Tap → Outcome → (old new : Option (List ℕ)) → List Entry → Type 0
TapsAt config at Off outcome old new made = OpensAt config at outcome made × (new ≡ old)
TapsAt config at Record outcome old new made = RecordsAt config at outcome old new made
TapsAt config at Capture outcome old new made = CapturesAt config at outcome old new made

-- That, or there was no memory, no call was made and nothing put.
pub data ServesAt (config : Config) (at : Place) (tap : Tap) (outcome : Outcome) (old new : Option (List ℕ)) (made : List Entry) : Type 0 where
  Serves : TapsAt config at tap outcome old new made → ServesAt config at tap outcome old new made
  HasNoMemory : made ≡ [] → outcome ≡ NoMemory → new ≡ old → ServesAt config at tap outcome old new made
