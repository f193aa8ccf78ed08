-- What is done by what the words mean.
use Rattle.std.specs.Prelude.{◌≡◌, ◌≢◌, ◌⊎◌, ◌↔◌, ℕ, ◌<◌, ◌≤◌, List, [], length, Option, Some, None, IsTrue}
use Rattle.world_face.specs.Frames.{LinkCut, LinkEnded, LinkFailed, LongFrame, Stopped, WaitFailed}
use Rattle.world_face.specs.Journal.{Follows, IsPlace, Place}
use Rattle.world_face.specs.Puts.{added}
use Rattle.world_face.specs.Tells.{Telling, Makes}
use Rattle.slirp_settings.specs.Addresses.{Config}
use Rattle.slirp_settings.specs.declared.Forward.{Forward}
use Rattle.command_words.specs.declared.Setting.{Setting}
use Rattle.drive_world.specs.Runs.{Run, summary_text}
use Rattle.replay.specs.Unread.{IsFirstUnread}
use Rattle.replay.specs.declared.Divergence.{Divergence}
use Rattle.spec_trace.specs.Moments.{waits}
use Rattle.spec_trace.specs.Shape.{Over, Refused, phase}
use Rattle.command_words.specs.Meaning.{Meaning, Means, Replays, Serves, Drives, Helps, TellsVersion, broken_in, config_of, said}
use Rattle.command_words.specs.Stops.{StopsAt}
use Rattle.command_words.specs.declared.Command.{Command}
use Rattle.command_words.specs.declared.Stop.{Stop}
use Rattle.command_words.specs.Options.{Word}
use Rattle.command_words.specs.declared.Tap.{Tap}
use Rattle.command_words.specs.declared.WordFault.{WordFault}
use Rattle.command_words.specs.declared.WordFault.TheVariants.{Usage as Misread, BadConfig as BadField}
use Rattle.serve_loop.specs.declared.service.End.{End}
use Rattle.spec_control.specs.Laws.{Refuses}
use Rattle.control_loop.specs.Runs.{IsRun, seen_by_network}
use Rattle.slirp_app.specs.Causes.{CannotRead, Caused, IsTooLarge, RanOn}
use Rattle.app_edges.specs.Fetching.{IsUnreadable, IsWhole, MayFetch, is_read, octets_read}
use Rattle.slirp_app.specs.Ran.{Ceased, EndsBy}
use Rattle.slirp_app.specs.Serving.{IsCounted, ServesAt}
use Rattle.app_edges.specs.Statuses.{code_of, is_run}
use Rattle.app_edges.specs.Texts.{help_text, version_text}
use Rattle.slirp_app.specs.Statuses.{outcome_of}
use Rattle.app_edges.specs.declared.outcome.Outcome.{Outcome}
use Rattle.app_edges.specs.declared.outcome.Outcome.TheVariants.{BadConfig, Diverged, FrameCut, FrameTooLong, ListenRefused, ScheduleLine, TurnsSpent, Usage}

-- What `replay FILE` does: the calls on the outer World, and by each status what came of the schedule and of the run. Told says that `err` got the text of an outcome.
pub record ReplaysFile (file : Word) (config : Config) (status : ℕ) (world world_new : Telling) (old new : Option (List ℕ)) (Told : Outcome → Type 0) : Type 0 where
  -- only FILE is read, from its start on and without a gap
  pub calls : Makes world world_new (Follows (MayFetch file))
  -- 3 comes only where FILE is missing, has over 64 MiB or ended before its length, or the count of the files' faults rose; or else where each line has a
  -- reading and the stars take over 1 GiB of room
  pub unreadable : status ≡ 3 → Makes world world_new (λ made. CannotRead world world_new made ⊎ IsTooLarge made)
  -- where FILE can't be read it is 3, and no other
  pub only_unreadable : Makes world world_new (λ made. IsUnreadable made → status ≡ 3)
  -- else, 13 aside, as many octets were read as FILE's length says
  pub whole : IsTrue (is_read status) → Makes world world_new IsWhole
  -- 4 comes exactly where a line of FILE has no reading, and the text has the first such line
  pub misencoded : IsTrue (is_read status) → Makes world world_new (λ made. (status ≡ 4) ↔ (line : ℕ) × IsFirstUnread (octets_read made) line)
  pub named : status ≡ 4 → Makes world world_new (λ made. (line : ℕ) × IsFirstUnread (octets_read made) line × Told (ScheduleLine line))
  -- a run's trace was put and then the status; but for 5 it is that of a whole run, and the status is that of the end to which it came
  pub ran : IsTrue (is_run status) → RanOn config world world_new status old new (λ schedule journal. status ≢ 5 → (end : End) × IsRun config end journal ×
      (status ≡ code_of (outcome_of end)))
  -- with 5 it ceased at the call that comes next and fits no line, and the text names the line, the call, and the call of the line
  pub diverged : status ≡ 5 → RanOn config world world_new 5 old new (λ schedule journal. (divergence : Divergence) × Ceased config schedule divergence journal × Told (Diverged divergence))
  -- with 0 a wait was told to stop, or the link ended between two frames
  pub done : status ≡ 0 → RanOn config world world_new 0 old new (λ schedule journal. let seen = seen_by_network config.control journal in EndsBy Stopped seen ⊎ EndsBy LinkEnded seen)
  -- with 6 a length over 69,632 was read, and the text has it
  pub too_long : status ≡ 6 → RanOn config world world_new 6 old new (λ schedule journal. (size : ℕ) × EndsBy (LongFrame size) (seen_by_network config.control journal) × (69632 < size) × Told (FrameTooLong size))
  -- with 7 the link ended inside a length or frame, and the text has how many octets of it had come
  pub cut : status ≡ 7 → RanOn config world world_new 7 old new (λ schedule journal. (octets : ℕ) × EndsBy (LinkCut octets) (seen_by_network config.control journal) × Told (FrameCut octets))
  -- with 8 a call on the link failed, with 9 a wait
  pub link_fault : status ≡ 8 → RanOn config world world_new 8 old new (λ schedule journal. EndsBy LinkFailed (seen_by_network config.control journal))
  pub wait_fault : status ≡ 9 → RanOn config world world_new 9 old new (λ schedule journal. EndsBy WaitFailed (seen_by_network config.control journal))
  -- with 10 there were as many waits as the settings allow, and the text has their number
  pub spent : status ≡ 10 → RanOn config world world_new 10 old new (λ schedule journal. (waits journal ≡ config.turns) × Told (TurnsSpent config.turns))
  -- with 11 the host refused a forward, and the text has its number, counted from 0
  pub forward_refused : status ≡ 11 → RanOn config world world_new 11 old new (λ schedule journal. (forward : ℕ) × (phase config (seen_by_network config.control journal) ≡ Over (Refused forward)) × Told (ListenRefused forward))
  -- with 14 the host refused the control
  pub control_refused : status ≡ 14 → RanOn config world world_new 14 old new (λ schedule journal. Refuses config journal)

-- What `serve --link AT` does: the link is opened, and then the calls are those of one whole run with the settings of the words; what the words ask
-- for is put of these calls, the same ones whether `world` tells them or not; `err` got the text of the outcome; and the count of the fault that ended it
-- rose.
pub record ServesLink (config : Config) (at : Place) (tap : Tap) (status : ℕ) (world world_new : Telling) (old new : Option (List ℕ)) (Told : Outcome → Type 0) : Type 0 where
  pub outcome : Outcome
  pub is : status ≡ code_of outcome
  pub told : Told outcome
  pub makes : Makes world world_new (ServesAt config at tap outcome old new)
  -- with 8 the count of the link's faults rose, with 9 that of the waits', with 11 and 14 that of the sockets'
  pub counted : IsCounted outcome world.faults world_new.faults

-- What `drive NUMBER OCTETS` does: the network runs on a World that is made from NUMBER, whose guest sends OCTETS octets.
pub record DrivesRun (number octets : ℕ) (status : ℕ) (world world_new : Telling) (old new : Option (List ℕ)) : Type 0 where
  -- no call is made on the outer World
  pub untouched : Makes world world_new (λ made. made ≡ [])
  -- the status is that of a run that was made, of one whose summary wasn't taken, or of no memory
  pub ends : (status ≡ 0) ⊎ (status ≡ 12) ⊎ (status ≡ 13)
  -- with 0 the summary of a run from this number was put, and nothing else
  pub summary : status ≡ 0 → (run : Run) × (run.number ≡ number) × (new ≡ added (summary_text run) old)

-- What `--help` and `--version` do: a text is put.
pub record TellsText (text : List ℕ) (status : ℕ) (world world_new : Telling) (old new : Option (List ℕ)) : Type 0 where
  -- no call is made on the outer World
  pub untouched : Makes world world_new (λ made. made ≡ [])
  -- the text was put, or `out` failed to take some of it
  pub ends : (status ≡ 0) ⊎ (status ≡ 12)
  pub put : status ≡ 0 → new ≡ added text old

-- what comes of the outcome alone; the settings of a run are those of the words
abbrev pub Does : Meaning → Outcome → (world world_new : Telling) → (old new : Option (List ℕ)) → Type 0
Does (Replays file config) outcome world world_new old new = Makes world world_new (λ made. Follows (MayFetch file) made × Caused config outcome made old new)
Does (Serves config at tap) outcome world world_new old new = Makes world world_new (ServesAt config at tap outcome old new) × IsCounted outcome world.faults world_new.faults
Does (Drives number octets) outcome world world_new old new = DrivesRun number octets (code_of outcome) world world_new old new
Does Helps outcome world world_new old new = TellsText help_text (code_of outcome) world world_new old new
Does TellsVersion outcome world world_new old new = TellsText version_text (code_of outcome) world world_new old new

-- a file has a name that can be asked for, a link a place at which it can be opened, a drill as many octets as it may have
abbrev pub CanBeDone : Meaning → Type 0
CanBeDone (Replays file config) = (0 < length file) × (length file ≤ 1280)
CanBeDone (Serves config at tap) = IsPlace at
CanBeDone (Drives number octets) = octets ≤ 10000000
CanBeDone Helps = Unit {0}
CanBeDone TellsVersion = Unit {0}

-- the forwards of the settings of a command; none without one
abbrev pub forwards_in : Option Command → List Forward
forwards_in (Some command) = (config_of (said command)).forwards
forwards_in None = []

-- what comes of words that aren't followed
abbrev pub refusal_of : WordFault → Outcome
refusal_of (Misread stop) = Usage stop
refusal_of (BadField setting) = BadConfig setting

-- The words mean one thing, and it is done; or they mean one of which a setting isn't in its range; or nothing.
pub data Course (words : List Word) (outcome : Outcome) (world world_new : Telling) (old new : Option (List ℕ)) : Type 0 where
  Meant : (meaning : Meaning) → Means words meaning → ((other : Meaning) → Means words other → other ≡ meaning) → broken_in meaning ≡ None → code_of outcome ≢ 1 → code_of outcome ≢ 2
      → Does meaning outcome world world_new old new → Course words outcome world world_new old new
  Misset : (meaning : Meaning) (setting : Setting) → Means words meaning → ((other : Meaning) → Means words other → broken_in other ≡ Some setting) → outcome ≡ BadConfig setting
      → Makes world world_new (λ made. made ≡ []) → Course words outcome world world_new old new
  Misused : (stop : Stop) → StopsAt words stop → ((meaning : Meaning) → ¬ Means words meaning) → outcome ≡ Usage stop → Makes world world_new (λ made. made ≡ []) →
      Course words outcome world world_new old new
