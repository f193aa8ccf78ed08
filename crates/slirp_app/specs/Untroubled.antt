-- A run to whose outside nothing happened that ends it early.
use Rattle.std.specs.Prelude.{◌≡◌, ◌<◌, ◌≤◌, ◌==◌, if◌then◌else◌, Bool, true, false, ℕ, List, [], ◌∷◌, ◌++◌, length, Option, Some, None}
use Rattle.slirp_settings.specs.Addresses.{Config}
use Rattle.replay.specs.Rows.{AreReadable, Fits, Row, schedule_text}
use Rattle.spec_trace.specs.Moments.{waits}
use Rattle.spec_run.specs.Laws.{Lawful}
use Rattle.net_octets.specs.declared.Endpoint.{Endpoint}
use Rattle.control_loop.specs.Runs.{BeginsRun}
use Rattle.world_face.specs.Faults.{failures, link_failed, socket_failed, wait_failed}
use Rattle.world_face.specs.Frames.{encoding}
use Rattle.world_face.specs.Journal.{AreAllowed, Entry, LinkOpen, LinkRead, Place}
use Rattle.world_face.specs.Limits.{most_from_link}
use Rattle.world_face.specs.declared.Io.TheVariants.{End}
use Rattle.world_face.specs.declared.Made.TheVariants.{Done as Opened}

-- the octets that were read on the link, in the order of the reads
abbrev pub link_octets : List Entry → List ℕ
link_octets [] = []
link_octets (LinkRead asked answer octets ∷ past) = link_octets past ++ octets
link_octets (_ ∷ past) = link_octets past

-- a read on the link told its end
abbrev pub tells_end : Entry → Bool
tells_end (LinkRead asked End octets) = true
tells_end _ = false

abbrev pub link_ended : List Entry → Bool
link_ended [] = false
link_ended (e ∷ past) = if tells_end e then true else link_ended past

-- frames, each after its length
abbrev pub encoded : List (List ℕ) → List ℕ
encoded [] = []
encoded (frame ∷ frames) = encoding frame ++ encoded frames

-- none is longer than one on the link may be, 69,632 octets
abbrev pub MayCome : List (List ℕ) → Type 0
MayCome [] = Unit {0}
MayCome (frame ∷ frames) = (length frame ≤ most_from_link) × MayCome frames

-- the calls before the first wait: those by which the ports of the host are opened that are given to guests, and that of the control
abbrev pub before_waits : List Entry → List Entry
before_waits [] = []
before_waits (e ∷ past) = if waits (e ∷ past) == 0 then e ∷ past else before_waits past

-- A run that nothing outside ended early. Sockets that fail later, and files, don't count.
pub record Untroubled (config : Config) (journal : List Entry) : Type 0 where
  -- what came on the link are whole frames, each after its length; some of it may be left where the link didn't end
  pub frames : List (List ℕ)
  pub may_come : MayCome frames
  pub left : List ℕ
  pub came : link_octets journal ++ left ≡ encoded frames
  pub whole : link_ended journal ≡ true → left ≡ []
  -- no call on the link failed, and no wait
  pub link : failures link_failed journal ≡ 0
  pub wait : failures wait_failed journal ≡ 0
  -- the host refused no port that is given to guests, and not that of the control
  pub ports : failures socket_failed (before_waits journal) ≡ 0
  -- fewer waits were made than the settings allow
  pub fewer : waits journal < config.turns

-- behind the opening of the link an untroubled run was made
pub record IsUntroubledBehind (config : Config) (at : Place) (made : List Entry) : Type 0 where
  pub run : List Entry
  pub is : made ≡ run ++ LinkOpen at Opened ∷ []
  pub untroubled : Untroubled config run

-- calls that begin a run: without a control all that are lawful
abbrev pub IsBegun : Option Endpoint → Config → List Entry → Type 0
IsBegun None config journal = Lawful config journal
IsBegun (Some at) config journal = BeginsRun config journal

-- so are all that begin a run and fit the lines of a schedule from the first, however many of them
abbrev pub CanBeFollowed : Config → List ℕ → Type 0
CanBeFollowed config schedule = (journal : List Entry) → Fits journal schedule → AreAllowed journal → IsBegun config.control config journal → Untroubled config journal

-- the entries of a schedule's lines as a trace, newest first, onto what came before them
abbrev pub record_of : List Row → List Entry → List Entry
record_of [] past = past
record_of (row ∷ rows) past = record_of rows (row.entry ∷ past)

-- once the link's end was told no octets are read on it
abbrev pub NoneComesLater : List Entry → Type 0
NoneComesLater [] = Unit {0}
NoneComesLater (e ∷ past) = (link_ended past ≡ true → link_octets (e ∷ past) ≡ link_octets past) × NoneComesLater past

-- each line of a schedule has a reading, and all lines by one of these readings are the trace of an untroubled run
pub record SaysUntroubled (config : Config) (schedule : List ℕ) : Type 0 where
  pub rows : List Row
  pub readable : AreReadable rows
  pub is : schedule ≡ schedule_text rows
  pub untroubled : Untroubled config (record_of rows [])
  pub none_later : NoneComesLater (record_of rows [])
