-- What the laws come to of files: which calls ask for them, what guests are told of them, and what goes again, by the trace of calls.
use Rattle.std.specs.Prelude.{◌≡◌, ℕ, ◌+◌, ◌-◌, ◌%◌, ◌^◌, ◌≤◌, ◌⊎◌, All, Bool, true, false, List, [], ◌∷◌, ◌++◌, drop, length, find, Option, Some, None, option_map, if◌then◌else◌}
use Rattle.world_face.specs.Journal.{Entry, FileLen, FileRead, Wait}
use Rattle.world_face.specs.Frames.{goes_out}
use Rattle.world_face.specs.declared.FileSize.{FileSize}
use Rattle.world_face.specs.declared.FileSize.TheVariants.{Length, Missing, Failed as SizeFailed}
use Rattle.net_octets.specs.declared.Endpoint.{Endpoint}
use Rattle.slirp_settings.specs.Addresses.{Config}
use Rattle.slirp_settings.specs.Classes.{same_endpoint}
use Rattle.spec_trace.specs.Happenings.{Arrival, datagram_came, happens}
use Rattle.spec_trace.specs.Moments.{moment}
use Rattle.spec_trace.specs.Packets.{Datagram, DatagramPacket, Packet}
use Rattle.rules_tftp.specs.Asking.{by_answer}
use Rattle.rules_tftp.specs.Laws.{IsBelow, IsInFolder, octets_read}
use Rattle.rules_tftp.specs.Packets.{Acknowledges, Asks, Request, Terms, block_octets, file_in, is_name, packet_in, parts_from, request_in, terms_of}
use Rattle.rules_tftp.specs.Soundness.{WaitsWell}
use Rattle.rules_tftp.specs.Transfers.{Outcome, Said, Transfer, begun, is_for, octets_of, place_of, said_again}
use Rattle.spec_run.specs.Answers.{Serving, begins_again, frames_of, identification, is_free, ledger, may_go_again, served_file, serving, told_of_files}
use Rattle.spec_run.specs.Datagrams.{DatagramVerdict, ForFiles, datagram_verdict}
use Rattle.spec_run.specs.Ports.{last_datagram}
use Rattle.spec_run.specs.Said.{Came, OfFile, identification_with, last_occasion}

-- ---- the datagram that came last

-- the trace before it, and the entries since
abbrev pub unless_came : {A : Type 0} → Option Datagram → A → A → A
unless_came None new before = before
unless_came (Some d) new before = new

abbrev pub before_last : Config → List Entry → List Entry
before_last config [] = []
before_last config (e ∷ past) = unless_came (datagram_came (happens config past e).came) past (before_last config past)

abbrev pub since_last : Config → List Entry → List Entry
since_last config [] = []
since_last config (e ∷ past) = unless_came (datagram_came (happens config past e).came) [] (e ∷ since_last config past)

-- ---- which calls ask for files

-- A datagram asks the server of files for this one: by a name that leads to it from the folder of the settings, and neither back to that nor above it (RFC 1350, 5).
pub record AsksForFile (config : Config) (d : Datagram) (file : List ℕ) : Type 0 where
  pub to_server : datagram_verdict config d ≡ ForFiles
  pub texts : List ℕ
  pub asks : packet_in d.body ≡ Asks texts
  pub request : Request
  pub reads : request_in texts ≡ Some request
  pub folder : List ℕ
  pub given : config.tftp_path ≡ Some folder
  pub taken : is_name request.name ≡ true
  pub below : All IsBelow (parts_from [] request.name)
  pub is : file ≡ file_in folder request.name

-- the datagram that came last asks for it
pub record IsAskedFor (config : Config) (past : List Entry) (file : List ℕ) : Type 0 where
  pub datagram : Datagram
  pub last : last_datagram config past ≡ Some datagram
  pub asks : AsksForFile config datagram file

-- the length that a file was last found to have by these entries
abbrev pub length_of : FileSize → Option ℕ
length_of (Length n) = Some n
length_of Missing = None
length_of SizeFailed = None

abbrev pub length_found : List Entry → Option ℕ
length_found [] = None
length_found (FileLen name answer ∷ made) = length_of answer
length_found (_ ∷ made) = length_found made

-- The first block of a file for which a datagram asks, with the length that it was found to have since, and blocks of so many octets as its options come to (RFC 2348).
pub record IsFirstBlock (config : Config) (d : Datagram) (since : List Entry) (t : Transfer) : Type 0 where
  pub asks : AsksForFile config d t.file
  pub found : length_found since ≡ Some t.size_of_file
  pub terms : Terms
  pub agreed : terms_of t.size_of_file asks.request.options ≡ Some terms
  pub size : t.size ≡ terms.size
  pub first : t.block ≡ 1

-- The block behind the one that was sent last of a transfer to the port from which a datagram came, which acknowledges that (RFC 1350, 2).
pub record IsNextBlock (config : Config) (transfers : List Transfer) (d : Datagram) (t : Transfer) : Type 0 where
  pub to_server : datagram_verdict config d ≡ ForFiles
  pub before : Transfer
  pub found : find (is_for d.from) transfers ≡ Some before
  pub acknowledges : packet_in d.body ≡ Acknowledges (before.block % 2 ^ 16)
  pub more : before.is_last ≡ false
  pub is : t ≡ record before { block = before.block + 1 }

-- A block that the datagram that came last asks for: the first one of a file, or the next one of a transfer that was open when it came. Its file is one of the folder.
pub record IsWanted (config : Config) (past : List Entry) (t : Transfer) : Type 0 where
  pub datagram : Datagram
  pub last : last_datagram config past ≡ Some datagram
  pub inside : IsInFolder config.tftp_path t.file
  pub which : IsFirstBlock config datagram (since_last config past) t ⊎ IsNextBlock config (serving config (before_last config past)).files.transfers datagram t

-- a call reads of a file what is missing of a block that is wanted: from its first octet on that wasn't read since, all of it
pub record ReadsWanted (config : Config) (past : List Entry) (file : List ℕ) (place asked : ℕ) : Type 0 where
  pub block : Transfer
  pub wanted : IsWanted config past block
  pub file_is : file ≡ block.file
  pub place_is : place ≡ place_of block + length (octets_read (since_last config past))
  pub asked_is : asked ≡ octets_of block - length (octets_read (since_last config past))

-- ---- what guests are told

-- what an entry makes the server tell: its answer to the datagram that came, or to what a call on a file brought
abbrev pub told_by_verdict : Config → Serving → Datagram → DatagramVerdict → Option Said
told_by_verdict config s d ForFiles = (served_file config s d).told
told_by_verdict config s d _ = None

abbrev pub told_by_packet : Config → Serving → Packet → Option Said
told_by_packet config s (DatagramPacket d) = told_by_verdict config s d (datagram_verdict config d)
told_by_packet config s _ = None

abbrev pub told_in : Option Outcome → Option Said
told_in None = None
told_in (Some o) = o.told

abbrev pub told_at : Config → Serving → Option Arrival → Entry → Option Said
told_at config s None e = told_in (by_answer s.now e s.files)
told_at config s (Some arrival) e = told_by_packet config s arrival.packet

abbrev pub told_by : Config → List Entry → Entry → Option Said
told_by config past e = told_at config (serving config past) (happens config past e).came e

-- each read of these entries is of this block: of its file, from the place of the first octet that wasn't there, as many as were missing
abbrev pub AreReadsOfIt : Transfer → List Entry → Type 0
AreReadsOfIt t [] = Unit {0}
AreReadsOfIt t (FileRead name place asked answer octets ∷ made) =
    (name ≡ t.file) × (place ≡ place_of t + length (octets_read made)) × (asked ≡ octets_of t - length (octets_read made)) × AreReadsOfIt t made
AreReadsOfIt t (_ ∷ made) = AreReadsOfIt t made

-- What is told is a block, whole, with its number modulo 2^16 and the octets that were read for it since the datagram that came last (RFC 1350, 5).
pub record IsBlockAsRead (config : Config) (past : List Entry) (said : Said) : Type 0 where
  pub block : Transfer
  pub wanted : IsWanted config past block
  pub guest : said.guest ≡ block.guest
  pub reads : AreReadsOfIt block (since_last config past)
  pub octets : said.octets ≡ block_octets (block.block % 2 ^ 16) (octets_read (since_last config past))
  pub whole : octets_of block ≤ length (octets_read (since_last config past))

-- ---- what goes again

-- the packet that begins to go again by an entry
abbrev pub goes_by : Config → List Entry → Entry → Option Said
goes_by config past e = if begins_again config (identification past) (ledger config past) (goes_out e past) then may_go_again (serving config past) else None

-- A packet is sent on its way again by an entry: at a wait where nothing else is to be sent the first one that is due, else by the frame that begins it, unless it was on its way already.
abbrev pub unless_on_its_way : Option Said → Option Said → Option Said
unless_on_its_way None said = said
unless_on_its_way (Some before) said = None

-- at a wait where nothing else is to be sent the first packet that is due, else by the frame that begins it
abbrev pub sent_again_by : Config → List Entry → Entry → Option Said
sent_again_by config past (Wait wants timeout answer ready) = begun (serving config past).now (is_free (ledger config past)) (serving config past).files.transfers
sent_again_by config past e = unless_on_its_way (serving config past).again (goes_by config past e)

-- the moments at which packets for a port of a guest were sent on their way again by these entries after those before, the latest first
abbrev pub is_told_to : Endpoint → Option Said → Bool
is_told_to guest None = false
is_told_to guest (Some said) = same_endpoint said.guest guest

abbrev pub moments_again : Config → Endpoint → (later before : List Entry) → List ℕ
moments_again config guest [] before = []
moments_again config guest (e ∷ later) before =
    if is_told_to guest (sent_again_by config (later ++ before) e) then moment (later ++ before) ∷ moments_again config guest later before
    else moments_again config guest later before

-- each no earlier than a timeout after the one before, and the first one than after the packet was made
abbrev pub or_made : ℕ → List ℕ → ℕ
or_made made [] = made
or_made made (now ∷ moments) = now

-- so are all of these moments, the latest first
abbrev pub AreInTime : (timeout made : ℕ) → List ℕ → Type 0
AreInTime timeout made [] = Unit {0}
AreInTime timeout made (now ∷ moments) = (or_made made moments + timeout ≤ now) × AreInTime timeout made moments

-- A packet that an entry sends on its way again is that of an open transfer, as an entry of the trace told it for a transfer that was open from then on; since
-- then, and by this entry, it was sent on its way again at most five times, each no earlier than the timeout of the transfer after the one before.
pub record IsAsTold (config : Config) (e : Entry) (past : List Entry) (said : Said) : Type 0 where
  pub transfer : Transfer
  pub found : find (is_for said.guest) (serving config past).files.transfers ≡ Some transfer
  pub packet : said ≡ said_again transfer
  pub waits : WaitsWell transfer.timeout
  pub later : List Entry
  pub teller : Entry
  pub before : List Entry
  pub record_is : past ≡ later ++ (teller ∷ before)
  pub told : told_by config before teller ≡ Some said
  pub begun : option_map (λ (t : Transfer). t.timeout) (find (is_for said.guest) (serving config (teller ∷ before)).files.transfers) ≡ Some transfer.timeout
  pub now : moments_again config said.guest (e ∷ later) (teller ∷ before) ≡ moment past ∷ moments_again config said.guest later (teller ∷ before)
  pub five : length (moments_again config said.guest (e ∷ later) (teller ∷ before)) ≤ 5
  pub in_time : AreInTime transfer.timeout (moment before) (moments_again config said.guest (e ∷ later) (teller ∷ before))

-- none of these entries, after those before, begins a packet that goes again
abbrev pub NoneGoes : Config → (later before : List Entry) → Type 0
NoneGoes config [] before = Unit {0}
NoneGoes config (e ∷ later) before = (goes_by config (later ++ before) e ≡ None) × NoneGoes config later before

-- A packet was sent on its way again by an entry since which none began.
pub record IsOnItsWay (config : Config) (past : List Entry) (said : Said) : Type 0 where
  pub later : List Entry
  pub sender : Entry
  pub before : List Entry
  pub record_is : past ≡ later ++ (sender ∷ before)
  pub sent : sent_again_by config before sender ≡ Some said
  pub none_goes : NoneGoes config later (sender ∷ before)

-- ---- frames of the server

-- a frame is the next one of a packet of which so many are out
pub record IsPartOf (config : Config) (past : List Entry) (frame : List ℕ) (said : Said) : Type 0 where
  pub out : ℕ
  pub rest : List (List ℕ)
  pub is : drop out (frames_of config (identification_with out past) (told_of_files config (Some said))) ≡ frame ∷ rest

-- a packet was told by an entry of the trace, or began to go again by one
pub record WasTold (config : Config) (past : List Entry) (said : Said) : Type 0 where
  pub later : List Entry
  pub teller : Entry
  pub before : List Entry
  pub record_is : past ≡ later ++ (teller ∷ before)
  pub told : told_by config before teller ≡ Some said

-- a packet began to go again by an entry
pub record HasBegun (config : Config) (past : List Entry) (said : Said) : Type 0 where
  pub later : List Entry
  pub writer : Entry
  pub before : List Entry
  pub record_is : past ≡ later ++ (writer ∷ before)
  pub goes : goes_by config before writer ≡ Some said

-- A frame that goes out by an entry is one of the server of files: of its answer to the datagram that came last; of what it told for what was read last; of a
-- packet that began to go again, of which others are out; or the first one of a packet that goes again.
pub data IsOfFiles (config : Config) (e : Entry) (past : List Entry) (frame : List ℕ) : Type 0 where
  Answers : (s : Serving) (stray : Bool) (d : Datagram) (said : Said) → last_occasion config past ≡ Came s stray (DatagramPacket d) → datagram_verdict config d ≡ ForFiles →
      WasTold config past said → IsPartOf config past frame said → IsOfFiles config e past frame
  TellsRead : (said : Said) → last_occasion config past ≡ OfFile said → WasTold config past said → IsPartOf config past frame said → IsOfFiles config e past frame
  GoesOn : (said : Said) → last_occasion config past ≡ OfFile said → HasBegun config past said → IsPartOf config past frame said → IsOfFiles config e past frame
  GoesAgain : (said : Said) → goes_by config past e ≡ Some said → IsPartOf config past frame said → IsOfFiles config e past frame
