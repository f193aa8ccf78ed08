-- The transfers of files, one for a port of a guest, the longest unused first; and what a packet, a file and time make of them (RFC 1350).
use Rattle.std.specs.Prelude.{ℕ, ◌+◌, ◌-◌, ◌*◌, ◌%◌, ◌^◌, ◌==◌, ◌&&◌, ◌||◌, not, min, nat_le, nat_lt, Bool, false, List, [], ◌∷◌, ◌++◌, length, map, filter, find, drop, Option, Some, None}
use Rattle.std.specs.Prelude.{option_map, if◌then◌else◌}
use Rattle.net_octets.specs.declared.Endpoint.{Endpoint}
use Rattle.slirp_settings.specs.Classes.{same_endpoint}
use Rattle.world_face.specs.declared.FileSize.{FileSize}
use Rattle.world_face.specs.declared.FileSize.TheVariants.{Length, Missing, Failed as SizeFailed}
use Rattle.world_face.specs.declared.Io.{Io}
use Rattle.world_face.specs.declared.Io.TheVariants.{Done, End, NotYet, Failed}
use Rattle.rules_tftp.specs.Packets.{Packet, Asks, AsksToWrite, Acknowledges, GivesUp, Unheard, Request, Terms, block_octets, error_octets, file_in, is_name, options_octets, packet_in}
use Rattle.rules_tftp.specs.Packets.{request_in, says, terms_of}
use Rattle.std.specs.Prelude.{codes}

-- so many transfers are open at once; ours
abbrev pub most_transfers : ℕ
most_transfers = 20

-- a packet that isn't acknowledged goes again so often; ours
abbrev pub most_again : ℕ
most_again = 5

-- A file that a port of a guest gets: the port, and the hardware address from which its request came; the name and the length of the file; the octets of a
-- block and the timeout; the block that was sent last, counted on, 0 for the options; whether it is the file's last, and its packet; how often this went again,
-- and the moment at which it is due to go again.
pub record Transfer : Type 0 where
  pub guest : Endpoint
  pub mac : List ℕ
  pub file : List ℕ
  pub size_of_file : ℕ
  pub size : ℕ
  pub timeout : ℕ
  pub block : ℕ
  pub is_last : Bool
  pub packet : List ℕ
  pub again : ℕ
  pub due : ℕ

-- a request of which the file's length isn't known yet
pub record Sought : Type 0 where
  pub guest : Endpoint
  pub mac : List ℕ
  pub file : List ℕ
  pub options : List (List ℕ × List ℕ)

-- What the packet that came last still asks for: nothing; the length of a file; or octets of the block that a transfer sends next, of which these are there.
pub data Quest : Type 0 where
  Settled : Quest
  SeeksLength : Sought → Quest
  SeeksOctets : Transfer → (there : List ℕ) → Quest

-- what is kept of files: the transfers, and what is sought for one
pub record Files : Type 0 where
  pub transfers : List Transfer
  pub quest : Quest

-- what a guest is told
pub record Said : Type 0 where
  pub mac : List ℕ
  pub guest : Endpoint
  pub octets : List ℕ

-- what comes of it: what is kept then, and what a guest is told
pub record Outcome : Type 0 where
  pub files : Files
  pub told : Option Said

abbrev pub settled : List Transfer → Files
settled transfers = record { transfers = transfers; quest = Settled }

-- an error by its number
abbrev pub refuses : ℕ → List ℕ → Endpoint → List Transfer → Outcome
refuses code mac guest transfers = record { files = settled transfers; told = Some (record { mac = mac; guest = guest; octets = error_octets code }) }

abbrev pub leaves : List Transfer → Outcome
leaves transfers = record { files = settled transfers; told = None }

-- ---- transfers

abbrev pub is_for : Endpoint → Transfer → Bool
is_for guest t = same_endpoint t.guest guest

abbrev pub without : Endpoint → List Transfer → List Transfer
without guest transfers = filter (λ t. not (is_for guest t)) transfers

-- the longest unused one gives way where as many are open as may be
abbrev pub with_room : List Transfer → List Transfer
with_room transfers = if nat_le most_transfers (length transfers) then drop 1 transfers else transfers

-- where the block begins in its file, and how many octets it has
abbrev pub place_of : Transfer → ℕ
place_of t = (t.block - 1) * t.size

abbrev pub octets_of : Transfer → ℕ
octets_of t = min t.size (t.size_of_file - place_of t)

-- a packet goes out for the first time; its transfer was used, so it is the last of all
abbrev pub sending : ℕ → Bool → List ℕ → Transfer → Transfer
sending now is_last packet t = record t { is_last = is_last; packet = packet; again = 0; due = now + t.timeout }

abbrev pub sends : ℕ → Bool → List ℕ → Transfer → List Transfer → Outcome
sends now is_last packet t others = record {
  files = settled (others ++ (sending now is_last packet t ∷ []));
  told = Some (record { mac = t.mac; guest = t.guest; octets = packet });
}

-- the block is whole: it is the last where it has less than a block may have
abbrev pub sends_block : ℕ → List ℕ → Transfer → List Transfer → Outcome
sends_block now octets t others = sends now (nat_lt (length octets) t.size) (block_octets (t.block % 2 ^ 16) octets) t others

-- the octets of its block are read first, where it has some
abbrev pub seeks_block : ℕ → Transfer → List Transfer → Outcome
seeks_block now t others =
    if octets_of t == 0 then sends_block now [] t others
    else record { files = record { transfers = others; quest = SeeksOctets t [] }; told = None }

abbrev pub seeks_next : ℕ → Transfer → List Transfer → Outcome
seeks_next now t others = seeks_block now (record t { block = t.block + 1 }) others

-- ---- a packet came

-- a new request of a guest's port ends its transfer before
abbrev pub requested_file : List ℕ → Endpoint → Request → List Transfer → Option (List ℕ) → Outcome
requested_file mac guest r others None = refuses 2 mac guest others
requested_file mac guest r others (Some folder) =
    if is_name r.name then record { files = record { transfers = others; quest = SeeksLength (record { guest = guest; mac = mac; file = file_in folder r.name; options = r.options }) }; told = None }
    else refuses 2 mac guest others

abbrev pub requested : Option (List ℕ) → List ℕ → Endpoint → Option Request → List Transfer → Outcome
requested folder mac guest None others = refuses 4 mac guest others
requested folder mac guest (Some r) others = if says (codes "octet") r.mode then requested_file mac guest r others folder else refuses 4 mac guest others

-- an acknowledgement of the block that was sent last brings the next one, or ends the transfer; another does nothing
abbrev pub acknowledged : ℕ → ℕ → Option Transfer → List Transfer → Outcome
acknowledged now block None transfers = leaves transfers
acknowledged now block (Some t) transfers =
    if block == t.block % 2 ^ 16 then (if t.is_last then leaves (without t.guest transfers) else seeks_next now t (without t.guest transfers))
    else leaves transfers

abbrev pub taken_in : Option (List ℕ) → ℕ → List ℕ → Endpoint → Packet → List Transfer → Outcome
taken_in folder now mac guest (Asks texts) transfers = requested folder mac guest (request_in texts) (without guest transfers)
taken_in folder now mac guest AsksToWrite transfers = refuses 2 mac guest transfers
taken_in folder now mac guest (Acknowledges block) transfers = acknowledged now block (find (is_for guest) transfers) transfers
taken_in folder now mac guest GivesUp transfers = leaves (without guest transfers)
taken_in folder now mac guest Unheard transfers = leaves transfers

abbrev pub came : Option (List ℕ) → ℕ → List ℕ → Endpoint → List ℕ → Files → Outcome
came folder now mac guest octets files = taken_in folder now mac guest (packet_in octets) files.transfers

-- ---- a file was asked

-- no block was sent yet
abbrev pub transfer : ℕ → Sought → Terms → Transfer
transfer file_length s terms = record {
  guest = s.guest;
  mac = s.mac;
  file = s.file;
  size_of_file = file_length;
  size = terms.size;
  timeout = terms.timeout;
  block = 0;
  is_last = false;
  packet = [];
  again = 0;
  due = 0;
}

-- the options that are answered go first, else the first block
abbrev pub begins : ℕ → ℕ → Sought → Terms → List Transfer → Outcome
begins now file_length s terms others =
    if length terms.answered == 0 then seeks_next now (transfer file_length s terms) others
    else sends now false (options_octets terms) (transfer file_length s terms) others

abbrev pub measured : ℕ → ℕ → Sought → Option Terms → List Transfer → Outcome
measured now file_length s None others = refuses 8 s.mac s.guest others
measured now file_length s (Some terms) others = begins now file_length s terms (with_room others)

abbrev pub told_length : ℕ → FileSize → Sought → List Transfer → Outcome
told_length now (Length n) s others = measured now n s (terms_of n s.options) others
told_length now Missing s others = refuses 1 s.mac s.guest others
told_length now SizeFailed s others = refuses 0 s.mac s.guest others

-- octets are read on until the block is whole
abbrev pub reads_on : ℕ → List ℕ → Transfer → List Transfer → Outcome
reads_on now there t others =
    if nat_le (octets_of t) (length there) then sends_block now there t others
    else record { files = record { transfers = others; quest = SeeksOctets t there }; told = None }

abbrev pub told_octets : ℕ → Io → List ℕ → List ℕ → Transfer → List Transfer → Outcome
told_octets now (Done n) octets there t others = reads_on now (there ++ octets) t others
told_octets now _ octets there t others = refuses 0 t.mac t.guest others

abbrev pub length_came : ℕ → FileSize → Quest → List Transfer → Outcome
length_came now answer (SeeksLength s) transfers = told_length now answer s transfers
length_came now answer _ transfers = leaves transfers

abbrev pub octets_came : ℕ → Io → List ℕ → Quest → List Transfer → Outcome
octets_came now answer octets (SeeksOctets t there) transfers = told_octets now answer octets there t transfers
octets_came now answer octets _ transfers = leaves transfers

-- ---- packets that go again

abbrev pub is_due : ℕ → Transfer → Bool
is_due now t = nat_le t.due now

abbrev pub goes_again : ℕ → Transfer → Bool
goes_again now t = is_due now t && nat_lt t.again most_again

-- the longest unused transfer whose packet is to go again
abbrev pub next_again : ℕ → List Transfer → Option Transfer
next_again now transfers = find (goes_again now) transfers

abbrev pub said_again : Transfer → Said
said_again t = record { mac = t.mac; guest = t.guest; octets = t.packet }

-- it goes again now
abbrev pub sent_again : ℕ → Transfer → Transfer
sent_again now t = record t { again = t.again + 1; due = now + t.timeout }

abbrev pub with_again : ℕ → Endpoint → List Transfer → List Transfer
with_again now guest transfers = map (λ t. if is_for guest t then sent_again now t else t) transfers

-- At the end of a turn those are over whose packet went again often enough and was due once more; and where nothing else was to be sent, the first packet that
-- is due is on its way, though the link takes none of it yet.
abbrev pub are_left : ℕ → List Transfer → List Transfer
are_left now transfers = filter (λ t. not (is_due now t) || nat_lt t.again most_again) transfers

abbrev pub ticked_by : ℕ → List Transfer → Option Transfer → List Transfer
ticked_by now transfers None = transfers
ticked_by now transfers (Some t) = with_again now t.guest transfers

-- the transfers as a turn leaves them; `free`: nothing else is to be sent
abbrev pub ticked : ℕ → (free : Bool) → List Transfer → List Transfer
ticked now free transfers = if free then ticked_by now (are_left now transfers) (next_again now transfers) else are_left now transfers

-- and that packet
abbrev pub begun : ℕ → (free : Bool) → List Transfer → Option Said
begun now free transfers = if free then option_map said_again (next_again now transfers) else None
