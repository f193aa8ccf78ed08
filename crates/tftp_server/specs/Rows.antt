-- Transfers as the code keeps them: the names of files without their folder.
use Rattle.std.specs.Prelude.{◌≡◌, ℕ, ◌+◌, ◌<◌, List, [], length, map, find, Option, Some, None, unwrap_or, slice_index_or, slice_set, if◌then◌else◌}
use Rattle.net_octets.specs.declared.Endpoint.{Endpoint}
use Rattle.rules_tftp.specs.Packets.{file_in}
use Rattle.rules_tftp.specs.Transfers.{Outcome, Sought, SeeksLength, Transfer, acknowledged, is_for, leaves, seeks_next, sent_again, without}
use Rattle.tftp_server.specs.Reading.{options_of}
use Rattle.tftp_server.specs.Serving.{Serving}
use Rattle.tftp_server.specs.declared.row.Row.{Row}

-- what stands before the names
abbrev pub folder_octets : Option (List ℕ) → List ℕ
folder_octets folder = unwrap_or folder []

abbrev pub transfer_of : Option (List ℕ) → Row → Transfer
transfer_of folder r = record {
  guest = r.guest;
  mac = r.mac.0;
  file = file_in (folder_octets folder) r.name.bytes;
  size_of_file = r.length;
  size = r.size;
  timeout = r.timeout;
  block = r.block;
  is_last = r.is_last;
  packet = r.packet.items;
  again = r.again;
  due = r.due;
}

-- the same with the next block
abbrev pub next_of : Option (List ℕ) → Row → Transfer
next_of folder r = record (transfer_of folder r) { block = r.block + 1 }

abbrev pub transfers_of : Option (List ℕ) → List Row → List Transfer
transfers_of folder rows = map (transfer_of folder) rows

-- a request of which the file's length is asked for
abbrev pub sought : Option (List ℕ) → Endpoint → List ℕ → List ℕ → List ℕ → Sought
sought folder guest mac name options = record { guest = guest; mac = mac; file = file_in (folder_octets folder) name; options = options_of options }

abbrev pub seeking_length : Sought → List Transfer → Outcome
seeking_length s transfers = record { files = record { transfers = transfers; quest = SeeksLength s }; told = None }

-- the packet at a place goes again
abbrev pub IsSentAgain : ℕ → ℕ → List Row → List Row → Type 0
IsSentAgain now place old new =
    (folder : Option (List ℕ)) (d : Transfer)
    → transfers_of folder new ≡ slice_set (transfers_of folder old) place (sent_again now (slice_index_or (transfers_of folder old) place d))

-- the transfer of a guest's port whose last block this number acknowledges was taken out
pub record IsTakenOut (guest : Endpoint) (block : ℕ) (old new : Serving) (row : Row) : Type 0 where
  pub list : new ≡ record old { transfers = without guest old.transfers }
  pub comes : (now : ℕ) → acknowledged now block (find (is_for guest) old.transfers) old.transfers
      ≡ (if row.is_last then leaves (without guest old.transfers) else seeks_next now (transfer_of old.folder row) (without guest old.transfers))
  pub guest_is : row.guest ≡ guest
  pub none : find (is_for guest) new.transfers ≡ None
  pub room : length new.transfers < 20

-- or there is none, and nothing comes of the acknowledgement
abbrev pub TakesAcknowledged : Endpoint → ℕ → Serving → Serving → Option Row → Type 0
TakesAcknowledged guest block old new None =
    (new ≡ old) × ((now : ℕ) → acknowledged now block (find (is_for guest) old.transfers) old.transfers ≡ leaves old.transfers)
TakesAcknowledged guest block old new (Some row) = IsTakenOut guest block old new row
