-- A block that is read from its file.
use Rattle.std.specs.Prelude.{◌≡◌, ℕ, List, Bool, if◌then◌else◌}
use Rattle.world_face.specs.Journal.{Entry}
use Rattle.rules_tftp.specs.Asking.{AreAskedFor, after_calls}
use Rattle.rules_tftp.specs.Transfers.{Transfer, reads_on, refuses, seeks_block, sends_block}

-- the calls that a block asks for were made, and it is there whole, or the guest is told an error
pub record ReadsBlock (now : ℕ) (t : Transfer) (others : List Transfer) (whole : Bool) (octets : List ℕ) (made : List Entry) : Type 0 where
  pub asked : AreAskedFor now (seeks_block now t others) made
  pub comes : after_calls now made (seeks_block now t others) ≡ (if whole then sends_block now octets t others else refuses 0 t.mac t.guest others)

-- the first calls that it asks for were made, and these octets are there
pub record ReadsOn (now : ℕ) (t : Transfer) (others : List Transfer) (there : List ℕ) (made : List Entry) : Type 0 where
  pub asked : AreAskedFor now (seeks_block now t others) made
  pub comes : after_calls now made (seeks_block now t others) ≡ reads_on now there t others
