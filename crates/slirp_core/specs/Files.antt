-- What the server of files makes of a packet.
use Rattle.std.specs.Prelude.{◌≡◌, List, Option}
use Rattle.world_face.specs.Journal.{Entry}
use Rattle.rules_tftp.specs.Asking.{IsServed}
use Rattle.rules_tftp.specs.Transfers.{Said, came, settled}
use Rattle.spec_trace.specs.Packets.{Datagram}
use Rattle.spec_run.specs.Answers.{frames_of, told_of_files}
use Rattle.slirp_core.specs.State.{SlirpState}

-- these calls were made for it, and what they left is kept, and told
pub record ServesFile (old : SlirpState) (d : Datagram) (new : SlirpState) (made : List Entry) : Type 0 where
  pub told : Option Said
  pub served : IsServed old.moment (came old.config.tftp_path old.moment d.mac d.from d.body (settled old.transfers)) new.transfers told made
  pub pending : new.pending ≡ frames_of old.config old.sent (told_of_files old.config told)
