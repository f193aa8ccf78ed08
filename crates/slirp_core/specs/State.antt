-- What contracts see of the network.
use Rattle.std.specs.Prelude.{ℕ, List, [], None, replicate}
use Rattle.net_octets.specs.declared.Ip4.{Ip4}
use Rattle.net_octets.specs.declared.Mac.{Mac}
use Rattle.slirp_settings.specs.Addresses.{Config}
use Rattle.rules_dhcp.specs.declared.Lease.{Lease}
use Rattle.rules_dhcp.specs.declared.Lease.TheVariants.{Free}
use Rattle.rules_dns.specs.declared.Question.{Question}
use Rattle.rules_udp.specs.declared.Association.{Association}
use Rattle.ipv4_reasm.specs.Areas.{Gathered}
use Rattle.rules_forward.specs.Opened.{Opened}
use Rattle.rules_tftp.specs.Transfers.{Transfer, settled}
use Rattle.spec_run.specs.Answers.{Serving}
use Rattle.tcp_flows.specs.Kept.{Kept}
use Rattle.slirp_core.specs.Numbers.{flows_for}

-- its settings, the guests that are known, the identification of the next datagram, the frames that are owed and aren't out yet, the moment in force, the
-- number of the next socket, the associations, the questions that wait for an answer, what is in the areas of fragments, the flows of TCP, who has which
-- address, the open ports of the host that are given to guests, and the transfers of files
pub record SlirpState : Type 0 where
  pub config : Config
  pub known : List (Ip4 × Mac)
  pub sent : ℕ
  pub pending : List (List ℕ)
  pub moment : ℕ
  pub number : ℕ
  pub associations : List Association
  pub questions : List Question
  pub fragments : List Gathered
  pub flows : Kept
  pub leases : List Lease
  pub forwards : List Opened
  pub transfers : List Transfer

-- what its services keep, where no packet of a file is on its way again: the leases and the transfers
abbrev pub serving_of : SlirpState → Serving
serving_of slirp = record { now = slirp.moment; leases = slirp.leases; files = settled slirp.transfers; again = None }

-- one with these settings, of which nothing was asked yet
abbrev pub fresh : Config → SlirpState
fresh config = record {
  config = config;
  known = [];
  sent = 0;
  pending = [];
  moment = 0;
  number = 0;
  associations = [];
  questions = [];
  fragments = [];
  flows = flows_for config;
  leases = replicate 16 Free;
  forwards = [];
  transfers = [];
}
