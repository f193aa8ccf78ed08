-- What the services of the network keep of the trace.
use Rattle.std.specs.Prelude.{◌≡◌, ℕ, ◌<◌, All, List}
use Rattle.world_face.specs.Journal.{Entry}
use Rattle.slirp_settings.specs.Addresses.{Config}
use Rattle.dns_relay.specs.Asking.{bind_for}
use Rattle.rules_dns.specs.Questions.{numbers}
use Rattle.dns_relay.specs.State.{RelayState}
use Rattle.tftp_server.specs.Serving.{Serving as FileServing}
use Rattle.rules_tftp.specs.Transfers.{Settled as SeeksNothing}
use Rattle.spec_run.specs.Answers.{serving}
use Rattle.spec_run.specs.Leasing.{leases}
use Rattle.slirp_core.specs.State.{SlirpState}

-- who has which address; and no file is asked for
pub record OfServices (config : Config) (slirp : SlirpState) (past : List Entry) : Type 0 where
  pub leases : leases config past ≡ slirp.leases
  pub quest : (serving config past).files.quest ≡ SeeksNothing

-- The relay of questions has the settings, and each of its sockets a number under that of the next one.
pub record AreAsked (next : ℕ) (config : Config) (relay : RelayState) : Type 0 where
  pub below : All (λ n. n < next) (numbers relay.list)
  pub is : relay ≡ record { bind = bind_for config; resolver = config.resolver; name_server = config.vnameserver; list = relay.list }

-- The server of files has the settings.
pub record IsServer (config : Config) (server : FileServing) : Type 0 where
  pub vhost : server.vhost ≡ config.vhost
  pub folder : server.folder ≡ config.tftp_path
