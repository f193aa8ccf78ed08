-- What a line of the control's connection asks for, by how it is written. A line has no line feed.
use Rattle.std.specs.Prelude.{◌≡◌, ◌==◌, ◌||◌, ℕ, Bool, false, List, ◌++◌, codes}
use Rattle.net_octets.specs.declared.Endpoint.{Endpoint}
use Rattle.slirp_settings.specs.declared.Forward.{Forward}
use Rattle.slirp_settings.specs.declared.Proto.{Proto}
use Rattle.slirp_settings.specs.declared.Proto.TheVariants.{Tcp, Udp}
use Rattle.address_text.specs.Texts.{IsEndpointText}
use Rattle.address_text.specs.Rules.{IsRule}
use Rattle.rules_control.specs.declared.Command.{Command}
use Rattle.rules_control.specs.declared.Command.TheVariants.{Add, Remove, List as Lists, What}

abbrev pub proto_text : Proto → List ℕ
proto_text Tcp = codes "tcp"
proto_text Udp = codes "udp"

-- port 0 is none
abbrev pub has_no_port : Forward → Bool
has_no_port forward = (forward.host.port == 0) || (forward.guest.port == 0)

-- `add RULE`, whose two ports are ports; without an address of a guest the RULE leads to this one
pub record IsAdd (guest : ℕ) (line : List ℕ) (forward : Forward) : Type 0 where
  pub rule : List ℕ
  pub encoded : line ≡ codes "add " ++ rule
  pub is : IsRule rule guest forward
  pub ports : has_no_port forward ≡ false

-- `remove tcp ENDPOINT` or `remove udp ENDPOINT`
abbrev pub removal : Proto → List ℕ
removal proto = codes "remove " ++ proto_text proto ++ codes " "

-- a line that takes back the forward of a port of the host
pub record IsRemove (line : List ℕ) (proto : Proto) (host : Endpoint) : Type 0 where
  pub text : List ℕ
  pub encoded : line ≡ removal proto ++ text
  pub is : IsEndpointText text host

-- it asks for none of these
pub record IsWhat (guest : ℕ) (line : List ℕ) : Type 0 where
  pub no_add : (forward : Forward) → ¬ IsAdd guest line forward
  pub no_remove : (proto : Proto) (host : Endpoint) → ¬ IsRemove line proto host
  pub no_list : ¬ (line ≡ codes "list")

-- what a line means: one of the three commands, or nothing that is known
abbrev pub Means : (guest : ℕ) (line : List ℕ) → Command → Type 0
Means guest line (Add forward) = IsAdd guest line forward
Means guest line (Remove proto host) = IsRemove line proto host
Means guest line Lists = line ≡ codes "list"
Means guest line What = IsWhat guest line
