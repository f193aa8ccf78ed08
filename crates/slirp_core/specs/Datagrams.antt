-- Datagrams and errands as the core has them.
use Rattle.std.specs.Prelude.{◌≡◌, ℕ, ◌≤◌, ◌++◌, true, false, List, length}
use Rattle.net_octets.specs.declared.Endpoint.{Endpoint}
use Rattle.slirp_settings.specs.Addresses.{Config}
use Rattle.rules_dns.specs.Questions.{is_question}
use Rattle.spec_trace.specs.Packets.{Datagram}
use Rattle.spec_run.specs.Datagrams.{Errand, DatagramVerdict, Ignored, Refused, ForLeases, ForFiles, GoesTo, is_to_names}
use Rattle.slirp_core.specs.declared.datagrams.DatagramView.{DatagramView}
use Rattle.slirp_core.specs.declared.datagrams.DatagramVerdict.{DatagramVerdict as SeenVerdict}
use Rattle.slirp_core.specs.declared.datagrams.DatagramVerdict.TheVariants.{Ignored as SeenIgnored, Refused as SeenRefused, Leases, Files, Question, Out}

abbrev pub datagram_of : DatagramView → Datagram
datagram_of d = record { mac = d.mac.0; from = d.from; to = d.to; body = d.body.now; quote = d.quote.now }

-- it goes out, to this endpoint
abbrev pub errand_of : DatagramView → Endpoint → Errand
errand_of d to = record { datagram = datagram_of d; to = to }

abbrev pub datagram_verdict_of : SeenVerdict → DatagramVerdict
datagram_verdict_of SeenIgnored = Ignored
datagram_verdict_of SeenRefused = Refused
datagram_verdict_of Leases = ForLeases
datagram_verdict_of Files = ForFiles
datagram_verdict_of (Question to) = GoesTo to
datagram_verdict_of (Out to) = GoesTo to

-- what goes to the name server is a question, and what else goes out goes to another
abbrev pub IsNamed : Config → DatagramView → SeenVerdict → Type 0
IsNamed config d (Question to) = (is_to_names config (datagram_of d) ≡ true) × (is_question d.body.now ≡ true)
IsNamed config d (Out to) = is_to_names config (datagram_of d) ≡ false
IsNamed config d _ = Unit {0}

-- octets are a header, a body, and what else may follow
pub record Lies (octets head body : List ℕ) : Type 0 where
  pub rest : List ℕ
  pub is : octets ≡ head ++ (body ++ rest)
  pub few : length head ≤ 60
  pub short : length body ≤ 65515
