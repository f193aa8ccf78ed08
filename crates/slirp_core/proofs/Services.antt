-- The services of the network: who has which address, to whom questions go, and what is kept of files.
use Rattle.std.proofs.Common.{◌≡◌, ℕ, ◌&&◌, Bool, true, false, List, [], ◌∷◌, Option, Some, None, unwrap_or, if◌then◌else◌, refl, sym, ◌∙◌, ap}
use Rattle.std.specs.Prelude.{option_map}
use Rattle.net_octets.specs.declared.Endpoint.{Endpoint}
use Rattle.std.specs.Option.{option_map_or, option_or}
use Rattle.world_face.specs.Journal.{CallClose, Entry}
use Rattle.slirp_settings.specs.Addresses.{Config, address, endpoint}
use Rattle.slirp_settings.specs.Classes.{is_loopback}
use Rattle.dns_relay.specs.Asking.{bind_for}
use Rattle.rules_dns.specs.Questions.{is_question}
use Rattle.rules_tftp.specs.Asking.{call_for}
use Rattle.tftp_server.specs.Serving.{Serving as FileServing}
use Rattle.rules_tftp.specs.Transfers.{Files, Settled as SeeksNothing, Transfer}
use Rattle.spec_trace.specs.Happenings.{happens}
use Rattle.spec_trace.specs.Moments.{moment}
use Rattle.spec_trace.specs.Packets.{Datagram}
use Rattle.spec_run.specs.Answers.{serving}
use Rattle.spec_run.specs.Datagrams.{Errand, DatagramVerdict, ForFiles, Ignored, ForLeases, GoesTo, Refused, asks_a_name, errand_by, errand_of, datagram_verdict, opened_at}
use Rattle.spec_run.specs.Errands.{errand_left}
use Rattle.spec_run.specs.Laws.{due_for_services}
use Rattle.spec_run.specs.Leasing.{leases, leases_by}
use Rattle.spec_run.specs.Names.{answered}
use Rattle.spec_run.proofs.Askers.{is_asked, to_resolver}
use Rattle.spec_run.proofs.KeptFiles.{now_is}
use Rattle.spec_run.proofs.Steps.{errand_asks}
use Rattle.slirp_core.specs.Services.{IsServer, OfServices}
use Rattle.slirp_core.specs.State.{SlirpState, serving_of}

-- ---- files

leases_are : (config : Config) (past : List Entry) → (serving config past).leases ≡ leases config past
leases_are config [] = refl
leases_are config (e ∷ past) = refl

-- what is served is what the core keeps, where no packet of a file is on its way again
pub serving_is : (config : Config) (slirp : SlirpState) (past : List Entry) → moment past ≡ slirp.moment → OfServices config slirp past → (serving config past).again ≡ None →
    slirp.transfers ≡ (serving config past).files.transfers
    → serving config past ≡ serving_of slirp
serving_is config slirp past at of idle files =
    λ i. record { now = (now_is config past ∙ at) i; leases = (leases_are config past ∙ of.leases) i; files = (record { transfers = sym files i; quest = of.quest i }); again = idle i }

-- ---- names

-- a datagram that goes out to the name server goes to the resolver, and is a question
pub asks_resolver : (config : Config) (past : List Entry) (errand : Errand) → errand_left config past ≡ Some errand → asks_a_name config errand ≡ true → config.resolver ≡ Some errand.to
asks_resolver config past errand left name = to_resolver config errand name (errand_asks config past errand left).goes

pub goes_as_question : (config : Config) (d : Datagram) (errand : Errand) → errand_of config d ≡ Some errand → asks_a_name config errand ≡ true → is_question errand.datagram.body ≡ true
goes_as_question config d errand is name = by (datagram_verdict config d) refl is
  where
    by : (f : DatagramVerdict) → datagram_verdict config d ≡ f → errand_by d f ≡ Some errand → is_question errand.datagram.body ≡ true
    by Ignored goes is = cc
    by Refused goes is = cc
    by ForLeases goes is = cc
    by ForFiles goes is = cc
    by (GoesTo to) goes is =
        let whole : record { datagram = d; to = to } ≡ errand = the_errand is in
        is_asked config errand name (ap (λ (e : Errand). datagram_verdict config e.datagram) (sym whole) ∙ goes ∙ ap (λ (e : Errand). GoesTo e.to) whole)
      where
        the_errand : Some (record { datagram = d; to = to }) ≡ Some errand → record { datagram = d; to = to } ≡ errand
        the_errand is = cc

-- at which address of the host a socket is opened: for a question, and for any other datagram
pub opened_for_name : (config : Config) (errand : Errand) → asks_a_name config errand ≡ true → config.resolver ≡ Some errand.to → opened_at config errand ≡ endpoint (bind_for config) 0
opened_for_name config errand name resolver =
    ap (λ (b : Bool). endpoint (if b && is_loopback (address errand.to) then 0 else unwrap_or config.outbound 0) 0) name
    ∙ sym (ap (λ (o : Option Endpoint). endpoint (if option_map_or (λ to. is_loopback (address to)) o false then 0 else unwrap_or config.outbound 0) 0) resolver)

pub opened_for_other : (config : Config) (errand : Errand) → asks_a_name config errand ≡ false → opened_at config errand ≡ endpoint (unwrap_or config.outbound 0) 0
opened_for_other config errand other = ap (λ (b : Bool). endpoint (if b && is_loopback (address errand.to) then 0 else unwrap_or config.outbound 0) 0) other

-- ---- which call is due for a service

due_by_answer : (config : Config) (past : List Entry) (o : Option ℕ) → answered config past ≡ o → (serving config past).files.quest ≡ SeeksNothing →
    due_for_services config past ≡ option_or (option_map CallClose o) None
due_by_answer config past o is settled = λ i. option_or (option_map CallClose (is i)) (call_for (settled i))

-- none, where no answer to a question came just now, and no file is asked for
pub none_due_for_services : (config : Config) (past : List Entry) → answered config past ≡ None → (serving config past).files.quest ≡ SeeksNothing → due_for_services config past ≡ None
none_due_for_services config past unheard settled = due_by_answer config past None unheard settled

pub unheard : (config : Config) (past : List Entry) → due_for_services config past ≡ None → answered config past ≡ None
unheard config past none = by (answered config past) none
  where
    by : (o : Option ℕ) → option_or (option_map CallClose o) (call_for (serving config past).files.quest) ≡ None → o ≡ None
    by None is = refl
    by (Some socket) is = cc

-- else the close of its socket
pub close_due : (config : Config) (past : List Entry) (socket : ℕ) → answered config past ≡ Some socket → (serving config past).files.quest ≡ SeeksNothing →
    due_for_services config past ≡ Some (CallClose socket)
close_due config past socket heard settled = due_by_answer config past (Some socket) heard settled

-- ---- what an entry leaves

-- one by which no frame came, and that sought no file
pub services_stay : (config : Config) (slirp new : SlirpState) (e : Entry) (past : List Entry) → (happens config past e).came ≡ None → (serving config (e ∷ past)).files ≡
    (serving config past).files → new.leases ≡ slirp.leases
    → OfServices config slirp past → OfServices config new (e ∷ past)
services_stay config slirp new e past nothing unsought same of = record {
  leases = ap (λ o. leases_by config (moment past) o (leases config past)) nothing ∙ of.leases ∙ sym same;
  quest = ap (λ (f : Files). f.quest) unsought ∙ of.quest;
}

-- no entry
pub services_as : (config : Config) (slirp new : SlirpState) (past : List Entry) → new.leases ≡ slirp.leases → OfServices config slirp past → OfServices config new past
services_as config slirp new past same of = record { leases = of.leases ∙ sym same; quest = of.quest }

-- the server of files keeps its settings
pub server_on : (config : Config) (old new : FileServing) (transfers : List Transfer) → new ≡ record old { transfers = transfers } → IsServer config old → IsServer config new
server_on config old new transfers same is = record { vhost = ap (λ (s : FileServing). s.vhost) same ∙ is.vhost; folder = ap (λ (s : FileServing). s.folder) same ∙ is.folder }
