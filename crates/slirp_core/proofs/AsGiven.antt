-- What doesn't look at forwards that were added is the same by the settings as they were given.
use Rattle.std.proofs.Common.{◌≡◌, ℕ, ◌==◌, ◌&&◌, ◌||◌, List, [], ◌∷◌, ◌++◌, Option, Some, None, refl, ◌∙◌, ap, if◌then◌else◌}
use Rattle.std.specs.Option.{option_and_then}
use Rattle.net_octets.specs.Kinds.{arp_kind, ipv4_kind}
use Rattle.net_octets.specs.declared.Endpoint.{Endpoint}
use Rattle.net_octets.specs.declared.Ip4.{Ip4}
use Rattle.net_octets.specs.declared.Mac.{Mac}
use Rattle.slirp_settings.specs.Addresses.{Config, address}
use Rattle.host_policy.specs.Targets.{target}
use Rattle.slirp_settings.specs.declared.Proto.TheVariants.{Udp as ByUdp}
use Rattle.host_policy.specs.declared.Verdict.{Verdict}
use Rattle.host_policy.specs.declared.Verdict.TheVariants.{Go, Denied}
use Rattle.ether_frame.specs.Ether.{Ether, read_ether}
use Rattle.arp_table.specs.Arp.{Arp, read_arp}
use Rattle.ipv4_head.specs.Ip.{Ip, read_ip}
use Rattle.ipv4_head.specs.Sets.{PartSet}
use Rattle.ipv4_reasm.specs.Areas.{Gathered}
use Rattle.icmp_echo.specs.Icmp.{read_icmp}
use Rattle.spec_trace.specs.Fragments.{arrived}
use Rattle.spec_trace.specs.Packets.{Datagram}
use Rattle.rules_dhcp.specs.Messages.{read_message}
use Rattle.rules_dhcp.specs.Replies.{octets_of_reply, reply_of, replied_octets, reply_to}
use Rattle.rules_dhcp.specs.Serving.{served}
use Rattle.rules_dhcp.specs.declared.Lease.{Lease}
use Rattle.rules_dhcp.specs.declared.Message.{Message}
use Rattle.rules_dhcp.specs.declared.Answer.{Answer as Served}
use Rattle.rules_dhcp.specs.declared.Answer.TheVariants.{Silence, Offers, Lends, Informs, Refuses}
use Rattle.rules_tftp.specs.Transfers.{Said}
use Rattle.spec_run.specs.Answers.{Answer, ArpAnswer, IpAnswer, Serving, answers_of, frames_for, frames_of, owed_for_arp, owed_for_icmp, reply_for, told_of_files}
use Rattle.spec_run.specs.Datagrams.{DatagramVerdict, Ignored, Refused, ForLeases, ForFiles, GoesTo, datagram_verdict, datagram_verdict_by}
use Rattle.spec_run.specs.Leasing.{lease_reply, leases_by_verdict, sending_of}
use Rattle.slirp_core.specs.Fragments.{after_frame}
use Rattle.slirp_core.specs.Holds.{as_given}
use Rattle.slirp_core.specs.Packets.{is_message_to_us, is_segment, leases_with, owed_at_once, owed_at_once_by, owed_for, owed_for_arrived, owed_for_ether, owed_for_frame, owed_for_ip, request_by, request_for_udp}
use Rattle.slirp_core.specs.Packets.{udp_in, udp_of, with_arp, with_ether, with_ip}
use Rattle.slirp_core.specs.State.{SlirpState, serving_of}

module _ (config : Config) where
  -- ---- frames

  frame_is : (n : ℕ) (answer : Answer) → frames_for (as_given config) n answer ≡ frames_for config n answer
  frame_is n (ArpAnswer to arp) = refl
  frame_is n (IpAnswer to proto from guest body) = refl

  frames_are : (n : ℕ) (answers : List Answer) → frames_of (as_given config) n answers ≡ frames_of config n answers
  frames_are n [] = refl
  frames_are n (answer ∷ answers) = (λ i. frame_is n answer i ++ frames_are n answers i)

  -- the frames of answers, each by the settings that a network has
  pub answers_as : {given : Config} → given ≡ as_given config → (n : ℕ) (of : Config → List Answer) → of (as_given config) ≡ of config → frames_of given n (of given) ≡ frames_of config n (of config)
  answers_as is n of same = ap (λ k. frames_of k n (of k)) is ∙ frames_are n (of (as_given config)) ∙ ap (frames_of config n) same

  -- ---- answers

  pub told_as : (said : Option Said) → told_of_files (as_given config) said ≡ told_of_files config said
  told_as None = refl
  told_as (Some said) = refl

  pub reply_as : (peer : Endpoint) (octets : List ℕ) (guest : Option Endpoint) (mac : Option (List ℕ)) → reply_for (as_given config) peer octets guest mac ≡ reply_for config peer octets guest mac
  reply_as peer octets (Some guest) (Some mac) = refl
  reply_as peer octets (Some guest) None = refl
  reply_as peer octets None mac = refl

  -- ---- what becomes of a datagram

  datagram_verdict_by_is : (d : Datagram) (v : Verdict) → datagram_verdict_by (as_given config) d v ≡ datagram_verdict_by config d v
  datagram_verdict_by_is d (Go to) = refl
  datagram_verdict_by_is d (Denied rule) = refl

  datagram_verdict_is : (d : Datagram) → datagram_verdict (as_given config) d ≡ datagram_verdict config d
  datagram_verdict_is d =
      ap (λ f. if d.from.port == 0 then Ignored
      else (if (d.to.port == 67) && ((address d.to == config.vhost) || (address d.to == 0xffffffff)) then (if config.no_dhcp then Ignored else ForLeases)
      else (if (d.to.port == 69) && (address d.to == config.vhost) then ForFiles
      else f))) (datagram_verdict_by_is d (target config ByUdp d.to))

  pub request_as : (d : Option Datagram) → request_for_udp (as_given config) d ≡ request_for_udp config d
  request_as d = (λ i. option_and_then (λ d. request_by d (datagram_verdict_is d i)) d)

  -- ---- leases

  reply_is : (m : Message) (answer : Served) → reply_of (as_given config) m answer ≡ reply_of config m answer
  reply_is m Silence = refl
  reply_is m (Offers place) = refl
  reply_is m (Lends place) = refl
  reply_is m Informs = refl
  reply_is m Refuses = refl

  octets_are : (m : Message) (answer : Served) → octets_of_reply (as_given config) m answer ≡ octets_of_reply config m answer
  octets_are m Silence = refl
  octets_are m (Offers place) = refl
  octets_are m (Lends place) = refl
  octets_are m Informs = refl
  octets_are m Refuses = refl

  served_is : (now : ℕ) (leases : List Lease) (m : Option Message) → served (as_given config) now leases m ≡ served config now leases m
  served_is now leases None = refl
  served_is now leases (Some m) = refl

  reply_to_is : (now : ℕ) (leases : List Lease) (m : Option Message) → reply_to (as_given config) now leases m ≡ reply_to config now leases m
  reply_to_is now leases None = refl
  reply_to_is now leases (Some m) = reply_is m (served config now leases (Some m)).answer

  replied_is : (now : ℕ) (leases : List Lease) (m : Option Message) → replied_octets (as_given config) now leases m ≡ replied_octets config now leases m
  replied_is now leases None = refl
  replied_is now leases (Some m) = octets_are m (served config now leases (Some m)).answer

  lease_is : (now : ℕ) (leases : List Lease) (d : Datagram) → lease_reply (as_given config) now leases d ≡ lease_reply config now leases d
  lease_is now leases d = (λ i. sending_of (reply_to_is now leases (read_message d.body) i) (replied_is now leases (read_message d.body) i))

  leased_by_verdict : (now : ℕ) (d : Datagram) (f : DatagramVerdict) (leases : List Lease) → leases_by_verdict (as_given config) now d f leases ≡ leases_by_verdict config now d f leases
  leased_by_verdict now d Ignored leases = refl
  leased_by_verdict now d Refused leases = refl
  leased_by_verdict now d ForLeases leases = (λ i. (served_is now leases (read_message d.body) i).leases)
  leased_by_verdict now d ForFiles leases = refl
  leased_by_verdict now d (GoesTo to) leases = refl

  leased : (now : ℕ) (d : Option Datagram) (leases : List Lease) → leases_with (as_given config) now d leases ≡ leases_with config now d leases
  leased now None leases = refl
  leased now (Some d) leases = ap (λ f. leases_by_verdict (as_given config) now d f leases) (datagram_verdict_is d) ∙ leased_by_verdict now d (datagram_verdict config d) leases

  -- ---- whom a frame makes known

  known_by_arp : (arp : Option Arp) (pairs : List (Ip4 × Mac)) → with_arp (as_given config) arp pairs ≡ with_arp config arp pairs
  known_by_arp None pairs = refl
  known_by_arp (Some arp) pairs = refl

  known_by_ip : (mac : List ℕ) (ip : Option Ip) (pairs : List (Ip4 × Mac)) → with_ip (as_given config) mac ip pairs ≡ with_ip config mac ip pairs
  known_by_ip mac None pairs = refl
  known_by_ip mac (Some ip) pairs = refl

  known_by : (ether : Option Ether) (pairs : List (Ip4 × Mac)) → with_ether (as_given config) ether pairs ≡ with_ether config ether pairs
  known_by None pairs = refl
  known_by (Some ether) pairs =
      (λ i. if ether.kind == arp_kind then known_by_arp (read_arp ether.body) pairs i
      else (if ether.kind == ipv4_kind then known_by_ip ether.from (read_ip ether.body) pairs i else pairs))

  -- ---- what a frame owes

  at_once_by : (s : Serving) (d : Datagram) (f : DatagramVerdict) → owed_at_once_by (as_given config) s d f ≡ owed_at_once_by config s d f
  at_once_by s d Ignored = refl
  at_once_by s d Refused = refl
  at_once_by s d ForLeases = ap answers_of (lease_is s.now s.leases d)
  at_once_by s d ForFiles = refl
  at_once_by s d (GoesTo to) = refl

  at_once : (s : Serving) (d : Datagram) → owed_at_once (as_given config) s d ≡ owed_at_once config s d
  at_once s d = ap (owed_at_once_by (as_given config) s d) (datagram_verdict_is d) ∙ at_once_by s d (datagram_verdict config d)

  by_ip : (s : Serving) (mac : List ℕ) (ip : Ip) → owed_for_ip (as_given config) s mac ip ≡ owed_for_ip config s mac ip
  by_ip s mac ip =
      (λ i. if is_message_to_us config ip then owed_for (owed_for_icmp mac ip) (read_icmp ip.body)
      else (if is_segment config ip then []
      else owed_for (λ d. at_once s d i) (udp_of config mac ip)))

  by_octets : (s : Serving) (waiting : List PartSet) (mac octets : List ℕ) (ip : Ip) → owed_for_arrived (as_given config) s waiting mac octets ip ≡ owed_for_arrived config s waiting mac octets ip
  by_octets s waiting mac octets ip = (λ i. owed_for (λ ip. by_ip s mac ip i) (arrived config s.now waiting octets ip))

  by_ether : (s : Serving) (waiting : List PartSet) (ether : Ether) → owed_for_ether (as_given config) s waiting ether ≡ owed_for_ether config s waiting ether
  by_ether s waiting ether =
      (λ i. if ether.kind == arp_kind then owed_for (owed_for_arp config) (read_arp ether.body)
      else (if ether.kind == ipv4_kind then owed_for (λ ip. by_octets s waiting ether.from ether.body ip i) (read_ip ether.body) else []))

  by_frame : (s : Serving) (waiting : List PartSet) (frame : List ℕ) → owed_for_frame (as_given config) s waiting frame ≡ owed_for_frame config s waiting frame
  by_frame s waiting frame = (λ i. owed_for (λ ether. by_ether s waiting ether i) (read_ether frame))

  -- the network once a frame is taken in
  pub frame_as : (slirp : SlirpState) (waiting : List PartSet) (parts : List Gathered) (frame : List ℕ) → after_frame (as_given config) slirp waiting parts frame ≡ after_frame config slirp waiting parts frame
  frame_as slirp waiting parts frame =
      (λ i. record slirp {
        pending = answers_as refl slirp.sent (λ k. owed_for_frame k (serving_of slirp) waiting frame) (by_frame (serving_of slirp) waiting frame) i;
        known = known_by (read_ether frame) slirp.known i;
        fragments = parts;
        leases = leased slirp.moment (udp_in config slirp.moment waiting frame) slirp.leases i;
      })
