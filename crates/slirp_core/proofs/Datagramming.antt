-- What an unreachable quotes of a packet.
use Rattle.std.proofs.Common.{◌≡◌, ℕ, ◌+◌, ◌<◌, ◌≤◌, ◌==◌, false, List, ◌++◌, length, take, drop, min, Some, None, if◌then◌else◌, sym, ◌∙◌, ap, arith, append_assoc, length-append}
use Rattle.std.proofs.lemmas.Bool.Decides.{nat_tests}
use Rattle.std.proofs.lemmas.List.{length-take, take-append-drop, take-append-le, take_min}
use Rattle.std.proofs.Math.Seq.{take-append-add}
use Rattle.std.specs.Option.{option_and_then}
use Rattle.net_octets.specs.Kinds.{udp_proto}
use Rattle.net_octets.specs.Octets.{IsOctets}
use Rattle.slirp_settings.specs.Addresses.{Config}
use Rattle.ipv4_head.specs.Ip.{Ip, IsIp, read_ip}
use Rattle.ipv4_head.proofs.Encoding.{encoding_of}
use Rattle.udp_datagram.specs.Udp.{Udp, IsUdp, udp_with, read_udp}
use Rattle.spec_trace.specs.Packets.{quoted, datagram_of, may_come}
use Rattle.slirp_core.specs.Datagrams.{Lies}
use Rattle.slirp_core.specs.Packets.{udp_of}

-- a packet that is read lies at the front of the octets
pub read_lies : (octets : List ℕ) (ip : Ip) → IsOctets octets → read_ip octets ≡ Some ip → Lies octets ip.head ip.body
read_lies octets ip fits is =
    let g : IsIp octets ip = (encoding_of octets ip fits is).0 in
    let words : g.words < 16 = g.words_fit.1 in
    let five : 5 ≤ g.words = g.words_fit.0 in
    record {
      rest = g.rest;
      is = g.is ∙ append_assoc ip.head ip.body g.rest;
      few = omega (arith, g.head_size);
      short = omega (arith, g.size, g.head_size);
    }

pub read_head : (octets : List ℕ) (ip : Ip) → IsOctets octets → read_ip octets ≡ Some ip → 20 ≤ length ip.head
read_head octets ip fits is =
    let g : IsIp octets ip = (encoding_of octets ip fits is).0 in
    let five : 5 ≤ g.words = g.words_fit.0 in
    omega (arith, g.head_size)

-- both are within the octets
pub lies_within : (octets head body : List ℕ) → Lies octets head body → length head + length body ≤ length octets
lies_within octets head body l = omega (arith, ap length l.is, length-append head (body ++ l.rest), length-append body l.rest)

-- what stands at the front so
pub front_lies : (octets : List ℕ) (head body : ℕ) → head ≤ 60 → body ≤ 65515 → Lies octets (take head octets) (take body (drop head octets))
front_lies octets head body few short = record {
  rest = drop body (drop head octets);
  is = sym (ap (λ (xs : List ℕ). take head octets ++ xs) (take-append-drop body (drop head octets)) ∙ take-append-drop head octets);
  few = omega (arith, length-take head octets, few);
  short = omega (arith, length-take body (drop head octets), short);
}

front : (head body rest : List ℕ) → take (length head + min (length body) 8) (head ++ (body ++ rest)) ≡ head ++ take 8 body
front head body rest =
    let within : min (length body) 8 ≤ length body = omega arith in
    take-append-add head (body ++ rest) (min (length body) 8)
    ∙ ap (λ (xs : List ℕ). head ++ xs) (take-append-le (min (length body) 8) body rest within ∙ ap (λ n. take n body) (flipped (length body)) ∙ take_min 8 body)
  where
    flipped : (n : ℕ) → min n 8 ≡ min 8 n
    flipped n = omega arith

-- the octets up to the eighth of the payload are what is quoted
pub quotes : (octets : List ℕ) (ip : Ip) → Lies octets ip.head ip.body → take (length ip.head + min (length ip.body) 8) octets ≡ quoted ip
quotes octets ip l = ap (take (length ip.head + min (length ip.body) 8)) l.is ∙ front ip.head ip.body l.rest

-- a packet of another protocol carries no datagram
carries_none : (config : Config) (mac : List ℕ) (ip : Ip) → (ip.proto == udp_proto) ≡ false → None ≡ udp_of config mac ip
carries_none config mac ip other =
    sym (ap (λ b. if b then option_and_then (λ udp. if may_come config ip udp then Some (datagram_of mac ip udp) else None) (read_udp ip.from ip.to ip.body) else None) other)

other_proto : (proto : ℕ) → (proto ≡ 17 → ⊥) → (proto == 17) ≡ false
other_proto proto other = grind (arith, nat_tests)

pub none_of_others : (config : Config) (mac : List ℕ) (ip : Ip) → (ip.proto ≡ 17 → ⊥) → None ≡ udp_of config mac ip
none_of_others config mac ip other = carries_none config mac ip (other_proto ip.proto other)

-- a payload is shorter than the packet by both headers
pub payload_fits : (from to : ℕ) (octets : List ℕ) (udp : Udp) → IsUdp from to octets udp → 8 + length udp.body ≤ length octets
payload_fits from to octets udp g = omega (arith, ap length g.is, length-append (udp_with g.sum udp) g.rest)
