-- What a datagram of IPv4 that is read has is what stands at its places.
use Rattle.std.proofs.Common.{◌≡◌, ℕ, ◌-◌, ◌/◌, ◌%◌, ◌^◌, ◌==◌, List, take, Some}
use Rattle.std.proofs.lemmas.Option.{cond_some}
use Rattle.net_octets.specs.Octets.{four_at, one_at, part, two_at}
use Rattle.ipv4_head.specs.Ip.{Ip, head_length, is_ip, read_ip}

abbrev pub encoded_by : List ℕ → Ip
encoded_by octets = record {
  ident = two_at octets 4;
  more = (two_at octets 6 / 2 ^ 13) % 2 == 1;
  place = two_at octets 6 % 2 ^ 13;
  proto = one_at octets 9;
  from = four_at octets 12;
  to = four_at octets 16;
  head = take (head_length octets) octets;
  body = part octets (head_length octets) (two_at octets 2 - head_length octets);
}

pub encoded : (octets : List ℕ) (ip : Ip) → read_ip octets ≡ Some ip → encoded_by octets ≡ ip
encoded octets ip is = (cond_some (is_ip octets) (encoded_by octets) ip is).1
