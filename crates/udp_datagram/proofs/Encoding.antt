-- The grammar of datagrams and the reading function say the same.
use Rattle.std.proofs.Common.{◌≡◌, ℕ, ◌+◌, ◌-◌, ◌≤◌, ◌==◌, ◌||◌, List, ◌++◌, length, take, drop, Some, None, Result, Ok, Err, MatchResult, refl, sym, ◌∙◌, ap, subst, arith, append_assoc}
use Rattle.std.proofs.Common.{length-append}
use Rattle.std.proofs.lemmas.Nat.{from_be_bytes-to_be_bytes_2}
use Rattle.std.proofs.lemmas.List.{take_at}
use Rattle.std.proofs.lemmas.Option.{cond_some, none-some}
use Rattle.net_octets.specs.Octets.{IsOctets, two_at, two, part, sum_ok}
use Rattle.net_octets.proofs.Parts.{parted, length-part, two-two_at, two_at-fits}
use Rattle.net_octets.specs.declared.Fault.{Fault}
use Rattle.udp_datagram.specs.declared.UdpView.{UdpView}
use Rattle.udp_datagram.specs.Udp.{Udp, IsUdp, is_udp, read_udp, udp_with, summed, within, udp_of}
use Rattle.udp_datagram.proofs.Passing.{tests, read_by}

pub length-udp : (sum : ℕ) (udp : Udp) → length (udp_with sum udp) ≡ 8 + length udp.body
length-udp sum udp = omega arith

-- what is encoded so is read
pub reads : (from to : ℕ) (octets : List ℕ) (udp : Udp) → IsUdp from to octets udp → read_udp from to octets ≡ Some udp
reads from to octets udp g =
    let all = udp_with g.sum udp in
    let size = length-udp g.sum udp in
    let long : length octets ≡ 8 + length udp.body + length g.rest = ap length g.is ∙ length-append all g.rest ∙ ap (λ n. n + length g.rest) size in
    let from_port : two_at octets 0 ≡ udp.from_port = ap (λ (o : List ℕ). two_at o 0) g.is ∙ from_be_bytes-to_be_bytes_2 udp.from_port g.from_port in
    let to_port : two_at octets 2 ≡ udp.to_port = ap (λ (o : List ℕ). two_at o 2) g.is ∙ from_be_bytes-to_be_bytes_2 udp.to_port g.to_port in
    let total : two_at octets 4 ≡ 8 + length udp.body = ap (λ (o : List ℕ). two_at o 4) g.is ∙ from_be_bytes-to_be_bytes_2 (8 + length udp.body) g.size in
    let sum : two_at octets 6 ≡ g.sum = ap (λ (o : List ℕ). two_at o 6) g.is ∙ from_be_bytes-to_be_bytes_2 g.sum g.sum_fits in
    let front : within octets ≡ all = ap (λ n. take n octets) total ∙ ap (take (8 + length udp.body)) g.is ∙ take_at all g.rest (8 + length udp.body) size in
    let count : two_at octets 4 - 8 ≡ length udp.body = omega (arith, total) in
    let body : part octets 8 (two_at octets 4 - 8) ≡ udp.body = ap (part octets 8) count ∙ ap (λ (o : List ℕ). part o 8 (length udp.body)) g.is ∙ take_at udp.body g.rest (length udp.body) refl in
    read_by from to octets
    (record {
      long = omega (arith, long);
      least = omega (arith, total);
      most = omega (arith, total, long);
      sum = ap (λ n. (n == 0) || sum_ok (summed from to (within octets))) sum ∙ ap (λ (o : List ℕ). (g.sum == 0) || sum_ok (summed from to o)) front ∙ g.holds;
    })
    udp.from_port udp.to_port udp.body (sym from_port) (sym to_port) (sym body)

-- one part more
more : (octets done w : List ℕ) (i n j : ℕ) → octets ≡ done ++ drop i octets → part octets i n ≡ w → i + n ≡ j → octets ≡ (done ++ w) ++ drop j octets
more octets done w i n j is part_is at =
    is ∙ ap (λ (l : List ℕ). done ++ l) (parted octets i n j at ∙ ap (λ (l : List ℕ). l ++ drop j octets) part_is) ∙ sym (append_assoc done w (drop j octets))

-- the parts of a datagram, one after another
whole : (octets : List ℕ) (size : ℕ) → IsOctets octets → 8 ≤ length octets → 8 ≤ size
    → octets ≡ (two (two_at octets 0) ++ two (two_at octets 2) ++ two (two_at octets 4) ++ two (two_at octets 6) ++ part octets 8 (size - 8)) ++ drop size octets
whole octets size fits long least =
    let one = two (two_at octets 0) in
    let two_ = one ++ two (two_at octets 2) in
    let three = two_ ++ two (two_at octets 4) in
    let four = three ++ two (two_at octets 6) in
    let a : octets ≡ one ++ drop 2 octets = parted octets 0 2 2 refl ∙ ap (λ (l : List ℕ). l ++ drop 2 octets) (sym (two-two_at octets 0 fits (omega arith))) in
    let b : octets ≡ two_ ++ drop 4 octets = more octets one (two (two_at octets 2)) 2 2 4 a (sym (two-two_at octets 2 fits (omega arith))) refl in
    let c : octets ≡ three ++ drop 6 octets = more octets two_ (two (two_at octets 4)) 4 2 6 b (sym (two-two_at octets 4 fits (omega arith))) refl in
    let d : octets ≡ four ++ drop 8 octets = more octets three (two (two_at octets 6)) 6 2 8 c (sym (two-two_at octets 6 fits (omega arith))) refl in
    more octets four (part octets 8 (size - 8)) 8 (size - 8) size d refl (omega arith)

-- what is read is encoded so
pub encoding_of : (from to : ℕ) (octets : List ℕ) (udp : Udp) → IsOctets octets → read_udp from to octets ≡ Some udp → IsUdp from to octets udp
encoding_of from to octets udp fits is =
    let size = two_at octets 4 in
    let read : Udp = record { from_port = two_at octets 0; to_port = two_at octets 2; body = part octets 8 (size - 8) } in
    let found = cond_some (is_udp from to octets) read udp is in
    let t = tests from to octets found.0 in
    let least : 8 ≤ size = t.least in
    let most : size ≤ length octets = t.most in
    let body : 8 + length read.body ≡ size = omega (arith, length-part octets 8 (size - 8) (omega arith)) in
    let all : octets ≡ udp_with (two_at octets 6) read ++ drop size octets =
    whole octets size fits t.long least ∙ ap (λ n. (two (two_at octets 0) ++ two (two_at octets 2) ++ two n ++ two (two_at octets 6) ++ read.body) ++ drop size octets) (sym body) in
    let front : within octets ≡ udp_with (two_at octets 6) read = ap (take size) all ∙ take_at (udp_with (two_at octets 6) read) (drop size octets) size (length-udp (two_at octets 6) read ∙ body) in
    let size_fits = two_at-fits octets 4 fits in
    subst (λ (u : Udp). IsUdp from to octets u) found.1 (record {
      from_port = two_at-fits octets 0 fits;
      to_port = two_at-fits octets 2 fits;
      size = omega (arith, body, size_fits);
      sum = two_at octets 6;
      sum_fits = two_at-fits octets 6 fits;
      holds = ap (λ (o : List ℕ). (two_at octets 6 == 0) || sum_ok (summed from to o)) (sym front) ∙ t.sum;
      rest = drop size octets;
      is = all;
    })

-- the same of an answer
pub packet_found : (from to : ℕ) (octets : List ℕ) → IsOctets octets → (r : Result UdpView Fault) → MatchResult r (λ v. read_udp from to octets ≡ Some (udp_of v)) (λ _. read_udp from to octets ≡ None)
    → MatchResult r (λ v. IsUdp from to octets (udp_of v)) (λ _. (udp : Udp) → IsUdp from to octets udp → ⊥)
packet_found from to octets fits (Ok v) is = encoding_of from to octets (udp_of v) fits is
packet_found from to octets fits (Err fault) is = λ udp g. none-some udp (sym is ∙ reads from to octets udp g)
