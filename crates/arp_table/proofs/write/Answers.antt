use Rattle.std.proofs.Common.{◌≡◌, ℕ, ◌<◌, ◌^◌, Bool, true, false, List, [], ◌∷◌, ◌++◌, length, drop, if◌then◌else◌, refl, ap, ◌∙◌, arith, length-append, lit≤}
use Rattle.net_octets.specs.Kinds.{ipv4_kind}
use Rattle.net_octets.specs.Octets.{two, four}
use Rattle.net_octets.proofs.Writing.{written, written_front}
use Rattle.arp_table.specs.Arp.{arp_of}
use Rattle.arp_table.proofs.Encoding.{written_is}
use Rattle.arp_table.proofs.write.Goals as goal

head : (reply : Bool) (operation : ℕ) → operation ≡ (if reply then 2 else 1)
    → 0 ∷ 1 ∷ 8 ∷ 0 ∷ 6 ∷ 4 ∷ 0 ∷ operation ∷ [] ≡ two 1 ++ two ipv4_kind ++ 6 ∷ 4 ∷ two (if reply then 2 else 1)
head true operation is = ap (λ n. 0 ∷ 1 ∷ 8 ∷ 0 ∷ 6 ∷ 4 ∷ 0 ∷ n ∷ []) is
head false operation is = ap (λ n. 0 ∷ 1 ∷ 8 ∷ 0 ∷ 6 ∷ 4 ∷ 0 ∷ n ∷ []) is

pub returns-clause-written : goal.returns-clause-written
returns-clause-written c =
    let v = c.args.v.now in
    let into = c.args.into.now in
    let first : List ℕ = 0 ∷ 1 ∷ 8 ∷ 0 ∷ 6 ∷ 4 ∷ 0 ∷ c.operation.result ∷ [] in
    let six : length v.sender_mac.0 ≡ 6 = omega arith in
    let six' : length v.target_mac.0 ≡ 6 = omega arith in
    let one = ap (λ xs. xs ++ drop 8 into) c.copy_from_slice.ensures.after in
    let two_ = written first v.sender_mac.0 into _ _ 8 6 14 one c.copy_from_slice-2.ensures.after refl refl in
    let three = written_front (first ++ v.sender_mac.0) (four v.sender_ip.0) into _ _ 14 4 18 4 two_ c.write_u32.ensures (omega (arith, six)) refl (lit≤ tt) in
    let long : length (first ++ v.sender_mac.0 ++ four v.sender_ip.0) ≡ 18 = length-append (first ++ v.sender_mac.0) (four v.sender_ip.0) ∙ omega (arith, six) in
    let four_ = written (first ++ v.sender_mac.0 ++ four v.sender_ip.0) v.target_mac.0 into _ _ 18 6 24 three c.copy_from_slice-3.ensures.after long refl in
    let long' : length (first ++ v.sender_mac.0 ++ four v.sender_ip.0 ++ v.target_mac.0) ≡ 24 = length-append (first ++ v.sender_mac.0 ++ four v.sender_ip.0) v.target_mac.0 ∙ omega
    (arith, six', long) in
    let five = written_front (first ++ v.sender_mac.0 ++ four v.sender_ip.0 ++ v.target_mac.0) (four v.target_ip.0) into _ _ 24 4 28 4 four_ c.write_u32-2.ensures long' refl (lit≤ tt) in
    five ∙ ap (λ (xs : List ℕ). xs ++ v.sender_mac.0 ++ four v.sender_ip.0 ++ v.target_mac.0 ++ four v.target_ip.0 ++ drop 28 into) (head v.reply c.operation.result c.operation.ensures)

pub returns-clause-packet : goal.returns-clause-packet
returns-clause-packet c =
    let v = c.args.v.now in
    let six : length v.sender_mac.0 ≡ 6 = omega arith in
    let six' : length v.target_mac.0 ≡ 6 = omega arith in
    let sender : v.sender_ip.0 < 2 ^ 32 = omega arith in
    let target : v.target_ip.0 < 2 ^ 32 = omega arith in
    written_is (arp_of v) _ (drop 28 c.args.into.now) six six' sender target (returns-clause-written c)
