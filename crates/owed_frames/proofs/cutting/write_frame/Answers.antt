use Rattle.std.proofs.Common.{◌≡◌, ℕ, ◌+◌, ◌-◌, ◌++◌, List, [], length, take, drop, refl, sym, arith, ap, append_assoc, length-append, ◌∙◌}
use Rattle.std.proofs.lemmas.List.{take_at}
use Rattle.net_octets.proofs.Writing.{written}
use Rattle.net_octets.specs.Kinds.{ipv4_kind}
use Rattle.net_octets.specs.Octets.{two}
use Rattle.ether_frame.specs.Ether.{ether_octets}
use Rattle.ipv4_head.specs.Ip.{fragment_of, summed_head}
use Rattle.owed_frames.proofs.cutting.write_frame.Goals as goal

-- header by header
front_is : (ether ip body : List ℕ) → ((ether ++ []) ++ ip) ++ body ≡ ether ++ (ip ++ body)
front_is ether ip body = ap (λ (xs : List ℕ). xs ++ body) (append_assoc ether [] ip) ∙ append_assoc ether ip body

pub returns-clause-frame : goal.returns-clause-frame
returns-clause-frame c =
    let course = c.args.course.now in
    let part = c.args.part.now in
    let old : List ℕ = c.args.frame.now in
    let size : ℕ = length part.body.now in
    let to : List ℕ = course.to_mac.0 in
    let from : List ℕ = course.from_mac.0 in
    let kind = two ipv4_kind in
    let ether : List ℕ = ether_octets to from ipv4_kind [] in
    let ip : List ℕ = summed_head part.ttl part.ident (fragment_of part.more part.offset) part.proto part.from.0 part.to.0 size in
    let body : List ℕ = part.body.now in
    let six = c.put_ether.ensures.to in
    let six_too = c.put_ether.ensures.from in
    let long : length ether ≡ 14 = omega (arith, length-append (to ++ from ++ kind) [], length-append (to ++ from) kind, length-append to from, six, six_too) in
    let heads : length (ether ++ ip) ≡ 34 = length-append ether ip ∙ ap (λ (n : ℕ). n + 20) long in
    let first = written ether ip old _ _ 14 20 34 c.put_ether.ensures.written (c.copy_from_slice.ensures.after ∙ c.header.ensures.octets) long refl in
    let second = written (ether ++ ip) body old _ _ 34 (34 + size - 34) (34 + size) first c.copy_from_slice-2.ensures.after heads (omega arith) in
    let whole : length ((ether ++ ip) ++ body) ≡ 34 + size = length-append (ether ++ ip) body ∙ ap (λ (n : ℕ). n + size) heads in
    ap (take (34 + size)) second ∙ take_at ((ether ++ ip) ++ body) (drop (34 + size) old) (34 + size) whole ∙ front_is (to ++ from ++ kind) ip body
