-- Parts join to one body, and are whole where they do.
use Rattle.std.proofs.Common.{◌≡◌, ◌+◌, ◌-◌, ◌<◌, ◌≤◌, ◌&&◌, not, List, ℕ, true, length, drop, get_or, ltb, leb, ap, sym, ◌∙◌, arith}
use Rattle.std.specs.List.{list_all, list_any, range_with_len}
use Rattle.std.proofs.lemmas.Bool.{lt-ltb, le-leb}
use Rattle.std.proofs.lemmas.List.{get_or-drop, get_or-take, same_lists}
use Rattle.net_octets.specs.Octets.{part}
use Rattle.ipv4_head.specs.Sets.{Joins, Part, start_of, end_of, has_octet, is_whole}
use Rattle.ipv4_reasm.proofs.Gathering.{and_is, clash_last, clash_one, in_some, not_true}
use Rattle.ipv4_reasm.proofs.Wholeness.{all_range}

-- parts that join are whole
pub whole_of : (parts : List Part) (body : List ℕ) → Joins parts body → is_whole parts ≡ true
whole_of parts body j =
    let q = j.last.0 in
    let end = j.last.1.2 in
    in_some (λ last. not last.more && list_all (λ k. list_any (has_octet k) parts) (range_with_len 0 (end_of last))) parts q j.last.1.0
    (and_is (not q.more) (list_all (λ k. list_any (has_octet k) parts) (range_with_len 0 (end_of q))) (not_true q.more j.last.1.1)
    (all_range (λ k. list_any (has_octet k) parts) 0 (end_of q) (λ k low high.
    let r = j.whole k (omega arith) in
    in_some (has_octet k) parts r.0 r.1.0 (and_is (leb (start_of r.0) k) (ltb k (end_of r.0)) (le-leb (start_of r.0) k r.1.1) (lt-ltb k (end_of r.0) r.1.2)))))

-- an octet of a part that stands in a body
pub read_part : (body octets : List ℕ) (start k d : ℕ) → part body start (length octets) ≡ octets → start ≤ k → k < start + length octets → get_or body k d ≡ get_or octets (k - start) d
read_part body octets start k d stands low high =
    let at : start + (k - start) ≡ k = omega arith in
    sym (get_or-take (length octets) (drop start body) (k - start) d (omega arith) ∙ get_or-drop start body (k - start) d ∙ ap (λ i. get_or body i d) at)
    ∙ ap (λ (l : List ℕ). get_or l (k - start) d) stands

-- they join to one body
pub one_body : (parts : List Part) (a b : List ℕ) → Joins parts a → Joins parts b → a ≡ b
one_body parts a b j k =
    let q = j.last.0 in
    let r = k.last.0 in
    let same = clash_one parts q r j.apart j.last.1.0 k.last.1.0 (clash_last q r (not_true q.more j.last.1.1) k.last.1.1) in
    let end = j.last.1.2 in
    let as_end = k.last.1.2 in
    let ends = ap end_of same in
    same_lists a b (omega arith) (λ i d small.
    let p = j.whole i small in
    read_part a p.0.body (start_of p.0) i d (j.stands p.0 p.1.0) p.1.1 p.1.2
    ∙ sym (read_part b p.0.body (start_of p.0) i d (k.stands p.0 p.1.0) p.1.1 p.1.2))
