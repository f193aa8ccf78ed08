-- A set whose parts carry octets joins to one datagram.
use Rattle.std.proofs.Common.{◌≡◌, ℕ, zero, suc, ◌+◌, ◌-◌, ◌<◌, ◌≤◌, ◌==◌, ◌&&◌, not, cond, Bool, true, false, List, [], ◌∷◌, length, find, map, get_or, ltb, leb, Option, Some, refl, sym, ◌∙◌, ap}
use Rattle.std.proofs.Common.{arith, eq-eqb}
use Rattle.std.specs.List.{Contains, range_with_len}
use Rattle.std.specs.Option.{option_map_or}
use Rattle.std.proofs.lemmas.Bool.{lt-ltb, ltb-true, le-leb, leb-true}
use Rattle.std.proofs.lemmas.List.FromFn.{fill_by_all}
use Rattle.std.proofs.lemmas.Bool.Decides.{nat_tests}
use Rattle.net_octets.specs.Octets.{one_at}
use Rattle.ipv4_head.specs.Ip.{Ip}
use Rattle.ipv4_head.specs.Sets.{Carrying, OfParts, Key, Part, PartSet, IsJoined, Joins, start_of, end_of, has_octet, first_head, joined, joined_body}
use Rattle.ipv4_head.specs.Sets.{joined_size, octet_of, whole_head, do_share}
use Rattle.ipv4_reasm.proofs.Gathering.{and_is, both, clash_last, clash_one, clash_share, not_true}
use Rattle.ipv4_reasm.proofs.Joining.{read_part}

carries : (key : Key) (parts : List Part) (p : Part) → OfParts Carrying key parts → Contains parts p → 0 < length p.body
carries key [] p all (k, less, is) = absurd (omega (arith, less))
carries key (x ∷ parts) p all (zero, less, is) = let this : x ≡ p = is in (let some = all.0 in omega (arith, some, ap (λ (q : Part). length q.body) this))
carries key (x ∷ parts) p all (suc k, less, is) = carries key parts p all.1 (k, omega (arith, less), is)

-- one that passes is found
record Found (test : Part → Bool) (parts : List Part) : Type 0 where
  part : Part
  is : find test parts ≡ Some part
  there : Contains parts part
  passes : test part ≡ true

found_if : (test : Part → Bool) (x : Part) (parts : List Part) (b : Bool) → test x ≡ b → (b ≡ false → Found test parts) → Found test (x ∷ parts)
found_if test x parts true e rest = record { part = x; is = ap (λ (b : Bool). cond b (Some x) (find test parts)) e; there = (0, omega arith, refl); passes = e }
found_if test x parts false e rest =
    let r = rest refl in
    record { part = r.part; is = ap (λ (b : Bool). cond b (Some x) (find test parts)) e ∙ r.is; there = (suc r.there.0, (let l = r.there.1 in omega (arith, l)), r.there.2); passes = r.passes }

found : (test : Part → Bool) (parts : List Part) (q : Part) → Contains parts q → test q ≡ true → Found test parts
found test [] q (k, less, is) passes = absurd (omega (arith, less))
found test (x ∷ parts) q (zero, less, is) passes = let this : x ≡ q = is in found_if test x parts (test x) refl (λ other. absurd (cc (sym other ∙ ap test this ∙ passes)))
found test (x ∷ parts) q (suc k, less, is) passes = found_if test x parts (test x) refl (λ other. found test parts q (k, omega (arith, less), is) passes)

-- two parts at the start are one
share_start : (p q : Part) → p.place ≡ 0 → q.place ≡ 0 → 0 < length p.body → 0 < length q.body → do_share p q ≡ true
share_start p q at_start too some any =
    and_is (ltb (start_of p) (end_of q)) (ltb (start_of q) (end_of p)) (lt-ltb (start_of p) (end_of q) (omega (arith, at_start, too, any)))
    (lt-ltb (start_of q) (end_of p) (omega (arith, at_start, too, some)))

size_is : (parts : List Part) (body : List ℕ) → Joins parts body → length body ≡ joined_size parts
size_is parts body j =
    let last = j.last in
    let f = found (λ (p : Part). not p.more) parts last.0 last.1.0 (not_true last.0.more last.1.1) in
    let same = clash_one parts f.part last.0 j.apart f.there last.1.0 (clash_last f.part last.0 f.passes last.1.1) in
    sym (ap (λ (o : Option Part). option_map_or end_of o 0) f.is ∙ ap end_of same ∙ last.1.2)

octet_is : (parts : List Part) (body : List ℕ) (k : ℕ) → Joins parts body → k < length body → get_or body k 0 ≡ octet_of parts k
octet_is parts body k j less =
    let w = j.whole k less in
    let has : has_octet k w.0 ≡ true = and_is (leb (start_of w.0) k) (ltb k (end_of w.0)) (le-leb (start_of w.0) k w.1.1) (lt-ltb k (end_of w.0) w.1.2) in
    let f = found (has_octet k) parts w.0 w.1.0 has in
    let t = both (leb (start_of f.part) k) (ltb k (end_of f.part)) f.passes in
    read_part body f.part.body (start_of f.part) k 0 (j.stands f.part f.there) (leb-true (start_of f.part) k t.0) (ltb-true k (end_of f.part) t.1)
    ∙ sym (ap (λ (o : Option Part). option_map_or (λ (p : Part). one_at p.body (k - start_of p)) o 0) f.is)

body_is : (parts : List Part) (body : List ℕ) → Joins parts body → body ≡ joined_body parts
body_is parts body j =
    let size = size_is parts body j in
    fill_by_all (octet_of parts) body (joined_size parts) 0 size (λ k less. octet_is parts body k j (omega (arith, size, less)))

head_is : (key : Key) (parts : List Part) (p : Part) (body : List ℕ) → Joins parts body → OfParts Carrying key parts → Contains parts p → p.place ≡ 0 → p.head ≡ first_head parts
head_is key parts p body j all there at_start =
    let f = found (λ (p : Part). p.place == 0) parts p there (eq-eqb p.place 0 at_start) in
    let front : f.part.place ≡ 0 = (let h = f.passes in grind (arith, nat_tests, h)) in
    let same = clash_one parts f.part p j.apart f.there there (clash_share f.part p (share_start f.part p front at_start (carries key parts f.part all f.there) (carries key parts p all there))) in
    sym (ap (λ (o : Option Part). option_map_or (λ (p : Part). p.head) o []) f.is ∙ ap (λ (q : Part). q.head) same)

-- the datagram to which a set joins is that of the definition
pub joined_is : (s : PartSet) (ip : Ip) (life : ℕ) → IsJoined s ip life → OfParts Carrying s.key s.parts → ip ≡ joined s
joined_is s ip life j all =
    let body = body_is s.parts ip.body j.body in
    let first = j.first in
    let head : ip.head ≡ whole_head (first_head s.parts) (length (joined_body s.parts)) =
    first.1.2 ∙ ap (λ (h : List ℕ). whole_head h (length ip.body)) (head_is s.key s.parts first.0 ip.body j.body all first.1.0 first.1.1) ∙ ap
    (λ (b : List ℕ). whole_head (first_head s.parts) (length b)) body in
    λ i. record { ident = j.ident i; more = j.more i; place = j.place i; proto = j.proto i; from = j.from i; to = j.to i; head = head i; body = body i }
