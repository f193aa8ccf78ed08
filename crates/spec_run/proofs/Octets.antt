-- What comes in a frame and in a datagram are octets, and addresses in range, where each answer is one that a World may give.
use Rattle.std.proofs.Common.{◌≡◌, ℕ, ◌-◌, ◌^◌, ◌<◌, ◌==◌, ◌&&◌, not, cond, find, lit<, nat_le, Bool, true, false, List, [], ◌∷◌, ◌++◌, get_or, length, drop, Option, Some, None}
use Rattle.std.proofs.Common.{option_and_then, if◌then◌else◌, inl, inr, refl, ap, subst, arith}
use Rattle.std.proofs.lemmas.Bool.{cases_lt}
use Rattle.std.proofs.lemmas.List.{get_or_past}
use Rattle.std.specs.List.{range_with_len}
use Rattle.std.specs.Option.{option_map_or}
use Rattle.std.proofs.lemmas.List.Elements.{All-append, All-drop, All-get_or, All-map, All-take}
use Rattle.std.proofs.lemmas.Option.{cond_some}
use Rattle.world_face.specs.Journal.{Entry, LinkRead, AreAllowed, AreOctets}
use Rattle.world_face.specs.Frames.{arrives, is_whole, partial}
use Rattle.net_octets.specs.Kinds.{ipv4_kind}
use Rattle.net_octets.specs.Octets.{IsOctets, one_at, two_at, four_at, part}
use Rattle.net_octets.proofs.Parts.{four_at-fits}
use Rattle.slirp_settings.specs.Addresses.{Config, is_guest}
use Rattle.ether_frame.specs.Ether.{Ether, read_ether}
use Rattle.ipv4_head.specs.Ip.{Ip, read_ip, head_length, is_unbroken}
use Rattle.ipv4_head.specs.Sets.{Key, Part, PartSet, Outcome, UnevenPart, LongPart, Clashes, Waits, Joined, has_octet, joined_body, joined_size, octet_of, outcome_among}
use Rattle.ipv4_head.specs.Sets.{parts_for, changed_by, OfParts, OfSets, place_of, set_for, start_of, whole_by}
use Rattle.ipv4_head.proofs.Members.{found_key, of_changed_by, of_left, of_there, same_key}
use Rattle.spec_trace.specs.Fragments.{Fragment, arrived, fragment_by, fragment_in, fragment_of, joined_by, key_by, part_by, sets, waiting, with_fragment, with_frame}
use Rattle.spec_trace.specs.Moments.{moment}
use Rattle.spec_run.proofs.Encoded.{encoded}

abbrev IsOctet : ℕ → Type 0
IsOctet octet = octet < 2 ^ 8

pub in_range : (xs : List ℕ) → AreOctets xs → IsOctets xs
in_range xs all i = elim (cases_lt i (length xs)) [
  | inl within ↦ All-get_or IsOctet xs i 0 within all
  | inr past ↦ (let zero : get_or xs i 0 ≡ 0 = get_or_past xs i 0 past in omega (arith, zero))
]

no_octets : AreOctets []
no_octets = λ k d less. absurd (omega (arith, less))

-- ---- frames

unless_whole : (b : Bool) (xs : List ℕ) → AreOctets xs → AreOctets (if b then [] else xs)
unless_whole true xs is = no_octets
unless_whole false xs is = is

partial_range : (e : Entry) (past : List Entry) → AreAllowed (e ∷ past) → AreOctets (partial past) → AreOctets (partial (e ∷ past))
partial_range (LinkRead asked answer octets) past allowed is = unless_whole (is_whole (partial past ++ octets)) (partial past ++ octets) (All-append IsOctet (partial past) octets is allowed.0.1.1)
partial_range _ past allowed is = is

partial_octets : (past : List Entry) → AreAllowed past → AreOctets (partial past)
partial_octets [] allowed = no_octets
partial_octets (e ∷ past) allowed = partial_range e past allowed (partial_octets past allowed.1)

whole_frame : (b : Bool) (xs frame : List ℕ) → AreOctets xs → (if b then Some (drop 4 xs) else None) ≡ Some frame → AreOctets frame
whole_frame true xs frame is same = let this : drop 4 xs ≡ frame = cc in subst AreOctets this (All-drop IsOctet 4 xs is)
whole_frame false xs frame is same = cc

pub frame_octets : (e : Entry) (past : List Entry) (frame : List ℕ) → AreAllowed (e ∷ past) → arrives e past ≡ Some frame → AreOctets frame
frame_octets (LinkRead asked answer octets) past frame allowed is =
    whole_frame (is_whole (partial past ++ octets)) (partial past ++ octets) frame (All-append IsOctet (partial past) octets (partial_octets past allowed.1) allowed.0.1.1) is
frame_octets _ past frame allowed is = cc

-- ---- what a frame and a datagram carry

pub ether_range : (frame : List ℕ) (ether : Ether) → read_ether frame ≡ Some ether → AreOctets frame → AreOctets ether.body
ether_range frame ether is all =
    let found = cond_some (nat_le 14 (length frame)) (record { to = part frame 0 6; from = part frame 6 6; kind = two_at frame 12; body = drop 14 frame }) ether is in
    let body : drop 14 frame ≡ ether.body = ap (λ (e : Ether). e.body) found.1 in
    subst AreOctets body (All-drop IsOctet 14 frame all)

-- addresses in range, and octets
abbrev pub IsRanged : Ip → Type 0
IsRanged ip = (ip.from < 2 ^ 32) × (ip.to < 2 ^ 32) × AreOctets ip.body

pub ip_range : (octets : List ℕ) (ip : Ip) → read_ip octets ≡ Some ip → AreOctets octets → IsRanged ip
ip_range octets ip is all =
    let found = encoded octets ip is in
    let from : four_at octets 12 ≡ ip.from = ap (λ (i : Ip). i.from) found in
    let to : four_at octets 16 ≡ ip.to = ap (λ (i : Ip). i.to) found in
    let body : part octets (head_length octets) (two_at octets 2 - head_length octets) ≡ ip.body = ap (λ (i : Ip). i.body) found in (
      subst (λ n. n < 2 ^ 32) from (four_at-fits octets 12 (in_range octets all)),
      subst (λ n. n < 2 ^ 32) to (four_at-fits octets 16 (in_range octets all)),
      subst AreOctets body (All-take IsOctet (two_at octets 2 - head_length octets) (drop (head_length octets) octets) (All-drop IsOctet (head_length octets) octets all)),
    )

-- ---- fragments

abbrev pub RangePart : Key → Part → Type 0
RangePart key p = (key.from < 2 ^ 32) × (key.to < 2 ^ 32) × AreOctets p.body

abbrev RangeFragment : Option Fragment → Type 0
RangeFragment None = Unit {0}
RangeFragment (Some f) = RangePart f.key f.part

fragment_if : (b : Bool) (f : Fragment) → RangePart f.key f.part → RangeFragment (if b then Some f else None)
fragment_if true f is = is
fragment_if false f is = tt

fragment_range : (config : Config) (octets : List ℕ) (ip : Ip) → IsRanged ip → RangeFragment (fragment_by config octets ip)
fragment_range config octets ip is = fragment_if (is_guest config ip.from && not (is_unbroken ip)) (record { key = key_by ip; part = part_by octets ip }) is

range_fragment_ip : (config : Config) (octets : List ℕ) (o : Option Ip) → read_ip octets ≡ o → AreOctets octets → RangeFragment (option_and_then (fragment_by config octets) o)
range_fragment_ip config octets None is all = tt
range_fragment_ip config octets (Some ip) is all = fragment_range config octets ip (ip_range octets ip is all)

range_fragment_of : (b : Bool) (o : Option Fragment) → RangeFragment o → RangeFragment (if b then o else None)
range_fragment_of true o is = is
range_fragment_of false o is = tt

range_fragment_in : (config : Config) (frame : List ℕ) (o : Option Ether) → read_ether frame ≡ o → AreOctets frame → RangeFragment (option_and_then (fragment_of config) o)
range_fragment_in config frame None is all = tt
range_fragment_in config frame (Some ether) is all =
    range_fragment_of (ether.kind == ipv4_kind) (option_and_then (fragment_by config ether.body) (read_ip ether.body))
    (range_fragment_ip config ether.body (read_ip ether.body) refl (ether_range frame ether is all))

sets_with : (now : ℕ) (o : Option Fragment) (waiting : List PartSet) → RangeFragment o → OfSets RangePart waiting → OfSets RangePart (with_fragment now o waiting)
sets_with now None waiting is all = all
sets_with now (Some f) waiting is all = of_left RangePart now f.key f.part waiting all (λ even. is)

sets_by : (config : Config) (now : ℕ) (o : Option (List ℕ)) (waiting : List PartSet) → ((frame : List ℕ) → o ≡ Some frame → AreOctets frame) → OfSets RangePart waiting →
    OfSets RangePart (with_frame config now o waiting)
sets_by config now None waiting octets all = all
sets_by config now (Some frame) waiting octets all = sets_with now (fragment_in config frame) waiting (range_fragment_in config frame (read_ether frame) refl (octets frame refl)) all

pub range_sets : (config : Config) (past : List Entry) → AreAllowed past → OfSets RangePart (sets config past)
range_sets config [] allowed = tt
range_sets config (e ∷ past) allowed = sets_by config (moment past) (arrives e past) (sets config past) (λ frame is. frame_octets e past frame allowed is) (range_sets config past allowed.1)

-- what is joined of them
abbrev octet_in : ℕ → Option Part → ℕ
octet_in k o = option_map_or (λ (p : Part). one_at p.body (k - start_of p)) o 0

octets_of : (key : Key) (parts : List Part) (test : Part → Bool) (k : ℕ) → OfParts RangePart key parts → octet_in k (find test parts) < 2 ^ 8
octets_of key [] test k all = lit< tt
octets_of key (p ∷ parts) test k all = octet_if (test p) (in_range p.body all.0.2 (k - start_of p)) (octets_of key parts test k all.1)
  where
    octet_if : (b : Bool) → one_at p.body (k - start_of p) < 2 ^ 8 → octet_in k (find test parts) < 2 ^ 8 → octet_in k (cond b (Some p) (find test parts)) < 2 ^ 8
    octet_if true is later = is
    octet_if false is later = later

joined_octets : (s : PartSet) → OfParts RangePart s.key s.parts → AreOctets (joined_body s.parts)
joined_octets s all = All-map IsOctet (octet_of s.parts) (range_with_len 0 (joined_size s.parts))
    (λ i d less. octets_of s.key s.parts (has_octet (get_or (range_with_len 0 (joined_size s.parts)) i d)) (get_or (range_with_len 0 (joined_size s.parts)) i d) all)

abbrev pub RangeIp : Option Ip → Type 0
RangeIp None = Unit {0}
RangeIp (Some ip) = IsRanged ip

whole_range : (key : Key) (waiting : List PartSet) (outcome : Outcome) (o : Option PartSet) → set_for key waiting ≡ o → key.from < 2 ^ 32 → key.to < 2 ^ 32 →
    OfSets RangePart waiting → RangeIp (whole_by outcome o)
whole_range key waiting Joined None at from to all = tt
whole_range key waiting Joined (Some s) at from to all =
    let key_is : key ≡ s.key = same_key key s.key (found_key RangePart key waiting s at) in
    (subst (λ (k : Key). k.from < 2 ^ 32) key_is from, subst (λ (k : Key). k.to < 2 ^ 32) key_is to, joined_octets s (of_there RangePart waiting (place_of key waiting) s at all))
whole_range key waiting UnevenPart o at from to all = tt
whole_range key waiting LongPart o at from to all = tt
whole_range key waiting Clashes o at from to all = tt
whole_range key waiting Waits o at from to all = tt

joined_range : (now : ℕ) (waiting : List PartSet) (o : Option Fragment) → RangeFragment o → OfSets RangePart waiting → RangeIp (joined_by now waiting o)
joined_range now waiting None is all = tt
joined_range now waiting (Some f) is all =
    let o = outcome_among f.part (parts_for f.key waiting) in
    let after = changed_by o now f.key f.part waiting in
    whole_range f.key after o (set_for f.key after) refl is.0 is.1 (of_changed_by RangePart now f.key f.part waiting all (λ even. is))

pub arrived_range : (config : Config) (now : ℕ) (waiting : List PartSet) (octets : List ℕ) (ip : Ip) → IsRanged ip → OfSets RangePart waiting → RangeIp (arrived config now waiting octets ip)
arrived_range config now waiting octets ip is all = by (is_unbroken ip)
  where
    by : (b : Bool) → RangeIp (if b then Some ip else joined_by now waiting (fragment_by config octets ip))
    by true = is
    by false = joined_range now waiting (fragment_by config octets ip) (fragment_range config octets ip is) all
