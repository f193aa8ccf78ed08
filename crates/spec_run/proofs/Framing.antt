-- The frames of an answer: how many datagrams begin in each, and what each carries.
use Rattle.std.proofs.Common.{◌≡◌, ℕ, zero, suc, ◌+◌, ◌*◌, ◌%◌, ◌^◌, ◌<◌, ◌≤◌, ◌==◌, ◌&&◌, nat_le, Bool, true, false, List, [], ◌∷◌, length, map, drop, if◌then◌else◌, refl, sym, ◌∙◌, ap}
use Rattle.std.proofs.Common.{subst, arith, append-nil}
use Rattle.std.proofs.lemmas.Bool.Decides.{nat_tests}
use Rattle.std.proofs.lemmas.Nat.{from_be_bytes-to_be_bytes_2}
use Rattle.net_octets.specs.Kinds.{arp_kind, ipv4_kind}
use Rattle.net_octets.specs.Octets.{two_at, our_mac}
use Rattle.net_octets.proofs.Six.{six}
use Rattle.slirp_settings.specs.Addresses.{Config}
use Rattle.ether_frame.specs.Ether.{ether_octets}
use Rattle.arp_table.specs.Arp.{Arp, arp_octets}
use Rattle.ipv4_head.specs.Cuts.{cut_at, cut_count, cuts_from, units_in}
use Rattle.ipv4_head.specs.Ip.{fragment_of}
use Rattle.ipv4_head.specs.Sets.{Part}
use Rattle.ipv4_head.proofs.Cutting.{place_below, place_some}
use Rattle.spec_run.specs.Answers.{Answer, ArpAnswer, IpAnswer, begins_datagram, datagram_frames, datagrams_in, fits_datagram, frames_for, frames_of, part_frame, uncut}

-- ---- lists of frames

pub drop_next : {A : Type 0} (k : ℕ) (xs rest : List A) (x : A) → drop k xs ≡ x ∷ rest → drop (suc k) xs ≡ rest
drop_next zero [] rest x is = cc
drop_next zero (y ∷ xs) rest x is = cc
drop_next (suc k) [] rest x is = cc
drop_next (suc k) (y ∷ xs) rest x is = drop_next k xs rest x is

pub drop_none : (k : ℕ) → drop {A = List ℕ} k [] ≡ []
drop_none zero = refl
drop_none (suc k) = refl

-- one answer has its frames
pub frames_one : (config : Config) (ident : ℕ) (a : Answer) → frames_of config ident (a ∷ []) ≡ frames_for config ident a
frames_one config ident a = append-nil (frames_for config ident a)

-- the k-th of so many parts
record IsCut (mtu : ℕ) (whole : Part) (first many k : ℕ) (frame : List ℕ) (as_frame : Part → List ℕ) : Type 0 where
  below : k < many
  is : frame ≡ as_frame (cut_at mtu whole (first + k))

nth_cut : (mtu : ℕ) (whole : Part) (as_frame : Part → List ℕ) (first many k : ℕ) (frame : List ℕ) (rest : List (List ℕ)) → drop k
    (map as_frame (cuts_from mtu whole first many)) ≡ frame ∷ rest → IsCut mtu whole first many k frame as_frame
nth_cut mtu whole as_frame first zero zero frame rest is = cc
nth_cut mtu whole as_frame first zero (suc k) frame rest is = cc
nth_cut mtu whole as_frame first (suc many) zero frame rest is =
    let this : as_frame (cut_at mtu whole first) ≡ frame = cc in
    let place : first ≡ first + 0 = omega arith in
    record { below = omega arith; is = sym this ∙ ap (λ n. as_frame (cut_at mtu whole n)) place }
nth_cut mtu whole as_frame first (suc many) (suc k) frame rest is =
    let later = nth_cut mtu whole as_frame (suc first) many k frame rest is in
    let place : suc first + k ≡ first + suc k = omega arith in
    record { below = (let b = later.below in omega arith); is = later.is ∙ ap (λ n. as_frame (cut_at mtu whole n)) place }

-- a frame of a datagram: the k-th of its parts
pub record IsPart (config : Config) (ident : ℕ) (to : List ℕ) (proto from guest : ℕ) (body frame : List ℕ) (k : ℕ) : Type 0 where
  pub short : length body ≤ 65515
  pub below : k < cut_count config.mtu (length body)
  pub is : frame ≡ part_frame to (our_mac config.vhost) ident proto from guest (cut_at config.mtu (uncut body) k)

pub part_of_frames : (config : Config) (ident : ℕ) (to : List ℕ) (proto from guest : ℕ) (body frame : List ℕ) (rest : List (List ℕ)) (k : ℕ)
    → drop k (frames_for config ident (IpAnswer to proto from guest body)) ≡ frame ∷ rest → IsPart config ident to proto from guest body frame k
part_of_frames config ident to proto from guest body frame rest k = by (fits_datagram body) refl
  where
    whole : List (List ℕ)
    whole = datagram_frames config.mtu to (our_mac config.vhost) ident proto from guest body

    by : (b : Bool) → fits_datagram body ≡ b → drop k (if b then datagram_frames config.mtu to (our_mac config.vhost) ident proto from guest body else []) ≡ frame ∷ rest →
        IsPart config ident to proto from guest body frame k
    by true fits is =
        let c = nth_cut config.mtu (uncut body) (part_frame to (our_mac config.vhost) ident proto from guest) 0 (cut_count config.mtu (length body)) k frame rest is in
        let same : 0 + k ≡ k = omega arith in
        record {
          short = grind (arith, nat_tests, fits);
          below = c.below;
          is = c.is ∙ ap (λ n. part_frame to (our_mac config.vhost) ident proto from guest (cut_at config.mtu (uncut body) n)) same;
        }
    by false fits is = let never : [] ≡ frame ∷ rest = sym (drop_none k) ∙ is in cc

-- ARP has one frame
pub arp_frame : (config : Config) (ident : ℕ) (to : List ℕ) (arp : Arp) (frame : List ℕ) (rest : List (List ℕ)) (k : ℕ) → drop k (frames_for config ident (ArpAnswer to arp)) ≡ frame ∷ rest
    → (rest ≡ []) × (frame ≡ ether_octets to arp.sender_mac arp_kind (arp_octets arp))
arp_frame config ident to arp frame rest zero is = (cc, cc)
arp_frame config ident to arp frame rest (suc zero) is = absurd cc
arp_frame config ident to arp frame rest (suc (suc k)) is = absurd cc

-- ---- datagrams that begin

pub fragment_fits : (place : ℕ) (more : Bool) → place < 2 ^ 13 → fragment_of more place < 2 ^ 16
fragment_fits place true fits = omega arith
fragment_fits place false fits = omega arith

pub place_kept : (place : ℕ) (more : Bool) → place < 2 ^ 13 → fragment_of more place % 2 ^ 13 ≡ place
place_kept place true fits = omega arith
place_kept place false fits = omega arith

all_three : (a b c d : Bool) → a ≡ true → b ≡ true → c ≡ d → (a && b && c) ≡ d
all_three true true c d p q is = is
all_three true false c d p q is = cc
all_three false b c d p q is = cc

-- the first part of a datagram begins it, and no other does
pub part_begins : (to from : List ℕ) (ident proto source guest : ℕ) (p : Part) → length to ≡ 6 → length from ≡ 6 → p.place < 2 ^ 13 → begins_datagram
    (part_frame to from ident proto source guest p) ≡ (p.place == 0)
part_begins to from ident proto source guest p to_six from_six fits =
    let t = six to to_six in let f = six from from_six in
    let P : List ℕ → List ℕ → Type 0 = λ x y. begins_datagram (part_frame x y ident proto source guest p) ≡ (p.place == 0) in
    subst (λ x. P x from) (sym t.is) (subst (λ y. P (t.a ∷ t.b ∷ t.c ∷ t.d ∷ t.e ∷ t.f ∷ []) y) (sym f.is) (core t.a t.b t.c t.d t.e t.f f.a f.b f.c f.d f.e f.f))
  where
    core : (a b c d e f g h i j k l : ℕ) → begins_datagram (part_frame (a ∷ b ∷ c ∷ d ∷ e ∷ f ∷ []) (g ∷ h ∷ i ∷ j ∷ k ∷ l ∷ []) ident proto source guest p) ≡ (p.place == 0)
    core a b c d e f g h i j k l =
        let frame = part_frame (a ∷ b ∷ c ∷ d ∷ e ∷ f ∷ []) (g ∷ h ∷ i ∷ j ∷ k ∷ l ∷ []) ident proto source guest p in
        let long : nat_le 22 (length frame) ≡ true = grind (arith, nat_tests) in
        let fragment : two_at frame 20 ≡ fragment_of p.more p.place = from_be_bytes-to_be_bytes_2 (fragment_of p.more p.place) (fragment_fits p.place p.more fits) in
        all_three (nat_le 22 (length frame)) (two_at frame 12 == ipv4_kind) (two_at frame 20 % 2 ^ 13 == 0) (p.place == 0) long refl
        (ap (λ n. n % 2 ^ 13 == 0) fragment ∙ ap (λ n. n == 0) (place_kept p.place p.more fits))

-- the k-th part of a datagram stands at its front where it is the first
pub place_fits : (mtu size k : ℕ) → 28 ≤ mtu → size ≤ 65515 → k < cut_count mtu size → k * units_in mtu < 2 ^ 13
place_fits mtu size k fits short below = let p = place_below mtu size k fits short below in omega (arith, p)

pub our_six : (a : ℕ) → length (our_mac a) ≡ 6
our_six a = refl

abbrev as_number : Bool → ℕ
as_number b = if b then 1 else 0

one_if : (b : Bool) → b ≡ true → as_number b ≡ 1
one_if true is = refl
one_if false is = cc

none_if : (b : Bool) → b ≡ false → as_number b ≡ 0
none_if true is = cc
none_if false is = refl

pub first_counts : (config : Config) (ident : ℕ) (to : List ℕ) (proto from guest : ℕ) (body frame : List ℕ) → 28 ≤ config.mtu → length to ≡ 6 →
    IsPart config ident to proto from guest body frame 0 → datagrams_in frame ≡ 1
first_counts config ident to proto from guest body frame fits to_six p =
    let place : 0 * units_in config.mtu ≡ 0 = omega arith in
    ap datagrams_in p.is ∙ one_if (begins_datagram (part_frame to (our_mac config.vhost) ident proto from guest (cut_at config.mtu (uncut body) 0)))
    (part_begins to (our_mac config.vhost) ident proto from guest (cut_at config.mtu (uncut body) 0) to_six (our_six config.vhost)
    (place_fits config.mtu (length body) 0 fits p.short p.below) ∙ ap (λ n. n == 0) place)

pub later_counts : (config : Config) (ident : ℕ) (to : List ℕ) (proto from guest : ℕ) (body frame : List ℕ) (k : ℕ) → 28 ≤ config.mtu → length to ≡ 6 →
    IsPart config ident to proto from guest body frame (suc k) → datagrams_in frame ≡ 0
later_counts config ident to proto from guest body frame k fits to_six p =
    let some = place_some config.mtu (suc k) fits (omega arith) in
    let not_first : (suc k * units_in config.mtu == 0) ≡ false = grind (arith, nat_tests, some) in
    ap datagrams_in p.is ∙ none_if (begins_datagram (part_frame to (our_mac config.vhost) ident proto from guest (cut_at config.mtu (uncut body) (suc k))))
    (part_begins to (our_mac config.vhost) ident proto from guest (cut_at config.mtu (uncut body) (suc k)) to_six (our_six config.vhost)
    (place_fits config.mtu (length body) (suc k) fits p.short p.below) ∙ not_first)
