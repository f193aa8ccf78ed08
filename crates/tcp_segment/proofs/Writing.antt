-- What is written is in the grammar.
use Rattle.std.proofs.Common.{◌≡◌, ℕ, ◌+◌, ◌*◌, ◌/◌, ◌^◌, ◌<◌, ◌≤◌, List, [], ◌∷◌, ◌++◌, length, take, Option, Some, None, IfSome, refl, sym, ◌∙◌, ap, subst, arith, length-append}
use Rattle.std.proofs.lemmas.List.{take_at}
use Rattle.std.proofs.lemmas.Nat.{from_be_bytes-to_be_bytes_2}
use Rattle.net_octets.specs.Octets.{two, word_sum, checksum, sum_ok, before_sum}
use Rattle.net_octets.specs.Kinds.{tcp_proto}
use Rattle.net_octets.proofs.Sums.{sum_holds}
use Rattle.tlv_table.specs.Reading.{Found}
use Rattle.tlv_table.specs.Grammar.{IsListOf}
use Rattle.tcp_segment.specs.Tcp.{Tcp, Fits, IsTcp, tcp_form, tcp_rows, mss_in, scale_in, segment_with, summed, mss_octets, scale_octets, options_octets, words_of, tcp_length, tcp_with, tcp_octets}
use Rattle.tcp_segment.proofs.Sizes.{no_options, mss_alone, scale_alone, mss_and_scale}
use Rattle.tcp_segment.proofs.Encoding.{length-segment}

-- the sum of a segment counts the sum that stands in it
word_sum-segment : (words reserved sum urgent : ℕ) (options : List ℕ) (tcp : Tcp) → sum < 2 ^ 16
    → word_sum (segment_with words reserved sum urgent options tcp) ≡ word_sum (segment_with words reserved 0 urgent options tcp) + sum
word_sum-segment words reserved sum urgent options tcp fits = omega arith

summed-segment : (from to words sum : ℕ) (options : List ℕ) (tcp : Tcp) → sum < 2 ^ 16
    → summed from to (segment_with words 0 sum 0 options tcp) ≡ summed from to (segment_with words 0 0 0 options tcp) + sum
summed-segment from to words sum options tcp fits =
    ap (λ n. before_sum from to tcp_proto n + word_sum (segment_with words 0 sum 0 options tcp)) (length-segment words 0 sum 0 options tcp ∙ sym (length-segment words 0 0 0 options tcp))
    ∙ omega (arith, word_sum-segment words 0 sum 0 options tcp fits)

written_with : (from to words : ℕ) (options : List ℕ) (found : List Found) (tcp : Tcp) → Fits tcp → (5 ≤ words) × (words < 16) → 20 + length options ≡ 4 * words →
    IsListOf tcp_form tcp_rows options found → tcp.mss ≡ mss_in found → tcp.scale ≡ scale_in found
    → IsTcp from to (segment_with words 0 (checksum (summed from to (segment_with words 0 0 0 options tcp))) 0 options tcp) tcp
written_with from to words options found tcp fits words_fit size lists mss scale =
    let start = summed from to (segment_with words 0 0 0 options tcp) in
    let small : checksum start < 2 ^ 16 = omega arith in
    record {
      words = words;
      words_fit = words_fit;
      reserved = 0;
      reserved_fits = omega arith;
      sum = checksum start;
      sum_fits = small;
      urgent = 0;
      urgent_fits = omega arith;
      options = options;
      options_size = size;
      found = found;
      lists = lists;
      fits = fits;
      mss = mss;
      scale = scale;
      is = refl;
      holds = ap sum_ok (summed-segment from to words (checksum start) options tcp small) ∙ sum_holds start;
    }

-- a segment with these options
abbrev with_options : (from to words : ℕ) → List ℕ → Tcp → List ℕ
with_options from to words options tcp = segment_with words 0 (checksum (summed from to (segment_with words 0 0 0 options tcp))) 0 options tcp

by_options : (from to : ℕ) (tcp : Tcp) (mss scale : Option ℕ) → tcp.mss ≡ mss → tcp.scale ≡ scale → Fits tcp → IfSome mss (λ m. m < 2 ^ 16)
    → IsTcp from to (with_options from to ((20 + length (mss_octets mss) + length (scale_octets scale)) / 4) (mss_octets mss ++ scale_octets scale) tcp) tcp
by_options from to tcp None None mss_is scale_is fits small =
    written_with from to 5 [] [] tcp fits (omega arith, omega arith) refl no_options mss_is scale_is
by_options from to tcp (Some mss) None mss_is scale_is fits small =
    written_with from to 6 (2 ∷ 4 ∷ two mss) (record { code = 2; place = 0; body = two mss } ∷ []) tcp fits (omega arith, omega arith) refl (mss_alone mss)
    (mss_is ∙ ap Some (sym (from_be_bytes-to_be_bytes_2 mss small))) scale_is
by_options from to tcp None (Some shift) mss_is scale_is fits small =
    written_with from to 6 (1 ∷ 3 ∷ 3 ∷ shift ∷ []) (record { code = 3; place = 1; body = shift ∷ [] } ∷ []) tcp fits (omega arith, omega arith) refl (scale_alone shift) mss_is scale_is
by_options from to tcp (Some mss) (Some shift) mss_is scale_is fits small =
    written_with from to 7 (2 ∷ 4 ∷ two mss ++ 1 ∷ 3 ∷ 3 ∷ shift ∷ []) (record { code = 2; place = 0; body = two mss } ∷ record { code = 3; place = 5; body = shift ∷ [] }
    ∷ []) tcp fits (omega arith, omega arith) refl (mss_and_scale mss shift)
    (mss_is ∙ ap Some (sym (from_be_bytes-to_be_bytes_2 mss small))) scale_is

-- a segment that we write
pub written_is : (from to : ℕ) (tcp : Tcp) (n : ℕ) (octets rest : List ℕ) → Fits tcp → IfSome tcp.mss (λ m. m < 2 ^ 16) → octets ≡ tcp_octets from to tcp → n ≡ tcp_length tcp
    → IsTcp from to (take n (octets ++ rest)) tcp
written_is from to tcp n octets rest fits small is size =
    let long : length (tcp_octets from to tcp) ≡ tcp_length tcp =
    length-segment (words_of tcp) 0 (checksum (summed from to (tcp_with 0 tcp))) 0 (options_octets tcp) tcp
    ∙ omega (arith, length-append (mss_octets tcp.mss) (scale_octets tcp.scale)) in
    let front : take n (octets ++ rest) ≡ tcp_octets from to tcp = take_at octets rest n (ap length is ∙ long ∙ sym size) ∙ is in
    subst (λ o. IsTcp from to o tcp) (sym front) (by_options from to tcp tcp.mss tcp.scale refl refl fits small)
