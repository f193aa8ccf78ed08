-- The grammar of segments and the reading function say the same.
use Rattle.std.proofs.Common.{◌≡◌, ℕ, ◌+◌, ◌-◌, ◌*◌, ◌/◌, ◌%◌, ◌<◌, ◌≤◌, ◌||◌, not, nat_lt, Bool, true, false, cond, List, ◌∷◌, ◌++◌, length, take, drop, Option, Some, Result, Ok, Err}
use Rattle.std.proofs.Common.{MatchResult, refl, sym, ◌∙◌, ap, subst, arith, append_assoc, length-append}
use Rattle.std.specs.Result.{result_ok}
use Rattle.std.proofs.lemmas.List.{take_at, drop_at, drop-drop, drop_more}
use Rattle.std.proofs.lemmas.Bool.Decides.{nat_tests}
use Rattle.std.proofs.lemmas.Nat.{from_be_bytes-to_be_bytes_2, from_be_bytes-to_be_bytes_4}
use Rattle.net_octets.specs.declared.Fault.{Fault}
use Rattle.net_octets.specs.declared.FaultKind.TheVariants.{Short, BadLength, BadSum}
use Rattle.net_octets.specs.Octets.{IsOctets, one_at, two_at, four_at, part, two, four, sum_ok}
use Rattle.net_octets.proofs.Parts.{parted, length-part, two-two_at, four-four_at, two_at-fits, four_at-fits}
use Rattle.tlv_table.specs.declared.TlvFault.{TlvFault}
use Rattle.tlv_table.specs.Reading.{Found, reading}
use Rattle.tlv_table.proofs.Laws.{list_read, read_list}
use Rattle.tcp_segment.specs.declared.Options.{Options}
use Rattle.tcp_segment.specs.declared.TcpView.{TcpView}
use Rattle.tcp_segment.specs.Tcp.{Tcp, IsTcp, tcp_form, tcp_rows, mss_in, scale_in, options_in, segment_with, summed, head_length, head_reading, options_found, options_reading, fields_of}
use Rattle.tcp_segment.specs.Tcp.{◌>>=◌, tcp_reading, read_tcp, tcp_of}

-- a segment by the parts of its reading
read_by : (from to : ℕ) (octets : List ℕ) (head : ℕ) (said : Options) → head_reading from to octets ≡ Ok head → options_reading (part octets 20 (head - 20)) ≡ Ok said →
    tcp_reading from to octets ≡ Ok (fields_of octets head said)
read_by from to octets head said head_is said_is =
    ap (λ r. r >>= λ h. options_reading (part octets 20 (h - 20)) >>= λ m. Ok (fields_of octets h m)) head_is
    ∙ ap (λ r. r >>= λ m. Ok (fields_of octets head m)) said_is

-- the tests of a header, by its lengths and its sum
abbrev head_by : (n h : ℕ) (s : Bool) → Result ℕ Fault
head_by n h s =
    cond (nat_lt n 20) (Err (record { kind = Short; at = n })) (cond (nat_lt h 20 || nat_lt n h) (Err (record { kind = BadLength; at = 12 }))
    (cond (not s) (Err (record { kind = BadSum; at = 16 })) (Ok h)))

head_passes : (n h : ℕ) (s : Bool) → 20 ≤ h → h ≤ n → s ≡ true
    → head_by n h s ≡ Ok h
head_passes n h s enough within is =
    let long : nat_lt n 20 ≡ false = grind (arith, nat_tests) in
    let fits : (nat_lt h 20 || nat_lt n h) ≡ false = grind (arith, nat_tests) in
    rw (long, fits, is) refl

tcp_same : (a b c d e f g h i j k l : ℕ) (m n q r : Option ℕ) (o p : List ℕ) → a ≡ b → c ≡ d → e ≡ f → g ≡ h → i ≡ j → k ≡ l → m ≡ n → q ≡ r → o ≡ p
    → ◌≡◌ {A = Tcp} (record { from_port = a; to_port = c; seq = e; ack = g; flags = i; window = k; mss = m; scale = q; body = o })
    (record { from_port = b; to_port = d; seq = f; ack = h; flags = j; window = l; mss = n; scale = r; body = p })
tcp_same a b c d e f g h i j k l m n q r o p ab cd ef gh ij kl mn qr op = cc

pub length-segment : (words reserved sum urgent : ℕ) (options : List ℕ) (tcp : Tcp) → length (segment_with words reserved sum urgent options tcp) ≡ 20 + length options + length tcp.body
length-segment words reserved sum urgent options tcp = omega (arith, length-append options tcp.body)

-- what is encoded so is read
pub reads : (from to : ℕ) (octets : List ℕ) (tcp : Tcp) → IsTcp from to octets tcp → tcp_reading from to octets ≡ Ok tcp
reads from to octets tcp g =
    let written = segment_with g.words g.reserved g.sum g.urgent g.options tcp in
    let size : length written ≡ 20 + length g.options + length tcp.body = length-segment g.words g.reserved g.sum g.urgent g.options tcp in
    let head : head_length written ≡ 4 * g.words = ap (λ n. 4 * n) (quotient g.words g.reserved g.reserved_fits) in
    let holds : sum_ok (summed from to written) ≡ true = sym (ap (λ o. sum_ok (summed from to o)) g.is) ∙ g.holds in
    let passes : head_reading from to written ≡ Ok (4 * g.words) = head_passes (length written) (head_length written) (sum_ok (summed from to written)) (omega (arith, head))
    (omega (arith, head, size)) holds ∙ ap Ok head in
    let options_are : part written 20 (4 * g.words - 20) ≡ g.options = take_at g.options tcp.body (4 * g.words - 20) (omega arith) in
    let said_is : options_reading (part written 20 (4 * g.words - 20)) ≡ Ok (options_in g.found) = ap options_reading options_are ∙ ap options_found
    (list_read tcp_form tcp_rows g.options g.found g.lists) in
    let body_is : drop (4 * g.words) written ≡ tcp.body =
    ap (λ n. drop n written) (sym g.options_size) ∙ sym (drop-drop (length g.options) 20 written) ∙ drop_at g.options tcp.body (length g.options) refl in
    ap (tcp_reading from to) g.is ∙ read_by from to written (4 * g.words) (options_in g.found) passes said_is
    ∙ ap Ok (tcp_same _ tcp.from_port _ tcp.to_port _ tcp.seq _ tcp.ack _ tcp.flags _ tcp.window _ tcp.mss _ tcp.scale _ tcp.body
    (from_be_bytes-to_be_bytes_2 tcp.from_port g.fits.from_port) (from_be_bytes-to_be_bytes_2 tcp.to_port g.fits.to_port)
    (from_be_bytes-to_be_bytes_4 tcp.seq g.fits.seq) (from_be_bytes-to_be_bytes_4 tcp.ack g.fits.ack) refl
    (from_be_bytes-to_be_bytes_2 tcp.window g.fits.window) (sym g.mss) (sym g.scale) body_is)
  where
    quotient : (words reserved : ℕ) → reserved < 16 → (16 * words + reserved) / 16 ≡ words
    quotient words reserved fits = omega arith

bind_ok : {A B : Type 0} (r : Result A Fault) (go_on : A → Result B Fault) (y : B) → (r >>= go_on) ≡ Ok y → (x : A) × (r ≡ Ok x) × (go_on x ≡ Ok y)
bind_ok {A = A} {B = B} (Ok x) go_on y is = (x, refl, is)
bind_ok {A = A} {B = B} (Err fault) go_on y is = absurd (apart is)
  where
    apart : ◌≡◌ {A = Result B Fault} (Err fault) (Ok y) → ⊥
    apart e = cc

-- a header without a fault
record HeadFound (n h : ℕ) (s : Bool) (head : ℕ) : Type 0 where
  enough : 20 ≤ h
  within : h ≤ n
  holds : s ≡ true
  is : h ≡ head

head_found : (n h : ℕ) (s : Bool) (head : ℕ)
    → head_by n h s ≡ Ok head
    → HeadFound n h s head
head_found n h s head is =
    let passed = by_tests (nat_lt n 20) (nat_lt h 20 || nat_lt n h) s is in
    record { enough = grind (arith, nat_tests, passed.0); within = grind (arith, nat_tests, passed.0); holds = passed.1; is = passed.2 }
  where
    by_tests : (b c s : Bool)
        → ◌≡◌ {A = Result ℕ Fault} (cond {A = Result ℕ Fault} b (Err (record { kind = Short; at = n })) (cond {A = Result ℕ Fault} c (Err (record { kind = BadLength; at = 12 }))
        (cond {A = Result ℕ Fault} (not s) (Err (record { kind = BadSum; at = 16 })) (Ok h)))) (Ok head) → (c ≡ false) × (s ≡ true) × (h ≡ head)
    by_tests true c s e = cc
    by_tests false true s e = cc
    by_tests false false false e = cc
    by_tests false false true e = (refl, refl, cc)

options_are_found : (r : Result (List Found) TlvFault) (said : Options) → options_found r ≡ Ok said → (found : List Found) × (r ≡ Ok found) × (said ≡ options_in found)
options_are_found (Ok found) said is = (found, refl, same (options_in found) said is)
  where
    same : (x y : Options) → ◌≡◌ {A = Result Options Fault} (Ok x) (Ok y) → y ≡ x
    same x y e = cc
options_are_found (Err fault) said is = absurd (apart is)
  where
    apart : ◌≡◌ {A = Result Options Fault} (Err (record { kind = BadLength; at = 20 })) (Ok said) → ⊥
    apart e = cc

-- one part more
more : (octets done w : List ℕ) (i n j : ℕ) → octets ≡ done ++ drop i octets → part octets i n ≡ w → i + n ≡ j → octets ≡ (done ++ w) ++ drop j octets
more octets done w i n j is part_is at =
    is ∙ ap (λ (l : List ℕ). done ++ l) (parted octets i n j at ∙ ap (λ (l : List ℕ). l ++ drop j octets) part_is) ∙ sym (append_assoc done w (drop j octets))

-- the octet of the words, the flags and the window
middle : (octets : List ℕ) → IsOctets octets → 20 ≤ length octets → part octets 12 4 ≡ (16 * (one_at octets 12 / 16) + one_at octets 12 % 16) ∷ one_at octets 13 ∷ two (two_at octets 14)
middle octets fits long =
    ap (take 4) (drop_more octets 12 0 (omega arith)) ∙ ap (λ (l : List ℕ). one_at octets 12 ∷ take 3 l) (drop_more octets 13 0 (omega arith))
    ∙ ap (λ (l : List ℕ). one_at octets 12 ∷ one_at octets 13 ∷ l) (sym (two-two_at octets 14 fits (omega arith)))
    ∙ ap (λ (n : ℕ). n ∷ one_at octets 13 ∷ two (two_at octets 14)) (halves (one_at octets 12))
  where
    halves : (n : ℕ) → n ≡ 16 * (n / 16) + n % 16
    halves n = omega arith

whole : (octets : List ℕ) (head : ℕ) (said : Options) → IsOctets octets → 20 ≤ length octets → 20 ≤ head
    → octets ≡ segment_with (one_at octets 12 / 16) (one_at octets 12 % 16) (two_at octets 16) (two_at octets 18) (part octets 20 (head - 20)) (fields_of octets head said)
whole octets head said fits long enough =
    let one = two (two_at octets 0) in
    let two_ = one ++ two (two_at octets 2) in
    let three = two_ ++ four (four_at octets 4) in
    let four_ = three ++ four (four_at octets 8) in
    let middle_ = (16 * (one_at octets 12 / 16) + one_at octets 12 % 16) ∷ one_at octets 13 ∷ two (two_at octets 14) in
    let five = four_ ++ middle_ in
    let six = five ++ two (two_at octets 16) in
    let seven = six ++ two (two_at octets 18) in
    let a : octets ≡ one ++ drop 2 octets = parted octets 0 2 2 refl ∙ ap (λ (l : List ℕ). l ++ drop 2 octets) (sym (two-two_at octets 0 fits (omega arith))) in
    let b : octets ≡ two_ ++ drop 4 octets = more octets one (two (two_at octets 2)) 2 2 4 a (sym (two-two_at octets 2 fits (omega arith))) refl in
    let c : octets ≡ three ++ drop 8 octets = more octets two_ (four (four_at octets 4)) 4 4 8 b (sym (four-four_at octets 4 fits (omega arith))) refl in
    let d : octets ≡ four_ ++ drop 12 octets = more octets three (four (four_at octets 8)) 8 4 12 c (sym (four-four_at octets 8 fits (omega arith))) refl in
    let e : octets ≡ five ++ drop 16 octets = more octets four_ middle_ 12 4 16 d (middle octets fits long) refl in
    let f : octets ≡ six ++ drop 18 octets = more octets five (two (two_at octets 16)) 16 2 18 e (sym (two-two_at octets 16 fits (omega arith))) refl in
    let g : octets ≡ seven ++ drop 20 octets = more octets six (two (two_at octets 18)) 18 2 20 f (sym (two-two_at octets 18 fits (omega arith))) refl in
    more octets seven (part octets 20 (head - 20)) 20 (head - 20) head g refl (omega arith)

-- what is read is encoded so
pub encoding_of : (from to : ℕ) (octets : List ℕ) (tcp : Tcp) → IsOctets octets → tcp_reading from to octets ≡ Ok tcp → IsTcp from to octets tcp
encoding_of from to octets tcp fits is =
    let head = bind_ok (head_reading from to octets) (λ h. options_reading (part octets 20 (h - 20)) >>= λ m. Ok (fields_of octets h m)) tcp is in
    let said = bind_ok (options_reading (part octets 20 (head.0 - 20))) (λ m. Ok (fields_of octets head.0 m)) tcp head.2 in
    let there = head_found (length octets) (head_length octets) (sum_ok (summed from to octets)) head.0 head.1 in
    let found = options_are_found (reading tcp_form tcp_rows (part octets 20 (head.0 - 20))) said.0 said.1 in
    subst (λ (t : Tcp). IsTcp from to octets t) (same (fields_of octets head.0 said.0) tcp said.2) (record {
      words = one_at octets 12 / 16;
      words_fit = (omega arith, omega (arith, fits 12));
      reserved = one_at octets 12 % 16;
      reserved_fits = omega arith;
      sum = two_at octets 16;
      sum_fits = two_at-fits octets 16 fits;
      urgent = two_at octets 18;
      urgent_fits = two_at-fits octets 18 fits;
      options = part octets 20 (head.0 - 20);
      options_size = omega (arith, length-part octets 20 (head.0 - 20) (omega arith));
      found = found.0;
      lists = read_list tcp_form tcp_rows (part octets 20 (head.0 - 20)) found.0 found.1;
      fits = record {
        from_port = two_at-fits octets 0 fits;
        to_port = two_at-fits octets 2 fits;
        seq = four_at-fits octets 4 fits;
        ack = four_at-fits octets 8 fits;
        window = two_at-fits octets 14 fits;
      };
      mss = ap (λ (o : Options). o.mss) found.2;
      scale = ap (λ (o : Options). o.scale) found.2;
      is = whole octets head.0 said.0 fits (omega arith) (omega arith);
      holds = there.holds;
    })
  where
    same : (x y : Tcp) → ◌≡◌ {A = Result Tcp Fault} (Ok x) (Ok y) → x ≡ y
    same x y e = cc

-- the same of an answer
pub packet_found : (from to : ℕ) (octets : List ℕ) → IsOctets octets → (r : Result TcpView Fault) → MatchResult r (λ v. tcp_reading from to octets ≡ Ok (tcp_of v))
    (λ fault. tcp_reading from to octets ≡ Err fault)
    → MatchResult r (λ v. IsTcp from to octets (tcp_of v)) (λ _. (tcp : Tcp) → IsTcp from to octets tcp → ⊥)
packet_found from to octets fits (Ok v) is = encoding_of from to octets (tcp_of v) fits is
packet_found from to octets fits (Err fault) is = λ tcp g. apart fault tcp (sym is ∙ reads from to octets tcp g)
  where
    apart : (f : Fault) (t : Tcp) → ◌≡◌ {A = Result Tcp Fault} (Err f) (Ok t) → ⊥
    apart f t e = cc

-- and of the fields alone
pub reads_fields : (from to : ℕ) (octets : List ℕ) (tcp : Tcp) → IsTcp from to octets tcp → read_tcp from to octets ≡ Some tcp
reads_fields from to octets tcp g = ap result_ok (reads from to octets tcp g)

pub encoding_of_fields : (from to : ℕ) (octets : List ℕ) (tcp : Tcp) → IsOctets octets → read_tcp from to octets ≡ Some tcp → IsTcp from to octets tcp
encoding_of_fields from to octets tcp fits is = encoding_of from to octets tcp fits (from_ok (tcp_reading from to octets) is)
  where
    from_ok : (r : Result Tcp Fault) → result_ok r ≡ Some tcp → r ≡ Ok tcp
    from_ok (Ok t) e = cc
    from_ok (Err f) e = cc
