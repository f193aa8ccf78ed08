-- The grammar of datagrams and the reading function say the same.
use Rattle.std.proofs.Common.{◌≡◌, ℕ, ◌+◌, ◌-◌, ◌*◌, ◌/◌, ◌%◌, ◌^◌, ◌<◌, ◌≤◌, ◌==◌, cond, Bool, true, false, List, [], ◌∷◌, ◌++◌, length, take, drop, Some, refl, sym, ◌∙◌, ap, subst}
use Rattle.std.proofs.Common.{arith, append_assoc, length-append}
use Rattle.std.proofs.lemmas.Bool.Decides.{nat_tests}
use Rattle.std.proofs.lemmas.Nat.{from_be_bytes-to_be_bytes_2, from_be_bytes-to_be_bytes_4}
use Rattle.std.proofs.lemmas.List.{take_at, drop_at, get_or-take, length-take-le, take-append-drop}
use Rattle.std.proofs.lemmas.Option.{cond_some}
use Rattle.std.specs.Int.{w16, w32, from_be_bytes}
use Rattle.net_octets.specs.Octets.{IsOctets, one_at, two_at, four_at, two, four, part, word_sum, sum_ok}
use Rattle.net_octets.proofs.Parts.{parted, part_two, part-take, length-part, two-two_at, four-four_at, two_at-fits, four_at-fits, IsOctets-take}
use Rattle.ipv4_head.specs.Ip.{Ip, IsIp, is_ip, read_ip, head_length, fragment_of}
use Rattle.ipv4_head.proofs.Passing.{Tests, tests, read_by}

-- the two parts of the number of a fragment
pub more_of : (flags place : ℕ) (more : Bool) → place < 2 ^ 13 → ((2 ^ 14 * flags + fragment_of more place) / 2 ^ 13 % 2 == 1) ≡ more
more_of flags place true fits =
    let is : (16384 * flags + (8192 + place)) / 8192 % 2 ≡ 1 = omega arith in
    ap (λ n. n == 1) is
more_of flags place false fits =
    let is : (16384 * flags + (0 + place)) / 8192 % 2 ≡ 0 = omega arith in
    ap (λ n. n == 1) is

pub place_of : (flags place : ℕ) (more : Bool) → place < 2 ^ 13 → (2 ^ 14 * flags + fragment_of more place) % 2 ^ 13 ≡ place
place_of flags place true fits = omega arith
place_of flags place false fits = omega arith

-- the number, put together again
bit : (n : ℕ) → n < 2 → cond (n == 1) 1 0 ≡ n
bit n fits = grind (arith, nat_tests)

pub fragment_whole : (n : ℕ) → 2 ^ 14 * (n / 2 ^ 14) + fragment_of (n / 2 ^ 13 % 2 == 1) (n % 2 ^ 13) ≡ n
fragment_whole n =
    let small : n / 2 ^ 13 % 2 < 2 = omega arith in
    ap (λ (b : ℕ). 2 ^ 14 * (n / 2 ^ 14) + (2 ^ 13 * b + n % 2 ^ 13)) (bit (n / 2 ^ 13 % 2) small) ∙ omega arith

fragment_fits : (flags place : ℕ) (more : Bool) → flags < 4 → place < 2 ^ 13 → 2 ^ 14 * flags + fragment_of more place < 2 ^ 16
fragment_fits flags place true f p = omega arith
fragment_fits flags place false f p = omega arith

-- what is encoded so is read
pub reads : (octets : List ℕ) (ip : Ip) → IsIp octets ip → read_ip octets ≡ Some ip
reads octets ip g =
    let words = g.words in
    let five : 5 ≤ words = g.words_fit.0 in
    let sixteen : words < 16 = g.words_fit.1 in
    let size = length ip.head + length ip.body in
    let fragment = 2 ^ 14 * g.flags + fragment_of ip.more ip.place in
    let is : octets ≡ (64 + words) ∷ g.service ∷ two size ++ two ip.ident ++ two fragment ++ g.life ∷ ip.proto ∷ two g.sum ++ four ip.from ++ four ip.to ++ (g.options ++ ip.body ++ g.rest) =
    g.is ∙ ap (λ (h : List ℕ). h ++ ip.body ++ g.rest) g.head_is in
    let behind : octets ≡ ip.head ++ (ip.body ++ g.rest) = g.is ∙ append_assoc ip.head ip.body g.rest in
    let long : length octets ≡ length ip.head + (length ip.body + length g.rest) = ap length behind ∙ length-append ip.head (ip.body ++ g.rest) ∙ ap (λ n. length ip.head + n)
    (length-append ip.body g.rest) in
    let first : one_at octets 0 ≡ 64 + words = ap (λ (o : List ℕ). one_at o 0) is in
    let total : two_at octets 2 ≡ size = ap (λ (o : List ℕ). two_at o 2) is ∙ from_be_bytes-to_be_bytes_2 size g.size in
    let ident : two_at octets 4 ≡ ip.ident = ap (λ (o : List ℕ). two_at o 4) is ∙ from_be_bytes-to_be_bytes_2 ip.ident g.ident in
    let fragment_is : two_at octets 6 ≡ fragment = ap (λ (o : List ℕ). two_at o 6) is ∙ from_be_bytes-to_be_bytes_2 fragment (fragment_fits g.flags ip.place ip.more g.flags_fit g.place) in
    let proto : one_at octets 9 ≡ ip.proto = ap (λ (o : List ℕ). one_at o 9) is in
    let from : four_at octets 12 ≡ ip.from = ap (λ (o : List ℕ). four_at o 12) is ∙ from_be_bytes-to_be_bytes_4 ip.from g.from in
    let to : four_at octets 16 ≡ ip.to = ap (λ (o : List ℕ). four_at o 16) is ∙ from_be_bytes-to_be_bytes_4 ip.to g.to in
    let low : (64 + words) % 16 ≡ words = omega arith in
    let high : (64 + words) / 16 ≡ 4 = omega arith in
    let words_size : length ip.head ≡ 4 * words = g.head_size in
    let head_is : head_length octets ≡ length ip.head = ap (λ n. 4 * (n % 16)) first ∙ ap (λ n. 4 * n) low ∙ sym words_size in
    let head : take (head_length octets) octets ≡ ip.head = ap (λ n. take n octets) head_is ∙ ap (take (length ip.head)) behind ∙ take_at ip.head (ip.body ++ g.rest) (length ip.head) refl in
    let rest : drop (head_length octets) octets ≡ ip.body ++ g.rest = ap (λ n. drop n octets) head_is ∙ ap (drop (length ip.head)) behind ∙ drop_at ip.head (ip.body ++ g.rest) (length ip.head) refl in
    let body_size : two_at octets 2 - head_length octets ≡ length ip.body = ap (λ n. n - head_length octets) total ∙ ap (λ n. size - n) head_is ∙ omega arith in
    let body : part octets (head_length octets) (two_at octets 2 - head_length octets) ≡ ip.body = ap (take (two_at octets 2 - head_length octets)) rest ∙ ap
    (λ n. take n (ip.body ++ g.rest)) body_size ∙ take_at ip.body g.rest (length ip.body) refl in
    let t : Tests octets = record {
      long = omega (arith, long, words_size);
      version = ap (λ n. n / 16) first ∙ high;
      head = omega (arith, head_is, words_size);
      total = omega (arith, head_is, total);
      within = omega (arith, long, total);
      sum = ap (λ (h : List ℕ). sum_ok (word_sum h)) head ∙ g.holds;
    } in
    read_by octets t ip.ident fragment ip.proto ip.from ip.to ip.head ip.body (sym ident) (sym fragment_is) (sym proto) (sym from) (sym to) (sym head) (sym body)
    ∙ ap (λ more. Some (record ip { more = more; place = fragment % 2 ^ 13 })) (more_of g.flags ip.place ip.more g.place)
    ∙ ap (λ place. Some (record ip { place = place })) (place_of g.flags ip.place ip.more g.place)

regroup : (a b c d e f g h r : List ℕ) → a ++ (b ++ (c ++ (d ++ (e ++ (f ++ (g ++ (h ++ r))))))) ≡ (a ++ b) ++ c ++ d ++ (e ++ f) ++ g ++ h ++ r
regroup a b c d e f g h r = simp append_assoc

same_parts : (a b c d e f g h a' b' c' d' e' f' g' h' r : List ℕ) → a ≡ a' → b ≡ b' → c ≡ c' → d ≡ d' → e ≡ e' → f ≡ f' → g ≡ g' → h ≡ h'
    → (a ++ b) ++ c ++ d ++ (e ++ f) ++ g ++ h ++ r ≡ (a' ++ b') ++ c' ++ d' ++ (e' ++ f') ++ g' ++ h' ++ r
same_parts a b c d e f g h a' b' c' d' e' f' g' h' r p q s t u v w x = cc

-- the parts of a header, one after another
head_whole : (head : List ℕ) → IsOctets head → 20 ≤ length head
    → head ≡ one_at head 0 ∷ one_at head 1 ∷ two (two_at head 2) ++ two (two_at head 4) ++ two (two_at head 6) ++ one_at head 8 ∷ one_at head 9 ∷ two (two_at head 10) ++ four
    (four_at head 12) ++ four (four_at head 16) ++ drop 20 head
head_whole head fits long =
    let p : ℕ → ℕ → List ℕ = λ i n. part head i n in
    parted head 0 2 2 refl ∙ ap (λ (xs : List ℕ). p 0 2 ++ xs)
    (parted head 2 2 4 refl ∙ ap (λ (xs : List ℕ). p 2 2 ++ xs)
    (parted head 4 2 6 refl ∙ ap (λ (xs : List ℕ). p 4 2 ++ xs)
    (parted head 6 2 8 refl ∙ ap (λ (xs : List ℕ). p 6 2 ++ xs)
    (parted head 8 2 10 refl ∙ ap (λ (xs : List ℕ). p 8 2 ++ xs)
    (parted head 10 2 12 refl ∙ ap (λ (xs : List ℕ). p 10 2 ++ xs)
    (parted head 12 4 16 refl ∙ ap (λ (xs : List ℕ). p 12 4 ++ xs) (parted head 16 4 20 refl)))))))
    ∙ regroup (p 0 2) (p 2 2) (p 4 2) (p 6 2) (p 8 2) (p 10 2) (p 12 4) (p 16 4) (drop 20 head)
    ∙ same_parts (p 0 2) (p 2 2) (p 4 2) (p 6 2) (p 8 2) (p 10 2) (p 12 4) (p 16 4)
    (one_at head 0 ∷ one_at head 1 ∷ []) (two (two_at head 2)) (two (two_at head 4)) (two (two_at head 6)) (one_at head 8 ∷ one_at head 9 ∷ []) (two (two_at head 10))
    (four (four_at head 12)) (four (four_at head 16)) (drop 20 head)
    (part_two head 0 (omega arith)) (sym (two-two_at head 2 fits (omega arith))) (sym (two-two_at head 4 fits (omega arith))) (sym (two-two_at head 6 fits (omega arith)))
    (part_two head 8 (omega arith)) (sym (two-two_at head 10 fits (omega arith))) (sym (four-four_at head 12 fits (omega arith))) (sym (four-four_at head 16 fits (omega arith)))

-- numbers in a front
one-take : (octets : List ℕ) (i k : ℕ) → i + 1 ≤ k → one_at (take k octets) i ≡ one_at octets i
one-take octets i k le = get_or-take k octets i 0 (omega arith)

two-take : (octets : List ℕ) (i k : ℕ) → i + 2 ≤ k → two_at (take k octets) i ≡ two_at octets i
two-take octets i k le = ap (λ (xs : List ℕ). from_be_bytes w16 xs) (part-take octets i 2 k le)

four-take : (octets : List ℕ) (i k : ℕ) → i + 4 ≤ k → four_at (take k octets) i ≡ four_at octets i
four-take octets i k le = ap (λ (xs : List ℕ). from_be_bytes w32 xs) (part-take octets i 4 k le)

abbrev head_of : (a b c d e f g h i j : ℕ) → List ℕ → List ℕ
head_of a b c d e f g h i j rest = a ∷ b ∷ two c ++ two d ++ two e ++ f ∷ g ∷ two h ++ four i ++ four j ++ rest

same_head : (a b c d e f g h i j a' b' c' d' e' f' g' h' i' j' : ℕ) (rest : List ℕ) → a ≡ a' → b ≡ b' → c ≡ c' → d ≡ d' → e ≡ e' → f ≡ f' → g ≡ g' → h ≡ h' → i ≡ i' → j ≡ j'
    → head_of a b c d e f g h i j rest ≡ head_of a' b' c' d' e' f' g' h' i' j' rest
same_head a b c d e f g h i j a' b' c' d' e' f' g' h' i' j' rest p q s t u v w x y z = cc

-- what is read is encoded so
pub encoding_of : (octets : List ℕ) (ip : Ip) → IsOctets octets → read_ip octets ≡ Some ip → (g : IsIp octets ip) × (g.life ≡ one_at octets 8)
encoding_of octets ip fits is =
    let size = head_length octets in
    let total = two_at octets 2 in
    let fragment = two_at octets 6 in
    let head = take size octets in
    let body = part octets size (total - size) in
    let found = cond_some (is_ip octets) (record {
      ident = two_at octets 4;
      more = (two_at octets 6 / 2 ^ 13) % 2 == 1;
      place = two_at octets 6 % 2 ^ 13;
      proto = one_at octets 9;
      from = four_at octets 12;
      to = four_at octets 16;
      head = head;
      body = body;
    }) ip is in
    let t = tests octets found.0 in
    let long : 20 ≤ size = t.head in
    let within : size ≤ total = t.total in
    let within' : total ≤ length octets = t.within in
    let version : one_at octets 0 / 16 ≡ 4 = t.version in
    let head_size : length head ≡ size = length-take-le size octets (omega arith) in
    let body_size : length body ≡ total - size = length-part octets size (total - size) (omega arith) in
    let both : length head + length body ≡ total = omega (arith, head_size, body_size) in
    let total_fits : total < 2 ^ 16 = two_at-fits octets 2 fits in
    let fragment_fits' : fragment < 2 ^ 16 = two_at-fits octets 6 fits in
    let first : one_at octets 0 ≡ 64 + one_at octets 0 % 16 = omega arith in
    let head_is : head ≡ head_of (64 + one_at octets 0 % 16) (one_at octets 1) (length head + length body) (two_at octets 4)
    (2 ^ 14 * (fragment / 2 ^ 14) + fragment_of (fragment / 2 ^ 13 % 2 == 1) (fragment % 2 ^ 13)) (one_at octets 8) (one_at octets 9) (two_at octets 10) (four_at octets 12)
    (four_at octets 16) (drop 20 head) =
    head_whole head (IsOctets-take octets size fits) (omega (arith, head_size))
    ∙ same_head (one_at head 0) (one_at head 1) (two_at head 2) (two_at head 4) (two_at head 6) (one_at head 8) (one_at head 9) (two_at head 10) (four_at head 12) (four_at head 16)
    (64 + one_at octets 0 % 16) (one_at octets 1) (length head + length body) (two_at octets 4) (2 ^ 14 * (fragment / 2 ^ 14) + fragment_of (fragment / 2 ^ 13 % 2 == 1)
    (fragment % 2 ^ 13)) (one_at octets 8) (one_at octets 9) (two_at octets 10) (four_at octets 12) (four_at octets 16) (drop 20 head)
    (one-take octets 0 size (omega arith) ∙ first) (one-take octets 1 size (omega arith)) (two-take octets 2 size (omega arith) ∙ sym both) (two-take octets 4 size (omega arith))
    (two-take octets 6 size (omega arith) ∙ sym (fragment_whole fragment))
    (one-take octets 8 size (omega arith)) (one-take octets 9 size (omega arith)) (two-take octets 10 size (omega arith)) (four-take octets 12 size (omega arith))
    (four-take octets 16 size (omega arith)) in
    let g : IsIp octets (record {
      ident = two_at octets 4;
      more = (two_at octets 6 / 2 ^ 13) % 2 == 1;
      place = two_at octets 6 % 2 ^ 13;
      proto = one_at octets 9;
      from = four_at octets 12;
      to = four_at octets 16;
      head = head;
      body = body;
    }) = record {
      words = one_at octets 0 % 16;
      words_fit = (omega arith, omega arith);
      service = one_at octets 1;
      flags = fragment / 2 ^ 14;
      flags_fit = omega arith;
      life = one_at octets 8;
      sum = two_at octets 10;
      sum_fits = two_at-fits octets 10 fits;
      options = drop 20 head;
      ident = two_at-fits octets 4 fits;
      place = omega arith;
      from = four_at-fits octets 12 fits;
      to = four_at-fits octets 16 fits;
      size = omega arith;
      head_size = head_size;
      head_is = head_is;
      holds = t.sum;
      rest = drop total octets;
      is = sym (take-append-drop size octets) ∙ ap (λ (xs : List ℕ). head ++ xs) (parted octets size (total - size) total (omega arith)) ∙ sym (append_assoc head body (drop total octets));
    } in
    subst (λ (i : Ip). (g : IsIp octets i) × (g.life ≡ one_at octets 8)) found.1 (g, refl)

-- the time to live is the ninth octet
pub life_is : (octets : List ℕ) (ip : Ip) (g : IsIp octets ip) → g.life ≡ one_at octets 8
life_is octets ip g = sym (ap (λ (o : List ℕ). one_at o 8) (g.is ∙ ap (λ (h : List ℕ). h ++ ip.body ++ g.rest) g.head_is))
