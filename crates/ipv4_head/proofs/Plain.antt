-- Datagrams as we write them.
use Rattle.std.proofs.Common.{◌≡◌, ℕ, ◌+◌, ◌*◌, ◌^◌, ◌<◌, Bool, true, List, [], ◌∷◌, ◌++◌, length, take, refl, sym, ◌∙◌, ap, arith, length-append, append-nil, zero-add, lit<, lit≤}
use Rattle.std.proofs.lemmas.List.{take_at}
use Rattle.net_octets.specs.Octets.{two, four, word_sum, checksum, sum_ok}
use Rattle.net_octets.proofs.Sums.{sum_holds, checksum_fits}
use Rattle.ipv4_head.specs.Ip.{Ip, IsIp, IsPlain, IsDatagram, SameFields, fragment_of, head_with, summed_head, ip_with}

-- a header by all that it says
abbrev head_of : (words service size ident fragment life proto sum from to : ℕ) → List ℕ → List ℕ
head_of words service size ident fragment life proto sum from to options =
    (64 + words) ∷ service ∷ two size ++ two ident ++ two fragment ++ life ∷ proto ∷ two sum ++ four from ++ four to ++ options

-- a datagram as we write it is what is written
pub plain : (octets : List ℕ) (ip : Ip) (g : IsIp octets ip) → IsPlain octets ip g
    → octets ≡ ip_with g.life ip.ident (fragment_of ip.more ip.place) ip.proto ip.from ip.to ip.body
plain octets ip g p =
    let fragment = fragment_of ip.more ip.place in
    let size = length ip.head + length ip.body in
    let bare : ip.head ≡ head_of g.words g.service size ip.ident (2 ^ 14 * g.flags + fragment) g.life ip.proto g.sum ip.from ip.to [] =
    g.head_is ∙ ap (λ options. head_of g.words g.service size ip.ident (2 ^ 14 * g.flags + fragment) g.life ip.proto g.sum ip.from ip.to options) p.options in
    let long : length ip.head ≡ 20 = ap length bare in
    let words : g.words ≡ 5 = omega (arith, long, g.head_size) in
    let total : size ≡ 20 + length ip.body = ap (λ n. n + length ip.body) long in
    let no_flags : 2 ^ 14 * g.flags + fragment ≡ fragment = ap (λ n. 2 ^ 14 * n + fragment) p.flags ∙ zero-add fragment in
    let sum = checksum (word_sum (head_with g.life 0 ip.ident fragment ip.proto ip.from ip.to (length ip.body))) in
    let head : ip.head ≡ summed_head g.life ip.ident fragment ip.proto ip.from ip.to (length ip.body) =
    bare
    ∙ ap (λ n. head_of n g.service size ip.ident (2 ^ 14 * g.flags + fragment) g.life ip.proto g.sum ip.from ip.to []) words
    ∙ ap (λ n. head_of 5 n size ip.ident (2 ^ 14 * g.flags + fragment) g.life ip.proto g.sum ip.from ip.to []) p.service
    ∙ ap (λ n. head_of 5 0 n ip.ident (2 ^ 14 * g.flags + fragment) g.life ip.proto g.sum ip.from ip.to []) total
    ∙ ap (λ n. head_of 5 0 (20 + length ip.body) ip.ident n g.life ip.proto g.sum ip.from ip.to []) no_flags
    ∙ ap (λ n. head_of 5 0 (20 + length ip.body) ip.ident fragment g.life ip.proto n ip.from ip.to []) p.sum in
    g.is ∙ ap (λ (rest : List ℕ). ip.head ++ ip.body ++ rest) p.rest ∙ append-nil (ip.head ++ ip.body) ∙ ap (λ (h : List ℕ). h ++ ip.body) head

-- the same fields give the same octets
pub same : (first second : List ℕ) (one other : Ip) (g : IsIp first one) (h : IsIp second other) → IsPlain first one g → IsPlain second other h → SameFields one other →
    g.life ≡ h.life → first ≡ second
same first second one other g h p q s life =
    plain first one g p ∙ alike g.life one.ident one.place one.proto one.from one.to h.life other.ident other.place other.proto other.from other.to one.more other.more one.body
    other.body life s.ident s.place s.proto s.from s.to s.more s.body ∙ sym (plain second other h q)
  where
    alike : (l i k p f t l' i' k' p' f' t' : ℕ) (m m' : Bool) (b b' : List ℕ) → l ≡ l' → i ≡ i' → k ≡ k' → p ≡ p' → f ≡ f' → t ≡ t' → m ≡ m' → b ≡ b'
        → ip_with l i (fragment_of m k) p f t b ≡ ip_with l' i' (fragment_of m' k') p' f' t' b'
    alike l i k p f t l' i' k' p' f' t' m m' b b' a c d e g h n o =
        ap (λ x. ip_with x i (fragment_of m k) p f t b) a ∙ ap (λ x. ip_with l' x (fragment_of m k) p f t b) c ∙ ap (λ x. ip_with l' i' (fragment_of m x) p f t b) d
        ∙ ap (λ x. ip_with l' i' (fragment_of m k') x f t b) e ∙ ap (λ x. ip_with l' i' (fragment_of m k') p' x t b) g ∙ ap (λ x. ip_with l' i' (fragment_of m k') p' f' x b) h
        ∙ ap (λ x. ip_with l' i' (fragment_of x k') p' f' t' b) n ∙ ap (λ x. ip_with l' i' (fragment_of m' k') p' f' t' x) o

-- the sum stands in the header as itself
sum_in : (life sum ident fragment proto from to size : ℕ) → sum < 2 ^ 16 → word_sum (head_with life sum ident fragment proto from to size) ≡ word_sum
    (head_with life 0 ident fragment proto from to size) + sum
sum_in life sum ident fragment proto from to size fits = omega arith

summed_holds : (life ident fragment proto from to size : ℕ) → sum_ok (word_sum (summed_head life ident fragment proto from to size)) ≡ true
summed_holds life ident fragment proto from to size =
    let before = word_sum (head_with life 0 ident fragment proto from to size) in
    ap sum_ok (sum_in life (checksum before) ident fragment proto from to size (checksum_fits before)) ∙ sum_holds before

-- octets whose front is written so are a datagram
pub written_is : (life ident place proto from to : ℕ) (more : Bool) (body now rest : List ℕ) → ident < 2 ^ 16 → place < 2 ^ 13 → from < 2 ^ 32 → to < 2 ^ 32 → 20 + length body < 2 ^ 16
    → now ≡ ip_with life ident (fragment_of more place) proto from to body ++ rest
    → IsDatagram (take (20 + length body) now) life (record {
      ident = ident;
      more = more;
      place = place;
      proto = proto;
      from = from;
      to = to;
      head = summed_head life ident
          (fragment_of more place) proto from to (length body);
      body = body;
    })
written_is life ident place proto from to more body now rest i k f t size is =
    let before = word_sum (head_with life 0 ident (fragment_of more place) proto from to (length body)) in
    let octets = ip_with life ident (fragment_of more place) proto from to body in (
      record {
        words = 5;
        words_fit = (lit≤ tt, lit< tt);
        service = 0;
        flags = 0;
        flags_fit = lit< tt;
        life = life;
        sum = checksum before;
        sum_fits = checksum_fits before;
        options = [];
        ident = i;
        place = k;
        from = f;
        to = t;
        size = size;
        head_size = refl;
        head_is = ap (λ n. head_of 5 0 (20 + length body) ident n life proto (checksum before) from to []) (sym (zero-add (fragment_of more place)));
        holds = summed_holds life ident (fragment_of more place) proto from to (length body);
        rest = [];
        is = ap (take (20 + length body)) is ∙ take_at octets rest (20 + length body)
            (length-append (summed_head life ident (fragment_of more place) proto from to (length body)) body) ∙ sym (append-nil octets);
      },
      refl,
      record { options = refl; rest = refl; service = refl; flags = refl; sum = refl },
    )
