-- Addresses and endpoints as they are written: what their parts are, and that each has one text.
use Rattle.std.proofs.Common.{◌≡◌, ℕ, ◌+◌, ◌*◌, ◌/◌, ◌%◌, ◌^◌, ◌<◌, Bool, true, ◌&&◌, List, [], ◌∷◌, ◌++◌, decimal, refl, sym, ◌∙◌, ap, subst, arith, append_assoc}
use Rattle.std.specs.List.{list_all}
use Rattle.std.proofs.lemmas.Fmt.{decimal_injective}
use Rattle.net_octets.specs.declared.Endpoint.{Endpoint}
use Rattle.world_face.specs.Journal.{IsEndpoint}
use Rattle.address_text.specs.Texts.{address_text, endpoint_text, is_other}
use Rattle.address_text.proofs.Parting.{is_digit, fit_append, fit_weaker, parts_once, decimal_digits, digit_is_no_dot, digit_is_no_colon}

-- the parts in the order in which they are read
abbrev pub address : ℕ → List ℕ
address n = decimal (n / 2 ^ 24) ++ 46 ∷ (decimal (n / 2 ^ 16 % 2 ^ 8) ++ 46 ∷ (decimal (n / 2 ^ 8 % 2 ^ 8) ++ 46 ∷ decimal (n % 2 ^ 8)))

form : (first second third fourth : List ℕ) → (((((first ++ 46 ∷ []) ++ second) ++ 46 ∷ []) ++ third) ++ 46 ∷ []) ++ fourth ≡ first ++ 46 ∷ (second ++ 46 ∷ (third ++ 46 ∷ fourth))
form first second third fourth = simp append_assoc

pub address_form : (n : ℕ) → address_text n ≡ address n
unfolding address_text
address_form n = form (decimal (n / 2 ^ 24)) (decimal (n / 2 ^ 16 % 2 ^ 8)) (decimal (n / 2 ^ 8 % 2 ^ 8)) (decimal (n % 2 ^ 8))

pub endpoint_form : (e : Endpoint) → endpoint_text e ≡ address e.addr.0 ++ 58 ∷ decimal e.port
unfolding endpoint_text
endpoint_form e = append_assoc (address_text e.addr.0) (58 ∷ []) (decimal e.port) ∙ ap (λ t. t ++ 58 ∷ decimal e.port) (address_form e.addr.0)

-- four parts of a kind in which dots stand
pub address_fits : (p : ℕ → Bool) → ((c : ℕ) → is_digit c ≡ true → p c ≡ true) → p 46 ≡ true → (n : ℕ) → n < 2 ^ 32 → list_all p (address n) ≡ true
address_fits p digits dot n small =
    let d = λ (k : ℕ) (h : k < 2 ^ 64). fit_weaker is_digit p digits (decimal k) (decimal_digits k h) in
    let dotted = λ (a b : List ℕ) (ha : list_all p a ≡ true) (hb : list_all p b ≡ true). fit_append p a (46 ∷ b) ha (subst (λ (x : Bool). x && list_all p b ≡ true) (sym dot) hb) in
    dotted (decimal (n / 2 ^ 24)) _ (d (n / 2 ^ 24) (omega arith))
    (dotted (decimal (n / 2 ^ 16 % 2 ^ 8)) _ (d (n / 2 ^ 16 % 2 ^ 8) (omega arith))
    (dotted (decimal (n / 2 ^ 8 % 2 ^ 8)) (decimal (n % 2 ^ 8)) (d (n / 2 ^ 8 % 2 ^ 8) (omega arith)) (d (n % 2 ^ 8) (omega arith))))

-- four parts that were read
pub address_parts : (text one after_one two after_two three four : List ℕ) (a b c d : ℕ) → text ≡ one ++ 46 ∷ after_one → after_one ≡ two ++ 46 ∷ after_two → after_two ≡ three
    ++ 46 ∷ four → one ≡ decimal a → two ≡ decimal b → three ≡ decimal c → four ≡ decimal d → a < 256 → b < 256 → c < 256 → d < 256 → text ≡ address_text (a * 16777216 + b * 65536 + (c * 256 + d))
address_parts text one after_one two after_two three four a b c d s1 s2 s3 e1 e2 e3 e4 ha hb hc hd =
    let n = a * 16777216 + b * 65536 + (c * 256 + d) in
    let ea : n / 2 ^ 24 ≡ a = omega arith in
    let eb : n / 2 ^ 16 % 2 ^ 8 ≡ b = omega arith in
    let ec : n / 2 ^ 8 % 2 ^ 8 ≡ c = omega arith in
    let ed : n % 2 ^ 8 ≡ d = omega arith in
    let encoded : text ≡ decimal a ++ 46 ∷ (decimal b ++ 46 ∷ (decimal c ++ 46 ∷ decimal d)) = cc in
    let same : address n ≡ decimal a ++ 46 ∷ (decimal b ++ 46 ∷ (decimal c ++ 46 ∷ decimal d)) = rw (ea, eb, ec, ed) refl in
    encoded ∙ sym same ∙ sym (address_form n)

-- an address and a port that were read
abbrev pub made_of : ℕ → ℕ → Endpoint
made_of n port = record { addr = record { 0 = n }; port = port }

pub endpoint_made : (text first last : List ℕ) (n port : ℕ) → text ≡ first ++ 58 ∷ last → first ≡ address_text n → last ≡ decimal port → text ≡ endpoint_text (made_of n port)
unfolding endpoint_text
endpoint_made text first last n port split one other =
    split ∙ ap (λ t. t ++ 58 ∷ last) one ∙ ap (λ t. address_text n ++ 58 ∷ t) other ∙ sym (append_assoc (address_text n) (58 ∷ []) (decimal port))

-- what the parts of an address's text are
no_dot : (k : ℕ) → k < 2 ^ 64 → list_all (is_other 46) (decimal k) ≡ true
no_dot k small = fit_weaker is_digit (is_other 46) digit_is_no_dot (decimal k) (decimal_digits k small)

dotted : (text one after tail : List ℕ) (k : ℕ) → k < 2 ^ 64 → text ≡ one ++ 46 ∷ after → list_all (is_other 46) one ≡ true → text ≡ decimal k ++ 46 ∷ tail → (one ≡ decimal k) × (after ≡ tail)
dotted text one after tail k small split lacks is = parts_once 46 (is_other 46) refl one (decimal k) after tail lacks (no_dot k small) (sym split ∙ is)

pub after_first : (text one after : List ℕ) (n : ℕ) → n < 2 ^ 32 → text ≡ one ++ 46 ∷ after → list_all (is_other 46) one ≡ true → text ≡ address_text n →
    (one ≡ decimal (n / 2 ^ 24)) × (after ≡ decimal (n / 2 ^ 16 % 2 ^ 8) ++ 46 ∷ (decimal (n / 2 ^ 8 % 2 ^ 8) ++ 46 ∷ decimal (n % 2 ^ 8)))
after_first text one after n small split lacks is = dotted text one after _ (n / 2 ^ 24) (omega arith) split lacks (is ∙ address_form n)

pub after_second : (text two after : List ℕ) (n : ℕ) → text ≡ two ++ 46 ∷ after → list_all (is_other 46) two ≡ true → text ≡ decimal (n / 2 ^ 16 % 2 ^ 8) ++ 46 ∷
    (decimal (n / 2 ^ 8 % 2 ^ 8) ++ 46 ∷ decimal (n % 2 ^ 8)) → (two ≡ decimal (n / 2 ^ 16 % 2 ^ 8)) × (after ≡ decimal (n / 2 ^ 8 % 2 ^ 8) ++ 46 ∷ decimal (n % 2 ^ 8))
after_second text two after n split lacks is = dotted text two after _ (n / 2 ^ 16 % 2 ^ 8) (omega arith) split lacks is

pub after_third : (text three four : List ℕ) (n : ℕ) → text ≡ three ++ 46 ∷ four → list_all (is_other 46) three ≡ true → text ≡ decimal (n / 2 ^ 8 % 2 ^ 8) ++ 46 ∷ decimal
    (n % 2 ^ 8) → (three ≡ decimal (n / 2 ^ 8 % 2 ^ 8)) × (four ≡ decimal (n % 2 ^ 8))
after_third text three four n split lacks is = dotted text three four _ (n / 2 ^ 8 % 2 ^ 8) (omega arith) split lacks is

pub first_under : (n : ℕ) → n < 2 ^ 32 → n / 2 ^ 24 < 256
first_under n small = omega arith

pub part_under : (n : ℕ) → n % 2 ^ 8 < 256
part_under n = omega arith

-- what the parts of an endpoint's text are
pub endpoint_parts : (text first last : List ℕ) → text ≡ first ++ 58 ∷ last → list_all (is_other 58) first ≡ true → (at : Endpoint) → IsEndpoint at → text ≡ endpoint_text at →
    (first ≡ address_text at.addr.0) × (last ≡ decimal at.port)
endpoint_parts text first last split lacks at h is =
    let p = parts_once 58 (is_other 58) refl first (address at.addr.0) last (decimal at.port) lacks (address_fits (is_other 58) digit_is_no_colon refl at.addr.0 h.0)
    (sym split ∙ is ∙ endpoint_form at) in
    (p.0 ∙ sym (address_form at.addr.0), p.1)

-- each has one text
rebuilt : (n m : ℕ) → n / 2 ^ 24 ≡ m / 2 ^ 24 → n / 2 ^ 16 % 2 ^ 8 ≡ m / 2 ^ 16 % 2 ^ 8 → n / 2 ^ 8 % 2 ^ 8 ≡ m / 2 ^ 8 % 2 ^ 8 → n % 2 ^ 8 ≡ m % 2 ^ 8 → n ≡ m
rebuilt n m ea eb ec ed = omega arith

pub same_address : (n m : ℕ) → n < 2 ^ 32 → m < 2 ^ 32 → address_text n ≡ address_text m → n ≡ m
same_address n m hn hm is =
    let parts : address n ≡ address m = sym (address_form n) ∙ is ∙ address_form m in
    let a = parts_once 46 (is_other 46) refl (decimal (n / 2 ^ 24)) (decimal (m / 2 ^ 24)) _ _ (no_dot (n / 2 ^ 24) (omega arith)) (no_dot (m / 2 ^ 24) (omega arith)) parts in
    let b = parts_once 46 (is_other 46) refl (decimal (n / 2 ^ 16 % 2 ^ 8)) (decimal (m / 2 ^ 16 % 2 ^ 8)) _ _ (no_dot (n / 2 ^ 16 % 2 ^ 8) (omega arith))
    (no_dot (m / 2 ^ 16 % 2 ^ 8) (omega arith)) a.1 in
    let c = parts_once 46 (is_other 46) refl (decimal (n / 2 ^ 8 % 2 ^ 8)) (decimal (m / 2 ^ 8 % 2 ^ 8)) _ _ (no_dot (n / 2 ^ 8 % 2 ^ 8) (omega arith))
    (no_dot (m / 2 ^ 8 % 2 ^ 8) (omega arith)) b.1 in
    let ea : n / 2 ^ 24 ≡ m / 2 ^ 24 = decimal_injective (n / 2 ^ 24) (m / 2 ^ 24) (omega arith) (omega arith) a.0 in
    let eb : n / 2 ^ 16 % 2 ^ 8 ≡ m / 2 ^ 16 % 2 ^ 8 = decimal_injective (n / 2 ^ 16 % 2 ^ 8) (m / 2 ^ 16 % 2 ^ 8) (omega arith) (omega arith) b.0 in
    let ec : n / 2 ^ 8 % 2 ^ 8 ≡ m / 2 ^ 8 % 2 ^ 8 = decimal_injective (n / 2 ^ 8 % 2 ^ 8) (m / 2 ^ 8 % 2 ^ 8) (omega arith) (omega arith) c.0 in
    let ed : n % 2 ^ 8 ≡ m % 2 ^ 8 = decimal_injective (n % 2 ^ 8) (m % 2 ^ 8) (omega arith) (omega arith) c.1 in
    rebuilt n m ea eb ec ed

pub same_endpoint : (e f : Endpoint) → IsEndpoint e → IsEndpoint f → endpoint_text e ≡ endpoint_text f → e ≡ f
same_endpoint e f he hf is =
    let parted = parts_once 58 (is_other 58) refl (address e.addr.0) (address f.addr.0) (decimal e.port) (decimal f.port)
    (address_fits (is_other 58) digit_is_no_colon refl e.addr.0 he.0) (address_fits (is_other 58) digit_is_no_colon refl f.addr.0 hf.0) (sym (endpoint_form e) ∙ is ∙ endpoint_form f) in
    let address_is = same_address e.addr.0 f.addr.0 he.0 hf.0 (address_form e.addr.0 ∙ parted.0 ∙ sym (address_form f.addr.0)) in
    let port_is = decimal_injective e.port f.port (omega (arith, he.1)) (omega (arith, hf.1)) parted.1 in
    ap (λ n. made_of n e.port) address_is ∙ ap (λ p. made_of f.addr.0 p) port_is
