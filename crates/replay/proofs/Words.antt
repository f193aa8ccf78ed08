-- Of what octets the parts of a line are.
use Rattle.std.proofs.Common.{◌≡◌, inl, inr, ℕ, ◌^◌, ◌<◌, Bool, true, false, ◌&&◌, ◌||◌, List, [], ◌∷◌, ◌++◌, length, get_or, decimal, Option, Some, None, Result, codes, refl, sym, ◌∙◌}
use Rattle.std.proofs.Common.{ap, arith, append_assoc}
use Rattle.std.specs.List.{list_all}
use Rattle.std.specs.Result.{result_unwrap_or}
use Rattle.std.proofs.lemmas.List.Elements.{All-get_or, All-append, All-cons, All-nil}
use Rattle.std.proofs.lemmas.List.{get_or_past}
use Rattle.std.proofs.lemmas.Bool.Decides.{nat_tests}
use Rattle.std.proofs.lemmas.Bool.{cases_lt}
use Rattle.hex.specs.Hex.{encode_lower, lower_digits, IsBytes, decode_of}
use Rattle.hex.specs.declared.error.FromHexError.{FromHexError}
use Rattle.hex.proofs.HexLemmas.{decode_of-encode_lower, length-encode_with}
use Rattle.net_octets.specs.declared.Endpoint.{Endpoint}
use Rattle.poll_list.specs.declared.Who.{Who}
use Rattle.poll_list.specs.declared.Who.TheVariants.{Link, Listener, Udp, Tcp}
use Rattle.poll_list.specs.declared.Want.{Want}
use Rattle.poll_list.specs.Listing.{are_wants, is_who}
use Rattle.world_face.specs.Journal.{AreOctets, IsEndpoint, IsPlace, IsTimeout, Place, AtPath, AtEndpoint}
use Rattle.address_text.specs.Texts.{endpoint_text, place_text}
use Rattle.address_text.proofs.Addresses.{address, address_fits, endpoint_form}
use Rattle.address_text.proofs.Parting.{is_digit, fit_append, fit_weaker, both, pair, decimal_digits}
use Rattle.replay.specs.Text.{hexadecimal, who_text, direction_text, want_text, joined_text, wants_text, timeout_text}
use Rattle.replay.proofs.Joining.{each_text}
use Rattle.replay.proofs.Parting.{is_word, first, is_small, digit_is_word, decimal_word}

-- octets
pub bytes : (xs : List ℕ) → AreOctets xs → IsBytes xs
bytes xs h i = elim (cases_lt i (length xs)) [
  | inl lt ↦ All-get_or (λ octet. octet < 2 ^ 8) xs i 0 lt h
  | inr ge ↦ let past : get_or xs i 0 ≡ 0 = get_or_past xs i 0 ge in omega arith
]

-- endpoints
pub endpoint_word : (e : Endpoint) → IsEndpoint e → list_all is_word (endpoint_text e) ≡ true
endpoint_word e h = rw (endpoint_form e) (fit_append is_word (address e.addr.0) (58 ∷ decimal e.port) (address_fits is_word digit_is_word refl e.addr.0 h.0) (decimal_word e.port (omega (arith, h.1))))

-- wants
pub who_range : (s : ℕ) → is_who (Listener s) ≡ true → s < 2 ^ 64
who_range s h = grind (arith, nat_tests)

pub who_fits : (p : ℕ → Bool) → ((c : ℕ) → is_digit c ≡ true → p c ≡ true) → list_all p (codes "linkut") ≡ true → (who : Who) → is_who who ≡ true → list_all p (who_text who) ≡ true
who_fits p digits letters Link h =
    let l = both (p 108) _ letters in
    let i = both (p 105) _ l.1 in
    let n = both (p 110) _ i.1 in
    let k = both (p 107) _ n.1 in
    pair (p 108) _ l.0 (pair (p 105) _ i.0 (pair (p 110) _ n.0 (pair (p 107) true k.0 refl)))
who_fits p digits letters (Listener s) h = pair (p 108) (list_all p (decimal s)) (both (p 108) _ letters).0 (fit_weaker is_digit p digits (decimal s) (decimal_digits s (who_range s h)))
who_fits p digits letters (Udp s) h =
    let l = both (p 108) _ letters in
    let i = both (p 105) _ l.1 in
    let n = both (p 110) _ i.1 in
    let k = both (p 107) _ n.1 in
    pair (p 117) (list_all p (decimal s)) (both (p 117) _ k.1).0 (fit_weaker is_digit p digits (decimal s) (decimal_digits s (who_range s h)))
who_fits p digits letters (Tcp s) h =
    let l = both (p 108) _ letters in
    let i = both (p 105) _ l.1 in
    let n = both (p 110) _ i.1 in
    let k = both (p 107) _ n.1 in
    let u = both (p 117) _ k.1 in
    pair (p 116) (list_all p (decimal s)) (both (p 116) true u.1).0 (fit_weaker is_digit p digits (decimal s) (decimal_digits s (who_range s h)))

pub direction_fits : (p : ℕ → Bool) → list_all p (codes "rw") ≡ true → (a b : Bool) → list_all p (direction_text a b) ≡ true
direction_fits p letters true true = letters
direction_fits p letters true false = pair (p 114) true (both (p 114) _ letters).0 refl
direction_fits p letters false true = (both (p 114) _ letters).1
direction_fits p letters false false = refl

pub want_form : (w : Want) → want_text w ≡ who_text w.of ++ 58 ∷ direction_text w.read w.write
want_form w = append_assoc (who_text w.of) (58 ∷ []) (direction_text w.read w.write)

pub want_fits : (p : ℕ → Bool) → ((c : ℕ) → is_digit c ≡ true → p c ≡ true) → list_all p (codes "linkut") ≡ true → p 58 ≡ true → list_all p (codes "rw") ≡ true → (w : Want) →
    is_who w.of ≡ true → list_all p (want_text w) ≡ true
want_fits p digits letters colon ways w h =
    rw (want_form w) (fit_append p (who_text w.of) (58 ∷ direction_text w.read w.write) (who_fits p digits letters w.of h)
    (pair (p 58) (list_all p (direction_text w.read w.write)) colon (direction_fits p ways w.read w.write)))

-- the parts of a list of wants
pub head_of : (w : Want) (ws : List Want) → are_wants (w ∷ ws) ≡ true → (is_who w.of ≡ true) × (are_wants ws ≡ true)
head_of w ws h = let a = both ((w.read || w.write) && is_who w.of) (are_wants ws) h in ((both (w.read || w.write) (is_who w.of) a.0).1, a.1)

pub joined_each : (w : Want) (ws : List Want) → joined_text (w ∷ ws) ++ 44 ∷ [] ≡ each_text (w ∷ ws)
joined_each w [] = refl
joined_each w (v ∷ vs) = append_assoc (want_text w ++ 44 ∷ []) (joined_text (v ∷ vs)) (44 ∷ []) ∙ append_assoc (want_text w) (44 ∷ []) (joined_text (v ∷ vs) ++ 44 ∷ []) ∙ ap
    (λ t. want_text w ++ 44 ∷ t) (joined_each v vs)

pub joined_word : (w : Want) (ws : List Want) → are_wants (w ∷ ws) ≡ true → list_all is_word (joined_text (w ∷ ws)) ≡ true
joined_word w [] h = want_fits is_word digit_is_word refl refl refl w (head_of w [] h).0
joined_word w (v ∷ vs) h =
    let k = head_of w (v ∷ vs) h in
    rw (append_assoc (want_text w) (44 ∷ []) (joined_text (v ∷ vs)))
    (fit_append is_word (want_text w) (44 ∷ joined_text (v ∷ vs)) (want_fits is_word digit_is_word refl refl refl w k.0) (joined_word v vs k.1))

-- its first octet is a letter
pub who_first : (who : Who) (more : List ℕ) → first (who_text who ++ more) ≡ 45 → ⊥
who_first Link more is = omega arith
who_first (Listener s) more is = omega arith
who_first (Udp s) more is = omega arith
who_first (Tcp s) more is = omega arith

pub no_dash : (w : Want) (ws : List Want) → codes "-" ≡ joined_text (w ∷ ws) → ⊥
no_dash w ws is =
    let each : codes "-," ≡ who_text w.of ++ (58 ∷ direction_text w.read w.write ++ 44 ∷ each_text ws) = ap (λ t. t ++ 44 ∷ []) is ∙ joined_each w ws ∙ ap
    (λ t. t ++ 44 ∷ each_text ws) (want_form w) ∙ append_assoc (who_text w.of) (58 ∷ direction_text w.read w.write) (44 ∷ each_text ws) in
    who_first w.of (58 ∷ direction_text w.read w.write ++ 44 ∷ each_text ws) (sym (ap first each))

pub wants_word : (ws : List Want) → are_wants ws ≡ true → list_all is_word (wants_text ws) ≡ true
wants_word [] h = refl
wants_word (w ∷ ws) h = joined_word w ws h

-- a time
pub digit_first : (xs : List ℕ) → list_all is_digit xs ≡ true → 0 < length xs → first xs ≡ 45 → ⊥
digit_first [] h some is = omega arith
digit_first (x ∷ xs) h some is = let d = (both (is_digit x) (list_all is_digit xs) h).0 in grind (arith, nat_tests)

pub timeout_word : (t : Option ℕ) → IsTimeout t → list_all is_word (timeout_text t) ≡ true
timeout_word None h = refl
timeout_word (Some t) h = decimal_word t h

-- a place
pub word_octet : (xs : List ℕ) → list_all is_small xs ≡ true → AreOctets xs
word_octet [] h = All-nil (λ octet. octet < 2 ^ 8)
word_octet (x ∷ xs) h = let b = both (is_small x) (list_all is_small xs) h in All-cons (λ octet. octet < 2 ^ 8) x xs (grind (arith, nat_tests, b.0)) (word_octet xs b.1)

pub digit_is_small : (c : ℕ) → is_digit c ≡ true → is_small c ≡ true
digit_is_small c h = grind (arith, nat_tests)

pub place_octets : (at : Place) → IsPlace at → AreOctets (place_text at)
place_octets (AtPath path) h = All-append (λ octet. octet < 2 ^ 8) (codes "unix:") path (word_octet (codes "unix:") refl) h.1
place_octets (AtEndpoint e) h =
    All-append (λ octet. octet < 2 ^ 8) (codes "tcp:") (endpoint_text e) (word_octet (codes "tcp:") refl)
    (word_octet (endpoint_text e) (rw (endpoint_form e) (fit_append is_small (address e.addr.0) (58 ∷ decimal e.port) (address_fits is_small digit_is_small refl e.addr.0 h.0)
    (fit_weaker is_digit is_small digit_is_small (decimal e.port) (decimal_digits e.port (omega (arith, h.1)))))))

pub same_encoded : (xs ys : List ℕ) → AreOctets xs → AreOctets ys → encode_lower xs ≡ encode_lower ys → xs ≡ ys
same_encoded xs ys hx hy is = ap (λ (r : Result (List ℕ) FromHexError). result_unwrap_or r []) (sym (decode_of-encode_lower xs (bytes xs hx)) ∙ ap decode_of is
    ∙ decode_of-encode_lower ys (bytes ys hy))

pub one_dash : (x : ℕ) (xs : List ℕ) → codes "-" ≡ encode_lower (x ∷ xs) → ⊥
one_dash x xs is = omega (arith, length-encode_with lower_digits (x ∷ xs), ap length is)

pub same_octets : (xs ys : List ℕ) → AreOctets xs → AreOctets ys → hexadecimal xs ≡ hexadecimal ys → xs ≡ ys
same_octets [] [] hx hy is = refl
same_octets [] (y ∷ ys) hx hy is = absurd (one_dash y ys is)
same_octets (x ∷ xs) [] hx hy is = absurd (one_dash x xs (sym is))
same_octets (x ∷ xs) (y ∷ ys) hx hy is = same_encoded (x ∷ xs) (y ∷ ys) hx hy is
