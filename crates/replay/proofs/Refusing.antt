-- Why a text that was refused encodes nothing in range: the parts of octets and wants.
use Rattle.std.proofs.Common.{◌≡◌, ◌≢◌, ℕ, zero, suc, ◌/◌, ◌%◌, ◌^◌, ◌<◌, true, false, cond, ◌&&◌, ◌||◌, List, [], ◌∷◌, ◌++◌, length, get_or, slice_index, decimal, Option, Result, Ok, Err}
use Rattle.std.proofs.Common.{codes, refl, sym, ◌∙◌, ap, subst, arith, append_assoc, length-append}
use Rattle.std.specs.List.{list_all}
use Rattle.std.proofs.lemmas.Bool.Decides.{nat_tests}
use Rattle.hex.specs.Hex.{encode_with, lower_digits, decode_of}
use Rattle.hex.proofs.HexLemmas.{decode_of-encode_lower, decode_of-ok, length-encode_with}
use Rattle.net_octets.specs.declared.Endpoint.{Endpoint}
use Rattle.poll_list.specs.declared.Want.{Want}
use Rattle.poll_list.specs.Listing.{are_wants, is_who}
use Rattle.world_face.specs.Journal.{AreOctets, IsEndpoint, IsNumber, IsPlace, IsTimeout, Place, AtPath, AtEndpoint, Call, call_of, Entry, Wait, LinkOpen, TcpWrite, UdpSend, FileRead}
use Rattle.replay.specs.Names.{name_text, name_of}
use Rattle.replay.specs.declared.CallName.TheVariants as names
use Rattle.std.proofs.lemmas.List.Elements.{All-head, All-tail, All-cons, All-nil}
use Rattle.address_text.specs.Texts.{is_other, endpoint_text, place_text}
use Rattle.address_text.proofs.Parting.{fit_weaker, parts_once, both, pair, digit_is_no_colon, no_part}
use Rattle.replay.specs.Encoding.{is_lower, IsWritten, Says}
use Rattle.replay.specs.Text.{hexadecimal, who_text, direction_text, want_text, joined_text, wants_text, timeout_text, call_text}
use Rattle.replay.proofs.Calls.{args_text, named, name_word}
use Rattle.replay.specs.Rows.{Row, IsReadable, row_text, said_answer, said_call}
use Rattle.replay.proofs.Bodies.{row_body, row_form, said_plain}
use Rattle.replay.specs.declared.CallName.{CallName}
use Rattle.replay.proofs.Parting.{is_word, is_plain, word_is_no_space, digit_is_no_comma}
use Rattle.replay.proofs.Words.{who_fits, want_form, want_fits, head_of, bytes}

-- a refusal that is handed on
pub same_fault : {X Y E : Type 0} {d e : E} → ◌≡◌ {A = Result X E} (Err d) (Err e) → ◌≡◌ {A = Result Y E} (Err d) (Err e)
same_fault is = cc

-- octets
glyph_lower : (v : ℕ) → v < 16 → is_lower (slice_index lower_digits v) ≡ true
glyph_lower zero h = refl
glyph_lower (suc zero) h = refl
glyph_lower (suc (suc zero)) h = refl
glyph_lower (suc (suc (suc zero))) h = refl
glyph_lower (suc (suc (suc (suc zero)))) h = refl
glyph_lower (suc (suc (suc (suc (suc zero))))) h = refl
glyph_lower (suc (suc (suc (suc (suc (suc zero)))))) h = refl
glyph_lower (suc (suc (suc (suc (suc (suc (suc zero))))))) h = refl
glyph_lower (suc (suc (suc (suc (suc (suc (suc (suc zero)))))))) h = refl
glyph_lower (suc (suc (suc (suc (suc (suc (suc (suc (suc zero))))))))) h = refl
glyph_lower (suc (suc (suc (suc (suc (suc (suc (suc (suc (suc zero)))))))))) h = refl
glyph_lower (suc (suc (suc (suc (suc (suc (suc (suc (suc (suc (suc zero))))))))))) h = refl
glyph_lower (suc (suc (suc (suc (suc (suc (suc (suc (suc (suc (suc (suc zero)))))))))))) h = refl
glyph_lower (suc (suc (suc (suc (suc (suc (suc (suc (suc (suc (suc (suc (suc zero))))))))))))) h = refl
glyph_lower (suc (suc (suc (suc (suc (suc (suc (suc (suc (suc (suc (suc (suc (suc zero)))))))))))))) h = refl
glyph_lower (suc (suc (suc (suc (suc (suc (suc (suc (suc (suc (suc (suc (suc (suc (suc zero))))))))))))))) h = refl
glyph_lower (suc (suc (suc (suc (suc (suc (suc (suc (suc (suc (suc (suc (suc (suc (suc (suc v)))))))))))))))) h = absurd (omega arith)

encode_is_lower : (octets : List ℕ) → AreOctets octets → list_all is_lower (encode_with lower_digits octets) ≡ true
unfolding encode_with
encode_is_lower [] h = refl
encode_is_lower (x ∷ xs) h =
    let small : x < 256 = All-head (λ octet. octet < 2 ^ 8) x xs h in
    let rest = encode_is_lower xs (All-tail (λ octet. octet < 2 ^ 8) x xs h) in
    pair (is_lower (slice_index lower_digits (x / 16))) (is_lower (slice_index lower_digits (x % 16)) && list_all is_lower (encode_with lower_digits xs)) (glyph_lower (x / 16) (omega arith))
    (pair (is_lower (slice_index lower_digits (x % 16))) (list_all is_lower (encode_with lower_digits xs)) (glyph_lower (x % 16) (omega arith)) rest)

hexadecimal_lower : (octets : List ℕ) → AreOctets octets → list_all is_lower (hexadecimal octets) ≡ true
hexadecimal_lower [] h = refl
hexadecimal_lower (x ∷ xs) h = encode_is_lower (x ∷ xs) h

pub octets_lower : (text octets : List ℕ) → AreOctets octets → text ≡ hexadecimal octets → list_all is_lower text ≡ true
octets_lower text octets h is = subst (λ (t : List ℕ). list_all is_lower t ≡ true) (sym is) (hexadecimal_lower octets h)

hexadecimal_some : (octets : List ℕ) → 0 < length (hexadecimal octets)
hexadecimal_some [] = omega arith
hexadecimal_some (x ∷ xs) = omega (arith, length-encode_with lower_digits (x ∷ xs))

pub octets_some : (text octets : List ℕ) → text ≡ hexadecimal octets → 0 < length text
octets_some text octets is = subst (λ (t : List ℕ). 0 < length t) (sym is) (hexadecimal_some octets)

-- what isn't a dash decodes
pub octets_decode : (text octets : List ℕ) → AreOctets octets → text ≡ hexadecimal octets → text ≢ codes "-" → decode_of text ≡ Ok octets
octets_decode text [] h is other = absurd (other is)
octets_decode text (x ∷ xs) h is other = ap decode_of is ∙ decode_of-encode_lower (x ∷ xs) (bytes (x ∷ xs) h)

all_small : (xs : List ℕ) → ((i : ℕ) → get_or xs i 0 < 256) → AreOctets xs
all_small [] h = All-nil (λ octet. octet < 2 ^ 8)
all_small (x ∷ xs) h = All-cons (λ octet. octet < 2 ^ 8) x xs (h 0) (all_small xs (λ i. h (suc i)))

pub octets_small : (text octets : List ℕ) → decode_of text ≡ Ok octets → AreOctets octets
octets_small text octets is = all_small octets (decode_of-ok text octets is).3

-- wants
pub one_want : (w : Want) (ws : List Want) → are_wants (w ∷ ws) ≡ true → are_wants (w ∷ []) ≡ true
one_want w ws h = pair ((w.read || w.write) && is_who w.of) true (both ((w.read || w.write) && is_who w.of) (are_wants ws) h).0 refl

pub has_way : (w : Want) → are_wants (w ∷ []) ≡ true → (w.read || w.write) ≡ true
has_way w h = (both (w.read || w.write) (is_who w.of) (both ((w.read || w.write) && is_who w.of) true h).0).0

pub has_who : (w : Want) → are_wants (w ∷ []) ≡ true → is_who w.of ≡ true
has_who w h = (head_of w [] h).0

pub want_parts : (text who way : List ℕ) → text ≡ who ++ 58 ∷ way → list_all (is_other 58) who ≡ true → (w : Want) → are_wants (w ∷ []) ≡ true → text ≡ want_text w →
    (who ≡ who_text w.of) × (way ≡ direction_text w.read w.write)
want_parts text who way split lacks w h is = parts_once 58 (is_other 58) refl who (who_text w.of) way (direction_text w.read w.write) lacks
    (who_fits (is_other 58) digit_is_no_colon refl w.of (has_who w h)) (sym split ∙ is ∙ want_form w)

pub wants_push : (ws : List Want) (w : Want) → are_wants ws ≡ true → are_wants (w ∷ []) ≡ true → are_wants (ws ++ w ∷ []) ≡ true
wants_push [] w hs h = h
wants_push (v ∷ ws) w hs h = let b = both ((v.read || v.write) && is_who v.of) (are_wants ws) hs in pair ((v.read || v.write) && is_who v.of) (are_wants (ws ++ w ∷ [])) b.0 (wants_push ws w b.1 h)

-- the wants that a text joined by commas still has
pub record Left (text : List ℕ) : Type 0 where
  pub want : Want
  pub more : List Want
  pub range : are_wants (want ∷ more) ≡ true
  pub is : text ≡ joined_text (want ∷ more)

no_comma : (w : Want) → is_who w.of ≡ true → list_all (is_other 44) (want_text w) ≡ true
no_comma w h = want_fits (is_other 44) digit_is_no_comma refl refl refl w h

two_parts : (a b : List ℕ) → (a ++ 44 ∷ []) ++ b ≡ a ++ 44 ∷ b
two_parts a b = append_assoc a (44 ∷ []) b

pub next_left : (rest item after : List ℕ) → rest ≡ item ++ 44 ∷ after → list_all (is_other 44) item ≡ true → (w : Want) (ws : List Want) → are_wants (w ∷ ws) ≡ true →
    rest ≡ joined_text (w ∷ ws) → (item ≡ want_text w) × Left after
next_left rest item after split lacks w [] h is = absurd (no_part 44 rest item after (subst (λ (t : List ℕ). list_all (is_other 44) t ≡ true) (sym is) (no_comma w (head_of w [] h).0)) split)
next_left rest item after split lacks w (v ∷ vs) h is =
    let parted = parts_once 44 (is_other 44) refl item (want_text w) after (joined_text (v ∷ vs)) lacks (no_comma w (head_of w (v ∷ vs) h).0)
    (sym split ∙ is ∙ two_parts (want_text w) (joined_text (v ∷ vs))) in
    (parted.0, record { want = v; more = vs; range = (head_of w (v ∷ vs) h).1; is = parted.1 })

pub last_left : (rest : List ℕ) → list_all (is_other 44) rest ≡ true → (w : Want) (ws : List Want) → are_wants (w ∷ ws) ≡ true → rest ≡ joined_text (w ∷ ws) → rest ≡ want_text w
last_left rest lacks w [] h is = is
last_left rest lacks w (v ∷ vs) h is = absurd (no_part 44 rest (want_text w) (joined_text (v ∷ vs)) lacks (is ∙ two_parts (want_text w) (joined_text (v ∷ vs))))

-- words with a space between
pub no_space : (p : List ℕ) → list_all is_word p ≡ true → list_all (is_other 32) p ≡ true
no_space p h = fit_weaker is_word (is_other 32) word_is_no_space p h

pub spaced_parts : (text first second a b : List ℕ) → text ≡ first ++ 32 ∷ second → list_all (is_other 32) first ≡ true → list_all is_word a ≡ true → text ≡ a ++ 32 ∷ b → (first ≡ a) × (second ≡ b)
spaced_parts text first second a b split lacks word is = parts_once 32 (is_other 32) refl first a second b lacks (no_space a word) (sym split ∙ is)

-- what a line of a name says
pub says_wait : (args answer : List ℕ) → ((wants : List Want) (timeout : Option ℕ) → IsTimeout timeout → are_wants wants ≡ true → args ≡ timeout_text timeout ++ 32
    ∷ wants_text wants → ⊥) → (e : Entry) → Says names.Wait args answer e → ⊥
says_wait args answer never (Wait wants timeout a r) h = never wants timeout h.3.0.0 h.3.0.1 h.1
says_wait args answer never _ h = absurd (cc h.0)

pub says_link_open : (args answer : List ℕ) → ((at : Place) → IsPlace at → args ≡ hexadecimal (place_text at) → ⊥) → (e : Entry) → Says names.LinkOpen args answer e → ⊥
says_link_open args answer never (LinkOpen at a) h = never at h.3.0 h.1
says_link_open args answer never _ h = absurd (cc h.0)

pub says_tcp_write : (args answer : List ℕ) → ((socket : ℕ) (octets : List ℕ) → IsNumber socket → AreOctets octets → args ≡ decimal socket ++ 32 ∷ hexadecimal octets → ⊥) →
    (e : Entry) → Says names.TcpWrite args answer e → ⊥
says_tcp_write args answer never (TcpWrite socket octets a) h = never socket octets h.3.0.0 h.3.0.1 h.1
says_tcp_write args answer never _ h = absurd (cc h.0)

pub says_udp_send : (args answer : List ℕ) → ((socket : ℕ) (to : Endpoint) (octets : List ℕ) → IsNumber socket → IsEndpoint to → AreOctets octets → args ≡ decimal socket ++ 32 ∷
    (endpoint_text to ++ 32 ∷ hexadecimal octets) → ⊥) → (e : Entry) → Says names.UdpSend args answer e → ⊥
says_udp_send args answer never (UdpSend socket to octets a) h = never socket to octets h.3.0.0 h.3.0.1 h.3.0.2 h.1
says_udp_send args answer never _ h = absurd (cc h.0)

pub says_file_read : (args answer : List ℕ) → ((name : List ℕ) (place asked : ℕ) → AreOctets name → IsNumber place → IsNumber asked → args ≡ hexadecimal name ++ 32 ∷
    (decimal place ++ 32 ∷ decimal asked) → ⊥) → (e : Entry) → Says names.FileRead args answer e → ⊥
says_file_read args answer never (FileRead name place asked a o) h = never name place asked h.3.0.0 h.3.0.1 h.3.0.2 h.1
says_file_read args answer never _ h = absurd (cc h.0)

-- the kind of a place
pub place_kind : (text kind place : List ℕ) → text ≡ kind ++ 58 ∷ place → list_all (is_other 58) kind ≡ true → (kind ≡ codes "unix" → ⊥) → (kind ≡ codes "tcp" → ⊥) → (at : Place) →
    text ≡ place_text at → ⊥
place_kind text kind place split lacks unix tcp (AtPath path) is = unix (parts_once 58 (is_other 58) refl kind (codes "unix") place path lacks refl (sym split ∙ is)).0
place_kind text kind place split lacks unix tcp (AtEndpoint at) is = tcp (parts_once 58 (is_other 58) refl kind (codes "tcp") place (endpoint_text at) lacks refl (sym split ∙ is)).0

-- a line's call and answer
pub last_same : (octet : ℕ) (a b : List ℕ) → a ++ octet ∷ [] ≡ b ++ octet ∷ [] → a ≡ b
last_same octet [] [] is = refl
last_same octet [] (y ∷ b) is = absurd (omega (arith, length-append b (octet ∷ []), ap length is))
last_same octet (x ∷ a) [] is = absurd (omega (arith, length-append a (octet ∷ []), ap length is))
last_same octet (x ∷ a) (y ∷ b) is =
    let head : x ≡ y = cc in
    let tail : a ++ octet ∷ [] ≡ b ++ octet ∷ [] = cc in
    let rest = last_same octet a b tail in
    cc

pub plain_no_sign : (c : ℕ) → is_plain c ≡ true → is_other 61 c ≡ true
plain_no_sign c h = grind (arith, nat_tests)

pub answer_parts : (text before after : List ℕ) → text ≡ before ++ 61 ∷ after → list_all (is_other 61) before ≡ true → (row : Row) → IsReadable row → text ++ 10
    ∷ [] ≡ row_text row → (before ≡ said_call row ++ 32 ∷ []) × (after ≡ 32 ∷ said_answer row)
answer_parts text before after split lacks row h is =
    let body = last_same 10 text (row_body row) (is ∙ row_form row) in
    parts_once 61 (is_other 61) refl before (said_call row ++ 32 ∷ []) after (32 ∷ said_answer row) lacks (fit_weaker is_plain (is_other 61) plain_no_sign
    (said_call row ++ 32 ∷ []) (said_plain row h)) (sym split ∙ body)

tail_same : (octet : ℕ) (a b : List ℕ) → octet ∷ a ≡ octet ∷ b → a ≡ b
tail_same octet a b is = cc

pub encoded_once : (before after call answer : List ℕ) (row : Row) → before ≡ call ++ 32 ∷ [] → after ≡ 32 ∷ answer → (before ≡ said_call row ++ 32 ∷ []) ×
    (after ≡ 32 ∷ said_answer row) → IsWritten call answer row
encoded_once before after call answer row front back parts = (last_same 32 call (said_call row) (sym front ∙ parts.0), tail_same 32 answer (said_answer row) (sym back ∙ parts.1))

-- a call's name and the rest
pub call_parts : (call word args : List ℕ) → call ≡ word ++ 32 ∷ args → list_all (is_other 32) word ≡ true → (c : Call) → call ≡ call_text c → (word ≡ name_text (name_of c)) ×
    (args ++ 32 ∷ [] ≡ args_text c)
call_parts call word args split lacks c is =
    parts_once 32 (is_other 32) refl word (name_text (name_of c)) (args ++ 32 ∷ []) (args_text c) lacks (no_space (name_text (name_of c)) (name_word (name_of c)))
    (sym (append_assoc word (32 ∷ args) (32 ∷ [])) ∙ ap (λ t. t ++ 32 ∷ []) (sym split ∙ is) ∙ named c)

pub call_word : (call word args : List ℕ) → call ≡ word ++ 32 ∷ args → list_all (is_other 32) word ≡ true → (c : Call) → call ≡ call_text c → word ≡ name_text (name_of c)
call_word call word args split lacks c is = (call_parts call word args split lacks c is).0

starred_parts : (call word args : List ℕ) → call ≡ word ++ 32 ∷ args → list_all (is_other 32) word ≡ true → (n : CallName) → call ≡ name_text n ++ 32 ∷ 42 ∷ [] →
    (word ≡ name_text n) × (args ≡ 42 ∷ [])
starred_parts call word args split lacks n is = parts_once 32 (is_other 32) refl word (name_text n) args (42 ∷ []) lacks (no_space (name_text n) (name_word n)) (sym split ∙ is)

-- the name of a line
pub said_word : (call word args : List ℕ) → call ≡ word ++ 32 ∷ args → list_all (is_other 32) word ≡ true → (row : Row) → call ≡ said_call row → word ≡ name_text (name_of (call_of row.entry))
said_word call word args split lacks row is = elim row.starred as (λ b. call ≡ cond b (name_text (name_of (call_of row.entry)) ++ 32 ∷ 42 ∷ []) (call_text (call_of row.entry)) →
    word ≡ name_text (name_of (call_of row.entry))) [
      | true ↦ λ whole. (starred_parts call word args split lacks (name_of (call_of row.entry)) whole).0
      | false ↦ λ whole. call_word call word args split lacks (call_of row.entry) whole
    ] is
