-- Options that are answered, each once.
use Rattle.std.proofs.Common.{◌≡◌, ℕ, ◌≤◌, ◌<◌, ◌*◌, ◌||◌, min, codes, bytes_eq, Bool, true, false, cond, List, [], ◌∷◌, ◌++◌, length, map, Option, Some, None, option_map}
use Rattle.std.proofs.Common.{is_some, refl, sym, ◌∙◌, ap, arith}
use Rattle.std.specs.List.{list_any}
use Rattle.std.proofs.lemmas.List.{length-append, map-append}
use Rattle.std.proofs.lemmas.List.Folds.{list_any-append}
use Rattle.rules_tftp.specs.Packets.{Terms, answers, has_answered, number_in, with_size, with_timeout}
use Rattle.tftp_server.specs.Options.{AreOnce, answered_pair, free, is_among, name_of}
use Rattle.tftp_server.specs.declared.options.Known.{Known}
use Rattle.tftp_server.specs.declared.options.Known.TheVariants.{BlockSize, Timeout, FileSize}
use Rattle.tftp_server.specs.declared.options.Answer.{Answer}

-- whether an option is answered, by what is written
pub among_map : (name : List ℕ) (items : List Answer) → list_any (λ (a : List ℕ × ℕ). bytes_eq a.0 name) (map answered_pair items) ≡ list_any (λ (a : Answer). bytes_eq (name_of a.option) name) items
among_map name [] = refl
among_map name (a ∷ items) = ap (λ b. bytes_eq (name_of a.option) name || b) (among_map name items)

pub answered_push : (items : List Answer) (a : Answer) → map answered_pair (items ++ (a ∷ [])) ≡ map answered_pair items ++ (answered_pair a ∷ [])
answered_push items a = map-append answered_pair items (a ∷ [])

free_push : (option : Known) (items : List Answer) (a : Answer) → free option (items ++ (a ∷ [])) ≡ cond (bytes_eq (name_of a.option) (name_of option)) 0 (free option items)
free_push option items a =
    let test : Answer → Bool = λ b. bytes_eq (name_of b.option) (name_of option) in
    ap (λ b. cond b 0 1) (list_any-append test items (a ∷ [])) ∙ by (is_among option items) (bytes_eq (name_of a.option) (name_of option))
  where
    by : (x y : Bool) → ◌≡◌ {A = ℕ} (cond (x || (y || false)) 0 1) (cond y 0 (cond x 0 1))
    by true true = refl
    by true false = refl
    by false true = refl
    by false false = refl

is_free : (option : Known) (items : List Answer) → is_among option items ≡ false → free option items ≡ 1
is_free option items is = ap (λ b. cond b 0 1) is

-- one more that wasn't answered
pub once_push : (items : List Answer) (option : Known) (number : ℕ) → AreOnce items → is_among option items ≡ false → AreOnce (items ++ (record { option = option; number = number } ∷ []))
once_push items BlockSize number once is =
    let a : Answer = record { option = BlockSize; number = number } in
    omega (arith, once, length-append items (a ∷ []), free_push BlockSize items a, free_push Timeout items a, free_push FileSize items a, is_free BlockSize items is)
once_push items Timeout number once is =
    let a : Answer = record { option = Timeout; number = number } in
    omega (arith, once, length-append items (a ∷ []), free_push BlockSize items a, free_push Timeout items a, free_push FileSize items a, is_free Timeout items is)
once_push items FileSize number once is =
    let a : Answer = record { option = FileSize; number = number } in
    omega (arith, once, length-append items (a ∷ []), free_push BlockSize items a, free_push Timeout items a, free_push FileSize items a, is_free FileSize items is)

-- and there is room for it
pub room_for : (items : List Answer) (option : Known) → AreOnce items → is_among option items ≡ false → length items < 3
room_for items BlockSize once is = omega (arith, once, is_free BlockSize items is)
room_for items Timeout once is = omega (arith, once, is_free Timeout items is)
room_for items FileSize once is = omega (arith, once, is_free FileSize items is)

pub none_more : (items : List Answer) → AreOnce items → length items ≤ 3
none_more items once = omega (arith, once)

-- ---- what contracts see

abbrev pub shown : ℕ → ℕ → List Answer → Terms
shown size timeout items = record { size = size; timeout = timeout; answered = map answered_pair items }

abbrev pub answer : Known → ℕ → Answer
answer option number = record { option = option; number = number }

pub not_among : (option : Known) (size timeout : ℕ) (items : List Answer) (terms : Terms) → shown size timeout items ≡ terms → has_answered (name_of option) terms ≡ false →
    is_among option items ≡ false
not_among option size timeout items terms view has = sym (among_map (name_of option) items) ∙ ap (λ (t : Terms). has_answered (name_of option) t) view ∙ has

pub sized : (size timeout k n : ℕ) (items more : List Answer) (terms : Terms) (text : List ℕ)
    → shown size timeout items ≡ terms → more ≡ items ++ (answer BlockSize k ∷ []) → k ≡ min n 1468 → Some n ≡ number_in 8 65464 text
    → Some (shown k timeout more) ≡ option_map (with_size terms) (number_in 8 65464 text)
sized size timeout k n items more terms text view pushed cut read =
    let a = answer BlockSize k in
    let now : shown k timeout more ≡ with_size terms n =
    ap (shown k timeout) pushed
    ∙ ap (λ (l : List (List ℕ × ℕ)). let t : Terms = record { size = k; timeout = timeout; answered = l } in t) (answered_push items a)
    ∙ ap (λ (m : ℕ). let t : Terms = record { size = m; timeout = timeout; answered = map answered_pair items ++ ((codes "blksize", m) ∷ []) } in t) cut
    ∙ ap (λ (t : Terms). with_size t n) view in
    ap Some now ∙ ap (option_map (with_size terms)) read

pub timed : (size timeout n : ℕ) (items more : List Answer) (terms : Terms) (text : List ℕ)
    → shown size timeout items ≡ terms → more ≡ items ++ (answer Timeout n ∷ []) → Some n ≡ number_in 1 255 text
    → Some (shown size (1000 * n) more) ≡ option_map (with_timeout terms) (number_in 1 255 text)
timed size timeout n items more terms text view pushed read =
    let a = answer Timeout n in
    let now : shown size (1000 * n) more ≡ with_timeout terms n =
    ap (shown size (1000 * n)) pushed
    ∙ ap (λ (l : List (List ℕ × ℕ)). let t : Terms = record { size = size; timeout = 1000 * n; answered = l } in t) (answered_push items a)
    ∙ ap (λ (t : Terms). with_timeout t n) view in
    ap Some now ∙ ap (option_map (with_timeout terms)) read

pub told_size : (size timeout n : ℕ) (items more : List Answer) (terms : Terms) (text : List ℕ)
    → shown size timeout items ≡ terms → more ≡ items ++ (answer FileSize n ∷ []) → is_some (number_in 0 0 text) ≡ true
    → Some (shown size timeout more) ≡ option_map (λ m. answers (codes "tsize") n terms) (number_in 0 0 text)
told_size size timeout n items more terms text view pushed read =
    let a = answer FileSize n in
    let now : shown size timeout more ≡ answers (codes "tsize") n terms =
    ap (shown size timeout) pushed
    ∙ ap (λ (l : List (List ℕ × ℕ)). let t : Terms = record { size = size; timeout = timeout; answered = l } in t) (answered_push items a)
    ∙ ap (λ (t : Terms). answers (codes "tsize") n t) view in
    ap Some now ∙ by (number_in 0 0 text) read
  where
    by : (o : Option ℕ) → is_some o ≡ true → Some (answers (codes "tsize") n terms) ≡ option_map (λ m. answers (codes "tsize") n terms) o
    by None is = cc
    by (Some m) is = refl

pub untold : (n : ℕ) (terms : Terms) (o : Option ℕ) → is_some o ≡ false → None ≡ option_map (λ m. answers (codes "tsize") n terms) o
untold n terms None is = refl
untold n terms (Some m) is = cc
