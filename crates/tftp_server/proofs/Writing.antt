-- Options that are written one after another.
use Rattle.std.proofs.Common.{◌≡◌, ℕ, ◌+◌, ◌<◌, ◌≤◌, List, [], ◌∷◌, ◌++◌, length, map, take, get_or, refl, sym, ◌∙◌, ap, append_assoc, decimal}
use Rattle.std.proofs.lemmas.List.{map-append, take_all, take_more}
use Rattle.net_octets.specs.Octets.{two}
use Rattle.rules_tftp.specs.Packets.{Terms, answered_octets, options_octets}
use Rattle.tftp_server.specs.Options.{answered_pair}
use Rattle.tftp_server.specs.declared.options.Answer.{Answer}

answered-append : (xs ys : List (List ℕ × ℕ)) → answered_octets (xs ++ ys) ≡ answered_octets xs ++ answered_octets ys
answered-append [] ys = refl
answered-append (a ∷ xs) ys =
    let front = ((a.0 ++ (0 ∷ [])) ++ decimal a.1) ++ (0 ∷ []) in
    ap (λ rest. front ++ rest) (answered-append xs ys) ∙ sym (append_assoc front (answered_octets xs) (answered_octets ys))

-- one more is written
pub one_more : (items : List Answer) (i : ℕ) (d : Answer) (old new : List ℕ) → i < length items → old ≡ two 6 ++ answered_octets (map answered_pair (take i items))
    → new ≡ old ++ answered_octets (answered_pair (get_or items i d) ∷ []) → new ≡ two 6 ++ answered_octets (map answered_pair (take (i + 1) items))
one_more items i d old new within was is =
    let before = take i items in
    let a = get_or items i d in
    let next : map answered_pair (take (i + 1) items) ≡ map answered_pair before ++ (answered_pair a ∷ []) = ap (map answered_pair) (take_more items i d within)
    ∙ map-append answered_pair before (a ∷ []) in
    is ∙ ap (λ (xs : List ℕ). xs ++ answered_octets (answered_pair a ∷ [])) was
    ∙ append_assoc (two 6) (answered_octets (map answered_pair before)) (answered_octets (answered_pair a ∷ []))
    ∙ sym (ap (λ (xs : List ℕ). two 6 ++ xs) (ap answered_octets next ∙ answered-append (map answered_pair before) (answered_pair a ∷ [])))

pub all_written : (items : List Answer) (i : ℕ) (written : List ℕ) (terms : Terms) → length items ≤ i → written ≡ two 6 ++ answered_octets (map answered_pair (take i items))
    → map answered_pair items ≡ terms.answered → written ≡ options_octets terms
all_written items i written terms past is answered =
    is ∙ ap (λ (xs : List Answer). two 6 ++ answered_octets (map answered_pair xs)) (take_all i items past) ∙ ap (λ (xs : List (List ℕ × ℕ)). two 6 ++ answered_octets xs) answered
