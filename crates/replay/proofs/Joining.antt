-- Wants joined by commas, one more at the end.
use Rattle.std.proofs.Common.{◌≡◌, ℕ, ◌<◌, List, [], ◌∷◌, ◌++◌, length, refl, sym, ◌∙◌, ap, arith, append_assoc, length-append}
use Rattle.poll_list.specs.declared.Want.{Want}
use Rattle.replay.specs.Text.{want_text, joined_text}

-- each with a comma after it
abbrev pub each_text : List Want → List ℕ
each_text [] = []
each_text (want ∷ wants) = want_text want ++ 44 ∷ each_text wants

each_push : (wants : List Want) (want : Want) → each_text (wants ++ want ∷ []) ≡ each_text wants ++ (want_text want ++ 44 ∷ [])
each_push [] want = refl
each_push (w ∷ ws) want = ap (λ t. want_text w ++ 44 ∷ t) (each_push ws want) ∙ sym (append_assoc (want_text w) (44 ∷ each_text ws) (want_text want ++ 44 ∷ []))

again : (a each b : List ℕ) → (a ++ 44 ∷ []) ++ (each ++ b) ≡ (a ++ 44 ∷ each) ++ b
again a each b = simp append_assoc

joined_push : (wants : List Want) (want : Want) → joined_text (wants ++ want ∷ []) ≡ each_text wants ++ want_text want
joined_push [] want = refl
joined_push (w ∷ []) want = refl
joined_push (w ∷ v ∷ ws) want = ap (λ t. (want_text w ++ 44 ∷ []) ++ t) (joined_push (v ∷ ws) want) ∙ again (want_text w) (each_text (v ∷ ws)) (want_text want)

regroup : (each w after : List ℕ) → each ++ (w ++ 44 ∷ after) ≡ (each ++ (w ++ 44 ∷ [])) ++ after
regroup each w after = simp append_assoc

pub each_more : (text rest item after : List ℕ) (wants more : List Want) (want : Want) → text ≡ each_text wants ++ rest → rest ≡ item ++ 44 ∷ after → item ≡ want_text want →
    more ≡ wants ++ want ∷ [] → text ≡ each_text more ++ after
each_more text rest item after wants more want so_far split is pushed =
    so_far ∙ ap (λ t. each_text wants ++ t) (split ∙ ap (λ t. t ++ 44 ∷ after) is) ∙ regroup (each_text wants) (want_text want) after ∙ ap (λ t. t ++ after)
    (sym (each_push wants want) ∙ ap each_text (sym pushed))

pub joined_all : (text rest : List ℕ) (wants more : List Want) (want : Want) → text ≡ each_text wants ++ rest → rest ≡ want_text want → more ≡ wants ++ want ∷ [] → text ≡ joined_text more
joined_all text rest wants more want so_far is pushed = so_far ∙ ap (λ t. each_text wants ++ t) is ∙ sym (joined_push wants want) ∙ ap joined_text (sym pushed)

pub shorter : (octet : ℕ) (rest item after : List ℕ) → rest ≡ item ++ octet ∷ after → length after < length rest
shorter octet rest item after split = omega (arith, length-append item (octet ∷ after), ap length split)
