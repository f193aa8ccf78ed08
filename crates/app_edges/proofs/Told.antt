-- Texts that are put in parts.
use Rattle.std.proofs.Common.{◌≡◌, ℕ, List, [], ◌∷◌, ◌++◌, length, take, min, nat_lt, get_or, slice_get, Option, Some, None, is_some, IfSome, Bor, inl, inr, refl, sym, ◌∙◌, ap, arith}
use Rattle.std.proofs.Common.{append_assoc}
use Rattle.std.specs.Option.{option_copied, option_map_or}
use Rattle.std.proofs.lemmas.Bool.Decides.{nat_tests}
use Rattle.std.proofs.lemmas.Option.{slice_get_past, slice_get_read}
use Rattle.std.proofs.lemmas.Bool.{cases_lt}
use Rattle.std.proofs.lemmas.List.{take_all}
use Rattle.slirp_settings.specs.declared.Forward.{Forward}
use Rattle.command_words.specs.declared.Stop.{Stop}
use Rattle.app_edges.specs.Mistakes.{named_word}
use Rattle.app_edges.specs.Texts.{mistake_text, missing_text, usage_text, with_feed, word_text}

two_lines : (first second : List ℕ) → (first ++ 10 ∷ []) ++ (second ++ 10 ∷ []) ≡ (first ++ 10 ∷ second) ++ 10 ∷ []
two_lines first second = simp append_assoc

-- a mistake's line, and the line of usage
pub mistake_told : (words : List (List ℕ)) (stop : Stop) → (mistake_text words stop ++ 10 ∷ []) ++ (usage_text ++ 10 ∷ []) ≡ with_feed (mistake_text words stop ++ 10 ∷ usage_text)
mistake_told words stop = by_word (named_word words stop)
  where
    by_word : (t : Option (ℕ × List ℕ)) → (option_map_or (λ named. word_text named.0 named.1) t missing_text ++ 10 ∷ []) ++ (usage_text ++ 10 ∷ []) ≡ with_feed
        (option_map_or (λ named. word_text named.0 named.1) t missing_text ++ 10 ∷ usage_text)
    by_word None = two_lines missing_text usage_text
    by_word (Some named) = two_lines (word_text named.0 named.1) usage_text

-- as much of a word as is shown
pub cut_at : (word : List ℕ) (n most : ℕ) → n ≡ min (length word) most → take n word ≡ take most word
cut_at word n most is = elim (cases_lt most (length word)) [
  | inl more ↦ let same : n ≡ most = omega (arith, is, more) in ap (λ (k : ℕ). take k word) same
  | inr few ↦ let whole : n ≡ length word = omega (arith, is, few) in take_all n word (omega (arith, whole)) ∙ sym (take_all most word few)
]

-- the one at a place, where there is one
pub forward_at : (forwards : List Forward) (number : ℕ) (found : Option (Bor Forward)) → is_some found ≡ nat_lt number (length forwards) → IfSome found
    (λ f. f.now ≡ get_or forwards number f.now) → option_copied found ≡ slice_get forwards number
forward_at forwards number None past here = sym (slice_get_past forwards number (grind (arith, nat_tests, past)))
forward_at forwards number (Some f) within here = sym (slice_get_read forwards (length forwards) number f.now refl (grind (arith, nat_tests, within)) here)
