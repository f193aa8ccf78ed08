-- RULEs of both kinds: which words are of which, and what is kept of them.
use Rattle.std.proofs.Common.{◌≡◌, ◌≢◌, Bool, true, false, cond, not, ◌&&◌, List, [], ◌∷◌, ◌++◌, codes, drop, take, refl, sym, ◌∙◌, ap, append-nil}
use Rattle.std.proofs.lemmas.List.{take-append-drop}
use Rattle.command_words.specs.declared.options.Verb.{Verb}
use Rattle.command_words.specs.declared.options.Verb.TheVariants.{Replay, Serve}
use Rattle.command_words.specs.Options.{Word}
use Rattle.address_text.specs.Rules.{guest_words, host_words, is_guest_word}
use Rattle.command_words.specs.Walking.{guests_of, has_none, is_replay, kept, own_words}
use Rattle.command_words.proofs.Names.{same_text}

-- by the letters in front
pub not_guest : (word : Word) → ((behind : Word) → word ≢ codes "guestfwd=" ++ behind) → is_guest_word word ≡ false
not_guest word other = by_test (is_guest_word word) refl
  where
    by_test : (t : Bool) → is_guest_word word ≡ t → t ≡ false
    by_test true e = absurd (other (drop 9 word) (sym (take-append-drop 9 word) ∙ ap (λ (t : Word). t ++ drop 9 word) (same_text (take 9 word) (codes "guestfwd=") e)))
    by_test false e = refl

-- one word more
pub host_more : (a : List Word) (word : Word) → host_words (a ++ word ∷ []) ≡ cond (is_guest_word word) (host_words a) (host_words a ++ word ∷ [])
host_more [] word = elim (is_guest_word word) as (λ t. cond t [] (word ∷ []) ≡ cond t [] ([] ++ word ∷ [])) [ true ↦ refl | false ↦ refl ]
host_more (x ∷ xs) word = by_test (is_guest_word x) (host_more xs word)
  where
    pushed : (t : Bool) → x ∷ cond t (host_words xs) (host_words xs ++ word ∷ []) ≡ cond t (x ∷ host_words xs) ((x ∷ host_words xs) ++ word ∷ [])
    pushed true = refl
    pushed false = refl

    by_test : (t : Bool) → host_words (xs ++ word ∷ []) ≡ cond (is_guest_word word) (host_words xs) (host_words xs ++ word ∷ [])
        → cond t (host_words (xs ++ word ∷ [])) (x ∷ host_words (xs ++ word ∷ []))
        ≡ cond (is_guest_word word) (cond t (host_words xs) (x ∷ host_words xs)) (cond t (host_words xs) (x ∷ host_words xs) ++ word ∷ [])
    by_test true rest = rest
    by_test false rest = ap (λ (l : List Word). x ∷ l) rest ∙ pushed (is_guest_word word)

pub guest_more : (a : List Word) (word : Word) → guest_words (a ++ word ∷ []) ≡ guest_words a ++ cond (is_guest_word word) (word ∷ []) []
guest_more [] word = elim (is_guest_word word) as (λ t. cond t (word ∷ []) [] ≡ cond t (word ∷ []) []) [ true ↦ refl | false ↦ refl ]
guest_more (x ∷ xs) word = elim (is_guest_word x) as (λ t.
    cond t (x ∷ guest_words (xs ++ word ∷ [])) (guest_words (xs ++ word ∷ [])) ≡ cond t (x ∷ guest_words xs) (guest_words xs) ++ cond (is_guest_word word) (word ∷ []) []) [
      | true ↦ ap (λ (l : List Word). x ∷ l) (guest_more xs word)
      | false ↦ guest_more xs word
    ]

pub own_more : (verb : Verb) (a : List Word) (word : Word)
    → own_words verb (a ++ word ∷ []) ≡ cond (not (is_replay verb && has_none a) && is_guest_word word) (own_words verb a) (own_words verb a ++ word ∷ [])
own_more Serve a word = host_more a word
own_more Replay [] word = refl
own_more Replay (file ∷ rules) word = ap (λ (l : List Word). file ∷ l) (host_more rules word) ∙ pushed (is_guest_word word)
  where
    pushed : (t : Bool) → file ∷ cond t (host_words rules) (host_words rules ++ word ∷ []) ≡ cond t (file ∷ host_words rules) ((file ∷ host_words rules) ++ word ∷ [])
    pushed true = refl
    pushed false = refl

pub guests_step : (verb : Verb) (a : List Word) (word : Word) (stands : Bool)
    → guests_of verb (cond stands (a ++ word ∷ []) a) ≡ guests_of verb a ++ cond (stands && not (is_replay verb && has_none a) && is_guest_word word) (word ∷ []) []
guests_step verb a word false = sym (append-nil (guests_of verb a))
guests_step Serve a word true = guest_more a word
guests_step Replay [] word true = refl
guests_step Replay (file ∷ rules) word true = guest_more rules word

pub wants_own : (verb : Verb) (a : List Word) → is_replay verb && has_none (kept (own_words verb a)) ≡ is_replay verb && has_none a
wants_own Serve a = refl
wants_own Replay [] = refl
wants_own Replay (file ∷ rules) = refl
