-- Networks as they are written: what their parts are.
use Rattle.std.proofs.Common.{◌≡◌, ℕ, ◌^◌, ◌<◌, true, List, [], ◌∷◌, ◌++◌, decimal, refl, sym, ◌∙◌, ap, append_assoc}
use Rattle.std.specs.List.{list_all}
use Rattle.address_text.specs.Texts.{address_text, is_other}
use Rattle.address_text.proofs.Addresses.{address, address_form, address_fits}
use Rattle.address_text.proofs.Parting.{parts_once, digit_is_no_slash}

pub network_form : (n ones : ℕ) → (address_text n ++ 47 ∷ []) ++ decimal ones ≡ address n ++ 47 ∷ decimal ones
network_form n ones = append_assoc (address_text n) (47 ∷ []) (decimal ones) ∙ ap (λ t. t ++ 47 ∷ decimal ones) (address_form n)

pub network_parts : (text first last : List ℕ) → text ≡ first ++ 47 ∷ last → list_all (is_other 47) first ≡ true → (n ones : ℕ) → n < 2 ^ 32 → text ≡ (address_text n ++ 47 ∷ [])
    ++ decimal ones → (first ≡ address_text n) × (last ≡ decimal ones)
network_parts text first last split lacks n ones small is =
    let p = parts_once 47 (is_other 47) refl first (address n) last (decimal ones) lacks (address_fits (is_other 47) digit_is_no_slash refl n small) (sym split ∙ is ∙ network_form n ones) in
    (p.0 ∙ sym (address_form n), p.1)
