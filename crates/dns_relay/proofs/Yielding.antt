-- A port without a question of an identifier has none where another was closed.
use Rattle.std.proofs.Common.{◌≡◌, ℕ, not, Bool, true, false, List, [], ◌∷◌, find, Some, None, option_map, if◌then◌else◌, refl, ◌∙◌, ap}
use Rattle.net_octets.specs.declared.Endpoint.{Endpoint}
use Rattle.rules_dns.specs.Questions.{is_numbered, is_of, socket_of, without}
use Rattle.rules_dns.specs.declared.Question.{Question}

pub still_none : (guest : Endpoint) (ident socket : ℕ) (list : List Question) → socket_of guest ident list ≡ None → socket_of guest ident (without socket list) ≡ None
still_none guest ident socket [] none = none
still_none guest ident socket (q ∷ list) none = by (is_of guest ident q) refl (is_numbered socket q) none (λ rest. still_none guest ident socket list rest)
  where
    by : (b : Bool) → is_of guest ident q ≡ b → (t : Bool) → option_map (λ (x : Question). x.number) (if b then Some q else find (is_of guest ident) list) ≡ None →
        (socket_of guest ident list ≡ None → socket_of guest ident (without socket list) ≡ None)
        → socket_of guest ident (if not t then q ∷ without socket list else without socket list) ≡ None
    by true here t none more = cc
    by false here true none more = more none
    by false here false none more =
        ap (λ (b : Bool). option_map (λ (x : Question). x.number) (if b then Some q else find (is_of guest ident) (without socket list))) here ∙ more none
