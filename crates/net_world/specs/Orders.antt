-- What many calls in a row make of the octets.
use Rattle.std.specs.Prelude.{◌≡◌, ℕ, List, [], ◌∷◌, ◌++◌, Option}
use Rattle.guest_link.specs.Keeping.{HandsOn, SendsOn}

-- all octets, one part behind the other
abbrev pub joined : List (List ℕ) → List ℕ
joined [] = []
joined (part ∷ parts) = part ++ joined parts

-- Each call that goes out keeps the octets, and puts a part.
abbrev pub SendAll : (taken : Option (List ℕ)) (waits : List ℕ) (puts : List (List ℕ)) (taken-last : Option (List ℕ)) (waits-last : List ℕ) → Type 0
SendAll taken waits [] taken-last waits-last = (taken-last ≡ taken) × (waits-last ≡ waits)
SendAll taken waits (put ∷ puts) taken-last waits-last =
    (taken-next : Option (List ℕ)) × (waits-next : List ℕ) × SendsOn taken taken-next waits waits-next put
    × SendAll taken-next waits-next puts taken-last waits-last

-- Each read hands out a part.
abbrev pub HandAll : (left : Option (List ℕ)) (waits : List ℕ) (handed : List (List ℕ)) (left-last : Option (List ℕ)) (waits-last : List ℕ) → Type 0
HandAll left waits [] left-last waits-last = (left-last ≡ left) × (waits-last ≡ waits)
HandAll left waits (part ∷ parts) left-last waits-last =
    (left-next : Option (List ℕ)) × (waits-next : List ℕ) × HandsOn left left-next waits waits-next part
    × HandAll left-next waits-next parts left-last waits-last
