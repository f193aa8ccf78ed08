-- What calls in a row keep, from the first to the last.
use Rattle.std.proofs.Common.{◌≡◌, ℕ, List, [], ◌∷◌, ◌++◌, Option, None, Some, refl, ap, sym, ◌∙◌, append_assoc}
use Rattle.guest_link.specs.Keeping.{HandsOn, SendsOn}
use Rattle.net_world.specs.Orders.{joined, SendAll, HandAll}
use Rattle.guest_link.proofs.Joining.{sends_both, hands_both, sends_nothing, hands_nothing}

pub send_all : (a : Option (List ℕ)) (w : List ℕ) (puts : List (List ℕ)) (b : Option (List ℕ)) (v : List ℕ) → SendAll a w puts b v → SendsOn a b w v (joined puts)
send_all a w [] b v (same, is) = rw (same, is) (sends_nothing a w)
send_all a w (put ∷ puts) b v (next, waits, first, rest) = sends_both a next b w waits v put (joined puts) first (send_all next waits puts b v rest)

pub hand_all : (a : Option (List ℕ)) (w : List ℕ) (parts : List (List ℕ)) (b : Option (List ℕ)) (v : List ℕ) → HandAll a w parts b v → HandsOn a b w v (joined parts)
hand_all a w [] b v (same, is) = rw (same, is) (hands_nothing a w)
hand_all a w (part ∷ parts) b v (next, waits, first, rest) = hands_both a next b w waits v part (joined parts) first (hand_all next waits parts b v rest)

-- from the beginning, where nothing waits
pub sent_in_order : (puts : List (List ℕ)) (taken : Option (List ℕ)) (waits : List ℕ) → SendAll (Some []) [] puts taken waits
    → (got : List ℕ) × (taken ≡ Some got) × (got ++ waits ≡ joined puts)
sent_in_order puts None waits all = let on : SendsOn (Some []) None [] waits (joined puts) = send_all (Some []) [] puts None waits all in elim on.1 [ ]
sent_in_order puts (Some got) waits all =
    let on : SendsOn (Some []) (Some got) [] waits (joined puts) = send_all (Some []) [] puts (Some got) waits all in
    (got, refl, ap (λ (l : List ℕ). l ++ waits) on.1 ∙ on.2)

pub handed_in_order : (gives : List ℕ) (parts : List (List ℕ)) (left : Option (List ℕ)) (ahead : List ℕ) → HandAll (Some gives) [] parts left ahead
    → (rest : List ℕ) × (left ≡ Some rest) × (joined parts ++ (ahead ++ rest) ≡ gives)
handed_in_order gives parts None ahead all = let on : HandsOn (Some gives) None [] ahead (joined parts) = hand_all (Some gives) [] parts None ahead all in elim on.1 [ ]
handed_in_order gives parts (Some rest) ahead all =
    let on : HandsOn (Some gives) (Some rest) [] ahead (joined parts) = hand_all (Some gives) [] parts (Some rest) ahead all in
    (rest, refl, sym (append_assoc (joined parts) ahead rest) ∙ ap (λ (l : List ℕ). l ++ rest) on.2 ∙ sym on.1)
