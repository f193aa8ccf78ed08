-- What stands at a place of a list is among all of it.
use Rattle.std.proofs.Common.{◌≡◌, ℕ, ◌<◌, ◌||◌, Bool, true, false, List, [], ◌∷◌, length, get_or, zero, suc, arith, refl, sym, ◌∙◌, ap}
use Rattle.poll_list.specs.Listing.{is_among, is_of}
use Rattle.poll_list.specs.declared.Want.{Want}
use Rattle.poll_list.specs.declared.Way.{Way}
use Rattle.poll_list.specs.declared.Who.{Who}

or_second : (a b : Bool) → b ≡ true → (a || b) ≡ true
or_second true b is = refl
or_second false b is = is

pub stands_there : (who : Who) (way : Way) (wants : List Want) (n : ℕ) (want other : Want) → n < length wants → want ≡ get_or wants n other → is_of who way want ≡ true
    → is_among who way wants ≡ true
stands_there who way [] n want other few there is = absurd (omega (arith, few))
stands_there who way (x ∷ wants) zero want other few there is = ap (λ (w : Want). is_of who way w || is_among who way wants) (sym there) ∙ ap (λ (b : Bool). b || is_among who way wants) is
stands_there who way (x ∷ wants) (suc n) want other few there is =
    or_second (is_of who way x) (is_among who way wants) (stands_there who way wants n want other (omega (arith, few)) there is)
