-- Which lists of what is ready answer a list of wants.
use Rattle.std.specs.Prelude.{◌≡◌, Bool, true, ◌||◌, ◌&&◌, if◌then◌else◌, Option, Some, None, List, [], ◌∷◌, ◌++◌, ◌⊎◌}
use Rattle.poll_list.specs.declared.Want.{Want}
use Rattle.poll_list.specs.declared.Who.TheVariants.{Link}

-- of the same, in at least one direction, and in none that isn't wanted
pub record IsPart (want part : Want) : Type 0 where
  pub of : part.of ≡ want.of
  pub some : (part.read || part.write) ≡ true
  pub reads : part.read ≡ true → want.read ≡ true
  pub writes : part.write ≡ true → want.write ≡ true

-- the parts belong to different wants, in the order of the wants
abbrev pub IsPickedFrom : List Want → List Want → Type 0
IsPickedFrom wants [] = Unit {0}
IsPickedFrom [] (part ∷ parts) = ⊥
IsPickedFrom (want ∷ wants) (part ∷ parts) =
    (IsPart want part × IsPickedFrom wants parts) ⊎ IsPickedFrom wants (part ∷ parts)

-- the new list has one part of the want more, or none
abbrev pub Adds : Want → List Want → List Want → Type 0
Adds want old new = (new ≡ old) ⊎ ((part : Want) × IsPart want part × (new ≡ old ++ part ∷ []))

-- what is ready is picked from all wants, whatever more is picked from those that are left
abbrev pub GoesOn : List Want → List Want → List Want → Type 0
GoesOn wants rest ready = (more : List Want) → IsPickedFrom rest more → IsPickedFrom wants (ready ++ more)

-- the part of a want in each direction in which it is wanted and known to be ready, where there is one
abbrev pub part_in : Bool → Bool → Want → Option Want
part_in read write want =
    if (want.read && read) || (want.write && write) then Some (record { of = want.of; read = want.read && read; write = want.write && write }) else None

-- one item, or none
abbrev pub as_list : Option Want → List Want
as_list None = []
as_list (Some part) = part ∷ []

-- a list begins with these
abbrev pub Begins : List Want → List Want → Type 0
Begins first ready = (more : List Want) × (ready ≡ first ++ more)

-- The link, where it is the first that is wanted, is told first, in each direction in which it is wanted and known to be ready.
abbrev pub BeginsWithLink : Bool → Bool → List Want → List Want → Type 0
BeginsWithLink read write wants ready =
    (want : Want) (others : List Want) → wants ≡ want ∷ others → want.of ≡ Link → Begins (as_list (part_in read write want)) ready
