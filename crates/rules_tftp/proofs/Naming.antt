-- Names that are taken, and numbers that are read.
use Rattle.std.proofs.Common.{◌≡◌, ℕ, ◌<◌, ◌≤◌, ◌&&◌, nat_le, Bool, true, false, cond, List, [], ◌∷◌, length, Some, None, refl, arith}
use Rattle.std.proofs.lemmas.Bool.Decides.{nat_tests}
use Rattle.std.specs.List.{list_all}
use Rattle.std.specs.Str.{IsAscii, IsUtf8}
use Rattle.std.proofs.lemmas.Str.{IsUtf8-from_ascii}
use Rattle.std.proofs.lemmas.Str.Ascii.{IsAscii-cons, IsAscii-nil}
use Rattle.rules_tftp.specs.Packets.{in_range, is_digit, is_name, is_part, is_printable, number_from, number_in, parts_from}

pub both : (x y : Bool) → (x && y) ≡ true → (x ≡ true) × (y ≡ true)
both true y is = (refl, is)
both false y is = cc

-- a name is short, printable, and has parts that stay in the folder
pub record IsTaken (name : List ℕ) : Type 0 where
  pub short : length name ≤ 255
  pub printable : list_all is_printable name ≡ true
  pub parts : list_all is_part (parts_from [] name) ≡ true

pub is_taken : (name : List ℕ) → is_name name ≡ true → IsTaken name
is_taken name is =
    let first = both (nat_le (length name) 255 && list_all is_printable name) (list_all is_part (parts_from [] name)) is in
    let second = both (nat_le (length name) 255) (list_all is_printable name) first.0 in
    record { short = few second.0; printable = second.1; parts = first.1 }
  where
    few : nat_le (length name) 255 ≡ true → length name ≤ 255
    few is = grind (arith, nat_tests)

low : (x : ℕ) → is_printable x ≡ true → x < 128
low x is = grind (arith, nat_tests)

pub printable_is_ascii : (xs : List ℕ) → list_all is_printable xs ≡ true → IsAscii xs
printable_is_ascii [] is = IsAscii-nil
printable_is_ascii (x ∷ xs) is = let parts = both (is_printable x) (list_all is_printable xs) is in IsAscii-cons x xs (low x parts.0) (printable_is_ascii xs parts.1)

pub name_is_text : (name : List ℕ) → is_name name ≡ true → IsUtf8 name
name_is_text name is = IsUtf8-from_ascii name (printable_is_ascii name (is_taken name is).printable)

-- a number that was read lies in its range
pub in_its_range : (least greatest n : ℕ) (text : List ℕ) → Some n ≡ number_in least greatest text → (least ≤ n) × (n ≤ greatest)
in_its_range least greatest n [] is = cc
in_its_range least greatest n (x ∷ text) is = by (list_all is_digit (x ∷ text)) (number_from 0 (x ∷ text)) is
  where
    within : (m : ℕ) (b : Bool) → nat_le least m && nat_le m greatest ≡ b → Some n ≡ cond b (Some m) None → (least ≤ n) × (n ≤ greatest)
    within m true fits is = let same : n ≡ m = cc in (grind (arith, nat_tests), grind (arith, nat_tests))
    within m false fits is = cc

    by : (b : Bool) (m : ℕ) → Some n ≡ cond b (in_range least greatest m) None → (least ≤ n) × (n ≤ greatest)
    by true m is = within m (nat_le least m && nat_le m greatest) refl is
    by false m is = cc
