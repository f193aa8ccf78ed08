-- What the reports that are left are worth in calls.
use Rattle.std.proofs.Common.{◌≡◌, ℕ, ◌+◌, ◌*◌, ◌≤◌, ◌==◌, ◌&&◌, ◌||◌, not, Bool, true, false, List, [], ◌∷◌, length, if◌then◌else◌, refl, sym, ◌∙◌, ap, arith}
use Rattle.poll_list.specs.Listing.{reads, same_who, writes}
use Rattle.poll_list.specs.declared.Want.{Want}
use Rattle.poll_list.specs.declared.Who.{Who}
use Rattle.poll_list.specs.declared.Who.TheVariants.{Link, Listener, Tcp, Udp}
use Rattle.spec_run.specs.Agenda.{all_wanted, behind, ended, from, is_to_read, is_to_write, was_written_for, written}
use Rattle.spec_run.proofs.Bools.{equal, first_of, second_of}

abbrev pub one_if : Bool → ℕ
one_if true = 1
one_if false = 0

abbrev pub unless : Bool → ℕ
unless true = 0
unless false = 1

-- a frame asks for two calls; a host is read, written to and told the end
abbrev pub worth_of : Who → (read write : Bool) → ℕ
worth_of Link read write = one_if read + one_if read
worth_of (Listener socket) read write = one_if read
worth_of (Udp socket) read write = one_if read
worth_of (Tcp socket) read write = 1 + one_if read + one_if write

-- the one in front is worth less where it was told the end
abbrev pub front_of : (ℕ → Bool) → Who → (read write : Bool) → ℕ
front_of told Link read write = one_if read + one_if read
front_of told (Listener socket) read write = one_if read
front_of told (Udp socket) read write = one_if read
front_of told (Tcp socket) read write = unless (not write && told socket) + one_if read + one_if write

abbrev pub worth : Want → ℕ
worth item = worth_of item.of item.read item.write

abbrev pub worths : List Want → ℕ
worths [] = 0
worths (item ∷ items) = worth item + worths items

abbrev pub fronts : (ℕ → Bool) → List Want → ℕ
fronts told [] = 0
fronts told (item ∷ items) = front_of told item.of item.read item.write + worths items

one_most : (b : Bool) → one_if b ≤ 1
one_most true = omega arith
one_most false = omega arith

unless_most : (b : Bool) → unless b ≤ 1
unless_most true = omega arith
unless_most false = omega arith

front_least : (told : ℕ → Bool) (of : Who) (read write : Bool) → front_of told of read write ≤ worth_of of read write
front_least told Link read write = omega arith
front_least told (Listener socket) read write = omega arith
front_least told (Udp socket) read write = omega arith
front_least told (Tcp socket) read write = let most = unless_most (not write && told socket) in omega (arith, most)

pub fronts_least : (told : ℕ → Bool) (items : List Want) → fronts told items ≤ worths items
fronts_least told [] = omega arith
fronts_least told (item ∷ items) = let least = front_least told item.of item.read item.write in omega (arith, least)

-- ---- a report is read

abbrev pub taken_by : Who → ℕ
taken_by Link = 2
taken_by (Listener socket) = 1
taken_by (Udp socket) = 1
taken_by (Tcp socket) = 1

never_true : {A : Type 0} → false ≡ true → A
never_true is = cc

read_front : (told : ℕ → Bool) (who of : Who) (read write : Bool) → (same_who who of && read) ≡ true → taken_by who ≤ front_of told of read write
read_front told who of false write is = never_true (second_of (same_who who of) false is)
read_front told Link Link true write is = omega arith
read_front told (Listener a) (Listener b) true write is = omega arith
read_front told (Udp a) (Udp b) true write is = omega arith
read_front told (Tcp a) (Tcp b) true write is = omega arith
read_front told Link (Listener b) true write is = cc
read_front told Link (Udp b) true write is = cc
read_front told Link (Tcp b) true write is = cc
read_front told (Listener a) Link true write is = cc
read_front told (Listener a) (Udp b) true write is = cc
read_front told (Listener a) (Tcp b) true write is = cc
read_front told (Udp a) Link true write is = cc
read_front told (Udp a) (Listener b) true write is = cc
read_front told (Udp a) (Tcp b) true write is = cc
read_front told (Tcp a) Link true write is = cc
read_front told (Tcp a) (Listener b) true write is = cc
read_front told (Tcp a) (Udp b) true write is = cc

read_worth : (who : Who) (items : List Want) → reads who items ≡ true → worths (behind who items) + taken_by who ≤ worths items
read_worth who [] is = cc
read_worth who (item ∷ items) is = by (is_to_read who item) refl is (λ more. read_worth who items more)
  where
    by : (b : Bool) → (same_who who item.of && item.read) ≡ b → (b || reads who items) ≡ true → (reads who items ≡ true → worths (behind who items) + taken_by who ≤ worths items)
        → worths (if b then items else behind who items) + taken_by who ≤ worth item + worths items
    by true this is rest =
        let front = read_front (λ n. false) who item.of item.read item.write this in let least = front_least (λ n. false) item.of item.read item.write in omega (arith, front, least)
    by false other is rest = let less = rest is in omega (arith, less)

pub is_read : (told later : ℕ → Bool) (who : Who) (items : List Want) → reads who items ≡ true → fronts later (behind who items) + taken_by who ≤ fronts told items
is_read told later who [] is = cc
is_read told later who (item ∷ items) is = by (is_to_read who item) refl is
  where
    by : (b : Bool) → (same_who who item.of && item.read) ≡ b → (b || reads who items) ≡ true
        → fronts later (if b then items else behind who items) + taken_by who ≤ front_of told item.of item.read item.write + worths items
    by true this is = let front = read_front told who item.of item.read item.write this in let least = fronts_least later items in omega (arith, front, least)
    by false other is = let less = read_worth who items is in let least = fronts_least later (behind who items) in omega (arith, less, least)

-- those before it are passed over
from_worth : (who : Who) (items : List Want) → worths (from who items) ≤ worths items
from_worth who [] = omega arith
from_worth who (item ∷ items) = by (is_to_read who item) (from_worth who items)
  where
    by : (b : Bool) → worths (from who items) ≤ worths items → worths (if b then item ∷ items else from who items) ≤ worth item + worths items
    by true rest = omega arith
    by false rest = omega (arith, rest)

pub is_passed : (told : ℕ → Bool) (who : Who) (items : List Want) → fronts told (from who items) ≤ fronts told items
is_passed told who [] = omega arith
is_passed told who (item ∷ items) = by (is_to_read who item)
  where
    by : (b : Bool) → fronts told (if b then item ∷ items else from who items) ≤ front_of told item.of item.read item.write + worths items
    by true = omega arith
    by false = let rest = from_worth who items in let least = fronts_least told (from who items) in omega (arith, rest, least)

-- ---- a host is written to, or told the end

write_front : (told later : ℕ → Bool) (socket : ℕ) (of : Who) (read write : Bool) → (same_who (Tcp socket) of && write) ≡ true → front_of later of read false + 1 ≤ front_of told of read write
write_front told later socket of read false is = never_true (second_of (same_who (Tcp socket) of) false is)
write_front told later socket (Tcp b) read true is = let most = unless_most (later b) in omega (arith, most)
write_front told later socket Link read true is = cc
write_front told later socket (Listener b) read true is = cc
write_front told later socket (Udp b) read true is = cc

write_worth : (socket : ℕ) (items : List Want) → writes (Tcp socket) items ≡ true → worths (written (Tcp socket) items) + 1 ≤ worths items
write_worth socket [] is = cc
write_worth socket (item ∷ items) is = by (is_to_write (Tcp socket) item) refl is (λ more. write_worth socket items more)
  where
    worth_front : (of : Who) (read write : Bool) → (same_who (Tcp socket) of && write) ≡ true → worth_of of read false + 1 ≤ worth_of of read write
    worth_front of read false is = never_true (second_of (same_who (Tcp socket) of) false is)
    worth_front (Tcp b) read true is = omega arith
    worth_front Link read true is = cc
    worth_front (Listener b) read true is = cc
    worth_front (Udp b) read true is = cc

    by : (b : Bool) → (same_who (Tcp socket) item.of && item.write) ≡ b → (b || writes (Tcp socket) items) ≡ true
        → (writes (Tcp socket) items ≡ true → worths (written (Tcp socket) items) + 1 ≤ worths items)
        → worths (if b then record { of = item.of; read = item.read; write = false } ∷ items else written (Tcp socket) items) + 1 ≤ worth item + worths items
    by true this is rest = let less = worth_front item.of item.read item.write this in omega (arith, less)
    by false other is rest = let less = rest is in omega (arith, less)

pub is_written : (told later : ℕ → Bool) (socket : ℕ) (items : List Want) → writes (Tcp socket) items ≡ true → fronts later (written (Tcp socket) items) + 1 ≤ fronts told items
is_written told later socket [] is = cc
is_written told later socket (item ∷ items) is = by (is_to_write (Tcp socket) item) refl is
  where
    by : (b : Bool) → (same_who (Tcp socket) item.of && item.write) ≡ b → (b || writes (Tcp socket) items) ≡ true
        → fronts later (if b then record { of = item.of; read = item.read; write = false } ∷ items else written (Tcp socket) items) + 1 ≤ front_of told item.of item.read item.write + worths items
    by true this is = let less = write_front told later socket item.of item.read item.write this in omega (arith, less)
    by false other is = let less = write_worth socket items is in let least = fronts_least later (written (Tcp socket) items) in omega (arith, less, least)

-- the item for which a host was written to is in front
pub in_front : (socket : ℕ) (items : List Want) → writes (Tcp socket) items ≡ true → was_written_for socket (written (Tcp socket) items) ≡ true
in_front socket [] is = cc
in_front socket (item ∷ items) is = by (is_to_write (Tcp socket) item) refl is (λ more. in_front socket items more)
  where
    by : (b : Bool) → (same_who (Tcp socket) item.of && item.write) ≡ b → (b || writes (Tcp socket) items) ≡ true → (writes (Tcp socket) items ≡ true → was_written_for socket
        (written (Tcp socket) items) ≡ true)
        → was_written_for socket (if b then record { of = item.of; read = item.read; write = false } ∷ items else written (Tcp socket) items) ≡ true
    by true this is rest = ap (λ b. b && true) (first_of (same_who (Tcp socket) item.of) item.write this)
    by false other is rest = rest is

end_front : (told later : ℕ → Bool) (socket : ℕ) (of : Who) (read write : Bool) → (same_who (Tcp socket) of && not write) ≡ true → told socket ≡ false → later socket ≡ true
    → front_of later of read write + 1 ≤ front_of told of read write
end_front told later socket of read true is before after = never_true (second_of (same_who (Tcp socket) of) false is)
end_front told later socket (Tcp b) read false is before after =
    let this = equal socket b (first_of (socket == b) true is) in
    let first : unless (told b) ≡ 1 = ap (λ n. unless (told n)) (sym this) ∙ ap unless before in
    let second : unless (later b) ≡ 0 = ap (λ n. unless (later n)) (sym this) ∙ ap unless after in
    omega (arith, first, second)
end_front told later socket Link read false is before after = cc
end_front told later socket (Listener b) read false is before after = cc
end_front told later socket (Udp b) read false is before after = cc

ended_front : (told later : ℕ → Bool) (socket : ℕ) (items : List Want) → was_written_for socket items ≡ true → told socket ≡ false → later socket ≡ true → fronts later items + 1 ≤ fronts told items
ended_front told later socket [] is before after = cc
ended_front told later socket (item ∷ items) is before after = let less = end_front told later socket item.of item.read item.write is before after in omega (arith, less)

pub is_ended : (told later : ℕ → Bool) (socket : ℕ) (items : List Want) (just : Bool) → (writes (Tcp socket) items || just) ≡ true →
    (just ≡ true → was_written_for socket items ≡ true) → told socket ≡ false → later socket ≡ true
    → fronts later (ended socket items) + 1 ≤ fronts told items
is_ended told later socket items just served in_place before after = by (was_written_for socket items) refl
  where
    one_of : (a b : Bool) → (a || b) ≡ true → (b ≡ true → was_written_for socket items ≡ true) → was_written_for socket items ≡ false → a ≡ true
    one_of true b is place not = refl
    one_of false true is place not = never_true (sym not ∙ place refl)
    one_of false false is place not = cc

    by : (b : Bool) → was_written_for socket items ≡ b → fronts later (if b then items else written (Tcp socket) items) + 1 ≤ fronts told items
    by true is = ended_front told later socket items is before after
    by false not = is_written told later socket items (one_of (writes (Tcp socket) items) just served in_place not)

-- ---- a wait reports them

wanted_most : (of : Who) (read write : Bool) → worth_of of read write ≤ 3
wanted_most Link read write = let most = one_most read in omega (arith, most)
wanted_most (Listener socket) read write = let most = one_most read in omega (arith, most)
wanted_most (Udp socket) read write = let most = one_most read in omega (arith, most)
wanted_most (Tcp socket) read write = let most = one_most read in let more = one_most write in omega (arith, most, more)

all_most : (wants ready : List Want) → worths (all_wanted wants ready) ≤ 3 * length ready
all_most wants [] = omega arith
all_most wants (item ∷ ready) = let most = wanted_most item.of (item.read && reads item.of wants) (item.write && writes item.of wants) in let rest = all_most wants ready in omega (arith, most, rest)

pub at_wait : (told : ℕ → Bool) (wants ready : List Want) → fronts told (all_wanted wants ready) ≤ 3 * length ready
at_wait told wants ready = let least = fronts_least told (all_wanted wants ready) in let most = all_most wants ready in omega (arith, least, most)
