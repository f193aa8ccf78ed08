-- How many wants of a list are for writing.
use Rattle.std.proofs.Common.{◌≡◌, Bool, true, cond, ℕ, suc, zero, ◌+◌, ◌<◌, ◌≤◌, List, [], ◌∷◌, ◌++◌, length, take, drop, get_or, drop-cons, arith, ap, ◌∙◌, false, refl, set}
use Rattle.std.proofs.lemmas.List.{drop_all, take-append-le}
use Rattle.std.proofs.Math.Seq.{take-length}
use Rattle.std.proofs.lemmas.List.Sums.{sum_by-append, sum_by-insert, sum_by-set, sum_by-take-drop}
use Rattle.std.specs.Int.{from_bool}
use Rattle.std.specs.List.{insert}
use Rattle.std.specs.List.{Contains}
use Rattle.poll_list.specs.declared.Want.{Want}
use Rattle.poll_list.specs.Writes.{count_to_write}

-- of two lists in a row: of the one and of the other
pub count_appended : (wants more : List Want) → count_to_write (wants ++ more) ≡ count_to_write wants + count_to_write more
count_appended wants more = sum_by-append _ wants more

-- of a list: of its first wants and of those behind them
pub count_parted : (wants : List Want) (n : ℕ) → count_to_write (take n wants) + count_to_write (drop n wants) ≡ count_to_write wants
count_parted wants n = sum_by-take-drop _ wants n

-- of as many as there are: of all
pub count_all : (wants : List Want) (n : ℕ) → n ≡ length wants → count_to_write (take n wants) ≡ count_to_write wants
count_all wants n is = ap (λ (l : List Want). count_to_write l) (ap (λ (m : ℕ). take m wants) is ∙ take-length wants)

-- a first part keeps its count where others are put behind the list
pub count_kept : (wants more : List Want) (n : ℕ) → n ≤ length wants → count_to_write (take n (wants ++ more)) ≡ count_to_write (take n wants)
count_kept wants more n fits = ap (λ (l : List Want). count_to_write l) (take-append-le n wants more fits)

-- so does the whole list
pub count_before : (wants more : List Want) (n : ℕ) → n ≡ length wants → count_to_write (take n (wants ++ more)) ≡ count_to_write wants
count_before wants more n is =
    count_kept wants more n (omega (arith, is)) ∙ count_all wants n is

-- of the first of the list and of those behind it
count_first : (want : Want) (wants : List Want) → count_to_write (want ∷ wants) ≡ cond want.write 1 0 + count_to_write wants
count_first want wants =
    let both : count_to_write (want ∷ wants) ≡ (0 + cond want.write 1 0) + count_to_write wants = count_appended (want ∷ []) wants in
    omega (arith, both)

-- from a place on: of the want there and of those behind it
pub count_from : (wants : List Want) (i : ℕ) (d : Want) → i < length wants
    → count_to_write (drop i wants) ≡ cond (get_or wants i d).write 1 0 + count_to_write (drop (i + 1) wants)
count_from wants i d below =
    let next : i + 1 ≡ suc i = omega arith in
    let parts : drop i wants ≡ get_or wants i d ∷ drop (i + 1) wants = rw next (drop-cons wants i d below) in
    ap (λ (l : List Want). count_to_write l) parts ∙ count_first (get_or wants i d) (drop (i + 1) wants)

-- the same, where it is known whether that want is for writing
pub counted_next : (wants : List Want) (i : ℕ) (d : Want) (b : Bool) → i < length wants → (get_or wants i d).write ≡ b
    → count_to_write (drop i wants) ≡ cond b 1 0 + count_to_write (drop (i + 1) wants)
counted_next wants i d b below is = count_from wants i d below ∙ ap (λ (x : Bool). cond x 1 0 + count_to_write (drop (i + 1) wants)) is

-- past the end there is none
pub counted_past : (wants : List Want) (i : ℕ) → length wants ≤ i → count_to_write (drop i wants) ≡ 0
counted_past wants i past = ap (λ (l : List Want). count_to_write l) (drop_all i wants past)

-- each is counted
pub count_one : (wants : List Want) (i : ℕ) (d : Want) → i < length wants → cond (get_or wants i d).write 1 0 ≤ count_to_write wants
count_one wants i d below = omega (arith, count_parted wants i, count_from wants i d below)

-- once one stands in place of another
pub count_set : (wants : List Want) (i : ℕ) (x d : Want) → i < length wants
    → count_to_write (set wants i x) + cond (get_or wants i d).write 1 0 ≡ count_to_write wants + cond x.write 1 0
count_set wants i x d below = sum_by-set _ wants i x d below

-- once one is put in
pub count_inserted : (wants : List Want) (i : ℕ) (x : Want) → count_to_write (insert wants i x) ≡ count_to_write wants + cond x.write 1 0
count_inserted wants i x = sum_by-insert _ wants i x

-- of a truth value as a number
pub count_bit : (b : Bool) → from_bool b ≡ cond {A = ℕ} b 1 0
count_bit true = refl
count_bit false = refl

-- where one is for writing, one at least is counted
pub is_counted : (wants : List Want) (want : Want) → Contains wants want → want.write ≡ true → 0 < count_to_write wants
is_counted [] want (k, below, is) writes = absurd (omega arith)
is_counted (first ∷ wants) want (zero, below, is) writes =
    let one : cond {A = ℕ} first.write 1 0 ≡ 1 = ap (λ (b : Bool). cond {A = ℕ} b 1 0) (ap (λ (w : Want). w.write) is ∙ writes) in
    omega (arith, one, count_first first wants)
is_counted (first ∷ wants) want (suc k, below, is) writes =
    let behind : 0 < count_to_write wants = is_counted wants want (k, omega arith, is) writes in
    omega (arith, behind, count_first first wants)
