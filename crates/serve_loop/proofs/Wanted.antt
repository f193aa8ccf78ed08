-- What counts of a report: the directions that were waited for.
use Rattle.std.proofs.Common.{◌≡◌, ℕ, zero, suc, ◌<◌, ◌&&◌, ◌||◌, Bool, true, false, List, [], ◌∷◌, ◌++◌, length, get_or, slice_get, Option, Some, None, IfSome, refl, sym, ◌∙◌, ap, arith}
use Rattle.poll_list.specs.Listing.{reads, same_who, writes}
use Rattle.poll_list.specs.declared.Want.{Want}
use Rattle.poll_list.specs.declared.Who.{Who}
use Rattle.poll_list.specs.declared.Who.TheVariants.{Tcp}
use Rattle.spec_run.specs.Agenda.{wanted_of}
use Rattle.slirp_core.specs.Pumps.{TcpOnce}
use Rattle.slirp_core.proofs.Filling.{reads_once, writes_once}

pub some_as : {A : Type 0} (o : Option A) (P Q : A → Type 0) → ((a : A) → P a → Q a) → IfSome o P → IfSome o Q
some_as None P Q as_is some = some
some_as (Some a) P Q as_is some = as_is a some

or_on : (a b c : Bool) → (b ≡ true → c ≡ true) → (a || b) ≡ true → (a || c) ≡ true
or_on true b c later is = refl
or_on false b c later is = later is

-- what is wanted among the first is wanted among all
pub reads_before : (who : Who) (xs ys : List Want) → reads who xs ≡ true → reads who (xs ++ ys) ≡ true
reads_before who [] ys is = cc
reads_before who (x ∷ xs) ys is = or_on (same_who who x.of && x.read) (reads who xs) (reads who (xs ++ ys)) (reads_before who xs ys) is

pub reads_behind : (who : Who) (xs ys : List Want) → reads who ys ≡ true → reads who (xs ++ ys) ≡ true
reads_behind who [] ys is = is
reads_behind who (x ∷ xs) ys is = or_later (same_who who x.of && x.read) (reads who (xs ++ ys)) (reads_behind who xs ys is)
  where
    or_later : (a b : Bool) → b ≡ true → (a || b) ≡ true
    or_later true b is = refl
    or_later false b is = is

-- what stands at a place
there_is : (wants : List Want) (k : ℕ) (want other : Want) → k < length wants → want ≡ get_or wants k other → slice_get wants k ≡ Some want
there_is [] k want other few there = absurd (omega (arith, few))
there_is (x ∷ wants) zero want other few there = ap Some (sym there)
there_is (x ∷ wants) (suc k) want other few there = there_is wants k want other (omega (arith, few)) there

-- the directions of an item of a flow's socket are those of its one want
pub counted_of : (number : ℕ) (before wants : List Want) (k : ℕ) (want other item : Want) → k < length wants → want ≡ get_or wants k other → want.of ≡ Tcp number → TcpOnce
    (before ++ wants) → item.of ≡ Tcp number
    → record { of = item.of; read = item.read && want.read; write = item.write && want.write } ≡ wanted_of (before ++ wants) item
counted_of number before wants k want other item few there of once is =
    let at = there_is wants k want other few there in
    let read : reads item.of (before ++ wants) ≡ want.read = ap (λ who. reads who (before ++ wants)) is ∙ reads_once number want (before ++ wants) before wants k once refl at of in
    let write : writes item.of (before ++ wants) ≡ want.write = ap (λ who. writes who (before ++ wants)) is ∙ writes_once number want (before ++ wants) before wants k once refl at of in
    (λ i. record { of = item.of; read = item.read && sym read i; write = item.write && sym write i })

-- and it is an item of that socket
pub counted_as : (number : ℕ) (wants : List Want) (item w : Want) → item.of ≡ Tcp number → w ≡ wanted_of wants item → wanted_of wants item ≡ record { of = Tcp number; read = w.read; write = w.write }
counted_as number wants item w of is = sym is ∙ ap (λ who. record { of = who; read = w.read; write = w.write }) (ap (λ (x : Want). x.of) is ∙ of)
