-- A block that is read, call by call.
use Rattle.std.proofs.Common.{◌≡◌, ℕ, ◌+◌, ◌-◌, ◌<◌, ◌≤◌, nat_eq, nat_le, true, false, cond, List, [], ◌∷◌, ◌++◌, length, Some, None, refl, sym, ◌∙◌, ap, subst, arith}
use Rattle.std.proofs.lemmas.Bool.Decides.{nat_tests}
use Rattle.world_face.specs.Journal.{Entry, FileRead, CallFileRead}
use Rattle.world_face.specs.Tells.{Answers, Makes, Telling}
use Rattle.world_face.specs.declared.Io.{Io}
use Rattle.world_face.specs.declared.Io.TheVariants.{Done, End, NotYet, Failed}
use Rattle.world_face.proofs.Telling.{makes_as, makes_next, makes_none}
use Rattle.rules_tftp.specs.Transfers.{Outcome, Transfer, octets_of, place_of, reads_on, refuses, seeks_block, sends_block, SeeksOctets, told_octets}
use Rattle.rules_tftp.specs.Asking.{AreAskedFor, after_calls, by_answer, call_for, or_outcome}
use Rattle.rules_tftp.specs.Blocks.{ReadsBlock, ReadsOn}

-- while octets are missing they are asked for
abbrev pub seeking : Transfer → List ℕ → List Transfer → Outcome
seeking t there others = record { files = record { transfers = others; quest = SeeksOctets t there }; told = None }

pub missing : (now : ℕ) (there : List ℕ) (t : Transfer) (others : List Transfer) → length there < octets_of t → reads_on now there t others ≡ seeking t there others
missing now there t others less = ap (λ b. cond b (sends_block now there t others) (seeking t there others)) (few (length there) (octets_of t) less)
  where
    few : (n m : ℕ) → n < m → nat_le m n ≡ false
    few n m less = grind (arith, nat_tests)

pub whole : (now : ℕ) (there : List ℕ) (t : Transfer) (others : List Transfer) → octets_of t ≤ length there → reads_on now there t others ≡ sends_block now there t others
whole now there t others all = ap (λ b. cond b (sends_block now there t others) (seeking t there others)) (enough (octets_of t) (length there) all)
  where
    enough : (n m : ℕ) → n ≤ m → nat_le n m ≡ true
    enough n m all = grind (arith, nat_tests)

-- a block is sought as if none of its octets were there
pub from_none : (now : ℕ) (t : Transfer) (others : List Transfer) → seeks_block now t others ≡ reads_on now [] t others
from_none now t others = ap (λ b. cond b (sends_block now [] t others) (seeking t [] others)) (same (octets_of t))
  where
    same : (n : ℕ) → nat_eq n 0 ≡ nat_le n 0
    same n = grind (arith, nat_tests)

pub none_read : (a : Telling) (now : ℕ) (t : Transfer) (others : List Transfer) → Makes a a (ReadsOn now t others [])
none_read a now t others = makes_none a (ReadsOn now t others []) (record { asked = tt; comes = from_none now t others })

-- one call more
after_one : (now : ℕ) (t : Transfer) (others : List Transfer) (there octets : List ℕ) (answer : Io) (place asked : ℕ) (made : List Entry)
    → after_calls now made (seeks_block now t others) ≡ seeking t there others
    → after_calls now (FileRead t.file place asked answer octets ∷ made) (seeks_block now t others) ≡ told_octets now answer octets there t others
after_one now t others there octets answer place asked made is = ap (λ (o : Outcome). or_outcome (by_answer now (FileRead t.file place asked answer octets) o.files) o) is

asked_one : (now : ℕ) (t : Transfer) (others : List Transfer) (there octets : List ℕ) (answer : Io) (place asked : ℕ) (made : List Entry)
    → after_calls now made (seeks_block now t others) ≡ seeking t there others → place ≡ place_of t + length there → asked ≡ octets_of t - length there → AreAskedFor now
    (seeks_block now t others) made
    → AreAskedFor now (seeks_block now t others) (FileRead t.file place asked answer octets ∷ made)
asked_one now t others there octets answer place asked made is at count before =
    let call : call_for (after_calls now made (seeks_block now t others)).files.quest ≡ Some (CallFileRead t.file place asked) =
    ap (λ (o : Outcome). call_for o.files.quest) is ∙ ap (λ n. Some (CallFileRead t.file n (octets_of t - length there))) (sym at) ∙ ap (λ n. Some (CallFileRead t.file place n)) (sym count) in
    (call, before)

pub read_more : (a b c : Telling) (now : ℕ) (t : Transfer) (others : List Transfer) (file there octets : List ℕ) (n place asked : ℕ)
    → t.file ≡ file → place ≡ place_of t + length there → asked ≡ octets_of t - length there → length there < octets_of t
    → Makes a b (ReadsOn now t others there) → Answers b c (FileRead file place asked (Done n) octets) → Makes a c (ReadsOn now t others (there ++ octets))
read_more a b c now t others file there octets n place asked name at count less so_far answers =
    makes_next a b c (FileRead t.file place asked (Done n) octets) (ReadsOn now t others there) (ReadsOn now t others (there ++ octets)) so_far
    (subst (λ (f : List ℕ). Answers b c (FileRead f place asked (Done n) octets)) (sym name) answers)
    (λ made reads allowed.
    let is = reads.comes ∙ missing now there t others less in
    record { asked = asked_one now t others there octets (Done n) place asked made is at count reads.asked; comes = after_one now t others there octets (Done n) place asked made is })

-- the block can't be read
abbrev pub IsRefused : Io → Type 0
IsRefused (Done n) = ⊥
IsRefused End = Unit {0}
IsRefused NotYet = Unit {0}
IsRefused Failed = Unit {0}

pub refused_if : (answer : Io) → ((n : ℕ) → answer ≡ Done n → ⊥) → IsRefused answer
refused_if (Done n) other = other n refl
refused_if End other = tt
refused_if NotYet other = tt
refused_if Failed other = tt

refused_octets : (now : ℕ) (answer : Io) (octets there : List ℕ) (t : Transfer) (others : List Transfer) → IsRefused answer →
    told_octets now answer octets there t others ≡ refuses 0 t.mac t.guest others
refused_octets now (Done n) octets there t others refuses_it = absurd refuses_it
refused_octets now End octets there t others refuses_it = refl
refused_octets now NotYet octets there t others refuses_it = refl
refused_octets now Failed octets there t others refuses_it = refl

pub read_none : (a b c : Telling) (now : ℕ) (t : Transfer) (others : List Transfer) (file there octets block : List ℕ) (answer : Io) (place asked : ℕ)
    → IsRefused answer → t.file ≡ file → place ≡ place_of t + length there → asked ≡ octets_of t - length there → length there < octets_of t
    → Makes a b (ReadsOn now t others there) → Answers b c (FileRead file place asked answer octets) → Makes a c (ReadsBlock now t others false block)
read_none a b c now t others file there octets block answer place asked refuses_it name at count less so_far answers =
    makes_next a b c (FileRead t.file place asked answer octets) (ReadsOn now t others there) (ReadsBlock now t others false block) so_far
    (subst (λ (f : List ℕ). Answers b c (FileRead f place asked answer octets)) (sym name) answers)
    (λ made reads allowed.
    let is = reads.comes ∙ missing now there t others less in
    record {
      asked = asked_one now t others there octets answer place asked made is at count reads.asked;
      comes = after_one now t others there octets answer place asked made is ∙ refused_octets now answer octets there t others refuses_it;
    })

pub read_all : (a b : Telling) (now : ℕ) (t : Transfer) (others : List Transfer) (block : List ℕ) → octets_of t ≤ length block → Makes a b (ReadsOn now t others block) → Makes a b
    (ReadsBlock now t others true block)
read_all a b now t others block all so_far =
    makes_as a b (ReadsOn now t others block) (ReadsBlock now t others true block) so_far
    (λ made reads. record { asked = reads.asked; comes = reads.comes ∙ whole now block t others all })
