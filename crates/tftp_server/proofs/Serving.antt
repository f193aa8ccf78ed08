-- Calls that a packet asks for, one after another.
use Rattle.std.proofs.Common.{◌≡◌, ℕ, true, false, List, [], ◌∷◌, ◌++◌, Option, Some, refl, sym, ◌∙◌, ap, subst}
use Rattle.world_face.specs.Journal.{Entry, call_of}
use Rattle.world_face.specs.Tells.{Makes, Telling, Answers}
use Rattle.world_face.proofs.Telling.{makes_as, makes_none, makes_one, makes_then}
use Rattle.rules_tftp.specs.Transfers.{Outcome, Said, Settled, Transfer, refuses, seeks_block, sends_block}
use Rattle.rules_tftp.specs.Asking.{AreAskedFor, IsServed, after_calls, by_answer, call_for, or_outcome}
use Rattle.rules_tftp.specs.Blocks.{ReadsBlock}

-- nothing is asked for
pub at_once : (now : ℕ) (o : Outcome) (new : List Transfer) (told : Option Said) → o.files.quest ≡ Settled → new ≡ o.files.transfers → told ≡ o.told → IsServed now o new told []
at_once now o new told settled transfers tells = record { asked = tt; settled = settled; transfers = transfers; tells = tells }

pub makes_at_once : (a : Telling) (now : ℕ) (o : Outcome) (new : List Transfer) (told : Option Said) → o.files.quest ≡ Settled → new ≡ o.files.transfers → told ≡ o.told → Makes a a
    (IsServed now o new told)
makes_at_once a now o new told settled transfers tells = makes_none a (IsServed now o new told) (at_once now o new told settled transfers tells)

-- some calls, and then some more
pub calls_then : (now : ℕ) (second first : List Entry) (o : Outcome) → after_calls now (second ++ first) o ≡ after_calls now second (after_calls now first o)
calls_then now [] first o = refl
calls_then now (e ∷ second) first o = ap (λ (p : Outcome). or_outcome (by_answer now e p.files) p) (calls_then now second first o)

asked_then : (now : ℕ) (second first : List Entry) (o : Outcome) → AreAskedFor now o first → AreAskedFor now (after_calls now first o) second → AreAskedFor now o (second ++ first)
asked_then now [] first o before more = before
asked_then now (e ∷ second) first o before more =
    (ap (λ (p : Outcome). call_for p.files.quest) (calls_then now second first o) ∙ more.0, asked_then now second first o before more.1)

pub served_then : (now : ℕ) (o later : Outcome) (new : List Transfer) (told : Option Said) (first second : List Entry) → AreAskedFor now o first → after_calls now first o ≡ later
    → IsServed now later new told second → IsServed now o new told (second ++ first)
served_then now o later new told first second asked is served =
    let here : IsServed now (after_calls now first o) new told second = subst (λ (p : Outcome). IsServed now p new told second) (sym is) served in
    let same = calls_then now second first o in
    record {
      asked = asked_then now second first o asked here.asked;
      settled = ap (λ (p : Outcome). p.files.quest) same ∙ here.settled;
      transfers = here.transfers ∙ sym (ap (λ (p : Outcome). p.files.transfers) same);
      tells = here.tells ∙ sym (ap (λ (p : Outcome). p.told) same);
    }

-- one call, and then what it leads to
pub makes_asked : (a b c : Telling) (now : ℕ) (o later : Outcome) (new : List Transfer) (told : Option Said) (e : Entry) → Answers a b e → call_for o.files.quest ≡ Some (call_of e)
    → or_outcome (by_answer now e o.files) o ≡ later → Makes b c (IsServed now later new told) → Makes a c (IsServed now o new told)
makes_asked a b c now o later new told e answers asked is served =
    makes_then a b c (λ made. ◌≡◌ {A = List Entry} made (e ∷ [])) (IsServed now later new told) (IsServed now o new told)
    (makes_one a b e (λ made. ◌≡◌ {A = List Entry} made (e ∷ [])) answers (λ allowed. refl)) served
    (λ first second one more. subst (λ (xs : List Entry). IsServed now o new told (second ++ xs)) (sym one) (served_then now o later new told (e ∷ []) second (asked, tt) is more))

-- a block was read, or not
pub makes_block : (a b : Telling) (now : ℕ) (t : Transfer) (others new : List Transfer) (told : Option Said) (block : List ℕ) → new ≡ (sends_block now block t others).files.transfers
    → told ≡ (sends_block now block t others).told → Makes a b (ReadsBlock now t others true block) → Makes a b (IsServed now (seeks_block now t others) new told)
makes_block a b now t others new told block transfers tells reads =
    makes_as a b (ReadsBlock now t others true block) (IsServed now (seeks_block now t others) new told) reads (λ made read. record {
      asked = read.asked;
      settled = ap (λ (p : Outcome). p.files.quest) read.comes;
      transfers = transfers ∙ sym (ap (λ (p : Outcome). p.files.transfers) read.comes);
      tells = tells ∙ sym (ap (λ (p : Outcome). p.told) read.comes);
    })

pub makes_no_block : (a b : Telling) (now : ℕ) (t : Transfer) (others : List Transfer) (told : Option Said) (block : List ℕ) → told ≡ (refuses 0 t.mac t.guest others).told
    → Makes a b (ReadsBlock now t others false block) → Makes a b (IsServed now (seeks_block now t others) others told)
makes_no_block a b now t others told block tells reads =
    makes_as a b (ReadsBlock now t others false block) (IsServed now (seeks_block now t others) others told) reads (λ made read. record {
      asked = read.asked;
      settled = ap (λ (p : Outcome). p.files.quest) read.comes;
      transfers = sym (ap (λ (p : Outcome). p.files.transfers) read.comes);
      tells = tells ∙ sym (ap (λ (p : Outcome). p.told) read.comes);
    })
