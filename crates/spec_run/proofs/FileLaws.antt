-- What the laws on files come to.
use Rattle.std.proofs.Common.{◌≡◌, ℕ, ◌<◌, ◌+◌, ◌-◌, ◌≤◌, ◌⊎◌, inl, inr, Bool, true, false, List, [], ◌∷◌, find, length, Option, Some, None, option_map, if◌then◌else◌, refl, sym, ◌∙◌, ap}
use Rattle.std.specs.Option.{option_or}
use Rattle.std.proofs.Common.{subst, arith}
use Rattle.net_octets.specs.Octets.{two_at}
use Rattle.world_face.specs.Journal.{Entry, CallFileLen, CallFileRead, LinkWrite, Wait}
use Rattle.world_face.specs.Frames.{goes_out}
use Rattle.slirp_settings.specs.Addresses.{Config}
use Rattle.spec_trace.specs.Moments.{moment}
use Rattle.rules_tftp.specs.Asking.{call_for}
use Rattle.rules_tftp.specs.Transfers.{Quest, Said, SeeksLength, SeeksOctets, Settled as SeeksNothing, Transfer, begun, goes_again, next_again, octets_of, place_of, said_again}
use Rattle.spec_run.specs.Answers.{begins_again, identification, is_free, ledger, may_go_again, serving, unless_begun}
use Rattle.spec_run.specs.Files.{AreInTime, IsAsTold, IsAskedFor, IsBlockAsRead, IsOnItsWay, ReadsWanted, goes_by, is_told_to, sent_again_by, told_by, unless_on_its_way}
use Rattle.spec_run.specs.Laws.{May, Lawful}
use Rattle.rules_tftp.proofs.Choosing.{all_found, found_own}
use Rattle.rules_tftp.proofs.Listing.{same_refl}
use Rattle.rules_tftp.proofs.Repeating.{due_at}
use Rattle.spec_run.proofs.FileCalls.{sought_length, sought_octets}
use Rattle.spec_run.proofs.KeptFiles.{AnswersOptions, IsPacket, IsQuest, Kept, Refuses, TellsBlock, after, asked_for_length, holds, moments_now, now_is, the_call}

-- ---- which calls ask for files

pub length_asked : (config : Config) (past : List Entry) (name : List ℕ) → Lawful config past → May config past (CallFileLen name) → IsAskedFor config past name
length_asked config past name lawful may = asked_for_length config past name (serving config past).files.quest (serving config past).files.transfers
    (holds config past lawful).quest (sought_length config past name may)

pub octets_asked : (config : Config) (past : List Entry) (name : List ℕ) (place asked : ℕ) → Lawful config past → May config past (CallFileRead name place asked) →
    ReadsWanted config past name place asked
octets_asked config past name place asked lawful may = by (serving config past).files.quest (holds config past lawful).quest (sought_octets config past name place asked may)
  where
    by : (q : Quest) → IsQuest config past (serving config past).files.transfers q → call_for q ≡ Some (CallFileRead name place asked) → ReadsWanted config past name place asked
    by SeeksNothing on is = cc
    by (SeeksLength s) on is = cc
    by (SeeksOctets t there) on is =
        let call = the_call t there name place asked (SeeksOctets t there) refl is in
        record {
          block = t;
          wanted = on.1.wanted;
          file_is = call.name_is;
          place_is = call.place_is ∙ ap (λ (o : List ℕ). place_of t + length o) on.1.there_is;
          asked_is = call.asked_is ∙ ap (λ (o : List ℕ). octets_of t - length o) on.1.there_is;
        }

-- ---- blocks

pub block_told : (config : Config) (e : Entry) (past : List Entry) (said : Said) → Lawful config (e ∷ past) → told_by config past e ≡ Some said → two_at said.octets 0 ≡ 3 →
    IsBlockAsRead config (e ∷ past) said
block_told config e past said lawful told opcode = by ((after config e past lawful.0 (holds config past lawful.1)).tells said told)
  where
    by : IsPacket config (e ∷ past) said → IsBlockAsRead config (e ∷ past) said
    by (Refuses code is) = let never : 5 ≡ 3 = sym (ap (λ (o : List ℕ). two_at o 0) is) ∙ opcode in absurd (omega (arith, never))
    by (AnswersOptions terms is) = let never : 6 ≡ 3 = sym (ap (λ (o : List ℕ). two_at o 0) is) ∙ opcode in absurd (omega (arith, never))
    by (TellsBlock block) = block

-- ---- what goes again

-- one that is on its way was sent by an entry since which none began
on_further : (config : Config) (e : Entry) (past : List Entry) (said : Said) → goes_by config past e ≡ None → IsOnItsWay config past said → IsOnItsWay config (e ∷ past) said
on_further config e past said none w = record {
  later = e ∷ w.later;
  sender = w.sender;
  before = w.before;
  record_is = ap (λ (l : List Entry). e ∷ l) w.record_is;
  sent = w.sent;
  none_goes = (subst (λ p. goes_by config p e ≡ None) w.record_is none, w.none_goes);
}

way_by : (config : Config) (e : Entry) (past : List Entry) → ((said : Said) → (serving config past).again ≡ Some said → IsOnItsWay config past said)
    → (said : Said) → (serving config (e ∷ past)).again ≡ Some said → IsOnItsWay config (e ∷ past) said
way_by config (Wait wants timeout answer ready) past before said is = by (serving config past).again before is
  where
    by : (o : Option Said) → ((said : Said) → o ≡ Some said → IsOnItsWay config past said)
        → option_or o (begun (serving config past).now (is_free (ledger config past)) (serving config past).files.transfers) ≡ Some said → IsOnItsWay config
        (Wait wants timeout answer ready ∷ past) said
    by None before is = record { later = []; sender = Wait wants timeout answer ready; before = past; record_is = refl; sent = is; none_goes = tt }
    by (Some other) before is = on_further config (Wait wants timeout answer ready) past said refl (before said is)
way_by config (LinkWrite octets answer) past before said is = by (begins_again config (identification past) (ledger config past) (goes_out (LinkWrite octets answer) past)) refl is
  where
    by : (b : Bool) → begins_again config (identification past) (ledger config past) (goes_out (LinkWrite octets answer) past) ≡ b → unless_begun b
        (serving config past).again ≡ Some said → IsOnItsWay config (LinkWrite octets answer ∷ past) said
    by true begins is = cc
    by false begins is = on_further config (LinkWrite octets answer) past said (ap (λ (b : Bool). if b then may_go_again (serving config past) else None) begins) (before said is)
way_by config e past before said is = on_further config e past said refl (before said is)

on_way : (config : Config) (past : List Entry) (said : Said) → (serving config past).again ≡ Some said → IsOnItsWay config past said
on_way config [] said is = cc
on_way config (e ∷ past) said is = way_by config e past (on_way config past) said is

pub goes_once : (config : Config) (e : Entry) (past : List Entry) (said : Said) → goes_by config past e ≡ Some said → (sent_again_by config past e ≡ Some said) ⊎ IsOnItsWay config past said
goes_once config (LinkWrite octets answer) past said is = by (begins_again config (identification past) (ledger config past) (goes_out (LinkWrite octets answer) past)) refl
  where
    of : (o : Option Said) → (serving config past).again ≡ o → may_go_again (serving config past) ≡ Some said →
        (unless_on_its_way (serving config past).again (goes_by config past (LinkWrite octets answer)) ≡ Some said) ⊎ IsOnItsWay config past said
    of None none may = inl (ap (λ o. unless_on_its_way o (goes_by config past (LinkWrite octets answer))) none ∙ is)
    of (Some other) some may = inr (on_way config past said (some ∙ sym
        (ap (λ o. option_or o (option_map said_again (next_again (serving config past).now (serving config past).files.transfers))) some) ∙ may))

    by : (b : Bool) → begins_again config (identification past) (ledger config past) (goes_out (LinkWrite octets answer) past) ≡ b →
        (unless_on_its_way (serving config past).again (goes_by config past (LinkWrite octets answer)) ≡ Some said) ⊎ IsOnItsWay config past said
    by true begins = of (serving config past).again refl (sym (ap (λ (b : Bool). if b then may_go_again (serving config past) else None) begins) ∙ is)
    by false begins = let never : None ≡ Some said = sym (ap (λ (b : Bool). if b then may_go_again (serving config past) else None) begins) ∙ is in cc
goes_once config _ past said is = cc

-- what is sent again was told by an entry, and is sent in its time
of_transfer : (config : Config) (e : Entry) (past : List Entry) (t : Transfer) → Lawful config past → find (goes_again (serving config past).now)
    (serving config past).files.transfers ≡ Some t → sent_again_by config past e ≡ Some (said_again t) → IsAsTold config e past (said_again t)
of_transfer config e past t lawful found sent =
    let h = holds config past lawful in
    let there = all_found (Kept config past) (goes_again (serving config past).now) (serving config past).files.transfers t h.all found in
    let k = there.0 in
    let due = due_at (serving config past).now t there.1 in
    let at : t.due ≤ (serving config past).now = due.0 in
    let few : t.again < 5 = due.1 in
    let now = now_is config past in
    let same = moments_now config e past t (ap (is_told_to t.guest) sent ∙ same_refl t.guest) k in
    let longer = ap length same in
    let times = k.times in
    let falls = k.due in
    record {
      transfer = t;
      found = found_own (goes_again (serving config past).now) (serving config past).files.transfers t h.apart found;
      packet = refl;
      waits = k.waits;
      later = k.later;
      teller = k.teller;
      before = k.before;
      record_is = k.record_is;
      told = k.told;
      begun = ap (option_map (λ (u : Transfer). u.timeout)) k.begun ∙ ap Some k.timeout;
      now = same;
      five = omega (arith, longer, times, few);
      in_time = subst (AreInTime t.timeout (moment k.before)) (sym same) (omega (arith, falls, at, now), k.in_time);
    }

of_next : (config : Config) (e : Entry) (past : List Entry) (said : Said) → Lawful config past → option_map said_again
    (next_again (serving config past).now (serving config past).files.transfers) ≡ Some said → sent_again_by config past e ≡ Some said → IsAsTold config e past said
of_next config e past said lawful next sent = by (next_again (serving config past).now (serving config past).files.transfers) refl next
  where
    by : (o : Option Transfer) → find (goes_again (serving config past).now) (serving config past).files.transfers ≡ o → option_map said_again o ≡ Some said → IsAsTold config e past said
    by None found is = cc
    by (Some t) found is =
        let same : said_again t ≡ said = cc in
        subst (IsAsTold config e past) same (of_transfer config e past t lawful found (sent ∙ ap Some (sym same)))

by_frame : (config : Config) (e : Entry) (past : List Entry) (said : Said) → Lawful config past → sent_again_by config past e ≡ Some said → unless_on_its_way
    (serving config past).again (goes_by config past e) ≡ Some said → IsAsTold config e past said
by_frame config e past said lawful sent is = by (serving config past).again refl is
  where
    begins : (b : Bool) → (serving config past).again ≡ None → (if b then may_go_again (serving config past) else None) ≡ Some said → IsAsTold config e past said
    begins true none is = of_next config e past said lawful (sym (ap
        (λ o. option_or o (option_map said_again (next_again (serving config past).now (serving config past).files.transfers))) none) ∙ is) sent
    begins false none is = cc

    by : (o : Option Said) → (serving config past).again ≡ o → unless_on_its_way o (goes_by config past e) ≡ Some said → IsAsTold config e past said
    by None none is = begins (begins_again config (identification past) (ledger config past) (goes_out e past)) none is
    by (Some other) some is = cc

pub goes_as_told : (config : Config) (e : Entry) (past : List Entry) (said : Said) → Lawful config past → sent_again_by config past e ≡ Some said → IsAsTold config e past said
goes_as_told config (Wait wants timeout answer ready) past said lawful sent = by (is_free (ledger config past)) refl
  where
    by : (free : Bool) → is_free (ledger config past) ≡ free → IsAsTold config (Wait wants timeout answer ready) past said
    by true free = of_next config (Wait wants timeout answer ready) past said lawful (sym (ap (λ (b : Bool). begun (serving config past).now b (serving config past).files.transfers) free) ∙ sent) sent
    by false free = let never : None ≡ Some said = sym (ap (λ (b : Bool). begun (serving config past).now b (serving config past).files.transfers) free) ∙ sent in cc
goes_as_told config e past said lawful sent = by_frame config e past said lawful sent sent
