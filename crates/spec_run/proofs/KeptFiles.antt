-- Each open transfer is as the trace has it: told by an entry, and sent again since in its time; and what is sought is what the datagram that came last asks for.
use Rattle.std.proofs.Common.{◌≡◌, ℕ, ◌+◌, ◌-◌, ◌%◌, ◌^◌, ◌<◌, ◌≤◌, ◌⊎◌, inl, inr, Bool, true, false, List, [], ◌∷◌, ◌++◌, length, find, Option, Some, None, option_map, if◌then◌else◌}
use Rattle.std.specs.Option.{option_or}
use Rattle.std.proofs.Common.{refl, sym, ◌∙◌, ap, subst, arith}
use Rattle.net_octets.specs.declared.Endpoint.{Endpoint}
use Rattle.world_face.specs.Journal.{Entry, Call, CallFileLen, CallFileRead, CallLinkRead, FileLen, FileRead, LinkRead, LinkWrite, Now, Wait, call_of}
use Rattle.world_face.specs.Frames.{goes_out}
use Rattle.world_face.specs.declared.FileSize.{FileSize}
use Rattle.world_face.specs.declared.FileSize.TheVariants.{Length}
use Rattle.world_face.specs.declared.Io.{Io}
use Rattle.slirp_settings.specs.Addresses.{Config}
use Rattle.spec_trace.specs.Happenings.{Arrival, datagram_by, datagram_came, happens}
use Rattle.spec_trace.specs.Moments.{moment}
use Rattle.spec_trace.specs.Packets.{Packet, Unheard, ArpPacket, Message, DatagramPacket, Segment, Datagram}
use Rattle.rules_tftp.specs.Asking.{call_for}
use Rattle.rules_tftp.specs.Laws.{IsInFolder, octets_done, octets_read}
use Rattle.rules_tftp.specs.Packets.{Acknowledges, Asks, Request, Terms, block_octets, error_octets, file_in, is_name, options_octets, packet_in, request_in, terms_of}
use Rattle.rules_tftp.specs.Soundness.{AreApart, WaitsWell}
use Rattle.rules_tftp.specs.Transfers.{Files, Outcome, Quest, Said, SeeksLength, SeeksOctets, Settled as SeeksNothing, Sought, Transfer, are_left, begun, goes_again, is_for, length_came, next_again}
use Rattle.rules_tftp.specs.Transfers.{octets_came, octets_of, place_of, said_again, sending, sent_again, ticked, ticked_by, transfer, with_again}
use Rattle.rules_tftp.proofs.Choosing.{AllTransfers, IfThere, all_filtered, all_found, all_last, all_so, if_there}
use Rattle.rules_tftp.proofs.Listing.{apart_again, apart_filter, apart_push, same_refl, same_swap}
use Rattle.rules_tftp.proofs.Repeating.{due_at}
use Rattle.rules_tftp.proofs.Staying.{parts_below}
use Rattle.rules_tftp.proofs.Waiting.{terms_well}
use Rattle.spec_run.specs.Answers.{Serving, begins_again, begun_by, files_after, files_begun, files_by_call, files_by_verdict, files_by_packet, files_sent, identification, is_free, ledger}
use Rattle.spec_run.specs.Answers.{may_go_again, served_file, serving}
use Rattle.spec_run.specs.Datagrams.{DatagramVerdict, Ignored, Refused, ForLeases, ForFiles, GoesTo, datagram_verdict}
use Rattle.spec_run.specs.Files.{AreInTime, AreReadsOfIt, IsAskedFor, IsBlockAsRead, IsFirstBlock, IsNextBlock, IsWanted, before_last, is_told_to, length_found, length_of, moments_again}
use Rattle.spec_run.specs.Files.{or_made, sent_again_by, since_last, told_at, told_by, told_by_verdict, told_by_packet, unless_came, unless_on_its_way}
use Rattle.spec_run.specs.Laws.{May, Lawful}
use Rattle.spec_run.specs.Ports.{last_datagram}
use Rattle.spec_run.proofs.FileCalls.{settled, sought_octets}
use Rattle.spec_run.proofs.Outcomes.{AnError, APacket, Comes, IsNew, MakesPackets, Nothing, OnQuest, Tells, all_again, length_comes, octets_come, packet_comes}

-- ---- what is sought

abbrev NoReads : List Entry → Type 0
NoReads [] = Unit {0}
NoReads (FileRead name place asked answer octets ∷ made) = ⊥
NoReads (_ ∷ made) = NoReads made

-- a file whose length isn't known yet
pub record IsSought (config : Config) (past : List Entry) (s : Sought) : Type 0 where
  pub asked : IsAskedFor config past s.file
  pub options : s.options ≡ asked.asks.request.options
  pub none : NoReads (since_last config past)

-- a block of which these octets are there
pub record IsRead (config : Config) (past : List Entry) (t : Transfer) (there : List ℕ) : Type 0 where
  pub wanted : IsWanted config past t
  pub waits : WaitsWell t.timeout
  pub reads : AreReadsOfIt t (since_last config past)
  pub there_is : there ≡ octets_read (since_last config past)

abbrev pub IsQuest : Config → List Entry → List Transfer → Quest → Type 0
IsQuest config past transfers quest = OnQuest (IsSought config past) (IsRead config past) transfers quest

-- ---- an entry by which no datagram came

record SameLast (config : Config) (e : Entry) (past : List Entry) : Type 0 where
  last : last_datagram config (e ∷ past) ≡ last_datagram config past
  before : before_last config (e ∷ past) ≡ before_last config past
  since : since_last config (e ∷ past) ≡ e ∷ since_last config past

same_last : (config : Config) (e : Entry) (past : List Entry) → datagram_came (happens config past e).came ≡ None → SameLast config e past
same_last config e past none = record {
  last = ap (λ o. option_or o (last_datagram config past)) none;
  before = ap (λ o. unless_came o past (before_last config past)) none;
  since = ap (λ o. unless_came o [] (e ∷ since_last config past)) none;
}

abbrev is_on_file : Entry → Bool
is_on_file (FileLen name answer) = true
is_on_file (FileRead name place asked answer octets) = true
is_on_file _ = false

-- one that is on no file changes nothing of what was read
record Quiet (e : Entry) (made : List Entry) : Type 0 where
  found : length_found (e ∷ made) ≡ length_found made
  octets : octets_read (e ∷ made) ≡ octets_read made
  reads : (t : Transfer) → AreReadsOfIt t made → AreReadsOfIt t (e ∷ made)
  none : NoReads made → NoReads (e ∷ made)

quiet : (e : Entry) (made : List Entry) → is_on_file e ≡ false → Quiet e made
quiet (FileLen name answer) made other = cc
quiet (FileRead name place asked answer octets) made other = cc
quiet _ made other = record { found = refl; octets = refl; reads = λ t is. is; none = λ is. is }

abbrev asked_on : (config : Config) (e : Entry) (past : List Entry) (file : List ℕ) → SameLast config e past → IsAskedFor config past file → IsAskedFor config (e ∷ past) file
asked_on config e past file same is = record { datagram = is.datagram; last = same.last ∙ is.last; asks = is.asks }

wanted_on : (config : Config) (e : Entry) (past : List Entry) (t : Transfer) → SameLast config e past → length_found (e ∷ since_last config past) ≡ length_found
    (since_last config past) → IsWanted config past t → IsWanted config (e ∷ past) t
wanted_on config e past t same found is = record {
  datagram = is.datagram;
  last = same.last ∙ is.last;
  inside = is.inside;
  which = by is.which;
}
  where
    by : IsFirstBlock config is.datagram (since_last config past) t ⊎ IsNextBlock config (serving config (before_last config past)).files.transfers is.datagram t
        → IsFirstBlock config is.datagram (since_last config (e ∷ past)) t ⊎ IsNextBlock config (serving config (before_last config (e ∷ past))).files.transfers is.datagram t
    by (inl f) = inl (record { asks = f.asks; found = ap length_found same.since ∙ found ∙ f.found; terms = f.terms; agreed = f.agreed; size = f.size; first = f.first })
    by (inr n) = inr (subst (λ p. IsNextBlock config (serving config p).files.transfers is.datagram t) (sym same.before) n)

quest_on : (config : Config) (e : Entry) (past : List Entry) (transfers : List Transfer) (quest : Quest) → SameLast config e past → is_on_file e ≡ false →
    IsQuest config past transfers quest → IsQuest config (e ∷ past) transfers quest
quest_on config e past transfers SeeksNothing same other is = tt
quest_on config e past transfers (SeeksLength s) same other is =
    let q = quiet e (since_last config past) other in
    (is.0, record { asked = asked_on config e past s.file same is.1.asked; options = is.1.options; none = subst NoReads (sym same.since) (q.none is.1.none) })
quest_on config e past transfers (SeeksOctets t there) same other is =
    let q = quiet e (since_last config past) other in (
      is.0,
      record {
        wanted = wanted_on config e past t same q.found is.1.wanted;
        waits = is.1.waits;
        reads = subst (AreReadsOfIt t) (sym same.since) (q.reads t is.1.reads);
        there_is = is.1.there_is ∙ sym q.octets ∙ ap octets_read (sym same.since);
      },
    )

-- ---- transfers

pub record Kept (config : Config) (past : List Entry) (t : Transfer) : Type 0 where
  pub later : List Entry
  pub teller : Entry
  pub before : List Entry
  pub record_is : past ≡ later ++ (teller ∷ before)
  pub told : told_by config before teller ≡ Some (said_again t)
  pub transfer : Transfer
  pub begun : find (is_for t.guest) (serving config (teller ∷ before)).files.transfers ≡ Some transfer
  pub timeout : transfer.timeout ≡ t.timeout
  pub inside : IsInFolder config.tftp_path t.file
  pub waits : WaitsWell t.timeout
  pub times : length (moments_again config t.guest later (teller ∷ before)) ≡ t.again
  pub few : t.again ≤ 5
  pub in_time : AreInTime t.timeout (moment before) (moments_again config t.guest later (teller ∷ before))
  pub due : t.due ≡ or_made (moment before) (moments_again config t.guest later (teller ∷ before)) + t.timeout
  pub soon : t.due ≤ moment past + t.timeout

-- a moment is in force until a later one is
pub rises : (e : Entry) (past : List Entry) → moment past ≤ moment (e ∷ past)
rises (Now told) past = omega arith
rises _ past = omega arith

-- it goes on to be kept, with so many times and the moment at which it is due
goes_on : (config : Config) (e : Entry) (past : List Entry) (t : Transfer) (again due : ℕ) (k : Kept config past t)
    → length (moments_again config t.guest (e ∷ k.later) (k.teller ∷ k.before)) ≡ again → again ≤ 5
    → AreInTime t.timeout (moment k.before) (moments_again config t.guest (e ∷ k.later) (k.teller ∷ k.before))
    → due ≡ or_made (moment k.before) (moments_again config t.guest (e ∷ k.later) (k.teller ∷ k.before)) + t.timeout → due ≤ moment (e ∷ past) + t.timeout
    → Kept config (e ∷ past) (record t { again = again; due = due })
goes_on config e past t again due k times few in_time falls soon = record {
  later = e ∷ k.later;
  teller = k.teller;
  before = k.before;
  record_is = ap (λ (l : List Entry). e ∷ l) k.record_is;
  told = k.told;
  transfer = k.transfer;
  begun = k.begun;
  timeout = k.timeout;
  inside = k.inside;
  waits = k.waits;
  times = times;
  few = few;
  in_time = in_time;
  due = falls;
  soon = soon;
}

-- an entry that doesn't send it again
kept_on : (config : Config) (e : Entry) (past : List Entry) (t : Transfer) → is_told_to t.guest (sent_again_by config past e) ≡ false → Kept config past t → Kept config (e ∷ past) t
kept_on config e past t none k =
    let here = k.later ++ (k.teller ∷ k.before) in
    let m = moments_again config t.guest k.later (k.teller ∷ k.before) in
    let other : is_told_to t.guest (sent_again_by config here e) ≡ false = subst (λ p. is_told_to t.guest (sent_again_by config p e) ≡ false) k.record_is none in
    let same : moments_again config t.guest (e ∷ k.later) (k.teller ∷ k.before) ≡ m = ap (λ (b : Bool). if b then moment here ∷ m else m) other in
    goes_on config e past t t.again t.due k (ap length same ∙ k.times) k.few (subst (AreInTime t.timeout (moment k.before)) (sym same) k.in_time)
    (k.due ∙ ap (λ (l : List ℕ). or_made (moment k.before) l + t.timeout) (sym same)) (let before = k.soon in let later = rises e past in omega (arith, before, later))

-- and one that does: its moment counts
pub moments_now : (config : Config) (e : Entry) (past : List Entry) (t : Transfer) → is_told_to t.guest (sent_again_by config past e) ≡ true → (k : Kept config past t)
    → moments_again config t.guest (e ∷ k.later) (k.teller ∷ k.before) ≡ moment past ∷ moments_again config t.guest k.later (k.teller ∷ k.before)
moments_now config e past t this k =
    let here = k.later ++ (k.teller ∷ k.before) in
    let m = moments_again config t.guest k.later (k.teller ∷ k.before) in
    let that : is_told_to t.guest (sent_again_by config here e) ≡ true = subst (λ p. is_told_to t.guest (sent_again_by config p e) ≡ true) k.record_is this in
    ap (λ (b : Bool). if b then moment here ∷ m else m) that ∙ ap (λ p. moment p ∷ m) (sym k.record_is)

kept_again : (config : Config) (e : Entry) (past : List Entry) (t : Transfer) → is_told_to t.guest (sent_again_by config past e) ≡ true → t.due ≤ moment past → t.again < 5 →
    Kept config past t → Kept config (e ∷ past) (sent_again (moment past) t)
kept_again config e past t this due few k =
    let m = moments_again config t.guest k.later (k.teller ∷ k.before) in
    let same = moments_now config e past t this k in
    let times : length m ≡ t.again = k.times in
    let falls : t.due ≡ or_made (moment k.before) m + t.timeout = k.due in
    goes_on config e past t (t.again + 1) (moment past + t.timeout) k (ap length same ∙ (let one : length (moment past ∷ m) ≡ t.again + 1 = omega (arith, times) in one))
    (omega (arith, few)) (subst (AreInTime t.timeout (moment k.before)) (sym same) (omega (arith, falls, due), k.in_time))
    (ap (λ (l : List ℕ). or_made (moment k.before) l + t.timeout) (sym same)) (let later = rises e past in omega (arith, later))

-- ---- what holds at every moment

pub record HoldsOf (config : Config) (past : List Entry) (files : Files) : Type 0 where
  pub all : AllTransfers (Kept config past) files.transfers
  pub apart : AreApart files.transfers
  pub quest : IsQuest config past files.transfers files.quest

-- what an entry tells holds
pub record IsTold (config : Config) (e : Entry) (past : List Entry) (t : Transfer) : Type 0 where
  pub inside : IsInFolder config.tftp_path t.file
  pub waits : WaitsWell t.timeout
  pub packet : ((terms : Terms) × (t.packet ≡ options_octets terms)) ⊎ IsBlockAsRead config (e ∷ past) (said_again t)

pub now_is : (config : Config) (past : List Entry) → (serving config past).now ≡ moment past
now_is config [] = refl
now_is config (e ∷ past) = refl

-- ---- packets of transfers

whole_block : (config : Config) (e : Entry) (past : List Entry) (now : ℕ) → MakesPackets (IsTold config e past) (IsRead config (e ∷ past)) now
whole_block config e past now t there is enough = record {
  inside = is.wanted.inside;
  waits = is.waits;
  packet = inr (record {
    block = t;
    wanted = is.wanted;
    guest = refl;
    reads = is.reads;
    octets = ap (block_octets (t.block % 2 ^ 16)) is.there_is;
    whole = subst (λ (o : List ℕ). octets_of t ≤ length o) is.there_is enough;
  });
}

-- the one that is told is found after it
found_last : (transfers : List Transfer) (t : Transfer) → find (is_for t.guest) transfers ≡ None → find (is_for t.guest) (transfers ++ (t ∷ [])) ≡ Some t
found_last [] t none = ap (λ (b : Bool). if b then Some t else None) (same_refl t.guest)
found_last (u ∷ transfers) t none = by (is_for t.guest u) none (λ rest. found_last transfers t rest)
  where
    by : (b : Bool) → (if b then Some u else find (is_for t.guest) transfers) ≡ None → (find (is_for t.guest) transfers ≡ None → find (is_for t.guest)
        (transfers ++ (t ∷ [])) ≡ Some t) → (if b then Some u else find (is_for t.guest) (transfers ++ (t ∷ []))) ≡ Some t
    by true none rest = cc
    by false none rest = rest none

new_kept : (config : Config) (e : Entry) (past : List Entry) (o : Outcome) (others : List Transfer) → (serving config (e ∷ past)).files ≡ o.files → told_by config past e ≡ o.told →
    (n : IsNew (IsTold config e past) (serving config past).now o others) → Kept config (e ∷ past) n.t
new_kept config e past o others files told n = record {
  later = [];
  teller = e;
  before = past;
  record_is = refl;
  told = told ∙ n.told;
  transfer = n.t;
  begun = ap (λ (f : Files). find (is_for n.t.guest) f.transfers) files ∙ ap (find (is_for n.t.guest)) n.list ∙ found_last others n.t n.fresh;
  timeout = refl;
  inside = n.is.inside;
  waits = n.is.waits;
  times = sym n.again;
  few = (let none = n.again in omega (arith, none));
  in_time = tt;
  due = n.due ∙ ap (λ now. now + n.t.timeout) (now_is config past);
  soon = (let at = n.due in let now = now_is config past in let later = rises e past in omega (arith, at, now, later));
}

-- ---- what an entry tells

pub data IsPacket (config : Config) (past : List Entry) (said : Said) : Type 0 where
  Refuses : (code : ℕ) → said.octets ≡ error_octets code → IsPacket config past said
  AnswersOptions : (terms : Terms) → said.octets ≡ options_octets terms → IsPacket config past said
  TellsBlock : IsBlockAsRead config past said → IsPacket config past said

-- what holds after an entry
pub record Step (config : Config) (e : Entry) (past : List Entry) (files : Files) : Type 0 where
  pub holds : HoldsOf config (e ∷ past) files
  pub tells : (said : Said) → told_by config past e ≡ Some said → IsPacket config (e ∷ past) said

abbrev ComesSo : Config → Entry → List Entry → Outcome → Type 0
ComesSo config e past o = Comes (Kept config (e ∷ past)) (IsTold config e past) (IsSought config (e ∷ past)) (IsRead config (e ∷ past)) (serving config past).now o

by_outcome : (config : Config) (e : Entry) (past : List Entry) (o : Outcome) → (serving config (e ∷ past)).files ≡ o.files → told_by config past e ≡ o.told →
    ComesSo config e past o → Step config e past o.files
by_outcome config e past o files told c = by c.tells
  where
    these : o.files.transfers ≡ c.others → HoldsOf config (e ∷ past) o.files
    these list = record {
      all = subst (AllTransfers (Kept config (e ∷ past))) (sym list) c.all;
      apart = subst AreApart (sym list) c.apart;
      quest = subst (λ ts. IsQuest config (e ∷ past) ts o.files.quest) (sym list) c.quest;
    }

    by : Tells (IsTold config e past) (serving config past).now o c.others → Step config e past o.files
    by (Nothing list none) = record { holds = these list; tells = λ said is. (let never : None ≡ Some said = sym (told ∙ none) ∙ is in cc) }
    by (AnError other code list is octets) = record {
      holds = these list;
      tells = λ said that. (let same : other ≡ said = (let both : Some other ≡ Some said = sym (told ∙ is) ∙ that in cc) in Refuses code (ap (λ (s : Said). s.octets) (sym same) ∙ octets));
    }
    by (APacket n) = record {
      holds = record {
        all = subst (AllTransfers (Kept config (e ∷ past))) (sym n.list) (all_last (Kept config (e ∷ past)) c.others n.t c.all (new_kept config e past o c.others files told n));
        apart = subst AreApart (sym n.list) (apart_push c.others n.t c.apart n.fresh);
        quest = subst (IsQuest config (e ∷ past) o.files.transfers) (sym n.settled) tt;
      };
      tells = λ said that. (let same : said_again n.t ≡ said = (let both : Some (said_again n.t) ≡ Some said = sym (told ∙ n.told) ∙ that in cc) in subst
          (IsPacket config (e ∷ past)) same (packet n.is.packet));
    }
      where
        packet : ((terms : Terms) × (n.t.packet ≡ options_octets terms)) ⊎ IsBlockAsRead config (e ∷ past) (said_again n.t) → IsPacket config (e ∷ past) (said_again n.t)
        packet (inl options) = AnswersOptions options.0 options.1
        packet (inr block) = TellsBlock block

-- an entry that changes nothing of files
not_sent : (guest : Endpoint) (o : Option Said) → is_told_to guest (unless_on_its_way o None) ≡ false
not_sent guest None = refl
not_sent guest (Some said) = refl

kept_all : (config : Config) (e : Entry) (past : List Entry) (transfers : List Transfer) → ((guest : Endpoint) → is_told_to guest (sent_again_by config past e) ≡ false) →
    AllTransfers (Kept config past) transfers → AllTransfers (Kept config (e ∷ past)) transfers
kept_all config e past transfers none all = all_so (Kept config past) (Kept config (e ∷ past)) transfers (λ t k. kept_on config e past t (none t.guest) k) all

tells_none : (config : Config) (e : Entry) (past : List Entry) → told_by config past e ≡ None → (said : Said) → told_by config past e ≡ Some said → IsPacket config (e ∷ past) said
tells_none config e past none said is = let never : None ≡ Some said = sym none ∙ is in cc

-- one after which nothing is sought
with_settled : (config : Config) (e : Entry) (past : List Entry) (files : Files) → ((guest : Endpoint) → is_told_to guest (sent_again_by config past e) ≡ false) →
    told_by config past e ≡ None → files.quest ≡ SeeksNothing → HoldsOf config past files → Step config e past files
with_settled config e past files none told settles h = record {
  holds = record { all = kept_all config e past files.transfers none h.all; apart = h.apart; quest = subst (IsQuest config (e ∷ past) files.transfers) (sym settles) tt };
  tells = tells_none config e past told;
}

same_files : (config : Config) (e : Entry) (past : List Entry) (files : Files) → SameLast config e past → is_on_file e ≡ false →
    ((guest : Endpoint) → is_told_to guest (sent_again_by config past e) ≡ false) → told_by config past e ≡ None → HoldsOf config past files → Step config e past files
same_files config e past files same other none told h = record {
  holds = record { all = kept_all config e past files.transfers none h.all; apart = h.apart; quest = quest_on config e past files.transfers files.quest same other h.quest };
  tells = tells_none config e past told;
}

-- ---- by a datagram

-- it is the one that came last then
record IsLast (config : Config) (e : Entry) (past : List Entry) (d : Datagram) : Type 0 where
  last : last_datagram config (e ∷ past) ≡ Some d
  before : before_last config (e ∷ past) ≡ past
  since : since_last config (e ∷ past) ≡ []

is_last_one : (config : Config) (e : Entry) (past : List Entry) (d : Datagram) → datagram_came (happens config past e).came ≡ Some d → IsLast config e past d
is_last_one config e past d is = record {
  last = ap (λ o. option_or o (last_datagram config past)) is;
  before = ap (λ o. unless_came o past (before_last config past)) is;
  since = ap (λ o. unless_came o [] (e ∷ since_last config past)) is;
}

module _ (config : Config) (e : Entry) (past : List Entry) (d : Datagram) (to_server : datagram_verdict config d ≡ ForFiles) (came : IsLast config e past d) where
  asks : (texts : List ℕ) (r : Request) → packet_in d.body ≡ Asks texts → request_in texts ≡ Some r → (at : List ℕ) → config.tftp_path ≡ Some at → is_name r.name ≡ true
      → IsSought config (e ∷ past) (record { guest = d.from; mac = d.mac; file = file_in at r.name; options = r.options })
  asks texts r packet reads at given taken = record {
    asked = record {
      datagram = d;
      last = came.last;
      asks = record { to_server = to_server; texts = texts; asks = packet; request = r; reads = reads; folder = at; given = given; taken = taken; below = parts_below r.name taken; is = refl };
    };
    options = refl;
    none = subst NoReads (sym came.since) tt;
  }

  next : (t : Transfer) → AllTransfers (Kept config past) (serving config past).files.transfers → packet_in d.body ≡ Acknowledges (t.block % 2 ^ 16) → find (is_for d.from)
      (serving config past).files.transfers ≡ Some t → t.is_last ≡ false
      → IsRead config (e ∷ past) (record t { block = t.block + 1 }) []
  next t all packet found more = record {
    wanted = record {
      datagram = d;
      last = came.last;
      inside = (all_found (Kept config past) (is_for d.from) (serving config past).files.transfers t all found).0.inside;
      which = inr (record {
        to_server = to_server;
        before = t;
        found = subst (λ p. find (is_for d.from) (serving config p).files.transfers ≡ Some t) (sym came.before) found;
        acknowledges = packet;
        more = more;
        is = refl;
      });
    };
    waits = (all_found (Kept config past) (is_for d.from) (serving config past).files.transfers t all found).0.waits;
    reads = subst (AreReadsOfIt (record t { block = t.block + 1 })) (sym came.since) tt;
    there_is = ap octets_read (sym came.since);
  }

-- those that stay of an entry by which nothing is sent again
stay : (config : Config) (e : Entry) (past : List Entry) → ((guest : Endpoint) → is_told_to guest (sent_again_by config past e) ≡ false) → HoldsOf config past
    (serving config past).files → AllTransfers (Kept config (e ∷ past)) (serving config past).files.transfers
stay config e past none h = kept_all config e past (serving config past).files.transfers none h.all

for_files : (config : Config) (e : Entry) (past : List Entry) (arrival : Arrival) (d : Datagram) → (happens config past e).came ≡ Some arrival → arrival.packet ≡ DatagramPacket d →
    datagram_verdict config d ≡ ForFiles
    → ((guest : Endpoint) → is_told_to guest (sent_again_by config past e) ≡ false) → HoldsOf config past (serving config past).files → Step config e past
    (served_file config (serving config past) d).files
for_files config e past arrival d came packet to_server none h =
    let o = served_file config (serving config past) d in
    let last = is_last_one config e past d (ap datagram_came came ∙ ap datagram_by packet) in
    by_outcome config e past o
    (ap (λ a. files_after config past (happens config past e) a (ledger config past)) came ∙ ap (files_by_packet config (serving config past)) packet ∙ ap
    (files_by_verdict config (serving config past) d) to_server)
    (ap (λ a. told_at config (serving config past) a e) came ∙ ap (told_by_packet config (serving config past)) packet ∙ ap (told_by_verdict config (serving config past) d) to_server)
    (packet_comes (Kept config (e ∷ past)) (IsTold config e past) (IsSought config (e ∷ past)) (IsRead config (e ∷ past)) (serving config past).now
    (whole_block config e past (serving config past).now) d.mac d.from config.tftp_path (packet_in d.body)
    (serving config past).files.transfers (stay config e past none h) h.apart (asks config e past d to_server last)
    (λ t packet found more. next config e past d to_server last t h.all packet found more))

by_packet : (config : Config) (e : Entry) (past : List Entry) (arrival : Arrival) (packet : Packet) → (happens config past e).came ≡ Some arrival → arrival.packet ≡ packet →
    (serving config past).files.quest ≡ SeeksNothing
    → ((guest : Endpoint) → is_told_to guest (sent_again_by config past e) ≡ false) → HoldsOf config past (serving config past).files → Step config e past
    (files_by_packet config (serving config past) packet)
by_packet config e past arrival (DatagramPacket d) came is settles none h = by (datagram_verdict config d) refl
  where
    told : (what : DatagramVerdict) → datagram_verdict config d ≡ what → told_by config past e ≡ told_by_verdict config (serving config past) d what
    told what to = ap (λ a. told_at config (serving config past) a e) came ∙ ap (told_by_packet config (serving config past)) is ∙ ap (told_by_verdict config (serving config past) d) to

    by : (what : DatagramVerdict) → datagram_verdict config d ≡ what → Step config e past (files_by_verdict config (serving config past) d what)
    by ForFiles to = for_files config e past arrival d came is to none h
    by Ignored to = with_settled config e past (serving config past).files none (told Ignored to) settles h
    by Refused to = with_settled config e past (serving config past).files none (told Refused to) settles h
    by ForLeases to = with_settled config e past (serving config past).files none (told ForLeases to) settles h
    by (GoesTo at) to = with_settled config e past (serving config past).files none (told (GoesTo at) to) settles h
by_packet config e past arrival Unheard came is settles none h =
    with_settled config e past (serving config past).files none (ap (λ a. told_at config (serving config past) a e) came ∙ ap (told_by_packet config (serving config past)) is) settles h
by_packet config e past arrival (ArpPacket arp) came is settles none h =
    with_settled config e past (serving config past).files none (ap (λ a. told_at config (serving config past) a e) came ∙ ap (told_by_packet config (serving config past)) is) settles h
by_packet config e past arrival (Message mac ip message) came is settles none h =
    with_settled config e past (serving config past).files none (ap (λ a. told_at config (serving config past) a e) came ∙ ap (told_by_packet config (serving config past)) is) settles h
by_packet config e past arrival (Segment mac ip tcp) came is settles none h =
    with_settled config e past (serving config past).files none (ap (λ a. told_at config (serving config past) a e) came ∙ ap (told_by_packet config (serving config past)) is) settles h

by_arrival : (config : Config) (e : Entry) (past : List Entry) (arrival : Arrival) → (happens config past e).came ≡ Some arrival → May config past (call_of e) → HoldsOf config past
    (serving config past).files
    → Step config e past (files_by_packet config (serving config past) arrival.packet)
by_arrival config (LinkRead asked answer octets) past arrival came may h =
    by_packet config (LinkRead asked answer octets) past arrival arrival.packet came refl (settled config past (CallLinkRead asked) (λ never. never) may)
    (λ guest. not_sent guest (serving config past).again) h
by_arrival config _ past arrival came may h = cc

-- ---- by an answer of a file

no_reads : (t : Transfer) (made : List Entry) → NoReads made → AreReadsOfIt t made × (octets_read made ≡ [])
no_reads t [] none = (tt, refl)
no_reads t (FileRead name place asked answer octets ∷ made) none = absurd none
no_reads t (_ ∷ made) none = no_reads t made none

inside_of : (config : Config) (past : List Entry) (file : List ℕ) → IsAskedFor config past file → IsInFolder config.tftp_path file
inside_of config past file a = record { at = a.asks.folder; name = a.asks.request.name; folder_is = a.asks.given; taken = a.asks.taken; file_is = a.asks.is }

starts : (config : Config) (name : List ℕ) (answer : FileSize) (past : List Entry) (s : Sought) (n : ℕ) (terms : Terms) → IsSought config past s → answer ≡ Length n → terms_of n s.options ≡ Some terms
    → IsTold config (FileLen name answer) past (sending (serving config past).now false (options_octets terms) (transfer n s terms)) × IsRead config (FileLen name answer ∷ past)
    (record (transfer n s terms) { block = 1 }) []
starts config name answer past s n terms is length agreed =
    let nothing = no_reads (record (transfer n s terms) { block = 1 }) (since_last config past) is.none in
    let waits = terms_well n s.options terms agreed in (
      record { inside = inside_of config past s.file is.asked; waits = waits; packet = inl (terms, refl) },
      record {
        wanted = record {
          datagram = is.asked.datagram;
          last = is.asked.last;
          inside = inside_of config past s.file is.asked;
          which = inl (record { asks = is.asked.asks; found = ap length_of length; terms = terms; agreed = ap (terms_of n) (sym is.options) ∙ agreed; size = refl; first = refl });
        };
        waits = waits;
        reads = nothing.0;
        there_is = sym nothing.1;
      },
    )

by_length : (config : Config) (name : List ℕ) (answer : FileSize) (past : List Entry) → HoldsOf config past (serving config past).files
    → Step config (FileLen name answer) past (length_came (serving config past).now answer (serving config past).files.quest (serving config past).files.transfers).files
by_length config name answer past h =
    let e = FileLen name answer in
    let s = serving config past in
    by_outcome config e past (length_came s.now answer s.files.quest s.files.transfers) refl refl
    (length_comes (Kept config (e ∷ past)) (IsTold config e past) (IsSought config (e ∷ past)) (IsRead config (e ∷ past)) s.now (whole_block config e past s.now)
    (IsSought config past) (IsRead config past) answer s.files.quest
    s.files.transfers (stay config e past (λ guest. not_sent guest s.again) h) h.apart h.quest (λ sought n terms is length agreed. starts config name answer past sought n terms is length agreed))

-- the call that a block asks for is this one
pub record IsCall (t : Transfer) (there name : List ℕ) (place asked : ℕ) : Type 0 where
  pub name_is : name ≡ t.file
  pub place_is : place ≡ place_of t + length there
  pub asked_is : asked ≡ octets_of t - length there

abbrev name_in : Call → List ℕ
name_in (CallFileRead name place asked) = name
name_in _ = []

abbrev place_in : Call → ℕ
place_in (CallFileRead name place asked) = place
place_in _ = 0

abbrev asked_in : Call → ℕ
asked_in (CallFileRead name place asked) = asked
asked_in _ = 0

pub the_call : (t : Transfer) (there name : List ℕ) (place asked : ℕ) (quest : Quest) → quest ≡ SeeksOctets t there → call_for quest ≡ Some (CallFileRead name place asked) →
    IsCall t there name place asked
the_call t there name place asked quest is due =
    let both : Some (CallFileRead t.file (place_of t + length there) (octets_of t - length there)) ≡ Some (CallFileRead name place asked) = sym (ap call_for is) ∙ due in
    let one : CallFileRead t.file (place_of t + length there) (octets_of t - length there) ≡ CallFileRead name place asked = cc in
    record { name_is = sym (ap name_in one); place_is = sym (ap place_in one); asked_is = sym (ap asked_in one) }

more : (config : Config) (name : List ℕ) (place asked : ℕ) (answer : Io) (octets : List ℕ) (past : List Entry) (t : Transfer) (there : List ℕ) → IsCall t there name place asked →
    IsRead config past t there
    → IsRead config (FileRead name place asked answer octets ∷ past) t (there ++ octets_done answer octets)
more config name place asked answer octets past t there call is = record {
  wanted = wanted_on config (FileRead name place asked answer octets) past t (same_last config (FileRead name place asked answer octets) past refl) refl is.wanted;
  waits = is.waits;
  reads = (
    call.name_is,
    call.place_is ∙ ap (λ (o : List ℕ). place_of t + length o) is.there_is,
    call.asked_is ∙ ap (λ (o : List ℕ). octets_of t - length o) is.there_is,
    is.reads,
  );
  there_is = ap (λ (o : List ℕ). o ++ octets_done answer octets) is.there_is;
}

by_octets : (config : Config) (name : List ℕ) (place asked : ℕ) (answer : Io) (octets : List ℕ) (past : List Entry) → May config past (CallFileRead name place asked) →
    HoldsOf config past (serving config past).files
    → Step config (FileRead name place asked answer octets) past (octets_came (serving config past).now answer octets (serving config past).files.quest (serving config past).files.transfers).files
by_octets config name place asked answer octets past may h =
    let e = FileRead name place asked answer octets in
    let s = serving config past in
    by_outcome config e past (octets_came s.now answer octets s.files.quest s.files.transfers) refl refl
    (octets_come (Kept config (e ∷ past)) (IsTold config e past) (IsSought config (e ∷ past)) (IsRead config (e ∷ past)) s.now (whole_block config e past s.now)
    (IsSought config past) (IsRead config past) answer octets s.files.quest
    s.files.transfers (stay config e past (λ guest. not_sent guest s.again) h) h.apart h.quest
    (λ t there is read. more config name place asked answer octets past t there (the_call t there name place asked s.files.quest is (sought_octets config past name place asked may)) read))

-- ---- packets that go again

-- the one that is due goes again, of these
goes_too : (config : Config) (e : Entry) (past : List Entry) (t : Transfer) (ts : List Transfer) → sent_again_by config past e ≡ Some (said_again t) → AllTransfers
    (IfThere (Kept config past) (goes_again (serving config past).now) t) ts
    → AllTransfers (Kept config (e ∷ past)) (with_again (serving config past).now t.guest ts)
goes_too config e past t ts sent all = all_again (IfThere (Kept config past) (goes_again (serving config past).now) t) (Kept config (e ∷ past)) (serving config past).now t.guest ts all these others
  where
    told : (u : Transfer) (b : Bool) → is_for t.guest u ≡ b → is_told_to u.guest (sent_again_by config past e) ≡ b
    told u b here = ap (is_told_to u.guest) sent ∙ same_swap t.guest u.guest ∙ here

    these : (u : Transfer) → IfThere (Kept config past) (goes_again (serving config past).now) t u → is_for t.guest u ≡ true → Kept config (e ∷ past) (sent_again (serving config past).now u)
    these u is here =
        let due = due_at (serving config past).now u (is.1 here) in
        let now = now_is config past in
        let at : u.due ≤ (serving config past).now = due.0 in
        subst (λ n. Kept config (e ∷ past) (sent_again n u)) (sym now) (kept_again config e past u (told u true here) (omega (arith, at, now)) due.1 is.0)

    others : (u : Transfer) → IfThere (Kept config past) (goes_again (serving config past).now) t u → is_for t.guest u ≡ false → Kept config (e ∷ past) u
    others u is other = kept_on config e past u (told u false other) is.0

-- ---- by a wait

by_wait : (config : Config) (e : Entry) (past : List Entry) (free : Bool) → sent_again_by config past e ≡ begun (serving config past).now free
    (serving config past).files.transfers → told_by config past e ≡ None → (serving config past).files.quest ≡ SeeksNothing
    → HoldsOf config past (serving config past).files → Step config e past
    (record (serving config past).files { transfers = ticked (serving config past).now free (serving config past).files.transfers })
by_wait config e past free sent told settles h = by free sent
  where
    s : Serving
    s = serving config past

    after : (ts : List Transfer) → AllTransfers (Kept config (e ∷ past)) ts → AreApart ts → Step config e past (record (serving config past).files { transfers = ts })
    after ts all apart = record { holds = record { all = all; apart = apart; quest = subst (IsQuest config (e ∷ past) ts) (sym settles) tt }; tells = tells_none config e past told }

    none_sent : sent_again_by config past e ≡ None → (guest : Endpoint) → is_told_to guest (sent_again_by config past e) ≡ false
    none_sent none guest = ap (is_told_to guest) none

    left : sent_again_by config past e ≡ None → Step config e past (record (serving config past).files { transfers = are_left (serving config past).now (serving config past).files.transfers })
    left none = after (are_left (serving config past).now (serving config past).files.transfers)
        (all_filtered (Kept config (e ∷ past)) _ (serving config past).files.transfers (kept_all config e past (serving config past).files.transfers (none_sent none) h.all))
        (apart_filter _ (serving config past).files.transfers h.apart)

    ticks : (o : Option Transfer) → find (goes_again (serving config past).now) (serving config past).files.transfers ≡ o → sent_again_by config past e ≡ option_map said_again o
        → Step config e past (record (serving config past).files { transfers = ticked_by (serving config past).now (are_left (serving config past).now (serving config past).files.transfers) o })
    ticks None found sent = left sent
    ticks (Some t) found sent = after (with_again (serving config past).now t.guest (are_left (serving config past).now (serving config past).files.transfers))
        (goes_too config e past t (are_left (serving config past).now (serving config past).files.transfers) sent
        (all_filtered (IfThere (Kept config past) (goes_again (serving config past).now) t) _ (serving config past).files.transfers
        (if_there (Kept config past) (goes_again (serving config past).now) (serving config past).files.transfers t h.all h.apart found)))
        (apart_again (serving config past).now t.guest (are_left (serving config past).now (serving config past).files.transfers) (apart_filter _ (serving config past).files.transfers h.apart))

    by : (free : Bool) → sent_again_by config past e ≡ begun (serving config past).now free (serving config past).files.transfers → Step config e past
        (record (serving config past).files { transfers = ticked (serving config past).now free (serving config past).files.transfers })
    by false sent = left sent
    by true sent = ticks (next_again (serving config past).now (serving config past).files.transfers) refl sent

-- ---- by a frame

by_frame : (config : Config) (e : Entry) (past : List Entry) (b : Bool) → sent_again_by config past e ≡ unless_on_its_way (serving config past).again
    (if b then may_go_again (serving config past) else None) → told_by config past e ≡ None
    → (serving config past).files.quest ≡ SeeksNothing → HoldsOf config past (serving config past).files → Step config e past (files_sent b (serving config past))
by_frame config e past false sent told settles h = with_settled config e past (serving config past).files (λ guest. ap (is_told_to guest) sent ∙ not_sent guest
    (serving config past).again) told settles h
by_frame config e past true sent told settles h = by (serving config past).again refl
  where
    begins : (o : Option Transfer) → find (goes_again (serving config past).now) (serving config past).files.transfers ≡ o → sent_again_by config past e ≡ option_map said_again o →
        Step config e past (begun_by (serving config past).now o (serving config past).files)
    begins None found none = with_settled config e past (serving config past).files (λ guest. ap (is_told_to guest) none) told settles h
    begins (Some t) found this = record {
      holds = record {
        all = goes_too config e past t (serving config past).files.transfers this (if_there (Kept config past) (goes_again (serving config past).now)
            (serving config past).files.transfers t h.all h.apart found);
        apart = apart_again (serving config past).now t.guest (serving config past).files.transfers h.apart;
        quest = subst (IsQuest config (e ∷ past) (with_again (serving config past).now t.guest (serving config past).files.transfers)) (sym settles) tt;
      };
      tells = tells_none config e past told;
    }

    by : (o : Option Said) → (serving config past).again ≡ o → Step config e past (files_begun (serving config past).now o (serving config past).files)
    by None none = begins (next_again (serving config past).now (serving config past).files.transfers) refl
        (sent ∙ ap (λ o. unless_on_its_way o (option_or o (option_map said_again (next_again (serving config past).now (serving config past).files.transfers)))) none)
    by (Some said) some = with_settled config e past (serving config past).files
        (λ guest. ap (is_told_to guest) (sent ∙ ap (λ o. unless_on_its_way o (may_go_again (serving config past))) some)) told settles h

-- ---- every entry

by_call : (config : Config) (e : Entry) (past : List Entry) → (happens config past e).came ≡ None → May config past (call_of e) → HoldsOf config past (serving config past).files
    → Step config e past (files_by_call config past (happens config past e) e (ledger config past))
by_call config (Wait wants timeout answer ready) past none may h = by_wait config (Wait wants timeout answer ready) past (is_free (ledger config past)) refl refl
    (settled config past (call_of (Wait wants timeout answer ready)) (λ never. never) may) h
by_call config (LinkWrite octets answer) past none may h =
    by_frame config (LinkWrite octets answer) past (begins_again config (identification past) (ledger config past) (goes_out (LinkWrite octets answer) past)) refl refl
    (settled config past (call_of (LinkWrite octets answer)) (λ never. never) may) h
by_call config (FileLen name answer) past none may h = by_length config name answer past h
by_call config (FileRead name place asked answer octets) past none may h = by_octets config name place asked answer octets past may h
by_call config (LinkRead asked answer octets) past none may h =
    same_files config (LinkRead asked answer octets) past (serving config past).files (same_last config (LinkRead asked answer octets) past (ap datagram_came none)) refl
    (λ guest. not_sent guest (serving config past).again) (ap (λ a. told_at config (serving config past) a (LinkRead asked answer octets)) none) h
by_call config e past none may h = same_files config e past (serving config past).files (same_last config e past refl) refl (λ guest. not_sent guest (serving config past).again) refl h

pub after : (config : Config) (e : Entry) (past : List Entry) → May config past (call_of e) → HoldsOf config past (serving config past).files → Step config e past (serving config (e ∷ past)).files
after config e past may h = by (happens config past e).came refl
  where
    by : (o : Option Arrival) → (happens config past e).came ≡ o → Step config e past (files_after config past (happens config past e) o (ledger config past))
    by None came = by_call config e past came may h
    by (Some arrival) came = by_arrival config e past arrival came may h

pub holds : (config : Config) (past : List Entry) → Lawful config past → HoldsOf config past (serving config past).files
holds config [] lawful = record { all = tt; apart = tt; quest = tt }
holds config (e ∷ past) lawful = (after config e past lawful.0 (holds config past lawful.1)).holds

-- ---- what is sought is what was asked for

pub asked_for_length : (config : Config) (past : List Entry) (name : List ℕ) (quest : Quest) (transfers : List Transfer) → IsQuest config past transfers quest →
    call_for quest ≡ Some (CallFileLen name) → IsAskedFor config past name
asked_for_length config past name SeeksNothing transfers on is = cc
asked_for_length config past name (SeeksOctets t there) transfers on is = cc
asked_for_length config past name (SeeksLength s) transfers on is =
    let one : CallFileLen s.file ≡ CallFileLen name = (let both : Some (CallFileLen s.file) ≡ Some (CallFileLen name) = is in cc) in
    subst (IsAskedFor config past) (ap file_in_call one) on.1.asked
  where
    file_in_call : Call → List ℕ
    file_in_call (CallFileLen name) = name
    file_in_call _ = []

-- ---- facts on the transfers of a lawful run, for who keeps them

-- each waits well, and is due no later than its timeout from now on; no two are for one port of a guest
pub record AreKept (past : List Entry) (transfers : List Transfer) : Type 0 where
  pub apart : AreApart transfers
  pub waits : AllTransfers (λ t. WaitsWell t.timeout) transfers
  pub soon : AllTransfers (λ t. t.due ≤ moment past + t.timeout) transfers

pub are_kept : (config : Config) (past : List Entry) → Lawful config past → AreKept past (serving config past).files.transfers
are_kept config past lawful =
    let h = holds config past lawful in
    let ts = (serving config past).files.transfers in
    record {
      apart = h.apart;
      waits = all_so (Kept config past) (λ t. WaitsWell t.timeout) ts (λ t k. k.waits) h.all;
      soon = all_so (Kept config past) (λ t. t.due ≤ moment past + t.timeout) ts (λ t k. k.soon) h.all;
    }
