-- What comes of a packet or of an answer for the server of files: which transfers are left, what is sought, and what is told.
use Rattle.std.proofs.Common.{◌≡◌, ℕ, ◌+◌, ◌%◌, ◌^◌, ◌≤◌, ◌==◌, nat_le, nat_lt, codes, Bool, true, false, List, [], ◌∷◌, ◌++◌, length, drop, find, Option, Some, None, if◌then◌else◌, refl, ap, arith}
use Rattle.std.proofs.lemmas.Bool.Decides.{nat_tests}
use Rattle.net_octets.specs.declared.Endpoint.{Endpoint}
use Rattle.world_face.specs.declared.FileSize.{FileSize}
use Rattle.world_face.specs.declared.FileSize.TheVariants.{Length, Missing, Failed as SizeFailed}
use Rattle.world_face.specs.declared.Io.{Io}
use Rattle.world_face.specs.declared.Io.TheVariants.{Done, End, NotYet, Failed}
use Rattle.rules_tftp.specs.Laws.{octets_done}
use Rattle.rules_tftp.specs.Packets.{Packet, Asks, AsksToWrite, Acknowledges, GivesUp, Unheard, Request, Terms, block_octets, error_octets, file_in, is_name, options_octets, request_in}
use Rattle.rules_tftp.specs.Packets.{says, terms_of}
use Rattle.rules_tftp.specs.Soundness.{AreApart}
use Rattle.rules_tftp.specs.Transfers.{Outcome, Quest, Said, SeeksLength, SeeksOctets, Settled as SeeksNothing, Sought, Transfer, acknowledged, begins, is_for, leaves, length_came, measured}
use Rattle.rules_tftp.specs.Transfers.{most_transfers, octets_came, octets_of, reads_on, refuses, requested, requested_file, said_again, seeks_block, sending, sends, taken_in, transfer}
use Rattle.rules_tftp.specs.Transfers.{with_again, with_room, without, sent_again}
use Rattle.rules_tftp.proofs.Choosing.{AllTransfers, all_filtered}
use Rattle.rules_tftp.proofs.Listing.{apart_filter, found_not, none_without}
use Rattle.spec_run.proofs.Bools.{equal}

-- ---- transfers

apart_room : (transfers : List Transfer) → AreApart transfers → AreApart (with_room transfers)
apart_room transfers apart = by (nat_le most_transfers (length transfers))
  where
    without_first : (ts : List Transfer) → AreApart ts → AreApart (drop 1 ts)
    without_first [] apart = tt
    without_first (t ∷ ts) apart = apart.1

    by : (b : Bool) → AreApart (if b then drop 1 transfers else transfers)
    by true = without_first transfers apart
    by false = apart

all_room : (P : Transfer → Type 0) (transfers : List Transfer) → AllTransfers P transfers → AllTransfers P (with_room transfers)
all_room P transfers all = by (nat_le most_transfers (length transfers))
  where
    without_first : (ts : List Transfer) → AllTransfers P ts → AllTransfers P (drop 1 ts)
    without_first [] all = tt
    without_first (t ∷ ts) all = all.1

    by : (b : Bool) → AllTransfers P (if b then drop 1 transfers else transfers)
    by true = without_first transfers all
    by false = all

none_room : (guest : Endpoint) (transfers : List Transfer) → find (is_for guest) transfers ≡ None → find (is_for guest) (with_room transfers) ≡ None
none_room guest transfers none = by (nat_le most_transfers (length transfers))
  where
    without_first : (ts : List Transfer) → find (is_for guest) ts ≡ None → find (is_for guest) (drop 1 ts) ≡ None
    without_first [] none = refl
    without_first (t ∷ ts) none = (found_not (is_for guest) t ts none).1

    by : (b : Bool) → find (is_for guest) (if b then drop 1 transfers else transfers) ≡ None
    by true = without_first transfers none
    by false = none

-- ---- outcomes

-- what is sought is for a port that has no transfer then
abbrev pub OnQuest : (Sought → Type 0) → (Transfer → List ℕ → Type 0) → List Transfer → Quest → Type 0
OnQuest L B transfers SeeksNothing = Unit {0}
OnQuest L B transfers (SeeksLength s) = (find (is_for s.guest) transfers ≡ None) × L s
OnQuest L B transfers (SeeksOctets t there) = (find (is_for t.guest) transfers ≡ None) × B t there

-- one transfer more, of which the packet is told
pub record IsNew (U : Transfer → Type 0) (now : ℕ) (o : Outcome) (others : List Transfer) : Type 0 where
  pub t : Transfer
  pub list : o.files.transfers ≡ others ++ (t ∷ [])
  pub settled : o.files.quest ≡ SeeksNothing
  pub told : o.told ≡ Some (said_again t)
  pub fresh : find (is_for t.guest) others ≡ None
  pub again : t.again ≡ 0
  pub due : t.due ≡ now + t.timeout
  pub is : U t

pub data Tells (U : Transfer → Type 0) (now : ℕ) (o : Outcome) (others : List Transfer) : Type 0 where
  Nothing : o.files.transfers ≡ others → o.told ≡ None → Tells U now o others
  AnError : (said : Said) (code : ℕ) → o.files.transfers ≡ others → o.told ≡ Some said → said.octets ≡ error_octets code → Tells U now o others
  APacket : IsNew U now o others → Tells U now o others

pub record Comes (P U : Transfer → Type 0) (L : Sought → Type 0) (B : Transfer → List ℕ → Type 0) (now : ℕ) (o : Outcome) : Type 0 where
  pub others : List Transfer
  pub all : AllTransfers P others
  pub apart : AreApart others
  pub tells : Tells U now o others
  pub quest : OnQuest L B others o.files.quest

-- a block that is whole makes a packet
abbrev pub MakesPackets : (Transfer → Type 0) → (Transfer → List ℕ → Type 0) → ℕ → Type 0
MakesPackets U B now = (t : Transfer) (there : List ℕ) → B t there → octets_of t ≤ length there → U (sending now (nat_lt (length there) t.size) (block_octets (t.block % 2 ^ 16) there) t)

module _ (P U : Transfer → Type 0) (L : Sought → Type 0) (B : Transfer → List ℕ → Type 0) (now : ℕ) where
  comes_if : (b : Bool) (one other : Outcome) → (b ≡ true → Comes P U L B now one) → (b ≡ false → Comes P U L B now other) → Comes P U L B now (if b then one else other)
  comes_if true one other then_ else_ = then_ refl
  comes_if false one other then_ else_ = else_ refl

  leaves_these : (ts : List Transfer) → AllTransfers P ts → AreApart ts → Comes P U L B now (leaves ts)
  leaves_these ts all apart = record { others = ts; all = all; apart = apart; tells = Nothing refl refl; quest = tt }

  refusal : (code : ℕ) (mac : List ℕ) (guest : Endpoint) (ts : List Transfer) → AllTransfers P ts → AreApart ts → Comes P U L B now (refuses code mac guest ts)
  refusal code mac guest ts all apart = record {
    others = ts;
    all = all;
    apart = apart;
    tells = AnError
        (record { mac = mac; guest = guest; octets = error_octets code }) code refl refl refl;
    quest = tt;
  }

  sends_one : (last : Bool) (packet : List ℕ) (t : Transfer) (ts : List Transfer) → AllTransfers P ts → AreApart ts → find (is_for t.guest) ts ≡ None → U
      (sending now last packet t) → Comes P U L B now (sends now last packet t ts)
  sends_one last packet t ts all apart fresh is = record {
    others = ts;
    all = all;
    apart = apart;
    tells = APacket (record { t = sending now last packet t; list = refl; settled = refl; told = refl; fresh = fresh; again = refl; due = refl; is = is });
    quest = tt;
  }

  module _ (makes : MakesPackets U B now) where
    block : (t : Transfer) (ts : List Transfer) → AllTransfers P ts → AreApart ts → find (is_for t.guest) ts ≡ None → B t [] → Comes P U L B now (seeks_block now t ts)
    block t ts all apart fresh is = comes_if (octets_of t == 0) _ _
        (λ none. sends_one _ _ t ts all apart fresh (makes t [] is (let empty = equal (octets_of t) 0 none in omega (arith, empty))))
        (λ some. record { others = ts; all = all; apart = apart; tells = Nothing refl refl; quest = (fresh, is) })

    goes_on : (there : List ℕ) (t : Transfer) (ts : List Transfer) → AllTransfers P ts → AreApart ts → find (is_for t.guest) ts ≡ None → B t there → Comes P U L B now (reads_on now there t ts)
    goes_on there t ts all apart fresh is = comes_if (nat_le (octets_of t) (length there)) _ _
        (λ whole. sends_one _ _ t ts all apart fresh (makes t there is (enough (octets_of t) (length there) whole)))
        (λ part. record { others = ts; all = all; apart = apart; tells = Nothing refl refl; quest = (fresh, is) })
      where
        enough : (n m : ℕ) → nat_le n m ≡ true → n ≤ m
        enough n m is = grind (arith, nat_tests, is)

    -- ---- of an answer

    begins_it : (n : ℕ) (s : Sought) (terms : Terms) (ts : List Transfer) → AllTransfers P ts → AreApart ts → find (is_for s.guest) ts ≡ None → U
        (sending now false (options_octets terms) (transfer n s terms)) → B (record (transfer n s terms) { block = 1 }) []
        → Comes P U L B now (begins now n s terms ts)
    begins_it n s terms ts all apart fresh answers first = comes_if (length terms.answered == 0) _ _
        (λ none. block (record (transfer n s terms) { block = 1 }) ts all apart fresh first)
        (λ some. sends_one false (options_octets terms) (transfer n s terms) ts all apart fresh answers)

    pub length_comes : (L' : Sought → Type 0) (B' : Transfer → List ℕ → Type 0) (answer : FileSize) (quest : Quest) (ts : List Transfer) → AllTransfers P ts → AreApart ts → OnQuest L' B' ts quest
        → ((s : Sought) (n : ℕ) (terms : Terms) → L' s → answer ≡ Length n → terms_of n s.options ≡ Some terms → U
        (sending now false (options_octets terms) (transfer n s terms)) × B (record (transfer n s terms) { block = 1 }) [])
        → Comes P U L B now (length_came now answer quest ts)
    length_comes L' B' answer SeeksNothing ts all apart on starts = leaves_these ts all apart
    length_comes L' B' answer (SeeksOctets t there) ts all apart on starts = leaves_these ts all apart
    length_comes L' B' Missing (SeeksLength s) ts all apart on starts = refusal 1 s.mac s.guest ts all apart
    length_comes L' B' SizeFailed (SeeksLength s) ts all apart on starts = refusal 0 s.mac s.guest ts all apart
    length_comes L' B' (Length n) (SeeksLength s) ts all apart on starts = by (terms_of n s.options) refl
      where
        by : (o : Option Terms) → terms_of n s.options ≡ o → Comes P U L B now (measured now n s o ts)
        by None is = refusal 8 s.mac s.guest ts all apart
        by (Some terms) is =
            let both = starts s n terms on.1 refl is in
            begins_it n s terms (with_room ts) (all_room P ts all) (apart_room ts apart) (none_room s.guest ts on.0) both.0 both.1

    pub octets_come : (L' : Sought → Type 0) (B' : Transfer → List ℕ → Type 0) (answer : Io) (octets : List ℕ) (quest : Quest) (ts : List Transfer) → AllTransfers P ts →
        AreApart ts → OnQuest L' B' ts quest
        → ((t : Transfer) (there : List ℕ) → quest ≡ SeeksOctets t there → B' t there → B t (there ++ octets_done answer octets))
        → Comes P U L B now (octets_came now answer octets quest ts)
    octets_come L' B' answer octets SeeksNothing ts all apart on more = leaves_these ts all apart
    octets_come L' B' answer octets (SeeksLength s) ts all apart on more = leaves_these ts all apart
    octets_come L' B' (Done n) octets (SeeksOctets t there) ts all apart on more = goes_on (there ++ octets) t ts all apart on.0 (more t there refl on.1)
    octets_come L' B' End octets (SeeksOctets t there) ts all apart on more = refusal 0 t.mac t.guest ts all apart
    octets_come L' B' NotYet octets (SeeksOctets t there) ts all apart on more = refusal 0 t.mac t.guest ts all apart
    octets_come L' B' Failed octets (SeeksOctets t there) ts all apart on more = refusal 0 t.mac t.guest ts all apart

    -- ---- of a packet

    module _ (mac : List ℕ) (guest : Endpoint) where
      abbrev AsksWell : Option (List ℕ) → Request → Type 0
      AsksWell folder r = (at : List ℕ) → folder ≡ Some at → is_name r.name ≡ true → L (record { guest = guest; mac = mac; file = file_in at r.name; options = r.options })

      by_name : (r : Request) (ts : List Transfer) (folder : Option (List ℕ)) → AllTransfers P ts → AreApart ts → find (is_for guest) ts ≡ None → AsksWell folder r →
          Comes P U L B now (requested_file mac guest r ts folder)
      by_name r ts None all apart fresh asks = refusal 2 mac guest ts all apart
      by_name r ts (Some at) all apart fresh asks = comes_if (is_name r.name) _ _
          (λ taken. record { others = ts; all = all; apart = apart; tells = Nothing refl refl; quest = (fresh, asks at refl taken) })
          (λ other. refusal 2 mac guest ts all apart)

      by_request : (folder : Option (List ℕ)) (o : Option Request) (ts : List Transfer) → AllTransfers P ts → AreApart ts → find (is_for guest) ts ≡ None →
          ((r : Request) → o ≡ Some r → AsksWell folder r) → Comes P U L B now (requested folder mac guest o ts)
      by_request folder None ts all apart fresh asks = refusal 4 mac guest ts all apart
      by_request folder (Some r) ts all apart fresh asks = comes_if (says (codes "octet") r.mode) _ _
          (λ octet. by_name r ts folder all apart fresh (asks r refl))
          (λ other. refusal 4 mac guest ts all apart)

      by_acknowledgement : (number : ℕ) (o : Option Transfer) (ts : List Transfer) → AllTransfers P ts → AreApart ts → ((t : Transfer) → o ≡ Some t → number ≡ t.block % 2 ^ 16 →
          t.is_last ≡ false → B (record t { block = t.block + 1 }) []) → Comes P U L B now (acknowledged now number o ts)
      by_acknowledgement number None ts all apart next = leaves_these ts all apart
      by_acknowledgement number (Some t) ts all apart next = comes_if (number == t.block % 2 ^ 16) _ _
          (λ this. comes_if t.is_last _ _ (λ last. leaves_these (without t.guest ts) rest still)
          (λ more. block (record t { block = t.block + 1 }) (without t.guest ts) rest still (none_without t.guest ts) (next t refl (equal number (t.block % 2 ^ 16) this) more)))
          (λ other. leaves_these ts all apart)
        where
          rest : AllTransfers P (without t.guest ts)
          rest = all_filtered P _ ts all

          still : AreApart (without t.guest ts)
          still = apart_filter _ ts apart

      pub packet_comes : (folder : Option (List ℕ)) (p : Packet) (ts : List Transfer) → AllTransfers P ts → AreApart ts
          → ((texts : List ℕ) (r : Request) → p ≡ Asks texts → request_in texts ≡ Some r → AsksWell folder r)
          → ((t : Transfer) → p ≡ Acknowledges (t.block % 2 ^ 16) → find (is_for guest) ts ≡ Some t → t.is_last ≡ false → B (record t { block = t.block + 1 }) [])
          → Comes P U L B now (taken_in folder now mac guest p ts)
      packet_comes folder (Asks texts) ts all apart asks next =
          by_request folder (request_in texts) (without guest ts) (all_filtered P _ ts all) (apart_filter _ ts apart) (none_without guest ts) (λ r is. asks texts r refl is)
      packet_comes folder AsksToWrite ts all apart asks next = refusal 2 mac guest ts all apart
      packet_comes folder (Acknowledges number) ts all apart asks next =
          by_acknowledgement number (find (is_for guest) ts) ts all apart (λ t found this more. next t (ap Acknowledges this) found more)
      packet_comes folder GivesUp ts all apart asks next = leaves_these (without guest ts) (all_filtered P _ ts all) (apart_filter _ ts apart)
      packet_comes folder Unheard ts all apart asks next = leaves_these ts all apart

-- ---- packets that go again

-- those for a port go again, and the others stay
pub all_again : (P Q : Transfer → Type 0) (now : ℕ) (guest : Endpoint) (ts : List Transfer) → AllTransfers P ts → ((t : Transfer) → P t → is_for guest t ≡ true → Q
    (sent_again now t)) → ((t : Transfer) → P t → is_for guest t ≡ false → Q t)
    → AllTransfers Q (with_again now guest ts)
all_again P Q now guest [] all these others = tt
all_again P Q now guest (t ∷ ts) all these others = (by (is_for guest t) refl, all_again P Q now guest ts all.1 these others)
  where
    by : (b : Bool) → is_for guest t ≡ b → Q (if b then sent_again now t else t)
    by true here = these t all.0 here
    by false other = others t all.0 other
