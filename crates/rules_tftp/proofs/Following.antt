-- A block goes out only after the acknowledgement of the one before.
use Rattle.std.proofs.Common.{◌≡◌, ℕ, ◌+◌, ◌%◌, ◌^◌, ◌⊎◌, inl, inr, nat_eq, nat_le, not, codes, Bool, true, false, cond, All, Contains, List, [], ◌∷◌, ◌++◌, length, drop, filter, find}
use Rattle.std.proofs.Common.{Option, Some, None, refl, sym, ◌∙◌, ap, subst, arith}
use Rattle.std.proofs.lemmas.Bool.Decides.{nat_tests}
use Rattle.std.proofs.lemmas.List.Elements.{All-cons, All-drop, All-head, All-push, All-tail, Contains-get_or}
use Rattle.net_octets.specs.declared.Endpoint.{Endpoint}
use Rattle.world_face.specs.Journal.{Entry, FileLen, FileRead}
use Rattle.world_face.specs.declared.FileSize.{FileSize}
use Rattle.world_face.specs.declared.FileSize.TheVariants.{Length, Missing, Failed as SizeFailed}
use Rattle.world_face.specs.declared.Io.{Io}
use Rattle.world_face.specs.declared.Io.TheVariants.{Done, End, NotYet, Failed}
use Rattle.rules_tftp.specs.Packets.{Packet, Asks, AsksToWrite, Acknowledges, GivesUp, Unheard, Request, Terms, file_in, is_name, options_octets, packet_in, request_in, says, terms_of}
use Rattle.rules_tftp.specs.Transfers.{Outcome, Quest, Said, SeeksLength, SeeksOctets, Settled, Sought, Transfer, acknowledged, begins, came, is_for, leaves, length_came, measured}
use Rattle.rules_tftp.specs.Transfers.{octets_came, octets_of, reads_on, refuses, requested, requested_file, seeks_block, seeks_next, sending, sends, sends_block, settled, taken_in}
use Rattle.rules_tftp.specs.Transfers.{transfer, with_room, without}
use Rattle.rules_tftp.specs.Asking.{IsServed, after_calls, by_answer, or_outcome}
use Rattle.rules_tftp.specs.Laws.{IsBegun, IsNext}

all_filter : (P : Transfer → Type 0) (q : Transfer → Bool) (ts : List Transfer) → All P ts → All P (filter q ts)
all_filter P q [] all = all
all_filter P q (t ∷ ts) all = by (q t) (All-head P t ts all) (all_filter P q ts (All-tail P t ts all))
  where
    by : (b : Bool) → P t → All P (filter q ts) → All P (cond b (t ∷ filter q ts) (filter q ts))
    by true here rest = All-cons P t (filter q ts) here rest
    by false here rest = rest

module _ (now : ℕ) (old : List Transfer) (guest : Endpoint) (octets : List ℕ) where
  -- a transfer goes on, or begins; and what holds of each after the packet
  abbrev pub Goes : Transfer → Type 0
  Goes t = IsNext old guest octets t ⊎ IsBegun octets t

  abbrev pub Kept : Transfer → Type 0
  Kept t = Contains old t ⊎ Goes t

  abbrev pub OnQuest : Quest → Type 0
  OnQuest Settled = Unit {0}
  OnQuest (SeeksLength s) = (texts : List ℕ) × (packet_in octets ≡ Asks texts)
  OnQuest (SeeksOctets t there) = Goes t

  pub record IsGood (o : Outcome) : Type 0 where
    pub list : All Kept o.files.transfers
    pub quest : OnQuest o.files.quest

  good_sends : (last : Bool) (packet : List ℕ) (t : Transfer) (others : List Transfer) → All Kept others → Goes t → IsGood (sends now last packet t others)
  good_sends last packet t others all goes = record { list = All-push Kept others (sending now last packet t) all (inr (by goes)); quest = tt }
    where
      by : Goes t → Goes (sending now last packet t)
      by (inl n) = inl (record { before = n.before; found = n.found; acknowledged = n.acknowledged; more = n.more; file_is = n.file_is; block_is = n.block_is })
      by (inr b) = inr (record { texts = b.texts; asked = b.asked; block_is = b.block_is })

  good_block : (t : Transfer) (others : List Transfer) → All Kept others → Goes t → IsGood (seeks_block now t others)
  good_block t others all goes = by (nat_eq (octets_of t) 0)
    where
      by : (b : Bool) → IsGood (cond b (sends_block now [] t others) (record { files = record { transfers = others; quest = SeeksOctets t [] }; told = None }))
      by true = good_sends _ _ t others all goes
      by false = record { list = all; quest = goes }

  good_reads : (there : List ℕ) (t : Transfer) (others : List Transfer) → All Kept others → Goes t → IsGood (reads_on now there t others)
  good_reads there t others all goes = by (nat_le (octets_of t) (length there))
    where
      by : (b : Bool) → IsGood (cond b (sends_block now there t others) (record { files = record { transfers = others; quest = SeeksOctets t there }; told = None }))
      by true = good_sends _ _ t others all goes
      by false = record { list = all; quest = goes }

  good_refusal : (code : ℕ) (mac : List ℕ) (to : Endpoint) (ts : List Transfer) → All Kept ts → IsGood (refuses code mac to ts)
  good_refusal code mac to ts all = record { list = all; quest = tt }

  good_leaves : (ts : List Transfer) → All Kept ts → IsGood (leaves ts)
  good_leaves ts all = record { list = all; quest = tt }

  -- a file begins
  good_room : (ts : List Transfer) → All Kept ts → All Kept (with_room ts)
  good_room ts all = by (nat_le 20 (length ts))
    where
      by : (b : Bool) → All Kept (cond b (drop 1 ts) ts)
      by true = All-drop Kept 1 ts all
      by false = all

  good_begins : (texts : List ℕ) → packet_in octets ≡ Asks texts → (size : ℕ) (s : Sought) (terms : Terms) (ts : List Transfer) → All Kept ts → IsGood (begins now size s terms ts)
  good_begins texts asked size s terms ts all = by (nat_eq (length terms.answered) 0)
    where
      by : (b : Bool) → IsGood (cond b (seeks_next now (transfer size s terms) ts) (sends now false (options_octets terms) (transfer size s terms) ts))
      by true = let next : Transfer = record (transfer size s terms) { block = (transfer size s terms).block + 1 } in good_block next ts all
          (inr (record { texts = texts; asked = asked; block_is = omega arith }))
      by false = good_sends _ _ (transfer size s terms) ts all (inr (record { texts = texts; asked = asked; block_is = omega arith }))

  good_measured : (texts : List ℕ) → packet_in octets ≡ Asks texts → (size : ℕ) (s : Sought) (terms : Option Terms) (ts : List Transfer) → All Kept ts → IsGood (measured now size s terms ts)
  good_measured texts asked size s None ts all = good_refusal 8 s.mac s.guest ts all
  good_measured texts asked size s (Some terms) ts all = good_begins texts asked size s terms (with_room ts) (good_room ts all)

  good_length : (answer : FileSize) (quest : Quest) (ts : List Transfer) → OnQuest quest → All Kept ts → IsGood (length_came now answer quest ts)
  good_length answer Settled ts on all = good_leaves ts all
  good_length (Length n) (SeeksLength s) ts on all = good_measured on.0 on.1 n s (terms_of n s.options) ts all
  good_length Missing (SeeksLength s) ts on all = good_refusal 1 s.mac s.guest ts all
  good_length SizeFailed (SeeksLength s) ts on all = good_refusal 0 s.mac s.guest ts all
  good_length answer (SeeksOctets t there) ts on all = good_leaves ts all

  good_octets : (answer : Io) (came : List ℕ) (quest : Quest) (ts : List Transfer) → OnQuest quest → All Kept ts → IsGood (octets_came now answer came quest ts)
  good_octets answer came Settled ts on all = good_leaves ts all
  good_octets answer came (SeeksLength s) ts on all = good_leaves ts all
  good_octets (Done n) came (SeeksOctets t there) ts on all = good_reads (there ++ came) t ts all on
  good_octets End came (SeeksOctets t there) ts on all = good_refusal 0 t.mac t.guest ts all
  good_octets NotYet came (SeeksOctets t there) ts on all = good_refusal 0 t.mac t.guest ts all
  good_octets Failed came (SeeksOctets t there) ts on all = good_refusal 0 t.mac t.guest ts all

  good_entry : (e : Entry) (o : Outcome) → IsGood o → IsGood (or_outcome (by_answer now e o.files) o)
  good_entry (FileLen name answer) o good = good_length answer o.files.quest o.files.transfers good.quest good.list
  good_entry (FileRead name place asked answer came) o good = good_octets answer came o.files.quest o.files.transfers good.quest good.list
  good_entry e o good = good

  good_calls : (made : List Entry) (o : Outcome) → IsGood o → IsGood (after_calls now made o)
  good_calls [] o good = good
  good_calls (e ∷ made) o good = good_entry e (after_calls now made o) (good_calls made o good)

  -- the packet itself
  all_kept : All Kept old
  all_kept k d within = inl (Contains-get_or old k d within)

  good_file : (mac : List ℕ) (r : Request) (texts : List ℕ) (ts : List Transfer) (folder : Option (List ℕ)) → packet_in octets ≡ Asks texts → All Kept ts → IsGood
      (requested_file mac guest r ts folder)
  good_file mac r texts ts None asked all = good_refusal 2 mac guest ts all
  good_file mac r texts ts (Some folder) asked all = by (is_name r.name)
    where
      by : (b : Bool)
          → IsGood (cond b (record {
            files = record {
              transfers = ts;
              quest = SeeksLength
                  (record { guest = guest; mac = mac; file = file_in folder r.name; options = r.options });
            };
            told = None;
          }) (refuses 2 mac guest ts))
      by true = record { list = all; quest = (texts, asked) }
      by false = good_refusal 2 mac guest ts all

  good_request : (mac : List ℕ) (r : Option Request) (texts : List ℕ) (ts : List Transfer) (folder : Option (List ℕ)) → packet_in octets ≡ Asks texts → All Kept ts → IsGood
      (requested folder mac guest r ts)
  good_request mac None texts ts folder asked all = good_refusal 4 mac guest ts all
  good_request mac (Some r) texts ts folder asked all = by (says (codes "octet") r.mode)
    where
      by : (b : Bool) → IsGood (cond b (requested_file mac guest r ts folder) (refuses 4 mac guest ts))
      by true = good_file mac r texts ts folder asked all
      by false = good_refusal 4 mac guest ts all

  good_acknowledgement : (block : ℕ) (o : Option Transfer) → packet_in octets ≡ Acknowledges block → find (is_for guest) old ≡ o → IsGood (acknowledged now block o old)
  good_acknowledgement block None is found = good_leaves old all_kept
  good_acknowledgement block (Some t) is found = by (nat_eq block (t.block % 2 ^ 16)) refl t.is_last refl
    where
      rest : All Kept (without t.guest old)
      rest = all_filter Kept (λ u. not (is_for t.guest u)) old all_kept

      same : (n m : ℕ) → nat_eq n m ≡ true → n ≡ m
      same n m e = grind (arith, nat_tests)

      by : (b : Bool) → nat_eq block (t.block % 2 ^ 16) ≡ b → (last : Bool) → t.is_last ≡ last
          → IsGood (cond b (cond last (leaves (without t.guest old)) (seeks_next now t (without t.guest old))) (leaves old))
      by true e true l = good_leaves (without t.guest old) rest
      by true e false l =
          good_block _ (without t.guest old) rest
          (inl (record { before = t; found = found; acknowledged = is ∙ ap Acknowledges (same block (t.block % 2 ^ 16) e); more = l; file_is = refl; block_is = refl }))
      by false e last l = good_leaves old all_kept

  good_packet : (folder : Option (List ℕ)) (mac : List ℕ) (p : Packet) → packet_in octets ≡ p → IsGood (taken_in folder now mac guest p old)
  good_packet folder mac (Asks texts) is = good_request mac (request_in texts) texts (without guest old) folder is (all_filter Kept (λ u. not (is_for guest u)) old all_kept)
  good_packet folder mac AsksToWrite is = good_refusal 2 mac guest old all_kept
  good_packet folder mac (Acknowledges block) is = good_acknowledgement block (find (is_for guest) old) is refl
  good_packet folder mac GivesUp is = good_leaves (without guest old) (all_filter Kept (λ u. not (is_for guest u)) old all_kept)
  good_packet folder mac Unheard is = good_leaves old all_kept

  pub follows : (folder : Option (List ℕ)) (mac : List ℕ) (new : List Transfer) (told : Option Said) (made : List Entry) → IsServed now
      (came folder now mac guest octets (settled old)) new told made → All Kept new
  follows folder mac new told made served =
      subst (λ (ts : List Transfer). All Kept ts) (sym served.transfers) (good_calls made (came folder now mac guest octets (settled old)) (good_packet folder mac (packet_in octets) refl)).list
