-- Names stay in the folder.
use Rattle.std.proofs.Common.{◌≡◌, ◌≢◌, ℕ, ◌+◌, ◌&&◌, ◌%◌, ◌^◌, nat_eq, bytes_eq, codes, not, Bool, true, false, cond, All, List, [], ◌∷◌, find, Option, Some, None, refl, sym, ap}
use Rattle.std.specs.List.{list_all}
use Rattle.std.proofs.lemmas.List.Elements.{All-cons, All-nil}
use Rattle.net_octets.specs.declared.Endpoint.{Endpoint}
use Rattle.rules_tftp.specs.Packets.{Packet, Asks, AsksToWrite, Acknowledges, GivesUp, Unheard, Request, file_in, is_name, is_part, parts_from, request_in, says}
use Rattle.rules_tftp.specs.Transfers.{SeeksLength, SeeksOctets, Sought, Transfer, acknowledged, is_for, leaves, octets_of, refuses, requested, requested_file, seeks_next, sends_block}
use Rattle.rules_tftp.specs.Transfers.{taken_in, without}
use Rattle.rules_tftp.specs.Laws.{IsBelow, IsInFolder}
use Rattle.rules_tftp.proofs.Naming.{both, is_taken}

differs : (part word : List ℕ) → not (bytes_eq part word) ≡ true → bytes_eq word word ≡ true → part ≢ word
differs part word other same is = let clash : not (bytes_eq part word) ≡ not (bytes_eq word word) = ap (λ p. not (bytes_eq p word)) is in cc

below : (part : List ℕ) → is_part part ≡ true → IsBelow part
below part is =
    let first = both (not (bytes_eq part []) && not (bytes_eq part (codes "."))) (not (bytes_eq part (codes ".."))) is in
    let second = both (not (bytes_eq part [])) (not (bytes_eq part (codes "."))) first.0 in
    (differs part [] second.0 refl, differs part (codes ".") second.1 refl, differs part (codes "..") first.1 refl)

all_below : (parts : List (List ℕ)) → list_all is_part parts ≡ true → All IsBelow parts
all_below [] is = All-nil IsBelow
all_below (part ∷ parts) is = let here = both (is_part part) (list_all is_part parts) is in All-cons IsBelow part parts (below part here.0) (all_below parts here.1)

pub parts_below : (name : List ℕ) → is_name name ≡ true → All IsBelow (parts_from [] name)
parts_below name is = all_below (parts_from [] name) (is_taken name is).parts

module _ (mac : List ℕ) (guest : Endpoint) (s : Sought) where
  by_name : (r : Request) (ts : List Transfer) (folder : List ℕ) (b : Bool) → is_name r.name ≡ b
      → (cond b (record {
        files = record { transfers = ts; quest = SeeksLength (record { guest = guest; mac = mac; file = file_in folder r.name; options = r.options }) };
        told = None;
      }) (refuses 2 mac guest ts)).files.quest
      ≡ SeeksLength s → IsInFolder (Some folder) s.file
  by_name r ts folder true e is =
      let same : record { guest = guest; mac = mac; file = file_in folder r.name; options = r.options } ≡ s = cc in
      record { at = folder; name = r.name; folder_is = refl; taken = e; file_is = sym (ap (λ (q : Sought). q.file) same) }
  by_name r ts folder false e is = cc

  by_folder : (r : Request) (ts : List Transfer) (folder : Option (List ℕ)) → (requested_file mac guest r ts folder).files.quest ≡ SeeksLength s → IsInFolder folder s.file
  by_folder r ts None is = cc
  by_folder r ts (Some folder) is = by_name r ts folder (is_name r.name) refl is

  by_mode : (r : Request) (ts : List Transfer) (folder : Option (List ℕ)) (b : Bool) →
      (cond b (requested_file mac guest r ts folder) (refuses 4 mac guest ts)).files.quest ≡ SeeksLength s → IsInFolder folder s.file
  by_mode r ts folder true is = by_folder r ts folder is
  by_mode r ts folder false is = cc

  by_request : (r : Option Request) (ts : List Transfer) (folder : Option (List ℕ)) → (requested folder mac guest r ts).files.quest ≡ SeeksLength s → IsInFolder folder s.file
  by_request None ts folder is = cc
  by_request (Some r) ts folder is = by_mode r ts folder (says (codes "octet") r.mode) is

  by_block : (now : ℕ) (t : Transfer) (others : List Transfer) (b : Bool) →
      (cond b (sends_block now [] t others) (record { files = record { transfers = others; quest = SeeksOctets t [] }; told = None })).files.quest ≡ SeeksLength s → ⊥
  by_block now t others true is = cc
  by_block now t others false is = cc

  by_next : (now : ℕ) (t : Transfer) (others : List Transfer) → (seeks_next now t others).files.quest ≡ SeeksLength s → ⊥
  by_next now t others is = let next : Transfer = record t { block = t.block + 1 } in by_block now next others (nat_eq (octets_of next) 0) is

  by_acknowledgement : (now block : ℕ) (o : Option Transfer) (ts : List Transfer) → (acknowledged now block o ts).files.quest ≡ SeeksLength s → ⊥
  by_acknowledgement now block None ts is = cc
  by_acknowledgement now block (Some t) ts is = by (nat_eq block (t.block % 2 ^ 16)) t.is_last is
    where
      by : (b last : Bool) → (cond b (cond last (leaves (without t.guest ts)) (seeks_next now t (without t.guest ts))) (leaves ts)).files.quest ≡ SeeksLength s → ⊥
      by true true is = cc
      by true false is = by_next now t (without t.guest ts) is
      by false last is = cc

  pub files_stay : (folder : Option (List ℕ)) (now : ℕ) (p : Packet) (ts : List Transfer) → (taken_in folder now mac guest p ts).files.quest ≡ SeeksLength s → IsInFolder folder s.file
  files_stay folder now (Asks texts) ts is = by_request (request_in texts) (without guest ts) folder is
  files_stay folder now AsksToWrite ts is = cc
  files_stay folder now (Acknowledges block) ts is = absurd (by_acknowledgement now block (find (is_for guest) ts) ts is)
  files_stay folder now GivesUp ts is = cc
  files_stay folder now Unheard ts is = cc
