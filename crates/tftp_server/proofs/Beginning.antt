-- What a request comes to.
use Rattle.std.proofs.Common.{◌≡◌, ℕ, nat_eq, codes, Bool, true, false, cond, List, length, Option, Some, None, is_some, option_map, refl, sym, ◌∙◌, ap}
use Rattle.net_octets.specs.declared.Endpoint.{Endpoint}
use Rattle.rules_tftp.specs.Packets.{Request, Terms, file_in, is_name, options_octets, says}
use Rattle.rules_tftp.specs.Transfers.{Sought, SeeksLength, Transfer, measured, refuses, requested, requested_file, seeks_next, sends, transfer, with_room}
use Rattle.tftp_server.specs.Reading.{name_taken}

-- no option is answered, or some are
pub begins_next : (now size : ℕ) (s : Sought) (terms : Terms) (o : Option Terms) (ts : List Transfer) → Some terms ≡ o → nat_eq (length terms.answered) 0 ≡ true
    → seeks_next now (transfer size s terms) (with_room ts) ≡ measured now size s o ts
begins_next now size s terms o ts is none =
    sym (ap (λ b. cond b (seeks_next now (transfer size s terms) (with_room ts)) (sends now false (options_octets terms) (transfer size s terms) (with_room ts))) none)
    ∙ ap (λ (p : Option Terms). measured now size s p ts) is

pub begins_options : (now size : ℕ) (s : Sought) (terms : Terms) (o : Option Terms) (ts : List Transfer) → Some terms ≡ o → nat_eq (length terms.answered) 0 ≡ false
    → sends now false (options_octets terms) (transfer size s terms) (with_room ts) ≡ measured now size s o ts
begins_options now size s terms o ts is some =
    sym (ap (λ b. cond b (seeks_next now (transfer size s terms) (with_room ts)) (sends now false (options_octets terms) (transfer size s terms) (with_room ts))) some)
    ∙ ap (λ (p : Option Terms). measured now size s p ts) is

-- a request for the mode that is served
pub served_mode : (folder : Option (List ℕ)) (mac : List ℕ) (guest : Endpoint) (r : Request) (o : Option Request) (ts : List Transfer) → Some r ≡ o → says (codes "octet") r.mode ≡ true
    → requested folder mac guest o ts ≡ requested_file mac guest r ts folder
served_mode folder mac guest r o ts is mode =
    ap (λ (p : Option Request). requested folder mac guest p ts) (sym is) ∙ ap (λ b. cond b (requested_file mac guest r ts folder) (refuses 4 mac guest ts)) mode

pub no_folder : {X : Type 0} (f : X → List ℕ) (o : Option X) → is_some o ≡ false → option_map f o ≡ None
no_folder f None is = refl
no_folder f (Some x) is = cc

pub unnamed : (mac : List ℕ) (guest : Endpoint) (r : Request) (ts : List Transfer) (folder : Option (List ℕ)) → is_name r.name ≡ false → requested_file mac guest r ts folder ≡ refuses 2 mac guest ts
unnamed mac guest r ts None is = refl
unnamed mac guest r ts (Some folder) is =
    ap (λ b. cond b (record {
      files = record { transfers = ts; quest = SeeksLength (record { guest = guest; mac = mac; file = file_in folder r.name; options = r.options }) };
      told = None;
    }) (refuses 2 mac guest ts)) is

pub not_taken : (name : List ℕ) → None ≡ name_taken name → is_name name ≡ false
not_taken name is = by (is_name name) is
  where
    by : (b : Bool) → None ≡ cond b (Some name) None → b ≡ false
    by true is = cc
    by false is = refl
