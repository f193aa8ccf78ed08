-- The entries of the map read as the list of open forwards.
use Rattle.std.proofs.Common.{◌≡◌, ℕ, ◌&&◌, ◌||◌, not, Bool, true, false, cond, List, [], ◌∷◌, map, filter, find, Option, Some, option_map, is_some, refl, sym, ◌∙◌, ap, length}
use Rattle.std.proofs.lemmas.List.{length-map}
use Rattle.std.specs.Bool.{beq}
use Rattle.std.specs.Map.{lookup}
use Rattle.net_octets.specs.declared.Endpoint.{Endpoint}
use Rattle.slirp_settings.specs.declared.Forward.{Forward}
use Rattle.slirp_settings.specs.declared.Proto.{Proto}
use Rattle.slirp_settings.specs.declared.Proto.TheVariants.{Tcp, Udp}
use Rattle.slirp_settings.specs.Addresses.{endpoint}
use Rattle.slirp_settings.specs.Ranges.{same_proto}
use Rattle.slirp_settings.specs.Classes.{same_endpoint}
use Rattle.port_forward.specs.Entries.{is_for_datagrams, opened_of, port_of, proto_of, same_port}
use Rattle.rules_forward.specs.Opened.{Opened, forward_with, is_at, is_on, is_taken, leads_to, socket_at, socket_for, socket_of, without}
use Rattle.port_forward.specs.declared.ports.Lead.{Lead}
use Rattle.port_forward.specs.declared.ports.Port.{Port}

same_by : (proto : Proto) (datagrams : Bool) → same_proto proto (proto_of datagrams) ≡ beq (is_for_datagrams proto) datagrams
same_by Tcp true = refl
same_by Tcp false = refl
same_by Udp true = refl
same_by Udp false = refl

-- an entry's key is that of the port exactly where its forward is at the port
pub at_key : (proto : Proto) (host : Endpoint) (e : Port × Lead) → is_at proto host (opened_of e) ≡ same_port (port_of proto host) e.0
at_key proto host e = ap (λ b. b && same_endpoint host (endpoint e.0.address e.0.port)) (same_by proto e.0.datagrams)

abbrev pub number_of : Port × Lead → ℕ
number_of e = e.1.number

module _ (proto : Proto) (host : Endpoint) where
  -- which are left
  kept : (b : Bool) (e : Port × Lead) (es : List (Port × Lead)) → cond (not b) (opened_of e ∷ map opened_of es) (map opened_of es) ≡ map opened_of (cond (not b) (e ∷ es) es)
  kept true e es = refl
  kept false e es = refl

  pub left_of : (es : List (Port × Lead)) → map opened_of (filter (λ e. not (same_port (port_of proto host) e.0)) es) ≡ without proto host (map opened_of es)
  left_of [] = refl
  left_of (e ∷ es) =
      let rest = filter (λ (e : Port × Lead). not (same_port (port_of proto host) e.0)) es in
      sym (kept (same_port (port_of proto host) e.0) e rest)
      ∙ ap (λ (l : List Opened). cond (not (same_port (port_of proto host) e.0)) (opened_of e ∷ l) l) (left_of es)
      ∙ ap (λ b. cond (not b) (opened_of e ∷ without proto host (map opened_of es)) (without proto host (map opened_of es))) (sym (at_key proto host e))

  -- whose socket it is
  first : (b : Bool) (e : Port × Lead) (o : Option Opened) (l : Option Lead) → option_map socket_of o ≡ option_map (λ (lead : Lead). lead.number) l
      → option_map socket_of (cond b (Some (opened_of e)) o) ≡ option_map (λ (lead : Lead). lead.number) (cond b (Some e.1) l)
  first true e o l same = refl
  first false e o l same = same

  pub socket_there : (es : List (Port × Lead)) → socket_at proto host (map opened_of es) ≡ option_map (λ (lead : Lead). lead.number) (lookup (same_port (port_of proto host)) es)
  socket_there [] = refl
  socket_there (e ∷ es) =
      ap (λ b. option_map socket_of (cond b (Some (opened_of e)) (find (is_at proto host) (map opened_of es)))) (at_key proto host e)
      ∙ first (same_port (port_of proto host) e.0) e (find (is_at proto host) (map opened_of es)) (lookup (same_port (port_of proto host)) es) (socket_there es)

  -- whether there is one
  any : (b c : Bool) (e : Port × Lead) (l : Option Lead) → c ≡ is_some l → (b || c) ≡ is_some (cond b (Some e.1) l)
  any true c e l same = refl
  any false c e l same = same

  pub taken_there : (es : List (Port × Lead)) → is_taken proto host (map opened_of es) ≡ is_some (lookup (same_port (port_of proto host)) es)
  taken_there [] = refl
  taken_there (e ∷ es) =
      ap (λ b. b || is_taken proto host (map opened_of es)) (at_key proto host e)
      ∙ any (same_port (port_of proto host) e.0) (is_taken proto host (map opened_of es)) e (lookup (same_port (port_of proto host)) es) (taken_there es)

-- the first that leads to the port of a guest
first_for : (b : Bool) (e : Port × Lead) (o : Option Opened) (f : Option (Port × Lead)) → option_map socket_of o ≡ option_map number_of f
    → option_map socket_of (cond b (Some (opened_of e)) o) ≡ option_map number_of (cond b (Some e) f)
first_for true e o f same = refl
first_for false e o f same = same

pub first_there : (guest : Endpoint) (es : List (Port × Lead)) → socket_for guest (map opened_of es) ≡ option_map number_of (find (λ e. leads_to guest (opened_of e)) es)
first_there guest [] = refl
first_there guest (e ∷ es) = first_for (leads_to guest (opened_of e)) e (find (leads_to guest) (map opened_of es)) (find (λ (e : Port × Lead). leads_to guest (opened_of e)) es) (first_there guest es)

-- a forward's entry is that forward
same_proto_back : (proto : Proto) → proto_of (is_for_datagrams proto) ≡ proto
same_proto_back Tcp = refl
same_proto_back Udp = refl

pub entry_of : (forward : Forward) (lead : Lead) → lead.guest ≡ forward.guest → opened_of (port_of forward.proto forward.host, lead) ≡ (forward, lead.number)
entry_of forward lead same =
    ap (λ (proto : Proto). (record { proto = proto; host = forward.host; guest = lead.guest }, lead.number)) (same_proto_back forward.proto)
    ∙ ap (λ (guest : Endpoint). (record { proto = forward.proto; host = forward.host; guest = guest }, lead.number)) same

-- as far as a call has seen
pub key_is_taken : (proto : Proto) (host : Endpoint) (port : Port) (es : List (Port × Lead)) (list : List Opened) (found : Bool) → found ≡ is_some (lookup (same_port port) es) →
    port ≡ port_of proto host
    → map opened_of es ≡ list → found ≡ is_taken proto host list
key_is_taken proto host port es list found is key view =
    is ∙ ap (λ (p : Port). is_some (lookup (same_port p) es)) key ∙ sym (taken_there proto host es) ∙ ap (is_taken proto host) view

pub as_many : (es : List (Port × Lead)) (list : List Opened) (count : ℕ) → count ≡ length es → map opened_of es ≡ list → count ≡ length list
as_many es list count is view = is ∙ sym (length-map es opened_of) ∙ ap length view

pub first_socket : (guest : Endpoint) (es : List (Port × Lead)) (list : List Opened) (found : Option (Port × Lead)) → found ≡ find (λ e. leads_to guest (opened_of e)) es → map opened_of es ≡ list
    → option_map number_of found ≡ socket_for guest list
first_socket guest es list found is view = ap (option_map number_of) is ∙ sym (first_there guest es) ∙ ap (socket_for guest) view

-- the forward with a number
abbrev pub forward_in : Port × Lead → Forward
forward_in e = (opened_of e).0

forward_for : (b : Bool) (e : Port × Lead) (o : Option Opened) (f : Option (Port × Lead)) → option_map (λ (x : Opened). x.0) o ≡ option_map forward_in f
    → option_map (λ (x : Opened). x.0) (cond b (Some (opened_of e)) o) ≡ option_map forward_in (cond b (Some e) f)
forward_for true e o f same = refl
forward_for false e o f same = same

forward_there : (socket : ℕ) (es : List (Port × Lead)) → forward_with socket (map opened_of es) ≡ option_map forward_in (find (λ e. is_on socket (opened_of e)) es)
forward_there socket [] = refl
forward_there socket (e ∷ es) =
    forward_for (is_on socket (opened_of e)) e (find (is_on socket) (map opened_of es)) (find (λ (e : Port × Lead). is_on socket (opened_of e)) es) (forward_there socket es)

pub forward_found : (socket : ℕ) (es : List (Port × Lead)) (list : List Opened) (found : Option (Port × Lead)) → found ≡ find (λ e. is_on socket (opened_of e)) es → map opened_of es ≡ list
    → option_map forward_in found ≡ forward_with socket list
forward_found socket es list found is view = ap (option_map forward_in) is ∙ sym (forward_there socket es) ∙ ap (forward_with socket) view
