-- What some lines ask for.
use Rattle.std.proofs.Common.{◌≡◌, ℕ, List, ◌++◌, ◌∷◌, [], length, codes, inl, inr, refl, sym, ap, subst, arith, length-append}
use Rattle.std.specs.Fmt.{digits}
use Rattle.net_octets.specs.declared.Endpoint.{Endpoint}
use Rattle.slirp_settings.specs.Addresses.{endpoint}
use Rattle.slirp_settings.specs.declared.Forward.{Forward}
use Rattle.slirp_settings.specs.declared.Proto.{Proto}
use Rattle.slirp_settings.specs.declared.Proto.TheVariants.{Tcp, Udp}
use Rattle.address_text.specs.Texts.{address_text, endpoint_text}
use Rattle.address_text.specs.Rules.{IsRule, IsType}
use Rattle.command_words.proofs.Ruled.{forward_parts}
use Rattle.rules_control.specs.Commands.{IsAdd, IsRemove, IsWhat, Means}
use Rattle.rules_control.specs.declared.Command.TheVariants.{Add, Remove, List as Lists, What}
use Rattle.control.proofs.Encoding.{add_or_list, add_or_remove, portless, rule_of}

-- the first address that is leased
abbrev guest : ℕ
guest = 0x0a00020f

abbrev ssh : Forward
ssh = record { proto = Tcp; host = endpoint 0x7f000001 5555; guest = endpoint guest 22 }

-- an address of a guest may be left out
added : Means guest (codes "add :127.0.0.1:5555-:22") (Add ssh)
unfolding address_text digits
added = record {
  rule = codes ":127.0.0.1:5555-:22";
  encoded = refl;
  is = inl (record {
    kind = [];
    outside = codes "127.0.0.1:5555";
    inside = codes ":22";
    encoded = refl;
    type = inl refl;
    host = record { before = codes "127.0.0.1"; behind = codes "5555"; encoded = refl; address = (refl, omega arith); port = (refl, omega arith) };
    guest = record { before = []; behind = codes "22"; encoded = refl; address = refl; port = (refl, omega arith) };
  });
  ports = refl;
}

taken_back : Means guest (codes "remove tcp 127.0.0.1:5555") (Remove Tcp ssh.host)
unfolding address_text endpoint_text digits
taken_back = record { text = codes "127.0.0.1:5555"; encoded = refl; is = (refl, (omega arith, omega arith)) }

datagrams : Means guest (codes "remove udp 0.0.0.0:53") (Remove Udp (endpoint 0 53))
unfolding address_text endpoint_text digits
datagrams = record { text = codes "0.0.0.0:53"; encoded = refl; is = (refl, (omega arith, omega arith)) }

listed : Means guest (codes "list") Lists
listed = refl

-- a line that begins otherwise asks for nothing
head : List ℕ → ℕ
head [] = 0
head (x ∷ xs) = x

removal_head : (line text : List ℕ) (proto : Proto) (host : Endpoint) → IsRemove line proto host → head line ≡ 114
unfolding head
removal_head line text Tcp host is = ap head is.encoded
removal_head line text Udp host is = ap head is.encoded

-- a carriage return more
returned : Means guest (codes "list" ++ 13 ∷ []) What
unfolding head
returned = record {
  no_add = λ f is. omega (arith, ap head is.encoded);
  no_remove = λ proto host is. omega (arith, removal_head _ [] proto host is);
  no_list = λ is. omega (arith, ap length is);
}

-- what begins with `add ` is no other command
add_alone : (line rule : List ℕ) → line ≡ codes "add " ++ rule → ((f : Forward) → ¬ IsAdd guest line f) → IsWhat guest line
add_alone line rule encoded none = record {
  no_add = none;
  no_remove = λ proto host is. add_or_remove line rule is.text proto encoded is.encoded;
  no_list = λ is. add_or_list line rule encoded is;
}

-- a RULE has two parts
short_is_none : (text : List ℕ) (f : Forward) → length text ≡ 1 → ¬ IsRule text guest f
short_is_none text f short (inl is) = omega (
  arith,
  short,
  ap length is.encoded,
  length-append is.kind (codes ":"),
  length-append (is.kind ++ codes ":") is.outside,
  length-append ((is.kind ++ codes ":") ++ is.outside) (codes "-"),
  length-append (((is.kind ++ codes ":") ++ is.outside) ++ codes "-") is.inside,
)
short_is_none text f short (inr is) = omega (arith, short, ap length is.1, length-append (codes "hostfwd=") is.0)

no_rule : Means guest (codes "add x") What
no_rule = add_alone _ (codes "x") refl (λ f is. short_is_none (codes "x") f refl (rule_of guest _ (codes "x") f refl is))

-- a port 0
portless_rule : Means guest (codes "add ::0-:22") What
unfolding digits
portless_rule = add_alone _ (codes "::0-:22") refl (portless guest _ (codes "::0-:22") (record { proto = Tcp; host = endpoint 0 0; guest = endpoint guest 22 }) refl
    (inl (record {
      kind = [];
      outside = codes ":0";
      inside = codes ":22";
      encoded = refl;
      type = inl refl;
      host = record { before = []; behind = codes "0"; encoded = refl; address = refl; port = (refl, omega arith) };
      guest = record { before = []; behind = codes "22"; encoded = refl; address = refl; port = (refl, omega arith) };
    }))
    refl)

-- a RULE of guests has no type that is one
no_type : (proto : Proto) → IsType (codes "guestfwd=") proto → ⊥
unfolding head
no_type Tcp (inl is) = omega (arith, ap length is)
no_type Tcp (inr is) = omega (arith, ap head is)
no_type Udp is = omega (arith, ap head is)

no_guests : (behind : List ℕ) (f : Forward) → ¬ IsRule (codes "guestfwd=" ++ 58 ∷ behind) guest f
unfolding head
no_guests behind f (inl is) =
    let kind = (forward_parts (codes "guestfwd=" ++ 58 ∷ behind) guest (codes "guestfwd=") behind refl refl f is).0 in
    no_type f.proto (subst (λ (t : List ℕ). IsType t f.proto) (sym kind) is.type)
no_guests behind f (inr is) = omega (arith, ap head is.1)

abbrev led : List ℕ
led = codes "guestfwd=:10.0.2.100:7-127.0.0.1:7007"

guests : Means guest (codes "add guestfwd=:10.0.2.100:7-127.0.0.1:7007") What
guests = add_alone _ led refl (λ f is. no_guests (codes "10.0.2.100:7-127.0.0.1:7007") f (rule_of guest _ led f refl is))
