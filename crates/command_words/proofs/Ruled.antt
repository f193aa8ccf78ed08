-- RULEs: what the parts of their texts are, and that each means one forward.
use Rattle.std.proofs.Common.{◌≡◌, ◌≢◌, inl, inr, ℕ, suc, ◌+◌, ◌<◌, ◌≤◌, Bool, true, false, leb, List, [], ◌∷◌, ◌++◌, length, map, take, drop, get_or, codes, decimal, refl, sym, ◌∙◌, ap}
use Rattle.std.proofs.Common.{subst, arith, append_assoc, append-nil, drop-cons, add-one}
use denote.Ref.{Bor}
use Rattle.std.specs.List.{list_all}
use Rattle.std.proofs.lemmas.Bool.Decides.{nat_tests}
use Rattle.std.proofs.lemmas.Fmt.{decimal_injective}
use Rattle.std.proofs.lemmas.List.{take_all, drop_all}
use Rattle.net_octets.specs.declared.Endpoint.{Endpoint}
use Rattle.slirp_settings.specs.declared.Forward.{Forward}
use Rattle.slirp_settings.specs.declared.Proto.{Proto}
use Rattle.slirp_settings.specs.declared.Proto.TheVariants.{Tcp, Udp}
use Rattle.command_words.specs.Narrowing.{portless, held_forwards}
use Rattle.command_words.specs.Options.{Word}
use Rattle.address_text.specs.Rules.{IsAddressOr, IsPortAt, IsType, IsForward, IsRule, AreForwards}
use Rattle.address_text.specs.Texts.{is_other}
use Rattle.address_text.proofs.Parting.{is_digit, fit_append, fit_weaker, parts_once, decimal_digits, digit_is_no_dash, digit_is_no_colon}
use Rattle.address_text.proofs.Addresses.{address_form, address_fits, same_address, made_of}

-- an address that may be left out has digits and dots alone
address_or_fits : (p : ℕ → Bool) → ((c : ℕ) → is_digit c ≡ true → p c ≡ true) → p 46 ≡ true → (usual : ℕ) (text : List ℕ) (a : ℕ) → IsAddressOr usual text a → list_all p text ≡ true
address_or_fits p digits dot usual [] a is = refl
address_or_fits p digits dot usual (c ∷ cs) a is = subst (λ (t : List ℕ). list_all p t ≡ true) (sym (is.0 ∙ address_form a)) (address_fits p digits dot a is.1)

same_address_or : (usual : ℕ) (text : List ℕ) (a b : ℕ) → IsAddressOr usual text a → IsAddressOr usual text b → a ≡ b
same_address_or usual [] a b h g = h ∙ sym g
same_address_or usual (c ∷ cs) a b h g = same_address a b h.1 g.1 (sym h.0 ∙ g.0)

-- a port at an address that may be left out
module _ (usual : ℕ) (text : List ℕ) where
  pub port_form : (at : Endpoint) (p : IsPortAt usual text at) → text ≡ p.before ++ 58 ∷ p.behind
  port_form at p = p.encoded ∙ append_assoc p.before (58 ∷ []) p.behind

  no_colon : (at : Endpoint) (p : IsPortAt usual text at) → list_all (is_other 58) p.before ≡ true
  no_colon at p = address_or_fits (is_other 58) digit_is_no_colon refl usual p.before at.addr.0 p.address

  no_dash : (at : Endpoint) → IsPortAt usual text at → list_all (is_other 45) text ≡ true
  no_dash at p =
      let front = address_or_fits (is_other 45) digit_is_no_dash refl usual p.before at.addr.0 p.address in
      let digits = fit_weaker is_digit (is_other 45) digit_is_no_dash (decimal at.port) (decimal_digits at.port (omega (arith, p.port.1))) in
      let back : list_all (is_other 45) p.behind ≡ true = subst (λ (t : List ℕ). list_all (is_other 45) t ≡ true) (sym p.port.0) digits in
      subst (λ (t : List ℕ). list_all (is_other 45) t ≡ true) (sym (port_form at p)) (fit_append (is_other 45) p.before (58 ∷ p.behind) front back)

  pub port_parts : (first last : List ℕ) → text ≡ first ++ 58 ∷ last → list_all (is_other 58) first ≡ true → (at : Endpoint) (p : IsPortAt usual text at) → (first ≡ p.before) × (last ≡ p.behind)
  port_parts first last split lacks at p = parts_once 58 (is_other 58) refl first p.before last p.behind lacks (no_colon at p) (sym split ∙ port_form at p)

  same_port_at : (e f : Endpoint) → IsPortAt usual text e → IsPortAt usual text f → e ≡ f
  same_port_at e f h g =
      let parts = port_parts h.before h.behind (port_form e h) (no_colon e h) f g in
      let address = same_address_or usual g.before e.addr.0 f.addr.0 (subst (λ (t : List ℕ). IsAddressOr usual t e.addr.0) parts.0 h.address) g.address in
      let port = decimal_injective e.port f.port (omega (arith, h.port.1)) (omega (arith, g.port.1)) (sym h.port.0 ∙ parts.1 ∙ g.port.0) in
      ap (λ (n : ℕ). made_of n e.port) address ∙ ap (λ (n : ℕ). made_of f.addr.0 n) port

-- types
first : List ℕ → ℕ
first [] = 0
first (x ∷ xs) = x

pub type_fits : (kind : List ℕ) (proto : Proto) → IsType kind proto → list_all (is_other 58) kind ≡ true
type_fits kind Tcp (inl is) = subst (λ (t : List ℕ). list_all (is_other 58) t ≡ true) (sym is) refl
type_fits kind Tcp (inr is) = subst (λ (t : List ℕ). list_all (is_other 58) t ≡ true) (sym is) refl
type_fits kind Udp is = subst (λ (t : List ℕ). list_all (is_other 58) t ≡ true) (sym is) refl

two_types : (kind : List ℕ) → IsType kind Tcp → IsType kind Udp → ⊥
unfolding first
two_types kind (inl is) udp = omega (arith, ap first (sym is ∙ udp))
two_types kind (inr is) udp = omega (arith, ap first (sym is ∙ udp))

same_type : (kind : List ℕ) (p q : Proto) → IsType kind p → IsType kind q → p ≡ q
same_type kind Tcp Tcp h g = refl
same_type kind Udp Udp h g = refl
same_type kind Tcp Udp h g = absurd (two_types kind h g)
same_type kind Udp Tcp h g = absurd (two_types kind g h)

-- the two sides
form : (kind outside inside : List ℕ) → (((kind ++ 58 ∷ []) ++ outside) ++ 45 ∷ []) ++ inside ≡ kind ++ 58 ∷ (outside ++ 45 ∷ inside)
form kind outside inside = simp append_assoc

pub encoded_forward : (text kind rest outside inside : List ℕ) → text ≡ kind ++ 58 ∷ rest → rest ≡ outside ++ 45 ∷ inside → text ≡ (((kind ++ 58 ∷ []) ++ outside) ++ 45 ∷ []) ++ inside
encoded_forward text kind rest outside inside one two = one ∙ ap (λ (t : List ℕ). kind ++ 58 ∷ t) two ∙ sym (form kind outside inside)

abbrev made_forward : Proto → Endpoint → Endpoint → Forward
made_forward proto host guest = record { proto = proto; host = host; guest = guest }

module _ (text : List ℕ) (dhcp_start : ℕ) where
  pub forward_form : (f : Forward) (r : IsForward text dhcp_start f) → text ≡ r.kind ++ 58 ∷ (r.outside ++ 45 ∷ r.inside)
  forward_form f r = r.encoded ∙ form r.kind r.outside r.inside

  pub forward_parts : (kind rest : List ℕ) → text ≡ kind ++ 58 ∷ rest → list_all (is_other 58) kind ≡ true → (f : Forward) (r : IsForward text dhcp_start f) → (kind ≡ r.kind) ×
      (rest ≡ r.outside ++ 45 ∷ r.inside)
  forward_parts kind rest split lacks f r = parts_once 58 (is_other 58) refl kind r.kind rest (r.outside ++ 45 ∷ r.inside) lacks (type_fits r.kind f.proto r.type) (sym split ∙ forward_form f r)

  pub side_parts : (rest outside inside : List ℕ) → rest ≡ outside ++ 45 ∷ inside → list_all (is_other 45) outside ≡ true → (f : Forward) (r : IsForward text dhcp_start f) →
      rest ≡ r.outside ++ 45 ∷ r.inside → (outside ≡ r.outside) × (inside ≡ r.inside)
  side_parts rest outside inside split lacks f r is = parts_once 45 (is_other 45) refl outside r.outside inside r.inside lacks (no_dash 0 r.outside f.host r.host) (sym split ∙ is)

  same_forward : (f g : Forward) → IsForward text dhcp_start f → IsForward text dhcp_start g → f ≡ g
  same_forward f g r q =
      let a = forward_parts r.kind (r.outside ++ 45 ∷ r.inside) (forward_form f r) (type_fits r.kind f.proto r.type) g q in
      let b = side_parts (r.outside ++ 45 ∷ r.inside) r.outside r.inside refl (no_dash 0 r.outside f.host r.host) g q a.1 in
      let proto = same_type q.kind f.proto g.proto (subst (λ (t : List ℕ). IsType t f.proto) a.0 r.type) q.type in
      let host = same_port_at 0 q.outside f.host g.host (subst (λ (t : List ℕ). IsPortAt 0 t f.host) b.0 r.host) q.host in
      let guest = same_port_at dhcp_start q.inside f.guest g.guest (subst (λ (t : List ℕ). IsPortAt dhcp_start t f.guest) b.1 r.guest) q.guest in
      ap (λ (x : Proto). made_forward x f.host f.guest) proto ∙ ap (λ (x : Endpoint). made_forward g.proto x f.guest) host ∙ ap (λ (x : Endpoint). made_forward g.proto g.host x) guest

-- what begins with `hostfwd=` begins with no type
no_type : (kind rest behind : List ℕ) (proto : Proto) → IsType kind proto → codes "hostfwd=" ++ behind ≡ kind ++ 58 ∷ rest → ⊥
unfolding first
no_type kind rest behind Tcp (inl is) encoded = omega (arith, ap first (encoded ∙ ap (λ (t : List ℕ). t ++ 58 ∷ rest) is))
no_type kind rest behind Tcp (inr is) encoded = omega (arith, ap first (encoded ∙ ap (λ (t : List ℕ). t ++ 58 ∷ rest) is))
no_type kind rest behind Udp is encoded = omega (arith, ap first (encoded ∙ ap (λ (t : List ℕ). t ++ 58 ∷ rest) is))

not_bare : (text behind : List ℕ) (dhcp_start : ℕ) (f : Forward) → text ≡ codes "hostfwd=" ++ behind → IsForward text dhcp_start f → ⊥
not_bare text behind dhcp_start f is r = no_type r.kind (r.outside ++ 45 ∷ r.inside) behind f.proto r.type (sym is ∙ forward_form text dhcp_start f r)

same_behind : (a b : List ℕ) → codes "hostfwd=" ++ a ≡ codes "hostfwd=" ++ b → a ≡ b
same_behind a b is = cc

pub same_rule : (text : List ℕ) (dhcp_start : ℕ) (f g : Forward) → IsRule text dhcp_start f → IsRule text dhcp_start g → f ≡ g
same_rule text dhcp_start f g (inl r) (inl q) = same_forward text dhcp_start f g r q
same_rule text dhcp_start f g (inl r) (inr q) = absurd (not_bare text q.0 dhcp_start f q.1 r)
same_rule text dhcp_start f g (inr r) (inl q) = absurd (not_bare text r.0 dhcp_start g r.1 q)
same_rule text dhcp_start f g (inr r) (inr q) = same_forward q.0 dhcp_start f g (subst (λ (t : List ℕ). IsForward t dhcp_start f) (same_behind r.0 q.0 (sym r.1 ∙ q.1)) r.2) q.2

-- a rule that begins with `hostfwd=` is what stands behind it; one that doesn't is one by itself
pub behind_refused : (text behind : List ℕ) (dhcp_start : ℕ) → text ≡ codes "hostfwd=" ++ behind → ((f : Forward) → ¬ IsForward behind dhcp_start f) → (f : Forward) → ¬ IsRule text dhcp_start f
behind_refused text behind dhcp_start is none f (inl r) = not_bare text behind dhcp_start f is r
behind_refused text behind dhcp_start is none f (inr r) = none f (subst (λ (t : List ℕ). IsForward t dhcp_start f) (same_behind r.0 behind (sym r.1 ∙ is)) r.2)

pub bare_refused : (text : List ℕ) (dhcp_start : ℕ) → ((behind : List ℕ) → text ≢ codes "hostfwd=" ++ behind) → ((f : Forward) → ¬ IsForward text dhcp_start f) → (f : Forward) →
    ¬ IsRule text dhcp_start f
bare_refused text dhcp_start other none f (inl r) = none f r
bare_refused text dhcp_start other none f (inr r) = other r.0 r.1

-- lists of rules
pub same_forwards : (rules : List Word) (dhcp_start : ℕ) (fs gs : List Forward) → AreForwards rules dhcp_start fs → AreForwards rules dhcp_start gs → fs ≡ gs
same_forwards [] dhcp_start [] [] h g = refl
same_forwards [] dhcp_start [] (y ∷ ys) h g = absurd g
same_forwards [] dhcp_start (x ∷ xs) gs h g = absurd h
same_forwards (rule ∷ rules) dhcp_start [] gs h g = absurd h
same_forwards (rule ∷ rules) dhcp_start (x ∷ xs) [] h g = absurd g
same_forwards (rule ∷ rules) dhcp_start (x ∷ xs) (y ∷ ys) h g =
    ap (λ (z : Forward). z ∷ xs) (same_rule rule dhcp_start x y h.0 g.0) ∙ ap (λ (zs : List Forward). y ∷ zs) (same_forwards rules dhcp_start xs ys h.1 g.1)

pub as_many : (rules : List Word) (dhcp_start : ℕ) (fs : List Forward) → AreForwards rules dhcp_start fs → length fs ≡ length rules
as_many [] dhcp_start [] h = refl
as_many [] dhcp_start (x ∷ xs) h = absurd h
as_many (rule ∷ rules) dhcp_start [] h = absurd h
as_many (rule ∷ rules) dhcp_start (x ∷ xs) h = ap suc (as_many rules dhcp_start xs h.1)

-- what rules mean, whatever it is
pub record Forwards (rules : List Word) (dhcp_start : ℕ) : Type 0 where
  pub all : List Forward
  pub are : AreForwards rules dhcp_start all

-- What was read of rules, of which these are left: with what they mean it is what all mean, and the first 32 are held.
pub record HasRead (rules left : List Word) (dhcp_start : ℕ) (held : List Forward) : Type 0 where
  pub got : List Forward
  pub kept : held ≡ take 32 got
  pub goes : (rest : List Forward) → AreForwards left dhcp_start rest → AreForwards rules dhcp_start (got ++ rest)
  pub leaves : (all : List Forward) → AreForwards rules dhcp_start all → Forwards left dhcp_start

module _ (rules left : List Word) (rule : Word) (dhcp_start : ℕ) where
  some_left : Forwards (rule ∷ left) dhcp_start → ((f : Forward) × IsRule rule dhcp_start f) × Forwards left dhcp_start
  some_left l = by_cases l.all l.are
    where
      by_cases : (fs : List Forward) → AreForwards (rule ∷ left) dhcp_start fs → ((f : Forward) × IsRule rule dhcp_start f) × Forwards left dhcp_start
      by_cases [] are = absurd are
      by_cases (x ∷ xs) are = ((x, are.0), record { all = xs; are = are.1 })

  -- one more was read
  pub read_on : (held new : List Forward) (f : Forward) → HasRead rules (rule ∷ left) dhcp_start held → IsRule rule dhcp_start f
      → ((all : List Forward) → held ≡ take 32 all → new ≡ take 32 (all ++ f ∷ [])) → HasRead rules left dhcp_start new
  read_on held new f h is put = record {
    got = h.got ++ f ∷ [];
    kept = put h.got h.kept;
    goes = λ rest are. subst (λ (t : List Forward). AreForwards rules dhcp_start t) (sym (append_assoc h.got (f ∷ []) rest)) (h.goes (f ∷ rest) (is, are));
    leaves = λ all are. (some_left (h.leaves all are)).1;
  }

  -- one can't be read
  pub read_none : (held : List Forward) → HasRead rules (rule ∷ left) dhcp_start held → ((f : Forward) → ¬ IsRule rule dhcp_start f) → (all : List Forward) → ¬ AreForwards rules dhcp_start all
  read_none held h none all are = let one = (some_left (h.leaves all are)).0 in none one.0 one.1

pub read_all : (rules : List Word) (dhcp_start : ℕ) (held : List Forward) → HasRead rules [] dhcp_start held → (all : List Forward) × AreForwards rules dhcp_start all × (held ≡ take 32 all)
read_all rules dhcp_start held h = (h.got, subst (λ (t : List Forward). AreForwards rules dhcp_start t) (append-nil h.got) (h.goes [] tt), h.kept)

-- the words of rules, one by one
abbrev pub rule_words : List (Bor Word) → List Word
rule_words rules = map (λ rule. rule.now) rules

pub next_rule : (rules : List (Bor Word)) (i : ℕ) (d : Bor Word) → i < length rules → rule_words (drop i rules) ≡ (get_or rules i d).now ∷ rule_words (drop (i + 1) rules)
next_rule rules i d within = ap rule_words (drop-cons rules i d within ∙ ap (λ (n : ℕ). get_or rules i d ∷ drop n rules) (sym (add-one i)))

pub no_rule : (rules : List (Bor Word)) (i : ℕ) → length rules ≤ i → rule_words (drop i rules) ≡ []
no_rule rules i past = ap rule_words (drop_all i rules past)

-- what is held of what was read
pub held_all : (rules : List Word) (dhcp_start : ℕ) (all held : List Forward) → AreForwards rules dhcp_start all → length rules ≤ 32 → held ≡ take 32 all → held ≡ held_forwards all
held_all rules dhcp_start all held are few is =
    let short : length all ≤ 32 = omega (arith, as_many rules dhcp_start all are, few) in
    let test : leb (length all) 32 ≡ true = grind (arith, nat_tests, short) in
    rw test (is ∙ take_all 32 all short)

pub held_none : (rules : List Word) (dhcp_start : ℕ) (all : List Forward) → AreForwards rules dhcp_start all → 32 < length rules → portless ∷ [] ≡ held_forwards all
held_none rules dhcp_start all are many =
    let long : 32 < length all = omega (arith, as_many rules dhcp_start all are, many) in
    let test : leb (length all) 32 ≡ false = grind (arith, nat_tests, long) in
    rw test refl
