-- RULEs of guests: what the parts of their texts are, and that each means one forward.
use Rattle.std.proofs.Common.{◌≡◌, inl, inr, ℕ, zero, suc, ◌<◌, ◌≤◌, true, false, leb, List, [], ◌∷◌, ◌++◌, length, take, codes, decimal}
use Rattle.std.proofs.Common.{refl, sym}
use Rattle.std.proofs.Common.{◌∙◌, ap, subst, arith, append_assoc, append-nil}
use Rattle.std.specs.List.{list_all}
use Rattle.std.proofs.lemmas.Bool.{cases_lt}
use Rattle.std.proofs.lemmas.Bool.Decides.{nat_tests}
use Rattle.std.proofs.lemmas.List.{length-take, take_all}
use Rattle.net_octets.specs.declared.Endpoint.{Endpoint}
use Rattle.slirp_settings.specs.declared.GuestFwd.{GuestFwd}
use Rattle.slirp_settings.specs.declared.Proto.TheVariants.{Tcp}
use Rattle.command_words.specs.Narrowing.{guest_portless, held_guests}
use Rattle.command_words.specs.Options.{Word}
use Rattle.address_text.specs.Rules.{AreGuestForwards, IsGuestForward, IsGuestRule}
use Rattle.address_text.specs.Texts.{IsEndpointText, is_other}
use Rattle.address_text.proofs.Parting.{is_digit, fit_append, fit_weaker, parts_once, decimal_digits, digit_is_no_dash}
use Rattle.address_text.proofs.Addresses.{address, address_fits, endpoint_form, same_endpoint}
use Rattle.command_words.proofs.Ruled.{type_fits}

no_dash : (text : List ℕ) (at : Endpoint) → IsEndpointText text at → list_all (is_other 45) text ≡ true
no_dash text at is =
    let front = address_fits (is_other 45) digit_is_no_dash refl at.addr.0 is.1.0 in
    let back = fit_weaker is_digit (is_other 45) digit_is_no_dash (decimal at.port) (decimal_digits at.port (omega (arith, is.1.1))) in
    subst (λ (t : List ℕ). list_all (is_other 45) t ≡ true) (sym (is.0 ∙ endpoint_form at)) (fit_append (is_other 45) (address at.addr.0) (58 ∷ decimal at.port) front back)

form : (kind inside outside : List ℕ) → (((kind ++ 58 ∷ []) ++ inside) ++ 45 ∷ []) ++ outside ≡ kind ++ 58 ∷ (inside ++ 45 ∷ outside)
form kind inside outside = simp append_assoc

pub encoded_guest : (text kind rest inside outside : List ℕ) → text ≡ kind ++ 58 ∷ rest → rest ≡ inside ++ 45 ∷ outside → text ≡ (((kind ++ 58 ∷ []) ++ inside) ++ 45 ∷ []) ++ outside
encoded_guest text kind rest inside outside one two = one ∙ ap (λ (t : List ℕ). kind ++ 58 ∷ t) two ∙ sym (form kind inside outside)

abbrev made_guest : Endpoint → Endpoint → GuestFwd
made_guest guest host = record { guest = guest; host = host }

module _ (text : List ℕ) where
  pub guest_form : (f : GuestFwd) (r : IsGuestForward text f) → text ≡ r.kind ++ 58 ∷ (r.inside ++ 45 ∷ r.outside)
  guest_form f r = r.encoded ∙ form r.kind r.inside r.outside

  pub guest_parts : (kind rest : List ℕ) → text ≡ kind ++ 58 ∷ rest → list_all (is_other 58) kind ≡ true → (f : GuestFwd) (r : IsGuestForward text f) → (kind ≡ r.kind) ×
      (rest ≡ r.inside ++ 45 ∷ r.outside)
  guest_parts kind rest split lacks f r = parts_once 58 (is_other 58) refl kind r.kind rest (r.inside ++ 45 ∷ r.outside) lacks (type_fits r.kind Tcp r.type) (sym split ∙ guest_form f r)

  pub guest_sides : (rest inside outside : List ℕ) → rest ≡ inside ++ 45 ∷ outside → list_all (is_other 45) inside ≡ true → (f : GuestFwd) (r : IsGuestForward text f) →
      rest ≡ r.inside ++ 45 ∷ r.outside → (inside ≡ r.inside) × (outside ≡ r.outside)
  guest_sides rest inside outside split lacks f r is = parts_once 45 (is_other 45) refl inside r.inside outside r.outside lacks (no_dash r.inside f.guest r.guest) (sym split ∙ is)

  same_forward : (f g : GuestFwd) → IsGuestForward text f → IsGuestForward text g → f ≡ g
  same_forward f g r q =
      let a = guest_parts r.kind (r.inside ++ 45 ∷ r.outside) (guest_form f r) (type_fits r.kind Tcp r.type) g q in
      let b = guest_sides (r.inside ++ 45 ∷ r.outside) r.inside r.outside refl (no_dash r.inside f.guest r.guest) g q a.1 in
      let guest = same_endpoint f.guest g.guest r.guest.1 q.guest.1 (sym r.guest.0 ∙ b.0 ∙ q.guest.0) in
      let host = same_endpoint f.host g.host r.host.1 q.host.1 (sym r.host.0 ∙ b.1 ∙ q.host.0) in
      ap (λ (x : Endpoint). made_guest x f.host) guest ∙ ap (λ (x : Endpoint). made_guest g.guest x) host

same_behind : (a b : List ℕ) → codes "guestfwd=" ++ a ≡ codes "guestfwd=" ++ b → a ≡ b
same_behind a b is = cc

same_rule : (text : List ℕ) (f g : GuestFwd) → IsGuestRule text f → IsGuestRule text g → f ≡ g
same_rule text f g r q = same_forward q.0 f g (subst (λ (t : List ℕ). IsGuestForward t f) (same_behind r.0 q.0 (sym r.1 ∙ q.1)) r.2) q.2

pub behind_refused : (text behind : List ℕ) → text ≡ codes "guestfwd=" ++ behind → ((f : GuestFwd) → ¬ IsGuestForward behind f) → (f : GuestFwd) → ¬ IsGuestRule text f
behind_refused text behind is none f r = none f (subst (λ (t : List ℕ). IsGuestForward t f) (same_behind r.0 behind (sym r.1 ∙ is)) r.2)

-- lists of them
pub same_guests : (rules : List Word) (fs gs : List GuestFwd) → AreGuestForwards rules fs → AreGuestForwards rules gs → fs ≡ gs
same_guests [] [] [] h g = refl
same_guests [] [] (y ∷ ys) h g = absurd g
same_guests [] (x ∷ xs) gs h g = absurd h
same_guests (rule ∷ rules) [] gs h g = absurd h
same_guests (rule ∷ rules) (x ∷ xs) [] h g = absurd g
same_guests (rule ∷ rules) (x ∷ xs) (y ∷ ys) h g = ap (λ (z : GuestFwd). z ∷ xs) (same_rule rule x y h.0 g.0) ∙ ap (λ (zs : List GuestFwd). y ∷ zs) (same_guests rules xs ys h.1 g.1)

as_many : (rules : List Word) (fs : List GuestFwd) → AreGuestForwards rules fs → length fs ≡ length rules
as_many [] [] h = refl
as_many [] (x ∷ xs) h = absurd h
as_many (rule ∷ rules) [] h = absurd h
as_many (rule ∷ rules) (x ∷ xs) h = ap suc (as_many rules xs h.1)

pub held_guests_none : (rules : List Word) (fs : List GuestFwd) → AreGuestForwards rules fs → 16 < length rules → guest_portless ∷ [] ≡ held_guests fs
held_guests_none rules fs are many =
    let over : 16 < length fs = omega (arith, many, as_many rules fs are) in
    let is : leb (length fs) 16 ≡ false = grind (arith, nat_tests, over) in
    rw is refl

pub held_guests_all : (rules : List Word) (fs held : List GuestFwd) → AreGuestForwards rules fs → length rules ≤ 16 → held ≡ take 16 fs → held ≡ held_guests fs
held_guests_all rules fs held are few is =
    let within : length fs ≤ 16 = omega (arith, few, as_many rules fs are) in
    let all : leb (length fs) 16 ≡ true = grind (arith, nat_tests, within) in
    is ∙ take_all 16 fs within ∙ rw all refl

-- the first of them
pub guests_front : (n : ℕ) (rules : List Word) (fs : List GuestFwd) → AreGuestForwards rules fs → AreGuestForwards (take n rules) (take n fs)
guests_front zero rules fs are = tt
guests_front (suc n) [] [] are = tt
guests_front (suc n) [] (f ∷ fs) are = absurd are
guests_front (suc n) (rule ∷ rules) [] are = absurd are
guests_front (suc n) (rule ∷ rules) (f ∷ fs) are = (are.0, guests_front n rules fs are.1)

-- Of more than 16 none is held, so what all of them mean is held as what the first mean.
pub whole_guests : (all front : List Word) (fs gs : List GuestFwd) → take 17 all ≡ front → AreGuestForwards front fs → AreGuestForwards all gs → held_guests fs ≡ held_guests gs
whole_guests all front fs gs is h g = elim (cases_lt 17 (length all)) [
  | inl more ↦
      let long : 16 < length front = omega (arith, more, ap length is, length-take 17 all) in
      sym (held_guests_none front fs h long) ∙ held_guests_none all gs g (omega (arith, more))
  | inr few ↦
      let same : front ≡ all = sym is ∙ take_all 17 all few in
      ap held_guests (same_guests all fs gs (subst (λ (w : List Word). AreGuestForwards w fs) same h) g)
]

-- what rules mean, whatever it is
pub record Guests (rules : List Word) : Type 0 where
  pub all : List GuestFwd
  pub are : AreGuestForwards rules all

-- What was read of rules, of which these are left: with what they mean it is what all mean, and the first 16 are held.
pub record HasLed (rules left : List Word) (held : List GuestFwd) : Type 0 where
  pub got : List GuestFwd
  pub kept : held ≡ take 16 got
  pub goes : (rest : List GuestFwd) → AreGuestForwards left rest → AreGuestForwards rules (got ++ rest)
  pub leaves : (all : List GuestFwd) → AreGuestForwards rules all → Guests left

pub none_led : (rules : List Word) (held : List GuestFwd) → held ≡ [] → HasLed rules rules held
none_led rules held none = record { got = []; kept = none; goes = λ rest are. are; leaves = λ all are. record { all = all; are = are } }

module _ (rules left : List Word) (rule : Word) where
  some_left : Guests (rule ∷ left) → ((f : GuestFwd) × IsGuestRule rule f) × Guests left
  some_left l = by_cases l.all l.are
    where
      by_cases : (fs : List GuestFwd) → AreGuestForwards (rule ∷ left) fs → ((f : GuestFwd) × IsGuestRule rule f) × Guests left
      by_cases [] are = absurd are
      by_cases (x ∷ xs) are = ((x, are.0), record { all = xs; are = are.1 })

  pub lead_on : (held new : List GuestFwd) (f : GuestFwd) → HasLed rules (rule ∷ left) held → IsGuestRule rule f
      → ((all : List GuestFwd) → held ≡ take 16 all → new ≡ take 16 (all ++ f ∷ [])) → HasLed rules left new
  lead_on held new f h is put = record {
    got = h.got ++ f ∷ [];
    kept = put h.got h.kept;
    goes = λ rest are. subst (λ (t : List GuestFwd). AreGuestForwards rules t) (sym (append_assoc h.got (f ∷ []) rest)) (h.goes (f ∷ rest) (is, are));
    leaves = λ all are. (some_left (h.leaves all are)).1;
  }

  pub lead_none : (held : List GuestFwd) → HasLed rules (rule ∷ left) held → ((f : GuestFwd) → ¬ IsGuestRule rule f) → (all : List GuestFwd) → ¬ AreGuestForwards rules all
  lead_none held h none all are = let one = (some_left (h.leaves all are)).0 in none one.0 one.1

pub lead_all : (rules : List Word) (held : List GuestFwd) → HasLed rules [] held → (all : List GuestFwd) × AreGuestForwards rules all × (held ≡ take 16 all)
lead_all rules held h = (h.got, subst (λ (t : List GuestFwd). AreGuestForwards rules t) (append-nil h.got) (h.goes [] tt), h.kept)
